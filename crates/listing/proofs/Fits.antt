-- What a piece makes fits a run of `most_text`: so many records as it can make whole at 76 octets each, and 216. The end fits 216.
-- Assumes nothing.
use Rattle.std.proofs.Common.{◌≡◌, ℕ, suc, ◌+◌, ◌*◌, ◌/◌, ◌%◌, ◌≤◌, true, false, cond, ◌&&◌, eqb, ltb, List, [], ◌∷◌, ◌++◌, length, take, ◌∙◌, arith, length-append, eqb-true}
use Rattle.runs.proofs.Laws.{split}
use Rattle.cell_log.specs.Records.{header_of}
use Rattle.receiver.specs.declared.Received.{Received}
use Rattle.reading.specs.Records.{front_of}
use Rattle.pieces.specs.declared.Standing.{Standing}
use Rattle.pieces.specs.Limit.{Part, head, whole, refused, broken, done, end_part}
use Rattle.pieces.specs.Steps.{held_count, taking_of}
use Rattle.pieces.specs.Taken.{Taking, in_header, in_record, one, handed, end_parts}
use Rattle.text.specs.declared.Put.{Put}
use Rattle.listing.specs.declared.Listing.{Listing}
use Rattle.listing.specs.declared.Printed.{Printed}
use Rattle.listing.specs.declared.Tally.{Tally}
use Rattle.listing.specs.Lines.{format_line, broken_line, end_line, log_refused_line}
use Rattle.listing.specs.List.{line_of}
use Rattle.listing.specs.Taking.{judged_whole, end_text, part_text, text_of, tally_of, piece_text, end_of_text, most_text, Takes, Ends}
use Rattle.text.specs.Text.{item}
use Rattle.text.specs.Words.{words}
use Rattle.text.proofs.Short.{take_to, with_words, one_item, three_short, two_short, listed_whole}
use Rattle.listing.proofs.Texts.{text_joined}

line_short : (index : ℕ) (got : Received) → length (line_of index got) ≤ 76
unfolding line_of
line_short index got =
    split (eqb got.refusal 0)
    (λ e. rw e (three_short (words "") (words " sound ") (words " number ") (words "\n") index got.missing
    got.number {i = 0} {j = 7} {k = 8} {l = 1} (omega arith) (omega arith) (omega arith) (omega arith)))
    (λ e. rw e (omega (
      arith,
      two_short (words "") (words " refused ") (words "\n") index got.refusal {i = 0} {j = 9} {l = 1} (omega arith)
          (omega arith) (omega arith),
    )))

end_short : (t : Tally) (fault : ℕ) → length (end_text t fault) ≤ 140
unfolding end_text
end_short t fault =
    let end = three_short (words "end ") (words " sound ") (words " missing ") (words " refused\n") t.sound t.missing
    t.refused {i = 4} {j = 7} {k = 9} {l = 9} (omega arith) (omega arith) (omega arith) (omega arith) in
    let broken' = two_short (words "") (words " broken ") (words "\n") t.records fault {i = 0} {j = 8} {l = 1} (omega arith) (omega arith) (omega arith) in
    split (eqb fault 0)
    (λ e. rw e (omega (arith, end)))
    (λ e. rw e (omega (arith, with_words (broken_line t.records fault) (end_line t.sound t.missing t.refused) broken' end)))

refused_short : (refusal : ℕ) → length (log_refused_line refusal) ≤ 33
refused_short refusal =
    with_words (item (words "log refused ") refusal) (words "\n") {a = 32} {b = 1}
    (one_item (words "log refused ") refusal {b = 12} (omega arith)) (omega arith)

format_short : (octet channels order : ℕ) → length (format_line octet channels order) ≤ 70
format_short octet channels order =
    three_short (words "format ") (words " ") (words " ") (words "\n") octet channels order {i = 7} {j = 1} {k = 1} {l = 1}
    (omega arith) (omega arith) (omega arith) (omega arith)

-- one part
one_short : (t : Tally) (p : Part) {most : ℕ} → length (part_text t p) ≤ most → length (text_of t (p ∷ [])) ≤ most
unfolding text_of
one_short t p h = rw (length-append (part_text t p) []) (omega arith)

head_short : (t : Tally) (octets : List ℕ) → length (text_of t (head (header_of octets) ∷ [])) ≤ 70
unfolding part_text
head_short t octets = one_short t (head (header_of octets)) (format_short (header_of octets).format (header_of octets).channels (header_of octets).order)

whole_short : (t : Tally) (octets : List ℕ) → length (text_of t (whole (front_of octets) ∷ [])) ≤ 76
unfolding part_text
whole_short t octets = one_short t (whole (front_of octets)) (line_short t.records (judged_whole t.state (front_of octets)))

refused_part : (t : Tally) (refusal : ℕ) → length (text_of t (refused refusal ∷ [])) ≤ 33
unfolding part_text
refused_part t refusal = one_short t (refused refusal) (refused_short refusal)

broken_part : (t : Tally) (refusal : ℕ) → length (text_of t (broken refusal ∷ [])) ≤ 140
unfolding part_text
broken_part t refusal = one_short t (broken refusal) (end_short t refusal)

done_part : (t : Tally) → length (text_of t (done ∷ [])) ≤ 140
unfolding part_text
done_part t = one_short t done (end_short t 0)

-- how long the text of so many octets can be where a log stands
most_text_lem : Taking → ℕ → ℕ
most_text_lem t n =
    cond (eqb t.stage 0) (76 * (n / 49) + 216)
    (cond (eqb t.stage 1) (76 * ((length t.part + n) / 49) + 140) 0)

-- an octet's text, and what can come behind it
octet_text : (t : Tally) (k : Taking) (x n : ℕ) → length (text_of t (one k x).parts) + most_text_lem (one k x).taking n ≤ most_text_lem k (suc n)
unfolding one in_header in_record most_text_lem text_of
octet_text t k x n =
    let longer : List ℕ = k.part ++ (x ∷ []) in
    let more : length longer ≡ suc (length k.part) = length-append k.part (x ∷ []) ∙ omega arith in
    split (eqb k.stage 0)
    (λ a.
    split (eqb (length longer) 3 && eqb (header_of longer).refusal 0)
    (λ b. rw (a, b) (omega (arith, head_short t longer)))
    (λ b. split (eqb (length longer) 9)
    (λ e. rw (a, b, e) (omega (arith, refused_part t (header_of longer).refusal)))
    (λ e. rw (a, b, e) (omega arith))))
    (λ a.
    split (eqb k.stage 1)
    (λ o.
    split (eqb k.left 0)
    (λ l. rw (a, o, l) (omega (arith, broken_part t 13)))
    (λ l. split (eqb (length k.part) 0 && ltb 1 x)
    (λ b. rw (a, o, l, b) (omega (arith, broken_part t 11)))
    (λ b. split (eqb (length k.part) 48)
    (λ e. rw (a, o, l, b, e) (omega (arith, whole_short t longer, eqb-true (length k.part) 48 e)))
    (λ e. rw (a, o, l, b, e, more) (omega arith)))))
    (λ o. rw (a, o, a, o) (omega arith)))

text_short : (t : Tally) (k : Taking) (octets : List ℕ) → length (text_of t (handed k octets)) ≤ most_text_lem k (length octets)
unfolding handed text_of
text_short t k [] = omega arith
text_short t k (x ∷ octets) =
    rw (
      text_joined t (one k x).parts (handed (one k x).taking octets),
      length-append (text_of t (one k x).parts) (text_of (tally_of t (one k x).parts) (handed (one k x).taking octets)),
    )
    (omega (arith, octet_text t k x (length octets), text_short (tally_of t (one k x).parts) (one k x).taking octets))

-- by the stage
module _ (s : Standing) (held : List ℕ) (n : ℕ) where
  most_in_header : eqb s.stage 0 ≡ true → most_text_lem (taking_of s held) n ≡ 76 * (n / 49) + 216
  unfolding most_text_lem taking_of
  most_in_header a = rw a

  module _ (a : eqb s.stage 0 ≡ false) where
    most_in_record : eqb s.stage 1 ≡ true → most_text_lem (taking_of s held) n ≡ 76 * ((length (take (s.count % 49) held) + n) / 49) + 140
    unfolding most_text_lem taking_of held_count
    most_in_record b = rw (a, b)

    most_behind_fault : eqb s.stage 1 ≡ false → most_text_lem (taking_of s held) n ≡ 0
    unfolding most_text_lem taking_of
    most_behind_fault b = rw (a, b)

module _ (l : Listing) (held : List ℕ) where
  pub piece_fits : (piece : List ℕ) → length (piece_text l held piece) ≤ most_text (length piece)
  piece_fits piece =
      let short = text_short l.tally (taking_of l.standing held) piece in
      split (eqb l.standing.stage 0)
      (λ a. omega (arith, short, most_in_header l.standing held (length piece) a))
      (λ a.
      split (eqb l.standing.stage 1)
      (λ b.
      omega (
        arith,
        short,
        most_in_record l.standing held (length piece) a b,
        take_to (l.standing.count % 49) held,
      ))
      (λ b. omega (arith, short, most_behind_fault l.standing held (length piece) a b)))

  pub end_fits : length (end_of_text l held) ≤ 216
  unfolding end_parts end_part taking_of text_of
  end_fits =
      split (eqb l.standing.stage 0)
      (λ a. rw a (omega (arith, refused_part l.tally (header_of (taking_of l.standing held).part).refusal)))
      (λ a.
      split (eqb l.standing.stage 1)
      (λ b.
      split (ltb 0 (length (taking_of l.standing held).part))
      (λ e. rw (a, b, e) (omega (arith, broken_part l.tally 12)))
      (λ e. rw (a, b, e) (omega (arith, done_part l.tally))))
      (λ b. rw (a, b) (omega arith)))

-- so a run of that many octets holds all of it
pub takes_whole : {l : Listing} {held piece run held_after run-after : List ℕ} {answer : Printed} → Takes l held piece run answer held_after run-after
    → most_text (length piece) ≤ length run → (answer.listed.whole ≡ true) × (answer.listed.octets ≤ length run)
takes_whole {l} {held} {piece} {run} takes room =
    listed_whole (piece_text l held piece) run (most_text (length piece)) (piece_fits l held piece) room takes.printed

pub ends_whole : {l : Listing} {held run run-after : List ℕ} {answer : Put} → Ends l held run answer run-after → 216 ≤ length run
    → (answer.whole ≡ true) × (answer.octets ≤ length run)
ends_whole {l} {held} {run} ends room = listed_whole (end_of_text l held) run 216 (end_fits l held) room ends.printed
