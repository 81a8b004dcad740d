-- What a piece makes fits two runs of `most_out` and `most_notes`: 49 octets or a line of at most 50 for each record that it can make
-- whole, and the header. The last line fits 216.
-- Assumes nothing.
use Rattle.std.proofs.Common.{◌≡◌, ℕ, suc, ◌+◌, ◌-◌, ◌*◌, ◌/◌, ◌%◌, ◌≤◌, true, cond, ◌&&◌, eqb, ltb, List, [], ◌∷◌, ◌++◌, length, take, drop, ◌∙◌, mul-le-mul_right, arith, length-append, eqb-true}
use Rattle.runs.proofs.Laws.{split}
use Rattle.cell_log.specs.Records.{header_of, cell_at}
use Rattle.cell_log.proofs.Places.{record_cases}
use Rattle.reading.specs.Records.{front_of}
use Rattle.pieces.specs.declared.Standing.{Standing}
use Rattle.pieces.specs.Limit.{Part, whole}
use Rattle.pieces.specs.Steps.{held_count, taking_of}
use Rattle.pieces.specs.Taken.{Taking, in_header, in_record, one, handed}
use Rattle.text.specs.declared.Put.{Put}
use Rattle.text.specs.Text.{item}
use Rattle.text.specs.Words.{words}
use Rattle.text.proofs.Short.{take_to, one_item, with_words, two_short, three_short, listed_whole}
use Rattle.salvaging.specs.declared.Salvaging.{Salvaging}
use Rattle.salvaging.specs.declared.Tally.{Tally}
use Rattle.salvaging.specs.declared.Wrote.{Wrote}
use Rattle.salvaging.specs.Taking.{
  judged_whole,
  part_octets,
  part_text,
  octets_by,
  text_by,
  tally_by,
  piece_octets,
  piece_text,
  most_out,
  most_notes,
  last_text,
  end_tally,
  end_of_text,
  Takes,
  Ends,
}
use Rattle.salvaging.proofs.Texts.{octets_joined, text_joined}

-- a cell that is read has at most 48 octets
cell_short : (octets : List ℕ) → length (cell_at octets 0) ≤ 48
unfolding cell_at
cell_short octets =
    record_cases octets 0 (λ r. length (take (r.what * 48) (drop r.start octets)) ≤ 48)
    (λ h. omega (arith, take_to (0 * 48) (drop 0 octets)))
    (λ h l. omega (arith, take_to (0 * 48) (drop 0 octets)))
    (λ h l k. omega (arith, take_to (0 * 48) (drop 0 octets)))
    (λ l k. omega (arith, take_to (1 * 48) (drop 1 octets)))

-- what one part makes
one_long : (t : Tally) (p : Part) {most : ℕ} → length (part_octets t p) ≤ most → length (octets_by t (p ∷ [])) ≤ most
unfolding octets_by
one_long t p h = rw (length-append (part_octets t p) []) (omega arith)

one_short : (t : Tally) (p : Part) {most : ℕ} → length (part_text t p) ≤ most → length (text_by t (p ∷ [])) ≤ most
unfolding text_by
one_short t p h = rw (length-append (part_text t p) []) (omega arith)

whole_octets : (t : Tally) (octets : List ℕ) → length (octets_by t (whole (front_of octets) ∷ [])) ≤ 49
unfolding part_octets front_of
whole_octets t octets =
    one_long t (whole (front_of octets))
    (split (eqb (judged_whole t.state (front_of octets)).refusal 0)
    (λ e. rw e (omega (arith, cell_short octets)))
    (λ e. rw e (omega arith)))

whole_text : (t : Tally) (octets : List ℕ) → length (text_by t (whole (front_of octets) ∷ [])) ≤ 50
unfolding part_text
whole_text t octets =
    one_short t (whole (front_of octets))
    (split (eqb (judged_whole t.state (front_of octets)).refusal 0)
    (λ e. rw e (omega arith))
    (λ e. rw e
    (two_short (words "") (words " refused ") (words "\n") _ _ {i = 0} {j = 9} {l = 1} (omega arith) (omega arith) (omega arith))))

-- no more than so many where a log stands: `each` for a record, and `first` for the header
most : ℕ → ℕ → Taking → ℕ → ℕ
most each first t n =
    cond (eqb t.stage 0) (each * (n / 49) + first)
    (cond (eqb t.stage 1) (each * ((length t.part + n) / 49)) 0)

-- an octet's share of both runs, and what can come behind it
octet_both : (t : Tally) (k : Taking) (x n : ℕ)
    → (length (octets_by t (one k x).parts) + most 49 3 (one k x).taking n ≤ most 49 3 k (suc n))
    × (length (text_by t (one k x).parts) + most 50 0 (one k x).taking n ≤ most 50 0 k (suc n))
unfolding one in_header in_record most octets_by text_by part_octets part_text
octet_both t k x n =
    let longer : List ℕ = k.part ++ (x ∷ []) in
    let more : length longer ≡ suc (length k.part) = length-append k.part (x ∷ []) ∙ omega arith in
    split (eqb k.stage 0)
    (λ a.
    split (eqb (length longer) 3 && eqb (header_of longer).refusal 0)
    (λ b. rw (a, b) (omega arith))
    (λ b. split (eqb (length longer) 9) (λ e. rw (a, b, e) (omega arith)) (λ e. rw (a, b, e) (omega arith))))
    (λ a.
    split (eqb k.stage 1)
    (λ o.
    split (eqb k.left 0)
    (λ l. rw (a, o, l) (omega arith))
    (λ l. split (eqb (length k.part) 0 && ltb 1 x)
    (λ b. rw (a, o, l, b) (omega arith))
    (λ b. split (eqb (length k.part) 48)
    (λ e. rw (a, o, l, b, e) (omega (arith, whole_octets t longer, whole_text t longer, eqb-true (length k.part) 48 e)))
    (λ e. rw (a, o, l, b, e, more) (omega arith)))))
    (λ o. rw (a, o, a, o) (omega arith)))

both_short : (t : Tally) (k : Taking) (octets : List ℕ)
    → (length (octets_by t (handed k octets)) ≤ most 49 3 k (length octets))
    × (length (text_by t (handed k octets)) ≤ most 50 0 k (length octets))
unfolding handed octets_by text_by
both_short t k [] = omega arith
both_short t k (x ∷ octets) =
    let here : List Part = (one k x).parts in
    let behind : List Part = handed (one k x).taking octets in
    rw (
      octets_joined t here behind,
      text_joined t here behind,
      length-append (octets_by t here) (octets_by (tally_by t here) behind),
      length-append (text_by t here) (text_by (tally_by t here) behind),
    )
    (omega (arith, octet_both t k x (length octets), both_short (tally_by t here) (one k x).taking octets))

-- at most 48 octets are held of a record
most_fits : (each first : ℕ) (s : Standing) (held : List ℕ) (n : ℕ) → most each first (taking_of s held) n ≤ first + each * (n / 49 + 1)
unfolding most taking_of held_count
most_fits each first s held n =
    split (eqb s.stage 0)
    (λ z. rw z (omega arith))
    (λ z.
    split (eqb s.stage 1)
    (λ o.
    let more : (length (take (s.count % 49) held) + n) / 49 ≤ n / 49 + 1 = omega (arith, take_to (s.count % 49) held) in
    rw (z, o) (omega (arith, mul-le-mul_right each more)))
    (λ o. rw (z, o) (omega arith)))

-- what is said last
last_short : (octets : ℕ) (t : Tally) → length (last_text octets t) ≤ 216
unfolding last_text
last_short octets t =
    split (eqb t.refusal 0)
    (λ e. rw e (omega (
      arith,
      three_short (words "end ") (words " kept ") (words " left out ") (words " cut\n") t.kept t.left_out
          (octets - t.taken) {i = 4} {j = 6} {k = 10} {l = 5}
          (omega arith) (omega arith) (omega arith) (omega arith),
    )))
    (λ e. rw e (omega (
      arith,
      with_words (item (words "log refused ") t.refusal) (words "\n") {a = 32} {b = 1}
          (one_item (words "log refused ") t.refusal {b = 12} (omega arith)) (omega arith),
    )))

-- so runs of that many octets hold all of it
module _ (s : Salvaging) (held piece : List ℕ) where
  pub out_fits : length (piece_octets s held piece) ≤ most_out (length piece)
  out_fits = omega (
    arith,
    (both_short s.tally (taking_of s.standing held) piece).0,
    most_fits 49 3 s.standing held (length piece),
  )

  pub notes_fit : length (piece_text s held piece) ≤ most_notes (length piece)
  notes_fit = omega (
    arith,
    (both_short s.tally (taking_of s.standing held) piece).1,
    most_fits 50 0 s.standing held (length piece),
  )

pub end_fits : (s : Salvaging) (held : List ℕ) → length (end_of_text s held) ≤ 216
end_fits s held = last_short s.octets (end_tally s held)

pub takes_whole : {s : Salvaging} {held piece out notes held_after out_after notes-after : List ℕ} {answer : Wrote}
    → Takes s held piece out notes answer held_after out_after notes-after → most_out (length piece) ≤ length out → most_notes (length piece) ≤ length notes
    → ((answer.saved.whole ≡ true) × (answer.saved.octets ≤ length out)) ×
    ((answer.noted.whole ≡ true) × (answer.noted.octets ≤ length notes))
takes_whole {s} {held} {piece} {out} {notes} takes room room-too = (
  listed_whole (piece_octets s held piece) out (most_out (length piece)) (out_fits s held piece) room takes.saved,
  listed_whole (piece_text s held piece) notes (most_notes (length piece)) (notes_fit s held piece) room-too takes.noted,
)

pub ends_whole : {s : Salvaging} {held notes notes-after : List ℕ} {answer : Put} → Ends s held notes answer notes-after → 216 ≤ length notes
    → (answer.whole ≡ true) × (answer.octets ≤ length notes)
ends_whole {s} {held} {notes} ends room = listed_whole (end_of_text s held) notes 216 (end_fits s held) room ends.noted
