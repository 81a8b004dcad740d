-- Laws of a log taken in pieces: what its parts count, and that any division counts what the whole log does.
-- Assumes nothing.
use mathlib.Core.Bool.{true, false, cond}
use mathlib.Core.List.{List, [], ◌∷◌, ◌++◌, map, append-nil}
use mathlib.Core.Path.{◌≡◌, refl, sym, ◌∙◌, ap}
use Prim.Native.Nat.{ℕ, ◌+◌, ◌*◌, ◌-◌, ◌≤◌, ◌<◌}
use native.Mathlib.Omega.{arith}
use borrow.Author.Tests.{eq-eqb, ne_eqb, eqb-true, eqb-false}
use lib.Dec.{eqb}
use lib.ListN.{length, get_or, take, length-drop}
use lib.Seq.{take_all}
use Rattle.runs.specs.Refusals.{or_else}
use Rattle.runs.proofs.Laws.{split}
use Rattle.cell_log.specs.Answers.{Header}
use Rattle.cell_log.specs.Records.{header_of, cell_at}
use Rattle.cell_log.proofs.Places.{record_11}
use Rattle.receiver.specs.declared.Ready.{Ready}
use Rattle.receiver.specs.Receiver.{
  opened_of,
  state_refusal,
  lengths_refused,
  receive_refusal,
  received_of,
  judged_of,
}
use Rattle.receiver.proofs.Laws.{answer_refusal}
use Rattle.receiver.proofs.Room.{state_to}
use Rattle.reading.specs.Heard.{Heard, heard_by, end_by, hear, onward, heard_from, end_of}
use Rattle.reading.specs.Reading.{Reading, fresh_of, behind_header, reading_of}
use Rattle.reading.specs.Records.{Whole, is_whole, front_of, walk_within, records_in}
use Rattle.reading.proofs.Reading.{header_three, reading_none}
use Rattle.pieces.specs.declared.Found as code
use Rattle.pieces.specs.declared.What.{What}
use Rattle.pieces.specs.declared.What.TheVariants as kind
use Rattle.pieces.specs.Found.{Found, number_of, numbered}
use Rattle.pieces.specs.declared.Standing.{Standing}
use Rattle.pieces.specs.declared.Stretch.{Stretch}
use Rattle.pieces.specs.Limit.{Part, head, whole, records_to, fault_to, end_part, parts_of}
use Rattle.pieces.specs.Steps.{taking_of, Steps, found_parts, stood_of, handed_over}
use Rattle.pieces.specs.Stretch.{stretch_of, past_stretch}
use Rattle.pieces.specs.Taken.{Taking, handed, end_parts, joined_of}
use Rattle.pieces.proofs.Walks.{Along, along_start, along_turn, turn_on, along_end, division_parts}
use Rattle.pieces.proofs.Stretches.{walk_one, stretch_again, stretch_to, stretch_fits, along_stretch}
use Rattle.figures.specs.declared.Counts.{Counts}
use Rattle.figures.specs.declared.Noted.{Noted}
use Rattle.figures.specs.declared.Tally.{Tally}
use Rattle.figures.specs.declared.told.Told.{Told}
use Rattle.figures.specs.Code.{no_counts, one_of, capped}
use Rattle.figures.specs.Figures.{counts_of, plus_of}
use Rattle.figures.specs.Sheets.{heard_in}
use Rattle.figures.specs.Stretch.{told_of, refused_one, records_at, noted_over}
use Rattle.figures.specs.Taking.{part_noted, noted_by, no_noted, start_tally, tally_after, Takes, tally_over}
use Rattle.figures.proofs.Cells.{refused_one_lem}
use Rattle.figures.proofs.Laws.{same_counts, counts_none, counts_front, plus_none, none_more, plus_in_turn, capped_more, capped_none}

pub noted_joined : (n : Noted) (a b : List Part) → noted_by n (a ++ b) ≡ noted_by (noted_by n a) b
unfolding noted_by
noted_joined n [] b = refl
noted_joined n (p ∷ a) b = noted_joined (part_noted n p) a b

-- what ends a log counts nothing
end_part_lem : (n : Noted) (fault : ℕ) → noted_by n (end_part fault) ≡ n
unfolding end_part noted_by part_noted
end_part_lem n fault = split (eqb fault 0) (λ e. rw e refl) (λ e. rw e refl)

end_counts : (n : Noted) (t : Taking) → noted_by n (end_parts t) ≡ n
unfolding end_parts noted_by part_noted
end_counts n t =
    split (eqb t.stage 0)
    (λ e. rw e refl)
    (λ e.
    split (eqb t.stage 1)
    (λ f. rw (e, f) (end_part_lem n _))
    (λ f. rw (e, f) refl))

-- records one after the other
wholes_noted : (n : Noted) (before : Counts) (ws : List Whole) → n.counts ≡ capped before
    → noted_by n (map whole ws)
    ≡ record { state = end_of n.state (heard_from n.state ws); counts = capped (plus_of before (counts_of (heard_from n.state ws))) }
unfolding heard_by end_by noted_by part_noted
wholes_noted n before [] is =
    λ i. record {
      state = n.state;
      counts = (is ∙ ap capped (sym (ap (plus_of before) counts_none ∙ none_more before))) i;
    }
wholes_noted n before (w ∷ ws) is =
    let h : Heard = hear n.state w in
    let next : Noted = part_noted n (whole w) in
    let so_far : next.counts ≡ capped (plus_of before (one_of h)) =
    ap (λ (c : Counts). capped (plus_of c (one_of h))) is ∙ capped_more before (one_of h) in
    wholes_noted next (plus_of before (one_of h)) ws so_far
    ∙ (λ i. record {
      state = end_of (onward h) (heard_from (onward h) ws);
      counts = capped
          ((plus_in_turn before (one_of h) (counts_of (heard_from (onward h) ws))
          ∙ ap (plus_of before) (sym (counts_front h (heard_from (onward h) ws)))) i);
    })

-- one at least, whatever was counted before
pub some_noted : (n : Noted) (ws : List Whole) → 1 ≤ length ws → {m : Noted} {counts : Counts} → m ≡ noted_over n.state ws
    → counts ≡ capped (plus_of n.counts m.counts) → record { state = m.state; counts = counts } ≡ noted_by n (map whole ws)
unfolding heard_by end_by noted_by part_noted
some_noted n [] some is added = absurd (omega (arith, some))
some_noted n (w ∷ ws) some {m} is added =
    let h : Heard = hear n.state w in
    let rest : List Heard = heard_from (onward h) ws in
    (λ i. record {
      state = (is i).state;
      counts = (added
          ∙ ap (λ (u : Noted). capped (plus_of n.counts u.counts)) is
          ∙ ap (λ (c : Counts). capped (plus_of n.counts c)) (counts_front h rest)
          ∙ ap capped (sym (plus_in_turn n.counts (one_of h) (counts_of rest)))) i;
    })
    ∙ sym (wholes_noted (part_noted n (whole w)) (plus_of n.counts (one_of h)) ws refl)

-- records behind a header, and what ends them
records_noted : (n : Noted) (before : Counts) (ws : List Whole) (fault : ℕ) → n.counts ≡ capped before
    → (noted_by n (map whole ws ++ end_part fault)).counts ≡ capped (plus_of before (counts_of (heard_from n.state ws)))
records_noted n before ws fault is =
    ap (λ (m : Noted). m.counts)
    (noted_joined n (map whole ws) (end_part fault)
    ∙ end_part_lem (noted_by n (map whole ws)) fault
    ∙ wholes_noted n before ws is)

-- a log whose octets are all within the limit
module _ (limit : ℕ) (log : List ℕ) (long : length log ≤ limit) where
  all_records : (header_of log).refusal ≡ 0 → records_to (limit - 3) (behind_header log) ≡ records_in (behind_header log)
  unfolding records_to
  all_records ok =
      ap records_in
      (take_all (limit - 3) (behind_header log)
      (omega (arith, length-drop (header_of log).place log, header_three log ok)))

  heard_is : (header_of log).refusal ≡ 0 → (reading_of log).heard ≡ heard_from (fresh_of (header_of log)) (records_in (behind_header log))
  unfolding reading_of
  heard_is ok = rw (eq-eqb (header_of log).refusal 0 ok)

  pub log_noted : (noted_by no_noted (parts_of limit log)).counts ≡ capped (counts_of (heard_in log))
  unfolding parts_of noted_by part_noted
  log_noted =
      split (eqb (header_of log).refusal 0)
      (λ e.
      let ok : (header_of log).refusal ≡ 0 = eqb-true (header_of log).refusal 0 e in
      let opened : Noted = record { state = fresh_of (header_of log); counts = no_counts } in
      rw e
      (records_noted opened no_counts (records_to (limit - 3) (behind_header log)) (fault_to (limit - 3) (behind_header log))
      (sym capped_none)
      ∙ ap capped
      (plus_none _
      ∙ ap (λ (ws : List Whole). counts_of (heard_from (fresh_of (header_of log)) ws)) (all_records ok)
      ∙ ap counts_of (sym (heard_is ok)))))
      (λ e.
      let none : heard_in log ≡ [] = ap (λ (r : Reading). r.heard) (reading_none log (eqb-false (header_of log).refusal 0 e)) in
      rw e (sym (ap (λ (hs : List Heard). capped (counts_of hs)) none ∙ ap capped counts_none ∙ capped_none)))

-- over pieces, each taken where the one before it left off
over_noted : (t : Tally) (held : List ℕ) (ps : List (List ℕ))
    → (tally_over t held ps).noted ≡ noted_by t.noted (handed_over t.standing held ps)
unfolding tally_over handed_over
over_noted t held [] = sym (end_counts t.noted (taking_of t.standing held))
over_noted t held (p ∷ ps) =
    over_noted (tally_after t held p) (stood_of t.standing held p).held ps
    ∙ sym (noted_joined t.noted (handed (taking_of t.standing held) p)
    (handed_over (stood_of t.standing held p).standing (stood_of t.standing held p).held ps))

-- however a log is divided, what is counted is what the whole log counts
pub any_division_counts : (held : List ℕ) (ps : List (List ℕ)) → length held ≡ 49 → length (joined_of ps) ≤ 18446744073709551615
    → (tally_over start_tally held ps).noted.counts ≡ capped (counts_of (heard_in (joined_of ps)))
any_division_counts held ps size long =
    ap (λ (n : Noted). n.counts)
    (over_noted start_tally held ps ∙ ap (noted_by no_noted) (division_parts 18446744073709551615 held ps size))
    ∙ log_noted 18446744073709551615 (joined_of ps) long

-- a log in one piece
pub log_counts : {held log held₁ : List ℕ} {begun tally : Tally} → begun ≡ start_tally → length held ≡ 49
    → length log ≤ 18446744073709551615
    → Takes begun held log tally held₁ → tally.noted.counts ≡ capped (counts_of (heard_in log))
unfolding tally_over joined_of
log_counts {held} {log} start size long takes =
    ap (λ (t : Tally). t.noted.counts) (takes.goes_on ∙ ap (λ (t : Tally). tally_after t held log) start)
    ∙ any_division_counts held (log ∷ []) size (rw (append-nil log) long)
    ∙ ap (λ (l : List ℕ). capped (counts_of (heard_in l))) (append-nil log)

-- past a record that is held, past octets that begin with none, and past a header
pub past_held : (n : Noted) (octets : List ℕ) {m : Noted} → is_whole octets ≡ true → m ≡ noted_by n (map whole (records_at octets 0 1))
    → m ≡ part_noted n (whole (front_of octets))
unfolding walk_within noted_by
past_held n octets here is = is ∙ ap (λ (ws : List Whole). noted_by n (map whole ws)) (walk_one 0 octets here)

-- an octet that isn't zero is there
some_octet : (octets : List ℕ) → 1 < get_or octets 0 0 → 0 < length octets
some_octet [] high = absurd (omega (arith, high))
some_octet (x ∷ octets) high = omega arith

module _ (n : Noted) (octets : List ℕ) (high : 1 < get_or octets 0 0) where
  none_there : front_of octets ≡ record { indication = false; cell = [] }
  unfolding front_of cell_at
  none_there = rw (record_11 octets 0 (some_octet octets high) high) refl

  abbrev told : Told
  told = told_of (judged_of n.state [] false)

  cut_refused : receive_refusal n.state [] false 720 720 720 ≡ or_else (state_refusal n.state) 5
  unfolding receive_refusal lengths_refused
  cut_refused = refl

  refusal_is : told.refusal ≡ or_else (state_refusal n.state) 5
  unfolding judged_of
  refusal_is = answer_refusal n.state [] false 720 720 720 ∙ cut_refused

  refusal_few : (told.refusal ≡ 0 → ⊥) × (told.refusal ≤ 5)
  unfolding or_else
  refusal_few =
      let early = state_to n.state in
      split (eqb (state_refusal n.state) 0)
      (λ e.
      let five : told.refusal ≡ 5 = refusal_is ∙ rw e refl in
      (λ none. omega (arith, none, five), omega (arith, five)))
      (λ e.
      let first : told.refusal ≡ state_refusal n.state = refusal_is ∙ rw e refl in
      (λ none. eqb-false (state_refusal n.state) 0 e (sym first ∙ none), omega (arith, first, early)))

  other : (k : ℕ) → 6 ≤ k → ◌≡◌ {A = ℕ} (cond (eqb told.refusal k) 1 0) 0
  other k far =
      rw (ne_eqb told.refusal k (λ e. omega (arith, e, far, refusal_few.1))) refl

  nothing : refused_one told.refusal ≡ no_counts
  nothing =
      same_counts {b = no_counts} refl refl (other 8 (omega arith)) (other 9 (omega arith)) (other 15 (omega arith))
      (other 20 (omega arith)) refl refl refl

  state_same : n.state ≡ onward (hear n.state (record { indication = false; cell = [] }))
  unfolding hear judged_of received_of
  state_same = sym (rw (ne_eqb _ 0 (λ e. refusal_few.0 (answer_refusal n.state [] false 720 720 720 ∙ e))))

  pub past_none : record { state = n.state; counts = capped (plus_of n.counts no_counts) } ≡ part_noted n (whole (front_of octets))
  unfolding part_noted
  past_none =
      (λ i. record {
        state = state_same i;
        counts = capped
            (plus_of n.counts ((sym nothing ∙ refused_one_lem n.state [] false {told = told} refl refusal_few.0) i));
      })
      ∙ ap (λ (w : Whole). part_noted n (whole w)) (sym none_there)

pub past_header : (n : Noted) (held : List ℕ) {header : Header} {opened : Ready} → header ≡ record (header_of (take 3 held)) { refusal = 0 }
    → opened ≡ opened_of header.format header.channels header.order
    → record { state = opened.state; counts = n.counts } ≡ part_noted n (head (header_of (take 3 held)))
unfolding part_noted
past_header n held {header} is opens =
    let all = opens ∙ ap (λ (h : Header). opened_of h.format h.channels h.order) is in
    λ i. record { state = (all i).state; counts = n.counts }

-- what was found, by its kind
module _ (n : Noted) (f : Found) (held piece : List ℕ) (place : ℕ) where
  pub found_one : {m : Noted} (p : Part) → found_parts f held piece place ≡ p ∷ [] → m ≡ part_noted n p
      → m ≡ noted_by n (found_parts f held piece place)
  unfolding noted_by
  found_one p is e = e ∙ ap (noted_by n) (sym is)

  -- where no record is found in the piece, the piece isn't looked at
  found_elsewhere : (f.what ≡ 2 → ⊥) → found_parts f held [] 0 ≡ found_parts f held piece place
  unfolding found_parts
  found_elsewhere not-2 = rw (ne_eqb f.what 2 not-2)

-- what is no record and no header counts nothing
nothing_noted : (n : Noted) (what : What) (next : ℕ) (s : Standing) (held piece : List ℕ) (place : ℕ) → (what ≡ kind.Header → ⊥)
    → (number_of what ≡ 2 → ⊥) → (what ≡ kind.Held → ⊥)
    → n ≡ noted_by n (found_parts (record { what = number_of what; next = next; standing = s }) held piece place)
unfolding found_parts noted_by part_noted
nothing_noted n kind.Nothing next s held piece place not-header not-there not-held = refl
nothing_noted n kind.Header next s held piece place not-header not-there not-held = absurd (not-header refl)
nothing_noted n kind.InPiece next s held piece place not-header not-there not-held = absurd (not-there refl)
nothing_noted n kind.Held next s held piece place not-header not-there not-held = absurd (not-held refl)
nothing_noted n kind.Fault next s held piece place not-header not-there not-held =
    split (eqb s.stage 2)
    (λ e. rw e)
    (λ e. rw e)

pub notes_nothing : (n : Noted) (f : code.Found) (held piece : List ℕ) (place : ℕ) → (f.what ≡ kind.Header → ⊥)
    → (number_of f.what ≡ 2 → ⊥) → (f.what ≡ kind.Held → ⊥) → n ≡ noted_by n (found_parts (numbered f) held piece place)
notes_nothing n f held piece place = nothing_noted n f.what f.next f.standing held piece place

-- along a piece: the parts so far, and what they count
pub record Going (t : Tally) (lent piece : List ℕ) (s : Standing) (n : Noted) (held : List ℕ) (place : ℕ) : Type 0 where
  pub parts : List Part
  pub along : Along t.standing lent piece place s held parts
  pub counts : n ≡ noted_by t.noted parts

module _ {t : Tally} {lent piece : List ℕ} where
  pub going_start : length lent ≡ 49 → Going t lent piece t.standing t.noted lent 0
  unfolding noted_by
  going_start size = record { parts = []; along = along_start t.standing lent piece size; counts = refl }

  pub going_turn : {s : Standing} {n m : Noted} {held now : List ℕ} {place : ℕ} {f : Found} → Going t lent piece s n held place
      → place < length piece → Steps s held piece place f now → (f.what ≡ 2 → ⊥) → m ≡ noted_by n (found_parts f now [] 0)
      → Going t lent piece f.standing m now f.next
  going_turn {n = n} {now = now} {place = place} {f = f} g here step elsewhere noted =
      let found : List Part = found_parts f now piece place in
      record {
        parts = g.parts ++ found;
        along = along_turn g.along here step;
        counts = noted
            ∙ ap (noted_by n) (found_elsewhere n f now piece place elsewhere)
            ∙ ap (λ (u : Noted). noted_by u found) g.counts
            ∙ sym (noted_joined t.noted g.parts found);
      }

  -- past a stretch of records
  module _ (most : ℕ) {s : Standing} {n : Noted} {held : List ℕ} {place : ℕ} {f : Stretch} (g : Going t lent piece s n held place)
      (is : f ≡ past_stretch s place (length (stretch_of most s piece place)))
    where
      stretch_count : f.records ≡ length (stretch_of most s piece place)
      stretch_count = ap (λ (u : Stretch). u.records) is

      pub stretch_these : length (records_at piece place f.records) ≡ f.records
      stretch_these = ap length (stretch_again most s piece place stretch_count) ∙ sym stretch_count

      pub stretch_most : f.records ≤ most
      stretch_most = stretch_to most s piece place stretch_count

      pub stretch_on : (f.records ≡ 0 → ⊥) → (place < f.next) × (f.next ≤ length piece)
      stretch_on some =
          let next_is : f.next ≡ place + 49 * f.records =
          ap (λ (u : Stretch). u.next) is ∙ ap (λ (k : ℕ). place + 49 * k) (sym stretch_count) in
          let fits = (stretch_fits most s piece place stretch_count).0 in
          (omega (arith, next_is, some), omega (arith, next_is, some, fits))

      pub going_stretch : {m : Noted} → m ≡ noted_by n (map whole (records_at piece place f.records))
          → Going t lent piece f.standing m held f.next
      going_stretch noted =
          let found : List Part = map whole (stretch_of most s piece place) in
          record {
            parts = g.parts ++ found;
            along = along_stretch most is g.along;
            counts = noted
                ∙ ap (λ (ws : List Whole). noted_by n (map whole ws)) (stretch_again most s piece place stretch_count)
                ∙ ap (λ (u : Noted). noted_by u found) g.counts
                ∙ sym (noted_joined t.noted g.parts found);
          }

  pub going_on : {s : Standing} {n : Noted} {held now : List ℕ} {place : ℕ} {f : Found} → Going t lent piece s n held place
      → place < length piece → Steps s held piece place f now → (place < f.next) × (f.next ≤ length piece)
  going_on g here step = turn_on g.along here step

  pub going_end : {s : Standing} {n : Noted} {held : List ℕ} {place : ℕ} → Going t lent piece s n held place
      → length piece ≤ place
      → Takes t lent piece (record { standing = s; noted = n }) held
  going_end g end =
      let ends = along_end g.along end in
      record {
        goes_on = λ i. record { standing = (ends.0 i).standing; noted = (g.counts ∙ ap (noted_by t.noted) ends.1) i };
        holds = λ i. (ends.0 i).held;
      }
