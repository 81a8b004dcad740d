-- The record at a place of a log is the one at the front of the octets from there on.
-- Assumes nothing.
use mathlib.Core.Bool.{true}
use mathlib.Core.List.{List, [], ◌∷◌}
use mathlib.Core.Path.{◌≡◌, sym, ◌∙◌, ap}
use Prim.Native.Nat.{ℕ, ◌+◌, ◌*◌, ◌-◌}
use native.Mathlib.Omega.{arith}
use borrow.Author.Tests.{eq-eqb, ne_eqb}
use lib.Dec.{eqb}
use lib.ListN.{length, get_or, take, drop, length-drop}
use lib.Seq.{get_or-drop, drop-drop}
use Rattle.cell_log.specs.Answers.{Record}
use Rattle.cell_log.specs.Records.{record_at, cell_at}
use Rattle.cell_log.proofs.Places.{record_end, record_11, record_12, record_cell, record_cases}
use Rattle.reading.specs.Records.{Walk, is_whole, front_of, stopped, behind, walk_in, fault_in}
use Rattle.reading.proofs.Records.{walk_front, walk_stop}

module _ (log : List ℕ) (place : ℕ) where
  abbrev suffix : List ℕ
  suffix = drop place log

  left : length suffix ≡ length log - place
  left = length-drop place log

  first : get_or suffix 0 0 ≡ get_or log place 0
  first = let none : place + 0 ≡ place = omega arith in get_or-drop place log 0 0 ∙ ap (λ (n : ℕ). get_or log n 0) none

  -- both tell the same
  abbrev Same : Record → Type 0
  Same r =
      ((record_at suffix 0).what ≡ r.what) × ((record_at suffix 0).refusal ≡ r.refusal) × ((record_at suffix 0).indication ≡ r.indication)

  so : {r : Record} → record_at suffix 0 ≡ r → Same r
  so e = (ap (λ (r : Record). r.what) e, ap (λ (r : Record). r.refusal) e, ap (λ (r : Record). r.indication) e)

  same : Same (record_at log place)
  same =
      record_cases log place Same
      (λ h. so (record_end suffix 0 (omega (arith, left))))
      (λ h l. so (record_11 suffix 0 (omega (arith, left)) (rw first l)))
      (λ h l k. so (record_12 suffix 0 (omega (arith, left)) (rw first l) (omega (arith, left))))
      (λ l k.
      let both = so (record_cell suffix 0 (rw first l) (omega (arith, left))) in
      (both.0, both.1, both.2 ∙ ap (λ (n : ℕ). eqb n 1) first))

  pub next_at : drop 49 suffix ≡ drop (place + 49) log
  next_at = drop-drop 49 place log

  -- a record there
  module _ (one : (record_at log place).what ≡ 1) where
    whole_at : is_whole suffix ≡ true
    unfolding is_whole
    whole_at = eq-eqb (record_at suffix 0).what 1 (same.0 ∙ one)

    cell_same : cell_at suffix 0 ≡ cell_at log place
    unfolding cell_at
    cell_same =
        record_cases log place
        (λ r. r.what ≡ 1 → take ((record_at suffix 0).what * 48) (drop (record_at suffix 0).start suffix) ≡ take (r.what * 48) (drop r.start log))
        (λ h z. absurd (omega (arith, z))) (λ h l z. absurd (omega (arith, z))) (λ h l k z. absurd (omega (arith, z)))
        (λ l k z.
        let here : drop 1 suffix ≡ drop (place + 1) log = drop-drop 1 place log in
        rw (record_cell suffix 0 (rw first l) (omega (arith, left)), here))
        one

    front_at : front_of suffix ≡ record { indication = (record_at log place).indication; cell = cell_at log place }
    unfolding front_of
    front_at = rw (same.2, cell_same)

    pub walk_at : walk_in suffix
        ≡ behind (record { indication = (record_at log place).indication; cell = cell_at log place } ∷ []) (walk_in (drop (place + 49) log))
    walk_at = walk_front suffix whole_at ∙ rw (front_at, next_at)

  -- none there
  module _ (none : (record_at log place).what ≡ 1 → ⊥) where
    pub stop_at : walk_in suffix ≡ stopped suffix
    unfolding is_whole
    stop_at = walk_stop suffix (ne_eqb (record_at suffix 0).what 1 (λ e. none (sym same.0 ∙ e)))

    pub fault_at : fault_in suffix ≡ (record_at log place).refusal
    fault_at = ap (λ (w : Walk). (record_at w.rest 0).refusal) stop_at ∙ same.1
