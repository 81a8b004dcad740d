-- Laws of records and of the parts of a log, over plain values.
-- Assumes nothing.
use mathlib.Core.List.{List, []}
use mathlib.Core.Path.{◌≡◌, refl, sym, ap}
use native.Mathlib.Nat.{zero-add}
use Prim.Native.Nat.{ℕ, ◌+◌, ◌*◌, ◌-◌, ◌≤◌, ◌<◌}
use native.Mathlib.Omega.{arith}
use borrow.Author.Tests.{eq-eqb, ne_eqb, lt-ltb, le-ltb, le-leb, lt-leb, ltb-true, ltb-false, leb-true, leb-false}
use lib.Dec.{eqb, leb, ltb}
use lib.ListN.{length, get_or, take, drop}
use Rattle.cell_log.specs.Answers.{Record}
use Rattle.cell_log.specs.Code.{from}
use Rattle.cell_log.specs.Records.{record_at, end_at, no_record, place_after, cell_at}
use Rattle.runs.proofs.Laws.{split}

module _ (log : List ℕ) (place : ℕ) where
  pub record_end : length log ≤ place → record_at log place ≡ end_at place
  unfolding record_at
  record_end h = rw (le-leb (length log) place h)

  pub record_11 : place < length log → 1 < get_or log place 0 → record_at log place ≡ no_record 11
  unfolding record_at
  record_11 h large = rw (lt-leb (length log) place h, lt-ltb 1 (get_or log place 0) large)

  pub record_12 : place < length log → get_or log place 0 ≤ 1 → length log < place + 49 → record_at log place ≡ no_record 12
  unfolding record_at
  record_12 h small cut =
      rw (lt-leb (length log) place h, le-ltb 1 (get_or log place 0) small, lt-ltb (length log) (place + 49) cut)

  abbrev found : Record
  found = record { refusal = 0; what = 1; indication = eqb (get_or log place 0) 1; start = place + 1; next = place + 49 }

  pub record_cell : get_or log place 0 ≤ 1 → place + 49 ≤ length log → record_at log place ≡ found
  unfolding record_at
  record_cell small fits =
      let h : place < length log = omega arith in
      rw (lt-leb (length log) place h, le-ltb 1 (get_or log place 0) small, le-ltb (length log) (place + 49) fits)

  -- what a record can be
  pub record_cases : (P : Record → Type 0)
      → (length log ≤ place → P (end_at place))
      → (place < length log → 1 < get_or log place 0 → P (no_record 11))
      → (place < length log → get_or log place 0 ≤ 1 → length log < place + 49 → P (no_record 12))
      → (get_or log place 0 ≤ 1 → place + 49 ≤ length log → P found)
      → P (record_at log place)
  record_cases P ends eleven twelve cell =
      split (leb (length log) place)
      (λ e. let h : length log ≤ place = leb-true (length log) place e in rw (record_end h) (ends h))
      (λ e. let h : place < length log = leb-false (length log) place e in
      split (ltb 1 (get_or log place 0))
      (λ t. let large : 1 < get_or log place 0 = ltb-true 1 (get_or log place 0) t in rw (record_11 h large) (eleven h large))
      (λ t. let small : get_or log place 0 ≤ 1 = ltb-false 1 (get_or log place 0) t in
      split (ltb (length log) (place + 49))
      (λ u. let cut : length log < place + 49 = ltb-true (length log) (place + 49) u in rw (record_12 h small cut) (twelve h small cut))
      (λ u. let fits : place + 49 ≤ length log = ltb-false (length log) (place + 49) u in rw (record_cell small fits) (cell small fits))))

  pub record_room : ((record_at log place).what ≤ 1) × ((record_at log place).start + (record_at log place).what * 48 ≤ length log)
  record_room =
      record_cases (λ r. (r.what ≤ 1) × (r.start + r.what * 48 ≤ length log))
      (λ h. omega arith) (λ h l. omega arith) (λ h l k. omega arith) (λ h l. omega arith)

  -- where a cell is, its record lies within the log
  pub cell_facts : (record_at log place).what ≡ 1 → (place + 49 ≤ length log) × ((record_at log place).next ≡ place + 49)
  cell_facts =
      record_cases (λ r. r.what ≡ 1 → (place + 49 ≤ length log) × (r.next ≡ place + 49))
      (λ h z. omega arith) (λ h l z. omega arith) (λ h l k z. omega arith) (λ h l one. (l, refl))

  pub room_of : {r : Record} → r ≡ record_at log place → (r.what ≤ 1) × (r.start + r.what * 48 ≤ length log)
  room_of e = rw e record_room

  -- the part of the log that is handed back, and where it stands in memory
  abbrev Handed : ℕ × ℕ → Record → ℕ → Type 0
  Handed p r end =
      (take (end - r.start) (drop r.start log) ≡ cell_at log place) × (from p r.start ≡ from p (record_at log place).start)

  part : (p : ℕ × ℕ) {r : Record} (end : ℕ) → r ≡ record_at log place → end - r.start ≡ r.what * 48 → Handed p r end
  unfolding cell_at
  part p end e s = (rw (s, e), ap (λ (x : Record). from p x.start) e)

  pub part_cell : (p : ℕ × ℕ) {r : Record} → r ≡ record_at log place → r.what ≡ 1 → Handed p r (r.start + 48)
  part_cell p {r} e one = part p (r.start + 48) e (omega arith)

  pub part_none : (p : ℕ × ℕ) {r : Record} → r ≡ record_at log place → (r.what ≡ 1 → ⊥) → Handed p r r.start
  part_none p {r} e none =
      let zero' : r.what ≡ 0 = omega (arith, none, ap (λ (x : Record). x.what) e, record_room.0) in part p r.start e (omega arith)

  -- no part where no cell is
  pub part_empty : (p : ℕ × ℕ) {r : Record} → r ≡ record_at log place → r.what ≡ 0 → r.start ≡ 0
      → ([] ≡ cell_at log place) × (p ≡ from p (record_at log place).start)
  unfolding cell_at
  part_empty p {r} e what start = (rw (← e, what), rw (← e, start) (ap (λ (n : ℕ). (p.0, n)) (sym (zero-add p.1))))

  pub place_past : {r : Record} → r ≡ record_at log place → r.what ≡ 1 → r.next ≡ place_after log place
  unfolding place_after
  place_past {r} e one = rw (← e, eq-eqb r.what 1 one)

  pub place_stays : {r : Record} → r ≡ record_at log place → (r.what ≡ 1 → ⊥) → place ≡ place_after log place
  unfolding place_after
  place_stays {r} e none = rw (← e, ne_eqb r.what 1 none)
