-- Laws of writing into a lent log, over plain values.
-- Assumes nothing.
use mathlib.Core.Bool.{Bool, true, false}
use mathlib.Core.List.{List, [], ◌∷◌, ◌++◌}
use mathlib.Core.Path.{◌≡◌, refl, ◌∙◌, ap}
use Prim.Native.Nat.{ℕ, suc, ◌+◌, ◌-◌, ◌/◌, ◌%◌, ◌≤◌, ◌<◌}
use native.Mathlib.Omega.{arith}
use native.Mathlib.Numerals.{add-one}
use borrow.Author.Tests.{lt-ltb, le-ltb, eq-eqb, ne_eqb, ltb-false, eqb-true}
use lib.Dec.{eqb, ltb}
use Rattle.runs.proofs.Laws.{split, past}
use lib.ListN.{length, set, take, drop}
use lib.Seq.{sets, take_all}
use borrow.Rule.Slice.PartMut.{put_mid}
use Rattle.std.specs.Int.{from_bool}
use Rattle.std.proofs.lemmas.Slice.{put_mid-paste}
use Rattle.runs.specs.Runs.{written}
use Rattle.runs.proofs.Filling.{stored, stored_behind}
use Rattle.cell_log.specs.Answers.{Kept}
use Rattle.cell_log.specs.Numbers.{groups_of}
use Rattle.cell_log.specs.Written.{kept, not_kept, Keeps, number_refusal, octet_of, record_refusal}
use Rattle.cell_log.proofs.Laws.{groups_1, groups_2, groups_3}

-- a refusal leaves the log as it was
pub keeps_no : {refusal place met : ℕ} {octets log : List ℕ} {answer : Kept} → refusal ≡ met → (met ≡ 0 → ⊥) → answer ≡ not_kept met
    → Keeps refusal place octets log answer log
keeps_no {met = met} e some a = record { answered = a ∙ rw (e, ne_eqb met 0 some); left = rw (e, ne_eqb met 0 some) }

pub keeps_not : {refusal place : ℕ} {octets log : List ℕ} {answer : Kept} (k : ℕ) → refusal ≡ suc k → answer ≡ not_kept (suc k)
    → Keeps refusal place octets log answer log
keeps_not k e a = keeps_no e (λ z. omega arith) a

pub keeps : {refusal place : ℕ} {octets log after : List ℕ} {answer : Kept} → refusal ≡ 0 → answer ≡ kept (place + length octets)
    → after ≡ written log place octets → Keeps refusal place octets log answer after
keeps e a l = record { answered = a ∙ rw e; left = l ∙ rw e }

-- entries copied over a part of a run are written from where the part starts
copied : (new run : List ℕ) (at end : ℕ) {part : List ℕ} → part ≡ new → length new ≡ end - at → put_mid at (end - at) run part ≡ written run at new
copied new run at end {part} e n =
    put_mid-paste at (end - at) run part new (length new) e n refl
    ∙ ap (λ (l : List ℕ). take at run ++ l ++ drop (at + length new) run) (take_all (length new) new (omega arith))

module _ (log : List ℕ) (place n : ℕ) where
  pub number_large : 2097151 < n → number_refusal log place n ≡ 11
  unfolding number_refusal
  number_large h = rw (lt-ltb 2097151 n h)

  pub number_no_room : n ≤ 2097151 → length log < place + length (groups_of 3 n) → number_refusal log place n ≡ 11
  unfolding number_refusal
  number_no_room small h = rw (le-ltb 2097151 n small, lt-ltb (length log) (place + length (groups_of 3 n)) h)

  pub number_room : n ≤ 2097151 → place + length (groups_of 3 n) ≤ length log → number_refusal log place n ≡ 0
  unfolding number_refusal
  number_room small h = rw (le-ltb 2097151 n small, le-ltb (length log) (place + length (groups_of 3 n)) h)

  pub number_fits : number_refusal log place n ≡ 0 → (n ≤ 2097151) × (place + length (groups_of 3 n) ≤ length log)
  unfolding number_refusal
  number_fits ok =
      let small = past (ltb 2097151 n) 10 _ ok in
      let room = past (ltb (length log) (place + length (groups_of 3 n))) 10 0 small.1 in
      (ltb-false 2097151 n small.0, ltb-false (length log) (place + length (groups_of 3 n)) room.0)

  -- stores of a number's octets, one after the other, are its shortest form written
  groups_stored : (octets : List ℕ) {after : List ℕ} {answer : Kept} → n ≤ 2097151 → groups_of 3 n ≡ octets → place + length octets ≤ length log
      → answer ≡ kept (place + length octets) → after ≡ sets log place octets
      → Keeps (number_refusal log place n) place (groups_of 3 n) log answer after
  groups_stored octets small e h a l =
      keeps (number_room small (rw e h)) (a ∙ rw e) (l ∙ stored octets log place h ∙ rw e)

  pub stored_1 : {answer : Kept} → n < 128 → place + 1 ≤ length log → answer ≡ kept (place + 1)
      → Keeps (number_refusal log place n) place (groups_of 3 n) log answer (set log place n)
  stored_1 small h a = groups_stored (n ∷ []) (omega arith) (groups_1 2 n small) h a refl

  pub stored_2 : {answer : Kept} → 128 ≤ n → n < 16384 → place + 2 ≤ length log → answer ≡ kept (place + 2)
      → Keeps (number_refusal log place n) place (groups_of 3 n) log answer (set (set log place (128 + n % 128)) (place + 1) (n / 128))
  stored_2 large small h a =
      groups_stored ((128 + n % 128) ∷ n / 128 ∷ []) (omega arith) (groups_2 n large small) h a (rw (add-one place))

  pub stored_3 : {answer : Kept} → 16384 ≤ n → n ≤ 2097151 → place + 3 ≤ length log → answer ≡ kept (place + 3)
      → Keeps (number_refusal log place n) place (groups_of 3 n) log answer
      (set (set (set log place (128 + n % 128)) (place + 1) (128 + n / 128 % 128)) (place + 2) (n / 128 / 128))
  stored_3 large small h a =
      let two : place + 2 ≡ suc (suc place) = omega arith in
      groups_stored ((128 + n % 128) ∷ (128 + n / 128 % 128) ∷ n / 128 / 128 ∷ []) small (groups_3 n large small) h a
      (rw (add-one place, two))

-- an indication's octet, as it is converted
pub octet_as_converted : (indication : Bool) → from_bool indication ≡ octet_of indication
octet_as_converted true = refl
octet_as_converted false = refl

module _ (log : List ℕ) (place : ℕ) (cell : List ℕ) where
  pub record_no_cell : (length cell ≡ 48 → ⊥) → record_refusal log place cell ≡ 5
  unfolding record_refusal
  record_no_cell other = rw (ne_eqb (length cell) 48 other)

  pub record_no_room : length cell ≡ 48 → length log < place + 49 → record_refusal log place cell ≡ 12
  unfolding record_refusal
  record_no_room e h = rw (eq-eqb (length cell) 48 e, lt-ltb (length log) (place + 49) h)

  pub record_fits : record_refusal log place cell ≡ 0 → (length cell ≡ 48) × (place + 49 ≤ length log)
  unfolding record_refusal
  record_fits ok =
      split (eqb (length cell) 48)
      (λ t. split (ltb (length log) (place + 49))
      (λ u. absurd (let z : ◌≡◌ {A = ℕ} 12 0 = rw (t, u) at ok in omega arith))
      (λ u. (eqb-true (length cell) 48 t, ltb-false (length log) (place + 49) u)))
      (λ t. absurd (let z : ◌≡◌ {A = ℕ} 5 0 = rw t at ok in omega arith))

  record_room : length cell ≡ 48 → place + 49 ≤ length log → record_refusal log place cell ≡ 0
  unfolding record_refusal
  record_room e h = rw (eq-eqb (length cell) 48 e, le-ltb (length log) (place + 49) h)

  -- an octet stored, and a cell copied behind it, are a record written
  pub record_stored : (octet : ℕ) {first : ℕ} {part : List ℕ} {answer : Kept} → octet ≡ first → length cell ≡ 48 → place + 49 ≤ length log
      → answer ≡ kept (place + 49) → part ≡ cell
      → Keeps (record_refusal log place cell) place (first ∷ cell) log answer
      (put_mid (place + 1) (place + 49 - (place + 1)) (set log place octet) part)
  record_stored octet {first} same e h a l =
      let n : place + length (first ∷ cell) ≡ place + 49 = omega arith in
      keeps (record_room e h) (a ∙ rw n)
      (copied cell (set log place octet) (place + 1) (place + 49) l (omega arith) ∙ stored_behind octet cell log place (omega arith) ∙ rw same)
