-- Laws of a sheet under way and of its end, over plain values: a total that is too large, and the walk along a piece.
-- Assumes nothing.
use Rattle.std.proofs.Common.{◌≡◌, ℕ, zero, suc, ◌+◌, ◌-◌, ◌<◌, ◌≤◌, eqb, ltb, leb, List, [], ◌∷◌, length, get_or, take, drop, sym, refl, ap, ◌∙◌, arith, length-drop, drop_of_length-le, drop-cons, drop-drop, leb-true, eq-eqb, ne_eqb}
use borrow.Author.Tests.{eqb-false}
use Rattle.runs.proofs.Laws.{split}
use Rattle.refusals.specs.declared.Refusal.{Refusal}
use Rattle.refusals.specs.Refusals.{number_of}
use Rattle.refusals.proofs.Laws.{number_from}
use Rattle.figures.specs.Adding.{closed_of}
use Rattle.figures.specs.Sheets.{refused_by}
use Rattle.table.specs.declared.Input.{Input}
use Rattle.table.specs.declared.Sheet.{Sheet}
use Rattle.table.specs.declared.logs.Step.{Step}
use Rattle.table.specs.Taking.{goes_on_of, length_step, log_step, step_of, last_of, Ended, refused_end, closed_end, ended_of, Stood, Steps, stepped_by, taken_from, taken_of}

-- a sheet whose total is too large ends with one line
pub ends_19 : (s : Sheet) (r : Refusal) {refusal : ℕ} {e : Ended} → last_of s.input ≡ 0 → refused_by (number_of r) ≡ closed_of s.totals
    → refusal ≡ number_of r → e ≡ refused_end (refused_by refusal) → e ≡ ended_of s
unfolding ended_of closed_end
ends_19 s r none is named e =
    e
    ∙ ap (λ (n : ℕ). refused_end (refused_by n)) named
    ∙ sym (rw (eq-eqb (last_of s.input) 0 none, ← is, ne_eqb (number_of r) 0 (λ zero. omega (arith, zero, number_from r))))

-- how many octets a step takes: one at least, and no more than there are
length_used : (i : Input) (octet : ℕ) → ((length_step i octet).used ≡ 1) × ((length_step i octet).octets ≡ 0)
unfolding length_step
length_used i octet =
    split (ltb 4095 i.logs)
    (λ a. rw a (refl, refl))
    (λ a.
    split (eqb octet 10)
    (λ b. split (eqb i.digits 0) (λ d. rw (a, b, d) (refl, refl)) (λ d. rw (a, b, d) (refl, refl)))
    (λ b.
    split (goes_on_of i.digits i.number octet)
    (λ d. rw (a, b, d) (refl, refl))
    (λ d. rw (a, b, d) (refl, refl))))

pub step_used : (i : Input) (octet room : ℕ) → 0 < room
    → (0 < (step_of i octet room).used) × ((step_of i octet room).used ≤ room) × ((step_of i octet room).octets ≤ room)
unfolding step_of log_step
step_used i octet room some =
    split (eqb i.refusal 0)
    (λ a.
    split (eqb i.left 0)
    (λ b. let one = length_used i octet in rw (a, b) (omega (arith, one.0), omega (arith, one.0), omega (arith, one.1)))
    (λ b.
    let left : i.left ≡ 0 → ⊥ = eqb-false i.left 0 b in
    split (leb i.left room)
    (λ d. let there = leb-true i.left room d in rw (a, b, d) (omega (arith, left), there, there))
    (λ d. rw (a, b, d) (some, omega arith, omega arith))))
    (λ a. rw a (some, omega arith, omega arith))

pub taken_skips : (used : ℕ) (s : Stood) (octets : List ℕ) → taken_from used s octets ≡ taken_from 0 s (drop used octets)
unfolding taken_from
taken_skips zero s octets = refl
taken_skips (suc used) s [] = refl
taken_skips (suc used) s (o ∷ os) = taken_skips used s os

-- along a piece: where the sheet stands, and what is left of the piece
pub record Going (s₀ : Stood) (piece : List ℕ) (s : Stood) (place : ℕ) : Type 0 where
  pub within : place ≤ length piece
  pub stands : taken_of s (drop place piece) ≡ taken_of s₀ piece
  pub same : length s.rows ≡ length s₀.rows
  pub same_kept : length s.kept ≡ length s₀.kept

module _ {s₀ s : Stood} {piece : List ℕ} {place : ℕ} (g : Going s₀ piece s place) where
  module _ (here : place < length piece) {step : Step}
      (is : step ≡ step_of s.sheet.input (get_or piece place 0) (length piece - place))
    where
      pub going_on : (0 < step.used) × (place + step.used ≤ length piece) × (place + step.octets ≤ length piece)
      going_on =
          rw is
          (let facts = step_used s.sheet.input (get_or piece place 0) (length piece - place) (omega (arith, here)) in
          (facts.0, omega (arith, facts.1, here), omega (arith, facts.2, here)))

      pub going_turn : {r : Sheet} {held₁ rows₁ kept₁ : List ℕ} {count : ℕ} → count ≡ step.octets
          → Steps s.sheet step s.held s.rows s.kept (take count (drop place piece)) r held₁ rows₁ kept₁
          → length rows₁ ≡ length s.rows → length kept₁ ≡ length s.kept
          → Going s₀ piece (record { sheet = r; held = held₁; rows = rows₁; kept = kept₁ }) (place + step.used)
      unfolding taken_from
      going_turn n steps rows_same Kept-same =
          let o : ℕ = get_or piece place 0 in
          let os : List ℕ = drop (suc place) piece in
          let ahead : drop place piece ≡ o ∷ os = drop-cons piece place 0 here in
          let room : length piece - place ≡ suc (length os) = omega (arith, length-drop (suc place) piece, here) in
          let past : Stood = stepped_by step s (take step.octets (o ∷ os)) in
          let further : drop (step.used - 1) os ≡ drop (place + step.used) piece =
          drop-drop (step.used - 1) (suc place) piece
          ∙ ap (λ (k : ℕ). drop k piece)
          (let e : suc place + (step.used - 1) ≡ place + step.used = omega (arith, going_on.0) in e) in
          record {
            within = going_on.1;
            stands = ap (λ (t : Stood). taken_of t (drop (place + step.used) piece)) (rw (n, ahead) at steps.stands)
                ∙ ap (λ (l : List ℕ). taken_of past l) (sym further)
                ∙ sym (taken_skips (step.used - 1) past os)
                ∙ ap (λ (t : Step). taken_from (t.used - 1) (stepped_by t s (take t.octets (o ∷ os))) os)
                (is ∙ ap (step_of s.sheet.input o) room)
                ∙ ap (λ (l : List ℕ). taken_of s l) (sym ahead)
                ∙ g.stands;
            same = rows_same ∙ g.same;
            same_kept = Kept-same ∙ g.same_kept;
          }

  pub going_end : length piece ≤ place → s ≡ taken_of s₀ piece
  unfolding taken_from
  going_end end = rw (drop_of_length-le piece {i = place} end) at g.stands

pub going_start : (s : Stood) (piece : List ℕ) → Going s piece s 0
going_start s piece = record { within = omega arith; stands = refl; same = refl; same_kept = refl }
