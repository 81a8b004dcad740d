-- `circuits::judge` meets its contract.
-- Assumes nothing.
use mathlib.Core.List.{List, ◌∷◌}
use mathlib.Core.Logic.{inl}
use mathlib.Core.Path.{◌≡◌, refl, sym, ◌∙◌, ap}
use Prim.Native.Nat.{ℕ, ◌+◌, ◌≤◌, ◌<◌}
use native.Mathlib.Numerals.{add-one}
use native.Mathlib.Omega.{arith}
use lib.ListN.{length, get_or, drop, drop_of_length-le}
use lib.Seq.{drop-cons}
use Rattle.circuits.proofs.Laws.{judging_begun, judging_turned, share_fault, allowance_fault, judged_yes, judged_sum, fits_by}
use Rattle.circuits.proofs.judge.Goals as goal

-- the next circuit of those that are left
first : (xs : List ℕ) (i : ℕ) → i < length xs → drop i xs ≡ get_or xs i 0 ∷ drop (i + 1) xs
first xs i less = drop-cons xs i 0 less ∙ ap (λ (n : ℕ). get_or xs i 0 ∷ drop n xs) (sym (add-one i))

next : (xs ys : List ℕ) (i : ℕ) → length ys ≡ length xs → i < length xs
    → (drop i xs ≡ get_or xs i 0 ∷ drop (i + 1) xs) × (drop i ys ≡ get_or ys i 0 ∷ drop (i + 1) ys)
next xs ys i same less = (first xs i less, first ys i (omega (arith, same, less)))

none : (xs : List ℕ) (i : ℕ) → length xs ≤ i → length (drop i xs) ≡ 0
none xs i end = ap length (drop_of_length-le xs end)

pub loop-i-init : goal.loop-i-init
loop-i-init c = judging_begun _ _ _ _ _ c.requires.2 refl refl refl

pub returns-then-not-fits_slots : goal.returns-then-not-fits_slots
returns-then-not-fits_slots c =
    let two = next c.args.shares.now c.args.allowances.now c.loop-i.i c.requires.2 c.loop-i-test.true in
    share_fault _ _ _ _ _ c.loop-i.invariant two refl (sym c.fits_slots.ensures ∙ c.if-not-fits_slots.true)

pub cells_per_second-requires : goal.cells_per_second-requires
cells_per_second-requires c =
    let one = fits_by _ _ (sym c.fits_slots.ensures ∙ c.if-not-fits_slots.false) in (one.0, one.1, c.requires.0)

pub returns-then-allowances-i : goal.returns-then-allowances-i
returns-then-allowances-i c =
    let two = next c.args.shares.now c.args.allowances.now c.loop-i.i c.requires.2 c.loop-i-test.true in
    allowance_fault _ _ _ _ _ c.loop-i.invariant two (sym c.fits_slots.ensures ∙ c.if-not-fits_slots.false) refl
    (omega (arith, c.cells_per_second.ensures, c.if-allowances-i.true))

pub overflow_add-carried : goal.overflow_add-carried
overflow_add-carried c =
    let so_far = c.loop-i.invariant in
    omega (arith, so_far.few, so_far.many, (fits_by _ _ (sym c.fits_slots.ensures ∙ c.if-not-fits_slots.false)).1, c.requires.0, c.requires.1)

pub loop-i-preserved : goal.loop-i-preserved
loop-i-preserved c =
    let two = next c.args.shares.now c.args.allowances.now c.loop-i.i c.requires.2 c.loop-i-test.true in
    judging_turned _ _ _ _ _ c.loop-i.invariant two (sym c.fits_slots.ensures ∙ c.if-not-fits_slots.false) c.requires.0
    (omega (arith, c.cells_per_second.ensures, c.if-allowances-i.false)) refl

pub returns-then-carried-channels : goal.returns-then-carried-channels
returns-then-carried-channels c =
    judged_yes _ _ _ _ _ c.loop-i.invariant (inl (none c.args.shares.now c.loop-i.i (omega (arith, c.loop-i-test.false)))) c.if-carried-channels.true

pub returns-else-carried-channels : goal.returns-else-carried-channels
returns-else-carried-channels c =
    judged_sum _ _ _ _ _ c.loop-i.invariant (inl (none c.args.shares.now c.loop-i.i (omega (arith, c.loop-i-test.false)))) c.if-carried-channels.false
