-- `cells::next_place` meets its contract.
-- Assumes nothing.
use Rattle.std.proofs.Common.{◌≡◌, ℕ, ◌+◌, ◌-◌, ◌%◌, ◌^◌, ◌<◌, refl, sym, ap, ◌∙◌, mod-lt, arith}
use Rattle.cells.proofs.Places.{step_further, step_back}
use Rattle.cells.proofs.next_place.Goals as goal

-- what is taken off and added again, modulo 2^64
back_again : (sum less : ℕ) → less < 2 ^ 64 → ((sum % 2 ^ 64 + (2 ^ 64 - less)) % 2 ^ 64 + less) % 2 ^ 64 ≡ sum % 2 ^ 64
back_again sum less small = omega arith

pub returns-then-at-saturating_sub : goal.returns-then-at-saturating_sub
returns-then-at-saturating_sub c = let asked = c.args in
    step_further asked.step asked.used asked.at (omega (arith, c.if-at-saturating_sub.true, c.saturating_sub.ensures))
    (omega (arith, c.if-at-saturating_sub.true, c.saturating_sub.ensures, c.ranges.used.fits))

pub returns : goal.returns
returns c = let asked = c.args in
    let less = c.saturating_sub-2.result in
    let next = ((asked.at + asked.step) % 2 ^ 64 + (2 ^ 64 - less)) % 2 ^ 64 in
    step_back asked.step asked.used asked.at next ((asked.at + asked.step) % 2 ^ 64)
    (omega (arith, c.if-at-saturating_sub.false, c.saturating_sub.ensures)) (mod-lt _ (omega arith)) refl
    (ap (λ (n : ℕ). (next + n) % 2 ^ 64) (sym c.saturating_sub-2.ensures)
    ∙ back_again (asked.at + asked.step) less c.saturating_sub-2.type_inv)
