-- What second numbers tell of any sender, and of one that counts blocks.
-- Assumes nothing.
use mathlib.Core.Path.{◌≡◌, refl, ◌∙◌, ap}
use Prim.Native.Nat.{ℕ, suc, ◌+◌, ◌*◌, ◌/◌, ◌%◌, ◌-◌, ◌≤◌}
use native.Mathlib.Omega.{arith}
use lib.Dec.{leb}
use borrow.Author.Tests.{leb-true}
use Rattle.runs.proofs.Laws.{split}
use Rattle.slips.specs.Slips.{starts_of, behind_of}

-- sixteen cells have two block starts
pub starts_on : (last k : ℕ) → starts_of last (suc k) ≡ starts_of last (suc k % 16) + 2 * (suc k / 16)
unfolding starts_of
starts_on last k = omega arith

-- a cell that is taken doesn't come round
pub same_sixteens : (k : ℕ) → (suc k % 16 ≡ 0 → ⊥) → suc k / 16 ≡ k / 16
same_sixteens k turns = omega arith

half_below : (told may slips : ℕ) → told ≤ may + 2 * slips → (told - may + 1) / 2 * 16 ≤ 16 * slips
half_below told may slips few = omega arith

half_is : (may slips : ℕ) → (may + 2 * slips - may + 1) / 2 * 16 ≡ 16 * slips
half_is may slips = omega arith

-- what is told is a multiple of 16
pub behind_sixteens : (told may : ℕ) → behind_of told may % 16 ≡ 0
unfolding behind_of
behind_sixteens told may = split (leb told may) (λ e. rw e refl) (λ e. rw e (omega arith))

pub behind_below : (told may slips : ℕ) → told ≤ may + 2 * slips → behind_of told may ≤ 16 * slips
unfolding behind_of
behind_below told may slips few =
    split (leb told may) (λ e. rw e (omega arith)) (λ e. rw e (half_below told may slips few))

pub behind_is : (may slips : ℕ) → behind_of (may + 2 * slips) may ≡ 16 * slips
unfolding behind_of
behind_is may slips =
    split (leb (may + 2 * slips) may)
    (λ e. let none = leb-true (may + 2 * slips) may e in rw e (omega arith))
    (λ e. rw e (half_is may slips))

-- any sender: `ups` of the cells after the last one up to this one raised the second number, each of them a block start. The slip
-- that is told is never longer than the true one.
pub never_too_long : (last k ups : ℕ) → ups ≤ starts_of last (suc k) → (suc k % 16 ≡ 0 → ⊥)
    → behind_of (ups % 16) (starts_of last (suc k % 16)) ≤ 16 * (k / 16)
never_too_long last k ups few turns =
    let within : ups % 16 ≤ ups = omega arith in
    behind_below (ups % 16) (starts_of last (suc k % 16)) (k / 16) (omega (arith, starts_on last k, same_sixteens k turns))

-- a sender that counts blocks: every block start raised it. The slip that is told is the true one, up to 119 lost in a row.
pub few_starts : (last k : ℕ) → k ≤ 119 → starts_of last (suc k) % 16 ≡ starts_of last (suc k)
unfolding starts_of
few_starts last k few = omega arith

pub exact_119 : (last k : ℕ) → k ≤ 119 → (suc k % 16 ≡ 0 → ⊥)
    → behind_of (starts_of last (suc k) % 16) (starts_of last (suc k % 16)) ≡ 16 * (k / 16)
exact_119 last k few turns =
    ap (λ (n : ℕ). behind_of n (starts_of last (suc k % 16)))
    (few_starts last k few ∙ starts_on last k
    ∙ ap (λ (n : ℕ). starts_of last (suc k % 16) + 2 * n) (same_sixteens k turns))
    ∙ behind_is (starts_of last (suc k % 16)) (k / 16)

-- 119 is sharp: of 120 lost behind number 7 or 15, which are seven sixteens and eight cells, nothing is told
pub nothing_of_120 : (behind_of (starts_of 7 121 % 16) (starts_of 7 (121 % 16)) ≡ 0) × (behind_of (starts_of 15 121 % 16) (starts_of 15 (121 % 16)) ≡ 0)
unfolding starts_of behind_of
nothing_of_120 = (refl, refl)
