-- Laws of log numbers, over plain values.
-- Assumes nothing.
use mathlib.Core.List.{List, [], ◌∷◌}
use mathlib.Core.Path.{◌≡◌, refl, sym, ◌∙◌, ap}
use Prim.Native.Nat.{ℕ, zero, suc, ◌+◌, ◌-◌, ◌*◌, ◌/◌, ◌%◌, ◌^◌, ◌≤◌, ◌<◌}
use native.Mathlib.Nat.{pow-suc, pow-zero, pow-le-pow_right}
use native.Mathlib.Omega.{arith}
use borrow.Author.Tests.{lt-ltb, le-ltb, le-leb, lt-leb, ltb-true, ltb-false, leb-false, eqb-false}
use lib.Dec.{eqb, leb, ltb}
use lib.ListN.{length, get_or}
use Rattle.runs.proofs.Laws.{split}
use Rattle.cell_log.specs.Answers.{Number}
use Rattle.cell_log.specs.Code.{behind, number_within}
use Rattle.cell_log.specs.Numbers.{number, no_number_of, groups_of}

pub number_none : (k : ℕ) (log : List ℕ) (at : ℕ) → k ≡ 0 → number_within k log at ≡ no_number_of
unfolding number_within
number_none k log at none = rw none

pub number_some_groups : (k : ℕ) (log : List ℕ) (at : ℕ) → (k ≡ 0 → ⊥) → number_within k log at ≡ number_within (suc (k - 1)) log at
number_some_groups k log at some = ap (λ n. number_within n log at) (omega (arith, some))

pub number_cut : (k : ℕ) (log : List ℕ) (at : ℕ) → length log ≤ at → number_within k log at ≡ no_number_of
unfolding number_within
number_cut zero log at h = refl
number_cut (suc k) log at h = rw (le-leb (length log) at h)

pub number_whole : (k : ℕ) (log : List ℕ) (at : ℕ) {group : ℕ} → group ≡ get_or log at 0 → at < length log → group < 128
    → number_within (suc k) log at ≡ number group (at + 1)
unfolding number_within
number_whole k log at {group} e h small = rw (← e, lt-leb (length log) at h, lt-ltb group 128 small)

pub number_more : (k : ℕ) (log : List ℕ) (at : ℕ) {group : ℕ} → group ≡ get_or log at 0 → at < length log → 128 ≤ group
    → number_within (suc k) log at ≡ behind group (number_within k log (at + 1))
unfolding number_within
number_more k log at {group} e h large = rw (← e, lt-leb (length log) at h, le-ltb group 128 large)

behind_small : (bound group : ℕ) (more : Number) → more.value < bound → 0 < bound → (behind group more).value < bound * 128
unfolding behind
behind_small bound group more h positive =
    split (eqb more.value 0)
    (λ e. rw e (omega arith))
    (λ e. rw e (omega arith))

pow_128 : (k : ℕ) → 0 < 128 ^ k
pow_128 zero = rw pow-zero (omega arith)
pow_128 (suc k) = rw pow-suc (omega (arith, pow_128 k))

pub value_small : (k : ℕ) (log : List ℕ) (at : ℕ) → (number_within k log at).value < 128 ^ k
unfolding number_within
value_small zero log at = rw pow-zero (omega arith)
value_small (suc k) log at =
    split (leb (length log) at)
    (λ e. rw e (pow_128 (suc k)))
    (λ e. split (ltb (get_or log at 0) 128)
    (λ s. rw (e, s, pow-suc) (omega (arith, ltb-true (get_or log at 0) 128 s, pow_128 k)))
    (λ s. rw (e, s, pow-suc)
    (behind_small (128 ^ k) (get_or log at 0) (number_within k log (at + 1)) (value_small k log (at + 1)) (pow_128 k))))

pub value_below : (k : ℕ) (log : List ℕ) (at : ℕ) → k ≤ 2 → (number_within k log at).value < 16384
value_below k log at h =
    let p : 128 ^ k ≤ 128 ^ 2 = pow-le-pow_right (omega arith) h in
    omega (arith, value_small k log at, p)

-- what a number can be, in one group more than so many
pub number_cases : (k : ℕ) (log : List ℕ) (at : ℕ) (P : Number → Type 0)
    → P no_number_of
    → (at < length log → get_or log at 0 < 128 → P (number (get_or log at 0) (at + 1)))
    → (at < length log → 128 ≤ get_or log at 0 → ((number_within k log (at + 1)).value ≡ 0 → ⊥)
    → P (number (get_or log at 0 % 128 + (number_within k log (at + 1)).value * 128) (number_within k log (at + 1)).next))
    → P (number_within (suc k) log at)
unfolding number_within behind
number_cases k log at P refused whole more =
    split (leb (length log) at)
    (λ e. rw e refused)
    (λ e. split (ltb (get_or log at 0) 128)
    (λ s. rw (e, s) (whole (leb-false (length log) at e) (ltb-true (get_or log at 0) 128 s)))
    (λ s. split (eqb (number_within k log (at + 1)).value 0)
    (λ z. rw (e, s, z) refused)
    (λ z.
    rw (e, s, z)
    (more (leb-false (length log) at e) (ltb-false (get_or log at 0) 128 s) (eqb-false (number_within k log (at + 1)).value 0 z)))))

-- a refused number is 0
pub number_some : (k : ℕ) (log : List ℕ) (at : ℕ) → ((number_within k log at).value ≡ 0 → ⊥) → (number_within k log at).refusal ≡ 0
unfolding number_within
number_some zero log at = λ some. absurd (some refl)
number_some (suc k) log at =
    number_cases k log at (λ n. (n.value ≡ 0 → ⊥) → n.refusal ≡ 0) (λ some. absurd (some refl)) (λ h s some. refl) (λ h s z some. refl)

-- a number that is refused is none, and so is one that it stands behind
pub number_refused : (k : ℕ) (log : List ℕ) (at : ℕ) → ((number_within k log at).refusal ≡ 0 → ⊥) → number_within k log at ≡ no_number_of
unfolding number_within
number_refused zero log at = λ some. refl
number_refused (suc k) log at =
    number_cases k log at (λ n. (n.refusal ≡ 0 → ⊥) → n ≡ no_number_of)
    (λ some. refl) (λ h s some. absurd (some refl)) (λ h s z some. absurd (some refl))

pub number_behind : (k : ℕ) (log : List ℕ) (at : ℕ) {group : ℕ} {more : Number} → group ≡ get_or log at 0 → at < length log → 128 ≤ group
    → more ≡ number_within k log (at + 1) → (more.refusal ≡ 0 → ⊥) → more ≡ number_within (suc k) log at
unfolding behind
number_behind k log at {group} e h large is some =
    let none = is ∙ number_refused k log (at + 1) (λ z. some (ap (λ (n : Number). n.refusal) is ∙ z)) in
    none ∙ sym (number_more k log at e h large ∙ rw (← is, none))

-- a number ends within its groups
pub next_small : (k : ℕ) (log : List ℕ) (at : ℕ) → (number_within k log at).next ≤ at + k
unfolding number_within
next_small zero log at = omega arith
next_small (suc k) log at =
    number_cases k log at (λ n. n.next ≤ at + suc k) (omega arith) (λ h s. omega arith) (λ h s z. omega (arith, next_small k log (at + 1)))

pub groups_1 : (k n : ℕ) → n < 128 → groups_of (suc k) n ≡ n ∷ []
unfolding groups_of
groups_1 k n h = rw (lt-ltb n 128 h)

pub groups_more : (k n : ℕ) → 128 ≤ n → groups_of (suc k) n ≡ (128 + n % 128) ∷ groups_of k (n / 128)
unfolding groups_of
groups_more k n h = rw (le-ltb n 128 h)

pub groups_many : (k n : ℕ) → 128 ≤ n → 1 ≤ length (groups_of (suc k) n)
groups_many k n h = rw (groups_more k n h) (omega arith)

pub groups_2 : (n : ℕ) → 128 ≤ n → n < 16384 → groups_of 3 n ≡ (128 + n % 128) ∷ n / 128 ∷ []
groups_2 n h small = rw (groups_more 2 n h, groups_1 1 (n / 128) (omega arith))

pub groups_3 : (n : ℕ) → 16384 ≤ n → n ≤ 2097151 → groups_of 3 n ≡ (128 + n % 128) ∷ (128 + n / 128 % 128) ∷ n / 128 / 128 ∷ []
groups_3 n h small =
    rw (groups_more 2 n (omega arith), groups_more 1 (n / 128) (omega arith), groups_1 0 (n / 128 / 128) (omega arith))
