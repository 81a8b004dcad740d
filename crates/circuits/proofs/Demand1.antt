-- Demand 1 for the two calls: each refuses exactly where the request says so, under that number, and then nothing lent changes.
-- Assumes nothing.
use mathlib.Core.Bool.{cond}
use mathlib.Core.List.{List}
use mathlib.Core.Path.{◌≡◌, refl, sym, ◌∙◌, ap}
use Prim.Native.Nat.{ℕ}
use borrow.Author.Tests.{eqb-true, eqb-false, ne_eqb}
use lib.Dec.{eqb}
use lib.ListN.{length}
use Rattle.runs.proofs.Laws.{split}
use Rattle.formats.specs.Formats.{is_listed}
use Rattle.circuits.specs.Circuits.{Verdict, Refused, Yes, Share, Allowance, Sum, refusal_of, octet_refusal, check_refusal, checked_of, plan_refusal_of, Plans}
use Rattle.circuits.proofs.Checked.{never_refused}
use Rattle.circuits.proofs.Laws.{one_channel, no_format_lem, check_refused}

-- "1 as in 01": of one channel in order 0 only the octet can be refused
pub octet_refused : (octet : ℕ) → octet_refusal octet ≡ cond (is_listed octet) 0 1
octet_refused octet = split (is_listed octet) (λ h. one_channel octet h ∙ rw h) (λ h. no_format_lem octet h ∙ rw h)

said_none : (v : Verdict) → ((n : ℕ) → v ≡ Refused n → ⊥) → refusal_of v ≡ 0
said_none (Refused n) never = absurd (never n refl)
said_none Yes never = refl
said_none (Share k) never = refl
said_none (Allowance k) never = refl
said_none Sum never = refl

-- "1 as in 01, 5 for unequal runs, 22 .., then 23 for frequency 0 or above 1,000,000"
pub demand_1_check : (octet channels frequency : ℕ) (shares allowances : List ℕ) (answer : Verdict)
    → answer ≡ checked_of octet channels frequency shares allowances
    → (refusal_of answer ≡ check_refusal (octet_refusal octet) channels frequency (length shares) (length allowances))
    × ((refusal_of answer ≡ 0 → ⊥) → answer ≡ Refused (check_refusal (octet_refusal octet) channels frequency (length shares) (length allowances)))
demand_1_check octet channels frequency shares allowances answer is =
    split (eqb (check_refusal (octet_refusal octet) channels frequency (length shares) (length allowances)) 0)
    (λ t.
    let none = eqb-true _ 0 t in
    let zero-said : refusal_of answer ≡ 0 =
    ap refusal_of is ∙ said_none _ (never_refused octet channels frequency shares allowances none) in
    (zero-said ∙ sym none, λ some. absurd (some zero-said)))
    (λ t.
    let e = is ∙ sym (check_refused octet channels frequency shares allowances refl refl (eqb-false _ 0 t)) in
    (ap refusal_of e, λ some. e))

-- "from the planner, 30 exactly when S times the circuits is below the channels"
pub demand_1_plan : (octet channels : ℕ) (shares : List ℕ) (refusal : ℕ) (shares₁ : List ℕ) → Plans octet channels shares refusal shares₁
    → (refusal ≡ plan_refusal_of octet channels shares) × ((refusal ≡ 0 → ⊥) → shares₁ ≡ shares)
demand_1_plan octet channels shares refusal shares₁ plans =
    (plans.refused, λ some. plans.leaves ∙ rw (ne_eqb _ 0 (λ e. some (plans.refused ∙ e))))
