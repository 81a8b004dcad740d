-- No two watches, slips or answers are alike in the request's numbers.
-- Assumes nothing.
use mathlib.Core.Bool.{cond, true≢false}
use mathlib.Core.List.{List}
use mathlib.Core.Path.{◌≡◌, refl, sym, ◌∙◌, ap, ap₂}
use Prim.Native.Nat.{ℕ}
use lib.Dec.{eqb}
use Rattle.std.proofs.Common.{Result, Ok, Err, IfOk}
use Rattle.refusals.specs.declared.Refusal.{Refusal}
use Rattle.refusals.proofs.Laws.{number_injective, number_not_0}
use Rattle.slips.specs.declared.Watch as Code
use Rattle.slips.specs.declared.Watch.TheVariants.{New, Begun, InStep, OutOfStep}
use Rattle.slips.specs.declared.Slip.{Slip}
use Rattle.slips.specs.declared.Slip.TheVariants.{Nothing, Missing, Alone, Undecided}
use Rattle.slips.specs.Watch.{Watch, Stepped, told}
use Rattle.slips.specs.Known.{known_of, what_of, cells_of, stepped_of, stepped_from, watch_in, octets_in, Reads}

back : Watch → Code.Watch
back w =
    cond (eqb w.started 0) New
    (cond (eqb w.sure 0) (Begun w.number w.other)
    (cond (eqb w.waits 0) (InStep w.number w.second) (OutOfStep w.number w.second w.may w.other)))

known_back : (w : Code.Watch) → back (known_of w) ≡ w
unfolding back
known_back New = refl
known_back (Begun number second) = refl
known_back (InStep number second) = refl
known_back (OutOfStep number second may other) = refl

pub known_injective : (v w : Code.Watch) → known_of v ≡ known_of w → v ≡ w
known_injective v w same = sym (known_back v) ∙ ap back same ∙ known_back w

slip_in : Stepped → Slip
slip_in s =
    cond (eqb s.what 0) Nothing
    (cond (eqb s.what 1) (Missing s.cells) (cond (eqb s.what 2) Alone (Undecided s.cells)))

slip_back : (slip : Slip) (after : Code.Watch) → slip_in (stepped_of (Ok slip) after) ≡ slip
unfolding slip_in
slip_back Nothing after = refl
slip_back (Missing n) after = refl
slip_back Alone after = refl
slip_back (Undecided n) after = refl

watch_left : (x : Result Slip Refusal) (v : Code.Watch) → (stepped_of x v).watch ≡ known_of v
watch_left (Ok slip) v = refl
watch_left (Err refusal) v = refl

answer_injective : (x y : Result Slip Refusal) (v w : Code.Watch) → stepped_of x v ≡ stepped_of y w → x ≡ y
answer_injective (Ok s) (Ok t) v w same = ap Ok (sym (slip_back s v) ∙ ap slip_in same ∙ slip_back t w)
answer_injective (Ok s) (Err e) v w same = absurd (number_not_0 e (sym (ap (λ (r : Stepped). r.refusal) same)))
answer_injective (Err e) (Ok t) v w same = absurd (number_not_0 e (ap (λ (r : Stepped). r.refusal) same))
answer_injective (Err e) (Err f) v w same = ap Err (number_injective (ap (λ (r : Stepped). r.refusal) same))

pub step_injective : (x y : Result Slip Refusal) (v w : Code.Watch) → stepped_of x v ≡ stepped_of y w → (x ≡ y) × (v ≡ w)
step_injective x y v w same = (
  answer_injective x y v w same,
  known_injective v w (sym (watch_left x v) ∙ ap (λ (r : Stepped). r.watch) same ∙ watch_left y w),
)

pub reads_one : (octets : List ℕ) (x y : Result Code.Watch Refusal) → Reads octets x → Reads octets y → x ≡ y
reads_one octets (Ok v) (Ok w) p q = ap Ok (known_injective v w (p.0 ∙ sym q.0))
reads_one octets (Ok v) (Err f) p q = absurd (true≢false (sym q.1 ∙ p.1))
reads_one octets (Err e) (Ok w) p q = absurd (true≢false (sym p.1 ∙ q.1))
reads_one octets (Err e) (Err f) p q = ap Err (p.0 ∙ sym q.0)

slip_told : (w : Watch) (slip : Slip) → slip_in (told w (what_of slip) (cells_of slip)) ≡ slip
unfolding slip_in
slip_told w Nothing = refl
slip_told w (Missing n) = refl
slip_told w Alone = refl
slip_told w (Undecided n) = refl

pub from_injective : (before : List ℕ) (x y : Result (List ℕ × Slip) Refusal) → stepped_from before x ≡ stepped_from before y
    → IfOk x (λ r. r.0 ≡ octets_in (watch_in r.0)) → IfOk y (λ r. r.0 ≡ octets_in (watch_in r.0)) → x ≡ y
from_injective before (Ok r) (Ok s) same p q =
    ap₂ (λ (o : List ℕ) (slip : Slip). Ok (o, slip)) (p ∙ ap (λ (t : Stepped). octets_in t.watch) same ∙ sym q)
    (sym (slip_told (watch_in r.0) r.1) ∙ ap slip_in same ∙ slip_told (watch_in s.0) s.1)
from_injective before (Ok r) (Err f) same p q = absurd (number_not_0 f (sym (ap (λ (t : Stepped). t.refusal) same)))
from_injective before (Err e) (Ok s) same p q = absurd (number_not_0 e (ap (λ (t : Stepped). t.refusal) same))
from_injective before (Err e) (Err f) same p q = ap Err (number_injective (ap (λ (t : Stepped). t.refusal) same))
