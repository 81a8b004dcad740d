-- What it is that a watch can be, and that a report can follow it.
-- Assumes nothing.
use mathlib.Core.Bool.{Bool, true, false, true≢false, not, ◌&&◌}
use mathlib.Core.Path.{◌≡◌, sym, ◌∙◌, ap}
use Prim.Native.Nat.{ℕ, suc, ◌+◌, ◌*◌, ◌≤◌}
use native.Mathlib.Omega.{arith}
use lib.Dec.{eqb}
use borrow.Author.Tests.{eq-eqb, ne_eqb, le-ltb, eqb-true, eqb-false, ltb-false}
use Rattle.runs.proofs.Laws.{split, neither}
use Rattle.numbers.specs.Numbers.{difference_of}
use Rattle.slips.specs.Watch.{Watch, is_too_large, some_set, unlike, watch_refused, report_refused}

none_there : (n : ℕ) → not (eqb n 0) ≡ false → n ≡ 0
none_there n e = split (eqb n 0) (λ t. eqb-true n 0 t) (λ f. absurd (true≢false (sym (ap not f) ∙ e)))

both_none : (a b : Bool) → a && b ≡ false → a ≡ true → b ≡ false
both_none true b e t = e
both_none false b e t = absurd (true≢false (sym t))

pub difference_to : (number last : ℕ) → difference_of number last ≤ 15
unfolding difference_of
difference_to number last = omega arith

-- a watch that can be, in numbers: what isn't started is all zeros, what isn't sure waits and keeps no second number, and only what
-- waits has block starts or another second number
pub record CanBe (w : Watch) : Type 0 where
  pub started_to : w.started ≤ 1
  pub sure_to : w.sure ≤ w.started
  pub waits_to : w.waits ≤ w.started
  pub number_to : w.number ≤ 15 * w.started
  pub either : w.started ≤ w.sure + w.waits
  pub second_to : w.second ≤ 15 * w.sure
  pub may_sure : w.may ≤ 15 * w.sure
  pub may_waits : w.may ≤ 15 * w.waits
  pub other_to : w.other ≤ 15 * w.waits

record Small (w : Watch) : Type 0 where
  started_to : w.started ≤ 1
  number_to : w.number ≤ 15
  sure_to : w.sure ≤ 1
  second_to : w.second ≤ 15
  may_to : w.may ≤ 15
  waits_to : w.waits ≤ 1
  other_to : w.other ≤ 15

small : (w : Watch) → is_too_large w ≡ false → Small w
unfolding is_too_large
small w e =
    let e1 = neither _ _ e in
    let e2 = neither _ _ e1.1 in
    let e3 = neither _ _ e2.1 in
    let e4 = neither _ _ e3.1 in
    let e5 = neither _ _ e4.1 in
    let e6 = neither _ _ e5.1 in
    record {
      started_to = ltb-false _ _ e1.0;
      number_to = ltb-false _ _ e2.0;
      sure_to = ltb-false _ _ e3.0;
      second_to = ltb-false _ _ e4.0;
      may_to = ltb-false _ _ e5.0;
      waits_to = ltb-false _ _ e6.0;
      other_to = ltb-false _ _ e6.1;
    }

none_set : (w : Watch) → w.started ≡ 0 → some_set w ≡ false → CanBe w
unfolding some_set
none_set w z e =
    let e1 = neither _ _ e in
    let e2 = neither _ _ e1.1 in
    let e3 = neither _ _ e2.1 in
    let e4 = neither _ _ e3.1 in
    let e5 = neither _ _ e4.1 in
    let number : w.number ≡ 0 = none_there _ e1.0 in
    let sure : w.sure ≡ 0 = none_there _ e2.0 in
    let second : w.second ≡ 0 = none_there _ e3.0 in
    let may : w.may ≡ 0 = none_there _ e4.0 in
    let waits : w.waits ≡ 0 = none_there _ e5.0 in
    let other : w.other ≡ 0 = none_there _ e5.1 in
    record {
      started_to = omega arith;
      sure_to = omega arith;
      waits_to = omega arith;
      number_to = omega arith;
      either = omega arith;
      second_to = omega arith;
      may_sure = omega arith;
      may_waits = omega arith;
      other_to = omega arith;
    }

-- so many started cells: sure or waiting
module _ (w : Watch) (s : Small w) (one : w.started ≡ 1) where
  new_can_be : w.sure ≡ 0 → w.waits ≡ 1 → w.second ≡ 0 → w.may ≡ 0 → CanBe w
  new_can_be a b d e =
      record {
        started_to = omega arith;
        sure_to = omega arith;
        waits_to = omega arith;
        number_to = omega arith;
        either = omega arith;
        second_to = omega arith;
        may_sure = omega arith;
        may_waits = omega arith;
        other_to = omega arith;
      }

  sure_can_be : w.sure ≡ 1 → w.may ≤ 15 * w.waits → w.other ≤ 15 * w.waits → CanBe w
  sure_can_be a b d =
      record {
        started_to = omega arith;
        sure_to = omega arith;
        waits_to = omega arith;
        number_to = omega arith;
        either = omega arith;
        second_to = omega arith;
        may_sure = omega arith;
        may_waits = omega arith;
        other_to = omega arith;
      }

  none_unlike : unlike w ≡ false → CanBe w
  unfolding unlike
  none_unlike e =
      split (eqb w.sure 0)
      (λ t.
      let no_sure : w.sure ≡ 0 = eqb-true _ 0 t in
      let e1 = neither _ _ (rw t at e) in
      let e2 = neither _ _ e1.1 in
      let some : w.waits ≡ 0 → ⊥ = eqb-false _ 0 e1.0 in
      new_can_be no_sure (omega arith) (none_there _ e2.0) (none_there _ e2.1))
      (λ f.
      let some : w.sure ≡ 0 → ⊥ = eqb-false _ 0 f in
      let is-sure : w.sure ≡ 1 = omega arith in
      split (eqb w.waits 0)
      (λ t.
      let e1 = neither _ _ (both_none _ _ (rw f at e) t) in
      let none : w.waits ≡ 0 = eqb-true _ 0 t in
      let may : w.may ≡ 0 = none_there _ e1.0 in
      let other : w.other ≡ 0 = none_there _ e1.1 in
      sure_can_be is-sure (omega arith) (omega arith))
      (λ g.
      let waits : w.waits ≡ 0 → ⊥ = eqb-false _ 0 g in
      sure_can_be is-sure (omega arith) (omega arith)))

pub can_be_lem : (w : Watch) → watch_refused w ≡ false → CanBe w
unfolding watch_refused
can_be_lem w e =
    let e1 = neither _ _ e in
    let s = small w e1.0 in
    split (eqb w.started 0)
    (λ t. none_set w (eqb-true _ 0 t) (rw t at e1.1))
    (λ f.
    let some : w.started ≡ 0 → ⊥ = eqb-false _ 0 f in
    none_unlike w s (omega arith) (rw f at e1.1))

not_large : (w : Watch) → CanBe w → is_too_large w ≡ false
unfolding is_too_large
not_large w k =
    rw (
      le-ltb 1 w.started (omega arith),
      le-ltb 15 w.number (omega arith),
      le-ltb 1 w.sure (omega arith),
      le-ltb 15 w.second (omega arith),
      le-ltb 15 w.may (omega arith),
      le-ltb 1 w.waits (omega arith),
      le-ltb 15 w.other (omega arith),
    )

not_set : (w : Watch) → CanBe w → w.started ≡ 0 → some_set w ≡ false
unfolding some_set
not_set w k z =
    rw (
      eq-eqb w.number 0 (omega arith),
      eq-eqb w.sure 0 (omega arith),
      eq-eqb w.second 0 (omega arith),
      eq-eqb w.may 0 (omega arith),
      eq-eqb w.waits 0 (omega arith),
      eq-eqb w.other 0 (omega arith),
    )

not_unlike : (w : Watch) → CanBe w → w.started ≡ 1 → unlike w ≡ false
unfolding unlike
not_unlike w k one =
    split (eqb w.sure 0)
    (λ t.
    let no_sure : w.sure ≡ 0 = eqb-true _ 0 t in
    rw (t, ne_eqb w.waits 0 (omega arith), eq-eqb w.second 0 (omega arith), eq-eqb w.may 0 (omega arith)))
    (λ f.
    rw f
    (split (eqb w.waits 0)
    (λ t.
    let no-waits : w.waits ≡ 0 = eqb-true _ 0 t in
    rw (t, eq-eqb w.may 0 (omega arith), eq-eqb w.other 0 (omega arith)))
    (λ g. rw g)))

pub not_refused : (w : Watch) → CanBe w → watch_refused w ≡ false
unfolding watch_refused
not_refused w k =
    rw (not_large w k)
    (split (eqb w.started 0)
    (λ t. let none : w.started ≡ 0 = eqb-true _ 0 t in rw t (not_set w k none))
    (λ f. let some : w.started ≡ 0 → ⊥ = eqb-false _ 0 f in rw f (not_unlike w k (omega arith))))

-- a report that follows
pub record Follows (w : Watch) (missing number second : ℕ) : Type 0 where
  pub number_to : number ≤ 15
  pub second_to : second ≤ 15
  pub missing_to : missing ≤ 14
  pub at_first : w.started ≡ 0 → missing ≡ 0
  pub later : (w.started ≡ 0 → ⊥) → suc missing ≡ difference_of number w.number

pub follows : (w : Watch) (missing number second : ℕ) → report_refused w missing number second ≡ false → Follows w missing number second
unfolding report_refused
follows w missing number second e =
    let e1 = neither _ _ e in
    let e2 = neither _ _ e1.1 in
    let e3 = neither _ _ e2.1 in
    record {
      number_to = ltb-false _ _ e2.0;
      second_to = ltb-false _ _ e3.0;
      missing_to = ltb-false _ _ e1.0;
      at_first = λ z. none_there missing (rw (eq-eqb w.started 0 z) at e3.1);
      later =
          λ some.
          let d : not (eqb (suc missing) (difference_of number w.number)) ≡ false = rw (ne_eqb w.started 0 some) at e3.1 in
          split (eqb (suc missing) (difference_of number w.number))
          (λ t. eqb-true _ _ t)
          (λ f. absurd (true≢false (sym (ap not f) ∙ d)));
    }

pub follows_first : (w : Watch) (number second : ℕ) → w.started ≡ 0 → number ≤ 15 → second ≤ 15 → report_refused w 0 number second ≡ false
unfolding report_refused
follows_first w number second z a b = rw (le-ltb 15 number a, le-ltb 15 second b, eq-eqb w.started 0 z)

pub follows_later : (w : Watch) (missing number second : ℕ) → (w.started ≡ 0 → ⊥) → missing ≤ 14 → number ≤ 15 → second ≤ 15
    → suc missing ≡ difference_of number w.number → report_refused w missing number second ≡ false
unfolding report_refused
follows_later w missing number second some m a b e =
    rw (le-ltb 14 missing m, le-ltb 15 number a, le-ltb 15 second b, ne_eqb w.started 0 some, eq-eqb (suc missing) (difference_of number w.number) e)

-- the watches that can be
module _ (w : Watch) (number : w.number ≤ 15) where
  pub nothing_can : w.started ≡ 0 → w.number ≡ 0 → w.sure ≡ 0 → w.second ≡ 0 → w.may ≡ 0 → w.waits ≡ 0 → w.other ≡ 0 → CanBe w
  nothing_can a b c d e f g =
      record {
        started_to = omega arith;
        sure_to = omega arith;
        waits_to = omega arith;
        number_to = omega arith;
        either = omega arith;
        second_to = omega arith;
        may_sure = omega arith;
        may_waits = omega arith;
        other_to = omega arith;
      }

  pub new_can : w.started ≡ 1 → w.sure ≡ 0 → w.second ≡ 0 → w.may ≡ 0 → w.waits ≡ 1 → w.other ≤ 15 → CanBe w
  new_can a b c d e f =
      record {
        started_to = omega arith;
        sure_to = omega arith;
        waits_to = omega arith;
        number_to = omega arith;
        either = omega arith;
        second_to = omega arith;
        may_sure = omega arith;
        may_waits = omega arith;
        other_to = omega arith;
      }

  pub sure_can : w.started ≡ 1 → w.sure ≡ 1 → w.second ≤ 15 → w.waits ≤ 1 → w.may ≤ 15 * w.waits → w.other ≤ 15 * w.waits → CanBe w
  sure_can a b c d e f =
      record {
        started_to = omega arith;
        sure_to = omega arith;
        waits_to = omega arith;
        number_to = omega arith;
        either = omega arith;
        second_to = omega arith;
        may_sure = omega arith;
        may_waits = omega arith;
        other_to = omega arith;
      }
