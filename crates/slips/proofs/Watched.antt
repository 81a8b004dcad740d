-- The watch over rows of cells that are taken: what it tells is never more than what slipped, and of a sender that counts blocks it is
-- what slipped, one cell later.
-- Assumes nothing.
use mathlib.Core.Bool.{false, cond}
use mathlib.Core.List.{List, [], ◌∷◌}
use mathlib.Core.Path.{◌≡◌, refl, sym, ◌∙◌, ap, ap₂, subst}
use Prim.Native.Nat.{ℕ, suc, ◌+◌, ◌*◌, ◌/◌, ◌%◌, ◌-◌, ◌≤◌, ◌<◌}
use native.Mathlib.Omega.{arith}
use lib.Dec.{eqb, ltb}
use borrow.Author.Tests.{eqb-true, eqb-false, ne_eqb, le-ltb, lt-ltb, ltb-true, ltb-false}
use Rattle.runs.proofs.Laws.{split}
use Rattle.numbers.specs.Numbers.{difference_of}
use Rattle.slips.specs.Slips.{starts_of, behind_of}
use Rattle.slips.specs.Watch.{Watch, Stepped, report_refused, begun, in_step_of, out_of_step, told, may_after, agrees_with, slipped, sure_step, new_step, step_of}
use Rattle.slips.specs.Reports.{Report, watched_from, no_watch, NeverAhead}
use Rattle.slips.proofs.Laws.{CanBe, nothing_can, new_can, sure_can, not_refused, follows_first, follows_later}
use Rattle.slips.proofs.Rows.{Follow, Chain, second_up, number_up, goes_on}
use Rattle.slips.proofs.Steps.{step_first, step_new, step_sure, new_agrees, new_begins, sure_in_step, sure_slipped, sure_out, settled_in, settled_out}
use Rattle.slips.proofs.Told.{starts_on, same_sixteens, behind_sixteens, behind_below}

starts_few : (n m : ℕ) → n ≤ 15 → m ≤ 15 → starts_of n m ≤ 2
unfolding starts_of
starts_few n m a b = omega arith

next_small : (n k : ℕ) → (n + suc k) % 16 ≤ 15
next_small n k = omega arith

-- what a step tells before the cell before
abbrev pub tells : Stepped → ℕ
tells s = cond (eqb s.what 1) s.cells 0

abbrev pub step_by : Watch → Report → Stepped
step_by w r = step_of w r.missing r.number r.second

-- block starts between two cells that are taken one after the other, by the numbers
abbrev pub by_of : Report → ℕ → ℕ
by_of last k = starts_of last.number (suc (k % 16))

module _ {last r : Report} {k ups : ℕ} (f : Follow last r k ups) where
  missing_low : r.missing ≤ 14
  missing_low = let m = f.missing_is in let t = f.turns in let e : k % 16 ≤ 15 = omega arith in omega arith

  pub number_low : r.number ≤ 15
  number_low = subst (λ (n : ℕ). n ≤ 15) (sym f.number_is) (next_small last.number k)

  pub second_low : r.second ≤ 15
  second_low = subst (λ (n : ℕ). n ≤ 15) (sym f.second_is) (let e : (last.second + ups) % 16 ≤ 15 = omega arith in e)

  pub sixteen : suc (k % 16) ≡ suc k % 16
  sixteen = let t = f.turns in omega arith

  pub by_few : by_of last k ≤ 2
  by_few = starts_few last.number (suc (k % 16)) f.last_to (let t = f.turns in omega arith)

  pub follows_it : (w : Watch) → (w.started ≡ 0 → ⊥) → w.number ≡ last.number
      → report_refused w r.missing r.number r.second ≡ false
  follows_it w some same =
      follows_later w r.missing r.number r.second some missing_low number_low second_low
      (ap suc f.missing_is ∙ sixteen ∙ sym (number_up f) ∙ ap (difference_of r.number) (sym same))

  -- so many block starts were passed
  ups_by : ups ≤ by_of last k + 2 * (k / 16)
  ups_by =
      subst (λ (n : ℕ). ups ≤ starts_of last.number n + 2 * (k / 16)) (sym sixteen)
      (let a = starts_on last.number k in let b = same_sixteens k (goes_on f) in let c = f.ups_to in omega (arith, a, b, c))

  pub by_is : (w : Watch) → w.number ≡ last.number → starts_of w.number (suc r.missing) ≡ by_of last k
  by_is w same = ap₂ (λ (n m : ℕ). starts_of n (suc m)) same f.missing_is

-- the watch's three stages after a cell; the last one: the cell in step had second number `kept`, since when second numbers went up `up`
-- times over `by` block starts and `slips` sixteens more
pub data Stage : Type 0 where
  new : Stage
  settled : Stage
  waiting : ℕ → ℕ → ℕ → ℕ → Stage

abbrev capped : ℕ → ℕ
capped by = cond (ltb 15 by) 15 by

abbrev watch_at : Stage → Report → Watch
watch_at new last = begun last.number last.second
watch_at settled last = in_step_of last.number last.second
watch_at (waiting kept up by slips) last = out_of_step last.number kept (capped by) last.second

abbrev Keeps : Stage → Report → ℕ → Type 0
Keeps new last spare = Unit {0}
Keeps settled last spare = Unit {0}
Keeps (waiting kept up by slips) last spare =
    (kept ≤ 15) × (difference_of last.second kept ≡ up % 16) × (up ≤ by + 2 * slips) × (16 * slips ≤ spare)

-- a step: it tells at most what is spare, and goes on in a stage
record Stepping (stage : Stage) (last r : Report) (k spare : ℕ) : Type 0 where
  next : Stage
  cells : ℕ
  tells_it : tells (step_by (watch_at stage last) r) ≡ cells
  leaves : (step_by (watch_at stage last) r).watch ≡ watch_at next r
  sixteens : cells % 16 ≡ 0
  within : cells ≤ spare
  keeps : Keeps next r (spare - cells + 16 * (k / 16))

-- a step that tells nothing
silent : {stage : Stage} {last r : Report} {k spare : ℕ} (next : Stage) (w : Watch) (what cells : ℕ) → w ≡ watch_at next r
    → (what ≡ 1 → ⊥) → step_by (watch_at stage last) r ≡ told w what cells → Keeps next r (spare - 0 + 16 * (k / 16))
    → Stepping stage last r k spare
silent next w what cells at other e keeps =
    record {
      next = next;
      cells = 0;
      tells_it = ap tells e ∙ rw (ne_eqb what 1 other);
      leaves = ap (λ (s : Stepped). s.watch) e ∙ at;
      sixteens = refl;
      within = omega arith;
      keeps = keeps;
    }

pub slipped_watch : (n s c : ℕ) → (slipped n s c).watch ≡ in_step_of n s
unfolding slipped
slipped_watch n s c = refl

none_1 : ◌≡◌ {A = ℕ} 0 1 → ⊥
none_1 e = omega arith

two_1 : ◌≡◌ {A = ℕ} 2 1 → ⊥
two_1 e = omega arith

three_1 : ◌≡◌ {A = ℕ} 3 1 → ⊥
three_1 e = omega arith

pub tells_slipped : (n s c : ℕ) → tells (slipped n s c) ≡ c
unfolding slipped
tells_slipped n s c =
    split (eqb c 0) (λ t. let z : c ≡ 0 = eqb-true c 0 t in rw t (sym z)) (λ f. rw f refl)

pub up_on : (s kept up ups : ℕ) → difference_of s kept ≡ up % 16 → difference_of ((s + ups) % 16) kept ≡ (up + ups) % 16
unfolding difference_of
up_on s kept up ups e = omega arith

capped_on : (by more : ℕ) → may_after (capped by) more ≡ capped (by + more)
unfolding may_after
capped_on by more =
    split (ltb 15 by)
    (λ t.
    let large : 15 < by = ltb-true 15 by t in
    rw (t, lt-ltb 15 (by + more) (omega arith))
    (split (ltb 15 (15 + more))
    (λ u. rw u refl)
    (λ u. let few : 15 + more ≤ 15 = ltb-false 15 (15 + more) u in rw u (omega arith))))
    (λ f. rw f refl)

capped_low : (by : ℕ) → by ≤ 2 → capped by ≡ by
capped_low by few = rw (le-ltb 15 by (omega arith)) refl

capped_behind : (up by slips : ℕ) → up ≤ by + 2 * slips → behind_of (up % 16) (capped by) ≤ 16 * slips
capped_behind up by slips few =
    split (ltb 15 by)
    (λ t. rw t (behind_below (up % 16) 15 slips (let low : up % 16 ≤ 15 = omega arith in omega arith)))
    (λ f. rw f (behind_below (up % 16) by slips (let low : up % 16 ≤ up = omega arith in omega arith)))

pub one_0 : ◌≡◌ {A = ℕ} 1 0 → ⊥
one_0 e = omega arith

module _ {last r : Report} {k ups : ℕ} (f : Follow last r k ups) (spare : ℕ) where
  pub new_watch_can : CanBe (begun last.number last.second)
  new_watch_can = new_can (begun last.number last.second) f.last_to refl refl refl refl refl f.second_to

  new_steps : Stepping new last r k spare
  new_steps =
      let w = begun last.number last.second in
      let e : step_by w r ≡ new_step w r.number r.second (by_of last k) =
      step_new w r.missing r.number r.second (not_refused w new_watch_can) (follows_it f w one_0 refl) one_0 refl
      ∙ ap (new_step w r.number r.second) (by_is f w refl) in
      split (agrees_with w r.second (by_of last k))
      (λ t. silent settled _ 0 0 refl none_1 (e ∙ new_agrees w r.number r.second (by_of last k) t) tt)
      (λ g. silent new _ 0 0 refl none_1 (e ∙ new_begins w r.number r.second (by_of last k) g) tt)

  settled_can : CanBe (in_step_of last.number last.second)
  settled_can =
      sure_can (in_step_of last.number last.second) f.last_to refl refl f.second_to (omega arith) (omega arith) (omega arith)

  pub settled_is : step_by (in_step_of last.number last.second) r
      ≡ sure_step (in_step_of last.number last.second) r.number r.second (by_of last k)
  settled_is =
      let w = in_step_of last.number last.second in
      step_sure w r.missing r.number r.second (not_refused w settled_can) (follows_it f w one_0 refl) one_0 one_0
      ∙ ap (sure_step w r.number r.second) (by_is f w refl)

  settled_steps : Stepping settled last r k spare
  settled_steps =
      let w = in_step_of last.number last.second in
      split (eqb (difference_of r.second last.second) (by_of last k))
      (λ t.
      silent settled _ 0 0 refl none_1
      (settled_is ∙ settled_in w r.number r.second (by_of last k) refl refl (by_few f) (eqb-true _ _ t)) tt)
      (λ g.
      silent (waiting last.second ups (by_of last k) (k / 16)) _ 3 _
      (ap (λ (m : ℕ). out_of_step r.number last.second m r.second) (sym (capped_low (by_of last k) (by_few f)))) three_1
      (settled_is ∙ settled_out w r.number r.second (by_of last k) refl refl (by_few f) (eqb-false _ _ g))
      (f.second_to, second_up f, ups_by f, omega arith))

  module _ (kept up by slips : ℕ) (keeps : Keeps (waiting kept up by slips) last spare) where
    abbrev held : Watch
    held = out_of_step last.number kept (capped by) last.second

    capped_to : capped by ≤ 15
    capped_to =
        split (ltb 15 by) (λ t. rw t (omega arith)) (λ g. let low : by ≤ 15 = ltb-false 15 by g in rw g low)

    waiting_can : CanBe held
    waiting_can =
        let c = capped_to in
        sure_can held f.last_to refl refl keeps.0 (omega arith) (omega (arith, c)) (let s = f.second_to in omega (arith, s))

    waiting_is : step_by held r ≡ sure_step held r.number r.second (by_of last k)
    waiting_is =
        step_sure held r.missing r.number r.second (not_refused held waiting_can) (follows_it f held one_0 refl) one_0 one_0
        ∙ ap (sure_step held r.number r.second) (by_is f held refl)

    told_within : behind_of (difference_of last.second kept) (capped by) ≤ spare
    told_within =
        let few = capped_behind up by slips keeps.2 in
        let room = keeps.3 in
        subst (λ (d : ℕ). behind_of d (capped by) ≤ spare) (sym keeps.1) (omega (arith, few, room))

    waiting_steps : Stepping (waiting kept up by slips) last r k spare
    waiting_steps =
        split (eqb (difference_of r.second kept) (may_after (capped by) (by_of last k)))
        (λ t.
        silent settled _ 2 0 refl two_1 (waiting_is ∙ sure_in_step held r.number r.second (by_of last k) (eqb-true _ _ t)) tt)
        (λ g.
        split (agrees_with held r.second (by_of last k))
        (λ t.
        let e = waiting_is ∙ sure_slipped held r.number r.second (by_of last k) (eqb-false _ _ g) t in
        record {
          next = settled;
          cells = behind_of (difference_of last.second kept) (capped by);
          tells_it = ap tells e ∙ tells_slipped r.number r.second (behind_of (difference_of last.second kept) (capped by));
          leaves = ap (λ (s : Stepped). s.watch) e ∙ slipped_watch r.number r.second _;
          sixteens = behind_sixteens _ _;
          within = told_within;
          keeps = tt;
        })
        (λ h.
        silent (waiting kept (up + ups) (by + by_of last k) (slips + k / 16)) _ 3 _
        (ap (λ (m : ℕ). out_of_step r.number kept m r.second) (capped_on by (by_of last k))) three_1
        (waiting_is ∙ sure_out held r.number r.second (by_of last k) (eqb-false _ _ g) h) (
          keeps.0,
          ap (λ (n : ℕ). difference_of n kept) f.second_is ∙ up_on last.second kept up ups keeps.1,
          let a = ups_by f in let b = keeps.2 in omega (arith, a, b),
          let b = keeps.3 in omega (arith, b),
        )))

steps : (stage : Stage) (last r : Report) (k ups spare : ℕ) → Follow last r k ups → Keeps stage last spare → Stepping stage last r k spare
steps new last r k ups spare f keeps = new_steps f spare
steps settled last r k ups spare f keeps = settled_steps f spare
steps (waiting kept up by slips) last r k ups spare f keeps = waiting_steps f spare kept up by slips keeps

pub stages_never_ahead : (More : ℕ → ℕ → ℕ → Type 0) (stage : Stage) (last : Report) (spare : ℕ) (rs : List Report) (ks : List ℕ)
    → Keeps stage last spare → Chain More last rs ks → NeverAhead spare (watched_from (watch_at stage last) rs) ks
unfolding Chain NeverAhead watched_from
stages_never_ahead More stage last spare [] [] keeps c = tt
stages_never_ahead More stage last spare [] (k ∷ ks) keeps c = absurd c
stages_never_ahead More stage last spare (r ∷ rs) [] keeps c = absurd c
stages_never_ahead More stage last spare (r ∷ rs) (k ∷ ks) keeps c =
    let s = steps stage last r k c.0.0 spare c.0.1 keeps in
    let on = stages_never_ahead More s.next r (spare - s.cells + 16 * (k / 16)) rs ks s.keeps c.1 in
    subst
    (λ (n : ℕ).
    (n % 16 ≡ 0)
    × (n ≤ spare)
    × NeverAhead (spare - n + 16 * (k / 16)) (watched_from (step_by (watch_at stage last) r).watch rs) ks)
    (sym s.tells_it) (
      s.sixteens,
      s.within,
      subst (λ (w : Watch). NeverAhead (spare - s.cells + 16 * (k / 16)) (watched_from w rs) ks) (sym s.leaves) on,
    )

-- from the start
pub record First (r : Report) : Type 0 where
  pub none_missing : r.missing ≡ 0
  pub number_to : r.number ≤ 15
  pub second_to : r.second ≤ 15

pub first_step : (r : Report) → First r → step_by no_watch r ≡ told (begun r.number r.second) 0 0
first_step r f =
    step_first no_watch r.missing r.number r.second (not_refused no_watch (nothing_can no_watch (omega arith) refl refl refl refl refl refl refl))
    (subst (λ (m : ℕ). report_refused no_watch m r.number r.second ≡ false) (sym f.none_missing)
    (follows_first no_watch r.number r.second refl f.number_to f.second_to))
    refl

-- any sender: nothing is told that didn't slip
pub watch_never_ahead : (More : ℕ → ℕ → ℕ → Type 0) (r : Report) (rs : List Report) (k : ℕ) (ks : List ℕ) → First r → Chain More r rs ks
    → NeverAhead 0 (watched_from no_watch (r ∷ rs)) (k ∷ ks)
unfolding NeverAhead watched_from
watch_never_ahead More r rs k ks f c =
    let e = first_step r f in
    subst
    (λ (s : Stepped). (tells s % 16 ≡ 0) × (tells s ≤ 0) × NeverAhead (0 - tells s + 16 * (k / 16)) (watched_from s.watch rs) ks)
    (sym e)
    (refl, omega arith, stages_never_ahead More new r (0 - 0 + 16 * (k / 16)) rs ks tt c)
