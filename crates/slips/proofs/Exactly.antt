-- The watch over rows of cells of a sender that counts blocks: every slip is told, one cell later.
-- Assumes nothing.
use mathlib.Core.List.{List, [], ◌∷◌, ◌++◌, map}
use mathlib.Core.Path.{◌≡◌, refl, sym, ◌∙◌, ap, ap₂}
use Prim.Native.Nat.{ℕ, suc, ◌+◌, ◌*◌, ◌/◌, ◌%◌, ◌≤◌}
use native.Mathlib.Omega.{arith}
use lib.Dec.{eqb}
use borrow.Author.Tests.{eqb-true, eqb-false, le-ltb}
use Rattle.runs.proofs.Laws.{split}
use Rattle.numbers.specs.Numbers.{difference_of}
use Rattle.slips.specs.Slips.{starts_of, behind_of}
use Rattle.slips.specs.Watch.{Watch, Stepped, begun, in_step_of, out_of_step, told, may_after, slipped, sure_step, new_step}
use Rattle.slips.specs.Reports.{Report, watched_from, no_watch, Spaced, SpacedOut}
use Rattle.slips.proofs.Laws.{CanBe, sure_can, not_refused}
use Rattle.slips.proofs.Rows.{Follow, Chain, Counted, second_up, goes_on}
use Rattle.slips.proofs.Steps.{step_new, step_sure, new_agrees, sure_slipped, settled_in, settled_out, agrees_with_lem}
use Rattle.slips.proofs.Told.{starts_on, same_sixteens, behind_is, few_starts}
use Rattle.slips.proofs.Watched.{
  by_of,
  step_by,
  tells,
  one_0,
  up_on,
  tells_slipped,
  slipped_watch,
  sixteen,
  by_few,
  follows_it,
  by_is,
  number_low,
  second_low,
  settled_is,
  new_watch_can,
  First,
  first_step,
}

below : (q s : ℕ) → s ≡ 8 * q → s ≤ 7 → q ≡ 0
below q s e few = omega arith

no_round : (a b s : ℕ) → a ≤ 2 → b ≤ 2 → s ≤ 7 → (a + 2 * s + b) % 16 ≡ a + b → s ≡ 0
no_round a b s low few most e =
    let half : s ≡ 8 * ((a + 2 * s + b) / 16) = omega arith in
    let none : (a + 2 * s + b) / 16 ≡ 0 = below ((a + 2 * s + b) / 16) s half most in
    half ∙ ap (λ (q : ℕ). 8 * q) none

seven : (k : ℕ) → k ≤ 119 → k / 16 ≤ 7
seven k few = omega arith

pub none_watched : (w : Watch) → watched_from w [] ++ (0 ∷ []) ≡ 0 ∷ []
unfolding watched_from
none_watched w = refl

-- a sender that counts blocks: a cell without a slip before it is in step, one with a slip is out of step
module _ {last r : Report} {k ups : ℕ} (f : Follow last r k ups) (all : ups ≡ starts_of last.number (suc k)) (few : k ≤ 119) where
  ups_is : ups ≡ by_of last k + 2 * (k / 16)
  ups_is =
      all ∙ starts_on last.number k
      ∙ ap₂ (λ (a b : ℕ). starts_of last.number a + 2 * b) (sym (sixteen f)) (same_sixteens k (goes_on f))

  up_exact : difference_of r.second last.second ≡ by_of last k + 2 * (k / 16)
  up_exact =
      second_up f ∙ ap (λ (n : ℕ). n % 16) all ∙ few_starts last.number k few ∙ sym all ∙ ups_is

  pub in_step : k / 16 ≡ 0 → step_by (in_step_of last.number last.second) r ≡ told (in_step_of r.number r.second) 0 0
  in_step none =
      let e : difference_of r.second last.second ≡ by_of last k = up_exact ∙ (let z = none in omega (arith, z)) in
      settled_is f 0 ∙ settled_in (in_step_of last.number last.second) r.number r.second (by_of last k) refl refl (by_few f) e

  pub out_of_step_lem : (k / 16 ≡ 0 → ⊥)
      → step_by (in_step_of last.number last.second) r
      ≡ told (out_of_step r.number last.second (by_of last k) r.second) 3
      (behind_of (difference_of r.second last.second) (by_of last k))
  out_of_step_lem some =
      settled_is f 0
      ∙ settled_out (in_step_of last.number last.second) r.number r.second (by_of last k) refl refl (by_few f)
      (λ e. some (let a = sym up_exact ∙ e in omega (arith, a)))

  -- and the next one, without a slip before it, tells it
  module _ (some : k / 16 ≡ 0 → ⊥) {s : Report} {j more : ℕ} (g : Follow r s j more) (all-on : more ≡ starts_of r.number (suc j))
      (none : j / 16 ≡ 0)
    where
      abbrev held_by : Watch
      held_by = out_of_step r.number last.second (by_of last k) r.second

      held_can : CanBe held_by
      held_can =
          let b = by_few f in
          let c = second_low f in
          sure_can held_by (number_low f) refl refl f.second_to (omega arith) (omega (arith, b)) (omega (arith, c))

      more_is : more ≡ by_of r j
      more_is =
          let low : suc j ≡ suc (j % 16) = (let z = none in omega (arith, z)) in
          all-on ∙ ap (starts_of r.number) low

      agrees_on : difference_of s.second r.second ≡ by_of r j
      agrees_on =
          let b = by_few g in
          let low : by_of r j % 16 ≡ by_of r j = omega (arith, b) in
          second_up g ∙ ap (λ (n : ℕ). n % 16) more_is ∙ low

      apart : difference_of s.second last.second ≡ may_after (by_of last k) (by_of r j) → ⊥
      unfolding may_after
      apart e =
          let b = by_few f in
          let d = by_few g in
          let may : may_after (by_of last k) (by_of r j) ≡ by_of last k + by_of r j = rw (le-ltb 15 (by_of last k + by_of r j) (omega (arith, b, d))) refl in
          let up : difference_of s.second last.second ≡ (ups + more) % 16 =
          ap (λ (n : ℕ). difference_of n last.second) g.second_is ∙ up_on r.second last.second ups more (second_up f) in
          let is : (by_of last k + 2 * (k / 16) + by_of r j) % 16 ≡ by_of last k + by_of r j =
          ap₂ (λ (a c : ℕ). (a + c) % 16) (sym ups_is) (sym more_is) ∙ sym up ∙ e ∙ may in
          some (no_round (by_of last k) (by_of r j) (k / 16) b d (seven k few) is)

      pub tells_slip : tells (step_by held_by s) ≡ 16 * (k / 16)
      tells_slip =
          ap tells slip_step ∙ tells_slipped s.number s.second _
          ∙ ap (λ (n : ℕ). behind_of n (by_of last k)) up_exact ∙ behind_is (by_of last k) (k / 16)
        where
          slip_step : step_by held_by s ≡ slipped s.number s.second (behind_of (difference_of r.second last.second) (by_of last k))
          slip_step =
              step_sure held_by s.missing s.number s.second (not_refused held_by held_can) (follows_it g held_by one_0 refl) one_0 one_0
              ∙ ap (sure_step held_by s.number s.second) (by_is g held_by refl)
              ∙ sure_slipped held_by s.number s.second (by_of r j) apart (agrees_with_lem held_by s.second (by_of r j) refl agrees_on)

      pub then_in_step : (step_by held_by s).watch ≡ in_step_of s.number s.second
      then_in_step =
          ap (λ (x : Stepped). x.watch)
          (step_sure held_by s.missing s.number s.second (not_refused held_by held_can) (follows_it g held_by one_0 refl) one_0 one_0
          ∙ ap (sure_step held_by s.number s.second) (by_is g held_by refl)
          ∙ sure_slipped held_by s.number s.second (by_of r j) apart (agrees_with_lem held_by s.second (by_of r j) refl agrees_on))
          ∙ slipped_watch s.number s.second _

-- what was lost before each cell beside what the numbers tell
abbrev pub slips_in : List ℕ → List ℕ
slips_in ks = map (λ (k : ℕ). 16 * (k / 16)) ks

one_more : (w : Watch) (r : Report) (rs : List Report) {n : ℕ} {v : Watch} {l : List ℕ} → tells (step_by w r) ≡ n → (step_by w r).watch ≡ v
    → watched_from v rs ++ (0 ∷ []) ≡ l → watched_from w (r ∷ rs) ++ (0 ∷ []) ≡ n ∷ l
unfolding watched_from
one_more w r rs a b c =
    ap₂ (λ (n : ℕ) (l : List ℕ). n ∷ l) a (ap (λ (x : Watch). watched_from x rs ++ (0 ∷ [])) b ∙ c)

pub settled_exact : (last : Report) (rs : List Report) (ks : List ℕ) → Chain Counted last rs ks → Spaced ks
    → watched_from (in_step_of last.number last.second) rs ++ (0 ∷ []) ≡ 0 ∷ slips_in ks
unfolding Chain Spaced
settled_exact last [] [] c spaced = none_watched _
settled_exact last [] (k ∷ ks) c spaced = absurd c
settled_exact last (r ∷ rs) [] c spaced = absurd c
settled_exact last (r ∷ []) (k ∷ []) c spaced =
    let e = in_step c.0.1 c.0.2.0 c.0.2.1 spaced in
    one_more (in_step_of last.number last.second) r [] (ap tells e) (ap (λ (x : Stepped). x.watch) e) (none_watched _)
    ∙ ap (λ (n : ℕ). 0 ∷ n ∷ []) (sym (ap (λ (n : ℕ). 16 * n) spaced))
settled_exact last (r ∷ []) (k ∷ j ∷ ks) c spaced = absurd c.1
settled_exact last (r ∷ s ∷ rs) (k ∷ []) c spaced = absurd c.1
settled_exact last (r ∷ s ∷ rs) (k ∷ j ∷ ks) c spaced =
    split (eqb (k / 16) 0)
    (λ t.
    let none : k / 16 ≡ 0 = eqb-true _ 0 t in
    let e = in_step c.0.1 c.0.2.0 c.0.2.1 none in
    one_more (in_step_of last.number last.second) r (s ∷ rs) (ap tells e) (ap (λ (x : Stepped). x.watch) e)
    (settled_exact r (s ∷ rs) (j ∷ ks) c.1 (spaced.0 none))
    ∙ ap (λ (n : ℕ). 0 ∷ n ∷ slips_in (j ∷ ks)) (sym (ap (λ (n : ℕ). 16 * n) none)))
    (λ g.
    let some : k / 16 ≡ 0 → ⊥ = eqb-false _ 0 g in
    let on = spaced.1 some in
    let e = out_of_step_lem c.0.1 c.0.2.0 c.0.2.1 some in
    one_more (in_step_of last.number last.second) r (s ∷ rs) (ap tells e) (ap (λ (x : Stepped). x.watch) e)
    (one_more (out_of_step r.number last.second (by_of last k) r.second) s rs
    (tells_slip c.0.1 c.0.2.0 c.0.2.1 some c.1.0.1 c.1.0.2.0 on.0)
    (then_in_step c.0.1 c.0.2.0 c.0.2.1 some c.1.0.1 c.1.0.2.0 on.0)
    (settled_exact s rs ks c.1.1 on.1
    ∙ ap (λ (n : ℕ). n ∷ slips_in ks) (sym (ap (λ (n : ℕ). 16 * n) on.0)))))

-- one that counts blocks: every slip is told, one cell later
begun_agrees : {last r : Report} {k ups : ℕ} (f : Follow last r k ups) → ups ≡ starts_of last.number (suc k) → k ≤ 119 → k / 16 ≡ 0
    → step_by (begun last.number last.second) r ≡ told (in_step_of r.number r.second) 0 0
begun_agrees {last} {r} {k} f all few none =
    let w = begun last.number last.second in
    step_new w r.missing r.number r.second (not_refused w (new_watch_can f 0)) (follows_it f w one_0 refl) one_0 refl
    ∙ ap (new_step w r.number r.second) (by_is f w refl)
    ∙ new_agrees w r.number r.second (by_of last k)
    (agrees_with_lem w r.second (by_of last k) refl (up_exact f all few ∙ (let z = none in omega (arith, z))))

pub watch_exact : (r : Report) (rs : List Report) (k : ℕ) (ks : List ℕ) → First r → k / 16 ≡ 0 → Chain Counted r rs ks
    → SpacedOut (k ∷ ks) → watched_from no_watch (r ∷ rs) ++ (0 ∷ []) ≡ 0 ∷ slips_in (k ∷ ks)
unfolding Chain SpacedOut
watch_exact r [] k [] f none c spaced =
    let e = first_step r f in
    one_more no_watch r [] (ap tells e) (ap (λ (x : Stepped). x.watch) e) (none_watched _)
    ∙ ap (λ (n : ℕ). 0 ∷ n ∷ []) (sym (ap (λ (n : ℕ). 16 * n) none))
watch_exact r [] k (j ∷ ks) f none c spaced = absurd c
watch_exact r (s ∷ rs) k [] f none c spaced = absurd c
watch_exact r (s ∷ rs) k (j ∷ ks) f none c spaced =
    let e = first_step r f in
    let a = begun_agrees c.0.1 c.0.2.0 c.0.2.1 spaced.0 in
    one_more no_watch r (s ∷ rs) (ap tells e) (ap (λ (x : Stepped). x.watch) e)
    (one_more (begun r.number r.second) s rs (ap tells a) (ap (λ (x : Stepped). x.watch) a)
    (settled_exact s rs ks c.1 spaced.1))
    ∙ ap₂ (λ (m n : ℕ). 0 ∷ m ∷ n ∷ slips_in ks) (sym (ap (λ (n : ℕ). 16 * n) none)) (sym (ap (λ (n : ℕ). 16 * n) spaced.0))
