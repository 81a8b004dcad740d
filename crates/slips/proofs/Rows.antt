-- Slips over rows of cells that are taken, of any sender and of one that counts blocks: by two cells, and by the watch.
-- Assumes nothing.
use mathlib.Core.List.{List, [], ◌∷◌, map}
use mathlib.Core.Path.{◌≡◌, refl, sym, ◌∙◌, ap, ap₂, subst}
use Prim.Native.Nat.{ℕ, suc, ◌+◌, ◌*◌, ◌/◌, ◌%◌, ◌≤◌}
use native.Mathlib.Omega.{arith}
use Rattle.numbers.specs.Numbers.{difference_of}
use Rattle.slips.specs.Slips.{starts_of, behind_of, slip_of}
use Rattle.slips.specs.Reports.{Report, told_after, NeverLonger}
use Rattle.slips.proofs.Told.{behind_sixteens, never_too_long, exact_119}

-- two cells that are taken one after the other, `k` being sent between them: `ups` cells after the first one raised the second number,
-- each of them a block start
pub record Follow (last r : Report) (k ups : ℕ) : Type 0 where
  pub last_to : last.number ≤ 15
  pub number_is : r.number ≡ (last.number + suc k) % 16
  pub missing_is : r.missing ≡ k % 16
  pub turns : k % 16 ≡ 15 → ⊥
  pub second_to : last.second ≤ 15
  pub second_is : r.second ≡ (last.second + ups) % 16
  pub ups_to : ups ≤ starts_of last.number (suc k)

-- a row of them. `More` is what else is so of the last number, of how many were sent, and of how often the second number went up
unfoldable pub Chain : (ℕ → ℕ → ℕ → Type 0) → Report → List Report → List ℕ → Type 0
Chain More last [] [] = Unit {0}
Chain More last [] (k ∷ ks) = ⊥
Chain More last (r ∷ rs) [] = ⊥
Chain More last (r ∷ rs) (k ∷ ks) = ((ups : ℕ) × Follow last r k ups × More last.number k ups) × Chain More r rs ks

-- any sender
abbrev pub Any : ℕ → ℕ → ℕ → Type 0
Any last k ups = Unit {0}

-- one that counts blocks, at most 119 cells being sent between two that are taken
abbrev pub Counted : ℕ → ℕ → ℕ → Type 0
Counted last k ups = (ups ≡ starts_of last (suc k)) × (k ≤ 119)

up_by : (s ups : ℕ) → s ≤ 15 → difference_of ((s + ups) % 16) s ≡ ups % 16
unfolding difference_of
up_by s ups small = omega arith

module _ {last r : Report} {k ups : ℕ} (f : Follow last r k ups) where
  pub second_up : difference_of r.second last.second ≡ ups % 16
  second_up = ap (λ (n : ℕ). difference_of n last.second) f.second_is ∙ up_by last.second ups f.second_to

  pub number_up : difference_of r.number last.number ≡ suc k % 16
  number_up = ap (λ (n : ℕ). difference_of n last.number) f.number_is ∙ up_by last.number (suc k) f.last_to

  pub goes_on : suc k % 16 ≡ 0 → ⊥
  goes_on e = f.turns (omega (arith, e))

  slip_is : slip_of last.number last.second r.number r.second ≡ behind_of (ups % 16) (starts_of last.number (suc k % 16))
  unfolding slip_of
  slip_is = ap₂ (λ (a b : ℕ). behind_of a (starts_of last.number b)) second_up number_up

  pub told_few : slip_of last.number last.second r.number r.second ≤ 16 * (k / 16)
  told_few = subst (λ (n : ℕ). n ≤ 16 * (k / 16)) (sym slip_is) (never_too_long last.number k ups f.ups_to goes_on)

  pub told_sixteens : slip_of last.number last.second r.number r.second % 16 ≡ 0
  unfolding slip_of
  told_sixteens = behind_sixteens _ _

  pub told_exact : ups ≡ starts_of last.number (suc k) → k ≤ 119
      → slip_of last.number last.second r.number r.second ≡ 16 * (k / 16)
  told_exact all few =
      slip_is ∙ ap (λ (n : ℕ). behind_of (n % 16) (starts_of last.number (suc k % 16))) all ∙ exact_119 last.number k few goes_on

-- never too long
pub rows_never_longer : (More : ℕ → ℕ → ℕ → Type 0) (last : Report) (rs : List Report) (ks : List ℕ) → Chain More last rs ks
    → NeverLonger (told_after last rs) ks
unfolding Chain NeverLonger told_after
rows_never_longer More last [] [] c = tt
rows_never_longer More last [] (k ∷ ks) c = absurd c
rows_never_longer More last (r ∷ rs) [] c = absurd c
rows_never_longer More last (r ∷ rs) (k ∷ ks) c =
    (told_sixteens c.0.1, told_few c.0.1, rows_never_longer More r rs ks c.1)

-- exact
pub rows_exact : (last : Report) (rs : List Report) (ks : List ℕ) → Chain Counted last rs ks
    → told_after last rs ≡ map (λ (k : ℕ). 16 * (k / 16)) ks
unfolding Chain told_after
rows_exact last [] [] c = refl
rows_exact last [] (k ∷ ks) c = absurd c
rows_exact last (r ∷ rs) [] c = absurd c
rows_exact last (r ∷ rs) (k ∷ ks) c =
    ap₂ (λ (n : ℕ) (l : List ℕ). n ∷ l) (told_exact c.0.1 c.0.2.0 c.0.2.1) (rows_exact r rs ks c.1)
