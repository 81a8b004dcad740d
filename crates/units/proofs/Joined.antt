-- Laws of parts that are joined: cut in two, and joined in groups.
-- Assumes nothing.
use mathlib.Core.Bool.{false}
use mathlib.Core.List.{List, [], ◌∷◌, ◌++◌, append-nil, append_assoc}
use mathlib.Core.Path.{◌≡◌, refl, sym, ◌∙◌, ap, ap₂}
use Prim.Native.Nat.{ℕ, zero, suc, ◌+◌, ◌*◌, ◌/◌, ◌%◌, ◌≤◌, ◌<◌}
use native.Mathlib.Nat.{add-zero, add-suc, zero-mul, suc-mul, add-mul, div-add-mod'}
use native.Mathlib.Numerals.{add-one}
use native.Mathlib.Omega.{arith}
use borrow.Author.Tests.{lt-ltb, le-ltb, eqb-true}
use lib.Dec.{eqb}
use lib.ListN.{length, take, drop}
use lib.Seq.{take_at, drop_at}
use Rattle.runs.specs.Runs.{tab, joined}
use Rattle.runs.proofs.Laws.{split, length_joined}
use Rattle.units.specs.Units.{frames_in, units_of}

pub joined_same : (f g : ℕ → List ℕ) (n : ℕ) → ((k : ℕ) → k < n → f k ≡ g k) → joined f n ≡ joined g n
unfolding joined
joined_same f g zero each = refl
joined_same f g (suc n) each =
    ap₂ (λ (a b : List ℕ). a ++ b) (joined_same f g n (λ k h. each k (omega arith))) (each n (omega arith))

pub joined_add : (g : ℕ → List ℕ) (m n : ℕ) → joined g (m + n) ≡ joined g m ++ joined (λ j. g (m + j)) n
unfolding joined
joined_add g m zero = ap (joined g) (add-zero m) ∙ sym (append-nil (joined g m))
joined_add g m (suc n) =
    ap (joined g) (add-suc m n)
    ∙ ap (λ (l : List ℕ). l ++ g (m + n)) (joined_add g m n)
    ∙ append_assoc (joined g m) (joined (λ j. g (m + j)) n) (g (m + n))

-- n groups of m parts each, from part a × m on
pub regrouped : (g : ℕ → List ℕ) (m a n : ℕ)
    → joined (λ k. joined (λ j. g ((a + k) * m + j)) m) n ≡ joined (λ i. g (a * m + i)) (n * m)
unfolding joined
regrouped g m a zero = ap (joined (λ i. g (a * m + i))) (sym (zero-mul m))
regrouped g m a (suc n) =
    ap₂ (λ (x y : List ℕ). x ++ y) (regrouped g m a n)
    (joined_same _ _ m (λ j h. ap g (let same : (a + n) * m + j ≡ a * m + (n * m + j) = omega (arith, add-mul a n m) in same)))
    ∙ sym (joined_add (λ i. g (a * m + i)) (n * m) m)
    ∙ ap (joined (λ i. g (a * m + i))) (sym (suc-mul n m))

-- the same from the first part on
pub regrouped_all : (g : ℕ → List ℕ) (m n : ℕ) → joined (λ k. joined (λ j. g (k * m + j)) m) n ≡ joined g (n * m)
unfolding joined
regrouped_all g m zero = ap (joined g) (sym (zero-mul m))
regrouped_all g m (suc n) =
    ap (λ (x : List ℕ). x ++ joined (λ j. g (n * m + j)) m) (regrouped_all g m n)
    ∙ sym (joined_add g (n * m) m)
    ∙ ap (joined g) (sym (suc-mul n m))

-- a run as parts of one entry each
pub singly : (h : ℕ → ℕ) (n : ℕ) → tab h n ≡ joined (λ i. h i ∷ []) n
unfolding tab joined
singly h zero = refl
singly h (suc n) = ap (λ (l : List ℕ). l ++ (h n ∷ [])) (singly h n)

-- parts of one length: what stands before part m and what stands from it on
module _ (g : ℕ → List ℕ) (w : ℕ) (each : (k : ℕ) → length (g k) ≡ w) where
  pub joined_take : (m n : ℕ) → take (m * w) (joined g (m + n)) ≡ joined g m
  joined_take m n =
      ap (take (m * w)) (joined_add g m n) ∙ take_at (joined g m) (joined (λ j. g (m + j)) n) (m * w) (length_joined g w m each)

  pub joined_drop : (m n : ℕ) → drop (m * w) (joined g (m + n)) ≡ joined (λ j. g (m + j)) n
  joined_drop m n =
      ap (drop (m * w)) (joined_add g m n) ∙ drop_at (joined g m) (joined (λ j. g (m + j)) n) (m * w) (length_joined g w m each)

-- frames in units: how many each unit has, and how many units there are
module _ (frames fit : ℕ) where
  pub in_full : {k : ℕ} → k < frames / fit → frames_in frames fit k ≡ fit
  unfolding frames_in
  in_full less = rw (lt-ltb _ _ less)

  pub in_last : {k : ℕ} → frames / fit ≤ k → frames_in frames fit k ≡ frames % fit
  unfolding frames_in
  in_last past = rw (le-ltb _ _ past)

  pub units_whole : frames % fit ≡ 0 → units_of frames fit ≡ frames / fit
  unfolding units_of
  units_whole none = rw none (add-zero (frames / fit))

  pub units_rest : eqb (frames % fit) 0 ≡ false → units_of frames fit ≡ suc (frames / fit)
  unfolding units_of
  units_rest some = rw some (add-one (frames / fit))

  -- units of frames, joined, are all the frames joined
  pub units_joined : (g : ℕ → List ℕ)
      → joined (λ k. joined (λ j. g (k * fit + j)) (frames_in frames fit k)) (units_of frames fit) ≡ joined g frames
  unfolding joined
  units_joined g = split (eqb (frames % fit) 0) (λ t. whole (eqb-true _ 0 t)) rest
    where
      unit : ℕ → List ℕ
      unit k = joined (λ j. g (k * fit + j)) (frames_in frames fit k)

      full : joined unit (frames / fit) ≡ joined g (frames / fit * fit)
      full =
          joined_same _ _ (frames / fit) (λ k h. ap (joined (λ j. g (k * fit + j))) (in_full h))
          ∙ regrouped_all g fit (frames / fit)

      whole : frames % fit ≡ 0 → joined unit (units_of frames fit) ≡ joined g frames
      whole none =
          ap (joined unit) (units_whole none)
          ∙ full
          ∙ ap (joined g) (let all : frames / fit * fit ≡ frames = omega (arith, div-add-mod' frames fit, none) in all)

      rest : eqb (frames % fit) 0 ≡ false → joined unit (units_of frames fit) ≡ joined g frames
      rest some =
          ap (joined unit) (units_rest some)
          ∙ ap₂ (λ (x y : List ℕ). x ++ y) full
          (ap (joined (λ j. g (frames / fit * fit + j))) (in_last (omega arith)))
          ∙ sym (joined_add g (frames / fit * fit) (frames % fit))
          ∙ ap (joined g) (div-add-mod' frames fit)
