-- A lent run that a loop fills with given entries from a place on: the loop's invariant, and its three laws. The same of parts of one
-- length that a loop joins.
-- Assumes nothing.
use mathlib.Core.List.{List, ◌∷◌, ◌++◌, append-nil}
use mathlib.Core.Path.{◌≡◌, refl, sym, ◌∙◌, ap, ap₂}
use Prim.Native.Nat.{ℕ, zero, ◌+◌, ◌*◌, ◌≤◌, ◌<◌}
use native.Mathlib.Nat.{zero-add, suc-mul}
use native.Mathlib.Numerals.{add-one}
use native.Mathlib.Omega.{arith}
use lib.ListN.{length, get_or, take, drop, set, length-set, drop_of_length-le}
use lib.Seq.{paste, paste-zero, paste-suc, take_all, take_at, drop-drop, drop-append-add, drop-length, sets, sets-eq}
use Rattle.runs.specs.Runs.{joined, over, written}
use Rattle.runs.proofs.Laws.{length_joined}

-- the run d is d₀ with the first i entries of vs written from `at` on
pub record Filled (d d₀ : List ℕ) (at : ℕ) (vs : List ℕ) (i : ℕ) : Type 0 where
  pub within : i ≤ length vs
  pub is : d ≡ paste d₀ at vs i
  pub same : length d ≡ length d₀

module _ (d₀ : List ℕ) (at : ℕ) (vs : List ℕ) where
  pub begun : Filled d₀ d₀ at vs zero
  begun = record { within = omega arith; is = paste-zero d₀ at vs; same = refl }

  pub turned : {d : List ℕ} {i v : ℕ} → Filled d d₀ at vs i → at + length vs ≤ length d₀ → i < length vs → v ≡ get_or vs i 0
      → Filled (set d (at + i) v) d₀ at vs (i + 1)
  turned {d} {i} {v} so_far room less e =
      record {
        within = omega arith;
        is =
            ap (λ (x : ℕ). set d (at + i) x) e
            ∙ ap (λ (l : List ℕ). set l (at + i) (get_or vs i 0)) so_far.is
            ∙ paste-suc d₀ at vs i 0 (omega arith) less
            ∙ ap (paste d₀ at vs) (sym (add-one i));
        same = length-set d (at + i) v ∙ so_far.same;
      }

  pub done : {d : List ℕ} {i : ℕ} → Filled d d₀ at vs i → length vs ≤ i → d ≡ written d₀ at vs
  done {d} {i} so_far all =
      let whole : i ≡ length vs = omega (arith, so_far.within) in
      so_far.is
      ∙ ap (paste d₀ at vs) whole
      ∙ ap (λ (l : List ℕ). take at d₀ ++ l ++ drop (at + length vs) d₀) (take_all (length vs) vs (omega arith))

-- the same from the run's start
module _ (d₀ vs : List ℕ) where
  pub turned_front : {d : List ℕ} {i v : ℕ} → Filled d d₀ 0 vs i → length vs ≤ length d₀ → i < length vs → v ≡ get_or vs i 0
      → Filled (set d i v) d₀ 0 vs (i + 1)
  turned_front {d} {i} {v} so_far room less e =
      rw (zero-add i) at (turned d₀ 0 vs so_far (omega arith) less e)

  pub done_front : {d : List ℕ} {i : ℕ} → Filled d d₀ 0 vs i → length vs ≤ i → d ≡ over vs d₀
  unfolding over
  done_front so_far all = done d₀ 0 vs so_far all ∙ rw (zero-add (length vs))

-- a run that is written to its end
module _ (d₀ vs : List ℕ) where
  pub done_to_end : {d : List ℕ} {i : ℕ} (at : ℕ) → Filled d d₀ at vs i → length vs ≤ i → length d₀ ≤ at + length vs → d ≡ take at d₀ ++ vs
  done_to_end at so_far all end =
      done d₀ at vs so_far all ∙ ap (λ (l : List ℕ). take at d₀ ++ vs ++ l) (drop_of_length-le d₀ end) ∙ append-nil (take at d₀ ++ vs)

-- entries stored one after the other
pub stored : (vs run : List ℕ) (at : ℕ) → at + length vs ≤ length run → sets run at vs ≡ written run at vs
stored vs run at room = sets-eq vs run at room

-- entries behind one that was stored before them
pub stored_behind : (v : ℕ) (vs run : List ℕ) (at : ℕ) → at + 1 + length vs ≤ length run
    → written (set run at v) (at + 1) vs ≡ written run at (v ∷ vs)
stored_behind v vs run at room =
    sym (stored vs (set run at v) (at + 1) (rw length-set room))
    ∙ rw (add-one at) (stored (v ∷ vs) run at (omega arith))

-- parts of one length written one after the other: those so far, and then what the run held
module _ (g : ℕ → List ℕ) (w : ℕ) (run₀ : List ℕ) where
  pub filled_on : (k : ℕ) {run run₁ : List ℕ} → ((k : ℕ) → length (g k) ≡ w)
      → run ≡ joined g k ++ drop (k * w) run₀
      → run₁ ≡ take (k * w) run ++ g k ++ drop (k * w + w) run
      → run₁ ≡ joined g (k + 1) ++ drop ((k + 1) * w) run₀
  unfolding joined
  filled_on k each so_far e =
      let front : length (joined g k) ≡ k * w = length_joined g w k each in
      e
      ∙ ap₂ (λ (before after : List ℕ). before ++ g k ++ after)
      (ap (take (k * w)) so_far ∙ take_at (joined g k) (drop (k * w) run₀) (k * w) front)
      (ap (drop (k * w + w)) so_far
      ∙ ap (λ (n : ℕ). drop (n + w) (joined g k ++ drop (k * w) run₀)) (sym front)
      ∙ drop-append-add (joined g k) (drop (k * w) run₀) w
      ∙ drop-drop w (k * w) run₀)
      ∙ rw (add-one, suc-mul)

  pub filled : (k n : ℕ) {run : List ℕ} → run ≡ joined g k ++ drop (k * w) run₀ → k ≡ n
      → n * w ≡ length run₀ → run ≡ joined g n
  filled k n so_far e whole =
      so_far
      ∙ ap (λ (m : ℕ). joined g m ++ drop (m * w) run₀) e
      ∙ ap (λ (m : ℕ). joined g n ++ drop m run₀) whole
      ∙ ap (λ (r : List ℕ). joined g n ++ r) (drop-length run₀)
      ∙ append-nil (joined g n)
