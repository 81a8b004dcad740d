-- Laws of entries written one after the other into a lent run, over plain values.
-- Assumes nothing.
use mathlib.Core.List.{List, [], ◌++◌, append_assoc, append-nil}
use mathlib.Core.Path.{◌≡◌, sym, ◌∙◌, ap, ap₂}
use Prim.Native.Nat.{ℕ, ◌+◌, ◌≤◌}
use native.Mathlib.Nat.{zero-add}
use native.Mathlib.Omega.{arith}
use lib.ListN.{length, take, drop, length-append, take-append-drop}
use lib.Seq.{length-take-le, take_at, drop-append-add, drop-drop}
use Rattle.runs.specs.Runs.{over, written}

module _ (run : List ℕ) where
  pub written_none : (at : ℕ) → written run at [] ≡ run
  written_none at =
      let none : at + length {A = ℕ} [] ≡ at = omega arith in
      ap (λ (l : List ℕ). l ++ drop (at + length {A = ℕ} []) run) (append-nil (take at run))
      ∙ ap (λ (n : ℕ). take at run ++ drop n run) none
      ∙ take-append-drop at run

  pub written_front : (new : List ℕ) → written run 0 new ≡ over new run
  unfolding over
  written_front new = rw (zero-add (length new))

  module _ (at : ℕ) (a b : List ℕ) (inside : at ≤ length run) where
    abbrev before : List ℕ
    before = take at run ++ a

    abbrev behind : List ℕ
    behind = drop (at + length a) run

    front : length before ≡ at + length a
    front = length-append (take at run) a ∙ ap (λ (n : ℕ). n + length a) (length-take-le at run inside)

    past : drop (at + length a + length b) (before ++ behind) ≡ drop (at + length (a ++ b)) run
    past =
        let sum : at + length a + length b ≡ at + length (a ++ b) = omega (arith, length-append a b) in
        ap (λ (n : ℕ). drop (n + length b) (before ++ behind)) (sym front)
        ∙ drop-append-add before behind (length b)
        ∙ drop-drop (length b) (at + length a) run
        ∙ ap (λ (n : ℕ). drop n run) sum

    -- entries behind those that were written before
    pub written_on : written (written run at a) (at + length a) b ≡ written run at (a ++ b)
    written_on =
        ap₂ (λ (x y : List ℕ). x ++ b ++ y) (take_at before behind (at + length a) front) past
        ∙ ap (λ (l : List ℕ). l ++ drop (at + length (a ++ b)) run) (append_assoc (take at run) a b)
