-- The last arm of a `match`: the keys that no other arm has.
-- Assumes nothing.
use mathlib.Core.Bool.{Bool, true, false, true≢false, ◌||◌}
use mathlib.Core.List.{List, [], ◌∷◌}
use mathlib.Core.Path.{◌≡◌, refl}
use Prim.Native.Nat.{ℕ, zero, suc, ◌<◌}
use mir.Val.{has_key}
use types.Run.{OneOf, hit}
use lib.Dec.{T}
use Rattle.runs.specs.Test.{every}
use Rattle.runs.proofs.Laws.{every_at}

-- what such an arm is told: the arms last one first, and whatever is told of the `match` itself
abbrev pub NoneOf : Type 0 → List (List ℕ) → ℕ → Type 0
NoneOf X [] key = X
NoneOf X (ks ∷ kss) key = NoneOf X kss key × (OneOf ks key → ⊥)

-- a test that keys of other arms pass unasked
unfoldable pub or_listed : List (List ℕ) → (ℕ → Bool) → ℕ → Bool
or_listed [] test key = test key
or_listed (ks ∷ kss) test key = has_key ks key || or_listed kss test key

past : (a b : Bool) → a ≡ false → T (a || b) → T b
past true b e t = absurd (true≢false e)
past false b e t = t

miss : (keys : List ℕ) (key : ℕ) → (OneOf keys key → ⊥) → has_key keys key ≡ false
miss keys key none = not-true (has_key keys key) (λ t. none (hit keys key t))
  where
    not-true : (b : Bool) → (T b → ⊥) → b ≡ false
    not-true true h = absurd (h tt)
    not-true false h = refl

unlisted : (X : Type 0) (arms : List (List ℕ)) (test : ℕ → Bool) (key : ℕ) → NoneOf X arms key → T (or_listed arms test key)
    → T (test key)
unfolding or_listed
unlisted X [] test key none t = t
unlisted X (ks ∷ kss) test key none t =
    unlisted X kss test key none.0 (past (has_key ks key) (or_listed kss test key) (miss ks key none.1) t)

pub others : (X : Type 0) (arms : List (List ℕ)) (test : ℕ → Bool) (n : ℕ) → T (every (or_listed arms test) n) → (key : ℕ) → key < n
    → NoneOf X arms key → T (test key)
others X arms test n t key less none = unlisted X arms test key none (every_at (or_listed arms test) n t key less)

-- arms of one key each, 0 and up
abbrev pub singles : ℕ → List (List ℕ)
singles zero = []
singles (suc n) = (n ∷ []) ∷ singles n
