-- Laws of what is to be done behind a read, over plain values: a law for each answer, that the octets that came lie in the buffer,
-- and the number that falls in a loop of reads.
-- Assumes nothing.
use mathlib.Core.Bool.{Bool, true, false, cond, ◌&&◌, true≢false}
use mathlib.Core.Path.{◌≡◌, refl, sym, ◌∙◌}
use Prim.Native.Nat.{ℕ, ◌+◌, ◌*◌, ◌-◌, ◌≤◌, ◌<◌, min}
use native.Mathlib.Omega.{arith}
use borrow.Author.Tests.{eq-eqb, ne_eqb, lt-ltb, le-ltb, eqb-true, eqb-false, ltb-true, ltb-false}
use lib.Dec.{eqb, ltb}
use lib.IntN.{ℤ, pos, negsuc}
use lib.Signed.{lt_z}
use Rattle.runs.proofs.Laws.{both_true, split}
use Rattle.source.specs.Turns.{Turn, without, came_of, clamp_len, turn_of, Reads}

-- a read that failed
pub failed : (got : ℤ) (room left : ℕ) → lt_z got (pos 0) ≡ true → without 3 left ≡ turn_of got room left
unfolding turn_of
failed (pos n) room left below = absurd (omega (arith, ltb-true n 0 below))
failed (negsuc n) room left below = refl

-- and one that didn't
came : (got : ℤ) (room left : ℕ) → lt_z got (pos 0) ≡ false → came_of (clamp_len got room) left ≡ turn_of got room left
unfolding turn_of
came (pos n) room left above = refl
came (negsuc n) room left above = absurd (true≢false above)

module _ (got : ℤ) (room left : ℕ) (above : lt_z got (pos 0) ≡ false) {octets : ℕ} (are : octets ≡ clamp_len got room) where
  pub ends : octets ≡ 0 → without 2 left ≡ turn_of got room left
  unfolding came_of
  ends none = sym (rw (← are, eq-eqb octets 0 none)) ∙ came got room left above

  pub too_many : (octets ≡ 0 → ⊥) → left < octets → without 4 left ≡ turn_of got room left
  unfolding came_of
  too_many some past = sym (rw (← are, ne_eqb octets 0 some, lt-ltb left octets past)) ∙ came got room left above

  pub on : (octets ≡ 0 → ⊥) → octets ≤ left → record { what = 1; octets = octets; left = left - octets } ≡ turn_of got room left
  unfolding came_of
  on some within = sym (rw (← are, ne_eqb octets 0 some, le-ltb left octets within)) ∙ came got room left above

-- the octets that came are no more than there are, and no more is left than before; where the loop goes on, less
pub record Turned (room left : ℕ) (t : Turn) : Type 0 where
  pub within : t.octets ≤ room
  pub no_more : t.left ≤ left
  pub less : t.what ≡ 1 → t.left < left

came_turned : (octets left : ℕ) → Turned octets left (came_of octets left)
unfolding came_of
came_turned octets left =
    split (eqb octets 0)
    (λ none. rw none (record { within = omega arith; no_more = omega arith; less = λ two. absurd (omega (arith, two)) }))
    (λ some. split (ltb left octets)
    (λ past. rw (some, past) (record { within = omega arith; no_more = omega arith; less = λ four. absurd (omega (arith, four)) }))
    (λ fits. rw (some, fits) (record {
      within = omega arith;
      no_more = omega arith;
      less = λ one. omega (arith, eqb-false octets 0 some, ltb-false left octets fits);
    })))

turn_turned : (got : ℤ) (room left : ℕ) → Turned room left (turn_of got room left)
unfolding turn_of
turn_turned (pos n) room left =
    let came = came_turned (min n room) left in
    record { within = omega (arith, came.within); no_more = came.no_more; less = came.less }
turn_turned (negsuc n) room left =
    record { within = omega arith; no_more = omega arith; less = λ three. absurd (omega (arith, three)) }

pub read_turned : {left room : ℕ} {answer : Turn} → Reads left room answer → Turned room left answer
read_turned {left} {room} reads = rw reads.turned (turn_turned reads.got room left)

-- the number that falls in a loop of reads: what may still come, and whether there is a further turn
unfoldable pub falling_of : Turn → ℕ
falling_of t = 2 * t.left + cond (eqb t.what 1) 1 0

pub falls : {room : ℕ} (before answer : Turn) (wanted : Bool) → (eqb before.what 1 && wanted) ≡ true
    → Reads before.left room answer → falling_of answer < falling_of before
unfolding falling_of
falls before answer wanted goes reads =
    let turned = read_turned reads in
    let one : eqb before.what 1 ≡ true = (both_true (eqb before.what 1) wanted goes).0 in
    split (eqb answer.what 1)
    (λ again. rw (one, again) (omega (arith, turned.less (eqb-true answer.what 1 again))))
    (λ last. rw (one, last) (omega (arith, turned.no_more)))
