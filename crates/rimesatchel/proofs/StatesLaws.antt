-- A state's numbers give back what they stand for, where each is within its width; and room is asked by division.
-- Assumes nothing.
use mathlib.Core.Bool.{Bool, true, false, not, ◌&&◌, true≢false}
use mathlib.Core.List.{List}
use mathlib.Core.Path.{◌≡◌, refl, sym, ◌∙◌}
use Prim.Native.Nat.{ℕ, ◌+◌, ◌*◌, ◌-◌, ◌/◌, ◌≤◌, ◌<◌}
use native.Mathlib.Nat.{mod-eq_of_lt, le-div_iff_mul-le, div-lt_iff_lt-mul}
use native.Mathlib.Omega.{arith}
use borrow.Author.Tests.{le-leb, lt-leb, ltb-true, ltb-false}
use lib.Dec.{eqb, leb, ltb}
use lib.ListN.{length, take, drop}
use lib.Seq.{take_at}
use Rattle.runs.specs.Runs.{over}
use Rattle.runs.proofs.Laws.{split}
use Rattle.receiver.specs.declared.Receiver.{Receiver}
use Rattle.pieces.specs.declared.Standing.{Standing}
use Rattle.rimesatchel.specs.States.{standing_from, receiver_from, number_of, Within, room_refusal}

pub yes_back : (b : Bool) → not (eqb (number_of b) 0) ≡ b
yes_back true = refl
yes_back false = refl

module _ (s : Standing) (r : Receiver) (in-width : Within s r) where
  pub standing_back : standing_from s.stage s.fault s.count s.left s.records ≡ s
  standing_back i =
      record {
        stage = mod-eq_of_lt in-width.0 i;
        fault = mod-eq_of_lt in-width.1 i;
        count = s.count;
        left = s.left;
        records = s.records;
      }

  pub receiver_back : receiver_from r.format r.channels r.order (number_of r.started) r.last r.count ≡ r
  receiver_back i =
      record {
        format = mod-eq_of_lt in-width.2 i;
        channels = mod-eq_of_lt in-width.3 i;
        order = mod-eq_of_lt in-width.4 i;
        started = yes_back r.started i;
        last = mod-eq_of_lt in-width.5 i;
        count = mod-eq_of_lt in-width.6 i;
      }

-- a run that is shorter than what comes first
pub short_run : {first run : ℕ} (more : ℕ) → run < first → false ≡ leb (first + more) run
short_run {first} {run} more less = sym (lt-leb (first + more) run (omega arith))

-- compared by division
pub by_division : {first each run : ℕ} (n : ℕ) → 0 < each → first ≤ run → ltb n ((run - first) / each) ≡ leb (first + each * (n + 1)) run
by_division {first} {each} {run} n some room =
    split (ltb n ((run - first) / each))
    (λ e.
    let more : (n + 1) * each ≤ run - first = (le-div_iff_mul-le {k = each} {x = n + 1} {y = run - first} some).0 (omega (arith, ltb-true n ((run - first) / each) e)) in
    e ∙ sym (le-leb (first + each * (n + 1)) run (omega (arith, more, room))))
    (λ e.
    let few : (run - first) / each ≤ n = omega (arith, ltb-false n ((run - first) / each) e) in
    let less : run - first < (n + 1) * each = (div-lt_iff_lt-mul {k = each} {x = run - first} {y = n + 1} some).0 (omega (arith, few)) in
    e ∙ sym (lt-leb (first + each * (n + 1)) run (omega (arith, less, room))))

pub both_true : (a b : Bool) → a && b ≡ true → (a ≡ true) × (b ≡ true)
both_true true b e = (refl, e)
both_true false b e = absurd (true≢false (sym e))

-- a call that isn't refused had room
pub taken_room : (room : Bool) → 0 ≡ room_refusal room → room ≡ true
taken_room true e = refl
taken_room false e = absurd (omega (arith, e))

-- what was written stands at the run's start
pub take_over : (text run : List ℕ) {n : ℕ} → n ≡ length text → take n (over text run) ≡ text
unfolding over
take_over text run {n} e = take_at text (drop (length text) run) n (sym e)
