-- `text::copied` meets its contract. The loop fills the run from the place on.
-- Assumes nothing.
use mathlib.Core.Path.{◌≡◌, sym}
use native.Mathlib.Omega.{arith}
use lib.ListN.{length, take}
use lib.Seq.{length-take-le, get_or-take}
use Rattle.runs.proofs.Filling.{begun, turned, done}
use Rattle.text.proofs.copied.Goals as goal
use Rattle.text.proofs.copied.Goals.{Start}

size : (c : Start) → length (take c.args.count c.args.octets.now) ≡ c.args.count
size c = length-take-le _ _ c.requires.1

pub loop-i-init : goal.loop-i-init
loop-i-init c = begun _ _ _

pub bounds-octets-i : goal.bounds-octets-i
bounds-octets-i c = omega (arith, c.loop-i-test.true, c.requires.1)

pub bounds-run-place : goal.bounds-run-place
bounds-run-place c = omega (arith, c.loop-i-test.true, c.requires.0, c.loop-i.invariant.same)

pub loop-i-preserved : goal.loop-i-preserved
loop-i-preserved c = turned _ _ _ c.loop-i.invariant (omega (arith, c.requires.0, size (goal.at.loop-i-preserved c).Start)) (omega (arith, c.loop-i-test.true, size (goal.at.loop-i-preserved c).Start))
    (sym (get_or-take c.args.count c.args.octets.now c.loop-i.i 0 c.loop-i-test.true))

pub returns : goal.returns
returns c = done _ _ _ c.loop-i.invariant (omega (arith, c.loop-i-test.false, size (goal.at.returns c).Start))
