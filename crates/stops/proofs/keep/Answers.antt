-- `stops::keep` meets its contract.
-- Assumes nothing.
use native.Mathlib.Omega.{arith}
use lib.ListN.{length-set}
use Rattle.stops.proofs.Places.{kept_past, kept_in}
use Rattle.stops.proofs.keep.Goals as goal

pub returns-then-run-log : goal.returns-then-run-log
returns-then-run-log c = kept_past _ _ _ c.if-run-log.true

pub bounds-run-at-2 : goal.bounds-run-at-2
bounds-run-at-2 c = simp length-set (omega (arith, c.if-run-log.false))

pub bounds-run-at-3 : goal.bounds-run-at-3
bounds-run-at-3 c = simp length-set (omega (arith, c.if-run-log.false))

pub returns : goal.returns
returns c = kept_in _ _ c.args.stop c.if-run-log.false
