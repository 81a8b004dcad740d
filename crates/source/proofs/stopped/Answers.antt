-- `source::stopped` is safe, and its line is whole in its run.
-- Assumes nothing.
use Rattle.std.proofs.Common.{ℕ, arith, sym, length-take-le}
use lib.ListN.{length-replicate}
use Rattle.stops.proofs.Said.{writes_whole}
use Rattle.source.proofs.stopped.Goals as goal

pub slice_bounds-text-end : goal.slice_bounds-text-end
slice_bounds-text-end c =
    let long = length-replicate {A = ℕ} 128 0 in
    omega (arith, (writes_whole c.put_line-line.ensures (omega (arith, long))).1, long, c.put_line-line.auto.run)

pub slice_bounds-said-end : goal.slice_bounds-said-end
slice_bounds-said-end c =
    let long = length-replicate {A = ℕ} 128 0 in
    sym
    (length-take-le _ _ (omega (arith, (writes_whole c.put_line-line.ensures (omega (arith, long))).1, long, c.put_line-line.auto.run)))

pub said-requires : goal.said-requires
said-requires c = (writes_whole c.put_line-line.ensures (omega (arith, length-replicate {A = ℕ} 128 0))).0
