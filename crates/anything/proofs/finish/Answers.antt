-- `anything::finish` meets its contract: the line is whole in its run.
-- Assumes nothing.
use Rattle.std.proofs.Common.{ℕ, arith, sym, length-take-le}
use lib.ListN.{length-replicate}
use Rattle.presence.proofs.Lines.{writes_whole}
use Rattle.anything.proofs.finish.Goals as goal

pub slice_bounds-text-end : goal.slice_bounds-text-end
slice_bounds-text-end c =
    let long = length-replicate {A = ℕ} 64 0 in
    omega (arith, (writes_whole c.put_line-line.ensures (omega (arith, long))).1, long, c.put_line-line.auto.run)

pub slice_bounds-print-end : goal.slice_bounds-print-end
slice_bounds-print-end c =
    let long = length-replicate {A = ℕ} 64 0 in
    sym
    (length-take-le _ _ (omega (arith, (writes_whole c.put_line-line.ensures (omega (arith, long))).1, long, c.put_line-line.auto.run)))

pub print-requires : goal.print-requires
print-requires c = (writes_whole c.put_line-line.ensures (omega (arith, length-replicate {A = ℕ} 64 0))).0
