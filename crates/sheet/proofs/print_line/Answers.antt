-- `sheet::print_line` meets its contract: its line is whole in its run.
-- Assumes nothing.
use Rattle.std.proofs.Common.{ℕ, arith, sym, length-take-le}
use lib.ListN.{length-replicate}
use Rattle.table.proofs.Short.{line_whole}
use Rattle.sheet.proofs.print_line.Goals as goal

pub slice_bounds-text-end : goal.slice_bounds-text-end
slice_bounds-text-end c =
    let long = length-replicate {A = ℕ} 512 0 in
    omega (arith, (line_whole _ _ _ c.requires (omega (arith, long)) c.line-line.ensures).1, long, c.line-line.auto.run)

pub slice_bounds-print-end : goal.slice_bounds-print-end
slice_bounds-print-end c =
    let long = length-replicate {A = ℕ} 512 0 in
    sym (length-take-le _ _ (omega (arith, (line_whole _ _ _ c.requires (omega (arith, long)) c.line-line.ensures).1, long, c.line-line.auto.run)))

pub print-requires : goal.print-requires
print-requires c = (line_whole _ _ _ c.requires (omega (arith, length-replicate {A = ℕ} 512 0)) c.line-line.ensures).0
