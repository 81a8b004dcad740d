-- `table::lines::put_row` meets its contract. The loop: the numbers before this one are put.
use Rattle.std.proofs.Common.{◌≡◌, length, take}
use Rattle.text.specs.Put.{Puts}
use Rattle.table.specs.Table.{cells_of}
use Rattle.table.proofs.lines.put_row.Given as goal

abbrev pub invariant-loop-number : goal.invariant-loop-number
invariant-loop-number l =
    Puts l.initial.run l.initial.past l.run l.past (cells_of (take l.number-index l.row)) × (length l.run ≡ length l.initial.run)
