-- `tables::marks` meets its contract: the table is held against the definition at each number of nine bits.
-- Assumes nothing.
use Prim.Native.Nat.{◌%◌}
use native.Mathlib.Nat.{mod-lt}
use native.Mathlib.Omega.{arith}
use Rattle.tables.proofs.Laws.{marks_at}
use Rattle.tables.proofs.marks.Goals as goal

pub returns : goal.returns
returns c = marks_at (c.args.nine % 512) (mod-lt c.args.nine (omega arith))
