-- `tables::marks_without_v` meets its contract: the table is held against the definition at each number of nine bits.
-- Assumes nothing.
use Prim.Native.Nat.{◌%◌}
use native.Mathlib.Nat.{mod-lt}
use native.Mathlib.Omega.{arith}
use Rattle.tables.proofs.Laws.{bare_at}
use Rattle.tables.proofs.marks_without_v.Goals as goal

pub returns : goal.returns
returns c = bare_at (c.args.nine % 512) (mod-lt c.args.nine (omega arith))
