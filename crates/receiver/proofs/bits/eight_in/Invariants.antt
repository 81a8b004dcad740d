-- `receiver::bits::eight_in` meets its contract.
use Rattle.cells.specs.Cells.{bit_in}
use Rattle.receiver.proofs.Reading.{Gathers}
use Rattle.receiver.proofs.bits.eight_in.Given as goal

abbrev pub invariant-loop-slot : goal.invariant-loop-slot
invariant-loop-slot l = Gathers (bit_in l.format l.cell) l.eight l.slot
