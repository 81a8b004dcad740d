-- `units::unpack::number_at` meets its contract: the octets are read one after the other.
use Rattle.units.proofs.Packing.{Reading}
use Rattle.units.proofs.unpack.number_at.Given as goal

abbrev pub invariant-loop-octet : goal.invariant-loop-octet
invariant-loop-octet l = Reading l.fn.unit l.fn.at l.number l.octet-index
