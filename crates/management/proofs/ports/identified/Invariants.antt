-- `management::ports::identified` meets its contract. The loop: none of the ports before serves.
use mathlib.Core.Path.{◌≡◌}
use Prim.Native.Nat.{◌-◌}
use Rattle.management.specs.Ports.{port_count, serves, first_from, identified}
use Rattle.management.proofs.ports.identified.Given as goal

abbrev pub invariant-loop-port : goal.invariant-loop-port
invariant-loop-port l = first_from (serves l.ports l.asked l.can_be) l.port (port_count l.ports - l.port) ≡ identified l.ports l.asked l.can_be
