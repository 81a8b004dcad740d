-- `status::run::octet_at` meets its contract. The loop: so many entries add a bit, and the octet has their bits.
use Rattle.status.proofs.Eights.{Turned}
use Rattle.status.proofs.run.octet_at.Given as goal

abbrev pub invariant-loop-j : goal.invariant-loop-j
invariant-loop-j l = Turned l.ancillary l.marks l.at l.step l.octet l.place l.j
