-- `management::ports::identified` meets its contract. The loop: none of the ports before serves.
-- Assumes nothing.
use mathlib.Core.Path.{◌≡◌, sym, ◌∙◌}
use native.Mathlib.Omega.{arith}
use Rattle.management.specs.Ports.{port_count, serves}
use Rattle.management.proofs.Fits.{first_here, first_on, first_none}
use Rattle.management.proofs.ports.identified.Goals as goal

pub returns-then-serves-clause-first : goal.returns-then-serves-clause-first
returns-then-serves-clause-first c = let l = c.loop-port in
    let a = c.args in
    sym (first_here (serves a.ports.now a.asked a.can_be) l.port (port_count a.ports.now) (omega arith)
    (sym c.serves.ensures ∙ c.if-serves.true))
    ∙ l.invariant

pub loop-port-preserved : goal.loop-port-preserved
loop-port-preserved c = let l = c.loop-port in
    let a = c.args in
    first_on (serves a.ports.now a.asked a.can_be) l.port (port_count a.ports.now) (omega arith)
    (sym c.serves.ensures ∙ c.if-serves.false)
    ∙ l.invariant

pub returns-clause-first : goal.returns-clause-first
returns-clause-first c = let l = c.loop-port in
    let a = c.args in
    let all : port_count a.ports.now ≡ l.port = omega arith in
    all
    ∙ sym (first_none (serves a.ports.now a.asked a.can_be) l.port (port_count a.ports.now) (omega arith))
    ∙ l.invariant
