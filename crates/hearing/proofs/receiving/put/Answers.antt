-- `hearing::receiving::put` meets its contract.
-- Assumes nothing.
use mathlib.Core.Path.{sym, ◌∙◌, ap, subst}
use Prim.Native.Nat.{◌+◌, ◌≤◌}
use lib.ListN.{length}
use Rattle.receiver.specs.declared.Received.{Received}
use Rattle.receiver.specs.Receiver.{used_now}
use Rattle.hearing.specs.Steps.{needed_of, heard_at}
use Rattle.hearing.proofs.Takes.{puts_refused, puts_taken}
use Rattle.hearing.proofs.receiving.put.Goals as goal
use Rattle.hearing.proofs.receiving.put.Goals.{Start}

-- with the answer that is heard
room : (s : Start) → s.args.at + needed_of (heard_at s.args.state s.args.log.now s.args.place).answer (used_now s.args.state)
    ≤ length s.args.samples.now
room s = subst (λ (g : Received). s.args.at + needed_of g (used_now s.args.state) ≤ length s.args.samples.now) s.requires.2 s.requires.3

pub returns-then-got-ne0 : goal.returns-then-got-ne0
returns-then-got-ne0 c = puts_refused c.args.state c.args.log.now c.args.place c.requires.0 c.requires.1 c.args.at c.args.samples.now c.args.ancillary.now c.args.marks.now (room (goal.at.returns-then-got-ne0 c).Start) c.requires.4 c.requires.5 (λ z. c.if-got-ne0.true (ap (λ (g : Received). g.refusal) c.requires.2 ∙ z))

pub returns : goal.returns
returns c = puts_taken c.args.state c.args.log.now c.args.place c.requires.0 c.requires.1 c.args.at c.args.samples.now c.args.ancillary.now c.args.marks.now (room (goal.at.returns c).Start) c.requires.4 c.requires.5 (ap (λ (g : Received). g.refusal) (sym c.requires.2) ∙ c.if-got-ne0.false)
    (ap (λ (g : Received). g.missing) c.requires.2) c.unpack.ensures
