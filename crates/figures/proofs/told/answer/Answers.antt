-- `figures::told::answer` meets its contract: a cell in turn, and any other.
-- Assumes nothing.
use mathlib.Core.Bool.{Bool}
use mathlib.Core.Path.{sym, ◌∙◌, ap}
use Rattle.receiver.specs.Receiver.{judged_of}
use Rattle.figures.specs.Stretch.{told_of}
use Rattle.figures.proofs.told.answer.Goals as goal

pub in_turn-requires : goal.in_turn-requires
in_turn-requires c = c.requires

pub next-requires : goal.next-requires
next-requires c = let turn = c.in_turn.ensures c.if-in_turn.true in (turn.1, turn.2)

pub returns-then-in_turn : goal.returns-then-in_turn
returns-then-in_turn c = c.next.ensures
    ∙ sym (c.in_turn.ensures c.if-in_turn.true).0
    ∙ ap (λ (b : Bool). told_of (judged_of c.args.state c.args.cell.now b)) (sym c.if-not-indication.true)

pub returns : goal.returns
returns c = ap told_of c.judged-got.ensures
