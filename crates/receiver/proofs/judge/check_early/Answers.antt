-- `receiver::judge::check_early` meets its contract: each way out by the check that it goes by.
-- Assumes nothing.
use mathlib.Core.Bool.{false, ◌||◌}
use mathlib.Core.Path.{◌≡◌, refl, sym, ◌∙◌}
use Rattle.refusals.specs.Refusals.{refused_by, number_of}
use Rattle.receiver.specs.Receiver.{last_refused, count_refused}
use Rattle.receiver.proofs.Laws.{settled_format, early_4, early_5}
use Rattle.receiver.proofs.judge.check_early.Goals as goal
use Rattle.receiver.proofs.judge.check_early.Goals.{Else-numbers_refused}

fourth : (c : Else-numbers_refused)
    → false ≡ (last_refused c.args.state || count_refused c.args.state)
fourth c = sym c.if-numbers_refused.false ∙ c.numbers_refused.ensures

pub numbers_refused-requires : goal.numbers_refused-requires
numbers_refused-requires c = settled_format c.args.state c.requires refl

pub returns-then-numbers_refused : goal.returns-then-numbers_refused
unfolding refused_by number_of
returns-then-numbers_refused c = early_4 c.args.state c.requires c.args.cell c.args.samples c.args.ancillary c.args.marks refl
    (sym c.if-numbers_refused.true ∙ c.numbers_refused.ensures)

pub returns-then-lengths_refused : goal.returns-then-lengths_refused
unfolding refused_by number_of
returns-then-lengths_refused c = early_5 c.args.state c.requires c.args.cell c.args.samples c.args.ancillary c.args.marks
    refl (fourth (goal.at.returns-then-lengths_refused c).Else-numbers_refused) (sym c.if-lengths_refused.true ∙ c.lengths_refused.ensures)

pub returns : goal.returns
unfolding refused_by number_of
returns c = early_5 c.args.state c.requires c.args.cell c.args.samples c.args.ancillary c.args.marks
    refl (fourth (goal.at.returns c).Else-numbers_refused) (sym c.if-lengths_refused.false ∙ c.lengths_refused.ensures)
