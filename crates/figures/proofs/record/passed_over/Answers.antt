-- `figures::record::passed_over` meets its contract.
-- Assumes nothing.
use mathlib.Core.Path.{◌∙◌, ap}
use Rattle.figures.specs.declared.Counts.{Counts}
use Rattle.figures.specs.Code.{capped}
use Rattle.figures.specs.Figures.{plus_of}
use Rattle.figures.proofs.Laws.{counts_begun}
use Rattle.figures.proofs.record.passed_over.Goals as goal

pub returns : goal.returns
returns c = λ i. record {
  state = c.args.noted.state;
  counts = (c.plus-counts.ensures ∙ ap (λ (n : Counts). capped (plus_of c.args.noted.counts n)) (counts_begun c.default.ensures)) i;
}
