-- `glance::mark_in` meets its contract.
-- Assumes nothing.
use mathlib.Core.Path.{sym, ◌∙◌}
use Prim.Native.Nat.{◌%◌}
use borrow.Author.Tests.{eqb-true, eqb-false}
use lib.Dec.{eqb}
use Rattle.runs.proofs.Laws.{split}
use Rattle.cells.proofs.Subframes.{four}
use Rattle.cells.proofs.Marks.{mark_plain, mark_agrees, mark_differs}
use Rattle.glance.proofs.mark_in.Goals as goal

pub returns-then-format-eq0 : goal.returns-then-format-eq0
returns-then-format-eq0 c = mark_plain _ _ c.if-format-eq0.true

pub protected-ten-requires : goal.protected-ten-requires
protected-ten-requires c = (c.requires.0, four c.requires.0 c.if-format-eq0.false, c.requires.2)

pub returns : goal.returns
returns c =
    let ten = c.protected-ten.ensures in
    split (eqb c.from.result (c.args.subframe % 8))
    (λ e. rw (c.from-2.ensures, e)
    (mark_agrees _ _ c.if-format-eq0.false c.requires.1 ten.0 ten.1 (sym c.from.ensures ∙ eqb-true _ _ e)))
    (λ e. rw (c.from-2.ensures, e)
    (mark_differs _ _ c.if-format-eq0.false c.requires.1 ten.0 ten.1 (λ z. eqb-false _ _ e (c.from.ensures ∙ z))))
