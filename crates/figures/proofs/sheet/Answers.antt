-- `figures::sheet` meets its contract.: a law for each return.
-- Assumes nothing.
use mathlib.Core.Path.{refl}
use native.Mathlib.Omega.{arith}
use Rattle.refusals.specs.Refusals.{number_of}
use Rattle.figures.proofs.Laws.{capped_row}
use Rattle.figures.proofs.Refusals.{says_18, says_5, octets_are, rows_are, says_19, says_0}
use Rattle.figures.proofs.sheet.Goals as goal

pub returns-then-lengths-gt4096 : goal.returns-then-lengths-gt4096
unfolding number_of
returns-then-lengths-gt4096 c = says_18 _ _ _ c.if-lengths-gt4096.true refl

pub returns-then-differ : goal.returns-then-differ
unfolding number_of
returns-then-differ c = says_5 _ _ _ c.if-lengths-gt4096.false c.differ.ensures c.if-differ.true refl

pub fill-counts-requires : goal.fill-counts-requires
fill-counts-requires c = let few = c.if-lengths-gt4096.false in
    let told = c.differ.ensures in (
      octets_are c.args.octets.now c.args.lengths.now c.args.rows.now few told c.if-differ.false,
      omega (arith, few),
    )

pub returns-then-too_many : goal.returns-then-too_many
unfolding number_of
returns-then-too_many c = says_19 _ _ _ c.if-lengths-gt4096.false c.differ.ensures c.if-differ.false
    c.fill-counts.ensures
    c.too_many.ensures c.if-too_many.true refl

pub copy-requires : goal.copy-requires
copy-requires c = let few = c.if-lengths-gt4096.false in
    omega (
      arith,
      few,
      rows_are c.args.octets.now c.args.lengths.now c.args.rows.now few
          c.differ.ensures c.if-differ.false,
      c.fill-counts.auto.rows,
    )

pub row_of-requires : goal.row_of-requires
row_of-requires c = capped_row _ c.fill-counts.ensures.totals_are

pub shape_of-rows : goal.shape_of-rows
shape_of-rows c = c.copy.auto.rows

pub returns : goal.returns
returns c = says_0 _ _ _ c.if-lengths-gt4096.false c.differ.ensures c.if-differ.false
    c.fill-counts.ensures
    c.too_many.ensures c.if-too_many.false c.copy.ensures c.row_of.ensures
