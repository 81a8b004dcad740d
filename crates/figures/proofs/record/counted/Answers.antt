-- `figures::record::counted` meets its contract: octets that begin with no record, and one record.
-- Assumes nothing.
use mathlib.Core.Path.{◌≡◌, ◌∙◌}
use native.Mathlib.Omega.{arith}
use borrow.Author.Rules.{rules}
use lib.ListN.{length}
use Rattle.reading.proofs.Records.{whole_here}
use Rattle.pieces.proofs.Stretches.{wholes_one}
use Rattle.figures.proofs.Walks.{past_held, past_none}
use Rattle.figures.proofs.record.counted.Goals as goal

pub returns-then-octets-gt1 : goal.returns-then-octets-gt1
returns-then-octets-gt1 c = c.passed_over.ensures ∙ past_none c.args.noted c.args.octets c.if-octets-gt1.true

pub counted-requires : goal.counted-requires
counted-requires c = let size : length c.args.octets ≡ 49 = search rules in
    let here = whole_here c.args.octets (omega (arith, size)) c.if-octets-gt1.false in
    (wholes_one c.args.octets here, omega arith, omega arith)

pub returns : goal.returns
returns c = let size : length c.args.octets ≡ 49 = search rules in
    let here = whole_here c.args.octets (omega (arith, size)) c.if-octets-gt1.false in
    past_held c.args.noted c.args.octets here c.counted.ensures
