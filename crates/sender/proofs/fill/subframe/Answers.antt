-- `sender::fill::subframe` meets its contract.
-- Assumes nothing.
use Rattle.std.proofs.Common.{refl, sym, ◌∙◌, arith}
use Rattle.sender.proofs.Subframes.{guarded_is, plain_is}
use Rattle.sender.proofs.fill.subframe.Goals as goal

pub returns-then-format-eq0 : goal.returns-then-format-eq0
returns-then-format-eq0 c =
    plain_is c.args.sample c.args.ancillary c.args.bit
    (record { sample_is = refl; ancillary_is = refl; overhead_is = sym c.if-format-eq0.true; width_is = refl })
    (omega (arith, c.requires.0.sample_to, c.requires.0.ancillary_to)) c.requires.1

pub returns : goal.returns
returns c =
    let s = c.requires.0 in
    c.guarded.ensures
    ∙ guarded_is c.args.sample c.args.ancillary c.args.bit
    (record {
      sample_is = refl;
      ancillary_is = refl;
      overhead_is = omega (arith, c.if-format-eq0.false, s.overhead_fours, s.overhead_to);
      width_is = refl;
    })
