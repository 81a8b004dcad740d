-- `sender::fill::guard_in` meets its contract.
-- Assumes nothing.
use Rattle.std.proofs.Common.{◌∙◌, ap}
use Rattle.std.proofs.Math.Nat.{mod-eq_of_lt}
use Rattle.guards.specs.Guards.{ten_guard}
use Rattle.sender.proofs.Subframes.{twice_fits, nine_fits, guard_of_nine}
use Rattle.sender.proofs.fill.guard_in.Goals as goal

pub overflow_mul-nine : goal.overflow_mul-nine
overflow_mul-nine c = record { fits = twice_fits c.args.sample_bits c.args.ancillary_bits c.requires.0 c.requires.2 c.requires.1 }

pub protected-ten-requires : goal.protected-ten-requires
protected-ten-requires c = nine_fits c.args.sample_bits c.args.ancillary_bits c.requires.0 c.requires.2

pub returns : goal.returns
returns c = c.from.ensures ∙ c.of_ten.ensures ∙ ap ten_guard (mod-eq_of_lt c.protected-ten.ensures.1)
    ∙ guard_of_nine c.args.sample_bits c.args.ancillary_bits c.requires.0 c.requires.2 c.protected-ten.ensures.0
