-- `sender::octets::put_two` meets its contract.
-- Assumes nothing.
use Rattle.std.proofs.Common.{◌∙◌}
use Rattle.sender.proofs.LastOctets.{two_of, put_stored}
use Rattle.sender.proofs.octets.put_two.Goals as goal

pub returns : goal.returns
returns c =
    put_stored c.args.cell.now c.args.at 2 c.args.number
    (c.copy_from_slice.ensures.after ∙ c.to_be_bytes.ensures ∙ two_of c.args.number)
