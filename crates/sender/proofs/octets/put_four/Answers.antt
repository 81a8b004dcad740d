-- `sender::octets::put_four` meets its contract.
-- Assumes nothing.
use Rattle.std.proofs.Common.{◌∙◌}
use Rattle.sender.proofs.LastOctets.{four_of, put_stored}
use Rattle.sender.proofs.octets.put_four.Goals as goal

pub returns : goal.returns
returns c =
    put_stored c.args.cell.now c.args.at 4 c.args.number
    (c.copy_from_slice.ensures.after ∙ c.to_be_bytes.ensures ∙ four_of c.args.number)
