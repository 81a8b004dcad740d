-- `sender::octets::put_last` meets its contract.
-- Assumes nothing.
use Rattle.std.proofs.Common.{ℕ, ◌-◌, List, take, drop, ap, ◌∙◌}
use Rattle.sender.proofs.LastOctets.{last_of_eight, put_stored}
use Rattle.sender.proofs.octets.put_last.Goals as goal

pub returns : goal.returns
returns c =
    put_stored c.args.cell.now c.args.at c.args.width c.args.number
    (c.copy_from_slice.ensures.after
    ∙ ap (λ (l : List ℕ). take (8 - (8 - c.args.width)) (drop (8 - c.args.width) l)) c.to_be_bytes.ensures
    ∙ last_of_eight c.args.width c.args.number c.requires.1)
