-- `sender::write` meets its contract.
-- Assumes nothing.
use Rattle.sender.proofs.write.Goals as goal

pub write_usual-requires : goal.write_usual-requires
write_usual-requires c = (c.is_usual.ensures c.if-is_usual.true, c.requires)
