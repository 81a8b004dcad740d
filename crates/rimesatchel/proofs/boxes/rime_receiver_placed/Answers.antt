-- `rimesatchel::boxes::rime_receiver_placed` meets its contract.
-- Assumes nothing.
use mathlib.Core.Path.{◌∙◌, ap}
use Rattle.receiver.specs.declared.Receiver.{Receiver}
use Rattle.rimesatchel.proofs.boxes.rime_receiver_placed.Goals as goal

pub returns : goal.returns
returns c = c.placed.ensures ∙ ap (λ (s : Receiver). s.count) c.receiver_of.ensures
