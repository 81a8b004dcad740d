-- `rimesatchel::boxes::rime_receiver_open` meets its contract.
-- Assumes nothing.
use mathlib.Core.Path.{◌∙◌, ap}
use Rattle.receiver.specs.declared.Ready.{Ready}
use Rattle.rimesatchel.specs.Boxes.{receiver_octets}
use Rattle.rimesatchel.proofs.boxes.rime_receiver_open.Goals as goal

pub returns : goal.returns
returns c = record {
  refused = ap (λ (x : Ready). x.refusal) c.opened-opened.ensures;
  leaves = c.receiver_octets.ensures ∙ ap (λ (x : Ready). receiver_octets x.state) c.opened-opened.ensures;
}
