-- `rimesatchel::boxes::rime_sender_open` meets its contract.
-- Assumes nothing.
use mathlib.Core.Path.{◌∙◌, ap}
use Rattle.sender.specs.declared.Ready.{Ready}
use Rattle.rimesatchel.specs.Boxes.{sender_octets}
use Rattle.rimesatchel.proofs.boxes.rime_sender_open.Goals as goal

pub returns : goal.returns
returns c = record {
  refused = ap (λ (x : Ready). x.refusal) c.opened-opened.ensures;
  leaves = c.sender_octets.ensures ∙ ap (λ (x : Ready). sender_octets x.state) c.opened-opened.ensures;
}
