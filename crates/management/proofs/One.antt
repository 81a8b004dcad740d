-- No second answer: two answers, and two contents of all that is lent at exit, that meet the contract of one of the calls for the
-- same inputs are equal. Stated over the contracts themselves.
-- Assumes nothing.
use mathlib.Core.Path.{sym, ◌∙◌}
use Rattle.runs.proofs.One.{One}
use Rattle.management.proofs.equipment.rime_equipment.Kinds as equipment-kinds
use Rattle.management.proofs.equipment.rime_equipment.Reads as equipment-reads
use Rattle.management.proofs.controller.rime_controller.Kinds as controller-kinds
use Rattle.management.proofs.controller.rime_controller.Reads as controller-reads
use Rattle.management.proofs.packing.rime_port_settings.Kinds as port-settings-kinds
use Rattle.management.proofs.packing.rime_port_settings.Reads as port-settings-reads
use Rattle.management.proofs.packing.rime_port_packing.Kinds as port-packing-kinds
use Rattle.management.proofs.packing.rime_port_packing.Reads as port-packing-reads

pub equipment_one : One equipment-kinds.ps equipment-kinds.r equipment-reads.Pre equipment-reads.Post
equipment_one κs a x y v w pre p q = (
  p.refused ∙ sym q.refused,
  λ i. (
    (p.leaves ∙ sym q.leaves) i,
    (tt, ((p.writes ∙ sym q.writes) i, ((p.reports ∙ sym q.reports) i, tt))),
  ),
)

pub controller_one : One controller-kinds.ps controller-kinds.r controller-reads.Pre controller-reads.Post
controller_one κs a x y v w pre p q = (p.refused ∙ sym q.refused, λ i. ((p.leaves ∙ sym q.leaves) i, (tt, tt)))

pub port_settings_one : One port-settings-kinds.ps port-settings-kinds.r port-settings-reads.Pre port-settings-reads.Post
port_settings_one κs a x y v w pre p q = (p.refused ∙ sym q.refused, λ i. (tt, ((p.leaves ∙ sym q.leaves) i, tt)))

pub port_packing_one : One port-packing-kinds.ps port-packing-kinds.r port-packing-reads.Pre port-packing-reads.Post
port_packing_one κs a x y v w pre p q = (p.refused ∙ sym q.refused, λ i. (tt, (tt, (tt, ((p.leaves ∙ sym q.leaves) i, tt)))))
