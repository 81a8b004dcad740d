-- No second answer: two answers, and two watches at exit, that meet a public function's contract for the same inputs are equal. Stated
-- over the contracts themselves.
-- Assumes nothing.
use mathlib.Core.Path.{refl, sym, ◌∙◌}
use Rattle.runs.proofs.One.{One}
use Rattle.slips.proofs.Known.{step_injective, reads_one, from_injective}
use Rattle.slips.proofs.Watch.step.Kinds as step-kinds
use Rattle.slips.proofs.Watch.step.Reads as step-reads
use Rattle.slips.proofs.step.Kinds as from-kinds
use Rattle.slips.proofs.step.Reads as from-reads
use Rattle.slips.proofs.Slip.octets.Kinds as slip-octets-kinds
use Rattle.slips.proofs.Slip.octets.Reads as slip-octets-reads
use Rattle.slips.proofs.Watch.octets.Kinds as octets-kinds
use Rattle.slips.proofs.Watch.octets.Reads as octets-reads
use Rattle.slips.proofs.WatchTryFromArrayU87.try_from.Kinds as read-kinds
use Rattle.slips.proofs.WatchTryFromArrayU87.try_from.Reads as read-reads

pub step_one : One step-kinds.ps step-kinds.r step-reads.Pre step-reads.Post
step_one κs a x y v w pre p q =
    let same = step_injective x y v.0 w.0 (p ∙ sym q) in (same.0, λ i. (same.1 i, (tt, (tt, (tt, tt)))))

pub octets_one : One octets-kinds.ps octets-kinds.r octets-reads.Pre octets-reads.Post
octets_one κs a x y v w pre p q = (p ∙ sym q, refl)

pub try_from_one : One read-kinds.ps read-kinds.r read-reads.Pre read-reads.Post
try_from_one κs a x y v w pre p q = (reads_one a.0 x y p q, refl)

pub step_of_octets_one : One from-kinds.ps from-kinds.r from-reads.Pre from-reads.Post
step_of_octets_one κs a x y v w pre p q = (from_injective a.0 x y (p.0 ∙ sym q.0) p.1 q.1, refl)

pub slip_octets_one : One slip-octets-kinds.ps slip-octets-kinds.r slip-octets-reads.Pre slip-octets-reads.Post
slip_octets_one κs a x y v w pre p q = (p ∙ sym q, refl)
