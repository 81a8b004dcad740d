-- No second answer: two answers, and two contents of each lent array and run at exit, that meet the contract of one of the boxes' calls
-- for the same inputs are equal. Stated over the contracts themselves.
-- Assumes nothing.
use mathlib.Core.Path.{refl, sym, ◌∙◌}
use Rattle.runs.proofs.One.{One}
use Rattle.rimesatchel.proofs.boxes.rime_sender_open.Kinds as sender-open-kinds
use Rattle.rimesatchel.proofs.boxes.rime_sender_open.Reads as sender-open-reads
use Rattle.rimesatchel.proofs.boxes.rime_send.Kinds as send-kinds
use Rattle.rimesatchel.proofs.boxes.rime_send.Reads as send-reads
use Rattle.rimesatchel.proofs.boxes.rime_receiver_open.Kinds as receiver-open-kinds
use Rattle.rimesatchel.proofs.boxes.rime_receiver_open.Reads as receiver-open-reads
use Rattle.rimesatchel.proofs.boxes.rime_receiver_placed.Kinds as placed-kinds
use Rattle.rimesatchel.proofs.boxes.rime_receiver_placed.Reads as placed-reads
use Rattle.rimesatchel.proofs.boxes.rime_receive.Kinds as receive-kinds
use Rattle.rimesatchel.proofs.boxes.rime_receive.Reads as receive-reads

pub sender_open_one : One sender-open-kinds.ps sender-open-kinds.r sender-open-reads.Pre sender-open-reads.Post
sender_open_one κs a x y v w pre p q =
    (p.refused ∙ sym q.refused, λ i. (tt, (tt, (tt, (tt, (tt, (tt, ((p.leaves ∙ sym q.leaves) i, tt))))))))

pub receiver_open_one : One receiver-open-kinds.ps receiver-open-kinds.r receiver-open-reads.Pre receiver-open-reads.Post
receiver_open_one κs a x y v w pre p q =
    (p.refused ∙ sym q.refused, λ i. (tt, (tt, (tt, ((p.leaves ∙ sym q.leaves) i, tt)))))

pub placed_one : One placed-kinds.ps placed-kinds.r placed-reads.Pre placed-reads.Post
placed_one κs a x y v w pre p q = (p ∙ sym q, refl)

pub send_one : One send-kinds.ps send-kinds.r send-reads.Pre send-reads.Post
send_one κs a x y v w pre p q = (
  p.refused ∙ sym q.refused,
  λ i. (
    (p.leaves ∙ sym q.leaves) i,
    (tt, (tt, (tt, ((p.writes ∙ sym q.writes) i, tt)))),
  ),
)

pub receive_one : One receive-kinds.ps receive-kinds.r receive-reads.Pre receive-reads.Post
receive_one κs a x y v w pre p q = (
  p.refused ∙ sym q.refused,
  λ i. (
    (p.leaves ∙ sym q.leaves) i,
    (
      tt,
      (
        tt,
        (
          (p.receives.samples_after ∙ sym q.receives.samples_after) i,
          (
            (p.receives.ancillary_after ∙ sym q.receives.ancillary_after) i,
            (
              (p.receives.marks_after ∙ sym q.receives.marks_after) i,
              ((p.reports ∙ sym q.reports) i, tt),
            ),
          ),
        ),
      ),
    ),
  ),
)
