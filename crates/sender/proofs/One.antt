-- No second answer: two answers, and two contents of each lent run at exit, that meet a public function's contract for the same
-- inputs are equal. Stated over the contracts themselves.
-- Assumes nothing.
use Rattle.std.proofs.Common.{sym, refl, ◌∙◌}
use Rattle.runs.proofs.One.{One}
use Rattle.sender.proofs.many.send.Kinds as many-kinds
use Rattle.sender.proofs.many.send.Reads as many-reads
use Rattle.sender.proofs.opened.Kinds as opened-kinds
use Rattle.sender.proofs.opened.Reads as opened-reads
use Rattle.sender.proofs.send.Kinds as send-kinds
use Rattle.sender.proofs.send.Reads as send-reads

pub opened_one : One opened-kinds.ps opened-kinds.r opened-reads.Pre opened-reads.Post
opened_one κs a x y v w pre p q = (p ∙ sym q, refl)

pub send_one : One send-kinds.ps send-kinds.r send-reads.Pre send-reads.Post
send_one κs a x y v w pre p q =
    (p.answered ∙ sym q.answered, λ i. (tt, (tt, (tt, (tt, ((p.cell_after_lem ∙ sym q.cell_after_lem) i, tt))))))

pub many_one : One many-kinds.ps many-kinds.r many-reads.Pre many-reads.Post
many_one κs a x y v w pre p q =
    (p.answered ∙ sym q.answered, λ i. (tt, (tt, (tt, (tt, ((p.log_after_lem ∙ sym q.log_after_lem) i, (tt, tt)))))))
