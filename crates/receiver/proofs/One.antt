-- No second answer: two answers, and two contents of each lent run at exit, that meet a public function's contract for the same
-- inputs are equal. Stated over the contracts themselves.
-- Assumes nothing.
use mathlib.Core.Path.{refl, sym, ◌∙◌}
use Rattle.runs.proofs.One.{One}
use Rattle.receiver.proofs.judged.Kinds as judged-kinds
use Rattle.receiver.proofs.judged.Reads as judged-reads
use Rattle.receiver.proofs.opened.Kinds as opened-kinds
use Rattle.receiver.proofs.opened.Reads as opened-reads
use Rattle.receiver.proofs.placed.Kinds as placed-kinds
use Rattle.receiver.proofs.placed.Reads as placed-reads
use Rattle.receiver.proofs.receive.Kinds as receive-kinds
use Rattle.receiver.proofs.receive.Reads as receive-reads
use Rattle.runs.specs.Runs.{over}
use Rattle.cells.specs.Cells.{sample_in, ancillary_in, mark_in}
use Rattle.receiver.specs.Many.{settings_now, many_given}
use Rattle.receiver.proofs.many.unpack.Kinds as unpack-kinds
use Rattle.receiver.proofs.many.unpack.Reads as unpack-reads

pub opened_one : One opened-kinds.ps opened-kinds.r opened-reads.Pre opened-reads.Post
opened_one κs a x y v w pre p q = (p ∙ sym q, refl)

pub placed_one : One placed-kinds.ps placed-kinds.r placed-reads.Pre placed-reads.Post
placed_one κs a x y v w pre p q = (p ∙ sym q, refl)

pub judged_one : One judged-kinds.ps judged-kinds.r judged-reads.Pre judged-reads.Post
judged_one κs a x y v w pre p q = (p ∙ sym q, refl)

pub receive_one : One receive-kinds.ps receive-kinds.r receive-reads.Pre receive-reads.Post
receive_one κs a x y v w pre p q = (
  p.answered ∙ sym q.answered,
  λ i. (
    tt,
    (
      tt,
      (
        tt,
        (
          (p.samples_after ∙ sym q.samples_after) i,
          ((p.ancillary_after ∙ sym q.ancillary_after) i, ((p.marks_after ∙ sym q.marks_after) i, tt)),
        ),
      ),
    ),
  ),
)

pub unpack_one : One unpack-kinds.ps unpack-kinds.r unpack-reads.Pre unpack-reads.Post
unpack_one κs a x y v w pre p q =
    let same = p.answered ∙ sym q.answered in (
      same,
      λ i. (
        tt,
        (
          tt,
          (
            tt,
            (
              tt,
              (
                tt,
                (
                  (p.samples_after ∙ (λ j. over (many_given (same j) 0 (sample_in (settings_now a.0).format) a.1.1.1.1.0 (settings_now a.0) a.1.0.now a.1.1.0 a.1.1.1.0) a.1.1.1.1.1.0.now) ∙ sym q.samples_after) i,
                  (
                    (p.ancillary_after ∙ (λ j. over (many_given (same j) 0 (ancillary_in (settings_now a.0).format) a.1.1.1.1.0 (settings_now a.0) a.1.0.now a.1.1.0 a.1.1.1.0) a.1.1.1.1.1.1.0.now) ∙ sym q.ancillary_after) i,
                    (
                      (p.marks_after ∙ (λ j. over (many_given (same j) 2 (mark_in (settings_now a.0).format) a.1.1.1.1.0 (settings_now a.0) a.1.0.now a.1.1.0 a.1.1.1.0) a.1.1.1.1.1.1.1.0.now) ∙ sym q.marks_after) i,
                      tt,
                    ),
                  ),
                ),
              ),
            ),
          ),
        ),
      ),
    )
