-- `receiver::judge::answered` meets its contract.
-- Assumes nothing.
use mathlib.Core.Path.{◌≡◌, sym, ◌∙◌, ap₂}
use Prim.Native.Nat.{ℕ}
use lib.ListN.{length}
use Rattle.refusals.specs.Refusals.{refused_by}
use Rattle.refusals.proofs.Laws.{number_not_0}
use Rattle.receiver.specs.Receiver.{received_of}
use Rattle.receiver.specs.Unpacking.{early_refusal}
use Rattle.receiver.proofs.Laws.{answer_early, early_none, equal_early, judged_limits, judged_format, judged_whole_lem}
use Rattle.receiver.proofs.judge.answered.Goals as goal
use Rattle.receiver.proofs.judge.answered.Goals.{In_default}

none : (e : In_default)
    → early_refusal e.args.state (length e.args.cell.now) e.args.samples e.args.ancillary e.args.marks ≡ 0
unfolding refused_by
none e = sym e.in_default.ensures

equal : (e : In_default)
    → early_refusal e.args.state (length e.args.cell.now) e.args.samples e.args.samples e.args.samples ≡ 0
equal e = equal_early e.args.state (length e.args.cell.now) e.args.samples e.args.ancillary e.args.marks (none e)

pub returns-in-Err : goal.returns-in-Err
unfolding refused_by
returns-in-Err c = let a = c.args in
    c.refused.ensures
    ∙ answer_early a.state a.cell.now a.indication a.samples a.ancillary a.marks (number_not_0 c.in-Err.refusal) c.in-Err.ensures

pub found_now-found-requires : goal.found_now-found-requires
found_now-found-requires c = let early = equal (goal.at.found_now-found-requires c).In_default in (
  (judged_limits c.args.state c.args.cell.now c.args.indication _ c.requires early).sound,
  judged_whole_lem c.args.state c.args.cell.now c.args.indication _ c.requires early,
)

pub judged-requires : goal.judged-requires
judged-requires c = let early = equal (goal.at.judged-requires c).In_default in (
  c.requires,
  early,
  c.found_now-found.ensures c.args.state (judged_format c.args.state c.args.cell.now c.args.indication _ c.requires early),
)

pub returns : goal.returns
returns c = let a = c.args in
    let fits = early_none a.state (length a.cell.now) a.samples a.ancillary a.marks (none (goal.at.returns c).In_default) in
    c.judged.ensures
    ∙ ap₂ (λ (n m : ℕ). received_of a.state a.cell.now a.indication a.samples n m) (sym fits.ancillary_length) (sym fits.marks_length)
