-- `hearing::receiving::one` meets its contract.
-- Assumes nothing.
use mathlib.Core.Path.{◌≡◌, ◌∙◌, ap}
use native.Mathlib.Omega.{arith}
use Rattle.cell_log.proofs.Places.{cell_facts}
use Rattle.receiver.proofs.Onward.{used_between}
use Rattle.hearing.specs.Steps.{needed_of, heard_at}
use Rattle.hearing.proofs.Past.{got_is, steps_on, steps_full}
use Rattle.hearing.proofs.receiving.one.Goals as goal
use Rattle.hearing.proofs.receiving.one.Goals.{After-judged-got}

-- the answer is what is heard
heard : (q : After-judged-got) → q.judged-got.result ≡ (heard_at q.args.b.state q.args.log.now q.args.b.next).answer
heard q = got_is q.args.b q.args.used q.args.log.now q.args.samples.now q.args.ancillary.now q.args.marks.now q.requires.0 q.requires.1 q.read_cell.ensures.0
    q.requires.2 q.judged-got.ensures

pub needed-entries-requires : goal.needed-entries-requires
needed-entries-requires c = omega (arith, c.requires.0.used_is, (used_between c.args.b.state c.requires.0.sound).1)

pub returns-then-samples-b : goal.returns-then-samples-b
returns-then-samples-b c = steps_full c.args.b c.args.used c.args.log.now c.args.samples.now c.args.ancillary.now c.args.marks.now c.requires.0 c.requires.1 (heard (goal.at.returns-then-samples-b c).After-judged-got) c.needed-entries.ensures c.if-samples-b.true c.stopped.ensures

pub put-requires : goal.put-requires
put-requires c = let ready = c.requires.0 in
    let needed-is = c.needed-entries.ensures ∙ ap (needed_of c.judged-got.result) ready.used_is in (
      ready.sound,
      c.requires.1,
      heard (goal.at.put-requires c).After-judged-got,
      omega (arith, needed-is, c.if-samples-b.false, ready.within),
      ready.ancillary_same,
      ready.marks_same,
    )

pub past_one-requires : goal.past_one-requires
past_one-requires c = let ready = c.requires.0 in
    let facts = cell_facts c.args.log.now c.args.b.next c.requires.1 in (
      ready.counted,
      omega (arith, facts.0, c.well_formed),
      omega (arith, c.if-samples-b.false, ready.within, c.well_formed),
    )

pub returns : goal.returns
returns c = steps_on c.args.b c.args.used c.args.log.now c.args.samples.now c.args.ancillary.now c.args.marks.now c.requires.0 c.requires.1 (heard (goal.at.returns c).After-judged-got) c.needed-entries.ensures c.if-samples-b.false c.put.ensures c.past_one.ensures
