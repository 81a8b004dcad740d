-- `hearing::receiving::receive` meets its contract.
-- Assumes nothing.
use mathlib.Core.Path.{◌≡◌, sym, ◌∙◌}
use native.Mathlib.Omega.{arith}
use Rattle.formats.specs.Settings.{settled_as, settings_of}
use Rattle.formats.proofs.Laws.{answered_ok}
use Rattle.receiver.specs.Receiver.{state_refusal}
use Rattle.receiver.proofs.Onward.{used_between}
use Rattle.hearing.proofs.Called.{settings_none, settings_used, answers_state, answers_ancillary, answers_marks, answers_on}
use Rattle.hearing.proofs.receiving.receive.Goals as goal
use Rattle.hearing.proofs.receiving.receive.Goals.{After-unwrap-set, Else-refusal-ne0, then-ancillary-samples-via-then-ancillary-samples, then-ancillary-samples-via-else-ancillary-samples+then-marks-samples}

-- where the state isn't refused
none : (e : Else-refusal-ne0) → state_refusal e.args.state ≡ 0
none e = sym e.refusal_of-refusal.ensures ∙ e.if-refusal-ne0.false

pub unwrap-set-requires : goal.unwrap-set-requires
unwrap-set-requires c = answered_ok _ _ _ _ c.settings.ensures (settings_none c.args.state (none (goal.at.unwrap-set-requires c).Else-refusal-ne0))

settled : (c : After-unwrap-set)
    → settled_as c.unwrap-set.result ≡ settings_of c.args.state.format c.args.state.channels c.args.state.order
settled c = rw c.unwrap-set.ensures at c.settings.ensures

pub returns-then-refusal-ne0 : goal.returns-then-refusal-ne0
returns-then-refusal-ne0 c = answers_state c.args.state c.args.log.now c.args.place c.args.samples.now c.args.ancillary.now c.args.marks.now c.refusal_of-refusal.ensures c.if-refusal-ne0.true c.begun.ensures

pub returns-then-ancillary-samples : goal.returns-then-ancillary-samples
returns-then-ancillary-samples c = let a = c.args in
    let sound = none (goal.at.returns-then-ancillary-samples c).Else-refusal-ne0 in
    let said = c.begun-then-ancillary-samples.ensures in
    elim c.then-ancillary-samples.branch [
      | then-ancillary-samples-via-then-ancillary-samples w ↦
          answers_ancillary a.state a.log.now a.place a.samples.now a.ancillary.now a.marks.now sound w.if-ancillary-samples.true said
      | then-ancillary-samples-via-else-ancillary-samples+then-marks-samples w ↦
          answers_marks a.state a.log.now a.place a.samples.now a.ancillary.now a.marks.now sound w.if-ancillary-samples.false
          w.if-marks-samples.true said
    ]

pub overflow_mul-used : goal.overflow_mul-used
overflow_mul-used c = omega (arith, settings_used c.args.state (none (goal.at.overflow_mul-used c).Else-refusal-ne0) (settled (goal.at.overflow_mul-used c).After-unwrap-set), (used_between c.args.state (none (goal.at.overflow_mul-used c).Else-refusal-ne0)).1)

pub walk-requires : goal.walk-requires
walk-requires c = (none (goal.at.walk-requires c).Else-refusal-ne0, settings_used c.args.state (none (goal.at.walk-requires c).Else-refusal-ne0) (settled (goal.at.walk-requires c).After-unwrap-set), c.if-ancillary-samples.false, c.if-marks-samples.false)

pub returns : goal.returns
returns c = answers_on c.args.state c.args.log.now c.args.place c.args.samples.now c.args.ancillary.now c.args.marks.now (none (goal.at.returns c).Else-refusal-ne0) c.if-ancillary-samples.false c.if-marks-samples.false c.walk.ensures
