-- `sender::judge::send_refusal` meets its contract: each way out by the check that it goes by.
-- Assumes nothing.
use Rattle.formats.specs.Settings.{settled_as}
use Rattle.std.proofs.Common.{◌≡◌, ◌*◌, sym, refl, ◌∙◌, arith}
use Rattle.sender.proofs.Laws.{Call, refusal_of, by_checks, from_4, from_5, from_6, from_7, limits, lengths_are}
use Rattle.sender.proofs.judge.send_refusal.Goals as goal
use Rattle.sender.proofs.judge.send_refusal.Goals.{After-lengths_refused, After-numbers, Else-lengths_refused, Else-numbers, Else-values_refused, Start}

abbrev call : Start → Call
call s =
    record {
      state = s.args.state;
      indication = s.args.indication;
      samples = s.args.samples.now;
      ancillary = s.args.ancillary.now;
    }

-- the ways back
abbrev from_2 : After-numbers → Start
from_2 c = (goal.at.After-numbers c).Start

abbrev from_3 : After-lengths_refused → Else-numbers
from_3 c = (goal.at.After-lengths_refused c).Else-numbers

abbrev start : Else-numbers → Start
start c = from_2 (goal.at.Else-numbers c).After-numbers

-- what is left of the checks, from place to place
left_4 : (s : Start) → refusal_of (call s) s.args.room ≡ from_4 (call s) s.args.room (settled_as s.args.set)
left_4 s = by_checks (call s) s.args.room s.requires refl

left_5 : (c : Else-numbers) → let s = start c in refusal_of (call s) s.args.room ≡ from_5 (call s) s.args.room (settled_as s.args.set)
left_5 c = left_4 (from_2 (goal.at.Else-numbers c).After-numbers) ∙ rw (sym c.numbers.ensures ∙ c.if-numbers.false)

left_6 : (c : Else-lengths_refused) → let s = start (from_3 (goal.at.Else-lengths_refused c).After-lengths_refused) in refusal_of (call s) s.args.room ≡ from_6 (call s) (settled_as s.args.set)
left_6 c = left_5 (from_3 (goal.at.Else-lengths_refused c).After-lengths_refused) ∙ rw (sym c.lengths_refused.ensures ∙ c.if-lengths_refused.false)

left_7 : (c : Else-values_refused) → let s = start (from_3 (goal.at.Else-values_refused c).After-lengths_refused) in refusal_of (call s) s.args.room ≡ from_7 (call s)
left_7 c = left_6 (goal.at.Else-values_refused c).Else-lengths_refused ∙ rw (sym c.values_refused.ensures ∙ c.if-values_refused.false)

pub returns-then-numbers : goal.returns-then-numbers
returns-then-numbers c = sym (left_4 (from_2 (goal.at.returns-then-numbers c).After-numbers) ∙ rw (sym c.numbers.ensures ∙ c.if-numbers.true))

pub overflow_mul-set : goal.overflow_mul-set
overflow_mul-set c = let s = from_2 (goal.at.overflow_mul-set c).After-numbers in omega (arith, (limits s.args.state s.requires refl).used_to)

pub returns-then-lengths_refused : goal.returns-then-lengths_refused
returns-then-lengths_refused c = sym (left_5 (from_3 (goal.at.returns-then-lengths_refused c).After-lengths_refused) ∙ rw (sym c.lengths_refused.ensures ∙ c.if-lengths_refused.true))

pub values_refused-requires : goal.values_refused-requires
values_refused-requires c =
    let a = c.args in
    let bounds = limits a.state c.requires refl in
    let long
    = lengths_are (a.set.channels * a.set.times) a.samples.now a.ancillary.now a.room
    (sym c.lengths_refused.ensures ∙ c.if-lengths_refused.false) in
    (bounds.sample_to, bounds.ancillary_to, long.2 ∙ sym long.1)

pub returns-then-values_refused : goal.returns-then-values_refused
returns-then-values_refused c = sym (left_6 (goal.at.returns-then-values_refused c).Else-lengths_refused ∙ rw (sym c.values_refused.ensures ∙ c.if-values_refused.true))

pub returns-then-indication_refused : goal.returns-then-indication_refused
returns-then-indication_refused c = sym (left_7 (goal.at.returns-then-indication_refused c).Else-values_refused ∙ rw (sym c.indication_refused.ensures ∙ c.if-indication_refused.true))

pub returns : goal.returns
returns c = sym (left_7 (goal.at.returns c).Else-values_refused ∙ rw (sym c.indication_refused.ensures ∙ c.if-indication_refused.false))
