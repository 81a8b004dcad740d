-- `receiver::judge::judged` meets its contract: each way out by the check that it goes by.
-- Assumes nothing.
use mathlib.Core.Path.{◌≡◌, sym, ◌∙◌}
use Prim.Native.Nat.{◌+◌, ◌*◌, ◌^◌, ◌≤◌, ◌<◌}
use native.Mathlib.Nat.{mul-le-mul}
use native.Mathlib.Omega.{arith}
use Rattle.formats.specs.Settings.{settled_as}
use Rattle.formats.specs.Formats.{format_of}
use Rattle.formats.specs.Sound.{Limits}
use Rattle.refusals.specs.Refusals.{refused_by, number_of}
use Rattle.refusals.proofs.Laws.{number_not_0}
use Rattle.receiver.specs.Receiver.{gap_of}
use Rattle.receiver.specs.Unpacking.{used_in, late_refusal}
use Rattle.receiver.proofs.Laws.{gap_to, late_none, number_found, judged_limits, judged_format, judged_whole_lem, judged_8, judged_15, judged_late, judged_0}
use Rattle.receiver.proofs.judge.judged.Goals as goal
use Rattle.receiver.proofs.judge.judged.Goals.{After-gap_now-gap, In_default-check_late, Start}

-- what the call's settings give
limits : (s : Start) → Limits (settled_as s.args.set)
limits s = judged_limits s.args.state s.args.cell.now s.args.indication s.args.samples s.requires.0 s.requires.1

format_is : (s : Start) → s.args.set.format ≡ format_of s.args.state.format
format_is s = judged_format s.args.state s.args.cell.now s.args.indication s.args.samples s.requires.0 s.requires.1

gap_is : (g : After-gap_now-gap) → g.gap_now-gap.result ≡ gap_of g.args.state g.args.cell.now
gap_is g =
    g.gap_now-gap.ensures g.args.cell.now
    (number_found g.args.state g.args.cell.now (sym g.in-Some.is ∙ g.requires.2))

gap_room : (g : After-gap_now-gap) → Limits (settled_as g.args.set) → g.gap_now-gap.result * (g.args.set.channels * g.args.set.times) < 2 ^ 64
gap_room g within =
    let few : g.gap_now-gap.result ≤ 15 = rw (gap_is g) (gap_to g.args.state g.args.cell.now) in
    let product = mul-le-mul few within.used_to in
    omega arith

-- where checks 9, 20 and 10 refuse nothing
late_is_none : (e : In_default-check_late) →
    0 ≡ late_refusal e.gap_now-gap.result e.args.state.count e.args.samples (e.gap_now-gap.result * used_in (settled_as e.args.set))
unfolding refused_by
late_is_none e = e.in_default-check_late.ensures

few : (e : In_default-check_late) → (1 ≤ e.gap_now-gap.result) × (e.args.state.count + e.gap_now-gap.result ≤ 4294967295)
few e =
    late_none e.gap_now-gap.result e.args.state.count e.args.samples (e.gap_now-gap.result * used_in (settled_as e.args.set))
    (sym (late_is_none e))

pub returns-in_default : goal.returns-in_default
unfolding number_of
returns-in_default c = c.refused.ensures
    ∙ judged_8 c.args.state c.args.cell.now c.args.indication c.args.samples c.requires.0 c.requires.1
    (sym c.in_default.is ∙ c.requires.2)

pub returns-then-indication_refused : goal.returns-then-indication_refused
unfolding number_of
returns-then-indication_refused c = c.refused-then-indication_refused.ensures
    ∙ judged_15 c.args.state c.args.cell.now c.args.indication c.args.samples c.requires.0 c.requires.1
    (sym c.in-Some.is ∙ c.requires.2) (sym c.if-indication_refused.true ∙ c.indication_refused.ensures)

pub gap_now-gap-requires : goal.gap_now-gap-requires
gap_now-gap-requires c = format_is (goal.at.gap_now-gap-requires c).Start

pub second_now-second-requires : goal.second_now-second-requires
second_now-second-requires c = (
  (limits (goal.at.second_now-second-requires c).Start).sound,
  judged_whole_lem c.args.state c.args.cell.now c.args.indication c.args.samples c.requires.0 c.requires.1,
)

pub overflow_mul-needed : goal.overflow_mul-needed
overflow_mul-needed c = omega (arith, (limits (goal.at.overflow_mul-needed c).Start).used_to)

pub overflow_mul-needed-2 : goal.overflow_mul-needed-2
overflow_mul-needed-2 c = let at = goal.at.overflow_mul-needed-2 c in
    record { fits = gap_room at.After-gap_now-gap (limits at.Start) }

pub returns-in-Err : goal.returns-in-Err
unfolding refused_by
returns-in-Err c = c.refused-in-Err.ensures
    ∙ judged_late c.args.state c.args.cell.now c.args.indication c.args.samples c.requires.0 c.requires.1
    (sym c.in-Some.is ∙ c.requires.2) (sym c.if-indication_refused.false ∙ c.indication_refused.ensures)
    (gap_is (goal.at.returns-in-Err c).After-gap_now-gap) (number_not_0 c.in-Err.refusal) c.in-Err.ensures

pub overflow_add-count : goal.overflow_add-count
overflow_add-count c = omega (arith, (few (goal.at.overflow_add-count c).In_default-check_late).1)

pub overflow_sub-gap : goal.overflow_sub-gap
overflow_sub-gap c = omega (arith, (few (goal.at.overflow_sub-gap c).In_default-check_late).0)

pub returns : goal.returns
returns c = let at = goal.at.returns c in
    c.taken.ensures
    ∙ judged_0 c.args.state c.args.cell.now c.args.indication c.args.samples c.requires.0 c.requires.1
    (sym c.in-Some.is ∙ c.requires.2) (sym c.if-indication_refused.false ∙ c.indication_refused.ensures)
    (gap_is at.After-gap_now-gap) (late_is_none at.In_default-check_late) (c.second_now-second.ensures c.args.state (format_is at.Start))
