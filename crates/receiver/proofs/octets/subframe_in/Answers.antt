-- `receiver::octets::subframe_in` meets its contract: each width by its reading.
-- Assumes nothing.
use native.Mathlib.Omega.{arith}
use mathlib.Core.Path.{◌≡◌, sym, ◌∙◌, ap}
use Prim.Native.Nat.{ℕ, ◌+◌, ◌*◌, ◌≤◌}
use native.Mathlib.Nat.{mul-one}
use lib.ListN.{length, take, drop}
use Rattle.runs.specs.Runs.{number_of}
use Rattle.cells.specs.Cells.{subframe_at}
use Rattle.receiver.proofs.Reading.{one_read, two_read, three_read, four_read, six_read, by_width, slot_at, one_left}
use Rattle.receiver.proofs.octets.subframe_in.Goals as goal
use Rattle.receiver.proofs.octets.subframe_in.Goals.{Else-width-eq6, Start}

-- the slot's octets stand in the cell
within : (s : Start) {w : ℕ} → s.args.format.width ≡ w → s.args.slot * w + w ≤ length s.args.cell.now
within s is = slot_at s.requires.0 s.args.cell.now s.requires.1 s.requires.2 is

-- the subframe by the width
by : (s : Start) {w v : ℕ} → s.args.format.width ≡ w
    → v ≡ number_of (take w (drop (s.args.slot * w) s.args.cell.now))
    → v ≡ subframe_at s.args.format s.args.cell.now s.args.slot
by s is e = by_width s.args.format s.args.cell.now s.args.slot is e

one : (c : Else-width-eq6) → c.args.format.width ≡ 1
one c =
    one_left c.requires.0 c.if-width-eq4.false c.if-width-eq3.false
    c.if-width-eq2.false c.if-width-eq6.false

pub returns-then-width-eq4 : goal.returns-then-width-eq4
returns-then-width-eq4 c = let is = c.if-width-eq4.true in
    by (goal.at.returns-then-width-eq4 c).Start is (c.in4.ensures.0 ∙ four_read c.args.cell.now (c.args.slot * 4) (within (goal.at.returns-then-width-eq4 c).Start is))

pub returns-then-width-eq3 : goal.returns-then-width-eq3
returns-then-width-eq3 c = let is = c.if-width-eq3.true in
    by (goal.at.returns-then-width-eq3 c).Start is (c.in3.ensures ∙ three_read c.args.cell.now (c.args.slot * 3) (within (goal.at.returns-then-width-eq3 c).Start is))

pub returns-then-width-eq2 : goal.returns-then-width-eq2
returns-then-width-eq2 c = let is = c.if-width-eq2.true in
    by (goal.at.returns-then-width-eq2 c).Start is (c.in2.ensures.0 ∙ two_read c.args.cell.now (c.args.slot * 2) (within (goal.at.returns-then-width-eq2 c).Start is))

pub returns-then-width-eq6 : goal.returns-then-width-eq6
returns-then-width-eq6 c = let is = c.if-width-eq6.true in
    by (goal.at.returns-then-width-eq6 c).Start is (c.in6.ensures ∙ six_read c.args.cell.now (c.args.slot * 6) (within (goal.at.returns-then-width-eq6 c).Start is))

pub returns : goal.returns
returns c = let is = one (goal.at.returns c).Else-width-eq6 in
    by (goal.at.returns c).Start is
    (one_read c.args.cell.now c.args.slot (omega (arith, within (goal.at.returns c).Start is))
    ∙ ap (λ (n : ℕ). number_of (take 1 (drop n c.args.cell.now))) (sym (mul-one c.args.slot)))
