-- `sender::write_any` meets its contract.
-- Assumes nothing.
use Rattle.std.proofs.Common.{◌≡◌, length, sym, refl, ◌∙◌}
use Rattle.refusals.proofs.Laws.{number_not_0}
use Rattle.formats.specs.Settings.{settled_as}
use Rattle.sender.proofs.Packing.{bits_in}
use Rattle.sender.proofs.Laws.{Call, refusal_of, by_set, writes_refused, can_pack, writes_taken}
use Rattle.sender.proofs.write_any.Goals as goal
use Rattle.sender.proofs.write_any.Goals.{After-send_refusal-refusal, Else-refusal-ne0, Start}

abbrev call : Start → Call
call s =
    record {
      state = s.args.state;
      indication = s.args.indication;
      samples = s.args.samples.now;
      ancillary = s.args.ancillary.now;
    }

abbrev from : After-send_refusal-refusal → Start
from c = (goal.at.After-send_refusal-refusal c).Start

none : (c : Else-refusal-ne0) → let s = from (goal.at.Else-refusal-ne0 c).After-send_refusal-refusal in 0 ≡ refusal_of (call s) (length s.args.cell.now)
none c = sym c.if-refusal-ne0.false ∙ c.send_refusal-refusal.ensures

pub returns-then-refusal-ne0 : goal.returns-then-refusal-ne0
returns-then-refusal-ne0 c = let s = from (goal.at.returns-then-refusal-ne0 c).After-send_refusal-refusal in writes_refused (call s) s.args.cell.now c.if-refusal-ne0.true c.send_refusal-refusal.ensures

pub returns-in-Err : goal.returns-in-Err
returns-in-Err c = let s = (goal.at.returns-in-Err c).Start in
    let some = number_not_0 c.in-Err.refusal in
    rw c.into.ensures (writes_refused (call s) s.args.cell.now some (by_set (call s) (length s.args.cell.now) c.in-Err.ensures some))

pub pack-requires : goal.pack-requires
pack-requires c = let s = from (goal.at.pack-requires c).After-send_refusal-refusal in
    can_pack (call s) s.args.cell.now c.in-Ok.ensures (none (goal.at.pack-requires c).Else-refusal-ne0)

pub returns : goal.returns
returns c = let s = from (goal.at.returns c).After-send_refusal-refusal in
    let bits = c.sequence_in-sequence in
    writes_taken (call s) s.args.cell.now c.in-Ok.ensures (none (goal.at.returns c).Else-refusal-ne0) s.requires refl
    (bits_in (settled_as c.in-Ok.set) s.args.samples.now s.args.ancillary.now s.args.state.number s.args.second
    bits.ensures c.pack.ensures)
