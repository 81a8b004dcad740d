-- `sender::usual::write_usual` meets its contract.
-- Assumes nothing.
use Rattle.std.proofs.Common.{◌≡◌, length, sym, ap, ◌∙◌}
use Rattle.formats.specs.Settings.{settled_as, settings_of}
use Rattle.sender.specs.Packing.{Packable, filled_to}
use Rattle.sender.proofs.Laws.{Call, refusal_of, writes_refused, can_pack, writes_taken}
use Rattle.sender.proofs.Packing.{all_filled, usual_settles, usual_in_order, usual_named, all_used}
use Rattle.sender.proofs.usual.write_usual.Goals as goal
use Rattle.sender.proofs.usual.write_usual.Goals.{After-usual-set, Else-refusal-ne0, Start}

abbrev call : Start → Call
call s =
    record {
      state = s.args.state;
      indication = s.args.indication;
      samples = s.args.samples.now;
      ancillary = s.args.ancillary.now;
    }

abbrev from : After-usual-set → Start
from c = (goal.at.After-usual-set c).Start

given : (c : After-usual-set)
    → let st = (from c).args.state in (settled_as c.usual-set.result) ≡ settings_of st.format st.channels st.order
given c = usual_settles (from c).requires.0 c.usual-set.ensures

none : (c : Else-refusal-ne0) → let s = from (goal.at.Else-refusal-ne0 c).After-usual-set in 0 ≡ refusal_of (call s) (length s.args.cell.now)
none c = sym c.if-refusal-ne0.false ∙ c.send_refusal-refusal.ensures

ready : (c : Else-refusal-ne0)
    → let a = (from (goal.at.Else-refusal-ne0 c).After-usual-set).args in
    Packable (settled_as c.usual-set.result) a.samples.now a.ancillary.now × (length a.cell.now ≡ 48)
ready c = can_pack (call (from (goal.at.Else-refusal-ne0 c).After-usual-set)) (from (goal.at.Else-refusal-ne0 c).After-usual-set).args.cell.now (given (goal.at.Else-refusal-ne0 c).After-usual-set) (none c)

pub send_refusal-refusal-requires : goal.send_refusal-refusal-requires
send_refusal-refusal-requires c = given c

pub returns-then-refusal-ne0 : goal.returns-then-refusal-ne0
returns-then-refusal-ne0 c = let s = from (goal.at.returns-then-refusal-ne0 c).After-usual-set in
    writes_refused (call s) s.args.cell.now c.if-refusal-ne0.true c.send_refusal-refusal.ensures

pub fill_usual-requires : goal.fill_usual-requires
fill_usual-requires c = (
  (ready (goal.at.fill_usual-requires c).Else-refusal-ne0).0,
  usual_in_order (from (goal.at.fill_usual-requires c).After-usual-set).requires.0 c.usual-set.ensures,
  usual_named (from (goal.at.fill_usual-requires c).After-usual-set).requires.0 c.usual-set.ensures,
  (ready (goal.at.fill_usual-requires c).Else-refusal-ne0).1,
  (from (goal.at.fill_usual-requires c).After-usual-set).requires.0.samples_are,
)

pub returns : goal.returns
returns c = let a = (from (goal.at.returns c).After-usual-set).args in
    let bits = c.sequence_of-sequence in
    writes_taken (call (from (goal.at.returns c).After-usual-set)) a.cell.now (given (goal.at.returns c).After-usual-set) (none (goal.at.returns c).Else-refusal-ne0) (from (goal.at.returns c).After-usual-set).requires.1 bits.ensures
    (all_filled (settled_as c.usual-set.result) a.samples.now a.ancillary.now (ready (goal.at.returns c).Else-refusal-ne0).0 bits.result a.cell.now (ready (goal.at.returns c).Else-refusal-ne0).1
    (c.fill_usual.ensures
    ∙ ap (filled_to (settled_as c.usual-set.result) bits.result a.samples.now a.ancillary.now a.cell.now)
    (all_used (from (goal.at.returns c).After-usual-set).requires.0 c.usual-set.ensures)))
