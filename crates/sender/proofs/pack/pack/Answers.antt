-- `sender::pack::pack` meets its contract.
-- Assumes nothing.
use Rattle.formats.specs.Settings.{settled_as}
use Rattle.std.proofs.Common.{◌≡◌, ℕ, List, length, ◌∙◌}
use Rattle.sender.proofs.Packing.{refilled, all_filled}
use Rattle.sender.proofs.pack.pack.Goals as goal
use Rattle.sender.proofs.pack.pack.Goals.{After-pack_used, Start}

abbrev from : After-pack_used → Start
from c = (goal.at.After-pack_used c).Start

-- what the used slots leave
abbrev used : After-pack_used → List ℕ
used c = c.pack_used.new.cell

whole : (c : After-pack_used) → length (used c) ≡ 48
whole c = c.pack_used.auto.cell ∙ (from c).requires.1

pub fill_idle-requires : goal.fill_idle-requires
fill_idle-requires c = let a = (from (goal.at.fill_idle-requires c).After-pack_used).args in (
  (from (goal.at.fill_idle-requires c).After-pack_used).requires.0,
  whole (goal.at.fill_idle-requires c).After-pack_used,
  refilled (settled_as a.set) a.samples.now a.ancillary.now a.sequence a.cell.now (length a.samples.now)
      c.pack_used.ensures,
)

pub returns : goal.returns
returns c = let a = (from (goal.at.returns c).After-pack_used).args in
    all_filled (settled_as a.set) a.samples.now a.ancillary.now (from (goal.at.returns c).After-pack_used).requires.0 a.sequence (used (goal.at.returns c).After-pack_used) (whole (goal.at.returns c).After-pack_used)
    c.fill_idle.ensures
