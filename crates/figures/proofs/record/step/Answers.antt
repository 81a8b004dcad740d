-- `figures::record::step` meets its contract: a law for each kind of what was found.
-- Assumes nothing.
use mathlib.Core.List.{[]}
use Rattle.pieces.specs.Found.{numbered}
use Rattle.pieces.proofs.Parts.{parts_held, parts_header}
use Rattle.figures.proofs.Walks.{found_one, notes_nothing}
use Rattle.figures.proofs.record.step.Goals as goal

pub returns-in-Held : goal.returns-in-Held
returns-in-Held c =
    found_one c.args.noted (numbered c.args.found) c.args.held.now [] 0 _ (parts_held c.args.found c.args.held.now [] 0 c.in-Held.is) c.counted.ensures

pub returns-in-Header : goal.returns-in-Header
returns-in-Header c =
    found_one c.args.noted (numbered c.args.found) c.args.held.now [] 0 _ (parts_header c.args.found c.args.held.now [] 0 c.in-Header.is) c.begun.ensures

pub returns : goal.returns
returns c =
    notes_nothing c.args.noted c.args.found c.args.held.now [] 0 c.in_default-what.not-Header c.requires c.in_default.not-Held
