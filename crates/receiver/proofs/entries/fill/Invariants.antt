-- `receiver::entries::fill` meets its contract: what the loop has passed holds the value.
use Rattle.std.specs.Prelude.{◌≡◌, take, replicate}
use Rattle.receiver.proofs.entries.fill.Given as goal

abbrev pub invariant-loop-entry : goal.invariant-loop-entry
invariant-loop-entry g l = take l.entry-index l.run ≡ replicate l.entry-index l.value
