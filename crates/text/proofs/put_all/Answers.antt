-- `text::put_all` meets its contract.
-- Assumes nothing.
use mathlib.Core.List.{List}
use mathlib.Core.Path.{refl, ◌∙◌, ap}
use Prim.Native.Nat.{ℕ}
use native.Mathlib.Omega.{arith}
use lib.ListN.{length}
use lib.Seq.{take_all}
use Rattle.runs.specs.Runs.{written}
use Rattle.text.proofs.Laws.{puts_nothing, puts_beyond, puts_room, puts_some}
use Rattle.text.proofs.put_all.Goals as goal

pub returns-then-count-eq0 : goal.returns-then-count-eq0
returns-then-count-eq0 c = puts_nothing _ _ _ c.if-count-eq0.true

pub returns-then-end-place : goal.returns-then-end-place
returns-then-end-place c = puts_beyond _ _ _ (omega (arith, c.if-end-place.true)) c.if-count-eq0.false

pub returns-then-count-room : goal.returns-then-count-room
returns-then-count-room c =
    puts_room _ _ _ (omega (arith, c.if-count-room.true, c.if-end-place.false))
    (c.copied.ensures ∙ ap (λ (l : List ℕ). written c.args.run.now c.args.at.octets l) (take_all (length c.args.octets.now) c.args.octets.now (omega arith)))

pub returns : goal.returns
returns c =
    puts_some _ _ _ (omega (arith, c.if-end-place.false)) refl (omega (arith, c.if-count-room.false)) c.copied-2.ensures
    c.copied-2.auto.run
