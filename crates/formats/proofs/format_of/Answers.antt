-- `formats::format_of` meets its contract.
-- Assumes nothing.
use mathlib.Core.Path.{◌∙◌, sym}
use Prim.Native.Nat.{◌≤◌}
use native.Mathlib.Omega.{arith}
use Rattle.formats.proofs.Laws.{finds, finds_none, sample_le}
use Rattle.formats.proofs.format_of.Goals as goal
use Rattle.formats.proofs.format_of.Goals.{Else-slots-eq0}

-- the sample bits are few
few : (c : Else-slots-eq0) → c.sample_bits-sample.result ≤ 40
few c =
    omega (arith, sample_le c.args.octet, c.sample_bits-sample.ensures)

pub returns-then-slots-eq0 : goal.returns-then-slots-eq0
returns-then-slots-eq0 c = finds_none c.args.octet (sym c.slots_of-slots.ensures ∙ c.if-slots-eq0.true)

pub overflow_add-width : goal.overflow_add-width
overflow_add-width c = omega (arith, few c)

pub overflow_add-width-2 : goal.overflow_add-width-2
overflow_add-width-2 c = omega (arith, few c)

pub returns : goal.returns
returns c = let slots = c.slots_of-slots.ensures in
    finds c.args.octet (λ e. c.if-slots-eq0.false (slots ∙ e)) c.sample_bits-sample.ensures slots
