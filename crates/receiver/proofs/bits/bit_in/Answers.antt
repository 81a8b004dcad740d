-- `receiver::bits::bit_in` meets its contract: the slot's last octet has the bit.
-- Assumes nothing.
use native.Mathlib.Omega.{arith}
use native.Mathlib.Nat.{mod-lt}
use Rattle.cells.specs.Cells.{subframe_at, bit_in}
use Rattle.cells.proofs.Subframes.{slot_room}
use mathlib.Core.Path.{◌≡◌, ◌∙◌, ap}
use Prim.Native.Nat.{ℕ, ◌+◌, ◌*◌, ◌/◌, ◌%◌, ◌-◌, ◌≤◌}
use lib.ListN.{get_or}
use Rattle.receiver.proofs.Reading.{last_bit}
use Rattle.receiver.proofs.bits.bit_in.Goals as goal

-- the last octet of a slot
last_octet : (slot : ℕ) {width : ℕ} → 1 ≤ width → (slot + 1) * width - 1 ≡ slot * width + (width - 1)
last_octet slot {width} some = let whole : (slot + 1) * width ≡ slot * width + width = omega arith in omega arith

pub returns : goal.returns
unfolding subframe_at bit_in
returns c = (
  ap (λ (n : ℕ). get_or c.args.cell.now n 0 / 8 % 2) (last_octet c.args.slot c.requires.0.width_from)
      ∙ last_bit c.args.cell.now (c.args.slot * c.args.format.width) c.requires.0.width_from
      (omega (arith, slot_room c.requires.0 c.requires.2, c.requires.1)),
  mod-lt _ (omega arith),
)
