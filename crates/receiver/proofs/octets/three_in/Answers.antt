-- `receiver::octets::three_in` meets its contract: the octet behind the slot is shifted out.
-- Assumes nothing.
use mathlib.Core.Path.{◌∙◌, ap}
use Prim.Native.Nat.{ℕ, ◌+◌, ◌*◌, ◌/◌, ◌≤◌, ◌<◌}
use native.Mathlib.Omega.{arith}
use lib.Arith.{digits_div}
use lib.ListN.{length, get_or}
use Rattle.receiver.proofs.Reading.{read, read_more, four_read, by_width, slot_at}
use Rattle.receiver.proofs.octets.three_in.Goals as goal
use Rattle.receiver.proofs.octets.three_in.Goals.{Start}

-- the slot and the octet behind it stand in the cell
within : (s : Start) → s.args.slot * 3 + 4 ≤ length s.args.cell.now
within s =
    let next = slot_at s.requires.0 {slot = s.args.slot + 1} s.args.cell.now s.requires.2 s.requires.3 s.requires.1 in
    omega (arith, next)

pub returns : goal.returns
returns c = let at : ℕ = c.args.slot * 3 in
    let small : get_or c.args.cell.now (at + 3) 0 < 256 = omega (arith, c.type_inv.cell (at + 3)) in
    by_width c.args.format c.args.cell.now c.args.slot c.requires.1
    (ap (λ (n : ℕ). n / 256)
    (c.in4.ensures.0
    ∙ four_read c.args.cell.now at (within (goal.at.returns c).Start)
    ∙ read_more c.args.cell.now at 3 (omega (arith, within (goal.at.returns c).Start)))
    ∙ digits_div (read c.args.cell.now at 3) small)
