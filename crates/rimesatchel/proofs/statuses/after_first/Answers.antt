-- `rimesatchel::statuses::after_first` meets its contract: 24 octets come after the first.
-- Assumes nothing.
use mathlib.Core.Path.{◌≡◌, ◌∙◌, ap}
use Prim.Native.Nat.{ℕ}
use native.Mathlib.Omega.{arith}
use lib.ListN.{length, take, drop, length-drop}
use Rattle.std.proofs.Math.Seq.{take-length}
use Rattle.rimesatchel.proofs.statuses.after_first.Goals as goal

pub returns : goal.returns
returns c = let rest = drop 1 c.args.octets in
    let all : length c.args.octets ≡ 25 = c.well_formed.0.1.0.1 in
    let long : 24 ≡ length rest = omega (arith, length-drop 1 c.args.octets) in
    c.copy_from_slice.ensures.after ∙ ap (λ (n : ℕ). take n rest) long ∙ take-length rest
