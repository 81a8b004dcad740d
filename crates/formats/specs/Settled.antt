-- What checks 1 to 3 settle, with the number of what they refuse.
-- Assumes nothing.
use Rattle.std.specs.Prelude.{Bool, ℕ}
use Rattle.formats.specs.declared.Format.{Format}

-- what an octet, C and an order settle: the refusal (0: none), the format, C, T, and whether the order is 1. All else is zero where they
-- are refused
pub record Settled : Type 0 where
  pub refusal : ℕ
  pub format : Format
  pub channels : ℕ
  pub times : ℕ
  pub by_channel : Bool
