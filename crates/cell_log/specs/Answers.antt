-- What reading and writing a log answers, each with the number of what is refused, 0 standing for none.
-- Assumes nothing.
use Rattle.std.specs.Prelude.{Bool, ℕ}

-- a log number: the refusal, its value and the place after it, both zero where it is refused
pub record Number : Type 0 where
  pub refusal : ℕ
  pub value : ℕ
  pub next : ℕ

-- a log's header: the refusal, the place after it, and its three numbers, all zero where it is refused
pub record Header : Type 0 where
  pub refusal : ℕ
  pub place : ℕ
  pub format : ℕ
  pub channels : ℕ
  pub order : ℕ

-- what stands at a place: the refusal; what it is (1: a cell, 0: the end or a refusal); its indication; where its 48 octets start; the
-- next place. At the end the next place is the place given; all else is zero there, and all where it is refused
pub record Record : Type 0 where
  pub refusal : ℕ
  pub what : ℕ
  pub indication : Bool
  pub start : ℕ
  pub next : ℕ

-- writing into a lent log: the refusal, and the place after what was written, zero where it is refused
pub record Kept : Type 0 where
  pub refusal : ℕ
  pub next : ℕ
