-- What the salvage of a log writes into the runs and the array lent to it, as include/rimesatchel.h has it.
-- Assumes nothing.
use Rattle.std.specs.Prelude.{List, [], ◌∷◌, ◌≡◌, ℕ, length}
use Rattle.saving.specs.declared.Salvaged.{Salvaged}
use Rattle.saving.specs.Salvage.{salvaged_of, Salvages}

-- `counts`: octets of the new log, records left out, octets cut
abbrev pub count_numbers : Salvaged → List ℕ
count_numbers s = s.octets ∷ s.left_out ∷ s.cut ∷ []

pub record SalvagedLog (log out list : List ℕ) (refusal : ℕ) (out₁ list₁ counts : List ℕ) : Type 0 where
  pub refused : refusal ≡ (salvaged_of log (length out) (length list)).refusal
  pub counted : counts ≡ count_numbers (salvaged_of log (length out) (length list))
  pub salvages : Salvages log out list (salvaged_of log (length out) (length list)) out₁ list₁
