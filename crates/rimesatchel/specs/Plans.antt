-- What the checker of plans writes into the array lent to it: the answer's number, and the circuit that it names.
-- Assumes nothing.
use Rattle.std.specs.Prelude.{List, [], ◌∷◌, ◌≡◌, ℕ}
use Rattle.circuits.specs.Circuits.{refusal_of, answer_of, circuit_of, checked_of}

pub record CheckedPlan (octet channels frequency : ℕ) (shares allowances : List ℕ) (refusal : ℕ) (answer : List ℕ) : Type 0 where
  pub refused : refusal ≡ refusal_of (checked_of octet channels frequency shares allowances)
  pub told : answer
      ≡ answer_of (checked_of octet channels frequency shares allowances)
      ∷ circuit_of (checked_of octet channels frequency shares allowances)
      ∷ []
