-- What a person says of a plan: the words of the theorems on the checker and the planner.
-- Assumes nothing.
use Rattle.std.specs.Prelude.{List, [], ◌∷◌, ◌≡◌, ℕ, ◌+◌, ◌-◌, ◌/◌, ◌≤◌, ◌<◌, length, get_or}
use Rattle.circuits.specs.Circuits.{cells_per_second}

-- all shares together
unfoldable pub total : List ℕ → ℕ
total [] = 0
total (share ∷ shares) = share + total shares

-- circuit k's share is 1 to S
pub record ShareFits (slots : ℕ) (shares : List ℕ) (k : ℕ) : Type 0 where
  pub from : 1 ≤ get_or shares k 0
  pub to : get_or shares k 0 ≤ slots

-- circuit k's cells per second are within its allowance
abbrev pub Allowed : ℕ → ℕ → List ℕ → List ℕ → ℕ → Type 0
Allowed slots frequency shares allowances k = cells_per_second slots (get_or shares k 0) frequency ≤ get_or allowances k 0

-- nothing is wrong with the first n circuits
pub record GoodTo (slots frequency : ℕ) (shares allowances : List ℕ) (n : ℕ) : Type 0 where
  pub fits : (k : ℕ) → k < n → ShareFits slots shares k
  pub allowed : (k : ℕ) → k < n → Allowed slots frequency shares allowances k

-- "the shares are each 1 to S, add up to the channels asked for, and each circuit's cells per second .. are within that circuit's
-- allowance"
pub record Good (slots channels frequency : ℕ) (shares allowances : List ℕ) : Type 0 where
  pub circuits : GoodTo slots frequency shares allowances (length shares)
  pub adds_up : total shares ≡ channels

-- "A no names the first fault": this circuit has it, and no circuit before it has any
pub record ShareFault (slots frequency : ℕ) (shares allowances : List ℕ) (k : ℕ) : Type 0 where
  pub there : k < length shares
  pub none_before : GoodTo slots frequency shares allowances k
  pub fault : ShareFits slots shares k → ⊥

-- the allowance after the share
pub record AllowanceFault (slots frequency : ℕ) (shares allowances : List ℕ) (k : ℕ) : Type 0 where
  pub there : k < length shares
  pub none_before : GoodTo slots frequency shares allowances k
  pub fits : ShareFits slots shares k
  pub fault : Allowed slots frequency shares allowances k → ⊥

-- "the sum last"
pub record SumFault (slots channels frequency : ℕ) (shares allowances : List ℕ) : Type 0 where
  pub none_before : GoodTo slots frequency shares allowances (length shares)
  pub fault : total shares ≡ channels → ⊥

-- the circuits that a planner needs: the channels divided by S, rounded up
unfoldable pub filled_of : ℕ → ℕ → ℕ
filled_of slots channels = (channels + (slots - 1)) / slots

-- shares that anyone might propose: for so many circuits, at most S each, 0 allowed
pub record Shares (slots circuits : ℕ) (shares : List ℕ) : Type 0 where
  pub many : length shares ≡ circuits
  pub most : (k : ℕ) → k < circuits → get_or shares k 0 ≤ slots
