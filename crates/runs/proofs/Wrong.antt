-- Wrong answers: what it says of a function that its contract rules an answer out.
-- Assumes nothing.
use mathlib.Core.List.{List}
use Prim.Native.Nat.{ℕ}
use borrow.Fn.Kinds.{ParamKind, ResultKind, Dens, res_t, ended_of, Out}
use seplogic.Ra.Ura.{Ura}
use base.Fml.{GName}
use base.Logic.{SProp, ent}
use contract.Fact.{fact_use}
use contract.Lifetimes.{Lfts}
use contract.Monad.{fact}
use denote.Ref.{Bor, MutBor}
use denote.Triple.Clauses.{Lasts, at_exit}

-- over the contract itself, by its reading: ps, r and Post are those of the function's modules Kinds and Reads. Called with `a`, no
-- answer and no last value of what was lent that are wrong in this way meet it
abbrev pub Never : {n : ℕ} (ps : List (ParamKind n)) (r : ResultKind n) → Out n ps r → (κs : Lfts n) (a : Dens κs ps)
    → ((res_t r κs).Denot → Lasts (ended_of n ps r) κs a → Type 0) → Type 0
Never {n} ps r Post κs a Wrong =
    (x : (res_t r κs).Denot) (v : Lasts (ended_of n ps r) κs a) → Wrong x v → Post κs a x (at_exit (ended_of n ps r) κs a v) → ⊥

-- a reference to what is lent, wherever that stands
pub record Place : Type 0 where
  pub ptr : ℕ × ℕ
  pub name : GName

abbrev pub lent : {X : Type 0} → Place → X → Bor X
lent p x = record { ref_ptr = p.ptr; now = x }

-- the same where it may be written
abbrev pub lent_mut : {X : Type 0} → Place → X → MutBor X
lent_mut p x = record { ref_ptr = p.ptr; ghost_name = p.name; now = x }

-- where a contract is stated over its clauses: what it says of an answer can't be, so the answer doesn't meet it
pub ruled_out : {M : Type 1} (𝓤 : Ura M) {Ensures : SProp 𝓤} (Says : Type 0) → ent 𝓤 Ensures (fact 𝓤 Says) → (Says → ⊥) → ent 𝓤 Ensures (fact 𝓤 ⊥)
ruled_out 𝓤 Says say never = fact_use 𝓤 Says say (λ p. absurd (never p))
