-- No second answer: what it says of a function that one answer, and one last value of each thing lent to it, meet its contract.
-- Assumes nothing.
use mathlib.Core.List.{List}
use mathlib.Core.Path.{◌≡◌}
use Prim.Native.Nat.{ℕ}
use seplogic.Ra.Ura.{Ura}
use base.Logic.{SProp, ent, sep, via, fst∗, snd∗}
use contract.Fact.{fact_i, fact_use}
use contract.Monad.{fact}
use borrow.Fn.Kinds.{ParamKind, ResultKind, Dens, res_t, ended_of, In, Out}
use contract.Lifetimes.{Lfts}
use denote.Triple.Clauses.{Lasts, at_exit}

-- over the contract itself, by its reading: ps, r, Pre and Post are those of the function's modules Kinds and Reads
abbrev pub One : {n : ℕ} (ps : List (ParamKind n)) (r : ResultKind n) → In n ps → Out n ps r → Type 0
One {n} ps r Pre Post =
    (κs : Lfts n) (a : Dens κs ps) (x y : (res_t r κs).Denot) (v w : Lasts (ended_of n ps r) κs a)
    → Pre κs a
    → Post κs a x (at_exit (ended_of n ps r) κs a v)
    → Post κs a y (at_exit (ended_of n ps r) κs a w)
    → (x ≡ y) × (v ≡ w)

-- over the clauses, where the borrow checker reads no contract: what follows of two answers by what is said of each
pub both : {M : Type 1} (𝓤 : Ura M) {X : Type 0} (Ensures : X → SProp 𝓤) (Says : X → Type 0) (Alike : X → X → Type 0)
    → ((x : X) → ent 𝓤 (Ensures x) (fact 𝓤 (Says x)))
    → ((x y : X) → Says x → Says y → Alike x y)
    → (x y : X) → ent 𝓤 (sep 𝓤 (Ensures x) (Ensures y)) (fact 𝓤 (Alike x y))
both 𝓤 Ensures Says Alike say alike x y =
    fact_use 𝓤 (Says x) (via 𝓤 _ (fst∗ 𝓤 (Ensures x) (Ensures y)) (say x)) (λ p.
    fact_use 𝓤 (Says y) (via 𝓤 _ (snd∗ 𝓤 (Ensures x) (Ensures y)) (say y)) (λ q.
    fact_i 𝓤 (Alike x y) _ (alike x y p q)))
