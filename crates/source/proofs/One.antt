-- No second answer of what a word is, and of what is to be done behind a read. Stated over the contracts themselves. The other public
-- functions speak with the system, and what it answers is not theirs to say.
-- Assumes nothing.
use mathlib.Core.Bool.{cond}
use mathlib.Core.Path.{◌≡◌, refl, sym, ◌∙◌, ap}
use Prim.Native.Nat.{ℕ}
use lib.Dec.{eqb}
use Rattle.runs.proofs.One.{One}
use Rattle.source.specs.declared.Argument.{Argument}
use Rattle.source.specs.declared.Argument.TheVariants.{File, Standard, Other}
use Rattle.source.specs.declared.turns.Next.{Next}
use Rattle.source.specs.declared.turns.Next.TheVariants.{On, End, Failed, Uncounted}
use Rattle.source.specs.declared.turns.Turn as code
use Rattle.source.specs.Arguments as kinds
use Rattle.source.specs.Turns.{Turn}
use Rattle.source.specs.Numbered.{number_of, turned}
use Rattle.source.proofs.kind.Kinds as kind-kinds
use Rattle.source.proofs.kind.Reads as kind-reads
use Rattle.source.proofs.turns.answered.Kinds as answered-kinds
use Rattle.source.proofs.turns.answered.Reads as answered-reads
use Rattle.source.proofs.turns.first.Kinds as first-kinds
use Rattle.source.proofs.turns.first.Reads as first_reads
use Rattle.source.proofs.turns.goes_on.Kinds as goes-on-kinds
use Rattle.source.proofs.turns.goes_on.Reads as goes-on-reads
use Rattle.source.proofs.turns.U8FromNext.from.Kinds as from-kinds
use Rattle.source.proofs.turns.U8FromNext.from.Reads as from-reads
use Rattle.source.proofs.turns.well.Kinds as well-kinds
use Rattle.source.proofs.turns.well.Reads as well-reads
use Rattle.source.proofs.turns.Turn.goes_on.Kinds as turn-goes-on-kinds
use Rattle.source.proofs.turns.Turn.goes_on.Reads as turn-goes-on-reads
use Rattle.source.proofs.turns.Turn.well.Kinds as turn-well-kinds
use Rattle.source.proofs.turns.Turn.well.Reads as turn-well-reads

-- a number is one kind's alone, and one answer's
kind_at : ℕ → Argument
kind_at n = cond (eqb n 1) File (cond (eqb n 2) Standard Other)

kind_back : (k : Argument) → kind_at (kinds.number_of k) ≡ k
unfolding kind_at
kind_back File = refl
kind_back Standard = refl
kind_back Other = refl

same_kind : {a b : Argument} → kinds.number_of a ≡ kinds.number_of b → a ≡ b
same_kind {a} {b} e = sym (kind_back a) ∙ ap kind_at e ∙ kind_back b

next_at : ℕ → Next
next_at n = cond (eqb n 1) On (cond (eqb n 2) End (cond (eqb n 3) Failed Uncounted))

next_back : (n : Next) → next_at (number_of n) ≡ n
unfolding next_at
next_back On = refl
next_back End = refl
next_back Failed = refl
next_back Uncounted = refl

same_next : {a b : Next} → number_of a ≡ number_of b → a ≡ b
same_next {a} {b} e = sym (next_back a) ∙ ap next_at e ∙ next_back b

same_turn : {a b : code.Turn} → turned a ≡ turned b → a ≡ b
same_turn e i = record { what = same_next (ap (λ (t : Turn). t.what) e) i; octets = (e i).octets; left = (e i).left }

pub kind_one : One kind-kinds.ps kind-kinds.r kind-reads.Pre kind-reads.Post
kind_one κs a x y v w pre p q = (same_kind (p ∙ sym q), refl)

pub first_one : One first-kinds.ps first-kinds.r first_reads.Pre first_reads.Post
first_one κs a x y v w pre p q = (same_turn (p ∙ sym q), refl)

pub answered_one : One answered-kinds.ps answered-kinds.r answered-reads.Pre answered-reads.Post
answered_one κs a x y v w pre p q = (same_turn (p ∙ sym q), refl)

pub goes_on_one : One goes-on-kinds.ps goes-on-kinds.r goes-on-reads.Pre goes-on-reads.Post
goes_on_one κs a x y v w pre p q = (p ∙ sym q, refl)

pub well_one : One well-kinds.ps well-kinds.r well-reads.Pre well-reads.Post
well_one κs a x y v w pre p q = (p ∙ sym q, refl)

pub turn_goes_on_one : One turn-goes-on-kinds.ps turn-goes-on-kinds.r turn-goes-on-reads.Pre turn-goes-on-reads.Post
turn_goes_on_one κs a x y v w pre p q = (p ∙ sym q, refl)

pub turn_well_one : One turn-well-kinds.ps turn-well-kinds.r turn-well-reads.Pre turn-well-reads.Post
turn_well_one κs a x y v w pre p q = (p ∙ sym q, refl)

pub from_one : One from-kinds.ps from-kinds.r from-reads.Pre from-reads.Post
from_one κs a x y v w pre p q = (p ∙ sym q, refl)
