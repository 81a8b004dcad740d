-- No second answer: for each public function, whatever answer and lent block at exit meet its contract are equal. Stated over the
-- contracts themselves.
-- Assumes nothing.
use mathlib.Core.Path.{◌≡◌, refl, sym, ◌∙◌}
use seplogic.Ra.Ura.{Ura}
use base.Logic.{SProp, ent, sep, id⊢}
use contract.Lifetimes.{Lfts}
use contract.Monad.{Fun, fact}
use denote.Triple.Clauses.{Lasts, at_exit}
use denote.Triple.Entry.{Args}
use types.Logic.{Logic}
use prog.Memory.{Memory}
use prog.Routine.{Routine}
use Rattle.runs.proofs.One.{One, both}
use Rattle.std.specs.Prelude.{Option, Result}
use Rattle.refusals.specs.declared.Refusal.{Refusal}
use Rattle.status.specs.Answers.{answered_handed}
use Rattle.status.specs.Step.{step_of}
use Rattle.status.specs.declared.step.Finished.{Finished}
use Rattle.status.proofs.AnswersLaws.{handed_injective, step_injective, run_injective}
use Rattle.status.specs.contracts.assembler.bring_forward as bring-forward
use Rattle.status.proofs.assembler.brought_forward.Kinds as brought-forward-kinds
use Rattle.status.proofs.assembler.brought_forward.Reads as brought-forward-reads
use Rattle.status.proofs.check.check_character.Kinds as check-character-kinds
use Rattle.status.proofs.check.check_character.Reads as check-character-reads
use Rattle.status.proofs.run.run.Kinds as run-kinds
use Rattle.status.proofs.run.run.Reads as run-reads
use Rattle.status.proofs.step.U8FromFit.from.Kinds as from-kinds
use Rattle.status.proofs.step.U8FromFit.from.Reads as from-reads
use Rattle.status.proofs.step.step.Kinds as step-kinds
use Rattle.status.proofs.step.step.Reads as step-reads

pub check_character_one : One check-character-kinds.ps check-character-kinds.r check-character-reads.Pre check-character-reads.Post
check_character_one κs a x y v w pre p q = (p ∙ sym q, refl)

pub from_one : One from-kinds.ps from-kinds.r from-reads.Pre from-reads.Post
from_one κs a x y v w pre p q = (p ∙ sym q, refl)

pub run_one : One run-kinds.ps run-kinds.r run-reads.Pre run-reads.Post
run_one κs a x y v w pre p q = (run_injective a.0 x y (p ∙ sym q), refl)

pub step_one : One step-kinds.ps step-kinds.r step-reads.Pre step-reads.Post
step_one κs a x y v w pre p q = (step_injective a.0 x y (p ∙ sym q), refl)

pub brought_forward_one : One brought-forward-kinds.ps brought-forward-kinds.r brought-forward-reads.Pre brought-forward-reads.Post
brought_forward_one κs a x y v w pre p q = (step_injective a.0 x y (p ∙ sym q), refl)

-- what `bring_forward` answers
abbrev pub Answer : Type 0
Answer = Result (Option Finished) Refusal

-- stated over the clauses
module _ {M : Type 1} {𝓤 : Ura M} (𝓛 : Logic 𝓤) (mem : Memory → SProp 𝓤) (run : Routine → Fun 𝓤) (κs : Lfts 1)
    (a : Args bring-forward.signature κs) where
  abbrev pub Ensures : Answer → Lasts bring-forward.ended κs a → SProp 𝓤
  Ensures x v = (bring-forward.clauses 𝓛 mem run κs a).ensures tt x (at_exit bring-forward.ended κs a v)

  abbrev pub Says : Answer → Lasts bring-forward.ended κs a → Type 0
  Says x v = (answered_handed x ≡ (step_of a.0.now a.1.0 a.1.1.0).handed) × (v.0 ≡ (step_of a.0.now a.1.0 a.1.1.0).block)

  pub bring_forward_one : (x y : Answer) (v w : Lasts bring-forward.ended κs a) → ent 𝓤 (sep 𝓤 (Ensures x v) (Ensures y w)) (fact 𝓤 ((x ≡ y) × (v ≡ w)))
  bring_forward_one x y v w =
      both 𝓤 (λ (z : Answer × Lasts bring-forward.ended κs a). Ensures z.0 z.1) (λ z. Says z.0 z.1)
      (λ z u. (z.0 ≡ u.0) × (z.1 ≡ u.1)) (λ z. id⊢ 𝓤 _)
      (λ z u p q. (handed_injective z.0 u.0 (p.0 ∙ sym q.0), λ i. ((p.1 ∙ sym q.1) i, (tt, (tt, tt))))) (x, v) (y, w)
