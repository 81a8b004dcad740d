-- `rimesatchel::salvages::rime_salvage` meets its contract: it says what `saving::salvage` says.
-- Assumes nothing.
use mathlib.Core.List.{List}
use mathlib.Core.Path.{ap, subst}
use Prim.Native.Nat.{ℕ}
use Rattle.saving.specs.declared.Salvaged.{Salvaged}
use Rattle.saving.specs.Salvage.{Salvages}
use Rattle.rimesatchel.specs.Salvages.{count_numbers, SalvagedLog}
use Rattle.rimesatchel.proofs.salvages.rime_salvage.Goals as goal

says : {log out list : List ℕ} {answer : Salvaged} {out₁ list₁ : List ℕ} → Salvages log out list answer out₁ list₁
    → SalvagedLog log out list answer.refusal out₁ list₁ (count_numbers answer)
says {log} {out} {list} {out₁ = out₁} {list₁ = list₁} s =
    record {
      refused = ap (λ (a : Salvaged). a.refusal) s.answered;
      counted = ap count_numbers s.answered;
      salvages = subst (λ (a : Salvaged). Salvages log out list a out₁ list₁) s.answered s;
    }

pub returns : goal.returns
returns c = says c.salvage-saved.ensures
