-- Demand 1 for the two calls: each refuses exactly where the request says so, under that number, and then answers zeros.
-- Assumes nothing.
use mathlib.Core.List.{List}
use mathlib.Core.Path.{◌≡◌, refl, sym, ◌∙◌, ap}
use Prim.Native.Nat.{ℕ}
use borrow.Author.Tests.{eqb-true, eqb-false}
use lib.Dec.{eqb}
use Rattle.runs.proofs.Laws.{split}
use Rattle.cable.specs.Frames.{Exported, Imported, import_refusal, import_of, imported, not_imported, export_refusal, export_of, exported, not_exported}
use Rattle.cable.proofs.Refusals.{import_taken, import_refused, export_taken, export_refused}

-- an answer that is one thing where n is 0, and another, which tells n, where it isn't
either_way : {A : Type 0} (told : A → ℕ) (n : ℕ) (answer taken refused : A)
    → told taken ≡ 0 → told refused ≡ n → (n ≡ 0 → answer ≡ taken) → ((n ≡ 0 → ⊥) → answer ≡ refused)
    → (told answer ≡ n) × ((told answer ≡ 0 → ⊥) → answer ≡ refused)
either_way told n answer taken refused tells-0 tells-n is-taken is-refused =
    split (eqb n 0)
    (λ t.
    let none = eqb-true n 0 t in
    let zero = ap told (is-taken none) ∙ tells-0 in
    (zero ∙ sym none, λ some. absurd (some zero)))
    (λ t. let e = is-refused (eqb-false n 0 t) in (ap told e ∙ tells-n, λ some. e))

-- "on import 16 for preambles that aren't X then Y or Z then Y, then 17 for odd parity in either half"
pub demand_1_import : (preambles subframes : List ℕ) (answer : Imported) → answer ≡ import_of preambles subframes
    → (answer.refusal ≡ import_refusal preambles subframes)
    × ((answer.refusal ≡ 0 → ⊥) → answer ≡ not_imported (import_refusal preambles subframes))
demand_1_import preambles subframes answer is =
    either_way (λ (x : Imported). x.refusal) (import_refusal preambles subframes) answer (imported preambles subframes)
    (not_imported (import_refusal preambles subframes)) refl refl
    (λ none. is ∙ sym (import_taken preambles subframes none))
    (λ some. is ∙ sym (import_refused preambles subframes refl some))

-- "on export 6 as in 01, then 29 where the two B bits differ"
pub demand_1_export : (samples ancillary : List ℕ) (answer : Exported) → answer ≡ export_of samples ancillary
    → (answer.refusal ≡ export_refusal samples ancillary)
    × ((answer.refusal ≡ 0 → ⊥) → answer ≡ not_exported (export_refusal samples ancillary))
demand_1_export samples ancillary answer is =
    either_way (λ (x : Exported). x.refusal) (export_refusal samples ancillary) answer (exported samples ancillary)
    (not_exported (export_refusal samples ancillary)) refl refl
    (λ none. is ∙ sym (export_taken samples ancillary none))
    (λ some. is ∙ sym (export_refused samples ancillary refl some))
