-- Wrong answers of the call that asks what a log holds: its contract rules them out. Stated over the contract itself.
-- Assumes nothing.
use mathlib.Core.List.{List, [], ◌∷◌, ◌++◌}
use mathlib.Core.Path.{◌≡◌, sym, ◌∙◌, ap}
use Prim.Native.Nat.{ℕ}
use native.Mathlib.Omega.{arith}
use contract.Lifetimes.{Lfts}
use lib.ListN.{get_or}
use Rattle.runs.proofs.Wrong.{Never, Place, lent, lent_mut}
use Rattle.presence.proofs.Wrong as presence
use Rattle.presence.proofs.Wrong.{header, record_with}
use Rattle.rimesatchel.proofs.contents.rime_anything.Kinds as anything-kinds
use Rattle.rimesatchel.proofs.contents.rime_anything.Reads as anything-reads

module _ (κs : Lfts 2) (l a : Place) where
  -- the answer is lent as nines
  abbrev Asking : List ℕ → (ℕ → List ℕ → Type 0) → Type 0
  Asking log Wrong =
      Never anything-kinds.ps anything-kinds.r anything-reads.Post κs (lent l log, (lent_mut a (9 ∷ 9 ∷ []), tt)) (λ x v. Wrong x v.1.0)

  -- yes and the record swapped
  pub yes_and_record_not_swapped : Asking (header ++ record_with 0 ++ record_with 0 ++ record_with 1) (λ x answer. get_or answer 0 0 ≡ 2)
  unfolding presence.unfolded
  yes_and_record_not_swapped x v wrong p =
      let right : get_or v.1.0 0 0 ≡ 1 = ap (λ (l : List ℕ). get_or l 0 0) p.1 in omega arith

  -- a refused log's answer left as it was lent_mut
  pub refused_answer_not_left : Asking (0x02 ∷ 0 ∷ 0 ∷ []) (λ x answer. answer ≡ 9 ∷ 9 ∷ [])
  unfolding presence.unfolded
  refused_answer_not_left x v wrong p =
      let first : ◌≡◌ {A = ℕ} 9 0 = ap (λ (l : List ℕ). get_or l 0 0) (sym wrong ∙ p.1) in omega arith

  -- the refusal of the header lost
  pub header's_refusal_told : Asking (0x02 ∷ 0 ∷ 0 ∷ []) (λ x answer. x ≡ 0)
  unfolding presence.unfolded
  header's_refusal_told x v wrong p = let right : x ≡ 2 = p.0 in omega arith
