-- No second answer meets the contracts of the exported functions of channel status; and a block refused is left as it was.
-- Assumes nothing.
use mathlib.Core.Bool.{true}
use mathlib.Core.List.{List, [], ◌∷◌}
use mathlib.Core.Path.{◌≡◌, refl, sym, ◌∙◌, ap}
use Prim.Native.Nat.{ℕ}
use native.Mathlib.Omega.{arith}
use lib.ListN.{length, replicate}
use Rattle.runs.proofs.One.{One}
use Rattle.status.proofs.Steps.{step_refused}
use Rattle.status.specs.Step.{Stepped, is_refused, unfinished}
use Rattle.rimesatchel.specs.Statuses.{block_of, stepped_of, SteppedOctets}
use Rattle.rimesatchel.proofs.statuses.rime_check_character.Kinds as check-character-kinds
use Rattle.rimesatchel.proofs.statuses.rime_check_character.Reads as check-character-reads
use Rattle.rimesatchel.proofs.statuses.rime_status_run.Kinds as status-run-kinds
use Rattle.rimesatchel.proofs.statuses.rime_status_run.Reads as status-run-reads
use Rattle.rimesatchel.proofs.statuses.rime_status_step.Kinds as status-step-kinds
use Rattle.rimesatchel.proofs.statuses.rime_status_step.Reads as status-step-reads

pub rime_check_character_one : One check-character-kinds.ps check-character-kinds.r check-character-reads.Pre check-character-reads.Post
rime_check_character_one κs a x y v w pre p q = (p ∙ sym q, refl)

pub rime_status_step_one : One status-step-kinds.ps status-step-kinds.r status-step-reads.Pre status-step-reads.Post
rime_status_step_one κs a x y v w pre p q =
    (p.refused ∙ sym q.refused, λ i. ((p.leaves ∙ sym q.leaves) i, (tt, (tt, ((p.hands ∙ sym q.hands) i, tt)))))

pub rime_status_run_one : One status-run-kinds.ps status-run-kinds.r status-run-reads.Pre status-run-reads.Post
rime_status_run_one κs a x y v w pre p q = (
  p.refused ∙ sym q.refused,
  λ i. (
    (p.leaves ∙ sym q.leaves) i,
    (tt, (tt, (tt, (tt, ((p.hands ∙ sym q.hands) i, ((p.goes_on ∙ sym q.goes_on) i, tt)))))),
  ),
)

block_octets : (octets : List ℕ) → length octets ≡ 25 → (block_of octets).bits ∷ (block_of octets).octets ≡ octets
block_octets [] long = absurd (omega (arith, long))
block_octets (x ∷ xs) long = refl

-- what is refused: the block is left as it was, and `out` is zeros
pub refused_stays : (block : List ℕ) (a m refusal : ℕ) (left out : List ℕ) → length block ≡ 25 → is_refused (block_of block).bits a m ≡ true
    → SteppedOctets block a m refusal left out → (refusal ≡ 14) × (left ≡ block) × (out ≡ replicate 25 0)
refused_stays block a m refusal left out long refused s =
    let e : stepped_of block a m ≡ unfinished 14 (block_of block) = step_refused (block_of block) a m refused in (
      s.refused ∙ ap (λ (r : Stepped). r.handed.refusal) e,
      s.leaves ∙ ap (λ (r : Stepped). r.block.bits ∷ r.block.octets) e ∙ block_octets block long,
      s.hands ∙ ap (λ (r : Stepped). r.handed.answer ∷ r.handed.octets) e,
    )
