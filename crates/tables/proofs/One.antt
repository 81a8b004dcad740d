-- No second answer: two answers that meet a public function's contract for the same inputs are equal. Stated over the contracts
-- themselves.
-- Assumes nothing.
use mathlib.Core.Path.{◌≡◌, refl, sym, ◌∙◌}
use Prim.Native.Nat.{ℕ, ◌/◌, ◌<◌}
use Rattle.runs.proofs.One.{One}
use Rattle.guards.specs.Guards.{VOrNone, no_v, v_in}
use Rattle.tables.specs.Marks.{MarksBy}
use Rattle.tables.proofs.Laws.{same_bits}
use Rattle.tables.proofs.protection.Kinds as protection-kinds
use Rattle.tables.proofs.protection.Reads as protection-reads
use Rattle.tables.proofs.marks.Kinds as marks-kinds
use Rattle.tables.proofs.marks.Reads as marks-reads
use Rattle.tables.proofs.marks_without_v.Kinds as bare-kinds
use Rattle.tables.proofs.marks_without_v.Reads as bare-reads

pub protection_one : One protection-kinds.ps protection-kinds.r protection-reads.Pre protection-reads.Post
protection_one κs a x y v w pre p q = (p ∙ sym q, refl)

one_number : (v : ℕ → VOrNone) (nine : ℕ) {x y : ℕ} → MarksBy v nine x × (x < 4294967296) → MarksBy v nine y × (y < 4294967296) → x ≡ y
one_number v nine p q = same_bits 32 p.1 q.1 (λ low less. p.0 low less ∙ sym (q.0 low less))

pub marks_one : One marks-kinds.ps marks-kinds.r marks-reads.Pre marks-reads.Post
marks_one κs a x y v w pre p q = (one_number (λ low. v_in (low / 16)) _ p q, refl)

pub marks_without_v_one : One bare-kinds.ps bare-kinds.r bare-reads.Pre bare-reads.Post
marks_without_v_one κs a x y v w pre p q = (one_number (λ low. no_v) _ p q, refl)
