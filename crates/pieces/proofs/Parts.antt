-- The parts that a step along a piece hands out, by the kind of what it found.
-- Assumes nothing.
use Rattle.std.proofs.Common.{◌≡◌, ℕ, ◌+◌, ◌≤◌, Option, Some, None, List, [], ◌∷◌, length, take, refl, sym, ap, ◌∙◌}
use Rattle.runs.proofs.Laws.{split}
use Rattle.cell_log.specs.Records.{header_of}
use Rattle.reading.specs.Records.{front_of}
use Rattle.pieces.specs.declared.Found as code
use Rattle.pieces.specs.declared.What.{What}
use Rattle.pieces.specs.declared.What.TheVariants as kind
use Rattle.pieces.specs.Found.{number_of, numbered}
use Rattle.pieces.specs.Limit.{Part, head, whole}
use Rattle.pieces.specs.Steps.{found_parts, is_record, found_octets, octets_found}
use Rattle.pieces.specs.Taken.{fault_part}
use Rattle.pieces.proofs.Walks.{found_record}

octets_or : List ℕ → Option (List ℕ) → List ℕ
octets_or default (Some octets) = octets
octets_or default None = default

module _ (f : code.Found) (held piece : List ℕ) (place : ℕ) where
  abbrev parts : List Part
  parts = found_parts (numbered f) held piece place

  pub parts_record : {octets : List ℕ} → (number_of f.what ≡ 2 → place + 49 ≤ length piece)
      → Some octets ≡ octets_found (number_of f.what) held piece place → parts ≡ whole (front_of octets) ∷ []
  unfolding octets_or
  parts_record {octets} room is =
      split (is_record (number_of f.what))
      (λ e.
      let same : octets ≡ found_octets (number_of f.what) held piece place = ap (octets_or octets) (rw e at is) in
      found_record (numbered f) held piece place room e ∙ ap (λ (l : List ℕ). whole (front_of l) ∷ []) (sym same))
      (λ e. let none : Some octets ≡ None = rw e at is in cc)

  pub parts_held : f.what ≡ kind.Held → parts ≡ whole (front_of held) ∷ []
  unfolding found_parts
  parts_held is = rw is

  pub parts_header : f.what ≡ kind.Header → parts ≡ head (header_of (take 3 held)) ∷ []
  unfolding found_parts
  parts_header is = rw is

  pub parts_fault : f.what ≡ kind.Fault → parts ≡ fault_part f.standing.stage f.standing.fault ∷ []
  unfolding found_parts
  parts_fault is = rw is

nothing : (what : What) (held piece : List ℕ) (place : ℕ) → None ≡ octets_found (number_of what) held piece place
    → (what ≡ kind.Header → ⊥) → (what ≡ kind.Fault → ⊥) → what ≡ kind.Nothing
unfolding is_record
nothing kind.Nothing held piece place none not-head fault = refl
nothing kind.Header held piece place none not-head fault = absurd (not-head refl)
nothing kind.InPiece held piece place none not-head fault = cc
nothing kind.Held held piece place none not-head fault = cc
nothing kind.Fault held piece place none not-head fault = absurd (fault refl)

module _ (f : code.Found) (held piece : List ℕ) (place : ℕ) where
  pub parts_none : None ≡ octets_found (number_of f.what) held piece place → (f.what ≡ kind.Header → ⊥)
      → (f.what ≡ kind.Fault → ⊥) → found_parts (numbered f) held piece place ≡ []
  unfolding found_parts
  parts_none none not-head fault = let is : f.what ≡ kind.Nothing = nothing f.what held piece place none not-head fault in rw is
