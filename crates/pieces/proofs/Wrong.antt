-- Wrong answers to the public functions: the contracts rule each of them out. And a wrong walk over pieces: it forgets what is held
-- where a piece ends inside a record, and the theorem of any division is false of it.
-- Assumes nothing.
use Rattle.std.proofs.Common.{Option, Some, None, ◌≡◌, ℕ, Bool, true, false, List, [], ◌∷◌, ◌++◌, length, replicate, sym, ap, ◌∙◌, true≢false, arith}
use contract.Lifetimes.{Lfts}
use Rattle.runs.proofs.Wrong.{Never, Place, lent, lent_mut}
use Rattle.cell_log.proofs.Wrong as log
use Rattle.reading.proofs.Computed as reading
use Rattle.pieces.specs.declared.What.{What}
use Rattle.pieces.specs.declared.What.TheVariants as kind
use Rattle.pieces.specs.Found.{Found, number_of, numbered}
use Rattle.pieces.specs.declared.Standing.{Standing}
use Rattle.pieces.specs.Limit.{Part, records_to, fault_to, end_part, parts_of}
use Rattle.pieces.specs.Steps.{
  held_count,
  taking_of,
  header_found,
  record_found,
  lies_whole,
  begins_above,
  next_of,
  held_now,
  is_record,
  in_piece,
  found_octets,
}
use Rattle.pieces.specs.declared.Stretch.{Stretch}
use Rattle.pieces.specs.Stretch.{least, stretch_of, standing_past}
use Rattle.pieces.specs.Taken.{Taking, fresh_taking, in_header, in_record, one, after, handed, end_fault, end_parts, joined_of}
use Rattle.pieces.proofs.end.Kinds as end-kinds
use Rattle.pieces.proofs.end.Reads as end_reads
use Rattle.pieces.proofs.is_record.Kinds as is-record-kinds
use Rattle.pieces.proofs.is_record.Reads as is-record-reads
use Rattle.pieces.proofs.next.Kinds as next-kinds
use Rattle.pieces.proofs.next.Reads as next-reads
use Rattle.pieces.proofs.octets_found.Kinds as octets-found-kinds
use Rattle.pieces.proofs.octets_found.Reads as octets-found-reads
use Rattle.pieces.proofs.record_octets.Kinds as record-octets-kinds
use Rattle.pieces.proofs.record_octets.Reads as record-octets-reads
use Rattle.pieces.proofs.start.Kinds as start-kinds
use Rattle.pieces.proofs.start.Reads as start-reads
use Rattle.pieces.proofs.stretch_at.Kinds as stretch-at-kinds
use Rattle.pieces.proofs.stretch_at.Reads as stretch-at-reads
use Rattle.pieces.proofs.U8FromWhat.from.Kinds as from-kinds
use Rattle.pieces.proofs.U8FromWhat.from.Reads as from-reads

-- every definition on the way down to the numbers
unfoldable pub steps_unfolded : Unit {0}
unfolding log.unfolded held_count taking_of header_found record_found lies_whole begins_above next_of held_now end_fault
steps_unfolded = tt

unfoldable pub unfolded : Unit {0}
unfolding log.unfolded reading.unfolded records_to fault_to end_part parts_of in_header in_record one after handed end_fault end_parts joined_of
unfolded = tt

-- among the records, with so many octets held and left
abbrev among : ℕ → ℕ → Standing
among count left = record { stage = 1; fault = 0; count = count; left = left; records = 7 }

abbrev zeros : List ℕ
zeros = replicate 49 0

abbrev ones : List ℕ
ones = replicate 49 1

unfoldable octets_or : Option (List ℕ) → List ℕ
octets_or (Some octets) = octets
octets_or None = []

unfoldable first : List ℕ → ℕ
first [] = 0
first (x ∷ l) = x

module _ (κs : Lfts 2) (p q : Place) where
  abbrev Next : Standing → List ℕ → (Found → List ℕ → Type 0) → Type 0
  Next s piece Wrong =
      Never next-kinds.ps next-kinds.r next-reads.Post κs (s, (lent_mut p zeros, (lent q piece, (0, tt)))) (λ x v. Wrong (numbered x) v.1.0)

  -- the octet held is forgotten where the piece ends inside a record
  pub held_octet_not_forgotten : Next (among 0 100) (1 ∷ []) (λ x held. x.standing.count ≡ 0)
  unfolding steps_unfolded
  held_octet_not_forgotten x v wrong s =
      let right : x.standing.count ≡ 1 = ap (λ (f : Found). f.standing.count) s.answered in omega arith

  -- it is counted, and not kept
  pub held_octet_not_lost : Next (among 0 100) (1 ∷ []) (λ x held. held ≡ zeros)
  unfolding steps_unfolded first
  held_octet_not_lost x v wrong s =
      let octet : ◌≡◌ {A = ℕ} 0 1 = ap (λ (l : List ℕ). first l) (sym wrong ∙ s.left) in omega arith

  -- an octet above 1 taken for an indication
  pub no_record_begins_with_2 : Next (among 0 100) (2 ∷ []) (λ x held. x.what ≡ 0)
  unfolding steps_unfolded
  no_record_begins_with_2 x v wrong s = let right : number_of x.what ≡ 4 = ap (λ (f : Found). f.what) s.answered in omega arith

  -- an octet past the limit taken
  pub octet_past_the_limit_not_taken : Next (among 5 0) (0 ∷ []) (λ x held. x.standing.fault ≡ 0)
  unfolding steps_unfolded
  octet_past_the_limit_not_taken x v wrong s =
      let right : x.standing.fault ≡ 13 = ap (λ (f : Found). f.standing.fault) s.answered in omega arith

  -- a record that is whole not counted
  pub whole_record_counted : Next (among 48 100) (0 ∷ []) (λ x held. x.standing.records ≡ 7)
  unfolding steps_unfolded
  whole_record_counted x v wrong s =
      let right : x.standing.records ≡ 8 = ap (λ (f : Found). f.standing.records) s.answered in omega arith

  abbrev Octets : ℕ → (List ℕ → Type 0) → Type 0
  Octets what Wrong =
      Never record-octets-kinds.ps record-octets-kinds.r record-octets-reads.Post κs
      (what, (lent p zeros, (lent q ones, (0, tt)))) (λ x v. Wrong x)

  -- a record in the piece taken from what is held, and one that is held from the piece
  pub octets_in_the_piece : Octets 2 (λ x. x ≡ zeros)
  unfolding in_piece found_octets first
  octets_in_the_piece x v wrong s = let octet : ◌≡◌ {A = ℕ} 0 1 = ap first (sym wrong ∙ s) in omega arith

  pub octets_that_are_held : Octets 3 (λ x. x ≡ ones)
  unfolding in_piece found_octets first
  octets_that_are_held x v wrong s = let octet : ◌≡◌ {A = ℕ} 1 0 = ap first (sym wrong ∙ s) in omega arith

  abbrev OctetsFound : What → (Option (List ℕ) → Type 0) → Type 0
  OctetsFound what Wrong =
      Never octets-found-kinds.ps octets-found-kinds.r octets-found-reads.Post κs
      (what, (lent p zeros, (lent q ones, (0, tt)))) (λ x v. Wrong x)

  -- the same of what was found
  pub octets_found_in_the_piece : OctetsFound kind.InPiece (λ x. x ≡ Some zeros)
  unfolding is_record in_piece found_octets octets_or first
  octets_found_in_the_piece x v wrong s =
      let octet : ◌≡◌ {A = ℕ} 0 1 = ap (λ (x : Option (List ℕ)). first (octets_or x)) (sym wrong ∙ s) in omega arith

  pub octets_found_that_are_held : OctetsFound kind.Held (λ x. x ≡ Some ones)
  unfolding is_record in_piece found_octets octets_or first
  octets_found_that_are_held x v wrong s =
      let octet : ◌≡◌ {A = ℕ} 1 0 = ap (λ (x : Option (List ℕ)). first (octets_or x)) (sym wrong ∙ s) in omega arith

-- two records and the first octet of a third, which is none
abbrev pairs : List ℕ
pairs = replicate 49 0 ++ (1 ∷ replicate 48 0) ++ (2 ∷ replicate 48 0)

module _ (κs : Lfts 1) (p : Place) where
  abbrev StretchAt : Standing → (Stretch → Type 0) → Type 0
  StretchAt s Wrong =
      Never stretch-at-kinds.ps stretch-at-kinds.r stretch-at-reads.Post κs (s, (lent p pairs, (0, (10, tt)))) (λ x v. Wrong x)

  -- no record told where one lies
  pub stretch_not_passed_over : StretchAt (among 0 1000) (λ x. x.records ≡ 0)
  unfolding unfolded least stretch_of
  stretch_not_passed_over x v wrong s = let right : x.records ≡ 2 = ap (λ (f : Stretch). f.records) s in omega arith

  -- octets taken that begin with no indication
  pub stretch_ends_at_a_fault : StretchAt (among 0 1000) (λ x. x.next ≡ 147)
  unfolding unfolded least stretch_of
  stretch_ends_at_a_fault x v wrong s = let right : x.next ≡ 98 = ap (λ (f : Stretch). f.next) s in omega arith

  -- a record taken that the limit cuts
  pub stretch_ends_at_the_limit : StretchAt (among 0 97) (λ x. x.records ≡ 2)
  unfolding unfolded least stretch_of
  stretch_ends_at_the_limit x v wrong s = let right : x.records ≡ 1 = ap (λ (f : Stretch). f.records) s in omega arith

  -- a record taken in the middle of another one
  pub no_stretch_inside_a_record : StretchAt (among 7 1000) (λ x. x.records ≡ 2)
  unfolding unfolded least stretch_of
  no_stretch_inside_a_record x v wrong s = let right : x.records ≡ 0 = ap (λ (f : Stretch). f.records) s in omega arith

  -- records not counted
  pub stretch_is_counted : StretchAt (among 0 1000) (λ x. x.standing.records ≡ 7)
  unfolding unfolded least stretch_of standing_past
  stretch_is_counted x v wrong s = let right : x.standing.records ≡ 9 = ap (λ (f : Stretch). f.standing.records) s in omega arith

module _ (κs : Lfts 0) where
  abbrev IsRecord : ℕ → (Bool → Type 0) → Type 0
  IsRecord what Wrong = Never is-record-kinds.ps is-record-kinds.r is-record-reads.Post κs (what, tt) (λ x v. Wrong x)

  -- a record that is held passed over, and a fault taken for a record
  pub held_record_not_passed_over : IsRecord 3 (λ x. x ≡ false)
  unfolding is_record
  held_record_not_passed_over x v wrong s = true≢false (sym s ∙ wrong)

  pub fault_is_no_record : IsRecord 4 (λ x. x ≡ true)
  unfolding is_record
  fault_is_no_record x v wrong s = true≢false (sym wrong ∙ s)

  -- a header with the number of nothing, and a fault with that of a record
  pub header_not_nothing : Never from-kinds.ps from-kinds.r from-reads.Post κs (kind.Header, tt) (λ x v. x ≡ 0)
  header_not_nothing x v wrong p = omega (arith, p)

  pub fault_no_record : Never from-kinds.ps from-kinds.r from-reads.Post κs (kind.Fault, tt) (λ x v. x ≡ 3)
  fault_no_record x v wrong p = omega (arith, p)

  abbrev End : Standing → (ℕ → Type 0) → Type 0
  End s Wrong = Never end-kinds.ps end-kinds.r end_reads.Post κs (s, (zeros, tt)) (λ x v. Wrong x)

  -- a record that is cut passed over
  pub cut_record_not_passed_over : End (among 48 100) (λ x. x ≡ 0)
  unfolding steps_unfolded
  cut_record_not_passed_over x v wrong s = omega (arith, s)

  -- 12 for a log that ends behind a record
  pub end_behind_a_record_no_fault : End (among 0 100) (λ x. x ≡ 12)
  unfolding steps_unfolded
  end_behind_a_record_no_fault x v wrong s = omega (arith, s)

  abbrev Start : ℕ → (Standing → Type 0) → Type 0
  Start limit Wrong = Never start-kinds.ps start-kinds.r start-reads.Post κs (limit, tt) (λ x v. Wrong x)

  -- the limit not kept
  pub start_keeps_the_limit : Start 1000 (λ x. x.left ≡ 0)
  start_keeps_the_limit x v wrong s = let right : x.left ≡ 1000 = ap (λ (t : Standing). t.left) s in omega arith

  -- records before the header is read
  pub start_is_in_the_header : Start 1000 (λ x. x.stage ≡ 1)
  start_is_in_the_header x v wrong s = let right : x.stage ≡ 0 = ap (λ (t : Standing). t.stage) s in omega arith

-- a walk that forgets
unfoldable pub forgotten : Taking → Taking
forgotten t = record { stage = t.stage; fault = t.fault; left = t.left; records = t.records; part = [] }

unfoldable pub forgetting : Taking → List (List ℕ) → List Part
forgetting t [] = end_parts t
forgetting t (piece ∷ pieces) = handed t piece ++ forgetting (forgotten (after t piece)) pieces

-- a header and a record of zeros, divided inside the record
abbrev divided : List (List ℕ)
divided = (0x06 ∷ 2 ∷ 0 ∷ 0 ∷ replicate 9 0) ∷ replicate 39 0 ∷ []

pub forgetting_refuted : forgetting (fresh_taking 1000) divided ≡ parts_of 1000 (joined_of divided) → ⊥
unfolding unfolded forgetting forgotten
forgetting_refuted same = let parts : ◌≡◌ {A = ℕ} 2 3 = ap length same in omega arith
