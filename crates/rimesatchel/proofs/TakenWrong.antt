-- Wrong answers of the calls that take a log in pieces: their contracts rule them out. Stated over the contracts themselves.
-- Assumes nothing.
use mathlib.Core.List.{List, [], ◌∷◌, ◌++◌}
use mathlib.Core.Path.{◌≡◌, ap}
use Prim.Native.Nat.{ℕ}
use native.Mathlib.Omega.{arith}
use contract.Lifetimes.{Lfts}
use lib.ListN.{get_or, replicate}
use Rattle.runs.specs.Runs.{over}
use Rattle.runs.proofs.Wrong.{Never, Place, lent, lent_mut}
use Rattle.pieces.specs.Limit.{end_part}
use Rattle.pieces.specs.Steps.{held_count, taking_of, steps_from, stood_of}
use Rattle.pieces.specs.Taken.{handed, end_parts}
use Rattle.figures.specs.Adding.{closed_of}
use Rattle.figures.specs.Figures.{too_many_of, row_of, per_million}
use Rattle.figures.specs.Taking.{noted_by}
use Rattle.presence.specs.Taking.{reads_on, past_part, sought_of}
use Rattle.salvaging.specs.Taking as salvaging
use Rattle.listing.specs.Taking as listing
use Rattle.rimesatchel.specs.TakenFigures.{figures_from, figure_numbers}
use Rattle.rimesatchel.specs.TakenLists.{listing_from, list_numbers}
use Rattle.rimesatchel.specs.TakenSalvages.{salvaging_from, salvage_numbers}
use Rattle.rimesatchel.specs.TakenSearches.{search_from, search_numbers, answer_numbers}
use Rattle.rimesatchel.proofs.taken_figures.rime_figures_start.Kinds as figures-start-kinds
use Rattle.rimesatchel.proofs.taken_figures.rime_figures_start.Reads as figures-start-reads
use Rattle.rimesatchel.proofs.taken_figures.rime_figures_take.Kinds as figures-take-kinds
use Rattle.rimesatchel.proofs.taken_figures.rime_figures_take.Reads as figures-take-reads
use Rattle.rimesatchel.proofs.taken_figures.rime_figures_end.Kinds as figures-end-kinds
use Rattle.rimesatchel.proofs.taken_figures.rime_figures_end.Reads as figures-end-reads
use Rattle.rimesatchel.proofs.taken_lists.rime_list_start.Kinds as list-start-kinds
use Rattle.rimesatchel.proofs.taken_lists.rime_list_start.Reads as list-start-reads
use Rattle.rimesatchel.proofs.taken_lists.rime_list_take.Kinds as list-take-kinds
use Rattle.rimesatchel.proofs.taken_lists.rime_list_take.Reads as list-take-reads
use Rattle.rimesatchel.proofs.taken_lists.rime_list_end.Kinds as list-end-kinds
use Rattle.rimesatchel.proofs.taken_lists.rime_list_end.Reads as list-end-reads
use Rattle.rimesatchel.proofs.taken_salvages.rime_salvage_start.Kinds as salvage-start-kinds
use Rattle.rimesatchel.proofs.taken_salvages.rime_salvage_start.Reads as salvage-start-reads
use Rattle.rimesatchel.proofs.taken_salvages.rime_salvage_take.Kinds as salvage-take-kinds
use Rattle.rimesatchel.proofs.taken_salvages.rime_salvage_take.Reads as salvage-take-reads
use Rattle.rimesatchel.proofs.taken_salvages.rime_salvage_end.Kinds as salvage-end-kinds
use Rattle.rimesatchel.proofs.taken_salvages.rime_salvage_end.Reads as salvage-end-reads
use Rattle.rimesatchel.proofs.taken_searches.rime_anything_start.Kinds as anything-start-kinds
use Rattle.rimesatchel.proofs.taken_searches.rime_anything_start.Reads as anything-start-reads
use Rattle.rimesatchel.proofs.taken_searches.rime_anything_take.Kinds as anything-take-kinds
use Rattle.rimesatchel.proofs.taken_searches.rime_anything_take.Reads as anything-take-reads
use Rattle.rimesatchel.proofs.taken_searches.rime_anything_end.Kinds as anything-end-kinds
use Rattle.rimesatchel.proofs.taken_searches.rime_anything_end.Reads as anything-end-reads

-- every definition on the way down to the numbers
unfoldable unfolded : Unit {0}
unfolding over end_part held_count taking_of steps_from stood_of handed end_parts closed_of too_many_of row_of per_million noted_by reads_on past_part sought_of salvaging.octets_by salvaging.text_by salvaging.tally_by salvaging.last_text listing.text_of listing.tally_of figures_from figure_numbers listing_from list_numbers salvaging_from salvage_numbers search_from search_numbers answer_numbers
unfolded = tt

abbrev nines : ℕ → List ℕ
nines n = replicate n 9

-- a state of which only the first number isn't 0
abbrev stage : ℕ → ℕ → List ℕ
stage n size = n ∷ replicate size 0

-- what a start leaves: state and octets are lent as nines
module _ (κs : Lfts 2) (p q : Place) where
  abbrev ListStarts : (List ℕ → List ℕ → Type 0) → Type 0
  ListStarts Wrong =
      Never list-start-kinds.ps list-start-kinds.r list-start-reads.Post κs (lent_mut p (nines 15), (lent_mut q (nines 49), tt)) (λ x v. Wrong v.0 v.1.0)

  -- a list of a log of any length
  pub list_keeps_its_limit : ListStarts (λ state held. get_or state 3 0 ≡ 18446744073709551615)
  unfolding unfolded
  list_keeps_its_limit x v wrong s = let right : get_or v.0 3 0 ≡ 4294967295 = ap (λ (l : List ℕ). get_or l 3 0) s.leaves in omega arith

  -- octets left as they were
  pub list_start_holds_nothing : ListStarts (λ state held. get_or held 48 0 ≡ 9)
  list_start_holds_nothing x v wrong s = let right : get_or v.1.0 48 0 ≡ 0 = ap (λ (l : List ℕ). get_or l 48 0) s.holds in omega arith

  abbrev SalvageStarts : (List ℕ → List ℕ → Type 0) → Type 0
  SalvageStarts Wrong =
      Never salvage-start-kinds.ps salvage-start-kinds.r salvage-start-reads.Post κs (lent_mut p (nines 16), (lent_mut q (nines 49), tt)) (λ x v. Wrong v.0 v.1.0)

  -- a salvage with the list's limit, and one that left octets out already
  pub salvage_has_no_limit : SalvageStarts (λ state held. get_or state 3 0 ≡ 4294967295)
  unfolding unfolded
  salvage_has_no_limit x v wrong s = let right : get_or v.0 3 0 ≡ 18446744073709551615 = ap (λ (l : List ℕ). get_or l 3 0) s.leaves in omega arith

  pub salvage_start_leaves_nothing_out : SalvageStarts (λ state held. get_or state 15 0 ≡ 9)
  unfolding unfolded
  salvage_start_leaves_nothing_out x v wrong s = let right : get_or v.0 15 0 ≡ 0 = ap (λ (l : List ℕ). get_or l 15 0) s.leaves in omega arith

  abbrev SearchStarts : (List ℕ → List ℕ → Type 0) → Type 0
  SearchStarts Wrong =
      Never anything-start-kinds.ps anything-start-kinds.r anything-start-reads.Post κs (lent_mut p (nines 14), (lent_mut q (nines 49), tt)) (λ x v. Wrong v.0 v.1.0)

  -- a yes before the first octet, and a search behind a fault
  pub start_finds_nothing : SearchStarts (λ state held. get_or state 12 0 ≡ 1)
  unfolding unfolded
  start_finds_nothing x v wrong s = let right : get_or v.0 12 0 ≡ 0 = ap (λ (l : List ℕ). get_or l 12 0) s.leaves in omega arith

  pub search_starts_in_the_header : SearchStarts (λ state held. get_or state 0 0 ≡ 2)
  unfolding unfolded
  search_starts_in_the_header x v wrong s = let right : get_or v.0 0 0 ≡ 0 = ap (λ (l : List ℕ). get_or l 0 0) s.leaves in omega arith

  abbrev FiguresStart : (List ℕ → List ℕ → Type 0) → Type 0
  FiguresStart Wrong =
      Never figures-start-kinds.ps figures-start-kinds.r figures-start-reads.Post κs (lent_mut p (nines 20), (lent_mut q (nines 49), tt)) (λ x v. Wrong v.0 v.1.0)

  -- a cell counted before the first octet, and octets left as they were
  pub start_counts_no_cell : FiguresStart (λ state held. get_or state 11 0 ≡ 1)
  unfolding unfolded
  start_counts_no_cell x v wrong s = let right : get_or v.0 11 0 ≡ 0 = ap (λ (l : List ℕ). get_or l 11 0) s.leaves in omega arith

  pub figures_start_holds_nothing : FiguresStart (λ state held. get_or held 0 0 ≡ 9)
  figures_start_holds_nothing x v wrong s = let right : get_or v.1.0 0 0 ≡ 0 = ap (λ (l : List ℕ). get_or l 0 0) s.holds in omega arith

module _ (κs : Lfts 5) (p q r s t : Place) where
  -- a piece of no octets, with a run of so many; the stage is above its width, and the octets written are lent_mut as 9
  abbrev Taking : ℕ → (ℕ → List ℕ → ℕ → Type 0) → Type 0
  Taking room Wrong =
      Never list-take-kinds.ps list-take-kinds.r list-take-reads.Post κs
      (lent_mut p (stage 258 14), (lent_mut q (nines 49), (lent r [], (lent_mut s (nines room), (lent_mut t 9, tt))))) (λ x v. Wrong x v.0 v.1.1.1.1.0)

  -- a run of an octet too few, taken
  pub short_text_not_taken : Taking 291 (λ x left written. x ≡ 0)
  short_text_not_taken x v wrong c = let right : x ≡ 21 = c.refused in omega arith

  -- the octets written left as they were lent_mut
  pub refused_written_not_left : Taking 291 (λ x left written. written ≡ 9)
  refused_written_not_left x v wrong c = let right : v.1.1.1.1.0 ≡ 0 = c.counted in omega arith

  -- a refused call's state written: 258 would be 2
  pub refused_state_not_written : Taking 291 (λ x left written. get_or left 0 0 ≡ 2)
  refused_state_not_written x v wrong c = let right : get_or v.0 0 0 ≡ 258 = ap (λ (l : List ℕ). get_or l 0 0) c.leaves in omega arith

  -- a run that is just long enough, refused
  pub room_enough_not_refused : Taking 292 (λ x left written. x ≡ 21)
  room_enough_not_refused x v wrong c = let right : x ≡ 0 = c.refused in omega arith

module _ (κs : Lfts 4) (p q r s : Place) where
  abbrev Ending : ℕ → (ℕ → ℕ → Type 0) → Type 0
  Ending room Wrong =
      Never list-end-kinds.ps list-end-kinds.r list-end-reads.Post κs
      (lent p (stage 3 14), (lent q (nines 49), (lent_mut r (nines room), (lent_mut s 9, tt)))) (λ x v. Wrong x v.1.1.1.0)

  -- a run of 215 octets taken, and the octets written left as they were lent
  pub short_end_not_taken : Ending 215 (λ x written. x ≡ 0)
  short_end_not_taken x v wrong c = let right : x ≡ 21 = c.refused in omega arith

  pub refused_end_not_left : Ending 215 (λ x written. written ≡ 9)
  refused_end_not_left x v wrong c = let right : v.1.1.1.0 ≡ 0 = c.counted in omega arith

  -- an end said behind a fault
  pub fault_ends_once : Ending 216 (λ x written. written ≡ 33)
  unfolding unfolded
  fault_ends_once x v wrong c = let right : v.1.1.1.0 ≡ 0 = c.counted in omega arith

  abbrev SalvageEnding : ℕ → (ℕ → ℕ → Type 0) → Type 0
  SalvageEnding room Wrong =
      Never salvage-end-kinds.ps salvage-end-kinds.r salvage-end-reads.Post κs
      (lent p (stage 3 15), (lent q (nines 49), (lent_mut r (nines room), (lent_mut s 9, tt)))) (λ x v. Wrong x v.1.1.1.0)

  pub short_last_line_not_taken : SalvageEnding 215 (λ x written. x ≡ 0)
  short_last_line_not_taken x v wrong c = let right : x ≡ 21 = c.refused in omega arith

  pub refused_last_line_not_left : SalvageEnding 215 (λ x written. written ≡ 9)
  refused_last_line_not_left x v wrong c = let right : v.1.1.1.0 ≡ 0 = c.counted in omega arith

module _ (κs : Lfts 6) (p q r s t u : Place) where
  -- a piece of no octets, with two runs of so many
  abbrev Salvaging : ℕ → ℕ → (ℕ → List ℕ → Type 0) → Type 0
  Salvaging out notes Wrong =
      Never salvage-take-kinds.ps salvage-take-kinds.r salvage-take-reads.Post κs
      (lent_mut p (stage 258 15), (lent_mut q (nines 49), (lent r [], (lent_mut s (nines out), (lent_mut t (nines notes), (lent_mut u (nines 2), tt))))))
      (λ x v. Wrong x v.1.1.1.1.1.0)

  -- a run for the new log that is an octet too short, and one for the notes
  pub short_out_not_taken : Salvaging 51 266 (λ x written. x ≡ 0)
  short_out_not_taken x v wrong c = let right : x ≡ 21 = c.refused in omega arith

  pub short_notes_not_taken : Salvaging 52 265 (λ x written. x ≡ 0)
  short_notes_not_taken x v wrong c = let right : x ≡ 21 = c.refused in omega arith

  -- the octets written left as they were lent_mut
  pub refused_salvage_not_left : Salvaging 51 266 (λ x written. get_or written 1 0 ≡ 9)
  refused_salvage_not_left x v wrong c =
      let right : get_or v.1.1.1.1.1.0 1 0 ≡ 0 = ap (λ (l : List ℕ). get_or l 1 0) c.counted in omega arith

module _ (κs : Lfts 4) (p q r s : Place) where
  -- a piece of no octets, in a stage above its width: 258 is 2, behind a fault
  abbrev Searching : (ℕ → List ℕ → ℕ → Type 0) → Type 0
  Searching Wrong =
      Never anything-take-kinds.ps anything-take-kinds.r anything-take-reads.Post κs
      (lent_mut p (stage 258 13), (lent_mut q (nines 49), (lent r [], (lent_mut s 9, tt)))) (λ x v. Wrong x v.0 v.1.1.1.0)

  -- the stage left above its width, and more to be read behind a fault
  pub stage_not_left : Searching (λ x left more. get_or left 0 0 ≡ 258)
  unfolding unfolded
  stage_not_left x v wrong c = let right : get_or v.0 0 0 ≡ 2 = ap (λ (l : List ℕ). get_or l 0 0) c.leaves in omega arith

  pub fault_reads_no_more : Searching (λ x left more. more ≡ 1)
  unfolding unfolded
  fault_reads_no_more x v wrong c = let right : v.1.1.1.0 ≡ 0 = c.reads in omega arith

module _ (κs : Lfts 3) (p q r : Place) where
  -- a search among the records, with this refusal, a yes and record 7
  abbrev Answering : ℕ → (ℕ → List ℕ → Type 0) → Type 0
  Answering refusal Wrong =
      Never anything-end-kinds.ps anything-end-kinds.r anything-end-reads.Post κs
      (lent p (1 ∷ replicate 10 0 ++ (refusal ∷ 1 ∷ 7 ∷ [])), (lent q (nines 49), (lent_mut r (nines 2), tt))) (λ x v. Wrong x v.1.1.0)

  -- a yes forgotten, and an answer beside a refusal
  pub yes_not_forgotten : Answering 0 (λ x answer. get_or answer 0 0 ≡ 0)
  unfolding unfolded
  yes_not_forgotten x v wrong c = let right : get_or v.1.1.0 0 0 ≡ 1 = ap (λ (l : List ℕ). get_or l 0 0) c.answers in omega arith

  pub refused_answer_not_left : Answering 11 (λ x answer. get_or answer 1 0 ≡ 7)
  unfolding unfolded
  refused_answer_not_left x v wrong c = let right : get_or v.1.1.0 1 0 ≡ 0 = ap (λ (l : List ℕ). get_or l 1 0) c.answers in omega arith

  -- a piece of no octets
  abbrev Counting : (ℕ → List ℕ → List ℕ → Type 0) → Type 0
  Counting Wrong =
      Never figures-take-kinds.ps figures-take-kinds.r figures-take-reads.Post κs
      (lent_mut p (stage 258 19), (lent_mut q (nines 49), (lent r [], tt))) (λ x v. Wrong x v.0 v.1.0)

  -- a state refused 4, and octets held that aren't there
  pub no_state_refused : Counting (λ x left held. x ≡ 4)
  no_state_refused x v wrong c = let right : x ≡ 0 = c.refused in omega arith

  pub held_not_emptied : Counting (λ x left held. get_or held 0 0 ≡ 0)
  unfolding unfolded
  held_not_emptied x v wrong c = let right : get_or v.1.0 0 0 ≡ 9 = ap (λ (l : List ℕ). get_or l 0 0) c.holds in omega arith

module _ (κs : Lfts 2) (p q : Place) where
  -- figures with so many sound cells
  abbrev Closing : ℕ → (ℕ → List ℕ → Type 0) → Type 0
  Closing sound Wrong =
      Never figures-end-kinds.ps figures-end-kinds.r figures-end-reads.Post κs
      (lent p (replicate 11 0 ++ (sound ∷ replicate 8 0)), (lent_mut q (nines 10), tt)) (λ x v. Wrong x v.1.0)

  -- one cell too many, and the last number that isn't
  pub too_many_not_drawn : Closing 4294967296 (λ x row. x ≡ 0)
  unfolding unfolded
  too_many_not_drawn x v wrong c = let right : x ≡ 19 = c.refused in omega arith

  pub last_number_not_refused : Closing 4294967295 (λ x row. x ≡ 19)
  unfolding unfolded
  last_number_not_refused x v wrong c = let right : x ≡ 0 = c.refused in omega arith

  pub refused_row_not_left : Closing 4294967296 (λ x row. get_or row 0 0 ≡ 9)
  unfolding unfolded
  refused_row_not_left x v wrong c = let right : get_or v.1.0 0 0 ≡ 0 = ap (λ (l : List ℕ). get_or l 0 0) c.row_is in omega arith
