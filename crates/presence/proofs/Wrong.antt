-- Wrong answers to the public functions: the contract rules each of them out.
-- Assumes nothing.
use Rattle.std.proofs.Common.{◌≡◌, ℕ, Bool, true, false, List, [], ◌∷◌, ◌++◌, get_or, replicate, sym, ap, ◌∙◌, true≢false, arith}
use contract.Lifetimes.{Lfts}
use Rattle.runs.specs.Runs.{over}
use Rattle.runs.proofs.Wrong.{Never, Place, lent, lent_mut}
use Rattle.cell_log.proofs.Wrong as log
use Rattle.receiver.proofs.Wrong as receiver
use Rattle.reading.proofs.Computed as reading
use Rattle.glance.specs.Glance.{is_sound, some, sound_at}
use Rattle.pieces.proofs.Wrong as pieces
use Rattle.text.specs.declared.Put.{Put}
use Rattle.text.specs.Text.{digits_of}
use Rattle.text.specs.Words.{words}
use Rattle.presence.specs.declared.Presence.{Presence}
use Rattle.presence.specs.declared.Search.{Search}
use Rattle.presence.specs.Presence.{sounds, some_of, first_of, yes_at, answer_of, presence_of}
use Rattle.presence.specs.Line.{line_of}
use Rattle.presence.specs.Taking.{reads_on, past_heard, past_record, past_part, sought_of, search_start}
use Rattle.presence.proofs.anything.Kinds as anything-kinds
use Rattle.presence.proofs.anything.Reads as anything-reads
use Rattle.presence.proofs.end.Kinds as end-kinds
use Rattle.presence.proofs.end.Reads as end_reads
use Rattle.presence.proofs.put_line.Kinds as put-line-kinds
use Rattle.presence.proofs.put_line.Reads as put-line-reads
use Rattle.presence.proofs.reads_on.Kinds as reads-on-kinds
use Rattle.presence.proofs.reads_on.Reads as reads-on-reads
use Rattle.presence.proofs.start.Kinds as start-kinds
use Rattle.presence.proofs.start.Reads as start-reads
use Rattle.presence.proofs.take.Kinds as take-kinds
use Rattle.presence.proofs.take.Reads as take-reads

-- every definition on the way down to the numbers
unfoldable pub unfolded : Unit {0}
unfolding log.unfolded receiver.unfolded reading.unfolded is_sound some sound_at sounds some_of first_of answer_of presence_of
unfolded = tt

-- a record of 02 hex, eight bits in each of 48 slots, with this sample in the second slot
abbrev pub record_with : ℕ → List ℕ
record_with sample = 0 ∷ 0 ∷ sample ∷ replicate 46 0

-- one channel in order 0
abbrev pub header : List ℕ
header = 0x02 ∷ 1 ∷ 0 ∷ []

-- 40 channels, so that the last eight slots are unused, and sound in one of them alone
abbrev unused_sounds : List ℕ
unused_sounds = 0x02 ∷ 40 ∷ 0 ∷ 0 ∷ replicate 47 0 ++ (7 ∷ [])

module _ (κs : Lfts 1) (p : Place) where
  abbrev Anything : List ℕ → (Presence → Type 0) → Type 0
  Anything octets Wrong = Never anything-kinds.ps anything-kinds.r anything-reads.Post κs (lent p octets, tt) (λ x v. Wrong x)

  -- a yes to silence
  pub silence_isn't_yes : Anything (header ++ record_with 0) (λ x. x.found ≡ true)
  unfolding unfolded
  silence_isn't_yes x v wrong is =
      let right : x.found ≡ false = ap (λ (r : Presence). r.found) is in true≢false (sym wrong ∙ right)

  -- a no to a sample that isn't zero
  pub sound_isn't_no : Anything (header ++ record_with 1) (λ x. x.found ≡ false)
  unfolding unfolded
  sound_isn't_no x v wrong is =
      let right : x.found ≡ true = ap (λ (r : Presence). r.found) is in true≢false (sym right ∙ wrong)

  -- the last such record told, and not the first
  pub first_is_told : Anything (header ++ record_with 0 ++ record_with 1 ++ record_with 1) (λ x. x.number ≡ 2)
  unfolding unfolded
  first_is_told x v wrong is = let right : x.number ≡ 1 = ap (λ (r : Presence). r.number) is in omega arith

  -- a record that is cut counted as whole
  pub cut_record_isn't_counted : Anything (header ++ record_with 0 ++ (0 ∷ 0 ∷ [])) (λ x. x.number ≡ 2)
  unfolding unfolded
  cut_record_isn't_counted x v wrong is = let right : x.number ≡ 1 = ap (λ (r : Presence). r.number) is in omega arith

  -- an unused slot taken for sound
  pub unused_slot_isn't_sound : Anything unused_sounds (λ x. x.found ≡ true)
  unfolding unfolded
  unused_slot_isn't_sound x v wrong is =
      let right : x.found ≡ false = ap (λ (r : Presence). r.found) is in true≢false (sym wrong ∙ right)

  -- a refused header passed over
  pub refused_header_is_told : Anything (0x02 ∷ 0 ∷ 0 ∷ []) (λ x. x.refusal ≡ 0)
  unfolding unfolded
  refused_header_is_told x v wrong is = let right : x.refusal ≡ 2 = ap (λ (r : Presence). r.refusal) is in omega arith

-- the definitions of a search, and of the line
unfoldable pub search_unfolded : Unit {0}
unfolding unfolded pieces.steps_unfolded pieces.unfolded past_heard past_record past_part sought_of line_of digits_of
search_unfolded = tt

abbrev zeros : ℕ → List ℕ
zeros n = replicate n 0

module _ (κs : Lfts 2) (p q : Place) where
  abbrev Take : List ℕ → (Search → Type 0) → Type 0
  Take piece Wrong =
      Never take-kinds.ps take-kinds.r take-reads.Post κs (search_start, (lent_mut p (zeros 49), (lent q piece, tt))) (λ x v. Wrong x)

  -- a sample that isn't zero passed over
  pub sound_not_passed_over : Take (header ++ record_with 1) (λ x. x.sought.found ≡ false)
  unfolding search_unfolded
  sound_not_passed_over x v wrong s =
      let right : x.sought.found ≡ true = ap (λ (l : Search). l.sought.found) s.goes_on in true≢false (sym right ∙ wrong)

  -- a silent record not counted
  pub silent_record_counted : Take (header ++ record_with 0) (λ x. x.sought.number ≡ 0)
  unfolding search_unfolded
  silent_record_counted x v wrong s =
      let right : x.sought.number ≡ 1 = ap (λ (l : Search). l.sought.number) s.goes_on in omega arith

module _ (κs : Lfts 1) (p : Place) where
  abbrev Line : Presence → (Put → List ℕ → Type 0) → Type 0
  Line answer Wrong =
      Never put-line-kinds.ps put-line-kinds.r put-line-reads.Post κs (answer, (lent_mut p (zeros 100), tt))
      (λ x v. Wrong x v.1.0)

  -- a no written for a yes
  pub yes_isn't_no : Line (yes_at 7) (λ x run. run ≡ over (words "no 7\n") (zeros 100))
  unfolding search_unfolded over
  yes_isn't_no x v wrong s =
      let letter : ◌≡◌ {A = ℕ} 110 121 = ap (λ (l : List ℕ). get_or l 0 0) (sym wrong ∙ s.wrote) in omega arith

  -- nothing written
  pub line_isn't_empty : Line (yes_at 7) (λ x run. x.octets ≡ 0)
  unfolding search_unfolded
  line_isn't_empty x v wrong s = let right : x.octets ≡ 6 = ap (λ (l : Put). l.octets) s.printed in omega arith

module _ (κs : Lfts 0) where
  abbrev End : (Presence → Type 0) → Type 0
  End Wrong = Never end-kinds.ps end-kinds.r end_reads.Post κs (search_start, (zeros 49, tt)) (λ x v. Wrong x)

  -- a log of no octets taken for one that is silent, or for one with a cut record
  pub no_log_is_refused : End (λ x. x.refusal ≡ 0)
  unfolding search_unfolded
  no_log_is_refused x v wrong s = let right : x.refusal ≡ 11 = ap (λ (l : Presence). l.refusal) s in omega arith

  pub no_log_isn't_cut : End (λ x. x.refusal ≡ 12)
  unfolding search_unfolded
  no_log_isn't_cut x v wrong s = let right : x.refusal ≡ 11 = ap (λ (l : Presence). l.refusal) s in omega arith

  abbrev Start : (Search → Type 0) → Type 0
  Start Wrong = Never start-kinds.ps start-kinds.r start-reads.Post κs tt (λ x v. Wrong x)

  -- a limit, and something counted
  pub start_has_no_limit : Start (λ x. x.standing.left ≡ 4294967295)
  start_has_no_limit x v wrong s =
      let right : x.standing.left ≡ 18446744073709551615 = ap (λ (l : Search). l.standing.left) s in omega arith

  pub start_counts_nothing : Start (λ x. x.sought.number ≡ 1)
  start_counts_nothing x v wrong s = let right : x.sought.number ≡ 0 = ap (λ (l : Search). l.sought.number) s in omega arith

module _ (κs : Lfts 0) where
  -- a search at this stage of the log, with a yes or without
  abbrev stands_at : ℕ → Bool → Search
  stands_at stage found =
      record {
        standing = record { stage = stage; fault = 0; count = 0; left = 7; records = 0 };
        sought = record { state = search_start.sought.state; refusal = 0; found = found; number = 0 };
      }

  abbrev Wanted : Search → (Bool → Type 0) → Type 0
  Wanted search Wrong = Never reads-on-kinds.ps reads-on-kinds.r reads-on-reads.Post κs (search, tt) (λ x v. Wrong x)

  -- a search that reads on behind its yes, or behind a broken record, and one that stops among silent records
  pub yes_reads_no_more : Wanted (stands_at 1 true) (λ x. x ≡ true)
  unfolding reads_on
  yes_reads_no_more x v wrong s = true≢false (sym wrong ∙ s)

  pub broken_reads_no_more : Wanted (stands_at 3 false) (λ x. x ≡ true)
  unfolding reads_on
  broken_reads_no_more x v wrong s = true≢false (sym wrong ∙ s)

  pub silence_reads_on : Wanted (stands_at 1 false) (λ x. x ≡ false)
  unfolding reads_on
  silence_reads_on x v wrong s = true≢false (sym s ∙ wrong)
