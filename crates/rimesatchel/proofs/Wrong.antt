-- Wrong answers, two or more for each exported function: its contract rules them out. Stated over the contracts themselves.
-- Assumes nothing.
use mathlib.Core.Bool.{Bool, true, false}
use mathlib.Core.List.{List, [], ◌∷◌, ◌++◌}
use mathlib.Core.Path.{◌≡◌, sym, ◌∙◌, ap}
use Prim.Native.Nat.{ℕ}
use native.Mathlib.Omega.{arith}
use contract.Lifetimes.{Lfts}
use lib.ListN.{get_or, set, replicate}
use Rattle.runs.proofs.Wrong.{Never, Place, lent, lent_mut}
use Rattle.sender.specs.Sender as S
use Rattle.sender.proofs.Wrong as sender
use Rattle.receiver.proofs.Wrong as receiver
use Rattle.status.proofs.Wrong as status
use Rattle.cell_log.proofs.Wrong as log
use Rattle.rimesatchel.specs.Boxes.{yes_no, sender_of, sender_octets, count_of, count_octets, receiver_of, receiver_octets, report_octets}
use Rattle.rimesatchel.proofs.boxes.rime_sender_open.Kinds as sender-open-kinds
use Rattle.rimesatchel.proofs.boxes.rime_sender_open.Reads as sender-open-reads
use Rattle.rimesatchel.proofs.boxes.rime_send.Kinds as send-kinds
use Rattle.rimesatchel.proofs.boxes.rime_send.Reads as send-reads
use Rattle.rimesatchel.proofs.boxes.rime_receiver_open.Kinds as receiver-open-kinds
use Rattle.rimesatchel.proofs.boxes.rime_receiver_open.Reads as receiver-open-reads
use Rattle.rimesatchel.proofs.boxes.rime_receiver_placed.Kinds as placed-kinds
use Rattle.rimesatchel.proofs.boxes.rime_receiver_placed.Reads as placed-reads
use Rattle.rimesatchel.proofs.boxes.rime_receive.Kinds as receive-kinds
use Rattle.rimesatchel.proofs.boxes.rime_receive.Reads as receive-reads
use Rattle.rimesatchel.proofs.logs.rime_log_header.Kinds as header-kinds
use Rattle.rimesatchel.proofs.logs.rime_log_header.Reads as header-reads
use Rattle.rimesatchel.proofs.logs.rime_log_record.Kinds as record-kinds
use Rattle.rimesatchel.proofs.logs.rime_log_record.Reads as record-reads
use Rattle.rimesatchel.proofs.statuses.rime_status_step.Kinds as status-step-kinds
use Rattle.rimesatchel.proofs.statuses.rime_status_step.Reads as status-step-reads
use Rattle.rimesatchel.proofs.statuses.rime_check_character.Kinds as check-character-kinds
use Rattle.rimesatchel.proofs.statuses.rime_check_character.Reads as check-character-reads

-- every definition on the way down to the numbers
unfolded : Unit {0}
unfolding sender.unfolded receiver.unfolded status.unfolded log.unfolded yes_no sender_of sender_octets count_of count_octets receiver_of receiver_octets report_octets
unfolded = tt

abbrev eight : List ℕ
eight = 1 ∷ 2 ∷ 3 ∷ 4 ∷ 5 ∷ 6 ∷ 7 ∷ 8 ∷ []

-- a sender's state: one channel in 5A hex, eight samples of forty bits in a cell, its next cell to have this number
abbrev studio : ℕ → List ℕ
studio number = 0x5A ∷ 1 ∷ 0 ∷ number ∷ 0 ∷ 0 ∷ 1 ∷ []

-- its cell number 3, with the eight samples
abbrev third : List ℕ
third = S.cell_now (sender_of (studio 3)) false eight (replicate 8 0)

-- a receiver's state: it last took the cell of this number, and has placed 255 cells
abbrev archive : ℕ → List ℕ
archive last = 0x5A ∷ 1 ∷ 0 ∷ 1 ∷ last ∷ 255 ∷ 0 ∷ 0 ∷ 0 ∷ []

-- opening: first number 3, the second number's start 5; the state is lent as nines
module _ (κs : Lfts 1) (l : Place) where
  abbrev OpeningSender : ℕ → (ℕ → List ℕ → Type 0) → Type 0
  OpeningSender channels Wrong =
      Never sender-open-kinds.ps sender-open-kinds.r sender-open-reads.Post κs (0x56, (channels, (0, (3, (true, (5, (lent_mut l (replicate 7 9), tt)))))))
      (λ x v. Wrong x v.1.1.1.1.1.1.0)

  -- refused although nothing is wrong, by whatever number
  pub sender_not_always_refused : OpeningSender 2 (λ x state. x ≡ 0 → ⊥)
  unfolding unfolded
  sender_not_always_refused x v wrong p = wrong p.refused

  -- the second number's start before the number
  pub sender_not_second_first : OpeningSender 2 (λ x state. get_or state 3 0 ≡ 5)
  unfolding unfolded
  sender_not_second_first x v wrong p =
      let right : get_or v.1.1.1.1.1.1.0 3 0 ≡ 3 = ap (λ (l : List ℕ). get_or l 3 0) p.leaves in omega arith

  -- a refused opening leaves zeros, and not the state as it was lent_mut
  pub refused_sender_not_left : OpeningSender 13 (λ x state. get_or state 0 0 ≡ 9)
  unfolding unfolded
  refused_sender_not_left x v wrong p =
      let right : get_or v.1.1.1.1.1.1.0 0 0 ≡ 0 = ap (λ (l : List ℕ). get_or l 0 0) p.leaves in omega arith

  abbrev OpeningReceiver : ℕ → (ℕ → List ℕ → Type 0) → Type 0
  OpeningReceiver channels Wrong =
      Never receiver-open-kinds.ps receiver-open-kinds.r receiver-open-reads.Post κs (0x56, (channels, (1, (lent_mut l (replicate 9 9), tt))))
      (λ x v. Wrong x v.1.1.1.0)

  -- refused although nothing is wrong, by whatever number
  pub receiver_not_always_refused : OpeningReceiver 2 (λ x state. x ≡ 0 → ⊥)
  unfolding unfolded
  receiver_not_always_refused x v wrong p = wrong p.refused

  -- opened as started already
  pub receiver_not_started : OpeningReceiver 2 (λ x state. get_or state 3 0 ≡ 1)
  unfolding unfolded
  receiver_not_started x v wrong p = let right : get_or v.1.1.1.0 3 0 ≡ 0 = ap (λ (l : List ℕ). get_or l 3 0) p.leaves in omega arith

  -- a refused opening leaves zeros, and not the state as it was lent_mut
  pub refused_receiver_not_left : OpeningReceiver 13 (λ x state. get_or state 0 0 ≡ 9)
  unfolding unfolded
  refused_receiver_not_left x v wrong p = let right : get_or v.1.1.1.0 0 0 ≡ 0 = ap (λ (l : List ℕ). get_or l 0 0) p.leaves in omega arith

  -- nine octets that are no state: the count's most significant octet first, or the count of a state that is refused told as 0
  pub placed_not_turned_round : Never placed-kinds.ps placed-kinds.r placed-reads.Post κs
      (lent l (0 ∷ 0 ∷ 0 ∷ 0 ∷ 99 ∷ 4 ∷ 3 ∷ 2 ∷ 1 ∷ []), tt) (λ x v. x ≡ 0x04030201)
  unfolding unfolded
  placed_not_turned_round x v wrong p = let right : x ≡ 0x01020304 = p in omega arith

  pub placed_not_refused : Never placed-kinds.ps placed-kinds.r placed-reads.Post κs
      (lent l (0 ∷ 0 ∷ 0 ∷ 0 ∷ 99 ∷ 4 ∷ 3 ∷ 2 ∷ 1 ∷ []), tt) (λ x v. x ≡ 0)
  unfolding unfolded
  placed_not_refused x v wrong p = let right : x ≡ 0x01020304 = p in omega arith

  -- the check character of the second example of Appendix 2, 32 hex: octet 23 as it stands, or the register begun from zeros
  pub character_not_octet_23 : Never check-character-kinds.ps check-character-kinds.r check-character-reads.Post κs
      (lent l (set (set (replicate 24 0) 0 1) 23 7), tt) (λ x v. x ≡ 7)
  unfolding unfolded
  character_not_octet_23 x v wrong p = omega arith

  pub character_not_from_zeros : Never check-character-kinds.ps check-character-kinds.r check-character-reads.Post κs
      (lent l (set (replicate 24 0) 0 1), tt) (λ x v. x ≡ 0x82)
  unfolding unfolded
  character_not_from_zeros x v wrong p = omega arith

module _ (κs : Lfts 4) (l s a c : Place) where
  abbrev Sending : List ℕ → Bool → (ℕ → List ℕ → List ℕ → Type 0) → Type 0
  Sending state indication Wrong =
      Never send-kinds.ps send-kinds.r send-reads.Post κs (lent_mut l state, (indication, (lent s eight, (lent a (replicate 8 0), (lent_mut c (replicate 48 0), tt)))))
      (λ x v. Wrong x v.0 v.1.1.1.1.0)

  -- refused although nothing is wrong, by whatever number
  pub send_not_always_refused : Sending (studio 3) false (λ x state cell. x ≡ 0 → ⊥)
  unfolding unfolded
  send_not_always_refused x v wrong p = wrong p.refused

  -- the state left as it was, so that the next cell has the same number
  pub send_not_standing_still : Sending (studio 3) false (λ x state cell. state ≡ studio 3)
  unfolding unfolded
  send_not_standing_still x v wrong p =
      let number : ◌≡◌ {A = ℕ} 3 4 = ap (λ (l : List ℕ). get_or l 3 0) (sym wrong ∙ p.leaves) in omega arith

  -- the cell left as it was
  pub cell_not_left : Sending (studio 3) false (λ x state cell. cell ≡ replicate 48 0)
  unfolding unfolded
  cell_not_left x v wrong p =
      let first : ◌≡◌ {A = ℕ} 0 1 = ap (λ (l : List ℕ). get_or l 4 0) (sym wrong ∙ p.writes) in omega arith

  -- the state of a refused call moved: indication 1 at number 4
  pub refused_send_not_counted : Sending (studio 4) true (λ x state cell. get_or state 3 0 ≡ 5)
  unfolding unfolded
  refused_send_not_counted x v wrong p = let right : get_or v.0 3 0 ≡ 4 = ap (λ (l : List ℕ). get_or l 3 0) p.leaves in omega arith

module _ (κs : Lfts 6) (l c s a m r : Place) where
  -- a call with cell number 3 and this indication on three runs of nine sevens, with a report lent as nines
  abbrev Indicated : Bool → List ℕ → (ℕ → List ℕ → List ℕ → List ℕ → Type 0) → Type 0
  Indicated indication state Wrong =
      Never receive-kinds.ps receive-kinds.r receive-reads.Post κs
      (lent_mut l state, (lent c third, (indication, (lent_mut s (replicate 9 7), (lent_mut a (replicate 9 7), (lent_mut m (replicate 9 7), (lent_mut r (replicate 4 9), tt)))))))
      (λ x v. Wrong x v.0 v.1.1.1.0 v.1.1.1.1.1.1.0)

  abbrev Receiving : List ℕ → (ℕ → List ℕ → List ℕ → List ℕ → Type 0) → Type 0
  Receiving = Indicated false

  -- refused although nothing is wrong, by whatever number
  pub receive_not_always_refused : Receiving (archive 2) (λ x state samples report. x ≡ 0 → ⊥)
  unfolding unfolded
  receive_not_always_refused x v wrong p = wrong p.refused

  -- the run of samples left as it was
  pub samples_not_left : Receiving (archive 2) (λ x state samples report. samples ≡ replicate 9 7)
  unfolding unfolded
  samples_not_left x v wrong p =
      let first : ◌≡◌ {A = ℕ} 7 1 = ap (λ (l : List ℕ). get_or l 0 0) (sym wrong ∙ p.receives.samples_after) in omega arith

  -- the report with the number first
  pub report_not_number_first : Receiving (archive 2) (λ x state samples report. get_or report 0 0 ≡ 3)
  unfolding unfolded
  report_not_number_first x v wrong p = let right : get_or v.1.1.1.1.1.1.0 0 0 ≡ 0 = ap (λ (l : List ℕ). get_or l 0 0) p.reports in omega arith

  -- a repeat refused, and the report left as it was lent, or the state's last number told
  pub refused_report_not_left : Receiving (archive 3) (λ x state samples report. report ≡ replicate 4 9)
  unfolding unfolded
  refused_report_not_left x v wrong p =
      let missing : ◌≡◌ {A = ℕ} 9 0 = ap (λ (l : List ℕ). get_or l 0 0) (sym wrong ∙ p.reports) in omega arith

  pub refused_report_not_told : Receiving (archive 3) (λ x state samples report. get_or report 1 0 ≡ 3)
  unfolding unfolded
  refused_report_not_told x v wrong p = let right : get_or v.1.1.1.1.1.1.0 1 0 ≡ 0 = ap (λ (l : List ℕ). get_or l 1 0) p.reports in omega arith

  -- the indication dropped on its way to the receiver, and the cell taken
  pub indication_not_dropped : Indicated true (archive 2) (λ x state samples report. x ≡ 0)
  unfolding unfolded
  indication_not_dropped x v wrong p = let right : x ≡ 15 = p.refused in omega arith

  -- the count after 255 cells and one more kept in an octet
  pub count_not_in_one_octet : Receiving (archive 2) (λ x state samples report. get_or state 6 0 ≡ 0)
  unfolding unfolded
  count_not_in_one_octet x v wrong p = let right : get_or v.0 6 0 ≡ 1 = ap (λ (l : List ℕ). get_or l 6 0) p.leaves in omega arith

  -- a repeat counted
  pub refused_receive_not_placed : Receiving (archive 3) (λ x state samples report. get_or state 6 0 ≡ 1)
  unfolding unfolded
  refused_receive_not_placed x v wrong p = let right : get_or v.0 6 0 ≡ 0 = ap (λ (l : List ℕ). get_or l 6 0) p.leaves in omega arith

  -- a call refused for room, and the state moved
  pub refused_receive_not_counted : Receiving (archive 1) (λ x state samples report. get_or state 4 0 ≡ 3)
  unfolding unfolded
  refused_receive_not_counted x v wrong p = let right : get_or v.0 4 0 ≡ 1 = ap (λ (l : List ℕ). get_or l 4 0) p.leaves in omega arith

module _ (κs : Lfts 2) (l k : Place) where
  -- a header; the four numbers are lent as nines
  abbrev ReadingHeader : List ℕ → (ℕ → List ℕ → Type 0) → Type 0
  ReadingHeader octets Wrong =
      Never header-kinds.ps header-kinds.r header-reads.Post κs (lent l octets, (lent_mut k (replicate 4 9), tt)) (λ x v. Wrong x v.1.0)

  -- the format before the place
  pub header_not_format_first : ReadingHeader (0x56 ∷ 2 ∷ 0 ∷ []) (λ x header. get_or header 0 0 ≡ 0x56)
  unfolding unfolded
  header_not_format_first x v wrong p = let right : get_or v.1.0 0 0 ≡ 3 = ap (λ (l : List ℕ). get_or l 0 0) p.1 in omega arith

  -- nothing written for a header that is refused
  pub refused_header_not_left : ReadingHeader [] (λ x header. header ≡ replicate 4 9)
  unfolding unfolded
  refused_header_not_left x v wrong p =
      let place : ◌≡◌ {A = ℕ} 9 0 = ap (λ (l : List ℕ). get_or l 0 0) (sym wrong ∙ p.1) in omega arith

  -- an empty log taken
  pub empty_log_not_taken : ReadingHeader [] (λ x header. x ≡ 0)
  unfolding unfolded
  empty_log_not_taken x v wrong p = let right : x ≡ 11 = p.0 in omega arith

  -- the record at a place of a log of one record and an octet where none can begin; the four numbers are lent as nines
  abbrev ReadingRecord : ℕ → (ℕ → List ℕ → Type 0) → Type 0
  ReadingRecord place Wrong =
      Never record-kinds.ps record-kinds.r record-reads.Post κs (lent l ((1 ∷ replicate 48 9) ++ (2 ∷ [])), (place, (lent_mut k (replicate 4 9), tt)))
      (λ x v. Wrong x v.1.1.0)

  -- the end answered at a record
  pub record_not_the_end_early : ReadingRecord 0 (λ x answer. get_or answer 0 0 ≡ 0)
  unfolding unfolded
  record_not_the_end_early x v wrong p = let right : get_or v.1.1.0 0 0 ≡ 1 = ap (λ (l : List ℕ). get_or l 0 0) p.1 in omega arith

  -- where the cell starts told as the next place
  pub next_place_not_left_out : ReadingRecord 0 (λ x answer. get_or answer 3 0 ≡ 1)
  unfolding unfolded
  next_place_not_left_out x v wrong p = let right : get_or v.1.1.0 3 0 ≡ 49 = ap (λ (l : List ℕ). get_or l 3 0) p.1 in omega arith

  -- the place told at a record that is refused
  pub refused_record_not_told : ReadingRecord 49 (λ x answer. get_or answer 3 0 ≡ 49)
  unfolding unfolded
  refused_record_not_told x v wrong p = let right : get_or v.1.1.0 3 0 ≡ 0 = ap (λ (l : List ℕ). get_or l 3 0) p.1 in omega arith

  -- a step of a block of so many bits, all of them 0; `out` is lent as nines
  abbrev Stepping : ℕ → ℕ → (ℕ → List ℕ → List ℕ → Type 0) → Type 0
  Stepping bits ancillary Wrong =
      Never status-step-kinds.ps status-step-kinds.r status-step-reads.Post κs (lent_mut l (bits ∷ replicate 24 0), (ancillary, (0, (lent_mut k (replicate 25 9), tt))))
      (λ x v. Wrong x v.0 v.1.1.1.0)

  -- the lent block left behind
  pub block_not_left_behind : Stepping 3 4 (λ x block out. block ≡ 3 ∷ replicate 24 0)
  unfolding unfolded
  block_not_left_behind x v wrong p =
      let bits : ◌≡◌ {A = ℕ} 3 4 = ap (λ (l : List ℕ). get_or l 0 0) (sym wrong ∙ p.leaves) in omega arith

  -- nothing written where nothing goes out
  pub out_not_left : Stepping 3 4 (λ x block out. out ≡ replicate 25 9)
  unfolding unfolded
  out_not_left x v wrong p =
      let answer : ◌≡◌ {A = ℕ} 9 0 = ap (λ (l : List ℕ). get_or l 0 0) (sym wrong ∙ p.hands) in omega arith

  -- a finished block's answer lost
  pub answer_not_lost : Stepping 191 0 (λ x block out. get_or out 0 0 ≡ 0)
  unfolding unfolded
  answer_not_lost x v wrong p = let right : get_or v.1.1.1.0 0 0 ≡ 3 = ap (λ (l : List ℕ). get_or l 0 0) p.hands in omega arith

  -- a block of consumer use answered "doesn't fit"
  pub consumer_not_judged : Stepping 191 0 (λ x block out. get_or out 0 0 ≡ 1)
  unfolding unfolded
  consumer_not_judged x v wrong p = let right : get_or v.1.1.1.0 0 0 ≡ 3 = ap (λ (l : List ℕ). get_or l 0 0) p.hands in omega arith

  -- an ancillary number above 15 taken
  pub refused_step_not_taken : Stepping 3 16 (λ x block out. x ≡ 0)
  unfolding unfolded
  refused_step_not_taken x v wrong p = let right : x ≡ 14 = p.refused in omega arith
