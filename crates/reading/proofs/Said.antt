-- What a receiver with room says to records, one after the other: to each of them one of five things; and where 20 isn't among them.
-- Assumes nothing.
use mathlib.Core.Bool.{cond}
use mathlib.Core.List.{List, [], ◌∷◌}
use mathlib.Core.Path.{◌≡◌, refl, sym, ◌∙◌}
use Prim.Native.Nat.{ℕ, ◌+◌, ◌≤◌}
use native.Mathlib.Omega.{arith}
use borrow.Author.Tests.{ne_eqb, eqb-true}
use lib.Dec.{eqb}
use lib.ListN.{length}
use Rattle.runs.proofs.Laws.{split}
use Rattle.receiver.specs.declared.Receiver.{Receiver}
use Rattle.receiver.specs.Receiver.{state_refusal, used_now, count_after, receive_refusal, after, received_of, judged_of}
use Rattle.receiver.proofs.Count.{never_20}
use Rattle.receiver.proofs.Laws.{gap_to, passes, answer_refusal}
use Rattle.receiver.proofs.Onward.{after_passes, one_of_five, says_one_of_five}
use Rattle.reading.specs.Heard.{Heard, heard_by, hear, onward, heard_from, is_sound, sound_in, missing_in, refused_with}
use Rattle.reading.specs.Records.{Whole, Framed}
use Rattle.reading.specs.Totals.{total_of, Each}

-- behind a record
module _ (st : Receiver) (r : Whole) where
  pub onward_passes : state_refusal st ≡ 0 → state_refusal (onward (hear st r)) ≡ 0
  unfolding hear judged_of received_of
  onward_passes none =
      split (eqb (receive_refusal st r.cell r.indication 720 720 720) 0)
      (λ e. rw e (after_passes st r.cell none))
      (λ e. rw e none)

  pub onward_used : used_now (onward (hear st r)) ≡ used_now st
  unfolding hear judged_of received_of after
  onward_used = split (eqb (receive_refusal st r.cell r.indication 720 720 720) 0) (λ e. rw e) (λ e. rw e)

  onward_count : (onward (hear st r)).count ≡ st.count + (cond (is_sound (hear st r)) 1 0 + (hear st r).answer.missing)
  unfolding hear judged_of received_of after count_after
  onward_count =
      split (eqb (receive_refusal st r.cell r.indication 720 720 720) 0)
      (λ e. rw e (omega (arith, (passes st r.cell r.indication 720 720 720 (eqb-true _ 0 e)).gap_from)))
      (λ e. rw (e, e) (omega arith))

  heard_one_of_five : state_refusal st ≡ 0 → Framed r → one_of_five (hear st r).answer.refusal ≡ 1
  unfolding hear
  heard_one_of_five none framed = says_one_of_five st r.cell r.indication none framed

  not_20 : st.count ≤ 4294967280 → ◌≡◌ {A = ℕ} (cond (eqb (hear st r).answer.refusal 20) 1 0) 0
  unfolding hear judged_of count_after
  not_20 few =
      rw (ne_eqb (judged_of st r.cell r.indication).refusal 20 (λ e.
      never_20 st r.cell r.indication 720 720 720 (omega (arith, gap_to st r.cell))
      (sym (answer_refusal st r.cell r.indication 720 720 720) ∙ e)))

-- how many records are sound, or refused by 8, 9, 15 or 20
abbrev pub said_in : List Heard → ℕ
said_in heard = sound_in heard + refused_with 8 heard + refused_with 9 heard + refused_with 15 heard + refused_with 20 heard

-- they are all
pub all_said : (st : Receiver) (records : List Whole) → state_refusal st ≡ 0 → Each Framed records
    → said_in (heard_from st records) ≡ length (heard_from st records)
unfolding heard_by total_of Each
all_said st [] none framed = refl
all_said st (r ∷ rs) none framed =
    omega (arith, heard_one_of_five st r none framed.0, all_said (onward (hear st r)) rs (onward_passes st r none) framed.1)

-- a record is refused by 20 only where 4,294,967,281 cells or more are placed before it
pub none_20 : (st : Receiver) (records : List Whole)
    → st.count + (sound_in (heard_from st records) + missing_in (heard_from st records)) ≤ 4294967280
    → refused_with 20 (heard_from st records) ≡ 0
unfolding heard_by total_of
none_20 st [] few = refl
none_20 st (r ∷ rs) few =
    let later = none_20 (onward (hear st r)) rs (omega (arith, few, onward_count st r)) in
    omega (arith, not_20 st r (omega (arith, few)), later)
