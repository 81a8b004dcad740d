-- Laws of what is made of records, first of any receiver, then of ours.
-- Assumes nothing.
use mathlib.Core.Bool.{Bool, false}
use mathlib.Core.List.{List, [], ◌∷◌, ◌++◌, map, flat_map}
use mathlib.Core.Path.{◌≡◌, refl, sym, ◌∙◌, ap, subst}
use Prim.Native.Nat.{ℕ, suc, ◌*◌, ◌≤◌}
use native.Mathlib.Omega.{arith}
use lib.Dec.{eqb}
use lib.ListN.{length}
use Rattle.runs.specs.Runs.{over}
use Rattle.runs.proofs.Laws.{split}
use Rattle.receiver.specs.declared.Receiver.{Receiver}
use Rattle.receiver.specs.declared.Received.{Received}
use Rattle.receiver.specs.Receiver.{
  receive_refusal,
  received_of,
  judged_of,
  entries_given,
  samples_now,
  ancillary_now,
  marks_now,
  Receives,
}
use Rattle.receiver.proofs.Laws.{answer_refusal, gap_to}
use Rattle.reading.specs.Heard.{Heard, heard_by, end_by, given, hear, onward, heard_from, end_of, is_sound, missing_in, kept_of}
use Rattle.reading.specs.Records.{Whole, Framed}
use Rattle.reading.specs.Totals.{those, Each}
use Rattle.reading.proofs.Totals.{those_twice, total_to}

module _ {State Record Made : Type 0} (hear : State → Record → Made) (next : Made → State) where
  abbrev heard : State → List Record → List Made
  heard st records = heard_by hear next st records

  pub length_heard : (st : State) (records : List Record) → length (heard st records) ≡ length records
  unfolding heard_by
  length_heard st [] = refl
  length_heard st (r ∷ rs) = ap suc (length_heard (next (hear st r)) rs)

  -- records in two parts: the second is heard from where the first ends
  pub heard_joined : (st : State) (a b : List Record) → heard st (a ++ b) ≡ heard st a ++ heard (end_by next st (heard st a)) b
  unfolding heard_by end_by
  heard_joined st [] b = refl
  heard_joined st (r ∷ rs) b = ap (λ (hs : List Made). hear st r ∷ hs) (heard_joined (next (hear st r)) rs b)

  pub end_joined : (st : State) (a b : List Made) → end_by next st (a ++ b) ≡ end_by next (end_by next st a) b
  unfolding end_by
  end_joined st [] b = refl
  end_joined st (h ∷ hs) b = end_joined (next h) hs b

  -- what is made of a record tells the record
  module _ (arrived : Made → Record) (arrived_is : (st : State) (r : Record) → arrived (hear st r) ≡ r) where
    pub all_arrived : (st : State) (records : List Record) → map arrived (heard st records) ≡ records
    unfolding heard_by
    all_arrived st [] = refl
    all_arrived st (r ∷ rs) = rw (arrived_is st r, all_arrived (next (hear st r)) rs)

    -- the records that it takes are kept, and a refusal leaves the state
    module _ (taken : Made → Bool) (leaves : (st : State) (r : Record) → taken (hear st r) ≡ false → next (hear st r) ≡ st) where
      abbrev kept : State → List Record → List Record
      kept st records = map arrived (those taken (heard st records))

      -- records that are kept are heard as before
      pub heard_again : (st : State) (records : List Record) → heard st (kept st records) ≡ those taken (heard st records)
      unfolding heard_by those
      heard_again st [] = refl
      heard_again st (r ∷ rs) =
          split (taken (hear st r))
          (λ e. rw (e, arrived_is st r) (ap (λ (hs : List Made). hear st r ∷ hs) (heard_again (next (hear st r)) rs)))
          (λ e. rw (e, leaves st r e) (heard_again st rs))

      -- and keeps the same records
      pub kept_again : (st : State) (records : List Record) → kept st (kept st records) ≡ kept st records
      kept_again st records = rw (heard_again st records, those_twice taken (heard st records))

      -- the receiver ends in the same state
      pub end_again : (st : State) (records : List Record)
          → end_by next st (those taken (heard st records)) ≡ end_by next st (heard st records)
      unfolding heard_by end_by those
      end_again st [] = refl
      end_again st (r ∷ rs) =
          split (taken (hear st r))
          (λ e. rw e (end_again (next (hear st r)) rs))
          (λ e. rw e
          (subst (λ (s : State). end_by next st (those taken (heard s rs)) ≡ end_by next s (heard s rs)) (sym (leaves st r e))
          (end_again st rs)))

      -- what holds of each record holds of each that is kept
      pub kept_each : (Holds : Record → Type 0) (st : State) (records : List Record) → Each Holds records → Each Holds (kept st records)
      unfolding heard_by those Each
      kept_each Holds st [] each = tt
      kept_each Holds st (r ∷ rs) each =
          split (taken (hear st r))
          (λ e. rw e (rw (arrived_is st r) each.0, kept_each Holds (next (hear st r)) rs each.1))
          (λ e. rw e (kept_each Holds (next (hear st r)) rs each.1))

      -- what is nothing for each record that it refuses is the same over those that it takes
      pub handed_again : {B : Type 0} (out : Made → List B) → ((st : State) (r : Record) → taken (hear st r) ≡ false → out (hear st r) ≡ [])
          → (st : State) (records : List Record) → flat_map out (those taken (heard st records)) ≡ flat_map out (heard st records)
      unfolding heard_by those flat_map
      handed_again out nothing st [] = refl
      handed_again {B = B} out nothing st (r ∷ rs) =
          split (taken (hear st r))
          (λ e. rw e (ap (λ (more : List B). out (hear st r) ++ more) (handed_again out nothing (next (hear st r)) rs)))
          (λ e. rw (e, nothing st r e) (handed_again out nothing (next (hear st r)) rs))

  -- what holds of all that it makes
  pub heard_each : (Holds : Made → Type 0) → ((st : State) (r : Record) → Holds (hear st r))
      → (st : State) (records : List Record) → Each Holds (heard st records)
  unfolding heard_by Each
  heard_each Holds holds st [] = tt
  heard_each Holds holds st (r ∷ rs) = (holds st r, heard_each Holds holds (next (hear st r)) rs)

-- our receiver: a refusal leaves the state, counts nothing as missing and hands out nothing
module _ (st : Receiver) (r : Whole) where
  module _ (refused : is_sound (hear st r) ≡ false) where
    refusal_is : eqb (receive_refusal st r.cell r.indication 720 720 720) 0 ≡ false
    unfolding hear judged_of
    refusal_is = ap (λ (n : ℕ). eqb n 0) (sym (answer_refusal st r.cell r.indication 720 720 720)) ∙ refused

    pub refused_leaves : onward (hear st r) ≡ st
    unfolding hear judged_of received_of
    refused_leaves = rw refusal_is

    pub refused_missing : (hear st r).answer.missing ≡ 0
    unfolding hear judged_of received_of
    refused_missing = rw refusal_is

    pub refused_gives : (entries : List ℕ) → given st r entries ≡ []
    unfolding given entries_given
    refused_gives entries = rw refusal_is

  pub arrived_is : (hear st r).arrived ≡ r
  unfolding hear
  arrived_is = refl

  pub missing_few : (hear st r).answer.missing ≤ 14
  unfolding hear judged_of received_of
  missing_few =
      split (eqb (receive_refusal st r.cell r.indication 720 720 720) 0)
      (λ e. rw e (omega (arith, gap_to st r.cell)))
      (λ e. rw e (omega arith))

-- it is what a call of `receive` on three runs of 720 entries answers and leaves in them
module _ {st : Receiver} {r : Whole} {samples ancillary marks samples₁ ancillary₁ marks₁ : List ℕ} {answer : Received}
    (ls : length samples ≡ 720) (la : length ancillary ≡ 720) (lm : length marks ≡ 720)
    (p : Receives st r.cell r.indication samples ancillary marks answer samples₁ ancillary₁ marks₁)
  where
    with_room : (entries run : List ℕ)
        → over (entries_given st r.cell r.indication (length samples) (length ancillary) (length marks) entries) run
        ≡ over (given st r entries) run
    unfolding given
    with_room entries run i = over (entries_given st r.cell r.indication (ls i) (la i) (lm i) entries) run

    pub as_received : (answer ≡ (hear st r).answer) × (samples₁ ≡ over (hear st r).samples samples)
        × (ancillary₁ ≡ over (hear st r).ancillary ancillary) × (marks₁ ≡ over (hear st r).marks marks)
    unfolding hear judged_of
    as_received = (
      p.answered ∙ (λ i. received_of st r.cell r.indication (ls i) (la i) (lm i)),
      p.samples_after ∙ with_room (samples_now st r.cell) samples,
      p.ancillary_after ∙ with_room (ancillary_now st r.cell) ancillary,
      p.marks_after ∙ with_room (marks_now st r.cell) marks,
    )

-- so of a log's records as of any receiver's
module _ (st : Receiver) (records : List Whole) where
  abbrev made : List Heard
  made = heard_from st records

  pub sound_again : heard_from st (kept_of made) ≡ those is_sound made
  sound_again = heard_again hear onward (λ h. h.arrived) arrived_is is_sound refused_leaves st records

  pub state_again : end_of st (heard_from st (kept_of made)) ≡ end_of st made
  state_again = rw sound_again (end_again hear onward (λ h. h.arrived) arrived_is is_sound refused_leaves st records)

  pub kept_framed : Each Framed records → Each Framed (kept_of made)
  kept_framed = kept_each hear onward (λ h. h.arrived) arrived_is is_sound refused_leaves Framed st records

  -- a run that is handed out, column by column
  again : (column : Heard → List ℕ) → ((st : Receiver) (r : Whole) → is_sound (hear st r) ≡ false → column (hear st r) ≡ [])
      → flat_map column (heard_from st (kept_of made)) ≡ flat_map column made
  again column nothing =
      rw sound_again (handed_again hear onward (λ h. h.arrived) arrived_is is_sound refused_leaves column nothing st records)

  pub samples_again : flat_map (λ (h : Heard). h.samples) (heard_from st (kept_of made)) ≡ flat_map (λ (h : Heard). h.samples) made
  unfolding hear
  samples_again = again (λ h. h.samples) (λ st r e. refused_gives st r e _)

  pub ancillary_again : flat_map (λ (h : Heard). h.ancillary) (heard_from st (kept_of made)) ≡ flat_map (λ (h : Heard). h.ancillary) made
  unfolding hear
  ancillary_again = again (λ h. h.ancillary) (λ st r e. refused_gives st r e _)

  pub marks_again : flat_map (λ (h : Heard). h.marks) (heard_from st (kept_of made)) ≡ flat_map (λ (h : Heard). h.marks) made
  unfolding hear
  marks_again = again (λ h. h.marks) (λ st r e. refused_gives st r e _)

  pub missing_to : missing_in made ≤ 14 * length records
  missing_to =
      rw (← length_heard hear onward st records)
      (total_to (λ h. h.answer.missing) 14 made
      (heard_each hear onward (λ h. h.answer.missing ≤ 14) missing_few st records))
