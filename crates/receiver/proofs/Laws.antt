-- Laws of the receiver's answers: what each check gives in its turn, what is known where none refuses, and what a call leaves.
-- Assumes nothing.
use mathlib.Core.Bool.{Bool, true, false, cond, not, ◌||◌}
use mathlib.Core.List.{List, ◌++◌}
use mathlib.Core.Path.{◌≡◌, sym, ◌∙◌, ap, ap₂}
use Prim.Native.Nat.{ℕ, suc, ◌+◌, ◌*◌, ◌-◌, ◌%◌, ◌≤◌}
use native.Mathlib.Nat.{suc-ne-zero, pos_of_ne-zero, suc-mul, mod-lt, le_of_suc-le-suc}
use native.Mathlib.Omega.{arith}
use borrow.Author.Tests.{ne_eqb, ltb-false, eqb-true, eqb-false, not-false}
use lib.Dec.{eqb, ltb}
use lib.ListN.{length, replicate}
use Rattle.std.specs.Prelude.{Option, Some, None}
use Rattle.runs.specs.Refusals.{or_else}
use Rattle.runs.specs.Runs.{over}
use Rattle.runs.proofs.Laws.{first_refuses, then_later, past, past_both, neither, split}
use Rattle.formats.specs.declared.Format.{Format}
use Rattle.formats.specs.Settled.{Settled}
use Rattle.formats.specs.Formats.{format_of, settings_refusal}
use Rattle.formats.specs.Settings.{settings_of, settled}
use Rattle.formats.specs.Sound.{Limits}
use Rattle.formats.proofs.Laws.{settled_of_lem, settled_limits, given_refusal, given_refuses, given_none, given_settled, given_later}
use Rattle.numbers.specs.Numbers.{found_of, refusal_of, value_of, difference_of, indication_refused}
use Rattle.cells.specs.Cells.{sample_in, ancillary_in, mark_in, eight_in}
use Rattle.receiver.specs.declared.Receiver.{Receiver}
use Rattle.receiver.specs.declared.Received.{Received}
use Rattle.receiver.specs.Receiver.{
  zero_state,
  open_state,
  opened_of,
  last_refused,
  count_refused,
  state_refusal,
  used_now,
  lengths_refused,
  found_now,
  number_now,
  gap_of,
  count_after,
  receive_refusal,
  entries_now,
  second_now,
  after,
  received_of,
  entries_given,
  Receives,
}
use Rattle.receiver.specs.Unpacking.{used_in, own_entries, Fills, Room, early_refusal, late_refusal, refused_by, taken_as}

-- an opening, refused and taken
module _ {set : Settled} (octet channels order : ℕ) (settles : set ≡ settings_of octet channels order) where
  pub opens_refused : (set.refusal ≡ 0 → ⊥) → record { refusal = set.refusal; state = zero_state } ≡ opened_of octet channels order
  unfolding opened_of
  opens_refused some =
      let e = given_refusal octet channels order 0 settles in
      rw (← e, ne_eqb _ _ some)

  pub opens : set.refusal ≡ 0 → record { refusal = 0; state = open_state octet channels order } ≡ opened_of octet channels order
  unfolding opened_of
  opens none = rw (given_none octet channels order 0 settles none)

-- a gap is at most fifteen
pub gap_to : (st : Receiver) (cell : List ℕ) → gap_of st cell ≤ 15
unfolding gap_of difference_of
gap_to st cell = either (not st.started || eqb (format_of st.format).overhead_bits 0)
  where
    either : (b : Bool) → cond b 1 ((number_now st cell + (16 - st.last % 16)) % 16) ≤ 15
    either true = omega arith
    either false = le_of_suc-le-suc (mod-lt _ (omega arith))

-- checks 1 to 5 in their turn, by the settings
module _ {set : Settled} (st : Receiver) (settles : set ≡ settings_of st.format st.channels st.order) where
  pub settled_format : set.refusal ≡ 0 → set.format ≡ format_of st.format
  settled_format none = ap (λ (x : Settled). x.format) (given_settled st.format st.channels st.order 0 settles none)

  module _ (cell samples ancillary marks : ℕ) where
    first : {n : ℕ} → (n ≡ 0 → ⊥) → n ≡ state_refusal st → n ≡ early_refusal st cell samples ancillary marks
    unfolding early_refusal
    first some e = e ∙ sym (first_refuses _ (λ z. some (e ∙ z)))

    pub early_settings : (set.refusal ≡ 0 → ⊥) → set.refusal ≡ early_refusal st cell samples ancillary marks
    unfolding state_refusal
    early_settings some = first some (given_refuses st.format st.channels st.order _ settles some)

    module _ (none : set.refusal ≡ 0) where
      by_numbers : {b : Bool} → b ≡ (last_refused st || count_refused st) → cond b 4 0 ≡ state_refusal st
      unfolding state_refusal
      by_numbers e =
          ap (λ (b : Bool). cond b 4 0) e ∙ sym (given_later st.format st.channels st.order _ settles none)

      pub early_4 : true ≡ (last_refused st || count_refused st) → 4 ≡ early_refusal st cell samples ancillary marks
      early_4 e = first (suc-ne-zero 3) (by_numbers e)

      pub early_5 : {b : Bool} → false ≡ (last_refused st || count_refused st) → b ≡ lengths_refused cell samples ancillary marks
          → cond b 5 0 ≡ early_refusal st cell samples ancillary marks
      unfolding early_refusal
      early_5 fourth fifth = ap (λ (b : Bool). cond b 5 0) fifth ∙ sym (then_later _ (sym (by_numbers fourth)))

-- what is known where checks 1 to 5 refuse nothing
pub record Whole (st : Receiver) (cell samples ancillary marks : ℕ) : Type 0 where
  pub state_none : state_refusal st ≡ 0
  pub settings : settings_refusal st.format st.channels st.order ≡ 0
  pub lengths_none : lengths_refused cell samples ancillary marks ≡ false
  pub whole : cell ≡ 48
  pub ancillary_length : ancillary ≡ samples
  pub marks_length : marks ≡ samples

fits_lengths : (st : Receiver) (cell samples ancillary marks : ℕ) → state_refusal st ≡ 0
    → lengths_refused cell samples ancillary marks ≡ false → Whole st cell samples ancillary marks
unfolding state_refusal lengths_refused
fits_lengths st cell samples ancillary marks state lengths =
    let cells = neither (not (eqb cell 48)) _ lengths in
    let runs = neither (not (eqb ancillary samples)) _ cells.1 in
    record {
      state_none = state;
      settings = (past_both (settings_refusal st.format st.channels st.order) _ state).0;
      lengths_none = lengths;
      whole = eqb-true cell 48 (not-false _ cells.0);
      ancillary_length = eqb-true ancillary samples (not-false _ runs.0);
      marks_length = eqb-true marks samples (not-false _ runs.1);
    }

pub early_none : (st : Receiver) (cell samples ancillary marks : ℕ) → early_refusal st cell samples ancillary marks ≡ 0
    → Whole st cell samples ancillary marks
unfolding early_refusal
early_none st cell samples ancillary marks e =
    let state = past_both (state_refusal st) _ e in
    fits_lengths st cell samples ancillary marks state.0 (past (lengths_refused cell samples ancillary marks) 4 0 state.1).0

-- then the runs are equally long
pub equal_early : (st : Receiver) (cell samples ancillary marks : ℕ) → early_refusal st cell samples ancillary marks ≡ 0
    → early_refusal st cell samples samples samples ≡ 0
equal_early st cell samples ancillary marks none =
    let fits = early_none st cell samples ancillary marks none in
    ap₂ (λ (a m : ℕ). early_refusal st cell samples a m) (sym fits.ancillary_length) (sym fits.marks_length) ∙ none

-- what is known where nothing is refused
pub record Passes (st : Receiver) (cell : List ℕ) (samples ancillary marks : ℕ) : Type 0 where
  pub early : Whole st (length cell) samples ancillary marks
  pub found : refusal_of (found_now st cell) ≡ 0
  pub gap_from : 1 ≤ gap_of st cell
  pub count_to : count_after st cell ≤ 4294967295
  pub room : gap_of st cell * used_now st ≤ samples

pub passes : (st : Receiver) (cell : List ℕ) (indication : Bool) (samples ancillary marks : ℕ)
    → receive_refusal st cell indication samples ancillary marks ≡ 0 → Passes st cell samples ancillary marks
unfolding receive_refusal
passes st cell indication samples ancillary marks e =
    let state = past_both (state_refusal st) _ e in
    let fifth = past (lengths_refused (length cell) samples ancillary marks) 4 _ state.1 in
    let eighth = past_both (refusal_of (found_now st cell)) _ fifth.1 in
    let fifteenth = past (indication_refused (number_now st cell) indication) 14 _ eighth.1 in
    let ninth = past (eqb (gap_of st cell) 0) 8 _ fifteenth.1 in
    let twentieth = past (ltb 4294967295 (count_after st cell)) 19 _ ninth.1 in
    let tenth = past (ltb samples (gap_of st cell * used_now st)) 9 _ twentieth.1 in
    record {
      early = fits_lengths st (length cell) samples ancillary marks state.0 fifth.0;
      found = eighth.0;
      gap_from = pos_of_ne-zero (eqb-false (gap_of st cell) 0 ninth.0);
      count_to = ltb-false 4294967295 _ twentieth.0;
      room = ltb-false samples _ tenth.0;
    }

-- what checks 1 to 5 refuse is refused
as_first : {n : ℕ} → (n ≡ 0 → ⊥) → (state : ℕ) (fifth : Bool) (rest : ℕ) → n ≡ or_else state (cond fifth 5 0)
    → n ≡ or_else state (cond fifth 5 rest)
unfolding or_else
as_first some state true rest is = is
as_first some state false rest is =
    split (eqb state 0) (λ z. absurd (some (is ∙ rw z))) (λ z. is ∙ rw z)

early_first : (st : Receiver) (cell : List ℕ) (indication : Bool) (samples ancillary marks : ℕ) {n : ℕ} → (n ≡ 0 → ⊥)
    → n ≡ early_refusal st (length cell) samples ancillary marks → n ≡ receive_refusal st cell indication samples ancillary marks
unfolding early_refusal receive_refusal
early_first st cell indication samples ancillary marks some e =
    as_first some (state_refusal st) (lengths_refused (length cell) samples ancillary marks) _ e

-- the answer, by the refusal
module _ (st : Receiver) (cell : List ℕ) (indication : Bool) (samples ancillary marks : ℕ) where
  pub answer_refused : {n : ℕ} → (n ≡ 0 → ⊥) → n ≡ receive_refusal st cell indication samples ancillary marks
      → refused_by n st ≡ received_of st cell indication samples ancillary marks
  unfolding received_of
  answer_refused some e = rw (← e, ne_eqb _ _ some)

  -- by checks 1 to 5
  pub answer_early : {n : ℕ} → (n ≡ 0 → ⊥) → n ≡ early_refusal st (length cell) samples ancillary marks
      → refused_by n st ≡ received_of st cell indication samples ancillary marks
  answer_early some e = answer_refused some (early_first st cell indication samples ancillary marks some e)

  pub answer_taken : {missing number second count : ℕ} → 0 ≡ receive_refusal st cell indication samples ancillary marks
      → missing ≡ gap_of st cell - 1 → number ≡ number_now st cell → second ≡ second_now st cell
      → count ≡ count_after st cell
      → taken_as st missing number second indication count ≡ received_of st cell indication samples ancillary marks
  unfolding received_of after
  answer_taken none missing_is number_is second_is count_is = rw (← none, missing_is, number_is, second_is, count_is)

  pub answer_refusal : (received_of st cell indication samples ancillary marks).refusal
      ≡ receive_refusal st cell indication samples ancillary marks
  unfolding received_of
  answer_refusal =
      split (eqb (receive_refusal st cell indication samples ancillary marks) 0) (λ e. rw e (sym (eqb-true _ 0 e))) (λ e. rw e)

  pub answer_missing : receive_refusal st cell indication samples ancillary marks ≡ 0
      → (received_of st cell indication samples ancillary marks).missing ≡ gap_of st cell - 1
  unfolding received_of
  answer_missing none = rw none

-- what is known of d and the count where checks 9, 20 and 10 refuse nothing
pub late_none : (gap count samples needed : ℕ) → late_refusal gap count samples needed ≡ 0 → (1 ≤ gap) × (count + gap ≤ 4294967295)
unfolding late_refusal
late_none gap count samples needed e =
    let ninth = past (eqb gap 0) 8 _ e in
    let twentieth = past (ltb 4294967295 (count + gap)) 19 _ ninth.1 in
    (pos_of_ne-zero (eqb-false gap 0 ninth.0), ltb-false 4294967295 (count + gap) twentieth.0)

-- checks 8, 15, and 9, 20 and 10 in their turn, where the earlier ones refuse nothing; the runs are equally long
module _ {set : Settled} (st : Receiver) (cell : List ℕ) (indication : Bool) (samples : ℕ)
    (settles : set ≡ settings_of st.format st.channels st.order)
    (early : early_refusal st (length cell) samples samples samples ≡ 0)
  where
    abbrev wanted : Received
    wanted = received_of st cell indication samples samples samples

    whole_call : Whole st (length cell) samples samples samples
    whole_call = early_none st (length cell) samples samples samples early

    is : set ≡ settled st.format st.channels st.order
    is = settles ∙ settled_of_lem st.format st.channels st.order whole_call.settings

    pub judged_limits : Limits set
    judged_limits = settled_limits st.format st.channels st.order is whole_call.settings

    pub judged_format : set.format ≡ format_of st.format
    judged_format = ap (λ (x : Settled). x.format) is

    pub judged_whole_lem : length cell ≡ 48
    judged_whole_lem = whole_call.whole

    -- what the later checks say of a cell found so, with these settings
    abbrev later_of : Option ℕ → Settled → ℕ
    later_of found s =
        or_else (refusal_of found)
        (cond (indication_refused (value_of found) indication) 15
        (cond (eqb (gap_of st cell) 0) 9
        (cond (ltb 4294967295 (st.count + gap_of st cell)) 20 (cond (ltb samples (gap_of st cell * used_in s)) 10 0))))

    later : (found : Option ℕ) → found ≡ found_now st cell → receive_refusal st cell indication samples samples samples ≡ later_of found set
    unfolding receive_refusal count_after
    later found e =
        then_later _ whole_call.state_none
        ∙ rw whole_call.lengths_none (ap₂ (λ (x : Option ℕ) (s : Settled). later_of x s) (sym e) (sym is))

    pub judged_8 : None ≡ found_now st cell → refused_by 8 st ≡ wanted
    unfolding or_else refusal_of
    judged_8 e = answer_refused st cell indication samples samples samples (suc-ne-zero 7) (sym (later None e))

    module _ {number : ℕ} (found : Some number ≡ found_now st cell) where
      pub judged_15 : true ≡ indication_refused number indication → refused_by 15 st ≡ wanted
      unfolding or_else refusal_of value_of
      judged_15 e =
          answer_refused st cell indication samples samples samples (suc-ne-zero 14) (sym (later (Some number) found ∙ rw (← e)))

      module _ (rightly : false ≡ indication_refused number indication) {gap : ℕ} (gap_is : gap ≡ gap_of st cell) where
        from_9 : receive_refusal st cell indication samples samples samples ≡ late_refusal gap st.count samples (gap * used_in set)
        unfolding or_else refusal_of value_of late_refusal
        from_9 = later (Some number) found ∙ rw (← rightly, ← gap_is)

        -- refused by 9, 20 or 10
        pub judged_late : {n : ℕ} → (n ≡ 0 → ⊥) → n ≡ late_refusal gap st.count samples (gap * used_in set) → refused_by n st ≡ wanted
        judged_late some e = answer_refused st cell indication samples samples samples some (e ∙ sym from_9)

        pub judged_0 : 0 ≡ late_refusal gap st.count samples (gap * used_in set) → {second : ℕ} → second ≡ second_now st cell
            → taken_as st (gap - 1) number second indication (st.count + gap) ≡ wanted
        unfolding value_of count_after
        judged_0 none second_is =
            answer_taken st cell indication samples samples samples (none ∙ sym from_9) (ap (λ (n : ℕ). n - 1) gap_is)
            (ap value_of found) second_is (ap (λ (n : ℕ). st.count + n) gap_is)

-- what is found and the second number where the format has overhead
module _ {f : Format} (st : Receiver) (cell : List ℕ) (is : format_of st.format ≡ f) (over : f.overhead_bits ≡ 0 → ⊥) where
  pub found_over : found_now st cell ≡ found_of (eight_in f cell)
  unfolding found_now
  found_over = rw (is, ne_eqb f.overhead_bits 0 over)

pub gap_by : (st : Receiver) (cell : List ℕ) {started none : Bool} {number : ℕ} → st.started ≡ started
    → eqb (format_of st.format).overhead_bits 0 ≡ none → number_now st cell ≡ number
    → gap_of st cell ≡ cond (not started || none) 1 (difference_of number st.last)
unfolding gap_of
gap_by st cell a b e = λ i. cond (not (a i) || b i) 1 (difference_of (e i) st.last)

pub number_found : (st : Receiver) (cell : List ℕ) {number : ℕ} → Some number ≡ found_now st cell → number ≡ number_now st cell
unfolding value_of
number_found st cell found = ap value_of found

-- a call of `receive`
pub record Call : Type 0 where
  pub state : Receiver
  pub cell : List ℕ
  pub indication : Bool
  pub samples : List ℕ
  pub ancillary : List ℕ
  pub marks : List ℕ

-- it is answered so, and leaves its runs so
abbrev pub Answered : Call → Received → List ℕ → List ℕ → List ℕ → Type 0
Answered k answer samples₁ ancillary₁ marks₁ =
    Receives k.state k.cell k.indication k.samples k.ancillary k.marks answer samples₁ ancillary₁ marks₁

abbrev pub answer_of_lem : Call → Received
answer_of_lem k = received_of k.state k.cell k.indication (length k.samples) (length k.ancillary) (length k.marks)

module _ (k : Call) where
  abbrev refusal : ℕ
  refusal = receive_refusal k.state k.cell k.indication (length k.samples) (length k.ancillary) (length k.marks)

  -- refused by whatever check: the runs stay
  stays : {answer : Received} → answer ≡ answer_of_lem k → (refusal ≡ 0 → ⊥) → Answered k answer k.samples k.ancillary k.marks
  unfolding entries_given over
  stays is some =
      record {
        answered = is;
        samples_after = rw (ne_eqb _ _ some);
        ancillary_after = rw (ne_eqb _ _ some);
        marks_after = rw (ne_eqb _ _ some);
      }

  module _ {answer : Received} (answer_is : answer ≡ answer_of_lem k) where
    refusal_is : answer.refusal ≡ refusal
    refusal_is = ap (λ (r : Received). r.refusal) answer_is ∙ answer_refusal k.state k.cell k.indication _ _ _

    pub judged_refused : (answer.refusal ≡ 0 → ⊥) → Answered k answer k.samples k.ancillary k.marks
    judged_refused some = stays answer_is (λ z. some (refusal_is ∙ z))

    -- taken
    module _ {set : Settled} (settles : set ≡ settings_of k.state.format k.state.channels k.state.order) (took : answer.refusal ≡ 0)
      where
        taken : refusal ≡ 0
        taken = sym refusal_is ∙ took

        passed : Passes k.state k.cell (length k.samples) (length k.ancillary) (length k.marks)
        passed = passes k.state k.cell k.indication _ _ _ taken

        fits : Whole k.state (length k.cell) (length k.samples) (length k.ancillary) (length k.marks)
        fits = passed.early

        set_is : set ≡ settled k.state.format k.state.channels k.state.order
        set_is = settles ∙ settled_of_lem k.state.format k.state.channels k.state.order fits.settings

        pub set_limits : Limits set
        set_limits = settled_limits k.state.format k.state.channels k.state.order set_is fits.settings

        pub cell_whole : length k.cell ≡ 48
        cell_whole = fits.whole

        missing_is : answer.missing ≡ gap_of k.state k.cell - 1
        missing_is =
            ap (λ (r : Received). r.missing) answer_is ∙ answer_missing k.state k.cell k.indication _ _ _ taken

        pub missing_few : answer.missing ≤ 14
        missing_few = rw missing_is (omega (arith, gap_to k.state k.cell))

        enough : answer.missing * used_in set + used_in set ≤ length k.samples
        enough =
            rw (missing_is, set_is, last_part (gap_of k.state k.cell) (used_now k.state) passed.gap_from) passed.room
          where
            last_part : (g u : ℕ) → 1 ≤ g → (g - 1) * u + u ≡ g * u
            last_part g u h =
                sym (suc-mul (g - 1) u) ∙ ap (λ (n : ℕ). n * u) (let whole : suc (g - 1) ≡ g = omega arith in whole)

        pub roomy : Room (answer.missing * used_in set) (used_in set) k.samples k.ancillary k.marks
        roomy =
            record {
              samples_room = enough;
              ancillary_room = rw fits.ancillary_length enough;
              marks_room = rw fits.marks_length enough;
            }

        entries_are : (read : Format → ℕ → ℕ) (missing : ℕ)
            → replicate (answer.missing * used_in set) missing ++ own_entries (read set.format) set k.cell
            ≡ entries_given k.state k.cell k.indication (length k.samples) (length k.ancillary) (length k.marks)
            (entries_now (read (format_of k.state.format)) missing k.state k.cell)
        unfolding entries_given entries_now
        entries_are read missing =
            ap₂ (λ (n : ℕ) (x : Settled). replicate (n * used_in x) missing ++ own_entries (read x.format) x k.cell)
            missing_is set_is
            ∙ rw taken

        pub judged_taken : {samples₁ ancillary₁ marks₁ : List ℕ}
            → Fills set k.cell (answer.missing * used_in set) k.samples k.ancillary k.marks samples₁ ancillary₁ marks₁
            → Answered k answer samples₁ ancillary₁ marks₁
        judged_taken wrote =
            record {
              answered = answer_is;
              samples_after = wrote.samples_are ∙ ap (λ (new : List ℕ). over new k.samples) (entries_are sample_in 0);
              ancillary_after = wrote.ancillary_is ∙ ap (λ (new : List ℕ). over new k.ancillary) (entries_are ancillary_in 0);
              marks_after = wrote.marks_are ∙ ap (λ (new : List ℕ). over new k.marks) (entries_are mark_in 2);
            }
