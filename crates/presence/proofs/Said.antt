-- Laws of what one record says: what the receiver wrote into three runs of 720 entries is what it hands out, and a look at the
-- cell says the same.
-- Assumes nothing.
use Rattle.std.proofs.Common.{◌≡◌, ℕ, suc, ◌+◌, ◌-◌, ◌*◌, ◌<◌, ◌≤◌, Bool, false, List, ◌++◌, length, get_or, drop, replicate, sym, ap, ◌∙◌, ap₂, suc-mul, arith, length-append, get_or-append-add, eq-eqb, ne_eqb}
use lib.ListN.{length-replicate, get_or-replicate, get_or-append}
use Rattle.runs.specs.Runs.{over}
use Rattle.runs.proofs.Laws.{length_tab}
use Rattle.cells.specs.Cells.{entries_of}
use Rattle.receiver.specs.declared.Receiver.{Receiver}
use Rattle.receiver.specs.declared.Received.{Received}
use Rattle.receiver.specs.Receiver.{
  receive_refusal,
  judged_of,
  entries_given,
  entries_now,
  samples_now,
  marks_now,
  gap_of,
  used_now,
  Receives,
}
use Rattle.receiver.proofs.Laws.{Passes, passes, answer_refusal, answer_missing}
use Rattle.reading.specs.Heard.{Heard, given, hear, onward}
use Rattle.reading.specs.Heard as reading
use Rattle.reading.specs.Records.{Whole}
use Rattle.reading.proofs.Heard.{refused_gives}
use Rattle.glance.specs.Glance.{is_sound, some, sound_at, own_samples, own_marks, readable, sounds_of}
use Rattle.glance.proofs.Some.{some_behind}
use Rattle.presence.specs.Presence.{sounds, said_of}

-- entries of missing cells, and the cell's own
length_entries : (read : ℕ → ℕ) (missing : ℕ) (st : Receiver) (cell : List ℕ) → 1 ≤ gap_of st cell
    → length (entries_now read missing st cell) ≡ gap_of st cell * used_now st
unfolding entries_now entries_of
length_entries read missing st cell some =
    let one_more : suc (gap_of st cell - 1) ≡ gap_of st cell = omega arith in
    length-append (replicate ((gap_of st cell - 1) * used_now st) missing) _
    ∙ rw (length-replicate {A = ℕ} ((gap_of st cell - 1) * used_now st) missing, length_tab _ (used_now st))
    (sym (suc-mul (gap_of st cell - 1) (used_now st)) ∙ ap (λ (gap : ℕ). gap * used_now st) one_more)

-- what was written stands in the run
over_at : (new run : List ℕ) {now : List ℕ} (i : ℕ) → now ≡ over new run → i < length new → get_or now i 0 ≡ get_or new i 0
unfolding over
over_at new run i is within = rw is (get_or-append new (drop (length new) run) 0 i within)

-- a call of `receive` with three runs of 720 entries
module _ (st : Receiver) (cell : List ℕ) (indication : Bool) {samples ancillary marks : List ℕ} {answer : Received}
    {samples₁ ancillary₁ marks₁ : List ℕ}
    (got : Receives st cell indication samples ancillary marks answer samples₁ ancillary₁ marks₁)
    (s : length samples ≡ 720) (a : length ancillary ≡ 720) (m : length marks ≡ 720)
  where
    abbrev arrived : Whole
    arrived = record { indication = indication; cell = cell }

    abbrev h : Heard
    h = hear st arrived

    answered : answer ≡ judged_of st cell indication
    unfolding judged_of
    answered = rw (s, a, m) at got.answered

    pub answer_is : answer ≡ h.answer
    unfolding hear
    answer_is = answered

    pub samples_are : samples₁ ≡ over h.samples samples
    unfolding hear given
    samples_are = rw (s, a, m) at got.samples_after

    pub marks_are : marks₁ ≡ over h.marks marks
    unfolding hear given
    marks_are = rw (s, a, m) at got.marks_after

    -- it is refused
    module _ (some-refusal : answer.refusal ≡ 0 → ⊥) where
      none : reading.is_sound h ≡ false
      none = ne_eqb h.answer.refusal 0 (λ e. some-refusal (ap (λ (r : Received). r.refusal) answer_is ∙ e))

      pub silent : sounds h ≡ false
      unfolding sounds some hear
      silent = rw (refused_gives st arrived none (samples_now st cell))

    -- it is taken
    module _ (taken : answer.refusal ≡ 0) where
      no_refusal : receive_refusal st cell indication 720 720 720 ≡ 0
      unfolding judged_of
      no_refusal =
          sym (answer_refusal st cell indication 720 720 720) ∙ sym (ap (λ (r : Received). r.refusal) answered) ∙ taken

      passed : Passes st cell 720 720 720
      passed = passes st cell indication 720 720 720 no_refusal

      missing_is : answer.missing ≡ gap_of st cell - 1
      unfolding judged_of
      missing_is = ap (λ (r : Received). r.missing) answered ∙ answer_missing st cell indication 720 720 720 no_refusal

      all_given : (entries : List ℕ) → given st arrived entries ≡ entries
      unfolding given entries_given
      all_given entries = rw no_refusal

      pub length_samples : length h.samples ≡ gap_of st cell * used_now st
      unfolding hear
      length_samples = ap length (all_given (samples_now st cell)) ∙ length_entries _ 0 st cell passed.gap_from

      length_marks : length h.marks ≡ gap_of st cell * used_now st
      unfolding hear
      length_marks = ap length (all_given (marks_now st cell)) ∙ length_entries _ 2 st cell passed.gap_from

      pub same_there : (i : ℕ) → i < length h.samples → sound_at samples₁ marks₁ i ≡ sound_at h.samples h.marks i
      unfolding sound_at
      same_there i within =
          let sample : get_or samples₁ i 0 ≡ get_or h.samples i 0 = over_at h.samples samples i samples_are within in
          let mark : get_or marks₁ i 0 ≡ get_or h.marks i 0 =
          over_at h.marks marks i marks_are (omega (arith, within, length_samples, length_marks)) in
          rw (sample, mark)

      pub wrote_is : answer.missing * used_now st + used_now st ≡ gap_of st cell * used_now st
      wrote_is =
          let one_more : suc (gap_of st cell - 1) ≡ gap_of st cell = omega (arith, passed.gap_from) in
          rw missing_is (sym (suc-mul (gap_of st cell - 1) (used_now st)) ∙ ap (λ (gap : ℕ). gap * used_now st) one_more)

-- what is said by the judgement and a look at the cell
module _ (st : Receiver) (cell : List ℕ) (indication : Bool) {answer : Received}
    (judged : answer ≡ judged_of st cell indication) where
  abbrev record_here : Whole
  record_here = record { indication = indication; cell = cell }

  abbrev heard_in_place : Heard
  heard_in_place = hear st record_here

  state_is : answer.state ≡ onward heard_in_place
  unfolding hear
  state_is = ap (λ (r : Received). r.state) judged

  pub refused_says : (answer.refusal ≡ 0 → ⊥) → record { state = answer.state; sounds = false } ≡ said_of st cell indication
  unfolding sounds some hear
  refused_says some-refusal =
      let none : reading.is_sound heard_in_place ≡ false
      = ne_eqb _ 0 (λ e. some-refusal (ap (λ (r : Received). r.refusal) judged ∙ e)) in
      let silent-here : sounds heard_in_place ≡ false = rw (refused_gives st record_here none (samples_now st cell)) in
      λ i. record { state = state_is i; sounds = sym silent-here i }

  module _ (taken : answer.refusal ≡ 0) where
    no_refusal_here : receive_refusal st cell indication 720 720 720 ≡ 0
    unfolding judged_of
    no_refusal_here =
        sym (answer_refusal st cell indication 720 720 720) ∙ sym (ap (λ (r : Received). r.refusal) judged) ∙ taken

    passed_here : Passes st cell 720 720 720
    passed_here = passes st cell indication 720 720 720 no_refusal_here

    given_here : (entries : List ℕ) → given st record_here entries ≡ entries
    unfolding given entries_given
    given_here entries = rw no_refusal_here

    abbrev gap : ℕ
    gap = (gap_of st cell - 1) * used_now st

    -- of the gap's entries none counts, and behind them are the cell's own
    behind_gap : some (sound_at (samples_now st cell) (marks_now st cell)) (gap + used_now st)
        ≡ some (sound_at (own_samples st cell) (own_marks st cell)) (used_now st)
    unfolding entries_now sound_at is_sound
    behind_gap =
        some_behind (sound_at (samples_now st cell) (marks_now st cell)) (sound_at (own_samples st cell) (own_marks st cell)) gap
        (used_now st)
        (λ i h. rw (in_gap 0 (own_samples st cell) i h))
        (λ i h.
        ap₂ (λ (sample mark : ℕ). is_sound sample mark) (past_gap 0 (own_samples st cell) i) (past_gap 2 (own_marks st cell) i))
      where
        in_gap : (value : ℕ) (own : List ℕ) (i : ℕ) → i < gap → get_or (replicate gap value ++ own) i 0 ≡ value
        in_gap value own i h =
            get_or-append (replicate gap value) own 0 i (omega (arith, h, length-replicate {A = ℕ} gap value))
            ∙ get_or-replicate gap i value 0 h

        past_gap : (value : ℕ) (own : List ℕ) (i : ℕ) → get_or (replicate gap value ++ own) (gap + i) 0 ≡ get_or own i 0
        past_gap value own i =
            ap (λ (n : ℕ). get_or (replicate gap value ++ own) (n + i) 0) (sym (length-replicate {A = ℕ} gap value))
            ∙ get_or-append-add (replicate gap value) own i 0

    looks : sounds_of st cell ≡ sounds heard_in_place
    unfolding sounds_of sounds hear readable
    looks =
        let whole : gap_of st cell * used_now st ≡ gap + used_now st
        = (let one_more : gap_of st cell ≡ suc (gap_of st cell - 1) = omega (arith, passed_here.gap_from) in
        ap (λ (g : ℕ). g * used_now st) one_more ∙ suc-mul (gap_of st cell - 1) (used_now st)) in
        let long : length (samples_now st cell) ≡ gap + used_now st = length_entries _ 0 st cell passed_here.gap_from ∙ whole in
        rw (eq-eqb _ 0 passed_here.early.settings, eq-eqb _ 48 passed_here.early.whole)
        (sym behind_gap
        ∙ ap (some (sound_at (samples_now st cell) (marks_now st cell))) (sym long)
        ∙ ap₂ (λ (samples marks : List ℕ). some (sound_at samples marks) (length samples)) (sym (given_here (samples_now st cell)))
        (sym (given_here (marks_now st cell))))

    pub taken_says : {found : Bool} → found ≡ sounds_of st cell
        → record { state = answer.state; sounds = found } ≡ said_of st cell indication
    taken_says found_is i = record { state = state_is i; sounds = (found_is ∙ looks) i }
