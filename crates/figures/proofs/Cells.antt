-- Laws of what one record counts: a cell's own marks are 0 or 1, and a gap's are all 2.
-- Assumes nothing.
use mathlib.Core.Bool.{Bool, true, false, cond}
use mathlib.Core.List.{List, [], ◌++◌}
use mathlib.Core.Path.{◌≡◌, refl, sym, ◌∙◌, ap, ap₂}
use Prim.Native.Nat.{ℕ, ◌+◌, ◌*◌, ◌-◌, ◌≤◌}
use native.Mathlib.Nat.{mul-le-mul_right}
use native.Mathlib.Omega.{arith}
use borrow.Author.Tests.{ne_eqb, eqb-true, eqb-false}
use lib.Dec.{eqb}
use lib.ListN.{replicate}
use Rattle.runs.proofs.Laws.{split}
use Rattle.formats.specs.Settled.{Settled}
use Rattle.formats.specs.Formats.{format_of}
use Rattle.formats.specs.Settings.{settled, settings_of}
use Rattle.formats.specs.Sound.{Limits}
use Rattle.formats.proofs.Laws.{settled_of_lem, settled_limits}
use Rattle.cells.specs.Cells.{mark_in, entries_of}
use Rattle.cells.proofs.Marks.{mark_lt}
use Rattle.receiver.specs.declared.Receiver.{Receiver}
use Rattle.receiver.specs.Receiver.{gap_of, receive_refusal, judged_of, entries_given, entries_now, marks_now, times_now, used_now}
use Rattle.receiver.specs.Unpacking.{used_in, own_entries}
use Rattle.receiver.proofs.Laws.{Passes, passes, gap_to, answer_refusal, answer_missing}
use Rattle.reading.specs.Heard.{Heard, given, hear, is_sound}
use Rattle.reading.specs.Records.{Whole}
use Rattle.reading.specs.Totals.{total_of}
use Rattle.reading.proofs.Heard.{refused_gives, refused_missing, missing_few}
use Rattle.reading.proofs.Totals.{total_joined}
use Rattle.figures.specs.declared.told.Told.{Told}
use Rattle.figures.specs.Code.{marked, one_of, Under}
use Rattle.figures.specs.Stretch.{told_of, marks_in, taken_one, refused_one}
use Rattle.figures.proofs.Laws.{same_counts}
use Rattle.figures.proofs.Marks.{marked_gap, own_both, own_two}
use Rattle.figures.proofs.Slots.{own_ones}

one_few : (b : Bool) → cond b 1 0 ≤ 720
one_few true = omega arith
one_few false = omega arith

-- a cell that was judged
module _ (st : Receiver) (cell : List ℕ) (indication : Bool) {told : Told} (is : told ≡ told_of (judged_of st cell indication)) where
  abbrev arrived : Whole
  arrived = record { indication = indication; cell = cell }

  abbrev h : Heard
  h = hear st arrived

  told_is : told ≡ told_of h.answer
  unfolding hear
  told_is = is

  pub told_state : told.state ≡ h.answer.state
  told_state = ap (λ (t : Told). t.state) told_is

  -- it is refused
  module _ (some : told.refusal ≡ 0 → ⊥) where
    none : is_sound h ≡ false
    none = ne_eqb h.answer.refusal 0 (λ e. some (ap (λ (t : Told). t.refusal) told_is ∙ e))

    marks_none : h.marks ≡ []
    unfolding hear
    marks_none = refused_gives st arrived none (marks_now st cell)

    pub no_marks : (mark : ℕ) → 0 ≡ marked mark h.marks
    unfolding total_of
    no_marks mark = sym (ap (marked mark) marks_none)

    by_refusal : (k : ℕ) → ◌≡◌ {A = ℕ} (cond (eqb told.refusal k) 1 0) (cond (eqb h.answer.refusal k) 1 0)
    by_refusal k = ap (λ (t : Told). cond (eqb t.refusal k) 1 0) told_is

    pub refused_one_lem : refused_one told.refusal ≡ one_of h
    refused_one_lem =
        same_counts {b = one_of h} (sym (ap (λ (b : Bool). cond b 1 0) none)) (sym (refused_missing st arrived none))
        (by_refusal 8) (by_refusal 9) (by_refusal 15) (by_refusal 20) (no_marks 0) (no_marks 1) (no_marks 2)

    pub refused_few : Under 720 (one_of h)
    refused_few =
        record {
          sound = one_few (is_sound h);
          missing = omega (arith, missing_few st arrived);
          refused8 = one_few (eqb h.answer.refusal 8);
          refused9 = one_few (eqb h.answer.refusal 9);
          refused15 = one_few (eqb h.answer.refusal 15);
          refused20 = one_few (eqb h.answer.refusal 20);
          marked0 = omega (arith, no_marks 0);
          marked1 = omega (arith, no_marks 1);
          marked2 = omega (arith, no_marks 2);
        }

  -- it is taken
  module _ (taken : told.refusal ≡ 0) where
    refusal_0 : h.answer.refusal ≡ 0
    refusal_0 = sym (ap (λ (t : Told). t.refusal) told_is) ∙ taken

    no_refusal : receive_refusal st cell indication 720 720 720 ≡ 0
    unfolding judged_of
    no_refusal =
        sym (answer_refusal st cell indication 720 720 720) ∙ sym (ap (λ (t : Told). t.refusal) is) ∙ taken

    pub passed : Passes st cell 720 720 720
    passed = passes st cell indication 720 720 720 no_refusal

    missing_is : told.missing ≡ gap_of st cell - 1
    unfolding judged_of
    missing_is = ap (λ (t : Told). t.missing) is ∙ answer_missing st cell indication 720 720 720 no_refusal

    abbrev own_marks : List ℕ
    own_marks = entries_of (mark_in (format_of st.format)) (format_of st.format) (eqb st.order 1) st.channels (times_now st) cell

    marks_are : h.marks ≡ replicate ((gap_of st cell - 1) * used_now st) 2 ++ own_marks
    unfolding hear given entries_given entries_now
    marks_are = rw no_refusal

    -- of the gap and of its own
    marked_in_lem : (mark : ℕ) → marked mark h.marks
        ≡ (gap_of st cell - 1) * used_now st * cond (eqb 2 mark) 1 0 + marked mark own_marks
    marked_in_lem mark =
        ap (marked mark) marks_are
        ∙ total_joined (λ m. cond (eqb m mark) 1 0) (replicate ((gap_of st cell - 1) * used_now st) 2) own_marks
        ∙ ap (λ (n : ℕ). n + marked mark own_marks) (marked_gap mark 2 ((gap_of st cell - 1) * used_now st))

    own_low : (subframe : ℕ) → mark_in (format_of st.format) subframe ≤ 1
    own_low subframe = omega (arith, mark_lt (format_of st.format) subframe)

    both : marked 0 own_marks + marked 1 own_marks ≡ used_now st
    unfolding entries_of
    both = own_both _ (λ i. own_low _) (used_now st)

    two : marked 2 own_marks ≡ 0
    unfolding entries_of
    two = own_two _ (λ i. own_low _) (used_now st)

    -- C×T samples are its own, and as many are marked 2 for each missing cell
    pub taken_own : marked 0 h.marks + marked 1 h.marks ≡ used_now st
    taken_own = omega (arith, marked_in_lem 0, marked_in_lem 1, both)

    pub taken_gap : marked 2 h.marks ≡ used_now st * told.missing
    taken_gap = omega (arith, marked_in_lem 2, two, ap (λ (n : ℕ). n * used_now st) missing_is)

    used_to : used_now st ≤ 48
    used_to = (settled_limits st.format st.channels st.order refl passed.early.settings).used_to

    pub taken_few : Under 720 (one_of h)
    taken_few =
        let gap : (gap_of st cell - 1) * used_now st ≤ 14 * used_now st = mul-le-mul_right (used_now st) (omega (arith, gap_to st cell)) in
        record {
          sound = one_few (is_sound h);
          missing = omega (arith, missing_few st arrived);
          refused8 = one_few (eqb h.answer.refusal 8);
          refused9 = one_few (eqb h.answer.refusal 9);
          refused15 = one_few (eqb h.answer.refusal 15);
          refused20 = one_few (eqb h.answer.refusal 20);
          marked0 = omega (arith, marked_in_lem 0, both, used_to);
          marked1 = omega (arith, marked_in_lem 1, both, used_to);
          marked2 = omega (arith, marked_in_lem 2, two, gap, used_to);
        }

    -- with what the state settles, and its marks slot by slot
    module _ {set : Settled} (settles : set ≡ settings_of st.format st.channels st.order) where
      set_is : set ≡ settled st.format st.channels st.order
      set_is = settles ∙ settled_of_lem st.format st.channels st.order passed.early.settings

      pub taken_limits : Limits set
      taken_limits = settled_limits st.format st.channels st.order set_is passed.early.settings

      used_is : used_in set ≡ used_now st
      used_is = ap used_in set_is

      module _ {ones : ℕ} (counted : ones ≡ marks_in set.format cell (used_in set)) where
        ones_are : ones ≡ marked 1 own_marks
        ones_are =
            counted
            ∙ sym (own_ones set cell taken_limits)
            ∙ ap (λ (s : Settled). marked 1 (own_entries (mark_in s.format) s cell)) set_is

        pub taken_one_lem : taken_one (used_in set) told.missing ones ≡ one_of h
        taken_one_lem =
            let zeros : used_in set - ones ≡ marked 0 h.marks = omega (arith, used_is, ones_are, both, marked_in_lem 0) in
            let same : ones ≡ marked 1 h.marks = omega (arith, ones_are, marked_in_lem 1) in
            let gap : told.missing * used_in set ≡ (gap_of st cell - 1) * used_now st =
            ap₂ (λ (m u : ℕ). m * u) missing_is used_is in
            let twos : told.missing * used_in set ≡ marked 2 h.marks = omega (arith, gap, two, marked_in_lem 2) in
            same_counts {b = one_of h} (sym (ap (λ (n : ℕ). cond (eqb n 0) 1 0) refusal_0))
            (ap (λ (t : Told). t.missing) told_is)
            (sym (ap (λ (n : ℕ). cond (eqb n 8) 1 0) refusal_0)) (sym (ap (λ (n : ℕ). cond (eqb n 9) 1 0) refusal_0))
            (sym (ap (λ (n : ℕ). cond (eqb n 15) 1 0) refusal_0)) (sym (ap (λ (n : ℕ). cond (eqb n 20) 1 0) refusal_0))
            zeros same twos

-- no record counts more
pub one_under : (st : Receiver) (w : Whole) → Under 720 (one_of (hear st w))
one_under st w =
    let told : Told = told_of (judged_of st w.cell w.indication) in
    split (eqb told.refusal 0)
    (λ e. taken_few st w.cell w.indication {told = told} refl (eqb-true told.refusal 0 e))
    (λ e. refused_few st w.cell w.indication {told = told} refl (eqb-false told.refusal 0 e))
