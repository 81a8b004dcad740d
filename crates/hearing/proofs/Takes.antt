-- Laws of a record that is received: how many entries it has, where they are put, and what the state is then.
-- Assumes nothing.
use mathlib.Core.Bool.{Bool, true, ◌&&◌}
use mathlib.Core.List.{List, [], ◌∷◌, ◌++◌, append_assoc, append-nil, flat_map}
use mathlib.Core.Path.{◌≡◌, refl, sym, ◌∙◌, ap, ap₂, subst}
use Prim.Native.Nat.{ℕ, ◌+◌, ◌*◌, ◌/◌, ◌-◌, ◌≤◌, ◌<◌}
use native.Mathlib.Nat.{suc-mul, div-lt_iff_lt-mul}
use native.Mathlib.Omega.{arith}
use borrow.Author.Tests.{eq-eqb, le-leb, eqb-true, leb-false}
use borrow.Rule.Slice.PartMut.{mid_of, post_of, put_mid}
use lib.Dec.{eqb, leb}
use lib.ListN.{length, take, drop, replicate, length-append, length-drop, length-replicate, drop_of_length-le, take-append-drop}
use lib.Seq.{take_all, drop-drop}
use Rattle.runs.specs.Runs.{joined, over, written}
use Rattle.runs.proofs.Laws.{split, length_tab, past_both}
use Rattle.cell_log.specs.Records.{record_at, cell_at}
use Rattle.cell_log.proofs.Places.{record_cases, cell_facts}
use Rattle.formats.specs.declared.Format.{Format}
use Rattle.formats.specs.Settled.{Settled}
use Rattle.formats.specs.Formats.{format_of, settings_refusal}
use Rattle.formats.specs.Settings.{settled}
use Rattle.formats.proofs.Laws.{settled_of_lem}
use Rattle.cells.specs.Cells.{sample_in, ancillary_in, mark_in, entries_of}
use Rattle.receiver.specs.declared.Receiver.{Receiver}
use Rattle.receiver.specs.Receiver.{
  state_refusal,
  times_now,
  used_now,
  gap_of,
  receive_refusal,
  entries_now,
  received_of,
  judged_of,
  entries_given,
  after,
}
use Rattle.receiver.specs.Unpacking.{used_in, own_entries}
use Rattle.receiver.specs.Many.{cell_from, fits_in, settings_now, many_given, UnpacksMany}
use Rattle.receiver.proofs.Laws.{answer_missing, answer_refusal}
use Rattle.receiver.proofs.Onward.{after_passes, used_between}
use Rattle.reading.specs.Heard.{Heard, given, hear, onward}
use Rattle.reading.specs.Records.{Whole}
use Rattle.hearing.specs.Steps.{needed_of, heard_at, Puts}

module _ (st : Receiver) (r : Whole) where
  abbrev rr : ℕ
  rr = receive_refusal st r.cell r.indication 720 720 720

  own_long : (read : ℕ → ℕ)
      → length (entries_of read (format_of st.format) (eqb st.order 1) st.channels (times_now st) r.cell) ≡ used_now st
  unfolding entries_of
  own_long read = length_tab _ (used_now st)

  -- a record's entries, of each run
  pub given_long : (read : ℕ → ℕ) (blank : ℕ) → length (given st r (entries_now read blank st r.cell)) ≡ needed_of (hear st r).answer (used_now st)
  unfolding hear judged_of received_of given entries_given entries_now
  given_long read blank =
      split (eqb rr 0)
      (λ e.
      let lost : ℕ = gap_of st r.cell - 1 in
      rw e
      (length-append (replicate (lost * used_now st) blank) _
      ∙ omega (arith, length-replicate (lost * used_now st) blank, own_long read, suc-mul lost (used_now st))))
      (λ e. rw (e, e) refl)

  -- the state behind it
  pub sound_onward : state_refusal st ≡ 0 → state_refusal (onward (hear st r)) ≡ 0
  unfolding hear judged_of received_of
  sound_onward none = split (eqb rr 0) (λ e. rw e (after_passes st r.cell none)) (λ e. rw e none)

  pub used_onward : used_now (onward (hear st r)) ≡ used_now st
  unfolding hear judged_of received_of after
  used_onward = split (eqb rr 0) (λ e. rw e refl) (λ e. rw e refl)

  pub samples_long : length (hear st r).samples ≡ needed_of (hear st r).answer (used_now st)
  unfolding hear
  samples_long = given_long _ 0

  pub ancillary_long : length (hear st r).ancillary ≡ needed_of (hear st r).answer (used_now st)
  unfolding hear
  ancillary_long = given_long _ 0

  pub marks_long : length (hear st r).marks ≡ needed_of (hear st r).answer (used_now st)
  unfolding hear
  marks_long = given_long _ 2

  refusal_is : (hear st r).answer.refusal ≡ rr
  unfolding hear judged_of
  refusal_is = answer_refusal st r.cell r.indication 720 720 720

  refused_none : ((hear st r).answer.refusal ≡ 0 → ⊥) → (entries : List ℕ) → given st r entries ≡ []
  unfolding given entries_given
  refused_none some entries = split (eqb rr 0) (λ e. absurd (some (refusal_is ∙ eqb-true rr 0 e))) (λ e. rw e refl)

  -- the entries of missing cells and its own
  module _ (took : (hear st r).answer.refusal ≡ 0) where
    missing_is : (hear st r).answer.missing ≡ gap_of st r.cell - 1
    unfolding hear judged_of
    missing_is = answer_missing st r.cell r.indication 720 720 720 (sym refusal_is ∙ took)

    pub entries_are : {set : Settled} → set ≡ settled st.format st.channels st.order → (read : Format → ℕ → ℕ) (blank : ℕ)
        → replicate ((hear st r).answer.missing * used_in set) blank ++ own_entries (read set.format) set r.cell
        ≡ given st r (entries_now (read (format_of st.format)) blank st r.cell)
    unfolding given entries_given entries_now
    entries_are is read blank =
        ap₂ (λ (n : ℕ) (x : Settled). replicate (n * used_in x) blank ++ own_entries (read x.format) x r.cell) missing_is is
        ∙ rw (sym refusal_is ∙ took)

-- a part of a run from a place to its end, in which entries were written from its start
pub part_over : (run new : List ℕ) (at : ℕ) → at ≤ length run → {part : List ℕ} → part ≡ over new (mid_of at (length run - at) run)
    → put_mid at (length run - at) run part ≡ written run at new
unfolding over
part_over run new at within {part} e =
    let long : length (drop at run) ≡ length run - at = length-drop at run in
    let whole : mid_of at (length run - at) run ≡ drop at run = take_all (length run - at) (drop at run) (omega (arith, long)) in
    let none : post_of at (length run - at) run ≡ [] =
    drop_of_length-le (drop at run) {i = length run - at} (omega (arith, long)) in
    ap (λ (x : List ℕ). take at run ++ (part ++ x)) none
    ∙ ap (λ (x : List ℕ). take at run ++ x) (append-nil part)
    ∙ ap (λ (x : List ℕ). take at run ++ x) (e ∙ ap (λ (x : List ℕ). new ++ drop (length new) x) whole)
    ∙ ap (λ (x : List ℕ). take at run ++ (new ++ x)) (drop-drop (length new) at run)
    ∙ sym (append_assoc (take at run) new (drop (at + length new) run))

pub part_long : (run : List ℕ) (at : ℕ) → length (mid_of at (length run - at) run) ≡ length run - at
part_long run at =
    let long : length (drop at run) ≡ length run - at = length-drop at run in
    ap length (take_all (length run - at) (drop at run) (omega (arith, long))) ∙ long

-- nothing written
pub written_none : (run : List ℕ) (at : ℕ) → run ≡ written run at []
written_none run at =
    let here : at ≡ at + 0 = omega arith in
    sym (take-append-drop at run) ∙ ap₂ (λ (a b : List ℕ). a ++ b) (sym (append-nil (take at run))) (ap (λ (n : ℕ). drop n run) here)

-- the record at a place of a log
module _ (st : Receiver) (log : List ℕ) (place : ℕ) (none : state_refusal st ≡ 0) (there : (record_at log place).what ≡ 1) where
  abbrev whole : Whole
  whole = record { indication = (record_at log place).indication; cell = cell_at log place }

  abbrev h : Heard
  h = heard_at st log place

  cell_is : cell_from log place 0 ≡ cell_at log place
  unfolding cell_at
  cell_is =
      let here : place + 49 * 0 + 1 ≡ place + 1 = omega arith in
      ap (λ (n : ℕ). take 48 (drop n log)) here
      ∙ record_cases log place (λ r. r.what ≡ 1 → take 48 (drop (place + 1) log) ≡ take (r.what * 48) (drop r.start log))
      (λ h z. absurd (omega (arith, z))) (λ h l z. absurd (omega (arith, z))) (λ h l k z. absurd (omega (arith, z))) (λ l k z. refl) there

  settings_none : settings_refusal st.format st.channels st.order ≡ 0
  unfolding state_refusal
  settings_none = (past_both (settings_refusal st.format st.channels st.order) _ none).0

  settings_are : settings_now st ≡ settled st.format st.channels st.order
  settings_are = settled_of_lem st.format st.channels st.order settings_none

  fits_so : (missing samples ancillary marks : ℕ) → (missing + 1) * used_now st ≤ samples → ancillary ≡ samples → marks ≡ samples
      → eqb (settings_now st).refusal 0 && fits_in (used_in (settings_now st)) (length log) place 1 missing samples ancillary marks ≡ true
  unfolding fits_in
  fits_so missing samples ancillary marks enough a m =
      let facts = cell_facts log place there in
      let far : 1 ≤ (length log - place) / 49 = omega (arith, facts.0) in
      let within : place ≤ length log = omega (arith, facts.0) in
      let room : leb (1 + missing) (samples / used_now st) ≡ true =
      split (leb (1 + missing) (samples / used_now st)) (λ e. e)
      (λ e.
      let few : samples / used_now st < 1 + missing = leb-false _ _ e in
      let short : samples < (1 + missing) * used_now st =
      (div-lt_iff_lt-mul {k = used_now st} {x = samples} {y = 1 + missing} (omega (arith, (used_between st none).0))).0 few in
      absurd (omega (arith, short, enough))) in
      ap (λ (s : Settled). eqb s.refusal 0 && fits_in (used_in s) (length log) place 1 missing samples ancillary marks) settings_are
      ∙ rw (le-leb _ _ within, le-leb _ _ far, eq-eqb _ _ a, eq-eqb _ _ m, room)

  module _ (at : ℕ) (samples ancillary marks : List ℕ) (within : at + needed_of h.answer (used_now st) ≤ length samples)
      (la : length ancillary ≡ length samples) (lm : length marks ≡ length samples)
    where
      at_to : at ≤ length samples
      at_to = omega (arith, within)

      pub puts_refused : (h.answer.refusal ≡ 0 → ⊥) → Puts (h ∷ []) at samples ancillary marks samples ancillary marks
      unfolding hear flat_map
      puts_refused some =
          record {
            samples_are = written_none samples at ∙ ap (λ (l : List ℕ). written samples at (l ++ [])) (sym (refused_none st whole some _));
            ancillary_is = written_none ancillary at ∙ ap (λ (l : List ℕ). written ancillary at (l ++ [])) (sym (refused_none st whole some _));
            marks_are = written_none marks at ∙ ap (λ (l : List ℕ). written marks at (l ++ [])) (sym (refused_none st whole some _));
          }

      module _ (took : h.answer.refusal ≡ 0) where
        abbrev tail : List ℕ → List ℕ
        tail run = mid_of at (length run - at) run

        enough : (h.answer.missing + 1) * used_now st ≤ length (tail samples)
        enough =
            let all : needed_of h.answer (used_now st) ≡ (h.answer.missing + 1) * used_now st = rw (eq-eqb h.answer.refusal 0 took) in
            omega (arith, part_long samples at, all, within)

        module _ {missing : ℕ} (missing-so : missing ≡ h.answer.missing) {fits : Bool} {s₁ a₁ m₁ : List ℕ}
            (left : UnpacksMany st log place 1 missing (tail samples) (tail ancillary) (tail marks) fits s₁ a₁ m₁)
          where
            u : UnpacksMany st log place 1 h.answer.missing (tail samples) (tail ancillary) (tail marks) fits s₁ a₁ m₁
            u =
                subst (λ (n : ℕ). UnpacksMany st log place 1 n (tail samples) (tail ancillary) (tail marks) fits s₁ a₁ m₁) missing-so left

            yes_fits : fits ≡ true
            yes_fits =
                u.answered
                ∙ fits_so h.answer.missing _ _ _ enough (part_long ancillary at ∙ ap (λ (n : ℕ). n - at) la ∙ sym (part_long samples at))
                (part_long marks at ∙ ap (λ (n : ℕ). n - at) lm ∙ sym (part_long samples at))

            one_column : (read : Format → ℕ → ℕ) (blank : ℕ)
                → many_given fits blank (read (settings_now st).format) h.answer.missing (settings_now st) log place 1
                ≡ given st whole (entries_now (read (format_of st.format)) blank st (cell_at log place)) ++ []
            unfolding joined
            one_column read blank =
                ap (λ (b : Bool). many_given b blank (read (settings_now st).format) h.answer.missing (settings_now st) log place 1) yes_fits
                ∙ ap
                (λ (c : List ℕ).
                replicate (h.answer.missing * used_in (settings_now st)) blank ++ own_entries (read (settings_now st).format) (settings_now st) c)
                cell_is
                ∙ entries_are st whole took settings_are read blank
                ∙ sym (append-nil _)

            pub puts_taken : Puts (h ∷ []) at samples ancillary marks (put_mid at (length samples - at) samples s₁)
                (put_mid at (length ancillary - at) ancillary a₁) (put_mid at (length marks - at) marks m₁)
            unfolding hear flat_map
            puts_taken =
                record {
                  samples_are =
                      part_over samples _ at at_to u.samples_after ∙ ap (written samples at) (one_column sample_in 0);
                  ancillary_is =
                      part_over ancillary _ at (omega (arith, at_to, la)) u.ancillary_after ∙ ap (written ancillary at) (one_column ancillary_in 0);
                  marks_are = part_over marks _ at (omega (arith, at_to, lm)) u.marks_after ∙ ap (written marks at) (one_column mark_in 2);
                }
