-- Laws of the usual call: its settings, and that every slot of the cell is an entry.
-- Assumes nothing.
use mathlib.Core.Bool.{true, cond}
use mathlib.Core.List.{List, ◌++◌}
use mathlib.Core.Path.{◌≡◌, refl, sym, ◌∙◌, ap, subst}
use Prim.Native.Nat.{ℕ, ◌+◌, ◌*◌, ◌/◌, ◌%◌, ◌^◌, ◌≤◌, ◌<◌}
use native.Mathlib.Omega.{arith}
use lib.Dec.{eqb}
use lib.ListN.{length, get_or, replicate}
use Rattle.runs.specs.Runs.{tab, over}
use Rattle.runs.proofs.Filling.{Filled, begun}
use Rattle.formats.specs.declared.Format.{Format}
use Rattle.formats.specs.Settled.{Settled}
use Rattle.formats.specs.Settings.{settings_of}
use Rattle.formats.specs.Code.{is_usual, usual_with}
use Rattle.formats.specs.Sound.{Sound}
use Rattle.formats.proofs.Laws.{usual_is, usual_set}
use Rattle.cells.specs.Cells.{subframe_at, sample_in, ancillary_in, mark_in, entries_of}
use Rattle.cells.specs.Placement.{slot_of, slot_of_entry}
use Rattle.receiver.specs.declared.Receiver.{Receiver}
use Rattle.receiver.specs.Unpacking.{used_in, own_entries, Unpacks, Fills, Room, Enters, straight, fours}
use Rattle.receiver.proofs.Marking.{sample_over, ancillary_over}
use Rattle.receiver.proofs.Unpacking.{fill_on, fill_done, own_length, own_at, slot_straight}

pub sound_usual : Sound fours
sound_usual =
    record {
      bits = refl;
      cell = refl;
      sample_from = omega arith;
      sample_to = omega arith;
      ancillary_fours = refl;
      ancillary_to = omega arith;
      overhead_fours = refl;
      overhead_to = omega arith;
      width_from = omega arith;
      width_to = omega arith;
      slots_from = omega arith;
      slots_to = omega arith;
    }

-- the three runs while the loop fills them
pub record Entered (cell : List ℕ) (at : ℕ) (samples₀ ancillary₀ marks₀ samples ancillary marks : List ℕ) (i : ℕ) : Type 0 where
  pub samples_so_far : Filled samples samples₀ at (own_entries (sample_in fours) straight cell) i
  pub ancillary_so_far : Filled ancillary ancillary₀ at (own_entries (ancillary_in fours) straight cell) i
  pub marks_so_far : Filled marks marks₀ at (own_entries (mark_in fours) straight cell) i

module _ (cell : List ℕ) (at : ℕ) (samples₀ ancillary₀ marks₀ : List ℕ) (room : Room at 12 samples₀ ancillary₀ marks₀) where
  long : (read : ℕ → ℕ) → length (own_entries read straight cell) ≡ 12
  long read = own_length straight cell read

  pub entered_begun : Entered cell at samples₀ ancillary₀ marks₀ samples₀ ancillary₀ marks₀ 0
  entered_begun =
      record {
        samples_so_far = begun samples₀ at (own_entries (sample_in fours) straight cell);
        ancillary_so_far = begun ancillary₀ at (own_entries (ancillary_in fours) straight cell);
        marks_so_far = begun marks₀ at (own_entries (mark_in fours) straight cell);
      }

  entry_here : (read : ℕ → ℕ) {i : ℕ} → i < 12 → read (subframe_at fours cell i) ≡ get_or (own_entries read straight cell) i 0
  entry_here read {i} less =
      ap (λ (k : ℕ). read (subframe_at fours cell k)) (slot_straight straight cell refl i) ∙ own_at straight cell read less

  module _ {samples ancillary marks : List ℕ} {i : ℕ} (so_far : Entered cell at samples₀ ancillary₀ marks₀ samples ancillary marks i) where
    -- there is room for the next entry
    pub room_here : i < 12 → Room (at + i) 1 samples ancillary marks
    room_here less =
        record {
          samples_room = omega (arith, room.samples_room, so_far.samples_so_far.same, less);
          ancillary_room = omega (arith, room.ancillary_room, so_far.ancillary_so_far.same, less);
          marks_room = omega (arith, room.marks_room, so_far.marks_so_far.same, less);
        }

    pub entered_on : {samples₁ ancillary₁ marks₁ : List ℕ} {word bits : ℕ} → i < 12 → word ≡ subframe_at fours cell i
        → bits / 2 ^ (word % 32) % 2 ≡ mark_in fours word
        → Enters word bits (at + i) samples ancillary marks samples₁ ancillary₁ marks₁
        → Entered cell at samples₀ ancillary₀ marks₀ samples₁ ancillary₁ marks₁ (i + 1)
    entered_on {word = word} less word-is mark_is new =
        record {
          samples_so_far =
              rw new.samples_are
              (fill_on samples₀ at _ (long (sample_in fours)) room.samples_room so_far.samples_so_far less
              (sample_over fours refl word refl ∙ ap (sample_in fours) word-is ∙ entry_here (sample_in fours) less));
          ancillary_so_far =
              rw new.ancillary_is
              (fill_on ancillary₀ at _ (long (ancillary_in fours)) room.ancillary_room so_far.ancillary_so_far less
              (ancillary_over fours refl word refl ∙ ap (ancillary_in fours) word-is ∙ entry_here (ancillary_in fours) less));
          marks_so_far =
              rw new.marks_are
              (fill_on marks₀ at _ (long (mark_in fours)) room.marks_room so_far.marks_so_far less
              (mark_is ∙ ap (mark_in fours) word-is ∙ entry_here (mark_in fours) less));
        }

    pub entered_done : 12 ≤ i → Unpacks straight cell at samples₀ ancillary₀ marks₀ samples ancillary marks
    entered_done all =
        record {
          samples_are = fill_done samples₀ at _ (long (sample_in fours)) room.samples_room so_far.samples_so_far all;
          ancillary_is = fill_done ancillary₀ at _ (long (ancillary_in fours)) room.ancillary_room so_far.ancillary_so_far all;
          marks_are = fill_done marks₀ at _ (long (mark_in fours)) room.marks_room so_far.marks_so_far all;
        }

-- the same entries with one channel and with two
own_one : (read : ℕ → ℕ) (cell : List ℕ) → own_entries read straight cell ≡ own_entries read (usual_with 1 12) cell
unfolding entries_of tab slot_of_entry slot_of
own_one read cell = refl

own_two : (read : ℕ → ℕ) (cell : List ℕ) → own_entries read straight cell ≡ own_entries read (usual_with 2 6) cell
unfolding entries_of tab slot_of_entry slot_of
own_two read cell = refl

fills_as : (set : Settled) (cell : List ℕ) {at : ℕ} {samples ancillary marks samples₁ ancillary₁ marks₁ : List ℕ}
    → ((read : Format → ℕ → ℕ) → own_entries (read fours) straight cell ≡ own_entries (read set.format) set cell)
    → Fills straight cell at samples ancillary marks samples₁ ancillary₁ marks₁
    → Fills set cell at samples ancillary marks samples₁ ancillary₁ marks₁
fills_as set cell {at} {samples} {ancillary} {marks} same wrote =
    record {
      samples_are = wrote.samples_are ∙ ap (λ (l : List ℕ). over (replicate at 0 ++ l) samples) (same sample_in);
      ancillary_is = wrote.ancillary_is ∙ ap (λ (l : List ℕ). over (replicate at 0 ++ l) ancillary) (same ancillary_in);
      marks_are = wrote.marks_are ∙ ap (λ (l : List ℕ). over (replicate at 2 ++ l) marks) (same mark_in);
    }

-- what the settings of a usual call give
module _ (st : Receiver) {set : Settled} (settled : set ≡ settings_of 0x56 (cond (eqb st.channels 2) 2 1) 0) where
  pub usual_settles : is_usual st.format st.channels st.order ≡ true
      → set ≡ settings_of st.format st.channels st.order
  usual_settles usual = usual_set st.channels settled st.format st.order usual

  pub usual_sound : Sound set.format
  usual_sound = usual_is st.channels settled (λ (x : Settled). Sound x.format) sound_usual sound_usual

  pub usual_used : used_in set ≡ 12
  usual_used = usual_is st.channels settled (λ (x : Settled). used_in x ≡ 12) refl refl

  -- the entries of all slots are those of one channel and of two
  pub usual_own : (cell : List ℕ) (read : Format → ℕ → ℕ) → own_entries (read fours) straight cell ≡ own_entries (read set.format) set cell
  usual_own cell read =
      usual_is st.channels settled (λ (x : Settled). own_entries (read fours) straight cell ≡ own_entries (read x.format) x cell)
      (own_one (read fours) cell) (own_two (read fours) cell)

  pub usual_room : (times : ℕ) {samples ancillary marks : List ℕ} → Room (times * used_in set) (used_in set) samples ancillary marks
      → Room (times * 12) 12 samples ancillary marks
  usual_room times {samples} {ancillary} {marks} room =
      subst (λ (k : ℕ). Room (times * k) k samples ancillary marks) usual_used room

  pub usual_fills : (cell : List ℕ) (times : ℕ) {samples ancillary marks samples₁ ancillary₁ marks₁ : List ℕ}
      → Fills straight cell (times * 12) samples ancillary marks samples₁ ancillary₁ marks₁
      → Fills set cell (times * used_in set) samples ancillary marks samples₁ ancillary₁ marks₁
  usual_fills cell times {samples} {ancillary} {marks} {samples₁} {ancillary₁} {marks₁} wrote =
      subst (λ (k : ℕ). Fills set cell (times * k) samples ancillary marks samples₁ ancillary₁ marks₁) (sym usual_used)
      (usual_is st.channels settled (λ (x : Settled). Fills x cell (times * 12) samples ancillary marks samples₁ ancillary₁ marks₁)
      (fills_as (usual_with 1 12) cell (λ read. own_one (read fours) cell) wrote)
      (fills_as (usual_with 2 6) cell (λ read. own_two (read fours) cell) wrote))
