-- Laws of unpacking: runs that are filled with entries, taken apart in place, and filled with a cell's own.
-- Assumes nothing.
use mathlib.Core.Bool.{Bool, true, false}
use mathlib.Core.List.{List, ◌++◌, append_assoc}
use mathlib.Core.Logic.{◌⊎◌, inl, inr, ⊎_elim}
use mathlib.Core.Path.{◌≡◌, refl, sym, ◌∙◌, ap, ap₂}
use Prim.Native.Nat.{ℕ, ◌+◌, ◌*◌, ◌/◌, ◌%◌, ◌≤◌, ◌<◌}
use native.Mathlib.Nat.{div-add-mod', zero-add, add-zero, mod-one, one-mul, mul-le-mul, mul-le-mul_right}
use native.Mathlib.Omega.{arith}
use borrow.Author.Tests.{eq-eqb}
use lib.Dec.{eqb}
use lib.ListN as L
use lib.ListN.{
  length,
  get_or,
  take,
  drop,
  replicate,
  length-drop,
  length-append,
  length-replicate,
  get_or-replicate,
  replicate-append-replicate,
  get_or-append,
  take-append-drop,
}
use lib.Seq.{take_at, drop_at, drop-append-add, drop-drop, take-append-le, take-add, length-take-le, get_or-drop, get_or-take, get_or-append-add, drop-paste}
use Rattle.runs.specs.Runs.{over, written}
use Rattle.runs.proofs.Filling.{Filled, turned, done}
use Rattle.runs.proofs.Laws.{length_tab, get_or_tab, tab_is, split}
use Rattle.formats.specs.declared.Format.{Format}
use Rattle.formats.specs.Settled.{Settled}
use Rattle.formats.specs.Sound.{Limits}
use Rattle.cells.specs.Cells.{subframe_at, sample_in, ancillary_in, mark_in, entries_of}
use Rattle.cells.specs.Code.{step_on}
use Rattle.cells.specs.Placement.{slot_of, slot_of_entry}
use Rattle.cells.proofs.Placement.{slot_lt, slot_next}
use Rattle.receiver.specs.Unpacking.{used_in, own_entries, Unpacks, Fills, Room, Misses, blank_end, Blank, held, Splits}

-- a run that a loop fills with as many entries as it counts
module _ (d₀ : List ℕ) (at : ℕ) (vs : List ℕ) {used : ℕ} (long : length vs ≡ used) (room : at + used ≤ length d₀) where
  pub fill_on : {d : List ℕ} {i v : ℕ} → Filled d d₀ at vs i → i < used → v ≡ get_or vs i 0 → Filled (L.set d (at + i) v) d₀ at vs (i + 1)
  fill_on so_far less e = turned d₀ at vs so_far (omega arith) (omega arith) e

  pub fill_done : {d : List ℕ} {i : ℕ} → Filled d d₀ at vs i → used ≤ i → d ≡ written d₀ at vs
  fill_done so_far all = done d₀ at vs so_far (omega arith)

  -- what stands ahead of the loop is as it was
  pub fill_ahead : {d : List ℕ} {i : ℕ} → Filled d d₀ at vs i → get_or d (at + i) 0 ≡ get_or d₀ (at + i) 0
  fill_ahead {d} {i} so_far =
      let same : get_or d (at + i + 0) 0 ≡ get_or d₀ (at + i + 0) 0
      = sym (get_or-drop (at + i) d 0 0)
      ∙ ap (λ (l : List ℕ). get_or l 0 0) (ap (drop (at + i)) so_far.is ∙ drop-paste d₀ at vs i (omega arith) so_far.within)
      ∙ get_or-drop (at + i) d₀ 0 0 in
      rw (add-zero (at + i)) at same

-- entries read off those that a run holds
module _ (read : ℕ → ℕ) (run : List ℕ) (at used : ℕ) where
  pub held_length : length (held read run at used) ≡ used
  unfolding held
  held_length = length_tab _ used

  pub held_at : {i : ℕ} → i < used → read (get_or run (at + i) 0) ≡ get_or (held read run at used) i 0
  unfolding held
  held_at less = sym (get_or_tab _ used less)

  pub held_is : {vs : List ℕ} → length vs ≡ used → ((i : ℕ) → i < used → read (get_or run (at + i) 0) ≡ get_or vs i 0)
      → held read run at used ≡ vs
  unfolding held
  held_is {vs} len each = tab_is _ used vs len each

  pub held_same : {other : ℕ → ℕ} → ((x : ℕ) → read x ≡ other x) → held read run at used ≡ held other run at used
  unfolding held
  held_same {other} each = held_is (length_tab _ used) (λ i h. each (get_or run (at + i) 0) ∙ sym (get_or_tab _ used h))

  pub held_all : {v : ℕ} → ((x : ℕ) → read x ≡ v) → held read run at used ≡ replicate used v
  held_all {v} each =
      held_is (length-replicate used v) (λ i h. each (get_or run (at + i) 0) ∙ sym (get_or-replicate used i v 0 h))

-- a run that is filled with them
module _ (read : ℕ → ℕ) (run d₀ : List ℕ) (at used : ℕ) (room : at + used ≤ length d₀) where
  pub held_on : {d : List ℕ} {i v : ℕ} → Filled d d₀ at (held read run at used) i → i < used → v ≡ read (get_or run (at + i) 0)
      → Filled (L.set d (at + i) v) d₀ at (held read run at used) (i + 1)
  held_on so_far less e =
      fill_on d₀ at _ (held_length read run at used) room so_far less (e ∙ held_at read run at used less)

  pub held_done : {d : List ℕ} {i : ℕ} → Filled d d₀ at (held read run at used) i → used ≤ i → d ≡ written d₀ at (held read run at used)
  held_done so_far all = fill_done d₀ at _ (held_length read run at used) room so_far all

  pub held_ahead : {d : List ℕ} {i : ℕ} → Filled d d₀ at (held read run at used) i → get_or d (at + i) 0 ≡ get_or d₀ (at + i) 0
  held_ahead so_far = fill_ahead d₀ at _ (held_length read run at used) room so_far

-- entries written stand in the run, and others written over them take their place
module _ (run : List ℕ) (at : ℕ) (ws : List ℕ) (room : at + length ws ≤ length run) where
  head : length (take at run) ≡ at
  head = length-take-le at run (omega arith)

  front : length (take at run ++ ws) ≡ at + length ws
  front = length-append (take at run) ws ∙ omega (arith, head)

  pub written_at : {i : ℕ} → i < length ws → get_or (written run at ws) (at + i) 0 ≡ get_or ws i 0
  written_at {i} less =
      get_or-append (take at run ++ ws) (drop (at + length ws) run) 0 (at + i) (omega (arith, front))
      ∙ ap (λ (n : ℕ). get_or (take at run ++ ws) (n + i) 0) (sym head)
      ∙ get_or-append-add (take at run) ws i 0

  pub written_over : (vs : List ℕ) → length vs ≡ length ws → written (written run at ws) at vs ≡ written run at vs
  written_over vs same =
      ap₂ (λ (a b : List ℕ). a ++ vs ++ b)
      (take-append-le at (take at run ++ ws) (drop (at + length ws) run) (omega (arith, front)) ∙ take_at (take at run) ws at head)
      (ap (λ (n : ℕ). drop (at + n) (written run at ws)) same
      ∙ drop_at (take at run ++ ws) (drop (at + length ws) run) (at + length ws) front
      ∙ ap (λ (n : ℕ). drop (at + n) run) (sym same))

-- what a run holds, written again, leaves it
pub written_again : (read : ℕ → ℕ) (run : List ℕ) (at used : ℕ) → ((x : ℕ) → read x ≡ x) → at + used ≤ length run
    → run ≡ written run at (held read run at used)
written_again read run at used each room =
    let len : length (take used (drop at run)) ≡ used = length-take-le used (drop at run) (omega (arith, length-drop at run)) in
    let part : held read run at used ≡ take used (drop at run)
    = held_is read run at used len
    (λ i h. each (get_or run (at + i) 0) ∙ sym (get_or-drop at run i 0) ∙ sym (get_or-take used (drop at run) i 0 h)) in
    sym (take-append-drop (at + used) run)
    ∙ ap₂ (λ (a b : List ℕ). a ++ b)
    (take-add at used run ∙ ap (λ (l : List ℕ). take at run ++ l) (sym part))
    (ap (λ (n : ℕ). drop (at + n) run) (sym (held_length read run at used)))

-- formats without ancillary bits: the ancillary run is zero already
module _ (f : Format) (bare : f.ancillary_bits ≡ 0) (at used : ℕ) (samples ancillary : List ℕ) (room : at + used ≤ length ancillary)
    (blank : Blank f at used ancillary)
  where
    ancillary_bare : (x : ℕ) → ancillary_in f x ≡ 0
    unfolding ancillary_in
    ancillary_bare x = rw bare (mod-one _)

    pub blank_is : ancillary ≡ written ancillary at (held (ancillary_in f) samples at used)
    blank_is =
        written_again (λ x. x) ancillary at used (λ x. refl) room
        ∙ ap (written ancillary at)
        (held_is (λ x. x) ancillary at used (held_length (ancillary_in f) samples at used)
        (λ i h.
        blank bare i h ∙ sym (ancillary_bare (get_or samples (at + i) 0)) ∙ held_at (ancillary_in f) samples at used h))

    pub splits_alone : {marks samples₁ marks₁ : List ℕ} → samples₁ ≡ written samples at (held (sample_in f) samples at used)
        → marks₁ ≡ written marks at (held (mark_in f) samples at used) → Splits f at used samples ancillary marks samples₁ ancillary marks₁
    splits_alone s m = record { samples_are = s; ancillary_is = blank_is; marks_are = m }

-- formats without overhead: the parts of a subframe
module _ (f : Format) (none : f.overhead_bits ≡ 0) where
  mark_none : (x : ℕ) → mark_in f x ≡ 0
  unfolding mark_in
  mark_none x = rw (eq-eqb _ _ none)

  sample_bare : f.ancillary_bits ≡ 0 → (x : ℕ) → sample_in f x ≡ x
  unfolding sample_in
  sample_bare bare x = rw (none, bare) (omega arith)

  module _ (bits : f.ancillary_bits ≡ 4) where
    sample_four : (x : ℕ) → sample_in f x ≡ x / 16
    unfolding sample_in
    sample_four x = rw (none, bits)

    ancillary_four : (x : ℕ) → ancillary_in f x ≡ x % 16
    unfolding ancillary_in
    ancillary_four x = rw (none, bits) (omega arith)

  module _ (at used : ℕ) (samples ancillary marks : List ℕ) {marks₁ : List ℕ}
      (room : Room at used samples ancillary marks) (marks-zero : marks₁ ≡ written marks at (replicate used 0))
    where
      marks_none : marks₁ ≡ written marks at (held (mark_in f) samples at used)
      marks_none = marks-zero ∙ ap (written marks at) (sym (held_all (mark_in f) samples at used mark_none))

      pub splits_plain : f.ancillary_bits ≡ 0 → Blank f at used ancillary
          → Splits f at used samples ancillary marks samples ancillary marks₁
      splits_plain bare blank =
          record {
            samples_are = written_again (sample_in f) samples at used (sample_bare bare) room.samples_room;
            ancillary_is = blank_is f bare at used samples ancillary room.ancillary_room blank;
            marks_are = marks_none;
          }

      pub splits_bare : f.ancillary_bits ≡ 4 → {samples₁ ancillary₁ : List ℕ}
          → samples₁ ≡ written samples at (held (λ x. x / 16) samples at used)
          → ancillary₁ ≡ written ancillary at (held (λ x. x % 16) samples at used)
          → Splits f at used samples ancillary marks samples₁ ancillary₁ marks₁
      splits_bare four s a =
          record {
            samples_are = s ∙ ap (written samples at) (sym (held_same (sample_in f) samples at used (sample_four four)));
            ancillary_is = a ∙ ap (written ancillary at) (sym (held_same (ancillary_in f) samples at used (ancillary_four four)));
            marks_are = marks_none;
          }

-- a part of a run, and its front, filled with one value
pub part_filled : (run : List ℕ) (at used v : ℕ) {part : List ℕ} {n : ℕ} → at + used ≤ length run → n ≡ used
    → part ≡ replicate (length (take n (drop at run))) v
    → take at run ++ (part ++ drop n (drop at run)) ≡ written run at (replicate used v)
part_filled run at used v {part} {n} room is e =
    let long : length (take n (drop at run)) ≡ used
    = ap (λ (k : ℕ). length (take k (drop at run))) is
    ∙ length-take-le used (drop at run) (omega (arith, length-drop at run)) in
    sym (append_assoc (take at run) part (drop n (drop at run)))
    ∙ ap₂ (λ (p rest : List ℕ). take at run ++ p ++ rest) (e ∙ ap (λ (k : ℕ). replicate k v) long)
    (drop-drop n at run ∙ ap (λ (k : ℕ). drop (at + k) run) (is ∙ sym (length-replicate used v)))

pub front_filled : (run : List ℕ) (used v : ℕ) {part : List ℕ} → used ≤ length run → part ≡ replicate (length (take used run)) v
    → part ++ drop used run ≡ over (replicate used v) run
unfolding over
front_filled run used v {part} room e =
    ap₂ (λ (p : List ℕ) (k : ℕ). p ++ drop k run) (e ∙ ap (λ (k : ℕ). replicate k v) (length-take-le used run room))
    (sym (length-replicate used v))

pub times_few : (channels times : ℕ) → 1 ≤ channels → channels * times ≤ 48 → times ≤ 48
times_few channels times some few = omega (arith, mul-le-mul_right {m = 1} {n = channels} times some, one-mul times)

-- a cell's own entries
module _ (set : Settled) (cell : List ℕ) where
  pub own_length : (read : ℕ → ℕ) → length (own_entries read set cell) ≡ used_in set
  unfolding entries_of
  own_length read = length_tab _ (used_in set)

  pub own_at : (read : ℕ → ℕ) {i : ℕ} → i < used_in set
      → read (subframe_at set.format cell (slot_of_entry set.by_channel set.channels set.times i))
      ≡ get_or (own_entries read set cell) i 0
  unfolding entries_of
  own_at read less = sym (get_or_tab _ (used_in set) less)

  pub slot_in : Limits set → {slot i : ℕ} → i < used_in set → slot ≡ slot_of_entry set.by_channel set.channels set.times i
      → slot < set.format.slots
  slot_in limits less e =
      let within = slot_lt set.channels set.times limits.channels_from set.by_channel less in
      let used = limits.used_in_lem in
      rw e (omega arith)

  -- order 0: an entry's slot is the entry
  pub slot_straight : set.by_channel ≡ false → (i : ℕ) → i ≡ slot_of_entry set.by_channel set.channels set.times i
  unfolding slot_of_entry slot_of
  slot_straight e i = rw e (sym (div-add-mod' i set.channels))

  -- from one entry's slot to the next one's
  pub slot_on : set.by_channel ≡ false → (i : ℕ) {slot : ℕ} → slot ≡ slot_of_entry set.by_channel set.channels set.times i
      → slot + 1 ≡ slot_of_entry set.by_channel set.channels set.times (i + 1)
  slot_on is i e = ap (λ (n : ℕ). n + 1) (e ∙ sym (slot_straight is i)) ∙ slot_straight is (i + 1)

  pub slot_stepped : Limits set → set.by_channel ≡ true → {i slot : ℕ} → i < used_in set
      → slot ≡ slot_of_entry set.by_channel set.channels set.times i
      → step_on set.times (used_in set) slot ≡ slot_of_entry set.by_channel set.channels set.times (i + 1)
  slot_stepped limits is {i} less e =
      ap (step_on set.times (used_in set)) (e ∙ ap (λ (b : Bool). slot_of_entry b set.channels set.times i) is)
      ∙ slot_next set.channels set.times limits.channels_from less
      ∙ ap (λ (b : Bool). slot_of_entry b set.channels set.times (i + 1)) (sym is)

  pub used_from : Limits set → 1 ≤ used_in set
  used_from limits = mul-le-mul limits.channels_from limits.times_from

  -- a run that is filled with the subframes
  module _ (run₀ : List ℕ) (at : ℕ) (room : at + used_in set ≤ length run₀) where
    pub own_on : {run : List ℕ} {i slot v : ℕ} → Filled run run₀ at (own_entries (λ x. x) set cell) i → i < used_in set
        → slot ≡ slot_of_entry set.by_channel set.channels set.times i → v ≡ subframe_at set.format cell slot
        → Filled (L.set run (at + i) v) run₀ at (own_entries (λ x. x) set cell) (i + 1)
    own_on so_far less slot_is e =
        fill_on run₀ at _ (own_length (λ x. x)) room so_far less (e ∙ ap (subframe_at set.format cell) slot_is ∙ own_at (λ x. x) less)

    pub own_done : {run : List ℕ} {i : ℕ} → Filled run run₀ at (own_entries (λ x. x) set cell) i → used_in set ≤ i
        → run ≡ written run₀ at (own_entries (λ x. x) set cell)
    own_done so_far all = fill_done run₀ at _ (own_length (λ x. x)) room so_far all

  -- subframes put into the first run, and taken apart there
  pub unpacks : (at : ℕ) (samples ancillary marks : List ℕ) {samples₁ samples₂ ancillary₂ marks₂ : List ℕ}
      → Room at (used_in set) samples ancillary marks → samples₁ ≡ written samples at (own_entries (λ x. x) set cell)
      → Splits set.format at (used_in set) samples₁ ancillary marks samples₂ ancillary₂ marks₂
      → Unpacks set cell at samples ancillary marks samples₂ ancillary₂ marks₂
  unpacks at samples ancillary marks {samples₁} {samples₂} {ancillary₂} {marks₂} room e parts =
      record {
        samples_are =
            parts.samples_are
            ∙ ap₂ (λ (run new : List ℕ). written run at new) e (read_off (sample_in set.format))
            ∙ written_over samples at (own_entries (λ x. x) set cell) fit _ (own_length (sample_in set.format) ∙ sym (own_length (λ x. x)));
        ancillary_is = parts.ancillary_is ∙ ap (written ancillary at) (read_off (ancillary_in set.format));
        marks_are = parts.marks_are ∙ ap (written marks at) (read_off (mark_in set.format));
      }
    where
      fit : at + length (own_entries (λ x. x) set cell) ≤ length samples
      fit = omega (arith, room.samples_room, own_length (λ x. x))

      read_off : (read : ℕ → ℕ) → held read samples₁ at (used_in set) ≡ own_entries read set cell
      read_off read =
          held_is read samples₁ at (used_in set) (own_length read)
          (λ i h.
          ap (λ (l : List ℕ). read (get_or l (at + i) 0)) e
          ∙ ap read (written_at samples at (own_entries (λ x. x) set cell) fit (omega (arith, own_length (λ x. x))) ∙ sym (own_at (λ x. x) h))
          ∙ own_at read h)

-- entries written after others from the start are all of them written from the start
pub over_then : (first next run : List ℕ) {missing : ℕ} {run₁ run₂ : List ℕ} → length first ≡ missing → missing ≤ length run
    → run₁ ≡ over first run → run₂ ≡ written run₁ missing next → run₂ ≡ over (first ++ next) run
unfolding over
over_then first next run {missing} {run₁} {run₂} len room e₁ e₂ =
    e₂
    ∙ ap₂ (λ (a b : List ℕ). a ++ next ++ b)
    (ap (take missing) e₁ ∙ take_at first (drop (length first) run) missing len)
    (ap (drop (missing + length next)) e₁
    ∙ ap (λ (n : ℕ). drop (n + length next) (first ++ drop (length first) run)) (sym len)
    ∙ drop-append-add first (drop (length first) run) (length next)
    ∙ drop-drop (length next) (length first) run
    ∙ ap (λ (n : ℕ). drop n run) (sym (length-append first next)))

pub from_front : (run new : List ℕ) → written run 0 new ≡ over new run
unfolding over
from_front run new = rw (zero-add (length new))

length_over_zeros : (missing : ℕ) (run : List ℕ) → missing ≤ length run → length (over (replicate missing 0) run) ≡ length run
unfolding over
length_over_zeros missing run room =
    let first : List ℕ = replicate missing 0 in
    let long : length first ≡ missing = length-replicate missing 0 in
    length-append first (drop (length first) run) ∙ omega (arith, length-drop (length first) run, long)

-- entries of zero for missing cells, or for the cell's own too, and then those
lost_and_own : (missing blank used : ℕ) (next run : List ℕ) {run₁ run₂ : List ℕ} → (blank ≡ missing) ⊎ (blank ≡ missing + used)
    → length next ≡ used → missing + used ≤ length run → run₁ ≡ written run 0 (replicate blank 0)
    → run₂ ≡ written run₁ missing next → run₂ ≡ over (replicate missing 0 ++ next) run
lost_and_own missing blank used next run {run₁} {run₂} which long room e₁ e₂ = ⊎_elim short further which
  where
    short : blank ≡ missing → run₂ ≡ over (replicate missing 0 ++ next) run
    short is =
        over_then (replicate missing 0) next run (length-replicate missing 0) (omega arith)
        (e₁ ∙ from_front run _ ∙ ap (λ (n : ℕ). over (replicate n 0) run) is) e₂

    further : blank ≡ missing + used → run₂ ≡ over (replicate missing 0 ++ next) run
    further is =
        over_then (replicate missing 0) next run {run₁ = over (replicate missing 0) run} (length-replicate missing 0) (omega arith) refl
        (e₂
        ∙ ap (λ (l : List ℕ). written l missing next)
        (e₁
        ∙ from_front run _
        ∙ ap (λ (n : ℕ). over (replicate n 0) run) is
        ∙ ap (λ (l : List ℕ). over l run) (sym (replicate-append-replicate missing used 0))
        ∙ sym
        (over_then (replicate missing 0) (replicate used 0) run {run₁ = over (replicate missing 0) run} (length-replicate missing 0)
        (omega arith) refl refl))
        ∙ written_over (over (replicate missing 0) run) missing (replicate used 0) fits next (long ∙ sym (length-replicate used 0)))
      where
        fits : missing + length {A = ℕ} (replicate used 0) ≤ length (over (replicate missing 0) run)
        fits = omega (arith, length_over_zeros missing run (omega arith), length-replicate {A = ℕ} used 0)

pub blank_either : (f : Format) (missing used : ℕ) → (blank_end f missing used ≡ missing) ⊎ (blank_end f missing used ≡ missing + used)
unfolding blank_end
blank_either f missing used = split (eqb f.ancillary_bits 0) (λ e. inr (rw e)) (λ e. inl (rw e))

-- the ancillary run is blank where it has to be
pub blank_there : (f : Format) (missing used : ℕ) (run : List ℕ) {run₁ : List ℕ} → missing + used ≤ length run
    → run₁ ≡ written run 0 (replicate (blank_end f missing used) 0) → Blank f missing used run₁
unfolding blank_end over
blank_there f missing used run {run₁} room e bare i less =
    let whole : blank_end f missing used ≡ missing + used = rw (eq-eqb _ _ bare) in
    ap (λ (l : List ℕ). get_or l (missing + i) 0) (e ∙ from_front run (replicate (blank_end f missing used) 0) ∙ ap (λ (n : ℕ). over (replicate n 0) run) whole)
    ∙ get_or-append (replicate (missing + used) 0) _ 0 (missing + i) (omega (arith, length-replicate {A = ℕ} (missing + used) 0))
    ∙ get_or-replicate (missing + used) (missing + i) 0 0 (omega arith)

-- missing entries and then the cell's own
pub fills : (set : Settled) (cell : List ℕ) (missing blank : ℕ) (samples ancillary marks : List ℕ)
    {samples₁ ancillary₁ marks₁ samples₂ ancillary₂ marks₂ : List ℕ}
    → (blank ≡ missing) ⊎ (blank ≡ missing + used_in set)
    → Room missing (used_in set) samples ancillary marks
    → Misses missing blank samples ancillary marks samples₁ ancillary₁ marks₁
    → Unpacks set cell missing samples₁ ancillary₁ marks₁ samples₂ ancillary₂ marks₂
    → Fills set cell missing samples ancillary marks samples₂ ancillary₂ marks₂
fills set cell missing blank samples ancillary marks which roomy lost own =
    record {
      samples_are =
          over_then (replicate missing 0) _ samples (length-replicate missing 0) (omega (arith, roomy.samples_room)) lost.samples_are
          own.samples_are;
      ancillary_is =
          lost_and_own missing blank (used_in set) _ ancillary which (own_length set cell (ancillary_in set.format))
          roomy.ancillary_room lost.ancillary_is own.ancillary_is;
      marks_are =
          over_then (replicate missing 2) _ marks (length-replicate missing 2) (omega (arith, roomy.marks_room))
          (lost.marks_are ∙ from_front marks _) own.marks_are;
    }
