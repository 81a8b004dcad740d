-- What an export writes: the units joined are the subframes of all entries, each unit stands where the answer says, and what is read off
-- a unit is what its entries were.
-- Assumes nothing.
use mathlib.Core.List.{List, [], ◌∷◌}
use mathlib.Core.Path.{◌≡◌, refl, sym, ◌∙◌, ap, ap₂}
use Prim.Native.Nat.{ℕ, suc, ◌+◌, ◌*◌, ◌/◌, ◌%◌, ◌-◌, ◌^◌, ◌≤◌, ◌<◌}
use native.Mathlib.Nat.{zero-add, zero-mul, suc-mul, mul_assoc, mul-div_cancel, mul-le-mul_right, div-add-mod', div-mul-le_self, mod-lt, mod-eq_of_lt}
use native.Mathlib.Omega.{arith}
use borrow.Author.Tests.{eqb-true, eqb-false}
use lib.Dec.{eqb}
use lib.ListN.{length, get_or, take, drop}
use lib.Seq.{take_all}
use Rattle.runs.specs.Runs.{tab, joined, number_of}
use Rattle.runs.proofs.Laws.{split, length_tab, get_or_tab, tab_is, length_joined, part_joined, length_octets, read_octets}
use Rattle.formats.specs.declared.Format.{Format}
use Rattle.formats.specs.Sound.{Sound}
use Rattle.cells.specs.Cells.{subframe_of, subframe_at, sample_in, ancillary_in}
use Rattle.cells.proofs.Subframes.{subframe_lt, sample_back, ancillary_back}
use Rattle.units.specs.Units.{subframe_octets, frame_octets, frame_size, frames_in, units_of, unit_octets, export_octets, export_size, read_off}
use Rattle.units.proofs.Joined.{
  joined_same,
  regrouped,
  regrouped_all,
  singly,
  joined_take,
  joined_drop,
  in_full,
  in_last,
  units_whole,
  units_rest,
  units_joined,
}

-- a unit that there is: it has a frame at least, and it is full unless it is the last
module _ (frames fit : ℕ) (some : 1 ≤ fit) where
  pub rest_lt : frames % fit < fit
  rest_lt = mod-lt frames some

  -- the frames of a unit lie within all frames, and where it isn't full it ends them
  pub record InUnit (k : ℕ) : Type 0 where
    pub at_least_one : 1 ≤ frames_in frames fit k
    pub at_most : frames_in frames fit k ≤ fit
    pub first_of : suc k < units_of frames fit → frames_in frames fit k ≡ fit
    pub within : k * fit + frames_in frames fit k ≤ frames
    pub ends : frames_in frames fit k < fit → k * fit + frames_in frames fit k ≡ frames

  full_unit : {k : ℕ} → k < frames / fit → InUnit k
  full_unit {k} less =
      let is = in_full frames fit less in
      record {
        at_least_one = omega (arith, is, some);
        at_most = omega (arith, is);
        first_of = λ later. is;
        within =
            omega (arith, is, suc-mul k fit, mul-le-mul_right {m = suc k} {n = frames / fit} fit less, div-mul-le_self frames fit);
        ends = λ fewer. absurd (omega (arith, is, fewer));
      }

  last_unit : {k : ℕ} → k ≡ frames / fit → (frames % fit ≡ 0 → ⊥) → units_of frames fit ≡ suc (frames / fit) → InUnit k
  last_unit {k} last more count =
      let is = in_last frames fit {k = k} (omega (arith, last)) in
      let all : k * fit + frames_in frames fit k ≡ frames
      = ap₂ (λ (m n : ℕ). m * fit + n) last is ∙ div-add-mod' frames fit in
      record {
        at_least_one = omega (arith, is, more);
        at_most = omega (arith, is, rest_lt);
        first_of = λ later. absurd (omega (arith, later, count, last));
        within = omega (arith, all);
        ends = λ fewer. all;
      }

  pub in_unit : {k : ℕ} → k < units_of frames fit → InUnit k
  in_unit {k} less =
      split (eqb (frames % fit) 0)
      (λ t. full_unit (omega (arith, less, units_whole frames fit (eqb-true _ 0 t))))
      (λ t.
      let count = units_rest frames fit t in
      split (eqb k (frames / fit))
      (λ u. last_unit (eqb-true k (frames / fit) u) (eqb-false _ 0 t) count)
      (λ u. full_unit (omega (arith, less, count, eqb-false k (frames / fit) u))))

module _ (f : Format) (channels : ℕ) (samples ancillary : List ℕ) where
  abbrev sub : ℕ → List ℕ
  sub = subframe_octets f samples ancillary

  abbrev frame : ℕ → List ℕ
  frame = frame_octets f channels samples ancillary

  sub_length : (entry : ℕ) → length (sub entry) ≡ f.width
  unfolding subframe_octets
  sub_length entry = length_octets f.width _

  pub frame_length : (time : ℕ) → length (frame time) ≡ frame_size f channels
  unfolding frame_octets
  frame_length time = length_joined _ f.width channels (λ k. sub_length _)

  -- so many frames from one on are so many subframes
  pub frames_are : (first n : ℕ) → joined (λ j. frame (first + j)) n ≡ joined (λ i. sub (first * channels + i)) (n * channels)
  unfolding frame_octets
  frames_are first n = regrouped sub channels first n

  pub all_frames : (n : ℕ) → joined frame n ≡ joined sub (n * channels)
  unfolding frame_octets
  all_frames n = regrouped_all sub channels n

  pub subs_length : (first n : ℕ) → length (joined (λ i. sub (first + i)) n) ≡ n * f.width
  subs_length first n = length_joined _ f.width n (λ k. sub_length _)

  module _ (whole : length samples % channels ≡ 0) where
    pub frames_whole : length samples / channels * channels ≡ length samples
    frames_whole = omega (arith, div-add-mod' (length samples) channels, whole)

    -- the units joined are all the frames, whatever the size of a unit
    pub export_frames : (fit : ℕ) → export_octets f channels samples ancillary fit ≡ joined frame (length samples / channels)
    unfolding export_octets unit_octets
    export_frames fit = units_joined (length samples / channels) fit frame

    pub export_subframes : (fit : ℕ) → export_octets f channels samples ancillary fit ≡ joined sub (length samples)
    export_subframes fit =
        export_frames fit ∙ all_frames (length samples / channels) ∙ ap (joined sub) frames_whole

    pub export_length : (fit : ℕ) → length (export_octets f channels samples ancillary fit) ≡ export_size f samples
    export_length fit = ap length (export_subframes fit) ∙ length_joined sub f.width (length samples) sub_length

    -- unit k stands where k full ones end
    pub unit_there : {fit k : ℕ} → 1 ≤ fit → k < units_of (length samples / channels) fit
        → take (fit * frame_size f channels) (drop (k * (fit * frame_size f channels)) (export_octets f channels samples ancillary fit))
        ≡ unit_octets f channels samples ancillary fit k
    unfolding unit_octets
    unit_there {fit} {k} some less =
        let u = in_unit (length samples / channels) fit some less in
        let n : ℕ = frames_in (length samples / channels) fit k in
        let w : ℕ = frame_size f channels in
        let from : (m : ℕ) → k * fit + m ≡ length samples / channels
        → drop (k * (fit * w)) (export_octets f channels samples ancillary fit) ≡ joined (λ j. frame (k * fit + j)) m
        = λ m e.
        ap₂ drop (sym (mul_assoc k fit w)) (export_frames fit ∙ ap (joined frame) (sym e)) ∙ joined_drop frame w frame_length (k * fit) m in
        split (eqb n fit)
        (λ t.
        let same : n ≡ fit = eqb-true n fit t in
        let rest : ℕ = length samples / channels - (k * fit + n) in
        ap (take (fit * w)) (from (fit + rest) (omega (arith, u.within, same)))
        ∙ joined_take (λ j. frame (k * fit + j)) w (λ j. frame_length _) fit rest
        ∙ ap (joined (λ j. frame (k * fit + j))) (sym same))
        (λ t.
        let fewer : n < fit = omega (arith, u.at_most, eqb-false n fit t) in
        ap (take (fit * w)) (from n (u.ends fewer))
        ∙ take_all (fit * w) (joined (λ j. frame (k * fit + j)) n)
        (omega (arith, length_joined (λ j. frame (k * fit + j)) w n (λ j. frame_length _), mul-le-mul_right {m = n} {n = fit} w u.at_most)))

  -- what is read off subframes is what they were made of
  module _ (sound : Sound f)
      (small : (i : ℕ) → get_or samples i 0 < 2 ^ f.sample_bits)
      (few : (i : ℕ) → get_or ancillary i 0 < 2 ^ f.ancillary_bits)
    where
      pub subframe_back : (first n : ℕ) {i : ℕ} → i < n
          → subframe_at f (joined (λ j. sub (first + j)) n) i ≡ subframe_of f (get_or samples (first + i) 0) (get_or ancillary (first + i) 0) 0
      unfolding subframe_at subframe_octets
      subframe_back first n {i} less =
          let low : 0 < 2 = omega arith in
          ap number_of (part_joined (λ j. sub (first + j)) f.width n (λ k. sub_length _) less)
          ∙ read_octets f.width 0 (subframe_of f (get_or samples (first + i) 0) (get_or ancillary (first + i) 0) 0)
          ∙ rw (zero-mul (256 ^ f.width), mod-eq_of_lt (subframe_lt sound (small (first + i)) (few (first + i)) low))
          (zero-add _)

      pub sample_of : (i : ℕ) → sample_in f (subframe_of f (get_or samples i 0) (get_or ancillary i 0) 0) ≡ get_or samples i 0
      sample_of i = sample_back sound (small i) (few i) (omega arith)

      pub ancillary_of_lem : (i : ℕ) → ancillary_in f (subframe_of f (get_or samples i 0) (get_or ancillary i 0) 0) ≡ get_or ancillary i 0
      ancillary_of_lem i = ancillary_back sound (small i) (few i) (omega arith)

      -- of samples and ancillary numbers alike
      module _ (part : ℕ → ℕ) (run : List ℕ) (back : (i : ℕ) → part (subframe_of f (get_or samples i 0) (get_or ancillary i 0) 0) ≡ get_or run i 0) where
        abbrev single : ℕ → List ℕ
        single i = get_or run i 0 ∷ []

        read_subframes : (first n : ℕ) → read_off part f (joined (λ j. sub (first + j)) n) ≡ joined (λ i. single (first + i)) n
        unfolding read_off
        read_subframes first n =
            ap (tab _) (ap (λ (m : ℕ). m / f.width) (subs_length first n) ∙ mul-div_cancel n sound.width_from)
            ∙ tab_is _ n (tab (λ i. get_or run (first + i) 0) n) (length_tab _ n)
            (λ i less. ap part (subframe_back first n less) ∙ back (first + i) ∙ sym (get_or_tab _ n less))
            ∙ singly (λ i. get_or run (first + i) 0) n

        pub read_unit_back : (fit k : ℕ)
            → read_off part f (unit_octets f channels samples ancillary fit k)
            ≡ joined (λ j. joined (λ channel. single ((k * fit + j) * channels + channel)) channels) (frames_in (length samples / channels) fit k)
        unfolding unit_octets
        read_unit_back fit k =
            let n : ℕ = frames_in (length samples / channels) fit k in
            ap (read_off part f) (frames_are (k * fit) n)
            ∙ read_subframes (k * fit * channels) (n * channels)
            ∙ sym (regrouped single channels (k * fit) n)

        -- all units, one after the other
        pub read_all_back : length samples % channels ≡ 0 → length run ≡ length samples → (fit : ℕ)
            → joined (λ k. read_off part f (unit_octets f channels samples ancillary fit k)) (units_of (length samples / channels) fit) ≡ run
        read_all_back whole same fit =
            joined_same _ _ (units_of (length samples / channels) fit) (λ k less. read_unit_back fit k)
            ∙ units_joined (length samples / channels) fit (λ time. joined (λ channel. single (time * channels + channel)) channels)
            ∙ regrouped_all single channels (length samples / channels)
            ∙ ap (joined single) (frames_whole whole)
            ∙ sym (singly (λ i. get_or run i 0) (length samples))
            ∙ tab_is _ (length samples) run same (λ i less. refl)
