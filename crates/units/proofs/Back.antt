-- Whole calls: the units of an export are whole frames, as many as fit, and reading them back, one after the other, gives the exported
-- runs whole. For every size, and however many frames there are.
-- Assumes nothing.
use mathlib.Core.List.{List, ◌++◌}
use mathlib.Core.Path.{◌≡◌, sym, ◌∙◌, ap, ap₂}
use Prim.Native.Nat.{ℕ, suc, ◌+◌, ◌*◌, ◌/◌, ◌%◌, ◌≤◌, ◌<◌}
use native.Mathlib.Nat.{suc-mul, mul_assoc, mul-pos, mul-mod_left, mul-le-mul_right, div-mul-le_self, lt-div-mul-add, le-div_iff_mul-le}
use native.Mathlib.Omega.{arith}
use lib.ListN.{length, take, drop}
use lib.Seq.{take_at}
use Rattle.runs.specs.Runs.{joined, over}
use Rattle.runs.proofs.Laws.{length_tab, length_joined}
use Rattle.formats.specs.declared.Format.{Format}
use Rattle.formats.specs.Formats.{format_of}
use Rattle.cells.specs.Cells.{sample_in, ancillary_in}
use Rattle.units.specs.declared.Exported.{Exported}
use Rattle.units.specs.declared.Entered.{Entered}
use Rattle.units.specs.Units.{
  frame_octets,
  frame_size,
  fit_of,
  frames_in,
  units_of,
  unit_octets,
  export_octets,
  export_size,
  export_refusal,
  exported,
  exported_of,
  export_gives,
  entries_in,
  read_refusal,
  entered_of,
  read_off,
  read_gives,
}
use Rattle.units.specs.Back.{
  ExportCall,
  MeetsExport,
  ReadCall,
  MeetsRead,
  unit_of,
  HoldsFrames,
  CarriesChannel,
  ReadsUnit,
  samples_read,
  ancillary_read,
  BackWhole,
}
use Rattle.units.proofs.Joined.{joined_same}
use Rattle.units.proofs.Laws.{frame_some, Passes, export_passes, read_taken}
use Rattle.units.proofs.Demand1.{export_refusal_lem, read_refusal_lem}
use Rattle.units.proofs.Units.{in_unit, frame_length, export_length, unit_there, subframe_back, sample_of, ancillary_of_lem, read_all_back}

module _ (e : ExportCall) (meets : MeetsExport e) (taken : e.answer.refusal ≡ 0) where
  abbrev f : Format
  f = format_of e.octet

  abbrev fit : ℕ
  fit = fit_of (format_of e.octet) e.channels e.size

  abbrev frames : ℕ
  frames = length e.samples / e.channels

  none : export_refusal e.octet e.channels e.size e.samples e.ancillary (length e.out) ≡ 0
  none = sym (export_refusal_lem e meets) ∙ taken

  pub known : Passes e.octet e.channels e.size e.samples e.ancillary (length e.out)
  known = export_passes e.octet e.channels e.size e.samples e.ancillary (length e.out) none

  answer_is : e.answer ≡ exported f e.channels e.size e.samples
  unfolding exported_of
  answer_is = meets.answered ∙ rw none

  pub units_are : e.answer.units ≡ units_of frames fit
  units_are = ap (λ (x : Exported). x.units) answer_is

  fit_from : 1 ≤ fit
  fit_from = (le-div_iff_mul-le (frame_some known.limits)).1 (omega (arith, known.fits))

  -- "the data units end to end"
  pub written_are : take e.answer.octets e.out_after ≡ export_octets f e.channels e.samples e.ancillary fit
  unfolding export_gives over
  written_are =
      let all : List ℕ = export_octets f e.channels e.samples e.ancillary fit in
      let out_is : e.out_after ≡ all ++ drop (length all) e.out = meets.out_after ∙ rw none in
      ap₂ take (ap (λ (x : Exported). x.octets) answer_is) out_is
      ∙ take_at all (drop (length all) e.out) (export_size f e.samples)
      (export_length f e.channels e.samples e.ancillary known.whole fit)

  pub unit_is : {k : ℕ} → k < e.answer.units → unit_of e k ≡ unit_octets f e.channels e.samples e.ancillary fit k
  unit_is {k} less =
      ap₂ (λ (n : ℕ) (l : List ℕ). take n (drop (k * n) l)) (ap (λ (x : Exported). x.full) answer_is) written_are
      ∙ unit_there f e.channels e.samples e.ancillary known.whole fit_from (omega (arith, less, units_are))

  pub units_joined : joined (unit_of e) e.answer.units ≡ take e.answer.octets e.out_after
  unfolding export_octets
  units_joined =
      joined_same _ _ e.answer.units (λ k less. unit_is less)
      ∙ ap (joined (unit_octets f e.channels e.samples e.ancillary fit)) units_are
      ∙ sym written_are

  -- each unit holds whole frames, at least one and at most as many as fit; all but the last are full
  pub holds_frames : {k : ℕ} → k < e.answer.units → HoldsFrames e k
  unfolding unit_octets
  holds_frames {k} less =
      let u = in_unit frames fit fit_from {k = k} (omega (arith, less, units_are)) in
      let w : ℕ = frame_size f e.channels in
      record {
        first = k * fit;
        frames = frames_in frames fit k;
        place = mul_assoc k fit w ∙ ap (λ (n : ℕ). k * n) (sym (ap (λ (x : Exported). x.full) answer_is));
        whole = unit_is less;
        some = u.at_least_one;
        within = omega (arith, mul-le-mul_right {m = frames_in frames fit k} {n = fit} w u.at_most, div-mul-le_self e.size w);
        full =
            λ later.
            let all : frames_in frames fit k ≡ fit = u.first_of (omega (arith, later, units_are)) in
            let past : e.size < suc fit * w = omega (arith, suc-mul fit w, lt-div-mul-add {a = e.size} (frame_some known.limits)) in
            rw all past;
      }

  -- subframe c of the frame of time t carries channel c at time t
  pub carries_channel : (time : ℕ) {channel : ℕ} → channel < e.channels → CarriesChannel e time channel
  unfolding frame_octets
  carries_channel time {channel} less =
      let there =
      subframe_back f e.channels e.samples e.ancillary known.limits.sound known.small known.few (time * e.channels) e.channels less in
      record {
        sample_there =
            ap (sample_in f) there
            ∙ sample_of f e.channels e.samples e.ancillary known.limits.sound known.small known.few (time * e.channels + channel);
        ancillary_there =
            ap (ancillary_in f) there
            ∙ ancillary_of_lem f e.channels e.samples e.ancillary known.limits.sound known.small known.few (time * e.channels + channel);
      }

  unit_length : {k : ℕ} → k < e.answer.units → length (unit_of e k) ≡ frames_in frames fit k * frame_size f e.channels
  unfolding unit_octets
  unit_length {k} less =
      ap length (unit_is less)
      ∙ length_joined (λ j. frame_octets f e.channels e.samples e.ancillary (k * fit + j)) (frame_size f e.channels) (frames_in frames fit k)
      (λ j. frame_length f e.channels e.samples e.ancillary (k * fit + j))

  -- a reading of unit k
  module _ {k : ℕ} (less : k < e.answer.units) (r : ReadCall) (reads : ReadsUnit e k r) (met : MeetsRead r) where
    long : length r.unit ≡ frames_in frames fit k * frame_size f e.channels
    long = ap length reads.the_unit ∙ unit_length less

    same : (n : ℕ) → read_refusal r.octet r.channels n (length r.samples) (length r.ancillary)
        ≡ read_refusal e.octet e.channels n (length r.samples) (length r.ancillary)
    same n = λ i. read_refusal (reads.same_octet i) (reads.same_channels i) n (length r.samples) (length r.ancillary)

    pub table_none : read_refusal r.octet r.channels (length r.unit) (length r.samples) (length r.ancillary) ≡ 0
    table_none =
        let u = in_unit frames fit fit_from {k = k} (omega (arith, less, units_are)) in
        let some : 1 ≤ length r.unit = rw long (mul-pos u.at_least_one (frame_some known.limits)) in
        same (length r.unit)
        ∙ read_taken e.octet e.channels (length r.unit) (length r.samples) (length r.ancillary) known.settings_none reads.equal
        (λ empty. omega (arith, some, empty))
        (ap (λ (n : ℕ). n % frame_size f e.channels) long ∙ mul-mod_left (frames_in frames fit k) (frame_size f e.channels))
        known.bare reads.room

    pub not_refused : r.answer.refusal ≡ 0
    not_refused = read_refusal_lem r met ∙ table_none

    entries_are : r.answer.entries ≡ entries_in (format_of r.octet) (length r.unit)
    unfolding entered_of
    entries_are = ap (λ (x : Entered). x.entries) met.answered ∙ rw table_none

    -- what a run was given, cut by the answer
    handed : (part : ℕ → ℕ) (run run₁ : List ℕ)
        → run₁
        ≡ over
        (read_gives r.octet r.channels r.unit (length r.samples) (length r.ancillary) (read_off part (format_of r.octet) r.unit))
        run
        → take r.answer.entries run₁ ≡ read_off part (format_of r.octet) r.unit
    unfolding read_gives over read_off
    handed part run run₁ left =
        let all : List ℕ = read_off part (format_of r.octet) r.unit in
        let run_is : run₁ ≡ all ++ drop (length all) run = left ∙ rw table_none in
        ap₂ take entries_are run_is
        ∙ take_at all (drop (length all) run) (entries_in (format_of r.octet) (length r.unit)) (length_tab _ _)

    pub samples_handed : samples_read r ≡ read_off (sample_in f) f (unit_octets f e.channels e.samples e.ancillary fit k)
    samples_handed =
        handed (sample_in (format_of r.octet)) r.samples r.samples_after met.samples_after
        ∙ (λ i. read_off (sample_in (format_of (reads.same_octet i))) (format_of (reads.same_octet i)) ((reads.the_unit ∙ unit_is less) i))

    pub ancillary_handed : ancillary_read r ≡ read_off (ancillary_in f) f (unit_octets f e.channels e.samples e.ancillary fit k)
    ancillary_handed =
        handed (ancillary_in (format_of r.octet)) r.ancillary r.ancillary_after met.ancillary_after
        ∙ (λ i. read_off (ancillary_in (format_of (reads.same_octet i))) (format_of (reads.same_octet i)) ((reads.the_unit ∙ unit_is less) i))

  -- the units of an export read back, one after the other
  pub back_whole : (reads : ℕ → ReadCall) → ((k : ℕ) → k < e.answer.units → ReadsUnit e k (reads k) × MeetsRead (reads k)) → BackWhole e reads
  back_whole reads each =
      record {
        none_refused = λ k less. not_refused less (reads k) (each k less).0 (each k less).1;
        samples_back =
            joined_same _ _ e.answer.units (λ k less. samples_handed less (reads k) (each k less).0 (each k less).1)
            ∙ ap (joined (λ k. read_off (sample_in f) f (unit_octets f e.channels e.samples e.ancillary fit k))) units_are
            ∙ read_all_back f e.channels e.samples e.ancillary known.limits.sound known.small known.few (sample_in f) e.samples
            (sample_of f e.channels e.samples e.ancillary known.limits.sound known.small known.few)
            known.whole (λ i. length e.samples) fit;
        ancillary_back =
            joined_same _ _ e.answer.units (λ k less. ancillary_handed less (reads k) (each k less).0 (each k less).1)
            ∙ ap (joined (λ k. read_off (ancillary_in f) f (unit_octets f e.channels e.samples e.ancillary fit k))) units_are
            ∙ read_all_back f e.channels e.samples e.ancillary known.limits.sound known.small known.few (ancillary_in f) e.ancillary
            (ancillary_of_lem f e.channels e.samples e.ancillary known.limits.sound known.small known.few)
            known.whole known.as_many fit;
      }
