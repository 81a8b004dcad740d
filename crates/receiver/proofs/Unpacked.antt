-- Laws of the cells of many records unpacked: what fits, and what the three runs are then.
-- Assumes nothing.
use mathlib.Core.Bool.{Bool, true, false, cond, ◌&&◌}
use mathlib.Core.List.{List, ◌++◌}
use mathlib.Core.Path.{◌≡◌, refl, sym, ◌∙◌, ap}
use Prim.Native.Nat.{ℕ, ◌+◌, ◌*◌, ◌/◌, ◌-◌, ◌≤◌}
use native.Mathlib.Nat.{mul-div-le, mul-le-mul_right}
use native.Mathlib.Omega.{arith}
use borrow.Author.Tests.{eq-eqb, ne_eqb, eqb-true, leb-true}
use lib.Dec.{eqb, leb}
use lib.ListN.{length, replicate}
use Rattle.runs.specs.Runs.{joined, over}
use Rattle.runs.proofs.Laws.{both_true}
use Rattle.formats.specs.declared.Format.{Format}
use Rattle.formats.specs.Settled.{Settled}
use Rattle.formats.specs.Code.{is_usual}
use Rattle.formats.specs.Settings.{settings_of}
use Rattle.formats.proofs.Laws.{usual_set}
use Rattle.cells.specs.Cells.{sample_in, ancillary_in, mark_in}
use Rattle.receiver.specs.declared.Receiver.{Receiver}
use Rattle.receiver.specs.Unpacking.{used_in, Room, straight, fours}
use Rattle.receiver.specs.Many.{cell_from, many_own, FillsMany, fits_in, settings_now, many_given, UnpacksMany}
use Rattle.receiver.proofs.AllSlots.{usual_used, usual_own}

-- what fits
module _ (used octets place records missing : ℕ) (samples ancillary marks : List ℕ)
    (yes_fits : fits_in used octets place records missing (length samples) (length ancillary) (length marks) ≡ true)
  where
    parts : (leb place octets ≡ true) × (leb records ((octets - place) / 49) ≡ true) × (eqb (length ancillary) (length samples) ≡ true)
        × (eqb (length marks) (length samples) ≡ true) × (leb (records + missing) (length samples / used) ≡ true)
    unfolding fits_in
    parts =
        let a = both_true (leb place octets) _ yes_fits in
        let b = both_true (leb records ((octets - place) / 49)) _ a.1 in
        let d = both_true (eqb (length ancillary) (length samples)) _ b.1 in
        let e = both_true (eqb (length marks) (length samples)) _ d.1 in
        (a.0, b.0, d.0, e.0, e.1)

    pub fits_there : place + 49 * records ≤ octets
    fits_there =
        let a : place ≤ octets = leb-true _ _ parts.0 in
        let b : records ≤ (octets - place) / 49 = leb-true _ _ parts.1 in
        omega (arith, a, b)

    pub fits_room : Room (missing * used) (records * used) samples ancillary marks
    fits_room =
        let a : length ancillary ≡ length samples = eqb-true _ _ parts.2 in
        let m : length marks ≡ length samples = eqb-true _ _ parts.3 in
        let few : records + missing ≤ length samples / used = leb-true _ _ parts.4 in
        let enough : missing * used + records * used ≤ length samples =
        omega (arith, mul-le-mul_right {m = records + missing} {n = length samples / used} used few, mul-div-le (length samples) used) in
        record { samples_room = enough; ancillary_room = rw a enough; marks_room = rw m enough }

module _ (st : Receiver) (octets : List ℕ) (place records missing : ℕ) (samples ancillary marks : List ℕ) {set : Settled} (is : set ≡ settings_now st) where
  abbrev Left : Bool → List ℕ → List ℕ → List ℕ → Type 0
  Left = UnpacksMany st octets place records missing samples ancillary marks

  abbrev fit : Settled → Bool
  fit s = eqb s.refusal 0 && fits_in (used_in s) (length octets) place records missing (length samples) (length ancillary) (length marks)

  left_as : false ≡ fit set → Left false samples ancillary marks
  unfolding over
  left_as e = record { answered = e ∙ ap fit is; samples_after = refl; ancillary_after = refl; marks_after = refl }

  pub unpacks_refused : (set.refusal ≡ 0 → ⊥) → Left false samples ancillary marks
  unpacks_refused some = left_as (rw (ne_eqb set.refusal 0 some))

  module _ (none : set.refusal ≡ 0) {said : Bool}
      (is_said : said ≡ fits_in (used_in set) (length octets) place records missing (length samples) (length ancillary) (length marks))
    where
      fit_is : said ≡ fit set
      fit_is = is_said ∙ rw (eq-eqb set.refusal 0 none)

      pub unpacks_not : said ≡ false → Left false samples ancillary marks
      unpacks_not e = left_as (sym e ∙ fit_is)

      module _ (yes-said : said ≡ true) {samples₁ ancillary₁ marks₁ : List ℕ} where
        pub unpacks_so : FillsMany set octets place records (missing * used_in set) samples ancillary marks samples₁ ancillary₁ marks₁
            → Left true samples₁ ancillary₁ marks₁
        unpacks_so f =
            record {
              answered = sym yes-said ∙ fit_is ∙ ap fit is;
              samples_after =
                  f.samples_are ∙ ap (λ (s : Settled). over (many_given true 0 (sample_in s.format) missing s octets place records) samples) is;
              ancillary_after =
                  f.ancillary_is ∙ ap (λ (s : Settled). over (many_given true 0 (ancillary_in s.format) missing s octets place records) ancillary) is;
              marks_after =
                  f.marks_are ∙ ap (λ (s : Settled). over (many_given true 2 (mark_in s.format) missing s octets place records) marks) is;
            }

  -- 56 hex in order 0 with one channel or two
  module _ (usual : is_usual st.format st.channels st.order ≡ true) where
    usual_is_set : set ≡ settings_of 0x56 (cond (eqb st.channels 2) 2 1) 0
    usual_is_set = is ∙ sym (usual_set st.channels refl st.format st.order usual)

    pub unpacks_used : used_in set ≡ 12
    unpacks_used = usual_used st usual_is_set

    same_own : (read : Format → ℕ → ℕ) → many_own (read fours) straight octets place records ≡ many_own (read set.format) set octets place records
    same_own read = joined_same (λ k. usual_own st usual_is_set (cell_from octets place k) read) records
      where
        joined_same : {g h : ℕ → List ℕ} → ((k : ℕ) → g k ≡ h k) → (n : ℕ) → joined g n ≡ joined h n
        joined_same each n i = joined (λ k. each k i) n

    pub unpacks_usual : {lost : ℕ} {samples₁ ancillary₁ marks₁ : List ℕ} → FillsMany straight octets place records lost samples ancillary marks samples₁ ancillary₁ marks₁
        → FillsMany set octets place records lost samples ancillary marks samples₁ ancillary₁ marks₁
    unpacks_usual {lost} f =
        record {
          samples_are = f.samples_are ∙ ap (λ (l : List ℕ). over (replicate lost 0 ++ l) samples) (same_own sample_in);
          ancillary_is = f.ancillary_is ∙ ap (λ (l : List ℕ). over (replicate lost 0 ++ l) ancillary) (same_own ancillary_in);
          marks_are = f.marks_are ∙ ap (λ (l : List ℕ). over (replicate lost 2 ++ l) marks) (same_own mark_in);
        }
