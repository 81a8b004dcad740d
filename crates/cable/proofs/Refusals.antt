-- What each way out of import and export answers, by the checks that it passed.
-- Assumes nothing.
use mathlib.Core.Bool.{true, false, not, ◌||◌}
use mathlib.Core.List.{List, [], ◌∷◌}
use mathlib.Core.Path.{◌≡◌, ◌∙◌, ap}
use Prim.Native.Nat.{ℕ, ◌^◌, ◌≤◌, ◌<◌}
use borrow.Author.Tests
use borrow.Author.Tests.{eq-eqb, ne_eqb, eqb-true, ltb-false, leb-false}
use lib.Dec.{eqb, leb, ltb}
use Rattle.runs.proofs.Laws.{past, neither}
use Rattle.cable.specs.Slots.{sample_in, ancillary_in, parity_of, subframe_of}
use Rattle.cable.specs.Frames.{
  first,
  second,
  preamble_y,
  is_frame,
  begins_by,
  import_refusal,
  imported,
  not_imported,
  import_of,
  is_too_large,
  b_of,
  export_refusal,
  preamble_of,
  exported,
  not_exported,
  export_of,
}

module _ (preambles subframes : List ℕ) where
  -- nothing is refused
  pub import_0 : is_frame (first preambles) (second preambles) ≡ true → (parity_of (first subframes) ≡ 1 → ⊥) → (parity_of (second subframes) ≡ 1 → ⊥)
      → 0 ≡ import_refusal preambles subframes
  unfolding import_refusal
  import_0 frame even both = rw (frame, ne_eqb _ _ even, ne_eqb _ _ both)

  pub import_refused : {n : ℕ} → n ≡ import_refusal preambles subframes → (n ≡ 0 → ⊥) → not_imported n ≡ import_of preambles subframes
  unfolding import_of
  import_refused is some = rw (← is, ne_eqb _ _ some)

  pub import_taken : import_refusal preambles subframes ≡ 0 → imported preambles subframes ≡ import_of preambles subframes
  unfolding import_of
  import_taken none = rw none

  -- what the code makes of it
  pub import_made : import_refusal preambles subframes ≡ 0 → {b s t v w : ℕ} → b ≡ begins_by (first preambles)
      → s ≡ sample_in (first subframes) → t ≡ sample_in (second subframes)
      → v ≡ ancillary_in b (first subframes) → w ≡ ancillary_in b (second subframes)
      → record { refusal = 0; samples = s ∷ t ∷ []; ancillary = v ∷ w ∷ [] } ≡ import_of preambles subframes
  import_made none begins is-s is-t is-v is-w =
      (λ i.
      record {
        refusal = 0;
        samples = is-s i ∷ is-t i ∷ [];
        ancillary =
            (is-v ∙ ap (λ (n : ℕ). ancillary_in n (first subframes)) begins) i
            ∷ (is-w ∙ ap (λ (n : ℕ). ancillary_in n (second subframes)) begins) i
            ∷ [];
      })
      ∙ import_taken none

module _ (samples ancillary : List ℕ) where
  -- nothing is refused
  pub export_0 : is_too_large (first samples) (first ancillary) ≡ false → is_too_large (second samples) (second ancillary) ≡ false
      → b_of (first ancillary) ≡ b_of (second ancillary) → 0 ≡ export_refusal samples ancillary
  unfolding export_refusal
  export_0 fits both same = rw (fits, both, eq-eqb _ _ same)

  pub export_refused : {n : ℕ} → n ≡ export_refusal samples ancillary → (n ≡ 0 → ⊥) → not_exported n ≡ export_of samples ancillary
  unfolding export_of
  export_refused is some = rw (← is, ne_eqb _ _ some)

  pub export_taken : export_refusal samples ancillary ≡ 0 → exported samples ancillary ≡ export_of samples ancillary
  unfolding export_of
  export_taken none = rw none

  -- what the code makes of it
  pub export_made : export_refusal samples ancillary ≡ 0 → {p s t : ℕ} → p ≡ preamble_of (b_of (first ancillary))
      → s ≡ subframe_of (first samples) (first ancillary) → t ≡ subframe_of (second samples) (second ancillary)
      → record { refusal = 0; preambles = p ∷ preamble_y ∷ []; subframes = s ∷ t ∷ [] } ≡ export_of samples ancillary
  export_made none is-p is-s is-t =
      (λ i. record { refusal = 0; preambles = is-p i ∷ preamble_y ∷ []; subframes = is-s i ∷ is-t i ∷ [] }) ∙ export_taken none

-- what passes the checks of an export
pub record Fits (samples ancillary : List ℕ) : Type 0 where
  pub first_sample : first samples < 2 ^ 24
  pub second_sample : second samples < 2 ^ 24
  pub first_ancillary : first ancillary ≤ 15
  pub second_ancillary : second ancillary ≤ 15
  pub same_b : b_of (first ancillary) ≡ b_of (second ancillary)

small : (sample ancillary : ℕ) → is_too_large sample ancillary ≡ false → (sample < 2 ^ 24) × (ancillary ≤ 15)
unfolding is_too_large
small sample ancillary fits =
    let two = neither (leb (2 ^ 24) sample) (ltb 15 ancillary) fits in (leb-false (2 ^ 24) sample two.0, ltb-false 15 ancillary two.1)

pub export_fits : (samples ancillary : List ℕ) → export_refusal samples ancillary ≡ 0 → Fits samples ancillary
unfolding export_refusal
export_fits samples ancillary none =
    let sixth = past (is_too_large (first samples) (first ancillary) || is_too_large (second samples) (second ancillary)) 5 _ none in
    let both = neither (is_too_large (first samples) (first ancillary)) (is_too_large (second samples) (second ancillary)) sixth.0 in
    let last = past (not (eqb (b_of (first ancillary)) (b_of (second ancillary)))) 28 _ sixth.1 in
    record {
      first_sample = (small _ _ both.0).0;
      second_sample = (small _ _ both.1).0;
      first_ancillary = (small _ _ both.0).1;
      second_ancillary = (small _ _ both.1).1;
      same_b = eqb-true _ _ (Tests.not-false _ last.0);
    }
