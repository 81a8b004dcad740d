-- Laws of packing and unpacking: octets that are filled with subframes, a number that is read octet by octet, and what one subframe
-- without overhead is.
-- Assumes nothing.
use mathlib.Core.List.{List, ◌++◌}
use mathlib.Core.Path.{◌≡◌, refl, sym, ◌∙◌, ap, ap₂}
use Prim.Native.Nat.{ℕ, ◌+◌, ◌*◌, ◌/◌, ◌%◌, ◌^◌, ◌≤◌, ◌<◌, suc}
use native.Mathlib.Nat.{add-zero, div-one, mul-one, zero-mul, pow-suc, pow-le-pow_right, suc-mul, mul-le-mul_right, mul-le-mul_left}
use native.Mathlib.Numerals.{add-one}
use native.Mathlib.Omega.{arith}
use lib.Arith.{digits_lt}
use lib.ListN as L
use lib.ListN.{length, get_or, take, drop, length-drop}
use lib.Seq.{take-suc, get_or-drop}
use Rattle.runs.specs.Runs.{tab, joined, octets_of, read_on, number_of, over}
use Rattle.runs.proofs.Filling as filling
use Rattle.runs.proofs.Filling.{Filled, turned_front, done_front}
use Rattle.runs.proofs.Laws.{length_octets, length_tab, get_or_tab, read_snoc}
use Rattle.formats.specs.declared.Format.{Format}
use Rattle.cells.specs.Cells.{overhead_of, subframe_of, subframe_at, sample_in, ancillary_in}
use Rattle.units.specs.Code.{entry_octets, packed, Packable, number_at}
use Rattle.units.specs.Units.{subframe_octets}

-- octets filled up to an entry: its subframes so far, and then what they held
pub record Filling (base width : ℕ) (samples ancillary out₀ out : List ℕ) (i : ℕ) : Type 0 where
  pub within : i ≤ length samples
  pub is : out ≡ joined (entry_octets base width samples ancillary) i ++ drop (i * width) out₀
  pub same : length out ≡ length out₀

module _ (base width : ℕ) (samples ancillary out₀ : List ℕ) (ok : Packable base width samples ancillary out₀) where
  pub filling_begun : Filling base width samples ancillary out₀ out₀ 0
  unfolding joined
  filling_begun = record { within = omega arith; is = ap (λ (n : ℕ). drop n out₀) (sym (zero-mul width)); same = refl }

  pub filling_on : {out out₁ : List ℕ} {i four number : ℕ} → Filling base width samples ancillary out₀ out i → i < length samples
      → four ≡ get_or ancillary i 0
      → number ≡ get_or samples i 0 * base + four
      → out₁ ≡ take (i * width) out ++ octets_of width number ++ drop (i * width + width) out
      → length out₁ ≡ length out
      → Filling base width samples ancillary out₀ out₁ (i + 1)
  unfolding entry_octets
  filling_on {out} {out₁} {i} so_far less four_is number_is put kept =
      record {
        within = omega arith;
        is =
            filling.filled_on (entry_octets base width samples ancillary) width out₀ i (λ k. length_octets width _) so_far.is
            (put
            ∙ ap (λ (part : List ℕ). take (i * width) out ++ part ++ drop (i * width + width) out)
            (ap (octets_of width) (number_is ∙ ap (λ (n : ℕ). get_or samples i 0 * base + n) four_is)));
        same = kept ∙ so_far.same;
      }

  pub filling_done : {out : List ℕ} {i : ℕ} → Filling base width samples ancillary out₀ out i → length samples ≤ i
      → out ≡ packed base width samples ancillary out₀
  filling_done so_far all =
      so_far.is
      ∙ ap (λ (n : ℕ). joined (entry_octets base width samples ancillary) n ++ drop (n * width) out₀)
      (let end : _ ≡ length samples = omega (arith, so_far.within) in end)

-- a number read octet by octet: what is read so far
pub record Reading (unit : List ℕ) (at number i : ℕ) : Type 0 where
  pub is : number ≡ number_of (take i (drop at unit))
  pub below : number < 256 ^ i

module _ (unit : List ℕ) (at : ℕ) where
  pub reading_begun : Reading unit at 0 0
  unfolding read_on
  reading_begun = record { is = refl; below = omega arith }

  pub reading_fits : {number i : ℕ} → Reading unit at number i → i < 6 → number < 256 ^ 5
  reading_fits {number} {i} so_far less =
      let far : 256 ^ i ≤ 256 ^ 5 = pow-le-pow_right (omega arith) (let to : i ≤ 5 = omega arith in to) in
      omega (arith, so_far.below)

  pub reading_on : {number i octet : ℕ} → Reading unit at number i → at + i < length unit → octet ≡ get_or unit (at + i) 0 → octet < 256
      → Reading unit at (number * 256 + octet) (i + 1)
  reading_on {number} {i} {octet} so_far within octet_is small =
      record {
        is =
            ap₂ (λ (m n : ℕ). m * 256 + n) so_far.is (octet_is ∙ sym (get_or-drop at unit i 0))
            ∙ sym (read_snoc 0 (take i (drop at unit)) (get_or (drop at unit) i 0))
            ∙ ap (read_on 0) (sym (take-suc (drop at unit) i 0 (omega (arith, length-drop at unit))))
            ∙ ap (λ (n : ℕ). number_of (take n (drop at unit))) (sym (add-one i));
        below = rw (add-one i, pow-suc) (digits_lt so_far.below small);
      }

-- two runs filled side by side with what is read off the subframes
abbrev pub read_by : (ℕ → ℕ) → ℕ → List ℕ → ℕ → List ℕ
read_by part width unit entries = tab (λ entry. part (number_at width unit entry)) entries

module _ (part : ℕ → ℕ) (width : ℕ) (unit run₀ : List ℕ) (entries : ℕ) (room : entries ≤ length run₀) where
  abbrev read_length : length (read_by part width unit entries) ≡ entries
  read_length = length_tab _ entries

  pub entering_on : {run : List ℕ} {i v number : ℕ} → Filled run run₀ 0 (read_by part width unit entries) i → i < entries
      → number ≡ number_of (take width (drop (i * width) unit))
      → v ≡ part number
      → Filled (L.set run i v) run₀ 0 (read_by part width unit entries) (i + 1)
  unfolding number_at
  entering_on {run} {i} so_far less number_is v_is =
      turned_front run₀ (read_by part width unit entries) so_far (omega (arith, read_length)) (omega (arith, read_length))
      (v_is ∙ ap part number_is ∙ sym (get_or_tab _ entries less))

  pub entering_done : {run : List ℕ} {i : ℕ} → Filled run run₀ 0 (read_by part width unit entries) i → entries ≤ i
      → run ≡ over (read_by part width unit entries) run₀
  entering_done so_far all = done_front run₀ (read_by part width unit entries) so_far (omega (arith, read_length))

-- a format without overhead: its subframe, there and back
module _ (f : Format) (bare : f.overhead_bits ≡ 0) where
  pub subframe_is : (samples ancillary : List ℕ) (entry : ℕ)
      → entry_octets (2 ^ f.ancillary_bits) f.width samples ancillary entry ≡ subframe_octets f samples ancillary entry
  unfolding entry_octets subframe_octets subframe_of overhead_of
  subframe_is samples ancillary entry = ap (octets_of f.width) (rw (bare, mul-one) (omega arith))

  pub sample_is : (unit : List ℕ) (entry : ℕ) → number_at f.width unit entry / 2 ^ f.ancillary_bits ≡ sample_in f (subframe_at f unit entry)
  unfolding number_at sample_in subframe_at
  sample_is unit entry = rw (bare, add-zero)

  pub ancillary_is : (unit : List ℕ) (entry : ℕ)
      → number_at f.width unit entry % 2 ^ f.ancillary_bits ≡ ancillary_in f (subframe_at f unit entry)
  unfolding number_at ancillary_in subframe_at
  ancillary_is unit entry = rw (bare, div-one)

pub entry_within : {entries i : ℕ} (width : ℕ) (unit : List ℕ) → entries * width ≤ length unit → i < entries → i * width + width ≤ length unit
entry_within {entries} {i} width unit whole less =
    omega (arith, suc-mul i width, mul-le-mul_right {m = suc i} {n = entries} width less, whole)

module _ (base width : ℕ) (samples ancillary out₀ : List ℕ) (ok : Packable base width samples ancillary out₀) where
  pub entry_room : {i : ℕ} → i < length samples → i * width + width ≤ length out₀
  entry_room {i} less =
      omega (arith, suc-mul i width, mul-le-mul_right {m = suc i} {n = length samples} width less, ok.room)

  pub entry_fits : (i : ℕ) → get_or samples i 0 * base < 2 ^ 45
  entry_fits i =
      omega (arith, ok.small i, mul-le-mul_left {m = base} {n = 16} (get_or samples i 0) ok.base_to)
