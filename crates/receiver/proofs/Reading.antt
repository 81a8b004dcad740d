-- Laws of reading a cell: octets read into a number, its last bits, bits gathered, and where the first and the last entry are.
-- Assumes nothing.
use mathlib.Core.Bool.{Bool, true, false}
use mathlib.Core.List.{List}
use mathlib.Core.Path.{◌≡◌, refl, sym, ◌∙◌, ap, ap₂, subst}
use Prim.Native.Nat.{ℕ, zero, suc, ◌+◌, ◌*◌, ◌/◌, ◌%◌, ◌-◌, ◌^◌, ◌≤◌, ◌<◌}
use native.Mathlib.Nat.{pow-suc, mod-eq_of_lt, div-eq_of_lt, add-zero, zero-add, zero-mul, suc-mul, div-add-mod', le_of_suc-le-suc}
use native.Mathlib.Numerals.{add-one}
use native.Mathlib.Omega.{arith}
use lib.Arith.{digits_lt, digits_div, digits_mod}
use lib.ListN.{length, get_or, take, drop, length-drop}
use lib.Pow.{pow_mono}
use lib.Seq.{take-suc, get_or-drop}
use Rattle.runs.specs.Runs.{read_on, number_of}
use Rattle.runs.proofs.Laws.{read_snoc}
use Rattle.numbers.specs.Numbers.{gathered}
use Rattle.formats.specs.declared.Format.{Format}
use Rattle.formats.specs.Sound.{Sound}
use Rattle.cells.proofs.Subframes.{slot_room}
use Rattle.cells.specs.Cells.{subframe_at}
use Rattle.cells.specs.Placement.{slot_of, slot_of_entry, entry_of_slot}
use Rattle.cells.specs.Code.{turned_two, turned_four}
use Rattle.cells.proofs.Places.{turned_halves}
use Rattle.cells.proofs.Placement.{slot_lt, entry_of_slot_lem}
use Rattle.receiver.specs.Unpacking.{two_at}

-- the number of the octets from `at` on, one octet more at a time
module _ (octets : List ℕ) (at : ℕ) where
  abbrev pub read : ℕ → ℕ
  read i = number_of (take i (drop at octets))

  pub read_more : (i : ℕ) → at + i < length octets → read (suc i) ≡ read i * 256 + get_or octets (at + i) 0
  read_more i within =
      ap (read_on 0) (take-suc (drop at octets) i 0 (omega (arith, length-drop at octets)))
      ∙ read_snoc 0 (take i (drop at octets)) (get_or (drop at octets) i 0)
      ∙ ap (λ (x : ℕ). read i * 256 + x) (get_or-drop at octets i 0)

  -- the last octet alone has the sequencing bit
  pub last_bit : {w : ℕ} → 1 ≤ w → at + w ≤ length octets → get_or octets (at + (w - 1)) 0 / 8 % 2 ≡ read w / 8 % 2
  last_bit {w} some within =
      let whole : suc (w - 1) ≡ w = omega arith in
      let step = read_more (w - 1) (omega arith) in
      let last : get_or octets (at + (w - 1)) 0 / 8 % 2 ≡ read (suc (w - 1)) / 8 % 2 = omega arith in
      last ∙ ap (λ (n : ℕ). read n / 8 % 2) whole

  pub one_read : at < length octets → get_or octets at 0 ≡ read 1
  unfolding read_on
  one_read h = sym (read_more 0 (rw (add-zero at) h) ∙ zero-add _ ∙ ap (λ (n : ℕ). get_or octets n 0) (add-zero at))

  pub two_more : (i : ℕ) → at + i + 2 ≤ length octets → read i * 65536 + two_at octets (at + i) ≡ read (suc (suc i))
  two_more i h =
      let place : at + suc i ≡ at + i + 1 = omega arith in
      sym
      (read_more (suc i) (omega arith)
      ∙ ap₂ (λ (x y : ℕ). x * 256 + y) (read_more i (omega arith)) (ap (λ (n : ℕ). get_or octets n 0) place)
      ∙ weights (read i) (get_or octets (at + i) 0) (get_or octets (at + i + 1) 0))
    where
      weights : (x y z : ℕ) → (x * 256 + y) * 256 + z ≡ x * 65536 + (y * 256 + z)
      weights x y z = omega arith

  pub two_read : at + 2 ≤ length octets → two_at octets at ≡ read 2
  unfolding read_on
  two_read h = sym (sym (two_more 0 (rw (add-zero at) h)) ∙ zero-add _ ∙ ap (two_at octets) (add-zero at))

  pub three_read : at + 3 ≤ length octets → two_at octets at * 256 + get_or octets (at + 2) 0 ≡ read 3
  three_read h = ap (λ (n : ℕ). n * 256 + get_or octets (at + 2) 0) (two_read (omega arith)) ∙ sym (read_more 2 (omega arith))

  pub four_read : at + 4 ≤ length octets → two_at octets at * 65536 + two_at octets (at + 2) ≡ read 4
  four_read h = ap (λ (n : ℕ). n * 65536 + two_at octets (at + 2)) (two_read (omega arith)) ∙ two_more 2 (omega arith)

  pub six_read : at + 6 ≤ length octets
      → (two_at octets at * 65536 + two_at octets (at + 2)) * 65536 + two_at octets (at + 4) ≡ read 6
  six_read h = ap (λ (n : ℕ). n * 65536 + two_at octets (at + 4)) (four_read (omega arith)) ∙ two_more 4 (omega arith)

-- a slot's subframe, by the width
pub by_width : (f : Format) (cell : List ℕ) (slot : ℕ) {w v : ℕ} → f.width ≡ w → v ≡ number_of (take w (drop (slot * w) cell))
    → v ≡ subframe_at f cell slot
unfolding subframe_at
by_width f cell slot width_is e = e ∙ ap (λ (n : ℕ). number_of (take n (drop (slot * n) cell))) (sym width_is)

module _ {f : Format} (s : Sound f) where
  pub slot_at : {slot w : ℕ} (cell : List ℕ) → length cell ≡ 48 → slot < f.slots → f.width ≡ w → slot * w + w ≤ length cell
  slot_at {slot} cell whole less width_is =
      rw whole (subst (λ (n : ℕ). slot * n + n ≤ 48) width_is (slot_room s less))

  -- the width that is none of the others
  pub one_left : (f.width ≡ 4 → ⊥) → (f.width ≡ 3 → ⊥) → (f.width ≡ 2 → ⊥) → (f.width ≡ 6 → ⊥) → f.width ≡ 1
  one_left four three two six =
      left_of_lem f.width s.width_from s.width_to four three two six
      (λ e. let fifths : f.slots * 5 ≡ 48 = ap (λ (n : ℕ). f.slots * n) (sym e) ∙ s.cell in omega (arith, fifths))
    where
      left_of_lem : (w : ℕ) → 1 ≤ w → w ≤ 6 → (w ≡ 4 → ⊥) → (w ≡ 3 → ⊥) → (w ≡ 2 → ⊥) → (w ≡ 6 → ⊥) → (w ≡ 5 → ⊥) → w ≡ 1
      left_of_lem w from to four three two six five = omega arith

-- octets read low end first and turned round
pub two_turned : (a b : ℕ) → a < 256 → b < 256 → turned_two (a + b * 256) ≡ a * 256 + b
two_turned a b ha hb =
    let whole : a + b * 256 ≡ b * 256 + a = omega arith in
    rw (whole, digits_mod b ha, digits_div b ha, mod-eq_of_lt hb)

pub four_turned : (a b c d : ℕ) → a < 256 → b < 256 → c < 256 → d < 256
    → turned_four (a + b * 256 + c * 65536 + d * 16777216) ≡ (a * 256 + b) * 65536 + (c * 256 + d)
four_turned a b c d ha hb hc hd =
    let whole : a + b * 256 + c * 65536 + d * 16777216 ≡ (c + d * 256) * 65536 + (a + b * 256) = omega arith in
    let low : a + b * 256 < 65536 = omega arith in
    ap turned_four whole
    ∙ turned_halves ((c + d * 256) * 65536 + (a + b * 256))
    ∙ ap₂ (λ (x y : ℕ). turned_two x * 65536 + turned_two y) (digits_mod (c + d * 256) low) (digits_div (c + d * 256) low)
    ∙ ap₂ (λ (x y : ℕ). x * 65536 + y) (two_turned a b ha hb) (two_turned c d hc hd)

-- bits gathered one more
module _ (bit : ℕ → ℕ) where
  pub record Gathers (number n : ℕ) : Type 0 where
    pub within : n ≤ 8
    pub is : number ≡ gathered bit n
    pub below : number < 2 ^ n

  pub gathers_begun : Gathers 0 0
  unfolding gathered
  gathers_begun = record { within = omega arith; is = refl; below = omega arith }

  pub gathers_low : {number n : ℕ} → Gathers number n → n < 8 → number % 128 ≡ number
  gathers_low so_far h =
      let far : 2 ^ _ ≤ 2 ^ 7 = pow_mono {j = 7} (le_of_suc-le-suc h) in
      let less = so_far.below in
      mod-eq_of_lt (omega arith)

  pub gathers_on : {number n new : ℕ} → Gathers number n → n < 8 → new ≡ bit n → new < 2
      → Gathers (number % 128 * 2 + new) (n + 1)
  unfolding gathered
  gathers_on {number} {n} {new} so_far h e small =
      let low : number % 128 * 2 + new ≡ number * 2 + new = ap (λ (x : ℕ). x * 2 + new) (gathers_low so_far h) in
      record {
        within = omega arith;
        is = low ∙ ap₂ (λ (x y : ℕ). x * 2 + y) so_far.is e ∙ ap (gathered bit) (sym (add-one n));
        below = rw (low, add-one n, pow-suc) (digits_lt so_far.below small);
      }

-- the last entry is in the last used slot, and the others in the slots before it
module _ (by_channel_of : Bool) (channels times : ℕ) (some : 1 ≤ channels) (any : 1 ≤ times) where
  last_by : (b : Bool) → slot_of_entry b channels times (channels * times - 1) ≡ channels * times - 1
  unfolding slot_of_entry slot_of
  last_by true =
      let rows : suc (times - 1) * channels ≡ times * channels
      = ap (λ (n : ℕ). n * channels) (let e : suc (times - 1) ≡ times = omega arith in e) in
      let columns : suc (channels - 1) * times ≡ channels * times
      = ap (λ (n : ℕ). n * times) (let e : suc (channels - 1) ≡ channels = omega arith in e) in
      let whole : channels * times - 1 ≡ (times - 1) * channels + (channels - 1)
      = omega (arith, rows, suc-mul (times - 1) channels) in
      let inside : channels - 1 < channels = omega arith in
      rw (whole, digits_mod (times - 1) inside, digits_div (times - 1) inside)
      (omega (arith, rows, columns, suc-mul (times - 1) channels, suc-mul (channels - 1) times))
  last_by false = div-add-mod' (channels * times - 1) channels

  pub slot_last : slot_of_entry by_channel_of channels times (channels * times - 1) ≡ channels * times - 1
  slot_last = last_by by_channel_of

  pub slot_before : {entry : ℕ} → entry < channels * times - 1 → slot_of_entry by_channel_of channels times entry < channels * times - 1
  slot_before {entry} less =
      let within = slot_lt channels times some by_channel_of {entry = entry} (omega arith) in
      let apart : slot_of_entry by_channel_of channels times entry ≡ channels * times - 1 → ⊥
      = λ e.
      let same : entry ≡ channels * times - 1
      = sym (entry_of_slot_lem channels times some by_channel_of (omega arith))
      ∙ ap (entry_of_slot by_channel_of channels times) (e ∙ sym slot_last)
      ∙ entry_of_slot_lem channels times some by_channel_of (omega arith) in
      omega (arith, same, less) in
      omega (arith, within, apart)

-- the first slot
pub walk_begun : (by_channel_of : Bool) (channels times : ℕ) → zero < channels → 0 ≡ slot_of_entry by_channel_of channels times 0
unfolding slot_of_entry slot_of
walk_begun false channels times some = sym (div-add-mod' 0 channels)
walk_begun true channels times some = rw (mod-eq_of_lt some, div-eq_of_lt some, zero-mul times)
