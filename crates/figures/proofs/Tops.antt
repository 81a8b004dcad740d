-- The first two octets of a subframe and its last tell its mark.
-- Assumes nothing.
use mathlib.Core.Bool.{cond}
use mathlib.Core.List.{List}
use mathlib.Core.Path.{◌≡◌, sym, ◌∙◌, ap, ap₂}
use Prim.Native.Nat.{ℕ, zero, suc, ◌+◌, ◌*◌, ◌/◌, ◌%◌, ◌-◌, ◌^◌, ◌≤◌, ◌<◌}
use native.Mathlib.Nat.{div-one, mod-eq_of_lt}
use native.Mathlib.Omega.{arith}
use borrow.Author.Tests.{eq-eqb, ne_eqb, eqb-true, eqb-false}
use lib.Dec.{eqb}
use lib.ListN.{length, get_or}
use lib.Pow.{shr-shr}
use Rattle.runs.proofs.Laws.{split}
use Rattle.formats.specs.declared.Format.{Format}
use Rattle.formats.specs.Sound.{Sound}
use Rattle.guards.specs.Guards.{nine_of, protected_bits, v_in, v_of, ten_guard, guard_of}
use Rattle.guards.proofs.Laws.{nine_down, v_none, v_some}
use Rattle.cells.specs.Cells.{subframe_at, sample_in, ancillary_in, mark_in}
use Rattle.cells.proofs.Subframes.{slot_room, four_ancillary}
use Rattle.receiver.specs.Unpacking.{two_at}
use Rattle.receiver.proofs.Reading.{read, read_more, one_read, two_read}
use Rattle.tables.specs.Marks.{mark_bit, MarksOf}
use Rattle.figures.specs.Stretch.{top_nine, key_of, low_of}

-- octets of a number from the highest on
module _ (octets : List ℕ) (at : ℕ) (low : (i : ℕ) → get_or octets i 0 < 256) where
  -- more of them don't change the highest
  read_top : (i j : ℕ) → at + (i + j) ≤ length octets → read octets at (i + j) / 2 ^ (8 * j) ≡ read octets at i
  read_top i zero within =
      let none : i + 0 ≡ i = omega arith in
      ap (λ (n : ℕ). read octets at n / 1) none ∙ div-one (read octets at i)
  read_top i (suc j) within =
      let next : i + suc j ≡ suc (i + j) = omega arith in
      let bits : 8 * suc j ≡ 8 + 8 * j = omega arith in
      let more = read_more octets at (i + j) (omega arith) in
      let last = low (at + (i + j)) in
      let off : read octets at (suc (i + j)) / 2 ^ 8 ≡ read octets at (i + j) = omega (arith, more, last) in
      ap₂ (λ (n k : ℕ). read octets at n / 2 ^ k) next bits
      ∙ sym (shr-shr (read octets at (suc (i + j))) 8 (8 * j))
      ∙ ap (λ (n : ℕ). n / 2 ^ (8 * j)) off
      ∙ read_top i j (omega arith)

  -- the last one is the lowest
  pub read_last : (w : ℕ) → 1 ≤ w → at + w ≤ length octets → read octets at w % 256 ≡ get_or octets (at + (w - 1)) 0
  read_last w some within =
      let whole : suc (w - 1) ≡ w = omega arith in
      let step = read_more octets at (w - 1) (omega arith) in
      let last = low (at + (w - 1)) in
      ap (λ (n : ℕ). read octets at n % 256) (sym whole) ∙ omega (arith, step, last)

  first_octet : (w : ℕ) → 1 ≤ w → at + w ≤ length octets → read octets at w / 2 ^ (8 * (w - 1)) ≡ get_or octets at 0
  first_octet w some within =
      let whole : 1 + (w - 1) ≡ w = omega arith in
      ap (λ (n : ℕ). read octets at n / 2 ^ (8 * (w - 1))) (sym whole)
      ∙ read_top 1 (w - 1) (omega arith)
      ∙ sym (one_read octets at (omega arith))

  first_two : (w : ℕ) → 2 ≤ w → at + w ≤ length octets → read octets at w / 2 ^ (8 * (w - 2)) ≡ two_at octets at
  first_two w some within =
      let whole : 2 + (w - 2) ≡ w = omega arith in
      ap (λ (n : ℕ). read octets at n / 2 ^ (8 * (w - 2))) (sym whole)
      ∙ read_top 2 (w - 2) (omega arith)
      ∙ sym (two_read octets at (omega arith))

-- a format with overhead has two octets a slot at least
pub wide_two : {f : Format} → Sound f → f.overhead_bits ≡ 4 → 2 ≤ f.width
wide_two s overhead = omega (arith, s.bits, s.sample_from, overhead)

-- the subframe of a slot
module _ {f : Format} (s : Sound f) (overhead : f.overhead_bits ≡ 4) (cell : List ℕ) (whole : length cell ≡ 48) (slot : ℕ)
    (within : slot < f.slots) (low : (i : ℕ) → get_or cell i 0 < 256)
  where
    abbrev at : ℕ
    at = slot * f.width

    abbrev sub : ℕ
    sub = subframe_at f cell slot

    slot_fits : at + f.width ≤ length cell
    slot_fits = omega (arith, slot_room s within, whole)

    two_wide : 2 ≤ f.width
    two_wide = wide_two s overhead

    abbrev first : ℕ
    first = get_or cell at 0

    abbrev second : ℕ
    second = get_or cell (at + 1) 0

    abbrev last : ℕ
    last = get_or cell (at + (f.width - 1)) 0

    pub last_is : sub % 256 ≡ last
    unfolding subframe_at
    last_is = read_last cell at low f.width s.width_from slot_fits

    -- eight sample bits
    nine_short : f.sample_bits ≡ 8 → first * 2 ≡ nine_of f.sample_bits (sample_in f sub)
    unfolding subframe_at sample_in nine_of
    nine_short eight =
        let below : f.ancillary_bits + f.overhead_bits ≡ 8 * (f.width - 1) = omega (arith, s.bits, eight) in
        let sample : sample_in f sub ≡ first =
        ap (λ (n : ℕ). sub / 2 ^ n) below ∙ first_octet cell at low f.width s.width_from slot_fits in
        let small = low at in
        rw (eight, sample) (omega (arith, small))

    -- more
    nine_long : (f.sample_bits ≡ 8 → ⊥) → first * 2 + second / 128 ≡ nine_of f.sample_bits (sample_in f sub)
    unfolding subframe_at sample_in
    nine_long more =
        let nine-bits : 9 ≤ f.sample_bits = omega (arith, s.sample_from, more) in
        let over : ℕ = f.ancillary_bits + f.overhead_bits in
        let below : over + (f.sample_bits - 9) ≡ 8 * (f.width - 2) + 7 = omega (arith, s.bits, two_wide, nine-bits) in
        let a = low at in
        let b = low (at + 1) in
        let top : sub / 2 ^ over / 2 ^ (f.sample_bits - 9) ≡ two_at cell at / 2 ^ 7 =
        shr-shr sub over (f.sample_bits - 9)
        ∙ ap (λ (n : ℕ). sub / 2 ^ n) below
        ∙ sym (shr-shr sub (8 * (f.width - 2)) 7)
        ∙ ap (λ (n : ℕ). n / 2 ^ 7) (first_two cell at low f.width two_wide slot_fits) in
        let small : first * 2 + second / 128 ≡ (first * 256 + second) / 128 % 512 = omega (arith, a, b) in
        small
        ∙ ap (λ (n : ℕ). n % 512) (sym top)
        ∙ nine_down f.sample_bits (sample_in f sub) nine-bits

    pub nine_is : top_nine f.sample_bits first second ≡ nine_of f.sample_bits (sample_in f sub)
    unfolding top_nine
    nine_is =
        split (eqb f.sample_bits 8)
        (λ e. rw e (nine_short (eqb-true f.sample_bits 8 e)))
        (λ e. rw e (nine_long (eqb-false f.sample_bits 8 e)))

    -- V is in the last octet
    pub v_there : (nine : ℕ) → protected_bits nine (v_of f.ancillary_bits (last / 16))
        ≡ protected_bits nine (v_of f.ancillary_bits (ancillary_in f sub))
    unfolding protected_bits ancillary_in
    v_there nine =
        split (eqb f.ancillary_bits 0)
        (λ e.
        let none : f.ancillary_bits ≡ 0 = eqb-true f.ancillary_bits 0 e in
        ap (protected_bits nine) (v_none (last / 16) none) ∙ sym (ap (protected_bits nine) (v_none (ancillary_in f sub) none)))
        (λ e.
        let any : f.ancillary_bits ≡ 0 → ⊥ = eqb-false f.ancillary_bits 0 e in
        let four-bits : last / 16 % 2 ≡ sub / 2 ^ 4 % 2 ^ 4 % 2 = omega (arith, last_is) in
        let v : last / 16 % 2 ≡ ancillary_in f sub % 2 =
        four-bits ∙ sym (ap₂ (λ (o a : ℕ). sub / 2 ^ o % 2 ^ a % 2) overhead (four_ancillary s any)) in
        ap (protected_bits nine) (v_some (last / 16) any)
        ∙ ap (λ (n : ℕ). nine * 2 + n) v
        ∙ sym (ap (protected_bits nine) (v_some (ancillary_in f sub) any)))

    -- the bits that are protected, by the key and the low bits
    abbrev key : ℕ
    key = key_of f first second

    abbrev five : ℕ
    five = low_of f second last

    -- without V
    module _ (bare : f.ancillary_bits ≡ 0) where
      long : f.sample_bits ≡ 8 → ⊥
      long eight = omega (arith, s.bits, eight, bare, overhead)

      bare_nine : top_nine f.sample_bits first second ≡ first * 2 + second / 128
      unfolding top_nine
      bare_nine = rw (ne_eqb f.sample_bits 8 long)

      bare_key : key ≡ first
      unfolding key_of
      bare_key = rw (eq-eqb f.ancillary_bits 0 bare)

      bare_five : five ≡ last % 16 + second / 128 * 16
      unfolding low_of
      bare_five = rw (eq-eqb f.ancillary_bits 0 bare)

      by_key_bare : key * 2 + five / 16 % 2 ≡ protected_bits (top_nine f.sample_bits first second) (v_of f.ancillary_bits (last / 16))
      unfolding protected_bits
      by_key_bare =
          let b = low (at + 1) in
          let bits : key * 2 + five / 16 % 2 ≡ first * 2 + second / 128 = omega (arith, bare_key, bare_five, b) in
          bits ∙ sym bare_nine ∙ sym (ap (protected_bits (top_nine f.sample_bits first second)) (v_none (last / 16) bare))

    -- with V
    module _ (any : f.ancillary_bits ≡ 0 → ⊥) where
      v_key : key ≡ top_nine f.sample_bits first second
      unfolding key_of
      v_key = rw (ne_eqb f.ancillary_bits 0 any)

      v_five : five ≡ last % 32
      unfolding low_of
      v_five = rw (ne_eqb f.ancillary_bits 0 any)

      by_key_v : key * 2 + five / 16 % 2 ≡ protected_bits (top_nine f.sample_bits first second) (v_of f.ancillary_bits (last / 16))
      unfolding protected_bits
      by_key_v =
          let nine : ℕ = top_nine f.sample_bits first second in
          let bits : key * 2 + five / 16 % 2 ≡ nine * 2 + last / 16 % 2 = omega (arith, v_key, v_five) in
          bits ∙ sym (ap (protected_bits nine) (v_some (last / 16) any))

    either : {P : Type 0} → (f.ancillary_bits ≡ 0 → P) → ((f.ancillary_bits ≡ 0 → ⊥) → P) → P
    either none any =
        split (eqb f.ancillary_bits 0)
        (λ e. none (eqb-true f.ancillary_bits 0 e))
        (λ e. any (eqb-false f.ancillary_bits 0 e))

    protected_is : protected_bits key (v_in (five / 16))
        ≡ protected_bits (nine_of f.sample_bits (sample_in f sub)) (v_of f.ancillary_bits (ancillary_in f sub))
    unfolding protected_bits
    protected_is =
        either by_key_bare by_key_v
        ∙ v_there (top_nine f.sample_bits first second)
        ∙ ap (λ (n : ℕ). protected_bits n (v_of f.ancillary_bits (ancillary_in f sub))) nine_is

    low_bits : five % 8 ≡ sub % 8
    low_bits =
        either (λ bare. omega (arith, bare_five bare, last_is)) (λ any. omega (arith, v_five any, last_is))

    pub mark_is : mark_bit key (v_in (five / 16)) five ≡ mark_in f sub
    unfolding mark_bit mark_in guard_of
    mark_is =
        ap₂ (λ (n p : ℕ). cond (eqb n (ten_guard p)) 0 1) low_bits protected_is
        ∙ sym (rw (ne_eqb f.overhead_bits 0 (λ none. omega (arith, none, overhead))))

    -- by the table's answer to the key
    pub mark_by : {k bits n : ℕ} → k ≡ key → k < 512 → MarksOf (k % 512) bits × (bits < 4294967296) → n ≡ five → n < 32
        → (bits / 2 ^ n % 2 ≡ mark_in f sub) × (bits / 2 ^ n % 2 ≤ 1)
    mark_by {k} {bits} {n} key-is small marks five-is few =
        let same : k % 512 ≡ key = mod-eq_of_lt small ∙ key-is in (
          marks.0 n few
              ∙ ap₂ (λ (a b : ℕ). mark_bit a (v_in (b / 16)) b) same five-is
              ∙ mark_is,
          omega arith,
        )
