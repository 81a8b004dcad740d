-- Laws of entries that add a bit alone: one more of them, and their octet.
-- Assumes nothing.
use mathlib.Core.List.{List}
use mathlib.Core.Path.{◌≡◌, refl, sym, ◌∙◌, ap, subst}
use Prim.Native.Nat.{ℕ, suc, ◌+◌, ◌*◌, ◌/◌, ◌%◌, ◌^◌, ◌≤◌, ◌<◌}
use native.Mathlib.Nat.{zero-mul, suc-mul, mul-le-mul_right, eq-or-lt_of_le, le_of_suc-le-suc}
use native.Mathlib.Numerals.{add-one}
use native.Mathlib.Omega.{arith}
use mathlib.Core.Logic.{⊎_elim}
use lib.Dec.{ltb}
use lib.ListN.{length, get_or}
use lib.Pow.{shl_exact, pow_mono}
use Rattle.status.specs.Eight.{low_bits, entry, Adding, Eight, Eights, with_eight}
use Rattle.status.specs.Step.{c_of, finished}
use Rattle.status.specs.declared.step.Block.{Block}
use Rattle.status.proofs.Running.{low_lt, rest, past_eight, done_eight}

-- what holds at each number below n, and at n
below_more : {P : ℕ → Type 0} (n : ℕ) → ((j : ℕ) → j < n → P j) → P n → (j : ℕ) → j < suc n → P j
below_more {P} n before here j h = ⊎_elim (λ e. subst P (sym e) here) (before j) (eq-or-lt_of_le (le_of_suc-le-suc h))

pub at_first : (run : List ℕ) (at step : ℕ) → entry run at step 0 ≡ get_or run at 0
at_first run at step = ap (λ (k : ℕ). get_or run k 0) (omega (arith, zero-mul step))

module _ (ancillary marks : List ℕ) (at step : ℕ) where
  pub adding_one : get_or ancillary at 0 ≤ 15 → get_or marks at 0 ≤ 1 → Adding ancillary marks at step 1
  adding_one a m =
      record {
        first = rw (at_first ancillary at step) a;
        plain = λ j p q. absurd (omega (arith, p, q));
        sound = below_more {P = λ (j : ℕ). entry marks at step j ≤ 1} 0 (λ j h. absurd (omega (arith, h))) (rw (at_first marks at step) m);
      }

  pub adding_more : (n : ℕ) → 0 < n → Adding ancillary marks at step n → entry ancillary at step n ≤ 7 → entry marks at step n ≤ 1
      → Adding ancillary marks at step (suc n)
  adding_more n some before a m =
      record {
        first = before.first;
        plain = λ j p q. below_more {P = λ (i : ℕ). 0 < i → entry ancillary at step i ≤ 7} n (λ i h r. before.plain i r h) (λ r. a) j q p;
        sound = below_more {P = λ (j : ℕ). entry marks at step j ≤ 1} n before.sound m;
      }

-- the octet begun, and with one number more
pub octet_begun : (f : ℕ → ℕ) (first : ℕ) → first ≡ f 0 → first / 4 % 2 ≡ low_bits f 1
unfolding low_bits
octet_begun f first e = omega (arith, e)

pub octet_more : (f : ℕ → ℕ) (j octet number : ℕ) → j < 8 → octet ≡ low_bits f j → number ≡ f j → f j ≤ 7
    → (octet + (number / 4 * 2 ^ j) % 2 ^ 8 ≡ low_bits f (suc j)) × (octet + (number / 4 * 2 ^ j) % 2 ^ 8 < 256)
unfolding low_bits
octet_more f j octet number h is e plain =
    let exact : (number / 4 * 2 ^ j) % 2 ^ 8 ≡ number / 4 * 2 ^ j = shl_exact {a = number / 4} 1 j 8 (omega (arith, e)) (omega arith) in
    let bit : number / 4 ≡ c_of (f j) = omega (arith, e) in
    let sum : octet + (number / 4 * 2 ^ j) % 2 ^ 8 ≡ low_bits f (suc j) = rw (exact, is, bit) refl in
    (sum, omega (arith, sum, low_lt f (suc j), pow_mono {i = suc j} {j = 8} (omega arith)))

-- the loop over the eight: so many of them are looked at
pub record Turned (ancillary marks : List ℕ) (at step octet place j : ℕ) : Type 0 where
  pub from : 1 ≤ j
  pub to : j ≤ 8
  pub place_is : place + step ≡ at + j * step
  pub octet_is : octet ≡ low_bits (entry ancillary at step) j
  pub small : octet < 256
  pub adding : Adding ancillary marks at step j

module _ (ancillary marks : List ℕ) (at step : ℕ) where
  pub turn_begun : get_or ancillary at 0 ≤ 15 → get_or marks at 0 ≤ 1 → Turned ancillary marks at step (get_or ancillary at 0 / 4 % 2) at 1
  turn_begun a m =
      record {
        from = omega arith;
        to = omega arith;
        place_is = omega arith;
        octet_is = octet_begun (entry ancillary at step) (get_or ancillary at 0) (sym (at_first ancillary at step));
        small = omega arith;
        adding = adding_one ancillary marks at step a m;
      }

  module _ {octet place j : ℕ} (t : Turned ancillary marks at step octet place j) where
    pub turn_place : at + 7 * step < length ancillary → j < 8 → place + step < length ancillary
    turn_place fit h = omega (arith, t.place_is, mul-le-mul_right {m = j} {n = 7} step (omega arith))

    turn_at : (run : List ℕ) → get_or run (place + step) 0 ≡ entry run at step j
    turn_at run = ap (λ (k : ℕ). get_or run k 0) t.place_is

    module _ (h : j < 8) (a : get_or ancillary (place + step) 0 ≤ 7) where
      on : (octet + (get_or ancillary (place + step) 0 / 4 * 2 ^ j) % 2 ^ 8 ≡ low_bits (entry ancillary at step) (suc j))
          × (octet + (get_or ancillary (place + step) 0 / 4 * 2 ^ j) % 2 ^ 8 < 256)
      on =
          octet_more (entry ancillary at step) j octet (get_or ancillary (place + step) 0) h t.octet_is (turn_at ancillary)
          (omega (arith, turn_at ancillary))

      pub turn_fits : octet + (get_or ancillary (place + step) 0 / 4 * 2 ^ j) % 256 < 256
      turn_fits = on.1

      pub turn_more : get_or marks (place + step) 0 ≤ 1
          → Turned ancillary marks at step (octet + (get_or ancillary (place + step) 0 / 4 * 2 ^ j) % 256) (place + step) (j + 1)
      turn_more m =
          rw add-one
          (record {
            from = omega arith;
            to = omega arith;
            place_is = omega (arith, t.place_is, suc-mul j step);
            octet_is = on.0;
            small = on.1;
            adding = adding_more ancillary marks at step j t.from t.adding (omega (arith, turn_at ancillary)) (omega (arith, turn_at marks));
          })

    pub turn_done : 8 ≤ j → Eight ancillary marks at step octet
    turn_done h =
        let is : j ≡ 8 = omega (arith, t.to) in
        record { adding = subst (Adding ancillary marks at step) is t.adding; is = t.octet_is ∙ ap (low_bits (entry ancillary at step)) is }

-- eight entries at once, as the code takes them
module _ (step : ℕ) (ancillary marks : List ℕ) (some : 1 ≤ step) (block next : Block) (at span octet : ℕ)
    (eights : Eights block.bits ancillary marks at step span octet) (long : length block.octets ≡ 24)
    (small : get_or block.octets (block.bits / 8) 0 < 256) (is : next ≡ with_eight block (ltb 7 (get_or ancillary at 0)) octet)
  where
    abbrev after-eight : Block
    after-eight = with_eight block (ltb 7 (entry ancillary at step 0)) (low_bits (entry ancillary at step) 8)

    next_is : next ≡ after-eight
    next_is = is ∙ (λ i. with_eight block (ltb 7 (sym (at_first ancillary at step) i)) (eights.eight.is i))

    place_on : at + 8 * step ≡ at + (span + step)
    place_on = omega (arith, eights.spans)

    pub eight_on : (next.bits ≡ 192 → ⊥) → rest step ancillary marks some block at ≡ rest step ancillary marks some next (at + (span + step))
    eight_on more =
        past_eight step ancillary marks some at eights.there eights.eight.adding block eights.within eights.whole long small
        (λ e. more (ap (λ (b : Block). b.bits) next_is ∙ e))
        ∙ (λ i. rest step ancillary marks some (sym next_is i) (place_on i))

    pub eight_hands : next.bits ≡ 192
        → rest step ancillary marks some block at ≡ record { stepped = finished next.octets; next = at + (span + step) }
    eight_hands all =
        done_eight step ancillary marks some at eights.there eights.eight.adding block eights.within eights.whole long small
        (ap (λ (b : Block). b.bits) (sym next_is) ∙ all)
        ∙ (λ i. record { stepped = finished (sym next_is i).octets; next = place_on i })
