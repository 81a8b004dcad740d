-- Placement there and back: the C×T used slots are the first ones, each used once.
-- Assumes nothing.
use Rattle.std.proofs.Common.{◌≡◌, ℕ, zero, suc, ◌+◌, ◌*◌, ◌/◌, ◌%◌, ◌<◌, Bool, true, false, List, get_or, sym, ap, ◌∙◌, ap₂, ⊎_elim, mod-lt, suc-mul, mul_comm, div-lt_iff_lt-mul, eq-or-lt_of_le, div-add-mod', arith, le-ltb, lt-ltb}
use lib.Arith.{digits_div, digits_mod, digits_lt}
use Rattle.cells.specs.Placement.{slot_of, slot_of_entry, entry_of_slot, carried}
use Rattle.cells.specs.Code.{step_on}

-- rows of `across` numbers read down instead: each number once, and back by the same with the two lengths swapped
swapped : ℕ → ℕ → ℕ → ℕ
swapped across down n = n % across * down + n / across

swapped_lt : (across down : ℕ) {n : ℕ} → zero < across → n < across * down → swapped across down n < across * down
unfolding swapped
swapped_lt across down {n} some h =
    digits_lt (mod-lt n some) ((div-lt_iff_lt-mul some).1 (rw (mul_comm across down) at h))

swapped_back : (across down : ℕ) {n : ℕ} → zero < across → n < across * down → swapped down across (swapped across down n) ≡ n
unfolding swapped
swapped_back across down {n} some h =
    let less : n / across < down = (div-lt_iff_lt-mul some).1 (rw (mul_comm across down) at h) in
    ap₂ (λ (high low : ℕ). high * across + low) (digits_mod (n % across) less) (digits_div (n % across) less)
    ∙ div-add-mod' n across

swapped_next : (across down : ℕ) {n : ℕ} → zero < across → n < across * down
    → step_on down (across * down) (swapped across down n) ≡ swapped across down (n + 1)
unfolding step_on swapped
swapped_next across down {n} some h =
    step (n / across) (n % across) (mod-lt n some) ((div-lt_iff_lt-mul some).1 (rw (mul_comm across down) at h))
    ∙ ap (λ (m : ℕ). (m + 1) % across * down + (m + 1) / across) (div-add-mod' n across)
  where
    -- a number told by its row and its place there
    step : (q r : ℕ) → r < across → q < down → step_on down (across * down) (r * down + q)
        ≡ (q * across + r + 1) % across * down + (q * across + r + 1) / across
    step q r inside early =
        ⊎_elim
        (λ e.
        let over : across * down ≡ r * down + down = ap (λ (m : ℕ). m * down) (sym e) ∙ suc-mul r down in
        let whole : q * across + r + 1 ≡ suc q * across + 0 = omega (arith, e, suc-mul q across) in
        rw (le-ltb (r * down + q + down) (across * down) (omega (arith, over)), whole, digits_mod (suc q) some, digits_div (suc q) some)
        (omega (arith, over)))
        (λ next.
        let within : suc r * down + q < across * down = digits_lt next early in
        let whole : q * across + r + 1 ≡ q * across + suc r = omega arith in
        rw (lt-ltb (r * down + q + down) (across * down) (omega (arith, within, suc-mul r down)), whole, digits_mod q next, digits_div q next)
        (omega (arith, suc-mul r down)))
        (eq-or-lt_of_le inside)

module _ (channels times : ℕ) (some : zero < channels) where
  pub slot_lt : (by_channel_of : Bool) {entry : ℕ} → entry < channels * times → slot_of_entry by_channel_of channels times entry < channels * times
  unfolding slot_of_entry slot_of swapped
  slot_lt true h = swapped_lt channels times some h
  slot_lt false {entry} h = rw (div-add-mod' entry channels) h

  pub entry_of_slot_lem : (by_channel_of : Bool) {entry : ℕ} → entry < channels * times
      → entry_of_slot by_channel_of channels times (slot_of_entry by_channel_of channels times entry) ≡ entry
  unfolding slot_of_entry slot_of entry_of_slot swapped
  entry_of_slot_lem true h = swapped_back channels times some h
  entry_of_slot_lem false {entry} h = div-add-mod' entry channels

module _ (channels times : ℕ) (some : zero < times) where
  pub entry_lt : (by_channel_of : Bool) {slot : ℕ} → slot < channels * times → entry_of_slot by_channel_of channels times slot < channels * times
  unfolding entry_of_slot swapped
  entry_lt true {slot} h = rw (mul_comm channels times) (swapped_lt times channels some (rw (mul_comm channels times) at h))
  entry_lt false h = h

  pub slot_of_entry_lem : (by_channel_of : Bool) {slot : ℕ} → slot < channels * times
      → slot_of_entry by_channel_of channels times (entry_of_slot by_channel_of channels times slot) ≡ slot
  unfolding slot_of_entry slot_of entry_of_slot swapped
  slot_of_entry_lem true {slot} h = swapped_back times channels some (rw (mul_comm channels times) at h)
  slot_of_entry_lem false {slot} h = div-add-mod' slot channels

-- the next place by a step on
module _ (channels times : ℕ) where
  pub slot_next : zero < channels → {entry : ℕ} → entry < channels * times
      → step_on times (channels * times) (slot_of_entry true channels times entry) ≡ slot_of_entry true channels times (entry + 1)
  unfolding slot_of_entry slot_of swapped
  slot_next some h = swapped_next channels times some h

  pub entry_next : zero < times → {slot : ℕ} → slot < channels * times
      → step_on channels (channels * times) (entry_of_slot true channels times slot) ≡ entry_of_slot true channels times (slot + 1)
  unfolding entry_of_slot swapped
  entry_next some {slot} h =
      ap (λ (n : ℕ). step_on channels n (entry_of_slot true channels times slot)) (mul_comm channels times)
      ∙ swapped_next times channels some (rw (mul_comm channels times) at h)

-- the slot of an entry carries it
pub carried_entry : (channels times : ℕ) (by_channel_of : Bool) (run : List ℕ) {entry : ℕ} → zero < channels → entry < channels * times
    → carried by_channel_of channels times run (slot_of_entry by_channel_of channels times entry) ≡ get_or run entry 0
unfolding carried
carried_entry channels times by_channel_of run some h =
    rw (lt-ltb _ _ (slot_lt channels times some by_channel_of h)) (ap (λ (i : ℕ). get_or run i 0) (entry_of_slot_lem channels times some by_channel_of h))
