-- Laws of the packing octet: what the two calls come to, there and back, and that 6.3.2 moves no slot.
-- Assumes nothing.
use mathlib.Core.Bool.{false, cond, ◌||◌}
use mathlib.Core.List.{List, [], ◌∷◌}
use mathlib.Core.Path.{◌≡◌, sym, ◌∙◌, ap, ap₂}
use Prim.Native.Nat.{ℕ, ◌+◌, ◌*◌, ◌-◌, ◌/◌, ◌%◌, ◌≤◌, ◌<◌}
use native.Mathlib.Nat.{div-add-mod'}
use native.Mathlib.Omega.{arith}
use borrow.Author.Tests.{eq-eqb, ne_eqb, lt-ltb, le-ltb, eqb-true, eqb-false, leb-true, leb-false}
use lib.Arith.{digits_div}
use lib.Dec.{eqb, leb, ltb}
use Rattle.runs.proofs.Laws.{split}
use Rattle.formats.specs.declared.Format.{Format}
use Rattle.formats.specs.Settled.{Settled}
use Rattle.formats.specs.Formats.{slots_of, times_of, settings_refusal}
use Rattle.formats.specs.Settings.{settings_of}
use Rattle.formats.proofs.Laws.{Settles, settles_all, listed_format, slots_listed, given_refusal, given_none, given_settled}
use Rattle.cells.specs.Placement.{slot_of}
use Rattle.management.specs.Packing.{
  channels_in,
  order_in,
  format_octet,
  packing_octet,
  port_refusal,
  port_settings,
  Sets,
  order_coded,
  packing_of,
  Packs,
}

-- a record's settings, by what its two octets settle
module _ (port : List ℕ) {format packing : ℕ} {set : Settled} (is-format : format ≡ format_octet port) (is-packing : packing ≡ packing_octet port)
    (given : set ≡ settings_of format (packing % 64) (packing / 64)) where
  refusal_is : set.refusal ≡ port_refusal port
  unfolding port_refusal
  refusal_is =
      given_refusal format (packing % 64) (packing / 64) 0 given
      ∙ ap₂ (λ (f p : ℕ). settings_refusal f (p % 64) (p / 64)) is-format is-packing

  pub sets_refused : (set.refusal ≡ 0 → ⊥) → Sets port set.refusal (0 ∷ 0 ∷ 0 ∷ [])
  unfolding port_settings
  sets_refused some =
      let other : eqb (port_refusal port) 0 ≡ false = ne_eqb (port_refusal port) 0 (λ none. some (refusal_is ∙ none)) in
      record { refused = refusal_is; leaves = rw other }

  pub sets_settled : set.refusal ≡ 0 → Sets port 0 (format ∷ packing % 64 ∷ packing / 64 ∷ [])
  unfolding port_settings
  sets_settled none =
      let no_refusal : 0 ≡ port_refusal port = sym none ∙ refusal_is in
      record {
        refused = no_refusal;
        leaves = rw (← no_refusal) (ap₂ (λ (f p : ℕ). f ∷ p % 64 ∷ p / 64 ∷ []) is-format is-packing);
      }

-- 6.3.2 codes no higher order
order_less : (slots channels order : ℕ) → order_coded slots channels order ≤ order
unfolding order_coded
order_less slots channels order = split (eqb channels 1 || eqb channels slots) (λ t. rw t (omega arith)) (λ t. rw t (omega arith))

-- a packing octet, by what a format, C and order settle
module _ (format channels order : ℕ) {set : Settled} (given : set ≡ settings_of format channels order) where
  pub packs_refused : (set.refusal ≡ 0 → ⊥) → Packs format channels order set.refusal 0
  unfolding packing_of
  packs_refused some =
      let is = given_refusal format channels order 0 given in
      let other : eqb (settings_refusal format channels order) 0 ≡ false
      = ne_eqb (settings_refusal format channels order) 0 (λ none. some (is ∙ none)) in
      record { refused = is; leaves = rw other }

  module _ (none : set.refusal ≡ 0) {coded : ℕ} (is : coded ≡ order_coded set.format.slots channels order) where
    passed : Settles format channels order
    passed = settles_all format channels order (given_none format channels order 0 given none)

    slots_are : set.format.slots ≡ slots_of format
    slots_are =
        ap (λ (s : Settled). s.format.slots) (given_settled format channels order 0 given none)
        ∙ ap (λ (f : Format). f.slots) (listed_format format passed.listed)

    pub coded_to : coded ≤ 1
    coded_to = omega (arith, is, order_less set.format.slots channels order, passed.order_to)

    pub channels_to : channels ≤ 48
    channels_to = omega (arith, passed.channels_to, slots_listed format passed.listed)

    pub packs_settled : Packs format channels order 0 (coded * 64 + channels)
    unfolding packing_of
    packs_settled =
        let no_refusal : 0 ≡ settings_refusal format channels order = sym (given_none format channels order 0 given none) in
        record {
          refused = no_refusal;
          leaves =
              rw (← no_refusal)
              (ap (λ (k : ℕ). k * 64 + channels) (is ∙ ap (λ (s : ℕ). order_coded s channels order) slots_are));
        }

-- what is taken is taken with a lower order too
lower_order : (format channels order lower : ℕ) → settings_refusal format channels order ≡ 0 → lower ≤ order
    → settings_refusal format channels lower ≡ 0
unfolding settings_refusal
lower_order format channels order lower none less =
    let passed : Settles format channels order = settles_all format channels order none in
    let some : channels ≡ 0 → ⊥ = λ zero. omega (arith, zero, passed.channels_from) in
    rw (
      passed.listed,
      ne_eqb channels 0 some,
      le-ltb (slots_of format) channels passed.channels_to,
      le-ltb 1 lower (omega (arith, passed.order_to)),
    )

-- packing, then settings
module _ (format channels order : ℕ) (none : settings_refusal format channels order ≡ 0) where
  abbrev coded : ℕ
  coded = order_coded (slots_of format) channels order

  packed : packing_of format channels order ≡ coded * 64 + channels
  unfolding packing_of
  packed = rw none

  few : channels < 64
  few =
      let passed : Settles format channels order = settles_all format channels order none in
      omega (arith, passed.channels_to, slots_listed format passed.listed)

  module _ (port : List ℕ) (is-format : format_octet port ≡ format) (is-packing : packing_octet port ≡ packing_of format channels order) where
    channels_back : channels_in (packing_octet port) ≡ channels
    channels_back = let is : packing_octet port ≡ coded * 64 + channels = is-packing ∙ packed in omega (arith, is, few)

    order_back : order_in (packing_octet port) ≡ coded
    order_back = let is : packing_octet port ≡ coded * 64 + channels = is-packing ∙ packed in omega (arith, is, few)

    pub taken_back : port_refusal port ≡ 0
    unfolding port_refusal
    taken_back =
        rw (is-format, channels_back, order_back) (lower_order format channels order coded none (order_less (slots_of format) channels order))

    pub settings_back : port_settings port ≡ format ∷ channels ∷ coded ∷ []
    unfolding port_settings
    settings_back = rw (taken_back, is-format, channels_back, order_back)

-- settings, then packing: over C, the order and S
octet_back_by : (slots channels order : ℕ) → channels < 64 → order ≤ 1
    → order_coded slots channels order * 64 + channels
    ≡ cond (eqb (order * 64 + channels) (0x40 + 1) || eqb (order * 64 + channels) (0x40 + slots)) (order * 64 + channels - 0x40)
    (order * 64 + channels)
unfolding order_coded
octet_back_by slots channels order low few =
    split (eqb order 0)
    (λ t.
    let zero : order ≡ 0 = eqb-true order 0 t in
    let one : order * 64 + channels ≡ 0x40 + 1 → ⊥ = λ e. omega (arith, e, zero) in
    let all : order * 64 + channels ≡ 0x40 + slots → ⊥ = λ e. omega (arith, e, zero) in
    rw (ne_eqb _ _ one, ne_eqb _ _ all)
    (split (eqb channels 1 || eqb channels slots) (λ u. rw u (omega (arith, zero))) (λ u. rw u)))
    (λ t.
    let is : order ≡ 1 = omega (arith, eqb-false order 0 t) in
    split (eqb channels 1)
    (λ u. let one : order * 64 + channels ≡ 0x40 + 1 = omega (arith, is, eqb-true channels 1 u) in rw (u, eq-eqb _ _ one) (omega (arith, is)))
    (λ u.
    let more : order * 64 + channels ≡ 0x40 + 1 → ⊥ = λ e. eqb-false channels 1 u (omega (arith, e, is)) in
    split (eqb channels slots)
    (λ v.
    let all : order * 64 + channels ≡ 0x40 + slots = omega (arith, is, eqb-true channels slots v) in
    rw (u, v, ne_eqb _ _ more, eq-eqb _ _ all) (omega (arith, is)))
    (λ v.
    let fewer : order * 64 + channels ≡ 0x40 + slots → ⊥ = λ e. eqb-false channels slots v (omega (arith, e, is)) in
    rw (u, v, ne_eqb _ _ more, ne_eqb _ _ fewer))))

module _ (port : List ℕ) (none : port_refusal port ≡ 0) where
  abbrev octet : ℕ
  octet = packing_octet port

  abbrev format : ℕ
  format = format_octet port

  passes : Settles format (channels_in octet) (order_in octet)
  unfolding port_refusal
  passes = settles_all format (channels_in octet) (order_in octet) none

  pub octet_back : packing_of format (channels_in octet) (order_in octet)
      ≡ cond (eqb octet (0x40 + 1) || eqb octet (0x40 + slots_of format)) (octet - 0x40) octet
  unfolding port_refusal packing_of
  octet_back =
      let is : order_in octet * 64 + channels_in octet ≡ octet = div-add-mod' octet 64 in
      rw none
      (octet_back_by (slots_of format) (channels_in octet) (order_in octet) (omega arith) passes.order_to
      ∙ ap (λ (p : ℕ). cond (eqb p (0x40 + 1) || eqb p (0x40 + slots_of format)) (p - 0x40) p) is)

-- with one channel, and with one time, both orders give the same slot
one_channel : {channels : ℕ} (times channel time : ℕ) → channels ≡ 1 → channel < channels
    → time * channels + channel ≡ channel * times + time
one_channel times channel time one inside =
    let zero : channel ≡ 0 = omega arith in
    ap₂ (λ (n k : ℕ). time * n + k) one zero ∙ omega arith ∙ ap (λ (k : ℕ). k * times + time) (sym zero)

one_time : {times : ℕ} (channels channel time : ℕ) → times ≡ 1 → time < times → time * channels + channel ≡ channel * times + time
one_time channels channel time one inside =
    let zero : time ≡ 0 = omega arith in
    ap (λ (k : ℕ). k * channels + channel) zero ∙ omega arith ∙ ap₂ (λ (n k : ℕ). channel * n + k) (sym one) (sym zero)

-- so 6.3.2 moves no slot
module _ (slots channels order channel time : ℕ) (some : 1 ≤ channels) (inside : channel < channels) (within : time < times_of slots channels)
  where
    abbrev slot : ℕ → ℕ
    slot o = slot_of (eqb o 1) channels (times_of slots channels) channel time

    abbrev Same : ℕ → Type 0
    Same lower = slot lower ≡ slot order

    by_time : time * channels + channel ≡ channel * times_of slots channels + time → Same 0
    unfolding slot_of
    by_time alike = split (eqb order 1) (λ t. rw t alike) (λ t. rw t)

    pub slot_stays : Same (order_coded slots channels order)
    unfolding order_coded
    slot_stays =
        split (eqb channels 1)
        (λ t. rw t (by_time (one_channel (times_of slots channels) channel time (eqb-true channels 1 t) inside)))
        (λ t.
        split (eqb channels slots)
        (λ u.
        let whole : slots ≡ 1 * channels + 0 = omega (arith, eqb-true channels slots u) in
        let one : times_of slots channels ≡ 1 = ap (λ (s : ℕ). s / channels) whole ∙ digits_div 1 some in
        rw (t, u) (by_time (one_time channels channel time one within)))
        (λ u. rw (t, u)))

-- the two top bits 10 and 11, which are no order
pub top_bits : (packing : ℕ) → ltb 1 (packing / 64) ≡ leb 0x80 packing
top_bits packing =
    split (leb 0x80 packing)
    (λ t. let more : 0x80 ≤ packing = leb-true 0x80 packing t in rw t (lt-ltb 1 (packing / 64) (omega arith)))
    (λ t. let less : packing < 0x80 = leb-false 0x80 packing t in rw t (le-ltb 1 (packing / 64) (omega arith)))
