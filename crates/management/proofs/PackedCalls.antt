-- The laws of the packing octet, said of calls that meet the contracts.
-- Assumes nothing.
use mathlib.Core.Bool.{cond, ◌||◌}
use mathlib.Core.List.{List, [], ◌∷◌}
use mathlib.Core.Path.{◌≡◌, sym, ◌∙◌, ap, subst}
use Prim.Native.Nat.{ℕ, ◌+◌, ◌-◌, ◌/◌, ◌%◌, ◌<◌}
use borrow.Author.Tests.{ne_eqb}
use lib.Dec.{eqb}
use lib.ListN.{get_or}
use Rattle.formats.specs.Formats.{slots_of, times_of, settings_refusal}
use Rattle.formats.proofs.Laws.{settles_all}
use Rattle.cells.specs.Placement.{slot_of}
use Rattle.management.specs.Demands.{SettingsCall, Settles, PackingCall, Codes, record_refusal}
use Rattle.management.specs.Packing.{port_refusal, port_settings, order_coded, packing_of}
use Rattle.management.proofs.Packed.{taken_back, settings_back, octet_back, slot_stays, top_bits}

pub settings_refuses : (c : SettingsCall) → Settles c
    → (c.refusal ≡ record_refusal c.port) × ((c.refusal ≡ 0 → ⊥) → c.settings ≡ 0 ∷ 0 ∷ 0 ∷ [])
unfolding record_refusal port_refusal settings_refusal port_settings
settings_refuses c meets = (
  meets.refused ∙ rw (top_bits (get_or c.port 4 0)),
  λ some. meets.leaves ∙ rw (ne_eqb (port_refusal c.port) 0 (λ none. some (meets.refused ∙ none))),
)

pub packing_refuses : (c : PackingCall) → Codes c
    → (c.refusal ≡ settings_refusal c.format c.channels c.order) × ((c.refusal ≡ 0 → ⊥) → c.packing ≡ 0)
unfolding packing_of
packing_refuses c meets = (
  meets.refused,
  λ some. meets.leaves ∙ rw (ne_eqb (settings_refusal c.format c.channels c.order) 0 (λ none. some (meets.refused ∙ none))),
)

module _ (s : SettingsCall) (p : PackingCall) (settles : Settles s) (codes : Codes p) where
  module _ (taken : p.refusal ≡ 0) (format : get_or s.port 3 0 ≡ p.format) (octet : get_or s.port 4 0 ≡ p.packing) where
    none : settings_refusal p.format p.channels p.order ≡ 0
    none = sym codes.refused ∙ taken

    back : s.settings ≡ p.format ∷ p.channels ∷ order_coded (slots_of p.format) p.channels p.order ∷ []
    back = settles.leaves ∙ settings_back p.format p.channels p.order none s.port format (octet ∙ codes.leaves)

    pub there_and_back : (s.refusal ≡ 0)
        × (s.settings
        ≡ p.format ∷ p.channels ∷ cond (eqb p.channels 1 || eqb p.channels (slots_of p.format)) 0 p.order ∷ [])
    unfolding order_coded
    there_and_back = (
      settles.refused ∙ taken_back p.format p.channels p.order none s.port format (octet ∙ codes.leaves),
      back,
    )

    pub slots_the_same : (channel time : ℕ) → channel < p.channels → time < times_of (slots_of p.format) p.channels
        → slot_of (eqb (get_or s.settings 2 0) 1) p.channels (times_of (slots_of p.format) p.channels) channel time
        ≡ slot_of (eqb p.order 1) p.channels (times_of (slots_of p.format) p.channels) channel time
    slots_the_same channel time inside within =
        let passed = settles_all p.format p.channels p.order none in
        ap
        (λ (l : List ℕ). slot_of (eqb (get_or l 2 0) 1) p.channels (times_of (slots_of p.format) p.channels) channel time)
        back
        ∙ slot_stays (slots_of p.format) p.channels p.order channel time passed.channels_from inside within

  module _ (taken : s.refusal ≡ 0) (given : s.settings ≡ p.format ∷ p.channels ∷ p.order ∷ []) where
    abbrev octet : ℕ
    octet = get_or s.port 4 0

    no_refusal : port_refusal s.port ≡ 0
    no_refusal = sym settles.refused ∙ taken

    is : get_or s.port 3 0 ∷ octet % 64 ∷ octet / 64 ∷ [] ≡ p.format ∷ p.channels ∷ p.order ∷ []
    unfolding port_settings
    is =
        let right : port_settings s.port ≡ get_or s.port 3 0 ∷ octet % 64 ∷ octet / 64 ∷ [] = rw no_refusal in
        sym right ∙ sym settles.leaves ∙ given

    -- what holds of the record's settings holds of those that are packed
    handed : (P : ℕ → ℕ → ℕ → Type 0) → P (get_or s.port 3 0) (octet % 64) (octet / 64) → P p.format p.channels p.order
    handed P = subst (λ (l : List ℕ). P (get_or l 0 0) (get_or l 1 0) (get_or l 2 0)) is

    pub back_and_there : (p.refusal ≡ 0)
        × (p.packing ≡ cond (eqb octet (0x40 + 1) || eqb octet (0x40 + slots_of p.format)) (octet - 0x40) octet)
    unfolding port_refusal
    back_and_there = (
      codes.refused ∙ handed (λ f c o. settings_refusal f c o ≡ 0) no_refusal,
      codes.leaves
          ∙ handed
          (λ f c o. packing_of f c o ≡ cond (eqb octet (0x40 + 1) || eqb octet (0x40 + slots_of f)) (octet - 0x40) octet)
          (octet_back s.port no_refusal),
    )

pub two_octets : (a b : SettingsCall) → Settles a → Settles b → get_or a.port 3 0 ≡ get_or b.port 3 0
    → get_or a.port 4 0 ≡ get_or b.port 4 0 → (a.refusal ≡ b.refusal) × (a.settings ≡ b.settings)
unfolding port_refusal port_settings
two_octets a b one two format packing =
    let same_refusal : port_refusal a.port ≡ port_refusal b.port = rw (format, packing) in
    let same-settings : port_settings a.port ≡ port_settings b.port = rw (format, packing) in
    (one.refused ∙ same_refusal ∙ sym two.refused, one.leaves ∙ same-settings ∙ sym two.leaves)
