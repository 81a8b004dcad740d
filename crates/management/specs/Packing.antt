-- What a box is opened with, by a port's record, and the packing octet that stands for it (6.2, 6.3).
-- Assumes nothing.
use Rattle.std.specs.Prelude.{cond, ◌||◌, List, [], ◌∷◌, ◌≡◌, ℕ, ◌+◌, ◌*◌, ◌/◌, ◌%◌, eqb, get_or}
use Rattle.formats.specs.Formats.{slots_of, settings_refusal}

-- 6.3.1: "bits 6 to 1 show number of audio channels", C
abbrev pub channels_in : ℕ → ℕ
channels_in packing = packing % 64

-- its two top bits: "00 temporal grouping", order 0; "01 grouping by channel", order 1; "10 multi-channel" and "11 reserved" are 2 and
-- 3, so that check 3 refuses them
abbrev pub order_in : ℕ → ℕ
order_in packing = packing / 64

-- octets 3 and 4 of a port's record: "Subframe format", "Packing"
abbrev pub format_octet : List ℕ → ℕ
format_octet port = get_or port 3 0

abbrev pub packing_octet : List ℕ → ℕ
packing_octet port = get_or port 4 0

-- checks 1 to 3 of what they say
unfoldable pub port_refusal : List ℕ → ℕ
port_refusal port = settings_refusal (format_octet port) (channels_in (packing_octet port)) (order_in (packing_octet port))

-- format, C and order
unfoldable pub port_settings : List ℕ → List ℕ
port_settings port =
    cond (eqb (port_refusal port) 0) (format_octet port ∷ channels_in (packing_octet port) ∷ order_in (packing_octet port) ∷ []) (0 ∷ 0 ∷ 0 ∷ [])

pub record Sets (port : List ℕ) (refusal : ℕ) (settings₁ : List ℕ) : Type 0 where
  pub refused : refusal ≡ port_refusal port
  pub leaves : settings₁ ≡ port_settings port

-- 6.3.2: "Where the number of channels is 1, or equal to the number of samples per cell, the coding for temporal grouping shall be used"
unfoldable pub order_coded : ℕ → ℕ → ℕ → ℕ
order_coded slots channels order = cond (eqb channels 1 || eqb channels slots) 0 order

-- the packing octet
unfoldable pub packing_of : ℕ → ℕ → ℕ → ℕ
packing_of format channels order =
    cond (eqb (settings_refusal format channels order) 0) (order_coded (slots_of format) channels order * 64 + channels) 0

pub record Packs (format channels order refusal packing₁ : ℕ) : Type 0 where
  pub refused : refusal ≡ settings_refusal format channels order
  pub leaves : packing₁ ≡ packing_of format channels order
