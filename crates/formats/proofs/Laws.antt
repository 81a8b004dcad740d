-- Laws of the subframe octet: what its length codes mean, and that the paper's rules give just the fourteen octets that are listed.
-- Assumes nothing.
use mathlib.Core.Bool.{Bool, true, false, false≢true, cond, not, ◌&&◌, ◌||◌, beq}
use mathlib.Core.List.{List, [], ◌∷◌}
use mathlib.Core.Logic.{◌⊎◌, inl, inr, ⊎_elim}
use mathlib.Core.Path.{◌≡◌, refl, sym, ◌∙◌, ap, ap₂, subst}
use Rattle.std.specs.Prelude.{Some, None, Result, Ok, Err, IsOk}
use Prim.Native.Nat.{ℕ, ◌+◌, ◌*◌, ◌/◌, ◌%◌, ◌≤◌, ◌<◌}
use native.Mathlib.Decide.{dec_lt}
use native.Mathlib.Nat.{mod-lt, lt_of_not-le, le_of_suc-le-suc, pos_of_ne-zero, mul-div-le, le-div_iff_mul-le}
use native.Mathlib.Omega.{arith}
use borrow.Author.Tests
use borrow.Author.Tests.{eqb-true, eqb-false, ltb-true, ltb-false, lt-ltb, le-ltb, le-leb, lt-leb, ne_eqb, eq-eqb}
use mir.Val.{has_key}
use types.Run.{OneOf, hit}
use lib.Dec.{T, eqb, leb, ltb, ltb→lt, leb→le, eqb→eq}
use Rattle.runs.specs.Refusals.{or_else}
use Rattle.runs.specs.Test.{every}
use Rattle.runs.proofs.Laws.{every_at, both_left, both_right, past, neither, split, both_true, first_refuses, then_later}
use Rattle.refusals.specs.declared.Refusal.{Refusal}
use Rattle.refusals.proofs.Laws.{number_injective, number_not_0}
use Rattle.formats.specs.declared.Format.{Format}
use Rattle.formats.specs.declared.Layout.{Layout}
use Rattle.formats.specs.Settled.{Settled}
use Rattle.formats.specs.Sound.{Sound, Limits}
use Rattle.formats.specs.Formats.{length_of, sample_bits, ancillary_bits, overhead_bits, is_reserved, wholes, width_of, slots_of, listed_octets, is_among, is_listed, format_of, settings_refusal}
use Rattle.formats.specs.Settings.{settings_of, settled, unsettled_by, settled_as, answered}
use Rattle.formats.specs.Code.{found_format, refusal_by, is_usual, usual_with}

pub length_low : {code : ℕ} → code < 2 → length_of code ≡ 0
unfolding length_of
length_low h = rw (lt-ltb _ _ h)

pub length_four : {code : ℕ} → 2 ≤ code → code ≤ 8 → length_of code ≡ 4 * code
unfolding length_of
length_four l h = rw (le-ltb _ _ l, le-leb _ _ h)

pub length_high : {code : ℕ} → 11 ≤ code → length_of code ≡ 0
unfolding length_of
length_high {code} h =
    let above : code ≡ 10 → ⊥ = omega arith in
    rw (le-ltb code 2 (omega arith), lt-leb code 8 (omega arith), ne_eqb code 10 above)

pub sample_le : (octet : ℕ) → sample_bits octet ≤ 40
unfolding sample_bits length_of every
sample_le octet =
    leb→le (length_of (octet % 16)) 40 (every_at (λ k. leb (length_of k) 40) 16 tt (octet % 16) (mod-lt octet (omega arith)))

abbrev pub bits_of : ℕ → ℕ → ℕ
bits_of sample octet = sample + 4 * (octet / 64) + 4 * (octet / 16 % 4)

-- the rules in the code's order for a number below 128
pub ruled : ℕ → Bool
ruled octet =
    cond (is_reserved (octet / 16 % 4)) false
    (cond (eqb (sample_bits octet) 0) false
    (is_among (bits_of (sample_bits octet) octet) wholes))

pub beq_eq : (a b : Bool) → T (beq a b) → a ≡ b
beq_eq true true t = refl
beq_eq true false t = absurd t
beq_eq false true t = absurd t
beq_eq false false t = refl

-- the rules and the list say the same of each octet
pub ruled_listed : {octet : ℕ} → octet < 128 → ruled octet ≡ is_listed octet
unfolding ruled is_listed is_among listed_octets sample_bits length_of every
ruled_listed {octet} h =
    beq_eq (ruled octet) (is_listed octet) (every_at (λ k. beq (ruled k) (is_listed k)) 128 tt octet h)

-- a `match`'s arm is taken where the number is among its keys
among_key : (keys : List ℕ) (n : ℕ) → has_key keys n ≡ is_among n keys
unfolding is_among
among_key [] n = refl
among_key (x ∷ xs) n = ap (λ (b : Bool). eqb x n || b) (among_key xs n)

not_true : (b : Bool) → (T b → ⊥) → b ≡ false
not_true true h = absurd (h tt)
not_true false h = refl

pub among_miss : (keys : List ℕ) (n : ℕ) → (OneOf keys n → ⊥) → is_among n keys ≡ false
among_miss keys n none = sym (among_key keys n) ∙ not_true (has_key keys n) (λ t. none (hit keys n t))

unfoldable pub below : ℕ → List ℕ → Bool
below bound [] = true
below bound (x ∷ xs) = ltb x bound && below bound xs

pub among_below : (bound : ℕ) (xs : List ℕ) {n : ℕ} → T (below bound xs) → bound ≤ n → is_among n xs ≡ false
unfolding below is_among
among_below bound [] t h = refl
among_below bound (x ∷ xs) {n} t h =
    let apart : x ≡ n → ⊥ = λ e. omega (arith, ltb→lt x bound (both_left (ltb x bound) (below bound xs) t)) in
    rw (ne_eqb x n apart) (among_below bound xs (both_right (ltb x bound) (below bound xs) t) h)

-- a number with more ancillary bits, or beyond an octet, is none of the fourteen
pub above : {octet : ℕ} → 127 < octet → is_listed octet ≡ false
unfolding is_listed listed_octets below
above h = among_below 128 listed_octets tt h

pub beyond : {octet : ℕ} → 255 < octet → is_listed octet ≡ false
beyond h = above (omega arith)

listed_low : (octet : ℕ) → is_listed octet ≡ true → octet < 128
listed_low octet h =
    elim (dec_lt octet 128) [
      | yes less ↦ less
      | no more ↦ absurd (false≢true (sym (above (le_of_suc-le-suc (lt_of_not-le more))) ∙ h))
    ]

pub listed_octet : (octet : ℕ) → is_listed octet ≡ true → octet < 256
listed_octet octet h = omega (arith, listed_low octet h)

by_bool : (b x : Bool) → b ≡ true → T (not b || x) → T x
by_bool true x h t = t
by_bool false x h t = absurd (false≢true h)

-- what a test shows of each of the fourteen octets
of_listed : (test : ℕ → Bool) → T (every (λ k. not (is_listed k) || test k) 128) → (octet : ℕ) → is_listed octet ≡ true → T (test octet)
of_listed test t octet h =
    by_bool (is_listed octet) (test octet) h (every_at (λ k. not (is_listed k) || test k) 128 t octet (listed_low octet h))

-- the format of an octet of the fourteen
abbrev pub fields_of : ℕ → Format
fields_of octet =
    record {
      sample_bits = sample_bits octet;
      ancillary_bits = ancillary_bits octet;
      overhead_bits = overhead_bits octet;
      width = width_of octet;
      slots = slots_of octet;
    }

pub listed_format : (octet : ℕ) → is_listed octet ≡ true → format_of octet ≡ fields_of octet
unfolding format_of
listed_format octet h = rw h

pub sound_fields : (octet : ℕ) → is_listed octet ≡ true → Sound (fields_of octet)
unfolding every is_listed is_among listed_octets sample_bits length_of ancillary_bits overhead_bits width_of slots_of
sound_fields octet h =
    record {
      bits = eqb→eq _ _ (of_listed (λ k. eqb (sample_bits k + ancillary_bits k + overhead_bits k) (8 * width_of k)) tt octet h);
      cell = eqb→eq _ _ (of_listed (λ k. eqb (slots_of k * width_of k) 48) tt octet h);
      sample_from = leb→le _ _ (of_listed (λ k. leb 8 (sample_bits k)) tt octet h);
      sample_to = leb→le _ _ (of_listed (λ k. leb (sample_bits k) 40) tt octet h);
      ancillary_fours = eqb→eq _ _ (of_listed (λ k. eqb (ancillary_bits k % 4) 0) tt octet h);
      ancillary_to = leb→le _ _ (of_listed (λ k. leb (ancillary_bits k) 4) tt octet h);
      overhead_fours = eqb→eq _ _ (of_listed (λ k. eqb (overhead_bits k % 4) 0) tt octet h);
      overhead_to = leb→le _ _ (of_listed (λ k. leb (overhead_bits k) 4) tt octet h);
      width_from = leb→le _ _ (of_listed (λ k. leb 1 (width_of k)) tt octet h);
      width_to = leb→le _ _ (of_listed (λ k. leb (width_of k) 6) tt octet h);
      slots_from = leb→le _ _ (of_listed (λ k. leb 8 (slots_of k)) tt octet h);
      slots_to = leb→le _ _ (of_listed (λ k. leb (slots_of k) 48) tt octet h);
    }

pub sound_format : (octet : ℕ) → is_listed octet ≡ true → Sound (format_of octet)
sound_format octet h = rw (listed_format octet h) (sound_fields octet h)

-- S by the rules: what each refuses, and what the last one decides
pub no_slots : (octet : ℕ) → is_listed octet ≡ false → 0 ≡ (format_of octet).slots
unfolding format_of
no_slots octet h = rw h

module _ {octet : ℕ} (h : octet < 128) where
  pub by_reserved : 1 < octet / 16 % 4 → is_listed octet ≡ false
  unfolding ruled
  by_reserved reserved = rw (← ruled_listed h, lt-ltb _ _ reserved)

  module _ (known : octet / 16 % 4 ≤ 1) where
    pub by_length : sample_bits octet ≡ 0 → is_listed octet ≡ false
    unfolding ruled
    by_length reserved = rw (← ruled_listed h, le-ltb _ _ known, eq-eqb _ _ reserved)

    pub by_bits : (sample_bits octet ≡ 0 → ⊥) → is_among (bits_of (sample_bits octet) octet) wholes ≡ is_listed octet
    unfolding ruled
    by_bits some = rw (← ruled_listed h, le-ltb _ _ known, ne_eqb _ _ some)

pub slots_by_bits : (octet : ℕ) {bits : ℕ} → is_listed octet ≡ true → bits_of (sample_bits octet) octet ≡ bits
    → 48 / (bits / 8) ≡ (format_of octet).slots
unfolding slots_of width_of ancillary_bits overhead_bits
slots_by_bits octet {bits} h e =
    let whole : bits ≡ sample_bits octet + octet / 64 * 4 + octet / 16 % 4 * 4 = omega (arith, e) in
    ap (λ (n : ℕ). 48 / (n / 8)) whole ∙ ap (λ (f : Format). f.slots) (sym (listed_format octet h))

-- the format that the octet's fields, these sample bits and these slots make
abbrev pub made : ℕ → ℕ → ℕ → Format
made sample slots octet =
    record {
      sample_bits = sample;
      ancillary_bits = octet / 64 * 4;
      overhead_bits = octet / 16 % 4 * 4;
      width = (sample + octet / 64 * 4 + octet / 16 % 4 * 4) / 8;
      slots = slots;
    }

pub made_format : {sample slots : ℕ} (octet : ℕ) → sample ≡ sample_bits octet → slots ≡ (format_of octet).slots → is_listed octet ≡ true
    → made sample slots octet ≡ format_of octet
unfolding ancillary_bits overhead_bits width_of
made_format octet e n h =
    ap₂ (λ (s k : ℕ). made s k octet) e (n ∙ ap (λ (f : Format). f.slots) (listed_format octet h)) ∙ sym (listed_format octet h)

listed_or_not : (octet : ℕ) → (is_listed octet ≡ true) ⊎ (is_listed octet ≡ false)
listed_or_not octet = go (is_listed octet)
  where
    go : (b : Bool) → (b ≡ true) ⊎ (b ≡ false)
    go true = inl refl
    go false = inr refl

pub not_listed : (octet : ℕ) → (format_of octet).slots ≡ 0 → is_listed octet ≡ false
not_listed octet e =
    ⊎_elim (λ h. absurd (let l = (sound_format octet h).slots_from in omega arith)) (λ h. h) (listed_or_not octet)

pub is_listed_lem : (octet : ℕ) → ((format_of octet).slots ≡ 0 → ⊥) → is_listed octet ≡ true
unfolding format_of
is_listed_lem octet some = ⊎_elim (λ h. h) (λ h. absurd (some (rw h))) (listed_or_not octet)

-- the format that is found where S is 0, and where it isn't
pub finds_none : (octet : ℕ) → (format_of octet).slots ≡ 0 → None ≡ found_format octet
finds_none octet e = rw (not_listed octet e)

pub finds : (octet : ℕ) → ((format_of octet).slots ≡ 0 → ⊥) → {sample slots : ℕ} → sample ≡ sample_bits octet
    → slots ≡ (format_of octet).slots → Some (made sample slots octet) ≡ found_format octet
finds octet some e n = rw (is_listed_lem octet some) (ap Some (made_format octet e n (is_listed_lem octet some)))

-- and what is known of what is found
pub found_none : (octet : ℕ) → None ≡ found_format octet → (format_of octet).slots ≡ 0
found_none octet found =
    ⊎_elim
    (λ h. let false_here : None ≡ Some (format_of octet) = rw h at found in cc)
    (λ h. sym (no_slots octet h))
    (listed_or_not octet)

pub record Finds (f : Format) (octet : ℕ) : Type 0 where
  pub is : f ≡ format_of octet
  pub some : f.slots ≡ 0 → ⊥

pub found_some : {f : Format} (octet : ℕ) → Some f ≡ found_format octet → Finds f octet
found_some {f} octet found = go (listed_or_not octet)
  where
    go : (is_listed octet ≡ true) ⊎ (is_listed octet ≡ false) → Finds f octet
    go (inl h) =
        let same : Some f ≡ Some (format_of octet) = rw h at found in
        let is : f ≡ format_of octet = cc in
        record { is = is; some = λ e. omega (arith, rw is at e, (sound_format octet h).slots_from) }
    go (inr h) = let none : Some f ≡ None = rw h at found in cc

-- check 1 by S
pub by_1 : (slots channels order : ℕ) → slots ≡ 0 → 1 ≡ refusal_by slots channels order
by_1 slots channels order none = rw (eq-eqb slots 0 none)

-- and by the octet
by_listed : (octet channels order : ℕ) → is_listed octet ≡ true
    → refusal_by (format_of octet).slots channels order ≡ settings_refusal octet channels order
unfolding settings_refusal
by_listed octet channels order h =
    let some : slots_of octet ≡ 0 → ⊥ = λ e. omega (arith, e, (sound_fields octet h).slots_from) in
    rw (h, listed_format octet h, ne_eqb _ _ some)

by_none : (octet channels order : ℕ) → is_listed octet ≡ false
    → refusal_by (format_of octet).slots channels order ≡ settings_refusal octet channels order
unfolding settings_refusal format_of
by_none octet channels order h = rw h

pub refusal_by_lem : {slots : ℕ} (octet channels order : ℕ) → slots ≡ (format_of octet).slots
    → refusal_by slots channels order ≡ settings_refusal octet channels order
refusal_by_lem octet channels order given =
    ap (λ (n : ℕ). refusal_by n channels order) given
    ∙ ⊎_elim (by_listed octet channels order) (by_none octet channels order) (listed_or_not octet)

pub some_channels : (slots channels order : ℕ) → refusal_by slots channels order ≡ 0 → 1 ≤ channels
some_channels slots channels order e =
    let second = past (eqb channels 0 || ltb slots channels) 1 _ (past (eqb slots 0) 0 _ e).1 in
    pos_of_ne-zero (eqb-false channels 0 (neither (eqb channels 0) (ltb slots channels) second.0).0)

-- what they refuse and settle, by the format that the octet gives
module _ {f : Format} {n : ℕ} (octet channels order : ℕ) (given : f ≡ format_of octet) (is : n ≡ refusal_by f.slots channels order)
  where
    refused_is : n ≡ settings_refusal octet channels order
    refused_is = is ∙ refusal_by_lem octet channels order (ap (λ (g : Format). g.slots) given)

    pub refuses : (n ≡ 0 → ⊥) → unsettled_by n ≡ settings_of octet channels order
    unfolding settings_of
    refuses some = rw (← refused_is, ne_eqb _ _ some)

    pub settles : n ≡ 0 → {times : ℕ} → times ≡ f.slots / channels
        → record { refusal = 0; format = f; channels = channels; times = times; by_channel = eqb order 1 }
        ≡ settings_of octet channels order
    unfolding settings_of
    settles none {times} e =
        ap
        (λ (t : ℕ).
        record { refusal = 0; format = f; channels = channels; times = t; by_channel = eqb order 1 })
        e
        ∙ ap
        (λ (g : Format).
        record {
          refusal = 0;
          format = g;
          channels = channels;
          times = g.slots / channels;
          by_channel = eqb order 1;
        })
        given
        ∙ rw (← refused_is, none)

-- checks 1 to 3 passed: what they leave
pub record Settles (octet channels order : ℕ) : Type 0 where
  pub listed : is_listed octet ≡ true
  pub channels_from : 1 ≤ channels
  pub channels_to : channels ≤ slots_of octet
  pub order_to : order ≤ 1

pub settles_all : (octet channels order : ℕ) → settings_refusal octet channels order ≡ 0 → Settles octet channels order
unfolding settings_refusal
settles_all octet channels order e =
    let first = past (not (is_listed octet)) 0 _ e in
    let second = past (eqb channels 0 || ltb (slots_of octet) channels) 1 _ first.1 in
    let third = past (ltb 1 order) 2 _ second.1 in
    let count = neither (eqb channels 0) (ltb (slots_of octet) channels) second.0 in
    record {
      listed = Tests.not-false (is_listed octet) first.0;
      channels_from = pos_of_ne-zero (eqb-false channels 0 count.0);
      channels_to = ltb-false (slots_of octet) channels count.1;
      order_to = ltb-false 1 order third.0;
    }

pub slots_listed : (octet : ℕ) → is_listed octet ≡ true → slots_of octet ≤ 48
slots_listed octet h = (sound_fields octet h).slots_to

-- the settings' refusal, and what they are where there is none
pub refusal_of_lem : (octet channels order : ℕ) → (settings_of octet channels order).refusal ≡ settings_refusal octet channels order
unfolding settings_of
refusal_of_lem octet channels order =
    split (eqb (settings_refusal octet channels order) 0) (λ t. rw t (sym (eqb-true _ 0 t))) (λ t. rw t)

pub settled_of_lem : (octet channels order : ℕ) → settings_refusal octet channels order ≡ 0
    → settings_of octet channels order ≡ settled octet channels order
unfolding settings_of
settled_of_lem octet channels order none = rw none

pub settled_limits : {set : Settled} (octet channels order : ℕ) → set ≡ settled octet channels order
    → settings_refusal octet channels order ≡ 0 → Limits set
settled_limits octet channels order is none = rw is limits
  where
    passed : Settles octet channels order
    passed = settles_all octet channels order none

    sound : Sound (format_of octet)
    sound = sound_format octet passed.listed

    fits : channels ≤ (format_of octet).slots
    fits = rw (listed_format octet passed.listed) passed.channels_to

    used_in_lem : channels * ((format_of octet).slots / channels) ≤ (format_of octet).slots
    used_in_lem = mul-div-le (format_of octet).slots channels

    limits : Limits (settled octet channels order)
    limits =
        record {
          sound = sound;
          channels_from = passed.channels_from;
          times_from = (le-div_iff_mul-le passed.channels_from).1 (omega (arith, fits));
          used_in_lem = used_in_lem;
          used_to = omega (arith, used_in_lem, sound.slots_to);
          sample_to = sound.sample_to;
          ancillary_to = sound.ancillary_to;
        }

-- the layout of settings that nothing refuses; and no two answers settle the same
abbrev pub layout_of : Settled → Layout
layout_of set = record { format = set.format; channels = set.channels; times = set.times; by_channel = set.by_channel }

pub settled_injective : {x y : Layout} → settled_as x ≡ settled_as y → x ≡ y
settled_injective same = ap layout_of same

pub answered_injective : {x y : Result Layout Refusal} → answered x ≡ answered y → x ≡ y
answered_injective {x = Ok x} {y = Ok y} same = ap Ok (settled_injective same)
answered_injective {x = Ok x} {y = Err r} same = absurd (number_not_0 r (sym (ap (λ (s : Settled). s.refusal) same)))
answered_injective {x = Err r} {y = Ok y} same = absurd (number_not_0 r (ap (λ (s : Settled). s.refusal) same))
answered_injective {x = Err q} {y = Err r} same = ap Err (number_injective (ap (λ (s : Settled). s.refusal) same))

-- what later checks add to checks 1 to 3, by the settings
module _ {set : Settled} (octet channels order later : ℕ) (given : set ≡ settings_of octet channels order) where
  pub given_refusal : set.refusal ≡ settings_refusal octet channels order
  given_refusal = ap (λ (x : Settled). x.refusal) given ∙ refusal_of_lem octet channels order

  pub given_refuses : (set.refusal ≡ 0 → ⊥) → set.refusal ≡ or_else (settings_refusal octet channels order) later
  given_refuses some = given_refusal ∙ sym (first_refuses later (λ e. some (given_refusal ∙ e)))

  module _ (none : set.refusal ≡ 0) where
    pub given_none : settings_refusal octet channels order ≡ 0
    given_none = sym given_refusal ∙ none

    pub given_settled : set ≡ settled octet channels order
    given_settled = given ∙ settled_of_lem octet channels order given_none

    pub given_later : or_else (settings_refusal octet channels order) later ≡ later
    given_later = then_later later given_none

-- settings that nothing refuses are answered
pub answered_ok : (octet channels order : ℕ) (answer : Result Layout Refusal) → answered answer ≡ settings_of octet channels order
    → settings_refusal octet channels order ≡ 0 → IsOk answer
answered_ok octet channels order (Ok set) given none = refl
answered_ok octet channels order (Err refusal) given none =
    absurd (number_not_0 refusal (given_refusal octet channels order 0 given ∙ none))

-- the limits of settings that nothing refuses
pub limits_of : (octet channels order : ℕ) {set : Settled} → set ≡ settings_of octet channels order → set.refusal ≡ 0 → Limits set
limits_of octet channels order given none =
    settled_limits octet channels order (given_settled octet channels order 0 given none) (given_none octet channels order 0 given none)

-- 56 hex in order 0, with one channel and with two
pub usual_one : usual_with 1 12 ≡ settings_of 0x56 1 0
unfolding settings_of settings_refusal format_of is_listed is_among listed_octets sample_bits length_of ancillary_bits overhead_bits width_of slots_of
usual_one = refl

pub usual_two : usual_with 2 6 ≡ settings_of 0x56 2 0
unfolding settings_of settings_refusal format_of is_listed is_among listed_octets sample_bits length_of ancillary_bits overhead_bits width_of slots_of
usual_two = refl

module _ {set : Settled} (channels : ℕ) (given : set ≡ settings_of 0x56 (cond (eqb channels 2) 2 1) 0) where
  -- what holds of both holds of either
  pub usual_is : (P : Settled → Type 0) → P (usual_with 1 12) → P (usual_with 2 6) → P set
  usual_is P one two =
      split (eqb channels 2)
      (λ yes-two. subst P (sym (given ∙ ap (λ (b : Bool). settings_of 0x56 (cond b 2 1) 0) yes-two ∙ sym usual_two)) two)
      (λ not_two. subst P (sym (given ∙ ap (λ (b : Bool). settings_of 0x56 (cond b 2 1) 0) not_two ∙ sym usual_one)) one)

  -- they are those of a state that has them
  pub usual_set : (octet order : ℕ) → is_usual octet channels order ≡ true → set ≡ settings_of octet channels order
  unfolding is_usual
  usual_set octet order is =
      let first = both_true (eqb octet 0x56) _ is in
      let next = both_true (eqb order 0) _ first.1 in
      let last = both_true (not (ltb channels 1)) _ next.1 in
      let from : 1 ≤ channels = ltb-false channels 1 (Tests.not-true (ltb channels 1) last.0) in
      let to : channels < 3 = ltb-true channels 3 last.1 in
      let same : cond (eqb channels 2) 2 1 ≡ channels
      = split (eqb channels 2) (λ two. rw two (sym (eqb-true channels 2 two)))
      (λ not_two. rw not_two (let one : 1 ≡ channels = omega (arith, eqb-false channels 2 not_two) in one)) in
      given
      ∙ ap (λ (c : ℕ). settings_of 0x56 c 0) same
      ∙ ap₂ (λ (f o : ℕ). settings_of f channels o) (sym (eqb-true octet 0x56 first.0)) (sym (eqb-true order 0 next.0))
