-- `formats::slots_of` meets its contract: each way out by the rule that it goes by.
-- Assumes nothing.
use mathlib.Core.Bool.{true}
use mathlib.Core.Logic.{⊎_elim}
use mathlib.Core.Path.{◌≡◌, refl, ◌∙◌, sym, ap}
use Prim.Native.Nat.{ℕ, ◌/◌}
use native.Mathlib.Omega.{arith}
use Rattle.formats.specs.Formats.{is_among, is_listed, format_of, wholes}
use Rattle.formats.proofs.Laws.{above, no_slots, by_reserved, by_length, by_bits, slots_by_bits, sample_le, among_miss, bits_of}
use Rattle.formats.proofs.slots_of.Goals as goal
use Rattle.formats.proofs.slots_of.Goals.{Else-overhead-gt1, Else-sample-eq0, Start}

-- where neither field is reserved: the call, and the way back to it
abbrev from : Else-overhead-gt1 → Start
from c = c.before.before

abbrev start_of : Else-sample-eq0 → Start
start_of c = from c.before

-- the bits of the whole subframe, and that they decide
abbrev bits : Else-sample-eq0 → ℕ
bits c = bits_of (start_of c).args.sample (start_of c).args.octet

decided : (c : Else-sample-eq0) → is_among (bits c) wholes ≡ is_listed (start_of c).args.octet
decided c =
    let octet = (start_of c).args.octet in
    let given = (start_of c).requires in
    ap (λ (s : ℕ). is_among (bits_of s octet) wholes) given
    ∙ by_bits {octet = octet} (omega arith) (omega arith) (λ e. c.if-sample-eq0.false (given ∙ e))

whole : (c : Else-sample-eq0) {n : ℕ} → bits c ≡ n → is_among n wholes ≡ true → 48 / (n / 8) ≡ (format_of (start_of c).args.octet).slots
whole c {n} e is =
    let octet = (start_of c).args.octet in
    slots_by_bits octet (sym (decided c) ∙ ap (λ (k : ℕ). is_among k wholes) e ∙ is)
    (ap (λ (s : ℕ). bits_of s octet) (sym (start_of c).requires) ∙ e)

pub returns-then-ancillary-gt1 : goal.returns-then-ancillary-gt1
returns-then-ancillary-gt1 c = no_slots c.args.octet (above (omega arith))

pub returns-then-overhead-gt1 : goal.returns-then-overhead-gt1
returns-then-overhead-gt1 c = no_slots c.args.octet (by_reserved (omega arith) c.if-overhead-gt1.true)

pub returns-then-sample-eq0 : goal.returns-then-sample-eq0
returns-then-sample-eq0 c = let start = from (goal.at.returns-then-sample-eq0 c).Else-overhead-gt1 in
    no_slots start.args.octet
    (by_length {octet = start.args.octet} (omega arith) (omega arith) (sym start.requires ∙ c.if-sample-eq0.true))

pub overflow_add-bits : goal.overflow_add-bits
overflow_add-bits c = omega (arith, sample_le (start_of c).args.octet, (start_of c).requires)

pub overflow_add-bits-2 : goal.overflow_add-bits-2
overflow_add-bits-2 c = omega (arith, sample_le (start_of c).args.octet, (start_of c).requires)

pub returns-in-8 : goal.returns-in-8
unfolding is_among
returns-in-8 c = whole (goal.at.returns-in-8 c).Else-sample-eq0 c.in-8.is refl

pub returns-in-16 : goal.returns-in-16
unfolding is_among
returns-in-16 c = whole (goal.at.returns-in-16 c).Else-sample-eq0 c.in-16.is refl

pub returns-in-24 : goal.returns-in-24
unfolding is_among
returns-in-24 c = whole (goal.at.returns-in-24 c).Else-sample-eq0 c.in-24.is refl

pub returns-in-32 : goal.returns-in-32
unfolding is_among
returns-in-32 c = whole (goal.at.returns-in-32 c).Else-sample-eq0 c.in-32.is refl

pub returns-in-48 : goal.returns-in-48
unfolding is_among
returns-in-48 c = whole (goal.at.returns-in-48 c).Else-sample-eq0 c.in-48.is refl

pub returns-in_default : goal.returns-in_default
returns-in_default c = let r = c.in_default.in_default-own.rest in
    no_slots (start_of (goal.at.returns-in_default c).Else-sample-eq0).args.octet
    (sym (decided (goal.at.returns-in_default c).Else-sample-eq0)
    ∙ among_miss wholes (bits (goal.at.returns-in_default c).Else-sample-eq0)
    (⊎_elim r.0.0.0.0.1 (⊎_elim r.0.0.0.1 (⊎_elim r.0.0.1 (⊎_elim r.0.1 r.1)))))
