-- 15 is given for an indication of 1 where the number isn't a multiple of 8, and never in a format without overhead.
-- Assumes nothing.
use mathlib.Core.Bool.{Bool, true, false}
use mathlib.Core.List.{List}
use mathlib.Core.Path.{◌≡◌, refl, ◌∙◌, ap}
use Prim.Native.Nat.{ℕ, ◌*◌}
use native.Mathlib.Omega.{arith}
use borrow.Author.Tests.{eq-eqb}
use lib.Dec.{eqb, ltb}
use lib.ListN.{length}
use Rattle.runs.specs.Refusals.{or_else}
use Rattle.formats.specs.Formats.{format_of}
use Rattle.numbers.specs.Numbers.{refusal_of, value_of, indication_refused}
use Rattle.receiver.specs.declared.Receiver.{Receiver}
use Rattle.receiver.specs.Receiver.{gap_of, count_after, used_now, found_now, number_now, lengths_refused, state_refusal, receive_refusal}
use Rattle.receiver.proofs.Room.{not_so, state_to, found_to}

-- an indication that the rule lets pass is not refused 15
pub never_15 : (st : Receiver) (cell : List ℕ) (indication : Bool) (samples ancillary marks : ℕ)
    → indication_refused (number_now st cell) indication ≡ false → receive_refusal st cell indication samples ancillary marks ≡ 15 → ⊥
unfolding receive_refusal or_else
never_15 st cell indication samples ancillary marks rightly =
    rw rightly
    (not_so (eqb (state_refusal st) 0)
    (not_so (lengths_refused (length cell) samples ancillary marks) (λ e. omega arith)
    (not_so (eqb (refusal_of (found_now st cell)) 0)
    (not_so (eqb (gap_of st cell) 0) (λ e. omega arith)
    (not_so (ltb 4294967295 (count_after st cell)) (λ e. omega arith)
    (not_so (ltb samples (gap_of st cell * used_now st)) (λ e. omega arith) (λ e. omega arith))))
    (λ e. omega (arith, found_to (found_now st cell)))))
    (λ e. omega (arith, state_to st)))

-- without overhead the number is 0, and nothing is judged
bare_number : (st : Receiver) (cell : List ℕ) → (format_of st.format).overhead_bits ≡ 0 → number_now st cell ≡ 0
unfolding found_now value_of
bare_number st cell bare = rw (eq-eqb _ _ bare)

zero_passes : (indication : Bool) → indication_refused 0 indication ≡ false
unfolding indication_refused
zero_passes true = refl
zero_passes false = refl

pub bare_never_15 : (st : Receiver) (cell : List ℕ) (indication : Bool) (samples ancillary marks : ℕ)
    → (format_of st.format).overhead_bits ≡ 0 → receive_refusal st cell indication samples ancillary marks ≡ 15 → ⊥
bare_never_15 st cell indication samples ancillary marks bare =
    never_15 st cell indication samples ancillary marks
    (ap (λ (n : ℕ). indication_refused n indication) (bare_number st cell bare) ∙ zero_passes indication)
