-- Laws for the two loops and the refusals: a plan judged circuit by circuit, and circuits filled one after the other.
-- Assumes nothing.
use mathlib.Core.Bool.{true, false, not, ◌||◌}
use mathlib.Core.List.{List, [], ◌∷◌}
use mathlib.Core.Logic.{◌⊎◌, inl, inr}
use mathlib.Core.Path.{◌≡◌, sym, ◌∙◌, ap, ap₂}
use Prim.Native.Nat.{ℕ, zero, suc, ◌+◌, ◌-◌, ◌*◌, ◌/◌, ◌%◌, ◌≤◌, ◌<◌, min}
use native.Mathlib.Nat.{zero-mul, suc-mul, mod-lt, le-div_iff_mul-le}
use Rattle.std.proofs.lemmas.Nat.{div-add-mod', div-mul-add}
use native.Mathlib.Numerals.{add-one}
use native.Mathlib.Omega.{arith}
use borrow.Author.Tests
use borrow.Author.Tests.{eq-eqb, ne_eqb, lt-ltb, le-ltb, le-leb, lt-leb, leb-true, eqb-true, ltb-false}
use lib.Dec.{eqb, ltb, leb}
use lib.ListN.{length, get_or, set}
use Rattle.std.proofs.lemmas.Bool.Decides.{nat_tests}
use Rattle.std.proofs.lemmas.List.{nil_from_length}
use Rattle.runs.specs.Refusals.{or_else}
use Rattle.runs.proofs.Laws.{first_refuses, split, past, past_both, neither, both_true, get_or_tab, length_tab}
use Rattle.runs.proofs.Filling.{Filled, begun, turned_front, done_to_end}
use Rattle.formats.specs.Settled.{Settled}
use Rattle.formats.specs.Formats as F
use Rattle.formats.specs.Formats.{is_listed, settings_refusal}
use Rattle.formats.specs.Settings.{settings_of}
use Rattle.formats.proofs.Laws.{refusal_of_lem, settled_of_lem, settles_all, sound_fields, sound_format, no_slots}
use Rattle.circuits.specs.Circuits.{
  Verdict,
  Refused,
  Yes,
  Share,
  Allowance,
  Sum,
  octet_refusal,
  slots_of,
  fits_slots,
  cells_per_second,
  pick,
  judged_from,
  check_refusal,
  checked_of,
  planned_of,
  plan_refusal,
  plan_refusal_of,
  Plans,
}

-- ---- a share

pub fits_by : (slots share : ℕ) → fits_slots slots share ≡ true → (1 ≤ share) × (share ≤ slots)
unfolding fits_slots
fits_by slots share e =
    let two = both_true (leb 1 share) (leb share slots) e in (leb-true 1 share two.0, leb-true share slots two.1)

rounded_up_of : (x y q r : ℕ) → r < y → x ≡ q * y + r → q + min 1 r ≡ (x + (y - 1)) / y
rounded_up_of x y q zero less is =
    let above : x + (y - 1) ≡ q * y + (y - 1) = omega (arith, is) in
    omega (arith, ap (λ (n : ℕ). n / y) above, div-mul-add q y (y - 1) (omega arith))
rounded_up_of x y q (suc r) less is =
    let above : x + (y - 1) ≡ suc q * y + r = rw (suc-mul q y) (omega (arith, is)) in
    omega (arith, ap (λ (n : ℕ). n / y) above, div-mul-add (suc q) y r (omega arith))

-- rounded up as the library's call does it
pub cells_rounded_up : (slots share frequency : ℕ) → 1 ≤ share → share ≤ slots
    → cells_per_second slots share frequency ≡ frequency / (slots / share) + min 1 (frequency % (slots / share))
unfolding cells_per_second
cells_rounded_up slots share frequency from to =
    let times = slots / share in
    let some : 1 ≤ times = (le-div_iff_mul-le from).1 (omega arith) in
    sym (rounded_up_of frequency times (frequency / times) (frequency % times) (mod-lt frequency some) (sym (div-add-mod' frequency times)))

-- ---- the loop that judges: what is said of the whole plan is said of the circuits that are left, from this one on
pub record Judging (slots channels frequency : ℕ) (shares allowances : List ℕ) (circuit carried : ℕ) (shares₁ allowances₁ : List ℕ)
    : Type 0 where
  pub many : circuit + length shares₁ ≡ length shares
  pub same : length allowances₁ ≡ length shares₁
  pub few : carried ≤ 48 * circuit
  pub rest : judged_from slots channels frequency 0 0 shares allowances
      ≡ judged_from slots channels frequency circuit carried shares₁ allowances₁

module _ (slots channels frequency : ℕ) (shares allowances : List ℕ) where
  pub judging_begun : {k : ℕ} {shares₁ allowances₁ : List ℕ} → length allowances ≡ length shares → k ≡ 0 → shares₁ ≡ shares → allowances₁ ≡ allowances
      → Judging slots channels frequency shares allowances k 0 shares₁ allowances₁
  judging_begun same none first second =
      record {
        many = omega (arith, none, ap length first);
        same = omega (arith, same, ap length first, ap length second);
        few = omega arith;
        rest = rw (none, first, second);
      }

  module _ {circuit carried share allowance : ℕ} {shares₁ shares₂ allowances₁ allowances₂ : List ℕ}
      (so_far : Judging slots channels frequency shares allowances circuit carried shares₁ allowances₁)
      (next : (shares₁ ≡ share ∷ shares₂) × (allowances₁ ≡ allowance ∷ allowances₂))
    where
      next_two : judged_from slots channels frequency 0 0 shares allowances
          ≡ judged_from slots channels frequency circuit carried (share ∷ shares₂) (allowance ∷ allowances₂)
      next_two = so_far.rest ∙ ap₂ (judged_from slots channels frequency circuit carried) next.0 next.1

      pub share_fault : {k : ℕ} → k ≡ circuit → fits_slots slots share ≡ false
          → Share k ≡ judged_from slots channels frequency 0 0 shares allowances
      unfolding judged_from
      share_fault is bad = ap Share is ∙ sym (next_two ∙ rw bad)

      module _ (fits : fits_slots slots share ≡ true) where
        pub allowance_fault : {k : ℕ} → k ≡ circuit → allowance < cells_per_second slots share frequency
            → Allowance k ≡ judged_from slots channels frequency 0 0 shares allowances
        unfolding judged_from
        allowance_fault is above = ap Allowance is ∙ sym (next_two ∙ rw (fits, lt-leb _ _ above))

        pub judging_turned : slots ≤ 48 → cells_per_second slots share frequency ≤ allowance → {k : ℕ} → k ≡ circuit + 1
            → Judging slots channels frequency shares allowances k (carried + share) shares₂ allowances₂
        unfolding judged_from
        judging_turned most enough is =
            record {
              many = omega (arith, so_far.many, is, ap length next.0);
              same = omega (arith, so_far.same, ap length next.0, ap length next.1);
              few = omega (arith, so_far.few, (fits_by slots share fits).1, is);
              rest = next_two ∙ rw (fits, le-leb _ _ enough, is, add-one circuit);
            }

  module _ {circuit carried : ℕ} {shares₁ allowances₁ : List ℕ}
      (so_far : Judging slots channels frequency shares allowances circuit carried shares₁ allowances₁)
      (end : (length shares₁ ≡ 0) ⊎ (length allowances₁ ≡ 0))
    where
      none_left : shares₁ ≡ []
      none_left = nil_from_length shares₁ (elim end [ inl e ↦ e | inr e ↦ omega (arith, so_far.same, e) ])

      ended : judged_from slots channels frequency 0 0 shares allowances ≡ pick (eqb carried channels) Yes Sum
      unfolding judged_from
      ended = so_far.rest ∙ rw none_left

      pub judged_yes : carried ≡ channels → Yes ≡ judged_from slots channels frequency 0 0 shares allowances
      judged_yes same = sym (ended ∙ rw (eq-eqb carried channels same))

      pub judged_sum : (carried ≡ channels → ⊥) → Sum ≡ judged_from slots channels frequency 0 0 shares allowances
      judged_sum other = sym (ended ∙ rw (ne_eqb carried channels other))

-- ---- the loop that fills

pub planned_at : (slots channels n : ℕ) {i : ℕ} → i < n → get_or (planned_of slots channels n) i 0 ≡ min slots (channels - i * slots)
unfolding planned_of
planned_at slots channels n h = get_or_tab _ n h

-- what is left after one more circuit
left_after : (slots channels i : ℕ) {left share : ℕ} → left ≡ channels - i * slots → share ≡ min slots left
    → left - share ≡ channels - (i + 1) * slots
left_after slots channels i is taken = rw (add-one i, suc-mul i slots) (omega (arith, is, taken))

-- the first i circuits are filled, and so many channels are left
pub record Filling (slots channels : ℕ) (shares₀ shares : List ℕ) (left i : ℕ) : Type 0 where
  pub filled : Filled shares shares₀ 0 (planned_of slots channels (length shares₀)) i
  pub rest : left ≡ channels - i * slots

module _ (slots channels : ℕ) (shares₀ : List ℕ) where
  long : length (planned_of slots channels (length shares₀)) ≡ length shares₀
  unfolding planned_of
  long = length_tab _ (length shares₀)

  pub filling_begun : Filling slots channels shares₀ shares₀ channels 0
  filling_begun = record { filled = begun shares₀ 0 _; rest = omega (arith, zero-mul slots) }

  pub filling_turned : {shares : List ℕ} {left i share : ℕ} → Filling slots channels shares₀ shares left i → i < length shares
      → share ≡ min slots left → Filling slots channels shares₀ (set shares i share) (left - share) (i + 1)
  filling_turned {i = i} so_far less taken =
      let here : i < length shares₀ = omega (arith, so_far.filled.same, less) in
      record {
        filled =
            turned_front shares₀ _ so_far.filled (omega (arith, long)) (omega (arith, long))
            (taken ∙ ap (min slots) so_far.rest ∙ sym (planned_at slots channels (length shares₀) here));
        rest = left_after slots channels i so_far.rest taken;
      }

  pub filling_done : {shares : List ℕ} {left i : ℕ} → Filling slots channels shares₀ shares left i → length shares ≤ i
      → shares ≡ planned_of slots channels (length shares₀)
  filling_done so_far end =
      done_to_end shares₀ _ 0 so_far.filled (omega (arith, long, so_far.filled.same)) (omega (arith, long))

-- ---- what isn't refused, and what is 30

pub check_0 : (octet channels frequency circuits allowances : ℕ) → octet ≡ 0 → allowances ≡ circuits → circuits ≤ 64 → channels ≤ 1024
    → 1 ≤ frequency → frequency ≤ 1000000 → 0 ≡ check_refusal octet channels frequency circuits allowances
unfolding check_refusal or_else
check_0 octet channels frequency circuits allowances none equal few some from to = grind (arith, nat_tests)

module _ (octet slots channels circuits : ℕ) (none : octet ≡ 0) (few : circuits ≤ 64) (some : channels ≤ 1024) where
  pub plan_30 : slots * circuits < channels → 30 ≡ plan_refusal octet slots channels circuits
  unfolding plan_refusal or_else
  plan_30 short = grind (arith, nat_tests)

  pub plan_0 : channels ≤ slots * circuits → 0 ≡ plan_refusal octet slots channels circuits
  unfolding plan_refusal or_else
  plan_0 enough = grind (arith, nat_tests)

-- ---- S, and what passes the checks

-- of one channel in order 0 only the octet can be refused
pub one_channel : (octet : ℕ) → is_listed octet ≡ true → settings_refusal octet 1 0 ≡ 0
unfolding settings_refusal
one_channel octet h = rw (h, le-ltb (F.slots_of octet) 1 (omega (arith, (sound_fields octet h).slots_from)))

pub no_format_lem : (octet : ℕ) → is_listed octet ≡ false → settings_refusal octet 1 0 ≡ 1
unfolding settings_refusal
no_format_lem octet h = rw h

-- S of what is settled is that of the octet
settled_slots : (octet : ℕ) → (settings_of octet 1 0).format.slots ≡ slots_of octet
unfolding settings_of
settled_slots octet =
    split (is_listed octet)
    (λ h. ap (λ (s : Settled). s.format.slots) (settled_of_lem octet 1 0 (one_channel octet h)))
    (λ h. rw (no_format_lem octet h) (no_slots octet h))

pub slots_most : (octet : ℕ) → slots_of octet ≤ 48
slots_most octet = split (is_listed octet) (λ h. (sound_format octet h).slots_to) (λ h. omega (arith, no_slots octet h))

pub slots_least : (octet : ℕ) → octet_refusal octet ≡ 0 → 8 ≤ slots_of octet
slots_least octet taken = (sound_format octet (settles_all octet 1 0 taken).listed).slots_from

module _ {set : Settled} (octet : ℕ) (given : set ≡ settings_of octet 1 0) where
  refusal_given : set.refusal ≡ octet_refusal octet
  refusal_given = ap (λ (s : Settled). s.refusal) given ∙ refusal_of_lem octet 1 0

  slots_are : set.format.slots ≡ slots_of octet
  slots_are = ap (λ (s : Settled). s.format.slots) given ∙ settled_slots octet

  pub slots_given : set.format.slots ≤ 48
  slots_given = omega (arith, slots_most octet, slots_are)

pub record Passed (octet channels frequency circuits allowances : ℕ) : Type 0 where
  pub format : octet ≡ 0
  pub equal : allowances ≡ circuits
  pub circuits_to : circuits ≤ 64
  pub channels_to : channels ≤ 1024
  pub frequency_from : 1 ≤ frequency
  pub frequency_to : frequency ≤ 1000000

pub check_passed : (octet channels frequency circuits allowances : ℕ) → check_refusal octet channels frequency circuits allowances ≡ 0
    → Passed octet channels frequency circuits allowances
unfolding check_refusal
check_passed octet channels frequency circuits allowances none =
    let first = past_both octet _ none in
    let fifth = past (not (eqb allowances circuits)) 4 _ first.1 in
    let many = past (ltb 64 circuits || ltb 1024 channels) 21 _ fifth.1 in
    let counts = neither (ltb 64 circuits) (ltb 1024 channels) many.0 in
    let last = past (ltb frequency 1 || ltb 1000000 frequency) 22 _ many.1 in
    let ends = neither (ltb frequency 1) (ltb 1000000 frequency) last.0 in
    record {
      format = first.0;
      equal = eqb-true _ _ (Tests.not-false _ fifth.0);
      circuits_to = ltb-false _ _ counts.0;
      channels_to = ltb-false _ _ counts.1;
      frequency_from = ltb-false _ _ ends.0;
      frequency_to = ltb-false _ _ ends.1;
    }

pub record Planned (octet slots channels circuits : ℕ) : Type 0 where
  pub format : octet ≡ 0
  pub circuits_to : circuits ≤ 64
  pub channels_to : channels ≤ 1024
  pub enough : channels ≤ slots * circuits

pub plan_passed : (octet slots channels circuits : ℕ) → plan_refusal octet slots channels circuits ≡ 0 → Planned octet slots channels circuits
unfolding plan_refusal
plan_passed octet slots channels circuits none =
    let first = past_both octet _ none in
    let many = past (ltb 64 circuits || ltb 1024 channels) 21 _ first.1 in
    let counts = neither (ltb 64 circuits) (ltb 1024 channels) many.0 in
    let last = past (ltb (slots * circuits) channels) 29 _ many.1 in
    record {
      format = first.0;
      circuits_to = ltb-false _ _ counts.0;
      channels_to = ltb-false _ _ counts.1;
      enough = ltb-false _ _ last.0;
    }

-- ---- the answers

pub judged_where_taken : (octet channels frequency : ℕ) (shares allowances : List ℕ)
    → check_refusal (octet_refusal octet) channels frequency (length shares) (length allowances) ≡ 0
    → judged_from (slots_of octet) channels frequency 0 0 shares allowances ≡ checked_of octet channels frequency shares allowances
unfolding checked_of
judged_where_taken octet channels frequency shares allowances none = rw none

module _ {set : Settled} (octet : ℕ) (given : set ≡ settings_of octet 1 0) where
  format_taken : set.refusal ≡ 0 → octet_refusal octet ≡ 0
  format_taken none = sym (refusal_given octet given) ∙ none

module _ {set : Settled} (octet channels frequency : ℕ) (shares allowances : List ℕ) (given : set ≡ settings_of octet 1 0) where
  abbrev refusal_here : ℕ
  refusal_here = check_refusal (octet_refusal octet) channels frequency (length shares) (length allowances)

  pub check_refused : {n : ℕ} → n ≡ refusal_here → (n ≡ 0 → ⊥) → Refused n ≡ checked_of octet channels frequency shares allowances
  unfolding checked_of
  check_refused is some = rw (← is, ne_eqb _ _ some)

  -- the octet's own refusal comes first
  pub check_format : {n : ℕ} → n ≡ set.refusal → (n ≡ 0 → ⊥) → Refused n ≡ checked_of octet channels frequency shares allowances
  unfolding check_refusal
  check_format is some =
      let own = is ∙ refusal_given octet given in
      check_refused (own ∙ sym (first_refuses _ (λ e. some (own ∙ e)))) some

  module _ (none : set.refusal ≡ 0) where
    said : {n : ℕ} → n ≡ check_refusal 0 channels frequency (length shares) (length allowances) → n ≡ refusal_here
    said is = rw (format_taken octet given none) is

    pub check_other : {n : ℕ} → n ≡ check_refusal 0 channels frequency (length shares) (length allowances) → (n ≡ 0 → ⊥)
        → Refused n ≡ checked_of octet channels frequency shares allowances
    check_other is = check_refused (said is)

    module _ (taken : 0 ≡ check_refusal 0 channels frequency (length shares) (length allowances)) where
      pub check_passes : (set.format.slots ≤ 48) × (length shares ≤ 64) × (length allowances ≡ length shares)
      check_passes =
          let passed = check_passed _ _ _ _ _ (sym taken) in (slots_given octet given, passed.circuits_to, passed.equal)

      pub check_taken : {v : Verdict} → v ≡ judged_from set.format.slots channels frequency 0 0 shares allowances
          → v ≡ checked_of octet channels frequency shares allowances
      check_taken is =
          is
          ∙ ap (λ (n : ℕ). judged_from n channels frequency 0 0 shares allowances) (slots_are octet given)
          ∙ judged_where_taken octet channels frequency shares allowances (sym (said taken))

module _ {set : Settled} (octet channels : ℕ) (shares : List ℕ) (given : set ≡ settings_of octet 1 0) where
  plan_refused : {n : ℕ} → n ≡ plan_refusal_of octet channels shares → (n ≡ 0 → ⊥) → Plans octet channels shares n shares
  plan_refused is some = record { refused = is; leaves = rw (ne_eqb _ 0 (λ e. some (is ∙ e))) }

  pub plan_format : {n : ℕ} → n ≡ set.refusal → (n ≡ 0 → ⊥) → Plans octet channels shares n shares
  unfolding plan_refusal
  plan_format is some =
      let own = is ∙ refusal_given octet given in
      plan_refused (own ∙ sym (first_refuses _ (λ e. some (own ∙ e)))) some

  module _ (none : set.refusal ≡ 0) where
    planned : {n : ℕ} → n ≡ plan_refusal 0 set.format.slots channels (length shares) → n ≡ plan_refusal_of octet channels shares
    planned is = rw (format_taken octet given none, ← slots_are octet given) is

    pub plan_other : {n : ℕ} → n ≡ plan_refusal 0 set.format.slots channels (length shares) → (n ≡ 0 → ⊥) → Plans octet channels shares n shares
    plan_other is = plan_refused (planned is)

    pub plan_taken : 0 ≡ plan_refusal 0 set.format.slots channels (length shares) → {shares₁ : List ℕ}
        → shares₁ ≡ planned_of set.format.slots channels (length shares) → Plans octet channels shares 0 shares₁
    plan_taken taken made =
        record {
          refused = planned taken;
          leaves = rw (sym (planned taken)) (made ∙ ap (λ (slots : ℕ). planned_of slots channels (length shares)) (slots_are octet given));
        }
