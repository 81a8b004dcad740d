-- What the planner's shares are, that 30 is nobody's fault, and that the checker takes the circuits that it filled.
-- Assumes nothing.
use mathlib.Core.List.{List, [], ◌∷◌, ◌++◌}
use mathlib.Core.Path.{◌≡◌, sym, ◌∙◌, ap, subst}
use Prim.Native.Nat.{ℕ, zero, suc, ◌+◌, ◌-◌, ◌*◌, ◌/◌, ◌≤◌, ◌<◌, min}
use native.Mathlib.Nat.{zero-mul, suc-mul, mul_comm, mul-le-mul_right, min-le_left, div-lt_iff_lt-mul, div-mul-le_self, div-add-mod', mod-lt, le-div_iff_mul-le}
use native.Mathlib.Omega.{arith}
use borrow.Author.Tests.{ltb-true, ltb-false}
use lib.Dec.{ltb}
use lib.ListN.{length, get_or, take}
use lib.Seq.{length-take-le, get_or-take}
use Rattle.runs.specs.Runs.{tab}
use Rattle.runs.proofs.Laws.{split, length_tab, get_or_tab, tab_is}
use Rattle.formats.specs.Formats.{times_of}
use Rattle.circuits.specs.Circuits.{Yes, octet_refusal, slots_of, cells_per_second, checked_of, planned_of, plan_refusal}
use Rattle.circuits.specs.Plans.{total, ShareFits, Allowed, Shares, filled_of}
use Rattle.circuits.proofs.Laws.{planned_at, plan_passed, plan_30, plan_0, check_0, slots_least}
use Rattle.circuits.proofs.Checked.{good_yes}

-- ---- totals

total_snoc : (xs : List ℕ) (x : ℕ) → total (xs ++ (x ∷ [])) ≡ total xs + x
unfolding total
total_snoc [] x = omega arith
total_snoc (y ∷ ys) x = omega (arith, total_snoc ys x)

total_most : (slots : ℕ) (xs : List ℕ) → ((k : ℕ) → k < length xs → get_or xs k 0 ≤ slots) → total xs ≤ length xs * slots
unfolding total
total_most slots [] most = omega arith
total_most slots (x ∷ xs) most =
    omega (arith, suc-mul (length xs) slots, most 0 (omega arith), total_most slots xs (λ k h. most (suc k) (omega arith)))

module _ (slots channels : ℕ) where
  pub length_planned : (n : ℕ) → length (planned_of slots channels n) ≡ n
  unfolding planned_of
  length_planned n = length_tab _ n

  total_planned : (n : ℕ) → total (planned_of slots channels n) ≡ min (n * slots) channels
  unfolding planned_of tab total
  total_planned zero = omega (arith, zero-mul slots)
  total_planned (suc n) =
      total_snoc (tab (λ k. min slots (channels - k * slots)) n) (min slots (channels - n * slots))
      ∙ omega (arith, total_planned n, suc-mul n slots)

  -- the planner's shares add up to the channels
  pub planned_adds_up : (n : ℕ) → channels ≤ slots * n → total (planned_of slots channels n) ≡ channels
  planned_adds_up n enough = total_planned n ∙ omega (arith, mul_comm slots n)

  -- each is at most S
  pub planned_most : (n k : ℕ) → k < n → get_or (planned_of slots channels n) k 0 ≤ slots
  planned_most n k h = rw (planned_at slots channels n h) (min-le_left slots (channels - k * slots))

  -- full ones first: a circuit before one that carries any channel is full
  pub full_first : (n j k : ℕ) → j < k → k < n → 1 ≤ get_or (planned_of slots channels n) k 0 → get_or (planned_of slots channels n) j 0 ≡ slots
  full_first n j k before h some =
      let here : 1 ≤ min slots (channels - k * slots) = rw (planned_at slots channels n h) at some in
      planned_at slots channels n {i = j} (omega arith)
      ∙ omega (arith, here, suc-mul j slots, mul-le-mul_right {m = suc j} {n = k} slots before)

  module _ (from : 1 ≤ slots) where
    abbrev filled : ℕ
    filled = filled_of slots channels

    -- the circuits that are filled carry all, and without the last one too few
    all_in : channels ≤ filled * slots
    unfolding filled_of
    all_in = omega (arith, div-add-mod' (channels + (slots - 1)) slots, mod-lt (channels + (slots - 1)) from)

    last_needed : (k : ℕ) → k < filled → k * slots < channels
    unfolding filled_of
    last_needed k h =
        omega (
          arith,
          suc-mul k slots,
          mul-le-mul_right {m = suc k} {n = (channels + (slots - 1)) / slots} slots h,
          div-mul-le_self (channels + (slots - 1)) slots,
        )

    -- circuits left over get 0
    pub left_over : (n k : ℕ) → filled ≤ k → k < n → get_or (planned_of slots channels n) k 0 ≡ 0
    left_over n k past h =
        planned_at slots channels n h ∙ omega (arith, all_in, mul-le-mul_right {m = filled} {n = k} slots past)

    filled_fits : (k : ℕ) → k < filled → ShareFits slots (planned_of slots channels filled) k
    filled_fits k h =
        record {
          from = rw (planned_at slots channels filled h) (omega (arith, last_needed k h));
          to = planned_most filled k h;
        }

    filled_le : (n : ℕ) → channels ≤ slots * n → filled ≤ n
    unfolding filled_of
    filled_le n enough =
        let less : (channels + (slots - 1)) / slots < suc n =
        (div-lt_iff_lt-mul {k = slots} {x = channels + (slots - 1)} {y = suc n} from).1 (omega (arith, suc-mul n slots, mul_comm slots n)) in
        omega arith

    take_filled : (n : ℕ) → filled ≤ n → take filled (planned_of slots channels n) ≡ planned_of slots channels filled
    unfolding planned_of
    take_filled n h =
        let run = tab (λ k. min slots (channels - k * slots)) n in
        sym
        (tab_is (λ k. min slots (channels - k * slots)) filled (take filled run)
        (length-take-le filled run (omega (arith, length_tab (λ k. min slots (channels - k * slots)) n)))
        (λ i less. sym (get_or-take filled run i 0 less ∙ get_or_tab (λ k. min slots (channels - k * slots)) n (omega arith))))

-- ---- 30

module _ (octet slots channels circuits : ℕ) (base : octet ≡ 0) (few : circuits ≤ 64) (some : channels ≤ 1024) where
  -- whoever plans: no shares of at most S each, 0 allowed, add up to the channels
  pub thirty_none : plan_refusal octet slots channels circuits ≡ 30
      → (shares : List ℕ) → Shares slots circuits shares → total shares ≡ channels → ⊥
  thirty_none refused shares s adds_up =
      split (ltb (slots * circuits) channels)
      (λ t.
      let short : slots * circuits < channels = ltb-true _ _ t in
      let many = total_most slots shares (λ k h. s.most k (omega (arith, s.many))) in
      omega (arith, short, many, adds_up, mul_comm slots circuits, ap (λ (n : ℕ). n * slots) s.many))
      (λ t. let zero_is : 0 ≡ plan_refusal octet slots channels circuits = plan_0 octet slots channels circuits base few some (ltb-false _ _ t) in
      omega (arith, zero_is, refused))

  pub none_thirty : ((shares : List ℕ) → Shares slots circuits shares → total shares ≡ channels → ⊥) → plan_refusal octet slots channels circuits ≡ 30
  none_thirty none =
      split (ltb (slots * circuits) channels)
      (λ t. sym (plan_30 octet slots channels circuits base few some (ltb-true _ _ t)))
      (λ t.
      absurd
      (none (planned_of slots channels circuits)
      (record { many = length_planned slots channels circuits; most = planned_most slots channels circuits })
      (planned_adds_up slots channels circuits (ltb-false _ _ t))))

-- ---- "the checker judges it like any other": with allowances that suffice it says yes to the circuits that were filled

pub planner_yes : (octet channels frequency circuits : ℕ) (allowances : List ℕ)
    → plan_refusal (octet_refusal octet) (slots_of octet) channels circuits ≡ 0
    → 1 ≤ frequency → frequency ≤ 1000000
    → length allowances ≡ filled_of (slots_of octet) channels
    → ((k : ℕ) → k < filled_of (slots_of octet) channels
    → Allowed (slots_of octet) frequency (take (filled_of (slots_of octet) channels) (planned_of (slots_of octet) channels circuits)) allowances k)
    → checked_of octet channels frequency (take (filled_of (slots_of octet) channels) (planned_of (slots_of octet) channels circuits)) allowances ≡ Yes
planner_yes octet channels frequency circuits allowances taken from to many suffice =
    let slots = slots_of octet in
    let m = filled_of slots channels in
    let passed = plan_passed _ _ _ _ taken in
    let some : 1 ≤ slots = omega (arith, slots_least octet passed.format) in
    let within : m ≤ circuits = filled_le slots channels some circuits passed.enough in
    let same : take m (planned_of slots channels circuits) ≡ planned_of slots channels m = take_filled slots channels some circuits within in
    let long : length (planned_of slots channels m) ≡ m = length_planned slots channels m in
    let enough : channels ≤ slots * m = omega (arith, all_in slots channels some, mul_comm slots m) in
    let allowed : (k : ℕ) → k < m → Allowed slots frequency (planned_of slots channels m) allowances k =
    subst (λ (l : List ℕ). (k : ℕ) → k < m → Allowed slots frequency l allowances k) same suffice in
    subst (λ (l : List ℕ). checked_of octet channels frequency l allowances ≡ Yes) (sym same)
    (good_yes octet channels frequency (planned_of slots channels m) allowances
    (sym (check_0 (octet_refusal octet) channels frequency (length (planned_of slots channels m)) (length allowances) passed.format
    (many ∙ sym long) (omega (arith, long, passed.circuits_to)) passed.channels_to from to))
    (record {
      circuits = record {
        fits = λ k h. filled_fits slots channels some k (omega (arith, h, long));
        allowed = λ k h. allowed k (omega (arith, h, long));
      };
      adds_up = planned_adds_up slots channels m enough;
    }))

-- ---- cells per second: as many as the frequency asks for, and no fewer would do

pub cells_least : (slots share frequency allowance : ℕ) → 1 ≤ share → share ≤ slots
    → (cells_per_second slots share frequency ≤ allowance → frequency ≤ allowance * times_of slots share)
    × (frequency ≤ allowance * times_of slots share → cells_per_second slots share frequency ≤ allowance)
unfolding cells_per_second
cells_least slots share frequency allowance from to =
    let times = slots / share in
    let some : 1 ≤ times = (le-div_iff_mul-le from).1 (omega arith) in
    let raised = frequency + (times - 1) in (
      λ within.
          omega (arith, mul-le-mul_right {m = raised / times} {n = allowance} times within, div-add-mod' raised times, mod-lt raised some),
      λ enough.
          let less : raised / times < suc allowance =
          (div-lt_iff_lt-mul {k = times} {x = raised} {y = suc allowance} some).1 (omega (arith, suc-mul allowance times)) in
          omega arith,
    )
