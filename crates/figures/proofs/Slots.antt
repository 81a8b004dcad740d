-- Laws of marks added up slot by slot: the order in which the slots hold a cell's entries doesn't matter.
-- Assumes nothing.
use mathlib.Core.Bool.{Bool, true, cond}
use mathlib.Core.List.{List}
use mathlib.Core.Path.{◌≡◌, refl, sym, ◌∙◌, ap, ap₂}
use Prim.Native.Nat.{ℕ, zero, suc, ◌+◌, ◌*◌, ◌/◌, ◌%◌, ◌≤◌, ◌<◌}
use native.Mathlib.Nat.{mul_comm, suc-mul}
use native.Mathlib.Numerals.{add-one}
use native.Mathlib.Omega.{arith}
use borrow.Author.Tests.{eqb-true, eqb-false}
use lib.Arith.{digits_div, digits_mod}
use lib.Dec.{eqb}
use Rattle.runs.specs.Runs.{tab}
use Rattle.runs.proofs.Laws.{split}
use Rattle.formats.specs.declared.Format.{Format}
use Rattle.formats.specs.Settled.{Settled}
use Rattle.formats.specs.Sound.{Limits}
use Rattle.cells.specs.Cells.{subframe_at, mark_in, entries_of}
use Rattle.cells.specs.Placement.{slot_of, slot_of_entry}
use Rattle.cells.proofs.Marks.{mark_plain, mark_lt}
use Rattle.receiver.specs.Unpacking.{used_in, own_entries}
use Rattle.receiver.proofs.Unpacking.{slot_straight}
use Rattle.reading.specs.Totals.{total_of}
use Rattle.reading.proofs.Totals.{total_more}
use Rattle.figures.specs.Code.{marked}
use Rattle.figures.specs.Stretch.{sum_to, marks_in}

-- sums
sum_same : (g h : ℕ → ℕ) (n : ℕ) → ((i : ℕ) → i < n → g i ≡ h i) → sum_to g n ≡ sum_to h n
unfolding sum_to
sum_same g h zero same = refl
sum_same g h (suc n) same =
    ap₂ (λ (a b : ℕ). a + b) (sum_same g h n (λ i less. same i (omega (arith, less)))) (same n (omega arith))

sum_zero : (n : ℕ) → sum_to (λ i. 0) n ≡ 0
unfolding sum_to
sum_zero zero = refl
sum_zero (suc n) = omega (arith, sum_zero n)

sum_plus : (g h : ℕ → ℕ) (n : ℕ) → sum_to (λ i. g i + h i) n ≡ sum_to g n + sum_to h n
unfolding sum_to
sum_plus g h zero = refl
sum_plus g h (suc n) = omega (arith, sum_plus g h n)

sum_joined : (g : ℕ → ℕ) (m n : ℕ) → sum_to g (m + n) ≡ sum_to g m + sum_to (λ i. g (m + i)) n
unfolding sum_to
sum_joined g m zero =
    let none : m + 0 ≡ m = omega arith in
    ap (sum_to g) none ∙ omega arith
sum_joined g m (suc n) =
    let next : m + suc n ≡ suc (m + n) = omega arith in
    ap (sum_to g) next ∙ omega (arith, sum_joined g m n)

-- n blocks of m
sum_blocks : (g : ℕ → ℕ) (n m : ℕ) → sum_to g (n * m) ≡ sum_to (λ j. sum_to (λ i. g (j * m + i)) m) n
unfolding sum_to
sum_blocks g zero m = let none : 0 * m ≡ 0 = omega arith in ap (sum_to g) none
sum_blocks g (suc n) m =
    let next : suc n * m ≡ n * m + m = suc-mul n m in
    ap (sum_to g) next
    ∙ sum_joined g (n * m) m
    ∙ ap (λ (k : ℕ). k + sum_to (λ i. g (n * m + i)) m) (sum_blocks g n m)

-- rows first or columns first
sum_turned : (k : ℕ → ℕ → ℕ) (n m : ℕ) → sum_to (λ a. sum_to (λ b. k a b) m) n ≡ sum_to (λ b. sum_to (λ a. k a b) n) m
unfolding sum_to
sum_turned k zero m = sym (sum_zero m)
sum_turned k (suc n) m =
    ap (λ (s : ℕ). s + sum_to (k n) m) (sum_turned k n m) ∙ sym (sum_plus (λ b. sum_to (λ a. k a b) n) (k n) m)

-- entries of order 1, and the slots in turn
by_channel_lem : (g : ℕ → ℕ) (channels times : ℕ) → 1 ≤ channels
    → sum_to (λ i. g (slot_of_entry true channels times i)) (channels * times) ≡ sum_to g (channels * times)
unfolding slot_of_entry slot_of
by_channel_lem g channels times some =
    ap (sum_to (λ i. g (i % channels * times + i / channels))) (mul_comm channels times)
    ∙ sum_blocks (λ i. g (i % channels * times + i / channels)) times channels
    ∙ sum_same _ _ times
    (λ t less. sum_same _ _ channels
    (λ c here. ap₂ (λ (a b : ℕ). g (a * times + b)) (digits_mod t here) (digits_div t here)))
    ∙ sum_turned (λ t c. g (c * times + t)) times channels
    ∙ sym (sum_blocks g channels times)

one_or_none : {mark : ℕ} → mark < 2 → cond (eqb mark 1) 1 0 ≡ mark
one_or_none {mark} small =
    split (eqb mark 1) (λ e. rw e (sym (eqb-true mark 1 e))) (λ e. rw e (let apart = eqb-false mark 1 e in omega arith))

sum_tab : (g : ℕ → ℕ) → ((i : ℕ) → g i < 2) → (n : ℕ) → marked 1 (tab g n) ≡ sum_to g n
unfolding tab total_of sum_to
sum_tab g small zero = refl
sum_tab g small (suc n) =
    total_more (λ m. cond (eqb m 1) 1 0) (tab g n) (g n)
    ∙ ap₂ (λ (a b : ℕ). a + b) (sum_tab g small n) (one_or_none (small n))

-- a cell's own marks, entry by entry and slot by slot
pub own_ones : (set : Settled) (cell : List ℕ) → Limits set
    → marked 1 (own_entries (mark_in set.format) set cell) ≡ marks_in set.format cell (used_in set)
unfolding entries_of
own_ones set cell limits =
    let f : Format = set.format in
    let at : ℕ → ℕ = λ k. mark_in f (subframe_at f cell k) in
    sum_tab (λ i. at (slot_of_entry set.by_channel set.channels set.times i)) (λ i. mark_lt f _) (used_in set)
    ∙ split set.by_channel
    (λ e.
    ap (λ (b : Bool). sum_to (λ i. at (slot_of_entry b set.channels set.times i)) (used_in set)) e
    ∙ by_channel_lem at set.channels set.times limits.channels_from)
    (λ e. sum_same _ _ (used_in set) (λ i less. ap at (sym (slot_straight set cell e i))))

-- slots looked at one after the other
pub record Looked (f : Format) (cell : List ℕ) (used count slot : ℕ) : Type 0 where
  pub within : slot ≤ used
  pub is : count ≡ marks_in f cell slot
  pub few : count ≤ slot

module _ {f : Format} {cell : List ℕ} {used : ℕ} where
  pub looked_begun : Looked f cell used 0 0
  unfolding sum_to
  looked_begun = record { within = omega arith; is = refl; few = omega arith }

  pub looked_on : {count slot mark : ℕ} → Looked f cell used count slot → slot < used
      → (mark ≡ mark_in f (subframe_at f cell slot)) × (mark ≤ 1) → Looked f cell used (count + mark) (slot + 1)
  unfolding sum_to
  looked_on {count} {slot} {mark} so_far less here =
      record {
        within = omega arith;
        is = ap₂ (λ (a b : ℕ). a + b) so_far.is here.0 ∙ ap (marks_in f cell) (sym (add-one slot));
        few = omega (arith, so_far.few, here.1);
      }

  pub looked_done : {count slot : ℕ} → Looked f cell used count slot → used ≤ slot → (count ≡ marks_in f cell used) × (count ≤ used)
  looked_done so_far all =
      let same = so_far.within in
      (so_far.is ∙ ap (marks_in f cell) (omega arith), omega (arith, so_far.few, same))

-- without overhead no sample is marked 1
pub none_marked : (f : Format) (cell : List ℕ) (used : ℕ) → f.overhead_bits ≡ 0 → (0 ≡ marks_in f cell used) × (0 ≤ used)
none_marked f cell used none =
    (sym (sum_same _ (λ i. 0) used (λ i less. sym (mark_plain f (subframe_at f cell i) none).0) ∙ sum_zero used), omega arith)
