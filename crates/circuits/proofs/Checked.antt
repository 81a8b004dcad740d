-- What the checker's verdict means: yes if and only if the plan is good, and a no's fault is there and no earlier one is.
-- Assumes nothing.
use mathlib.Core.Bool.{Bool, true, false, true≢false, ◌&&◌}
use mathlib.Core.List.{List, [], ◌∷◌}
use mathlib.Core.Path.{◌≡◌, refl, sym, ◌∙◌, subst}
use Prim.Native.Nat.{ℕ, zero, suc, ◌+◌, ◌<◌}
use native.Mathlib.Nat.{not-suc-le-zero, zero-add, le_of_suc-le-suc}
use native.Mathlib.Omega.{arith}
use borrow.Author.Tests.{eqb-true, eqb-false, leb-true, leb-false, le-leb}
use lib.Dec.{eqb, leb}
use lib.ListN.{length}
use Rattle.circuits.specs.Circuits.{Verdict, Refused, Yes, Share, Allowance, Sum, octet_refusal, slots_of, fits_slots, cells_per_second, pick, judged_from, check_refusal, checked_of}
use Rattle.circuits.specs.Plans.{total, ShareFits, Allowed, GoodTo, Good, ShareFault, AllowanceFault, SumFault}
use Rattle.circuits.proofs.Laws.{fits_by, check_passed, judged_where_taken}

-- what is said of the circuits from one on, of which `carried` channels are carried before
abbrev Means : ℕ → ℕ → ℕ → ℕ → ℕ → List ℕ → List ℕ → Verdict → Type 0
Means slots channels frequency circuit carried shares allowances (Refused n) = ⊥
Means slots channels frequency circuit carried shares allowances Yes =
    GoodTo slots frequency shares allowances (length shares) × (carried + total shares ≡ channels)
Means slots channels frequency circuit carried shares allowances (Share k) =
    (j : ℕ) × (k ≡ circuit + j) × ShareFault slots frequency shares allowances j
Means slots channels frequency circuit carried shares allowances (Allowance k) =
    (j : ℕ) × (k ≡ circuit + j) × AllowanceFault slots frequency shares allowances j
Means slots channels frequency circuit carried shares allowances Sum =
    GoodTo slots frequency shares allowances (length shares) × (carried + total shares ≡ channels → ⊥)

pick_either : (P : Verdict → Type 0) (test : Bool) {v w : Verdict} → (test ≡ true → P v) → (test ≡ false → P w) → P (pick test v w)
pick_either P true here there = here refl
pick_either P false here there = there refl

good_none : (slots frequency : ℕ) (shares allowances : List ℕ) → GoodTo slots frequency shares allowances 0
good_none slots frequency shares allowances =
    record { fits = λ k h. absurd (not-suc-le-zero h); allowed = λ k h. absurd (not-suc-le-zero h) }

-- ---- one circuit before others
module _ (slots frequency x y : ℕ) (xs ys : List ℕ) where
  fits_on : (k : ℕ) → ShareFits slots xs k → ShareFits slots (x ∷ xs) (suc k)
  fits_on k f = record { from = f.from; to = f.to }

  fits_off : (k : ℕ) → ShareFits slots (x ∷ xs) (suc k) → ShareFits slots xs k
  fits_off k f = record { from = f.from; to = f.to }

  fits_at : fits_slots slots x ≡ true → ShareFits slots (x ∷ xs) 0
  fits_at is = record { from = (fits_by slots x is).0; to = (fits_by slots x is).1 }

  fits_not : fits_slots slots x ≡ false → ShareFits slots (x ∷ xs) 0 → ⊥
  unfolding fits_slots
  fits_not other f = true≢false (sym both ∙ other)
    where
      both : leb 1 x && leb x slots ≡ true
      both = rw (le-leb 1 x f.from, le-leb x slots f.to)

  module _ (here : ShareFits slots (x ∷ xs) 0) (allowed : Allowed slots frequency (x ∷ xs) (y ∷ ys) 0) where
    good_on : (n : ℕ) → GoodTo slots frequency xs ys n → GoodTo slots frequency (x ∷ xs) (y ∷ ys) (suc n)
    good_on n g = record { fits = first_fits; allowed = first_allowed }
      where
        first_fits : (k : ℕ) → k < suc n → ShareFits slots (x ∷ xs) k
        first_fits zero h = here
        first_fits (suc k) h = fits_on k (g.fits k (le_of_suc-le-suc h))

        first_allowed : (k : ℕ) → k < suc n → Allowed slots frequency (x ∷ xs) (y ∷ ys) k
        first_allowed zero h = allowed
        first_allowed (suc k) h = g.allowed k (le_of_suc-le-suc h)

    means_on : (channels circuit carried : ℕ) (v : Verdict) → Means slots channels frequency (suc circuit) (carried + x) xs ys v
        → Means slots channels frequency circuit carried (x ∷ xs) (y ∷ ys) v
    unfolding total
    means_on channels circuit carried (Refused n) m = m
    means_on channels circuit carried Yes m = (good_on (length xs) m.0, omega (arith, m.1))
    means_on channels circuit carried (Share k) m = (
      suc m.0,
      m.1 ∙ omega arith,
      record {
        there = omega (arith, m.2.there);
        none_before = good_on m.0 m.2.none_before;
        fault = λ f. m.2.fault (fits_off m.0 f);
      },
    )
    means_on channels circuit carried (Allowance k) m = (
      suc m.0,
      m.1 ∙ omega arith,
      record {
        there = omega (arith, m.2.there);
        none_before = good_on m.0 m.2.none_before;
        fits = fits_on m.0 m.2.fits;
        fault = m.2.fault;
      },
    )
    means_on channels circuit carried Sum m = (good_on (length xs) m.0, λ e. m.1 (omega (arith, e)))

means : (slots channels frequency circuit carried : ℕ) (shares allowances : List ℕ) → length allowances ≡ length shares
    → Means slots channels frequency circuit carried shares allowances (judged_from slots channels frequency circuit carried shares allowances)
unfolding judged_from total
means slots channels frequency circuit carried [] allowances equal =
    let none = good_none slots frequency [] allowances in
    pick_either (Means slots channels frequency circuit carried [] allowances) (eqb carried channels)
    (λ e. (none, omega (arith, eqb-true carried channels e)))
    (λ e. (none, λ same. eqb-false carried channels e (omega (arith, same))))
means slots channels frequency circuit carried (x ∷ xs) [] equal = absurd (omega (arith, equal))
means slots channels frequency circuit carried (x ∷ xs) (y ∷ ys) equal =
    let Here : Verdict → Type 0 = Means slots channels frequency circuit carried (x ∷ xs) (y ∷ ys) in
    pick_either Here (fits_slots slots x)
    (λ is.
    let fits = fits_at slots frequency x y xs ys is in
    pick_either Here (leb (cells_per_second slots x frequency) y)
    (λ e.
    means_on slots frequency x y xs ys fits (leb-true _ _ e) channels circuit carried
    (judged_from slots channels frequency (suc circuit) (carried + x) xs ys)
    (means slots channels frequency (suc circuit) (carried + x) xs ys (omega (arith, equal))))
    (λ e. (
      0,
      omega arith,
      record {
        there = omega arith;
        none_before = good_none slots frequency (x ∷ xs) (y ∷ ys);
        fits = fits;
        fault = λ within. omega (arith, within, leb-false (cells_per_second slots x frequency) y e);
      },
    )))
    (λ other. (
      0,
      omega arith,
      record {
        there = omega arith;
        none_before = good_none slots frequency (x ∷ xs) (y ∷ ys);
        fault = fits_not slots frequency x y xs ys other;
      },
    ))

-- ---- the checker
module _ (octet channels frequency : ℕ) (shares allowances : List ℕ)
    (taken : check_refusal (octet_refusal octet) channels frequency (length shares) (length allowances) ≡ 0)
  where
    abbrev verdict : Verdict
    verdict = checked_of octet channels frequency shares allowances

    abbrev Here : Verdict → Type 0
    Here = Means (slots_of octet) channels frequency 0 0 shares allowances

    meant : Here verdict
    meant =
        subst Here (judged_where_taken octet channels frequency shares allowances taken)
        (means (slots_of octet) channels frequency 0 0 shares allowances (check_passed _ _ _ _ _ taken).equal)

    -- "Our checker says yes exactly when" the plan is good
    pub yes_good : verdict ≡ Yes → Good (slots_of octet) channels frequency shares allowances
    yes_good e = let m = subst Here e meant in record { circuits = m.0; adds_up = sym (zero-add (total shares)) ∙ m.1 }

    pub good_yes : Good (slots_of octet) channels frequency shares allowances → verdict ≡ Yes
    good_yes good = by_case verdict meant
      where
        by_case : (v : Verdict) → Here v → v ≡ Yes
        by_case (Refused n) m = absurd m
        by_case Yes m = refl
        by_case (Share k) m = absurd (m.2.fault (good.circuits.fits m.0 m.2.there))
        by_case (Allowance k) m = absurd (m.2.fault (good.circuits.allowed m.0 m.2.there))
        by_case Sum m = absurd (m.1 (zero-add (total shares) ∙ good.adds_up))

    -- "A no names the first fault"
    pub no_share : (k : ℕ) → verdict ≡ Share k → ShareFault (slots_of octet) frequency shares allowances k
    no_share k e =
        let m = subst Here e meant in
        subst (ShareFault (slots_of octet) frequency shares allowances) (sym (m.1 ∙ zero-add m.0)) m.2

    pub no_allowance : (k : ℕ) → verdict ≡ Allowance k → AllowanceFault (slots_of octet) frequency shares allowances k
    no_allowance k e =
        let m = subst Here e meant in
        subst (AllowanceFault (slots_of octet) frequency shares allowances) (sym (m.1 ∙ zero-add m.0)) m.2

    pub no_sum : verdict ≡ Sum → SumFault (slots_of octet) channels frequency shares allowances
    no_sum e = let m = subst Here e meant in record { none_before = m.0; fault = λ same. m.1 (zero-add (total shares) ∙ same) }

    -- and nothing else is said
    pub never_refused : (n : ℕ) → verdict ≡ Refused n → ⊥
    never_refused n e = subst Here e meant
