-- Laws of runs, octets and finite tests.
-- Assumes nothing.
use mathlib.Core.Bool.{Bool, true, false, true≢false, cond, ◌&&◌, ◌||◌}
use mathlib.Core.List.{List, [], ◌∷◌, ◌++◌}
use mathlib.Core.Logic.{⊎_elim}
use mathlib.Core.Path.{◌≡◌, refl, sym, ◌∙◌, ap, subst}
use Prim.Native.Nat.{ℕ, zero, suc, ◌+◌, ◌*◌, ◌/◌, ◌%◌, ◌-◌, ◌^◌, ◌≤◌, ◌<◌}
use native.Mathlib.Nat.{
  suc-ne-zero,
  not-suc-le-zero,
  le_of_suc-le-suc,
  eq-or-lt_of_le,
  pow-suc,
  pow-zero,
  mul-one,
  one-mul,
  mod-eq_of_lt,
  mul_assoc,
  mul_comm,
  mul-suc,
  suc-mul,
  mod-one,
  mul-le-mul_right,
  zero-mul,
}
use native.Mathlib.Omega.{arith}
use lib.Arith.{mod-mul}
use lib.Pow.{pow-add, pow-lt}
use borrow.Author.Tests.{ne_eqb, eqb-true, eqb-false}
use lib.Dec.{T, eqb}
use lib.ListN.{length, get_or, take, drop, length-append, length-drop, get_or-append}
use lib.Seq.{drop_at, get_or_at, take-append-le, drop-append-le, take_all, ext_get_or}
use Rattle.runs.specs.Runs.{tab, joined, octets_of, read_on}
use Rattle.runs.specs.Refusals.{or_else}
use Rattle.runs.specs.Test.{every}

pub both_left : (a b : Bool) → T (a && b) → T a
both_left true b t = tt
both_left false b t = t

pub both_right : (a b : Bool) → T (a && b) → T b
both_right true b t = t
both_right false b t = absurd t

pub or_right : (a b : Bool) → a ≡ false → T (a || b) → T b
or_right true b e t = absurd (true≢false e)
or_right false b e t = t

-- what a list of refusals in order tells where none is given: the first is not, and the rest gives none
pub past : (test : Bool) (n rest : ℕ) → cond test (suc n) rest ≡ 0 → (test ≡ false) × (rest ≡ 0)
past true n rest e = absurd (suc-ne-zero n e)
past false n rest e = (refl, e)

-- a test and what it says
pub split : (test : Bool) {P : Type 0} → (test ≡ true → P) → (test ≡ false → P) → P
split true here there = here refl
split false here there = there refl

pub first_refuses : {first : ℕ} (later : ℕ) → (first ≡ 0 → ⊥) → or_else first later ≡ first
unfolding or_else
first_refuses later some = rw (ne_eqb _ _ some)

pub then_later : {first : ℕ} (later : ℕ) → first ≡ 0 → or_else first later ≡ later
unfolding or_else
then_later later none = rw none

pub past_both : (first later : ℕ) → or_else first later ≡ 0 → (first ≡ 0) × (later ≡ 0)
unfolding or_else
past_both first later e =
    split (eqb first 0)
    (λ t. let none : first ≡ 0 = eqb-true first 0 t in (none, sym (then_later later none) ∙ e))
    (λ t. absurd (eqb-false first 0 t (sym (first_refuses later (eqb-false first 0 t)) ∙ e)))

pub both_true : (a b : Bool) → a && b ≡ true → (a ≡ true) × (b ≡ true)
both_true true b e = (refl, e)
both_true false b e = absurd (true≢false (sym e))

pub neither : (a b : Bool) → a || b ≡ false → (a ≡ false) × (b ≡ false)
neither true b e = absurd (true≢false e)
neither false b e = (refl, e)

-- a test that passes at each number below n passes at k
pub every_at : (test : ℕ → Bool) (n : ℕ) → T (every test n) → (k : ℕ) → k < n → T (test k)
unfolding every
every_at test zero t k h = absurd (not-suc-le-zero h)
every_at test (suc n) t k h =
    ⊎_elim
    (λ e. subst (λ (m : ℕ). T (test m)) (sym e) (both_left (test n) (every test n) t))
    (λ less. every_at test n (both_right (test n) (every test n) t) k less)
    (eq-or-lt_of_le (le_of_suc-le-suc h))

pub length_tab : (f : ℕ → ℕ) (n : ℕ) → length (tab f n) ≡ n
unfolding tab
length_tab f zero = refl
length_tab f (suc n) = length-append (tab f n) (f n ∷ []) ∙ omega (arith, length_tab f n)

pub get_or_tab : (f : ℕ → ℕ) (n : ℕ) {i : ℕ} → i < n → get_or (tab f n) i 0 ≡ f i
unfolding tab
get_or_tab f zero h = absurd (not-suc-le-zero h)
get_or_tab f (suc n) {i} h =
    ⊎_elim
    (λ e. rw e (get_or_at (tab f n) (f n) [] 0 n (length_tab f n)))
    (λ less. get_or-append (tab f n) (f n ∷ []) 0 i (omega (arith, less, length_tab f n)) ∙ get_or_tab f n less)
    (eq-or-lt_of_le (le_of_suc-le-suc h))

-- a run is what is said of each of its entries
pub tab_is : (f : ℕ → ℕ) (n : ℕ) (xs : List ℕ) → length xs ≡ n → ((i : ℕ) → i < n → f i ≡ get_or xs i 0) → tab f n ≡ xs
tab_is f n xs len each =
    ext_get_or 0 (tab f n) xs (length_tab f n ∙ sym len)
    (λ i h. let less : i < n = rw (length_tab f n) at h in get_or_tab f n less ∙ each i less)

pub length_joined : (g : ℕ → List ℕ) (w n : ℕ) → ((k : ℕ) → length (g k) ≡ w) → length (joined g n) ≡ n * w
unfolding joined
length_joined g w zero h = sym (zero-mul w)
length_joined g w (suc n) h = length-append (joined g n) (g n) ∙ omega (arith, length_joined g w n h, h n, suc-mul n w)

-- part k of parts of one length stands at k times that length
pub part_joined : (g : ℕ → List ℕ) (w n : ℕ) → ((k : ℕ) → length (g k) ≡ w) → {k : ℕ} → k < n → take w (drop (k * w) (joined g n)) ≡ g k
unfolding joined
part_joined g w zero h l = absurd (not-suc-le-zero l)
part_joined g w (suc n) h {k} l =
    ⊎_elim
    (λ e. subst (λ (j : ℕ). take w (drop (j * w) (joined g n ++ g n)) ≡ g j) (sym e) newest)
    (λ less. inside less (part_joined g w n h less))
    (eq-or-lt_of_le (le_of_suc-le-suc l))
  where
    newest : take w (drop (n * w) (joined g n ++ g n)) ≡ g n
    newest = rw (drop_at (joined g n) (g n) (n * w) (length_joined g w n h)) (take_all w (g n) (omega (arith, h n)))

    here : (less : k < n) → k * w + w ≤ length (joined g n)
    here less = omega (arith, length_joined g w n h, suc-mul k w, mul-le-mul_right {m = suc k} {n = n} w less)

    inside : (less : k < n) → take w (drop (k * w) (joined g n)) ≡ g k → take w (drop (k * w) (joined g n ++ g n)) ≡ g k
    inside less below =
        rw (
          drop-append-le (k * w) (joined g n) (g n) (omega (arith, here less)),
          take-append-le w (drop (k * w) (joined g n)) (g n) (omega (arith, here less, length-drop (k * w) (joined g n))),
        )
        below

pub length_octets : (w n : ℕ) → length (octets_of w n) ≡ w
unfolding octets_of
length_octets zero n = refl
length_octets (suc w) n = ap suc (length_octets w n)

pow_256 : (w : ℕ) → zero < 256 ^ w
pow_256 zero = rw pow-zero (omega arith)
pow_256 (suc w) = rw pow-suc (omega (arith, pow_256 w))

-- w octets are 8 × w bits
pub octets_pow : (w : ℕ) → 2 ^ (8 * w) ≡ 256 ^ w
octets_pow zero = refl
octets_pow (suc w) =
    ap (λ (k : ℕ). 2 ^ k) (mul-suc 8 w) ∙ pow-add 2 (8 * w) 8 ∙ ap (λ (n : ℕ). n * 256) (octets_pow w) ∙ sym (pow-suc 256 w)

-- octet i of a number, as the code shifts it out
pub octet_at : (w n i : ℕ) → i < w → n / 2 ^ (8 * (w - 1 - i)) % 256 ≡ get_or (octets_of w n) i 0
unfolding octets_of
octet_at zero n i h = absurd (not-suc-le-zero h)
octet_at (suc w) n zero h =
    let place : suc w - 1 - 0 ≡ w = omega arith in
    ap (λ (p : ℕ). n / p % 256) (ap (λ (k : ℕ). 2 ^ (8 * k)) place ∙ octets_pow w)
octet_at (suc w) n (suc i) h =
    let place : suc w - 1 - suc i ≡ w - 1 - i = omega arith in
    ap (λ (k : ℕ). n / 2 ^ (8 * k) % 256) place ∙ octet_at w n i (le_of_suc-le-suc h)

-- octets of a number, read after others, give the number's low part behind them
pub read_octets : (w m n : ℕ) → read_on m (octets_of w n) ≡ m * 256 ^ w + n % 256 ^ w
unfolding octets_of read_on
read_octets zero m n = rw (pow-zero, mul-one, mod-one) (omega arith)
read_octets (suc w) m n =
    read_octets w (m * 256 + n / 256 ^ w % 256) n
    ∙ rw (pow-suc, mul_comm (256 ^ w) 256, mod-mul n {m = 256} {c = 256 ^ w} (omega arith) (pow_256 w))
    (omega (arith, mul_assoc m 256 (256 ^ w)))

-- octets read one more at the end
pub read_snoc : (m : ℕ) (xs : List ℕ) (x : ℕ) → read_on m (xs ++ (x ∷ [])) ≡ read_on m xs * 256 + x
unfolding read_on
read_snoc m [] x = refl
read_snoc m (y ∷ ys) x = read_snoc (m * 256 + y) ys x

-- a single bit at a place, as code shifts it there
pub one_shifted : {k : ℕ} → k < 64 → (1 * 2 ^ k) % 2 ^ 64 ≡ 2 ^ k
one_shifted {k} h = ap (λ (n : ℕ). n % 2 ^ 64) (one-mul (2 ^ k)) ∙ mod-eq_of_lt (pow-lt {i = k} {j = 64} h)
