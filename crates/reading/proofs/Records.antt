-- Laws of the walk along a log's records. How many records it may take is hidden behind three of them: a record taken off the front,
-- the stop, and the induction along the records.
-- Assumes nothing.
use mathlib.Core.Bool.{Bool, true, false, true≢false}
use mathlib.Core.List.{List, [], ◌∷◌, ◌++◌, append_assoc}
use mathlib.Core.Path.{◌≡◌, refl, sym, ◌∙◌, ap, ap₂, subst}
use Prim.Native.Nat.{ℕ, zero, suc, ◌+◌, ◌*◌, ◌-◌, ◌≤◌, ◌<◌}
use native.Mathlib.Nat.{mul-suc}
use native.Mathlib.Omega.{arith}
use borrow.Author.Tests.{eqb-true, eqb-false}
use lib.Dec.{eqb}
use lib.ListN.{length, get_or, take, drop, length-append, length-drop, take-append-drop, get_or-append}
use lib.Seq.{length-take-le, take-append-le, drop-append-le, take_at, drop_at}
use Rattle.runs.proofs.Laws.{split}
use Rattle.cell_log.specs.Records.{cell_at}
use Rattle.cell_log.specs.Written.{octet_of, record_octets}
use Rattle.cell_log.proofs.Places.{record_cell, record_cases}
use Rattle.reading.specs.Records.{Whole, Walk, Framed, is_whole, front_of, stopped, behind, walk_within, walk_in, records_in, rest_in, fault_in, octets_in}
use Rattle.reading.specs.Totals.{Each}

-- octets that begin with a whole record
module _ (octets : List ℕ) where
  pub whole_facts : is_whole octets ≡ true → (49 ≤ length octets) × (get_or octets 0 0 ≤ 1)
  unfolding is_whole
  whole_facts =
      record_cases octets 0 (λ r. eqb r.what 1 ≡ true → (49 ≤ length octets) × (get_or octets 0 0 ≤ 1))
      (λ h e. absurd (true≢false (sym e))) (λ h l e. absurd (true≢false (sym e))) (λ h l k e. absurd (true≢false (sym e)))
      (λ small fits e. (fits, small))

  pub not_whole : length octets < 49 → is_whole octets ≡ false
  not_whole short = split (is_whole octets) (λ e. absurd (omega (arith, (whole_facts e).0))) (λ e. e)

  module _ (fits : 49 ≤ length octets) (small : get_or octets 0 0 ≤ 1) where
    pub whole_here : is_whole octets ≡ true
    unfolding is_whole
    whole_here = rw (record_cell octets 0 small fits)

    pub front_is : front_of octets ≡ record { indication = eqb (get_or octets 0 0) 1; cell = take 48 (drop 1 octets) }
    unfolding front_of cell_at
    front_is = rw (record_cell octets 0 small fits)

  dropped : length (drop 49 octets) ≡ length octets - 49
  dropped = length-drop 49 octets

-- records enough for all octets are enough
enough : (m n : ℕ) (octets : List ℕ) → length octets ≤ m → length octets ≤ n → walk_within m octets ≡ walk_within n octets
unfolding walk_within
enough zero zero octets a b = refl
enough zero (suc n) octets a b = rw (not_whole octets (omega arith))
enough (suc m) zero octets a b = rw (not_whole octets (omega arith))
enough (suc m) (suc n) octets a b =
    split (is_whole octets)
    (λ e.
    let long = (whole_facts octets e).0 in
    rw e (ap (behind (front_of octets ∷ []))
    (enough m n (drop 49 octets) (omega (arith, long, dropped octets)) (omega (arith, long, dropped octets)))))
    (λ e. rw e)

module _ (octets : List ℕ) where
  -- a record taken off the front
  pub walk_front : is_whole octets ≡ true → walk_in octets ≡ behind (front_of octets ∷ []) (walk_in (drop 49 octets))
  unfolding walk_in walk_within
  walk_front e =
      enough (length octets) (suc (length octets)) octets (omega arith) (omega arith)
      ∙ rw e (ap (behind (front_of octets ∷ []))
      (enough (length octets) (length (drop 49 octets)) (drop 49 octets) (omega (arith, dropped octets)) (omega arith)))

  pub walk_stop : is_whole octets ≡ false → walk_in octets ≡ stopped octets
  unfolding walk_in walk_within
  walk_stop e = enough (length octets) (suc (length octets)) octets (omega arith) (omega arith) ∙ rw e

-- induction along the records
module _ (P : List ℕ → Type 0)
    (stops : (octets : List ℕ) → is_whole octets ≡ false → P octets)
    (goes : (octets : List ℕ) → is_whole octets ≡ true → P (drop 49 octets) → P octets)
  where
    along_within : (most : ℕ) (octets : List ℕ) → length octets ≤ most → P octets
    along_within zero octets h = stops octets (not_whole octets (omega arith))
    along_within (suc most) octets h =
        split (is_whole octets)
        (λ e. goes octets e (along_within most (drop 49 octets) (omega (arith, (whole_facts octets e).0, dropped octets))))
        (λ e. stops octets e)

    pub along : (octets : List ℕ) → P octets
    along octets = along_within (length octets) octets (omega arith)

-- the same of a walk: what holds where it stops, and with a record before it
module _ (Q : List ℕ → Walk → Type 0)
    (stops : (octets : List ℕ) → is_whole octets ≡ false → Q octets (stopped octets))
    (goes : (octets : List ℕ) → is_whole octets ≡ true → (w : Walk) → Q (drop 49 octets) w → Q octets (behind (front_of octets ∷ []) w))
  where
    pub walking : (octets : List ℕ) → Q octets (walk_in octets)
    walking =
        along (λ octets. Q octets (walk_in octets))
        (λ octets e. subst (Q octets) (sym (walk_stop octets e)) (stops octets e))
        (λ octets e more. subst (Q octets) (sym (walk_front octets e)) (goes octets e (walk_in (drop 49 octets)) more))

-- where the walk stops there is no whole record
pub rest_stops : (octets : List ℕ) → is_whole (rest_in octets) ≡ false
rest_stops = walking (λ octets w. is_whole w.rest ≡ false) (λ octets e. e) (λ octets e w more. more)

-- a walk that ends without a fault leaves nothing
pub no_fault : (octets : List ℕ) → fault_in octets ≡ 0 → length (rest_in octets) ≡ 0
unfolding is_whole
no_fault octets =
    record_cases (rest_in octets) 0 (λ r. eqb r.what 1 ≡ false → r.refusal ≡ 0 → length (rest_in octets) ≡ 0)
    (λ h e none. omega arith) (λ h l e none. omega arith) (λ h l k e none. omega arith) (λ l k e none. absurd (true≢false e))
    (rest_stops octets)

-- more octets behind a whole record
module _ (a b : List ℕ) (e : is_whole a ≡ true) where
  facts : (49 ≤ length a) × (get_or a 0 0 ≤ 1)
  facts = whole_facts a e

  first : get_or (a ++ b) 0 0 ≡ get_or a 0 0
  first = get_or-append a b 0 0 (omega (arith, facts.0))

  longer : 49 ≤ length (a ++ b)
  longer = rw (length-append a b) (omega (arith, facts.0))

  still : is_whole (a ++ b) ≡ true
  still = whole_here (a ++ b) longer (rw first facts.1)

  same_front : front_of (a ++ b) ≡ front_of a
  same_front =
      let rest : drop 1 (a ++ b) ≡ drop 1 a ++ b = drop-append-le 1 a b (omega (arith, facts.0)) in
      let cell : take 48 (drop 1 a ++ b) ≡ take 48 (drop 1 a) =
      take-append-le 48 (drop 1 a) b (omega (arith, facts.0, length-drop 1 a)) in
      front_is (a ++ b) longer (rw first facts.1) ∙ rw (first, rest, cell) (sym (front_is a facts.0 facts.1))

  same_rest : drop 49 (a ++ b) ≡ drop 49 a ++ b
  same_rest = drop-append-le 49 a b facts.0

-- octets in two parts: the records of the first, and then those of what it left and the second
pub walk_joined : (a b : List ℕ) → walk_in (a ++ b) ≡ behind (records_in a) (walk_in (rest_in a ++ b))
walk_joined a b =
    walking (λ a w. walk_in (a ++ b) ≡ behind w.records (walk_in (w.rest ++ b)))
    (λ a e. refl)
    (λ a e w more.
    walk_front (a ++ b) (still a b e)
    ∙ ap₂ (λ (r : Whole) (v : Walk). behind (r ∷ []) v) (same_front a b e) (ap walk_in (same_rest a b e) ∙ more))
    a

-- a whole record is the octets it stands in
octet_back : (octet : ℕ) → octet ≤ 1 → octet_of (eqb octet 1) ≡ octet
octet_back octet small =
    split (eqb octet 1)
    (λ e. rw e (sym (eqb-true octet 1 e)))
    (λ e. let none : octet ≡ 0 = omega (arith, eqb-false octet 1 e) in rw (e, none))

front_octets : (octets : List ℕ) → is_whole octets ≡ true
    → record_octets (front_of octets).indication (front_of octets).cell ++ drop 49 octets ≡ octets
front_octets [] e = absurd (omega (arith, (whole_facts [] e).0))
front_octets (x ∷ xs) e =
    let facts = whole_facts (x ∷ xs) e in
    rw (front_is (x ∷ xs) facts.0 facts.1, octet_back x facts.1, take-append-drop 48 xs)

pub octets_back : (octets : List ℕ) → octets_in (records_in octets) ++ rest_in octets ≡ octets
unfolding octets_in
octets_back =
    walking (λ octets w. octets_in w.records ++ w.rest ≡ octets)
    (λ octets e. refl)
    (λ octets e w more.
    append_assoc (record_octets (front_of octets).indication (front_of octets).cell) (octets_in w.records) w.rest
    ∙ ap (λ (l : List ℕ). record_octets (front_of octets).indication (front_of octets).cell ++ l) more
    ∙ front_octets octets e)

-- each record of a walk has its 48 octets
pub records_framed : (octets : List ℕ) → Each Framed (records_in octets)
unfolding Each
records_framed =
    walking (λ octets w. Each Framed w.records)
    (λ octets e. tt)
    (λ octets e w more.
    let facts = whole_facts octets e in (
      rw (front_is octets facts.0 facts.1) (length-take-le 48 (drop 1 octets) (omega (arith, facts.0, length-drop 1 octets))),
      more,
    ))

pub length_records : (records : List Whole) → Each Framed records → length (octets_in records) ≡ 49 * length records
unfolding Each octets_in
length_records [] each = refl
length_records (r ∷ rs) each =
    length-append (record_octets r.indication r.cell) (octets_in rs)
    ∙ omega (arith, each.0, length_records rs each.1, mul-suc 49 (length rs))

pub octets_counted : (octets : List ℕ) → length octets ≡ 49 * length (records_in octets) + length (rest_in octets)
octets_counted octets =
    ap length (sym (octets_back octets))
    ∙ length-append (octets_in (records_in octets)) (rest_in octets)
    ∙ rw (length_records (records_in octets) (records_framed octets))

-- a record written before other octets
octet_small : (b : Bool) → octet_of b ≤ 1
octet_small true = omega arith
octet_small false = omega arith

octet_read : (b : Bool) → eqb (octet_of b) 1 ≡ b
octet_read true = refl
octet_read false = refl

module _ (r : Whole) (more : List ℕ) (framed : Framed r) where
  abbrev wrote : List ℕ
  wrote = record_octets r.indication r.cell ++ more

  long : 49 ≤ length wrote
  long = rw (length-append r.cell more) (omega (arith, framed))

  wrote_front : front_of wrote ≡ r
  wrote_front =
      front_is wrote long (octet_small r.indication)
      ∙ rw (octet_read r.indication, take_at r.cell more 48 framed)

  pub walk_wrote : walk_in wrote ≡ behind (r ∷ []) (walk_in more)
  walk_wrote =
      walk_front wrote (whole_here wrote long (octet_small r.indication))
      ∙ rw (wrote_front, drop_at r.cell more 48 framed)

-- records that are written are read back, and then what stands behind them
pub walk_written : (records : List Whole) (more : List ℕ) → Each Framed records
    → walk_in (octets_in records ++ more) ≡ behind records (walk_in more)
unfolding Each octets_in
walk_written [] more each = refl
walk_written (r ∷ rs) more each =
    ap walk_in (append_assoc (record_octets r.indication r.cell) (octets_in rs) more)
    ∙ walk_wrote r (octets_in rs ++ more) each.0
    ∙ ap (behind (r ∷ [])) (walk_written rs more each.1)
