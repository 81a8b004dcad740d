-- Laws of a stretch: it is the whole records that steps along the piece find one after the other.
-- Assumes nothing.
use Rattle.std.proofs.Common.{◌≡◌, ℕ, zero, suc, ◌+◌, ◌-◌, ◌*◌, ◌/◌, ◌%◌, ◌^◌, ◌<◌, ◌≤◌, Bool, true, false, ◌&&◌, eqb, ltb, leb, List, [], ◌∷◌, ◌++◌, map, length, min, get_or, take, drop, sym, refl, ap, ◌∙◌, subst, append_assoc, append-nil, mul-suc, arith, length-drop, length-take-le, get_or-drop, get_or-take, take-take, drop-drop, ltb-false, ltb-true, le-ltb, eq-eqb, ne_eqb, eqb-true, le-leb}
use borrow.Author.Tests.{lt-leb}
use Rattle.std.proofs.Math.Nat.{min-eq_left, min-eq_right}
use Rattle.runs.proofs.Laws.{split, both_true}
use Rattle.reading.specs.Records.{Whole, is_whole, front_of, walk_within}
use Rattle.reading.proofs.Records.{whole_facts, not_whole, whole_here, front_is}
use Rattle.pieces.specs.Found.{Found}
use Rattle.pieces.specs.declared.Standing.{Standing}
use Rattle.pieces.specs.declared.Stretch.{Stretch}
use Rattle.pieces.specs.Limit.{Part, whole}
use Rattle.pieces.specs.Steps.{whole_found, lies_whole, begins_above, next_of, held_now, Steps, found_parts}
use Rattle.pieces.specs.Stretch.{least, stretch_of, standing_past, past_stretch}
use Rattle.pieces.proofs.Walks.{Along, along_turn, found_lies}

-- how many whole records a walk takes
abbrev pub wholes : ℕ → List ℕ → ℕ
wholes most octets = length (walk_within most octets).records

pub walk_one : (most : ℕ) (octets : List ℕ) → is_whole octets ≡ true
    → (walk_within (suc most) octets).records ≡ front_of octets ∷ (walk_within most (drop 49 octets)).records
unfolding walk_within
walk_one most octets e = rw e refl

pub wholes_front : (most : ℕ) (octets : List ℕ) → is_whole octets ≡ true → wholes (suc most) octets ≡ suc (wholes most (drop 49 octets))
unfolding walk_within
wholes_front most octets e = rw e refl

pub wholes_one : (octets : List ℕ) → is_whole octets ≡ true → wholes 1 octets ≡ 1
unfolding walk_within
wholes_one octets e = rw e refl

pub wholes_stop : (most : ℕ) (octets : List ℕ) → is_whole octets ≡ false → wholes most octets ≡ 0
unfolding walk_within
wholes_stop zero octets e = refl
wholes_stop (suc most) octets e = rw e refl

pub wholes_to : (most : ℕ) (octets : List ℕ) → wholes most octets ≤ most
unfolding walk_within
wholes_to zero octets = omega arith
wholes_to (suc most) octets =
    split (is_whole octets)
    (λ e. rw e (omega (arith, wholes_to most (drop 49 octets))))
    (λ e. rw e (omega arith))

-- they lie in the octets
pub wholes_fit : (most : ℕ) (octets : List ℕ) → 49 * wholes most octets ≤ length octets
unfolding walk_within
wholes_fit zero octets = omega arith
wholes_fit (suc most) octets =
    split (is_whole octets)
    (λ e. rw e (omega (arith, wholes_fit most (drop 49 octets), length-drop 49 octets, (whole_facts octets e).0)))
    (λ e. rw e (omega arith))

-- a walk that may take just these takes these
walk_again : (most : ℕ) (octets : List ℕ) → (walk_within (wholes most octets) octets).records ≡ (walk_within most octets).records
unfolding walk_within
walk_again zero octets = refl
walk_again (suc most) octets =
    split (is_whole octets)
    (λ e. rw (e, e) (ap (λ (ws : List Whole). front_of octets ∷ ws) (walk_again most (drop 49 octets))))
    (λ e. rw e refl)

-- a walk that may take as many as fit is the whole walk
wholes_enough : (m most : ℕ) (octets : List ℕ) → m ≤ most → length octets < 49 * suc m → wholes m octets ≡ wholes most octets
unfolding walk_within
wholes_enough zero zero octets few long = refl
wholes_enough zero (suc most) octets few long = rw (not_whole octets (omega arith)) refl
wholes_enough (suc m) zero octets few long = absurd (omega arith)
wholes_enough (suc m) (suc most) octets few long =
    split (is_whole octets)
    (λ e. rw e (ap suc (wholes_enough m most (drop 49 octets) (omega arith) (omega (arith, length-drop 49 octets, mul-suc 49 (suc m))))))
    (λ e. rw e)

pub wholes_least : (fit most : ℕ) (octets : List ℕ) → length octets < 49 * suc fit → wholes (least fit most) octets ≡ wholes most octets
unfolding least
wholes_least fit most octets long =
    split (ltb fit most)
    (λ e. rw e (wholes_enough fit most octets (omega (arith, ltb-true fit most e)) long))
    (λ e. rw e)

least_to : (a b : ℕ) → (least a b ≤ a) × (least a b ≤ b)
unfolding least
least_to a b =
    split (ltb a b)
    (λ e. rw e (omega arith, omega (arith, ltb-true a b e)))
    (λ e. rw e (omega (arith, ltb-false a b e), omega arith))

least_from : (a b : ℕ) → 1 ≤ a → 1 ≤ b → 1 ≤ least a b
unfolding least
least_from a b some any =
    split (ltb a b)
    (λ e. rw e some)
    (λ e. rw e any)

-- the library's word for it
pub least_min : (a b : ℕ) → min a b ≡ least a b
unfolding least
least_min a b =
    split (ltb a b)
    (λ e. rw e (min-eq_left (omega (arith, ltb-true a b e))))
    (λ e. rw e (min-eq_right (omega (arith, ltb-false a b e))))

pub least_first : (a b : ℕ) {n : ℕ} → n ≡ least a b → n ≤ a
least_first a b is = rw is (least_to a b).0

-- along the piece, record by record
pub record Passing (piece : List ℕ) (place most n : ℕ) : Type 0 where
  pub few : n ≤ most
  pub still : n + wholes (most - n) (drop (place + 49 * n) piece) ≡ wholes most (drop place piece)

module _ {piece : List ℕ} {place most : ℕ} (fits : place + 49 * most ≤ length piece) where
  pub passing_start : Passing piece place most 0
  passing_start =
      let all : most - 0 ≡ most = omega arith in
      let here : place + 49 * 0 ≡ place = omega arith in
      let still : wholes (most - 0) (drop (place + 49 * 0) piece) ≡ wholes most (drop place piece) = rw (all, here) refl in
      record { few = omega arith; still = omega (arith, still) }

  module _ {n : ℕ} (g : Passing piece place most n) where
    abbrev at : ℕ
    at = place + 49 * n

    pub passing_in : n < most → at + 49 ≤ length piece
    passing_in more = omega (arith, fits, more)

    first : get_or (drop at piece) 0 0 ≡ get_or piece at 0
    first = let none : at + 0 ≡ at = omega arith in get_or-drop at piece 0 0 ∙ ap (λ (k : ℕ). get_or piece k 0) none

    pub passing_turn : n < most → get_or piece at 0 ≤ 1 → Passing piece place most (n + 1)
    passing_turn more low =
        let long : 49 ≤ length (drop at piece) = omega (arith, fits, length-drop at piece) in
        let here : is_whole (drop at piece) ≡ true = whole_here (drop at piece) long (rw first low) in
        let some : most - n ≡ suc (most - (n + 1)) = omega arith in
        let next : at + 49 ≡ place + 49 * (n + 1) = omega arith in
        let front : wholes (most - n) (drop at piece) ≡ suc (wholes (most - (n + 1)) (drop (place + 49 * (n + 1)) piece)) =
        ap (λ (k : ℕ). wholes k (drop at piece)) some
        ∙ wholes_front (most - (n + 1)) (drop at piece) here
        ∙ ap (λ (l : List ℕ). suc (wholes (most - (n + 1)) l)) (drop-drop 49 at piece)
        ∙ ap (λ (k : ℕ). suc (wholes (most - (n + 1)) (drop k piece))) next in
        record { few = omega arith; still = omega (arith, front, g.still) }

    pub passing_stop : 1 < get_or piece at 0 → n ≡ wholes most (drop place piece)
    passing_stop high =
        let none : is_whole (drop at piece) ≡ false =
        split (is_whole (drop at piece))
        (λ e. absurd (omega (arith, high, first, (whole_facts (drop at piece) e).1)))
        (λ e. e) in
        omega (arith, g.still, wholes_stop (most - n) (drop at piece) none)

  pub passing_end : {n : ℕ} → Passing piece place most n → most ≤ n → most ≡ wholes most (drop place piece)
  unfolding walk_within
  passing_end {n} g all =
      let none : most - n ≡ 0 = omega arith in
      let still : n + 0 ≡ wholes most (drop place piece) = rw none at g.still in
      omega (arith, still, g.few)

-- the stretch from a place on
module _ (most : ℕ) (s : Standing) (piece : List ℕ) (place : ℕ) where
  abbrev ahead : List ℕ
  ahead = drop place piece

  -- a record begins there
  abbrev begins : Bool
  begins = eqb s.stage 1 && eqb (s.count % 49) 0

  stretch_none : begins ≡ false → length (stretch_of most s piece place) ≡ 0
  unfolding stretch_of
  stretch_none e = rw e refl

  stretch_is : begins ≡ true → length (stretch_of most s piece place) ≡ wholes (least most (s.left / 49)) ahead
  unfolding stretch_of
  stretch_is e = rw e

  pub stretch_past : length piece ≤ place → 0 ≡ length (stretch_of most s piece place)
  stretch_past end =
      let short : is_whole ahead ≡ false = not_whole ahead (omega (arith, length-drop place piece)) in
      split begins
      (λ e. sym (stretch_is e ∙ wholes_stop (least most (s.left / 49)) ahead short))
      (λ e. sym (stretch_none e))

  pub stretch_elsewhere : (s.stage ≡ 1 → ⊥) → 0 ≡ length (stretch_of most s piece place)
  stretch_elsewhere not = sym (stretch_none (ap (λ (b : Bool). b && eqb (s.count % 49) 0) (ne_eqb s.stage 1 not)))

  pub stretch_inside : s.stage ≡ 1 → (s.count % 49 ≡ 0 → ⊥) → 0 ≡ length (stretch_of most s piece place)
  stretch_inside one not = sym (stretch_none (rw (eq-eqb s.stage 1 one, ne_eqb (s.count % 49) 0 not) refl))

  pub stretch_here : {fit within wanted n : ℕ} → s.stage ≡ 1 → s.count % 49 ≡ 0 → fit ≡ (length piece - place) / 49
      → within ≡ least most (s.left / 49) → wanted ≡ least fit within → n ≡ wholes wanted ahead
      → n ≡ length (stretch_of most s piece place)
  stretch_here {fit} {within} one none fits limit least-is is =
      let at : begins ≡ true = rw (eq-eqb s.stage 1 one, eq-eqb (s.count % 49) 0 none) refl in
      is
      ∙ ap (λ (k : ℕ). wholes k ahead) least-is
      ∙ wholes_least fit within ahead (omega (arith, fits, length-drop place piece))
      ∙ ap (λ (k : ℕ). wholes k ahead) limit
      ∙ sym (stretch_is at)

  -- its records are those of the walk from there on
  pub stretch_again : {n : ℕ} → n ≡ length (stretch_of most s piece place) → (walk_within n ahead).records ≡ stretch_of most s piece place
  unfolding stretch_of walk_within
  stretch_again is =
      split begins
      (λ e.
      ap (λ (k : ℕ). (walk_within k ahead).records) (is ∙ stretch_is e)
      ∙ walk_again (least most (s.left / 49)) ahead
      ∙ sym (rw e))
      (λ e. ap (λ (k : ℕ). (walk_within k ahead).records) (is ∙ stretch_none e) ∙ sym (rw e))

  pub stretch_to : {n : ℕ} → n ≡ length (stretch_of most s piece place) → n ≤ most
  stretch_to is =
      split begins
      (λ e. omega (arith, is, stretch_is e, wholes_to (least most (s.left / 49)) ahead, (least_to most (s.left / 49)).0))
      (λ e. omega (arith, is, stretch_none e))

  -- it lies in the piece and within the limit
  pub stretch_fits : {n : ℕ} → n ≡ length (stretch_of most s piece place) → (49 * n ≤ length piece - place) × (49 * n ≤ s.left)
  stretch_fits is =
      split begins
      (λ e.
      let few = wholes_to (least most (s.left / 49)) ahead in (
        omega (arith, is, stretch_is e, wholes_fit (least most (s.left / 49)) ahead, length-drop place piece),
        omega (arith, is, stretch_is e, few, (least_to most (s.left / 49)).1),
      ))
      (λ e. (omega (arith, is, stretch_none e), omega (arith, is, stretch_none e)))

-- past a stretch
module _ (s : Standing) (place : ℕ) {all n : ℕ} (counted : n ≡ all) where
  pub past_none : n ≡ 0 → record { records = 0; next = place; standing = s } ≡ past_stretch s place all
  unfolding standing_past
  past_none none =
      let zero-all : all ≡ 0 = sym counted ∙ none in
      let next_is : place ≡ place + 49 * 0 = omega arith in
      sym (ap (past_stretch s place) zero-all ∙ (λ i. record { records = 0; next = sym next_is i; standing = s }))

  pub past_some : {records : ℕ} → (n ≡ 0 → ⊥) → records ≡ (s.records + n) % 2 ^ 64
      → record {
        records = n;
        next = place + 49 * n;
        standing = record { stage = 1; fault = s.fault; count = 0; left = s.left - 49 * n; records = records };
      }
      ≡ past_stretch s place all
  unfolding standing_past
  past_some {records} some is =
      let these : past_stretch s place n
      ≡ record {
        records = n;
        next = place + 49 * n;
        standing =
            record { stage = 1; fault = s.fault; count = 0; left = s.left - 49 * n; records = (s.records + n) % 2 ^ 64 };
      } = rw (ne_eqb n 0 some) in
      (λ i. record {
        records = n;
        next = place + 49 * n;
        standing = record { stage = 1; fault = s.fault; count = 0; left = s.left - 49 * n; records = is i };
      })
      ∙ sym these
      ∙ ap (past_stretch s place) counted

-- octets behind a record aren't looked at
cut : (l : List ℕ) → take 48 (drop 1 (take 49 l)) ≡ take 48 (drop 1 l)
cut [] = refl
cut (x ∷ l) = take-take 48 48 l (omega arith)

front_cut : (l : List ℕ) → is_whole l ≡ true → front_of (take 49 l) ≡ front_of l
front_cut l here =
    let long : 49 ≤ length l = (whole_facts l here).0 in
    let same : get_or (take 49 l) 0 0 ≡ get_or l 0 0 = get_or-take 49 l 0 0 (omega arith) in
    let low : get_or (take 49 l) 0 0 ≤ 1 = rw same (whole_facts l here).1 in
    front_is (take 49 l) (omega (arith, length-take-le 49 l long)) low
    ∙ (λ i. record { indication = eqb (same i) 1; cell = cut l i })
    ∙ sym (front_is l long (whole_facts l here).1)

-- a whole record ahead is what a step finds
module _ (s : Standing) (piece : List ℕ) (place : ℕ) (one : s.stage ≡ 1) (begins : s.count % 49 ≡ 0) (room : 49 ≤ s.left)
    (here : is_whole (drop place piece) ≡ true)
  where
    abbrev found : Found
    found = whole_found s (place + 49)

    long : 49 ≤ length (drop place piece)
    long = (whole_facts (drop place piece) here).0

    low : get_or (drop place piece) 0 0 ≤ 1
    low = (whole_facts (drop place piece) here).1

    within : place + 49 ≤ length piece
    within = omega (arith, long, length-drop place piece)

    first_here : get_or (drop place piece) 0 0 ≡ get_or piece place 0
    first_here = let none : place + 0 ≡ place = omega arith in get_or-drop place piece 0 0 ∙ ap (λ (k : ℕ). get_or piece k 0) none

    step_whole : (held : List ℕ) → Steps s held piece place found held
    unfolding next_of held_now begins_above lies_whole
    step_whole held =
        let inside : leb (length piece) place ≡ false = lt-leb (length piece) place (omega (arith, within)) in
        let stage-0 : eqb s.stage 0 ≡ false = ne_eqb s.stage 0 (λ e. omega (arith, e, one)) in
        let stage_1 : eqb s.stage 1 ≡ true = eq-eqb s.stage 1 one in
        let some : eqb s.left 0 ≡ false = ne_eqb s.left 0 (λ e. omega (arith, e)) in
        let start : eqb (s.count % 49) 0 ≡ true = eq-eqb (s.count % 49) 0 begins in
        let small : ltb 1 (get_or piece place 0) ≡ false = le-ltb 1 (get_or piece place 0) (rw (← first_here) low) in
        let fits : leb 49 (length piece - place) ≡ true = le-leb 49 (length piece - place) (omega (arith, within)) in
        let limit : leb 49 s.left ≡ true = le-leb 49 s.left room in
        record {
          answered = rw (inside, stage-0, stage_1, some, start, small, fits, limit);
          left = rw (inside, stage-0, stage_1, some, start, small, fits, limit);
        }

    found_here : (held : List ℕ) → found_parts found held piece place ≡ whole (front_of (drop place piece)) ∷ []
    unfolding found_parts
    found_here held = ap (λ (w : Whole). whole w ∷ []) (front_cut (drop place piece) here)

-- a stretch is as many steps
abbrev later : Standing → Standing
later s = (whole_found s 0).standing

past_later : (s : Standing) (n : ℕ) → standing_past (later s) n ≡ standing_past s (suc n)
unfolding standing_past
past_later s n =
    let more : eqb (suc n) 0 ≡ false = ne_eqb (suc n) 0 (λ none. omega (arith, none)) in
    let less : s.left - 49 - 49 * n ≡ s.left - 49 * suc n = omega arith in
    split (eqb n 0)
    (λ e.
    let none : 1 ≡ suc n = omega (arith, eqb-true n 0 e) in
    let all : s.left - 49 ≡ s.left - 49 * suc n = omega (arith, none) in
    rw (e, more)
    (λ i. record { stage = 1; fault = s.fault; count = 0; left = all i; records = (s.records + none i) % 2 ^ 64 }))
    (λ e.
    let wrapped : ((s.records + 1) % 2 ^ 64 + n) % 2 ^ 64 ≡ (s.records + suc n) % 2 ^ 64 = omega arith in
    rw (e, more) (λ i. record { stage = 1; fault = s.fault; count = 0; left = less i; records = wrapped i }))

module _ {from : Standing} {lent held piece : List ℕ} where
  moved : {p q : ℕ} {s u : Standing} {d e : List Part} → p ≡ q → s ≡ u → d ≡ e → Along from lent piece p s held d
      → Along from lent piece q u held e
  moved {q = q} {s = s} {u = u} {d = d} places standings dones a =
      subst (λ (l : List Part). Along from lent piece q u held l) dones
      (subst (λ (w : Standing). Along from lent piece q w held d) standings
      (subst (λ (k : ℕ). Along from lent piece k s held d) places a))

  along_walk : (most : ℕ) {s : Standing} {place : ℕ} {done : List Part} → s.stage ≡ 1 → s.count % 49 ≡ 0 → 49 * most ≤ s.left
      → Along from lent piece place s held done
      → Along from lent piece (place + 49 * wholes most (drop place piece)) (standing_past s (wholes most (drop place piece))) held
      (done ++ map whole (walk_within most (drop place piece)).records)
  unfolding walk_within standing_past
  along_walk zero {s} {place} {done} one begins room a = moved (omega arith) refl (sym (append-nil done)) a
  along_walk (suc most) {s} {place} {done} one begins room a =
      split (is_whole (drop place piece))
      (λ e.
      let enough : 49 ≤ s.left = omega (arith, room, mul-suc 49 most) in
      let found : Found = whole_found s (place + 49) in
      let step : Steps s held piece place found held = step_whole s piece place one begins enough e held in
      let inside : place < length piece = omega (arith, within s piece place one begins enough e) in
      let turned = along_turn a inside step in
      let more = along_walk most {s = later s} {place = place + 49} refl refl (omega (arith, room, mul-suc 49 most)) turned in
      let n : ℕ = wholes most (drop (place + 49) piece) in
      let rest : List Part = map whole (walk_within most (drop (place + 49) piece)).records in
      let far : place + 49 + 49 * n ≡ place + 49 * suc n = omega arith in
      let parts : (done ++ found_parts found held piece place) ++ rest ≡ done ++ (whole (front_of (drop place piece)) ∷ rest) =
      ap (λ (l : List Part). (done ++ l) ++ rest) (found_here s piece place one begins enough e held)
      ∙ append_assoc done (whole (front_of (drop place piece)) ∷ []) rest in
      rw (e, drop-drop 49 place piece) (moved far (past_later s n) parts more))
      (λ e. rw e (moved (omega arith) refl (sym (append-nil done)) a))

  -- past a stretch: the records that it has were handed out
  pub along_stretch : (most : ℕ) {s : Standing} {place : ℕ} {done : List Part} {f : Stretch}
      → f ≡ past_stretch s place (length (stretch_of most s piece place)) → Along from lent piece place s held done
      → Along from lent piece f.next f.standing held (done ++ map whole (stretch_of most s piece place))
  unfolding stretch_of standing_past
  along_stretch most {s} {place} {done} is a =
      moved (sym (ap (λ (g : Stretch). g.next) is)) (sym (ap (λ (g : Stretch). g.standing) is)) refl
      (split (eqb s.stage 1 && eqb (s.count % 49) 0)
      (λ e.
      let both = both_true (eqb s.stage 1) (eqb (s.count % 49) 0) e in
      let m : ℕ = least most (s.left / 49) in
      rw e
      (along_walk m (eqb-true s.stage 1 both.0) (eqb-true (s.count % 49) 0 both.1)
      (omega (arith, (least_to most (s.left / 49)).1)) a))
      (λ e. rw e (moved (omega arith) refl (sym (append-nil done)) a)))

-- where there is none, a step finds no record in the piece
pub none_found : (most : ℕ) {s : Standing} {held piece : List ℕ} {place : ℕ} {f : Found} {now : List ℕ} → 1 ≤ most
    → 0 ≡ length (stretch_of most s piece place) → Steps s held piece place f now → f.what ≡ 2 → ⊥
none_found most {s} {held} {piece} {place} some none step two =
    let l = found_lies step two in
    let first_octet : get_or (drop place piece) 0 0 ≡ get_or piece place 0 =
    (let here : place + 0 ≡ place = omega arith in get_or-drop place piece 0 0 ∙ ap (λ (k : ℕ). get_or piece k 0) here) in
    let ahead-whole : is_whole (drop place piece) ≡ true =
    whole_here (drop place piece) (omega (arith, l.fits, length-drop place piece)) (rw first_octet l.low) in
    let at : eqb s.stage 1 && eqb (s.count % 49) 0 ≡ true =
    rw (eq-eqb s.stage 1 l.stage_1, eq-eqb (s.count % 49) 0 l.begins) refl in
    let m : ℕ = least most (s.left / 49) in
    let more : m ≡ suc (m - 1) = omega (arith, least_from most (s.left / 49) some (omega (arith, l.within))) in
    let one : wholes m (drop place piece) ≡ suc (wholes (m - 1) (drop 49 (drop place piece))) =
    ap (λ (k : ℕ). wholes k (drop place piece)) more ∙ wholes_front (m - 1) (drop place piece) ahead-whole in
    omega (arith, none, stretch_is most s piece place at, one)
