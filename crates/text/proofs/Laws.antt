-- Laws of octets put into a lent run, and of decimal numbers, over plain values.
-- Assumes nothing.
use mathlib.Core.Bool.{Bool, true, false}
use mathlib.Core.List.{List, [], ◌∷◌, ◌++◌, append-nil}
use mathlib.Core.Path.{◌≡◌, refl, sym, ◌∙◌, ap}
use Prim.Native.Nat.{ℕ, zero, suc, ◌+◌, ◌-◌, ◌/◌, ◌%◌, ◌^◌, ◌≤◌, ◌<◌}
use native.Mathlib.Nat.{pow-suc}
use native.Mathlib.Omega.{arith}
use borrow.Author.Tests.{lt-ltb, le-ltb, le-leb, lt-leb, leb-true, leb-false, ltb-true, ltb-false}
use lib.Dec.{leb, ltb}
use lib.ListN.{length, get_or, take, drop, set, length-append, length-drop, length-set, take-append-drop, drop_of_length-le}
use lib.Seq.{take-nil, take_all, length-take-le, take-append-le, drop-cons, set_at, append_snoc, drop-set-lt, get_or-set_same}
use borrow.Rule.Slice.PartMut.{put_mid}
use Rattle.std.proofs.lemmas.Slice.{put_mid-paste}
use Rattle.runs.specs.Runs.{over, written}
use Rattle.runs.proofs.Laws.{split}
use Rattle.runs.proofs.Filling.{stored_behind}
use Rattle.text.specs.declared.Put.{Put}
use Rattle.text.specs.Put.{Filling, put_one, put_all, Puts, listed}
use Rattle.text.specs.Text.{digits_of}

-- a run with so many octets put into it
abbrev filling : List ℕ → ℕ → Bool → Filling
filling run place whole = record { run = run; past = record { octets = place; whole = whole } }

-- one octet
module _ (f : Filling) (octet : ℕ) where
  one_in : f.past.octets < length f.run
      → put_one f octet ≡ filling (set f.run f.past.octets octet) (f.past.octets + 1) f.past.whole
  unfolding put_one
  one_in room = rw (lt-ltb f.past.octets (length f.run) room)

  one_out : length f.run ≤ f.past.octets → put_one f octet ≡ filling f.run f.past.octets false
  unfolding put_one
  one_out full = rw (le-ltb f.past.octets (length f.run) full)

-- one after the other
pub put_joined : (f : Filling) (first second : List ℕ) → put_all f (first ++ second) ≡ put_all (put_all f first) second
unfolding put_all
put_joined f [] second = refl
put_joined f (octet ∷ first) second = put_joined (put_one f octet) first second

pub puts_then : {a b c : List ℕ} {s t u : Put} {first second : List ℕ} → Puts a s b t first → Puts b t c u second
    → Puts a s c u (first ++ second)
puts_then {a} {s = s} {first = first} {second = second} p q =
    record {
      is = q.is
          ∙ ap (λ (f : Filling). put_all f second) p.is
          ∙ sym (put_joined (record { run = a; past = s }) first second);
    }

pub puts_same : {a b : List ℕ} {s t : Put} {octets same : List ℕ} → octets ≡ same → Puts a s b t octets → Puts a s b t same
puts_same {a} {s = s} e p = record { is = p.is ∙ ap (put_all (record { run = a; past = s })) e }

-- octets copied over a part of a run
pub copied : (new run : List ℕ) (at count : ℕ) {part : List ℕ} → part ≡ new → length new ≡ count → put_mid at count run part ≡ written run at new
copied new run at count {part} e n =
    put_mid-paste at count run part new (length new) e n refl
    ∙ ap (λ (l : List ℕ). take at run ++ l ++ drop (at + length new) run) (take_all (length new) new (omega arith))

-- putting nothing
pub puts_none : (a : List ℕ) (s : Put) → Puts a s a s []
unfolding put_all
puts_none a s = record { is = refl }

-- putting one octet
module _ (run : List ℕ) (at : Put) (octet : ℕ) where
  abbrev before : Filling
  before = record { run = run; past = at }

  pub puts_in : at.octets < length run
      → Puts run at (set run at.octets octet) (record { octets = at.octets + 1; whole = at.whole }) (octet ∷ [])
  unfolding put_all
  puts_in room = record { is = sym (one_in before octet room) }

  pub puts_out : length run ≤ at.octets → Puts run at run (record { octets = at.octets; whole = false }) (octet ∷ [])
  unfolding put_all
  puts_out full = record { is = sym (one_out before octet full) }

-- all of them fit
put_room : (run : List ℕ) (place : ℕ) (whole : Bool) (octets : List ℕ) → place + length octets ≤ length run
    → put_all (filling run place whole) octets ≡ filling (written run place octets) (place + length octets) whole
unfolding put_all
put_room run place whole [] room =
    let none : place + 0 ≡ place = omega arith in
    let same : written run place [] ≡ run = rw (none, append-nil (take place run)) (take-append-drop place run) in
    sym (rw (same, none))
put_room run place whole (octet ∷ octets) room =
    let here : place < length run = omega (arith, room) in
    let behind : place + 1 + length octets ≤ length run = omega (arith, room) in
    ap (λ (f : Filling). put_all f octets) (one_in (filling run place whole) octet here)
    ∙ put_room (set run place octet) (place + 1) whole octets (rw (length-set run place octet) behind)
    ∙ (λ i. filling (stored_behind octet octets run place behind i)
    ((let e : place + 1 + length octets ≡ place + suc (length octets) = omega arith in e) i) whole)

-- none of them fits
put_full : (run : List ℕ) (place : ℕ) (octets : List ℕ) → length run ≤ place
    → put_all (filling run place false) octets ≡ filling run place false
unfolding put_all
put_full run place [] full = refl
put_full run place (octet ∷ octets) full =
    ap (λ (f : Filling). put_all f octets) (one_out (filling run place false) octet full) ∙ put_full run place octets full

put_none_fits : (run : List ℕ) (place : ℕ) (whole : Bool) (octets : List ℕ) → length run ≤ place → 0 < length octets
    → put_all (filling run place whole) octets ≡ filling run place false
unfolding put_all
put_none_fits run place whole [] full some = absurd (omega (arith, some))
put_none_fits run place whole (octet ∷ octets) full some =
    ap (λ (f : Filling). put_all f octets) (one_out (filling run place whole) octet full) ∙ put_full run place octets full

module _ (run : List ℕ) (at : Put) (octets : List ℕ) where
  pub puts_room : {after : List ℕ} → at.octets + length octets ≤ length run → after ≡ written run at.octets octets
      → Puts run at after (record { octets = at.octets + length octets; whole = at.whole }) octets
  puts_room room e =
      record {
        is = (λ i. filling (e i) (at.octets + length octets) at.whole)
            ∙ sym (put_room run at.octets at.whole octets room);
      }

  pub puts_nothing : length octets ≡ 0 → Puts run at run at octets
  puts_nothing none = puts_same (nothing octets none) (puts_none run at)
    where
      nothing : (l : List ℕ) → length l ≡ 0 → [] ≡ l
      nothing [] e = refl
      nothing (x ∷ l) e = absurd (omega (arith, e))

  pub puts_beyond : length run ≤ at.octets → (length octets ≡ 0 → ⊥) → Puts run at run (record { octets = at.octets; whole = false }) octets
  puts_beyond full some = record { is = sym (put_none_fits run at.octets at.whole octets full (omega (arith, some))) }

  -- as many of them as there is room for
  pub puts_some : {after : List ℕ} {room : ℕ} → at.octets ≤ length run → room ≡ length run - at.octets → room < length octets
      → after ≡ written run at.octets (take room octets) → length after ≡ length run
      → Puts run at after (record { octets = length run; whole = false }) octets
  puts_some {after} {room} within is less e kept =
      let fits : length (take room octets) ≡ room = length-take-le room octets (omega (arith, less)) in
      let first : put_all (record { run = run; past = at }) (take room octets) ≡ filling after (length run) at.whole =
      put_room run at.octets at.whole (take room octets) (omega (arith, fits, is, within))
      ∙ (λ i. filling (sym e i) ((let p : at.octets + length (take room octets) ≡ length run = omega (arith, fits, is, within) in p) i) at.whole) in
      record {
        is = sym (put_none_fits after (length run) at.whole (drop room octets) (omega (arith, kept)) (omega (arith, length-drop room octets, less)))
            ∙ sym (ap (λ (f : Filling). put_all f (drop room octets)) first)
            ∙ sym (put_joined (record { run = run; past = at }) (take room octets) (drop room octets))
            ∙ ap (put_all (record { run = run; past = at })) (take-append-drop room octets);
      }

-- a run that was lent holds octets as far as it goes, and behind them what it held before
record Holds (lent octets now : List ℕ) (at : Put) : Type 0 where
  run : now ≡ over (take (length lent) octets) lent
  said : at ≡ listed (length lent) octets

module _ {lent held now : List ℕ} {at : Put} (h : Holds lent held now at) where
  place : at.octets ≡ length (take (length lent) held)
  place = ap (λ (x : Put). x.octets) h.said

  -- a run keeps its length
  same_length : length now ≡ length lent
  unfolding over
  same_length =
      split (leb (length held) (length lent))
      (λ t.
      let fits : length held ≤ length lent = leb-true (length held) (length lent) t in
      ap length h.run
      ∙ rw (take_all (length lent) held fits, length-append held (drop (length held) lent), length-drop (length held) lent)
      (omega arith))
      (λ t.
      let more : length lent ≤ length held = omega (arith, leb-false (length held) (length lent) t) in
      ap length h.run
      ∙ length-append (take (length lent) held) (drop (length (take (length lent) held)) lent)
      ∙ rw (length-take-le (length lent) held more, length-drop (length lent) lent) (omega arith))

  whole : at.whole ≡ leb (length held) (length lent)
  whole = ap (λ (x : Put). x.whole) h.said

  -- there is room for one more octet
  module _ (octet : ℕ) (room : at.octets < length now) where
    short : length held < length lent
    short =
        split (ltb (length held) (length lent))
        (λ t. ltb-true (length held) (length lent) t)
        (λ t.
        let more : length lent ≤ length held = ltb-false (length held) (length lent) t in
        absurd (omega (arith, place, same_length, length-take-le (length lent) held more)))

    all : take (length lent) held ≡ held
    all = take_all (length lent) held (omega (arith, short))

    here : length held ≡ at.octets
    here = sym (place ∙ ap length all)

    longer : length (held ++ (octet ∷ [])) ≡ suc (length held)
    longer = length-append held (octet ∷ []) ∙ omega arith

    all_more : take (length lent) (held ++ (octet ∷ [])) ≡ held ++ (octet ∷ [])
    all_more = take_all (length lent) (held ++ (octet ∷ [])) (omega (arith, longer, short))

    stored : set now at.octets octet ≡ over (take (length lent) (held ++ (octet ∷ []))) lent
    unfolding over
    stored =
        let shape : now ≡ held ++ get_or lent (length held) 0 ∷ drop (suc (length held)) lent =
        h.run ∙ rw (all, drop-cons lent (length held) 0 short) in
        ap (λ (l : List ℕ). set l at.octets octet) shape
        ∙ set_at held (get_or lent (length held) 0) (drop (suc (length held)) lent) octet at.octets here
        ∙ sym (rw (all_more, longer) (append_snoc held octet (drop (suc (length held)) lent)))

    counted : record { octets = at.octets + 1; whole = at.whole } ≡ listed (length lent) (held ++ (octet ∷ []))
    counted =
        let fits : length held ≤ length lent = omega (arith, short) in
        let more : suc (length held) ≤ length lent = short in
        let n : at.octets + 1 ≡ suc (length held) = omega (arith, here) in
        rw (n, whole, all_more, longer, le-leb (length held) (length lent) fits, le-leb (suc (length held)) (length lent) more)

    put_in : Holds lent (held ++ (octet ∷ [])) (set now at.octets octet) (record { octets = at.octets + 1; whole = at.whole })
    put_in = record { run = stored; said = counted }

  -- there is none
  module _ (octet : ℕ) (full : length now ≤ at.octets) where
    long : length lent ≤ length held
    long =
        split (ltb (length held) (length lent))
        (λ t.
        let short : length held < length lent = ltb-true (length held) (length lent) t in
        absurd (omega (arith, place, same_length, ap length (take_all (length lent) held (omega (arith, short))), short)))
        (λ t. ltb-false (length held) (length lent) t)

    same : take (length lent) (held ++ (octet ∷ [])) ≡ take (length lent) held
    same = take-append-le (length lent) held (octet ∷ []) long

    put_out : Holds lent (held ++ (octet ∷ [])) now (record { octets = at.octets; whole = false })
    put_out =
        let longer : length (held ++ (octet ∷ [])) ≡ suc (length held) = length-append held (octet ∷ []) ∙ omega arith in
        let over' : length lent < suc (length held) = omega (arith, long) in
        record {
          run = h.run ∙ rw same;
          said = rw (place, same, longer, lt-leb (suc (length held)) (length lent) over');
        }

-- octet by octet
put_holds : {lent : List ℕ} (held octets : List ℕ) (f : Filling) → Holds lent held f.run f.past
    → Holds lent (held ++ octets) (put_all f octets).run (put_all f octets).past
unfolding put_all
put_holds held [] f h = rw (append-nil held) h
put_holds {lent} held (octet ∷ octets) f h =
    rw (← append_snoc held octet octets)
    (put_holds (held ++ (octet ∷ [])) octets (put_one f octet)
    (split (ltb f.past.octets (length f.run))
    (λ t. rw (one_in f octet (ltb-true f.past.octets (length f.run) t)) (put_in h octet (ltb-true f.past.octets (length f.run) t)))
    (λ t. rw (one_out f octet (ltb-false f.past.octets (length f.run) t)) (put_out h octet (ltb-false f.past.octets (length f.run) t)))))

-- octets put into a run from its start
start_holds : (run : List ℕ) → Holds run [] run (record { octets = 0; whole = true })
unfolding over
start_holds run =
    record {
      run = rw (take-nil {A = ℕ} (length run));
      said = rw (take-nil {A = ℕ} (length run), le-leb 0 (length run) (omega arith));
    }

module _ {run after : List ℕ} {past : Put} {octets : List ℕ} (p : Puts run (record { octets = 0; whole = true }) after past octets) where
  all_held : Holds run octets (put_all (filling run 0 true) octets).run (put_all (filling run 0 true) octets).past
  all_held = put_holds [] octets (filling run 0 true) (start_holds run)

  pub said_from_start : past ≡ listed (length run) octets
  said_from_start = ap (λ (f : Filling). f.past) p.is ∙ all_held.said

  pub wrote_from_start : after ≡ over (take (length run) octets) run
  wrote_from_start = ap (λ (f : Filling). f.run) p.is ∙ all_held.run

  -- no more than the run has entries
  pub within_from_start : past.octets ≤ length run
  within_from_start =
      let said : past.octets ≡ length (take (length run) octets) = ap (λ (q : Put). q.octets) said_from_start in
      split (leb (length octets) (length run))
      (λ t.
      let fits : length octets ≤ length run = leb-true (length octets) (length run) t in
      omega (arith, said, fits, ap length (take_all (length run) octets fits)))
      (λ t.
      let more : length run ≤ length octets = omega (arith, leb-false (length octets) (length run) t) in
      omega (arith, said, length-take-le (length run) octets more))

digits_one : (k n : ℕ) → n < 10 → digits_of (suc k) n ≡ (48 + n % 10) ∷ []
unfolding digits_of
digits_one k n small = let low : n % 10 ≡ n = omega arith in rw (lt-ltb n 10 small, low)

digits_step : (k n : ℕ) → 10 ≤ n → digits_of (suc k) n ≡ digits_of k (n / 10) ++ ((48 + n % 10) ∷ [])
unfolding digits_of
digits_step k n large = rw (le-ltb n 10 large)

pub number_one : {a b : List ℕ} {s t : Put} {digit : ℕ} (n : ℕ) → n < 10 → digit ≡ 48 + n % 10 → Puts a s b t (digit ∷ [])
    → Puts a s b t (digits_of 20 n)
number_one n small e p = puts_same (rw (digits_one 19 n small, ← e)) p

-- the digits of a number from its last one on: those that are still to come, and those in the array behind a place
pub record Digits (n : ℕ) (digits : List ℕ) (first left : ℕ) : Type 0 where
  pub all : digits_of 20 n ≡ digits_of (suc first) left ++ drop (suc first) digits
  pub below : left < 10 ^ suc first
  pub within : first < 20
  pub sized : length digits ≡ 20

pub digits_start : (n : ℕ) (digits : List ℕ) → n < 2 ^ 64 → length digits ≡ 20 → Digits n digits 19 n
digits_start n digits fits size =
    record {
      all = sym (rw (drop_of_length-le digits {i = 20} (omega (arith, size))) (append-nil (digits_of 20 n)));
      below = omega arith;
      within = omega arith;
      sized = size;
    }

-- an entry stored at a place, and those behind it
behind_stored : (digits : List ℕ) (place digit : ℕ) → place < length digits
    → drop place (set digits place digit) ≡ digit ∷ drop (suc place) digits
behind_stored digits place digit here =
    drop-cons (set digits place digit) place 0 (rw (length-set digits place digit) here)
    ∙ rw (get_or-set_same digits place digit 0 here, drop-set-lt (suc place) digits place digit (omega arith))

-- a number of more digits has a place for the next one
pub digits_ahead : {n : ℕ} {digits : List ℕ} (first : ℕ) {left : ℕ} → Digits n digits first left → 10 ≤ left → 0 < first
digits_ahead zero d large = absurd (omega (arith, d.below))
digits_ahead (suc first) d large = omega arith

module _ {n : ℕ} {digits : List ℕ} {left digit : ℕ} where
  pub digits_turn : (first : ℕ) → Digits n digits first left → 10 ≤ left → digit ≡ 48 + left % 10
      → Digits n (set digits first digit) (first - 1) (left / 10)
  digits_turn zero d large e = absurd (omega (arith, d.below))
  digits_turn (suc first) d large e =
      let before : suc first - 1 ≡ first = omega arith in
      let here : suc first < length digits = omega (arith, d.within, d.sized) in
      let behind : List ℕ = drop (suc (suc first)) digits in
      let moved : digits_of (suc (suc first)) left ++ behind ≡ digits_of (suc first) (left / 10) ++ ((48 + left % 10) ∷ behind) =
      rw (digits_step (suc first) left large) (append_snoc (digits_of (suc first) (left / 10)) (48 + left % 10) behind) in
      let stored : digits_of (suc first) (left / 10) ++ ((48 + left % 10) ∷ behind)
      ≡ digits_of (suc first) (left / 10) ++ drop (suc first) (set digits (suc first) digit) =
      rw (← e, behind_stored digits (suc first) digit here) in
      rw before
      (record {
        all = d.all ∙ moved ∙ stored;
        below = omega (arith, d.below, pow-suc 10 (suc first));
        within = omega (arith, d.within);
        sized = length-set digits (suc first) digit ∙ d.sized;
      })

  pub digits_end : (first : ℕ) → Digits n digits first left → left < 10 → digit ≡ 48 + left % 10
      → drop first (set digits first digit) ≡ digits_of 20 n
  digits_end first d small e =
      behind_stored digits first digit (omega (arith, d.within, d.sized))
      ∙ sym (d.all ∙ rw (digits_one first left small, ← e))
