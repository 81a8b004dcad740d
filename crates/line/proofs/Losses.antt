-- Whatever is lost: what is marked sound is exact, and places slip back by whole multiples of 16 cells.
-- Assumes nothing.
use mathlib.Core.Bool.{Bool, false}
use mathlib.Core.List.{List, [], ◌∷◌, ◌++◌, map, flat_map, zip, zip_with, append_assoc}
use mathlib.Core.Path.{◌≡◌, refl, sym, ◌∙◌, ap, ap₂, subst}
use Prim.Native.Nat.{ℕ, zero, suc, ◌+◌, ◌*◌, ◌/◌, ◌%◌}
use native.Mathlib.Nat.{suc-mul, zero-mul}
use native.Mathlib.Omega.{arith}
use lib.ListN.{length, take, drop, replicate, length-append, length-replicate}
use lib.Seq.{take_at, drop_at}
use Rattle.runs.proofs.Laws.{split}
use Rattle.sender.specs.Sender as S
use Rattle.reading.specs.Totals.{total_of, those, Each}
use Rattle.line.specs.Calls.{MeetsSend, MeetsReceive}
use Rattle.line.specs.Line.{Sending, is_lost, Trip, Place, handed, places_of}
use Rattle.line.specs.Losses.{
  Since,
  never,
  after,
  comes_round,
  Told,
  story_from,
  taken_from,
  taken_in,
  missing_before,
  places_with,
  is_marked_sound,
  sixteens,
  first_place,
  past_place,
  SlipBack,
  AnyLoss,
}
use Rattle.line.proofs.Cells.{fits}
use Rattle.line.proofs.Places.{Alike, all_alike, whatever}
use Rattle.line.proofs.Rows.{cells_with, Wrote, only_written, each_wrote}
use Rattle.line.proofs.Steps.{missing}

-- those of two lists joined
those_joined : {A : Type 0} (test : A → Bool) (xs ys : List A) → those test (xs ++ ys) ≡ those test xs ++ those test ys
unfolding those
those_joined test [] ys = refl
those_joined {A} test (x ∷ xs) ys =
    split (test x) (λ e. rw e (ap (λ (l : List A). x ∷ l) (those_joined test xs ys))) (λ e. rw e (those_joined test xs ys))

-- no missing place is marked sound, and every place of an unaltered cell is
none_sound : (n : ℕ) → those is_marked_sound (replicate n missing) ≡ []
unfolding those
none_sound zero = refl
none_sound (suc n) = none_sound n

all_sound : (xs ys : List ℕ) (n : ℕ) → those is_marked_sound (zip xs (zip ys (replicate n 0))) ≡ zip xs (zip ys (replicate n 0))
unfolding those zip zip_with
all_sound [] ys n = refl
all_sound (x ∷ xs) [] n = refl
all_sound (x ∷ xs) (y ∷ ys) zero = refl
all_sound (x ∷ xs) (y ∷ ys) (suc n) = ap (λ (l : List Place). (x, (y, 0)) ∷ l) (all_sound xs ys n)

sound_own : (t : Trip) → is_lost t.fate ≡ false → those is_marked_sound (places_of t) ≡ places_of t
unfolding places_of
sound_own t here = rw here (all_sound t.sent.samples t.sent.ancillary (S.used_now t.sent.state))

sound_with : (x : Told) → is_lost x.trip.fate ≡ false → those is_marked_sound (places_with x) ≡ places_of x.trip
sound_with x here =
    let lost = missing_before x * S.used_now x.trip.sent.state in
    those_joined is_marked_sound (replicate lost missing) (places_of x.trip)
    ∙ ap₂ (λ (a b : List Place). a ++ b) (none_sound lost) (sound_own x.trip here)

sound_places : (place : ℕ) (since : Since) (ts : List Trip)
    → those is_marked_sound (flat_map places_with (taken_from place since ts))
    ≡ flat_map (λ x. places_of x.trip) (taken_from place since ts)
unfolding story_from those flat_map
sound_places place since [] = refl
sound_places place since (t ∷ ts) =
    split (is_lost t.fate)
    (λ lost. rw lost (sound_places (suc place) _ ts))
    (λ here.
    split (comes_round since)
    (λ round. rw (here, round) (sound_places (suc place) _ ts))
    (λ turns.
    let x : Told = record { trip = t; place = place; since = since } in
    rw (here, turns)
    (those_joined is_marked_sound (places_with x) (flat_map places_with (taken_from (suc place) (after 0) ts))
    ∙ ap₂ (λ (a b : List Place). a ++ b) (sound_with x here) (sound_places (suc place) (after 0) ts))))

-- the story tells of all cells
tells_all : (place : ℕ) (since : Since) (ts : List Trip) → map (λ x. x.trip) (story_from place since ts) ≡ ts
unfolding story_from
tells_all place since [] = refl
tells_all place since (t ∷ ts) = ap (λ (l : List Trip). t ∷ l) (tells_all (suc place) _ ts)

-- places behind others: what stands there, and what stands before the rest
module _ (pre lost own rest : List Place) (used shown m : ℕ) {out : List Place} (is : out ≡ pre ++ ((lost ++ own) ++ rest))
    (before : length pre ≡ shown * used) (missed : length lost ≡ m * used) (long : length own ≡ used)
  where
    front : length (pre ++ lost) ≡ (shown + m) * used
    front = length-append pre lost ∙ omega (arith, before, missed)

    stands : take used (drop ((shown + m) * used) out) ≡ own
    stands =
        ap (λ (l : List Place). take used (drop ((shown + m) * used) l))
        (is ∙ ap (λ (l : List Place). pre ++ l) (append_assoc lost own rest) ∙ sym (append_assoc pre lost (own ++ rest)))
        ∙ ap (take used) (drop_at (pre ++ lost) (own ++ rest) ((shown + m) * used) front)
        ∙ take_at own rest used long

    goes_on : out ≡ (pre ++ (lost ++ own)) ++ rest
    goes_on = is ∙ sym (append_assoc pre (lost ++ own) rest)

    longer : length (pre ++ (lost ++ own)) ≡ suc (shown + m) * used
    longer =
        length-append pre (lost ++ own) ∙ omega (arith, length-append lost own, before, missed, long, suc-mul (shown + m) used)

-- an unaltered cell has C×T places
zip_long : {A B : Type 0} (n : ℕ) (xs : List A) (ys : List B) → length xs ≡ n → length ys ≡ n → length (zip xs ys) ≡ n
unfolding zip zip_with
zip_long n [] ys a b = a
zip_long n (x ∷ xs) [] a b = b
zip_long zero (x ∷ xs) (y ∷ ys) a b = absurd (omega arith)
zip_long (suc n) (x ∷ xs) (y ∷ ys) a b = ap (λ (k : ℕ). suc k) (zip_long n xs ys (omega arith) (omega arith))

own_long : (t : Trip) → Wrote t.sent → is_lost t.fate ≡ false → length (places_of t) ≡ S.used_now t.sent.state
unfolding places_of
own_long t sent here =
    let fit = fits t.sent sent.0 sent.1 in
    rw here (zip_long _ _ _ fit.samples_length (zip_long _ _ _ fit.ancillary_length (length-replicate _ 0)))

-- places that slip, one cell after the other
module _ (out : List Place) (used : ℕ) where
  -- what is shown from here on, so many cells' places being shown before
  abbrev From : ℕ → ℕ → Since → List Trip → Type 0
  From shown place since ts =
      (pre : List Place) × (out ≡ pre ++ flat_map places_with (taken_from place since ts)) × (length pre ≡ shown * used)

  slip_after : (first slips shown place k : ℕ) (ts : List Trip) → Alike used ts → Each (λ t. Wrote t.sent) ts
      → From shown place (after k) ts → place ≡ first + shown + 16 * slips + k
      → SlipBack out first slips shown (taken_from place (after k) ts)
  unfolding story_from those flat_map Each SlipBack
  slip_after first slips shown place k [] alike sent from e = tt
  slip_after first slips shown place k (t ∷ ts) alike sent from e =
      split (is_lost t.fate)
      (λ gone.
      rw gone
      (slip_after first slips shown (suc place) (suc k) ts alike.1 sent.1 (from.0, rw gone at from.1, from.2)
      (omega arith)))
      (λ here.
      split (comes_round (after k))
      (λ round.
      rw (here, round)
      (slip_after first slips shown (suc place) (suc k) ts alike.1 sent.1 (from.0, rw (here, round) at from.1, from.2)
      (omega arith)))
      (λ turns.
      let lost = replicate (k % 16 * S.used_now t.sent.state) missing in
      let rest = flat_map places_with (taken_from (suc place) (after 0) ts) in
      let is : out ≡ from.0 ++ ((lost ++ places_of t) ++ rest)
      = rw (here, turns) at from.1 in
      let missed : length lost ≡ k % 16 * used
      = length-replicate (k % 16 * S.used_now t.sent.state) missing ∙ ap (λ (n : ℕ). k % 16 * n) alike.0 in
      let long : length (places_of t) ≡ used = own_long t sent.0 here ∙ alike.0 in
      let place_is : place ≡ first + (shown + k % 16) + 16 * (slips + k / 16) = omega arith in
      let next : suc place ≡ first + suc (shown + k % 16) + 16 * (slips + k / 16) + 0 = omega arith in
      rw (here, turns) (
        subst (λ (n : ℕ). take n (drop ((shown + k % 16) * n) out) ≡ places_of t) (sym alike.0)
            (stands from.0 lost (places_of t) rest used shown (k % 16) is from.2 missed long),
        place_is,
        slip_after first (slips + k / 16) (suc (shown + k % 16)) (suc place) 0 ts alike.1 sent.1 (
          from.0 ++ (lost ++ places_of t),
          goes_on from.0 lost (places_of t) rest used shown (k % 16) is from.2 missed long,
          longer from.0 lost (places_of t) rest used shown (k % 16) is from.2 missed long,
        )
            next,
      )))

  slip_first : (place : ℕ) (ts : List Trip) → Alike used ts → Each (λ t. Wrote t.sent) ts
      → out ≡ flat_map places_with (taken_from place never ts)
      → SlipBack out (first_place (taken_from place never ts)) 0 0 (taken_from place never ts)
  unfolding story_from those flat_map Each SlipBack
  slip_first place [] alike sent out_is = tt
  slip_first place (t ∷ ts) alike sent out_is =
      split (is_lost t.fate)
      (λ lost. rw lost (slip_first (suc place) ts alike.1 sent.1 (rw lost at out_is)))
      (λ here.
      let lost = replicate (0 * S.used_now t.sent.state) missing in
      let rest = flat_map places_with (taken_from (suc place) (after 0) ts) in
      let is : out ≡ [] ++ ((lost ++ places_of t) ++ rest) = rw here at out_is in
      let none : ◌≡◌ {A = ℕ} 0 (0 * used) = sym (zero-mul used) in
      let missed : length lost ≡ 0 * used
      = length-replicate (0 * S.used_now t.sent.state) missing ∙ ap (λ (n : ℕ). 0 * n) alike.0 in
      let long : length (places_of t) ≡ used = own_long t sent.0 here ∙ alike.0 in
      let place_is : place ≡ place + 0 + 16 * 0 = omega arith in
      let next : suc place ≡ place + 1 + 16 * 0 + 0 = omega arith in
      rw here (
        subst (λ (n : ℕ). take n (drop (0 * n) out) ≡ places_of t) (sym alike.0)
            (stands [] lost (places_of t) rest used 0 0 is none missed long),
        place_is,
        slip_after place 0 1 (suc place) 0 ts alike.1 sent.1 (
          [] ++ (lost ++ places_of t),
          goes_on [] lost (places_of t) rest used 0 0 is none missed long,
          longer [] lost (places_of t) rest used 0 0 is none missed long,
        )
            next,
      ))

-- and all of them together
past_after : (past place k : ℕ) (ts : List Trip) → past + k ≡ place
    → past + total_of cells_with (taken_from place (after k) ts) + 16 * total_of sixteens (taken_from place (after k) ts)
    ≡ past_place past (taken_from place (after k) ts)
unfolding story_from those total_of past_place
past_after past place k [] e = omega arith
past_after past place k (t ∷ ts) e =
    let lost = past_after past (suc place) (suc k) ts (omega arith) in
    split (is_lost t.fate)
    (λ gone. rw gone lost)
    (λ here.
    split (comes_round (after k))
    (λ round. rw (here, round) lost)
    (λ turns.
    let on = past_after (suc place) (suc place) 0 ts (omega arith) in
    let shown = total_of cells_with (taken_from (suc place) (after 0) ts) in
    let more = total_of sixteens (taken_from (suc place) (after 0) ts) in
    let here-is : past + (suc (k % 16) + shown) + 16 * (k / 16 + more) ≡ suc place + shown + 16 * more = omega arith in
    rw (here, turns) (here-is ∙ on)))

past_first : (place : ℕ) (ts : List Trip)
    → first_place (taken_from place never ts) + (0 + total_of cells_with (taken_from place never ts))
    + 16 * total_of sixteens (taken_from place never ts)
    ≡ past_place 0 (taken_from place never ts)
unfolding story_from those total_of past_place
past_first place [] = refl
past_first place (t ∷ ts) =
    split (is_lost t.fate)
    (λ lost. rw lost (past_first (suc place) ts))
    (λ here.
    let on = past_after (suc place) (suc place) 0 ts (omega arith) in
    let shown = total_of cells_with (taken_from (suc place) (after 0) ts) in
    let more = total_of sixteens (taken_from (suc place) (after 0) ts) in
    let here-is : place + (0 + (1 + shown)) + 16 * (0 + more) ≡ suc place + shown + 16 * more = omega arith in
    rw here (here-is ∙ on))

pub any_loss : AnyLoss 3 4294967295 MeetsSend MeetsReceive
unfolding AnyLoss
any_loss longest-row st sends trips receives with_overhead row these within fair few meets came room =
    let all = whatever longest-row st sends trips receives with_overhead row these within fair few meets came room in
    let in_a_row = subst (Sending Wrote st) (sym these) (only_written sends st row) in
    record {
      handed_out = all.hands;
      refused = all.answers;
      sound = ap (those is_marked_sound) all.hands ∙ sound_places 0 never trips;
      as_sent = tells_all 0 never trips;
      slip_back =
          slip_first (handed receives) (S.used_now st) 0 trips (all_alike st trips in_a_row) (each_wrote st trips in_a_row)
          all.hands;
      counted =
          ap (λ (n : ℕ). first_place (taken_in trips) + n + 16 * total_of sixteens (taken_in trips)) all.counts
          ∙ past_first 0 trips;
    }
