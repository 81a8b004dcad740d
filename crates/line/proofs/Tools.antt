-- The tools tell the line's story: counts over the records of a log are counts over the trips of its cells.
-- Assumes nothing.
use mathlib.Core.Bool.{Bool, true, false, cond, not}
use mathlib.Core.List.{List, [], ◌∷◌, ◌++◌, map, flat_map, zip, zip_with}
use mathlib.Core.Path.{◌≡◌, refl, sym, ◌∙◌, ap, ap₂, subst}
use Prim.Native.Nat.{ℕ, zero, suc, ◌+◌}
use native.Mathlib.Nat.{suc-ne-zero, le_trans}
use native.Mathlib.Omega.{arith}
use borrow.Author.Tests.{eq-eqb, ne_eqb}
use lib.Dec.{eqb}
use lib.ListN.{length, take, replicate}
use Rattle.runs.proofs.Laws.{split, both_true}
use Rattle.sender.specs.Sender as S
use Rattle.receiver.specs.declared.Receiver.{Receiver}
use Rattle.receiver.specs.Receiver as R
use Rattle.reading.specs.Heard.{Heard, hear, onward, heard_from, is_sound, kept_of}
use Rattle.reading.specs.Reading.{reading_of}
use Rattle.reading.specs.Records.{Whole, Framed, octets_in}
use Rattle.reading.specs.Totals.{total_of, count_of, those, Each}
use Rattle.reading.proofs.Heard.{all_arrived, arrived_is}
use Rattle.reading.proofs.Totals.{total_joined}
use Rattle.listing.specs.Lines.{format_line, end_line}
use Rattle.listing.specs.List.{lines_of}
use Rattle.saving.specs.Salvage.{new_log}
use Rattle.line.specs.Calls.{SendCall, MeetsSend, ReceiveCall}
use Rattle.line.specs.Line.{
  Sending,
  Fate,
  dropped,
  spoiled,
  unaltered,
  is_lost,
  Trip,
  arrival_of,
  arrivals,
  Place,
  places_of,
  from_first,
  all_lost,
  to_last,
  refusals_of,
}
use Rattle.line.specs.Tools.{
  is_unaltered,
  first_delivery,
  spoiled_times,
  copies,
  places_heard,
  has_mark,
  not_zero,
  sound_not_zero,
  TellsStory,
  ToolsTell,
}
use Rattle.line.proofs.Cells.{fits}
use Rattle.line.proofs.Counts.{counted_on}
use Rattle.line.proofs.Logs.{framed, read_header, read_fault, read_heard, list_is}
use Rattle.line.proofs.Places.{Inside, longest_inside, demand_3_inside}
use Rattle.line.proofs.Played.{
  calls_for,
  calls_in_a_row,
  calls_take,
  calls_room,
  calls_refuse,
  calls_take_cells,
  calls_miss,
  calls_hand,
  heard_marks,
}
use Rattle.line.proofs.Rows.{Wrote, only_written, each_wrote, refused_so}
use Rattle.line.proofs.Steps.{missing}

-- sums over lists
module _ {A B : Type 0} where
  total_map : (f : B → ℕ) (g : A → B) (xs : List A) → total_of f (map g xs) ≡ total_of (λ x. f (g x)) xs
  unfolding total_of
  total_map f g [] = refl
  total_map f g (x ∷ xs) = ap (λ (n : ℕ). f (g x) + n) (total_map f g xs)

  total_flat : (f : B → ℕ) (g : A → List B) (xs : List A) → total_of f (flat_map g xs) ≡ total_of (λ x. total_of f (g x)) xs
  unfolding total_of flat_map
  total_flat f g [] = refl
  total_flat f g (x ∷ xs) = total_joined f (g x) (flat_map g xs) ∙ ap (λ (n : ℕ). total_of f (g x) + n) (total_flat f g xs)

module _ {A : Type 0} where
  count_row : (test : A → Bool) (x : A) (n : ℕ) → count_of test (replicate n x) ≡ cond (test x) n 0
  unfolding total_of
  count_row test x zero = split (test x) (λ e. rw e) (λ e. rw e)
  count_row test x (suc n) =
      split (test x)
      (λ e.
      let on : count_of test (replicate n x) ≡ n = count_row test x n ∙ rw e in
      rw e (let more : 1 + count_of test (replicate n x) ≡ suc n = omega (arith, on) in more))
      (λ e.
      let on : count_of test (replicate n x) ≡ 0 = count_row test x n ∙ rw e in
      rw e (let more : 0 + count_of test (replicate n x) ≡ 0 = omega (arith, on) in more))

  total_each : (f g : A → ℕ) (xs : List A) → Each (λ x. f x ≡ g x) xs → total_of f xs ≡ total_of g xs
  unfolding total_of Each
  total_each f g [] each = refl
  total_each f g (x ∷ xs) each = ap₂ (λ (a b : ℕ). a + b) each.0 (total_each f g xs each.1)

  total_none : (xs : List A) → total_of (λ x. 0) xs ≡ 0
  unfolding total_of
  total_none [] = refl
  total_none (x ∷ xs) = ap (λ (n : ℕ). 0 + n) (total_none xs)

  total_plus : (f g : A → ℕ) (xs : List A) → total_of (λ x. f x + g x) xs ≡ total_of f xs + total_of g xs
  unfolding total_of
  total_plus f g [] = refl
  total_plus f g (x ∷ xs) = omega (arith, total_plus f g xs)

  each_map : (P Q : A → Type 0) → ((x : A) → P x → Q x) → (xs : List A) → Each P xs → Each Q xs
  unfolding Each
  each_map P Q h [] each = tt
  each_map P Q h (x ∷ xs) each = (h x each.0, each_map P Q h xs each.1)

-- a log holds cells of 48 octets, so spoiled ones too came with so many
abbrev FramedFate : Fate → Type 0
FramedFate dropped = Unit {0}
FramedFate (spoiled came indication again) = length came ≡ 48
FramedFate (unaltered again) = Unit {0}

framed_later : (first more : List Whole) → Each Framed (first ++ more) → Each Framed more
unfolding Each
framed_later [] more each = each
framed_later (a ∷ first) more each = framed_later first more each.1

framed_fate : (s : SendCall) (fate : Fate) (more : List Whole) → Each Framed (arrival_of s fate ++ more) → FramedFate fate
unfolding Each
framed_fate s dropped more each = tt
framed_fate s (spoiled came indication again) more each = each.0
framed_fate s (unaltered again) more each = tt

framed_trips : (ts : List Trip) → Each Framed (arrivals ts) → Each (λ t. FramedFate t.fate) ts
unfolding Each flat_map
framed_trips [] each = tt
framed_trips (t ∷ ts) each = (
  framed_fate t.sent t.fate (arrivals ts) each,
  framed_trips ts (framed_later (arrival_of t.sent t.fate) (arrivals ts) each),
)

-- how many of a cell's deliveries get a refusal that passes a test, 0 being no refusal
answers_spoiled : (test : ℕ → Bool) (came : List ℕ) (indication : Bool) (again : ℕ) → length came ≡ 48
    → count_of test (refusals_of (spoiled came indication again)) ≡ cond (test 8) (suc again) 0
answers_spoiled test came indication again whole = rw (eq-eqb (length came) 48 whole) (count_row test 8 (suc again))

answers_unaltered : (test : ℕ → Bool) (again : ℕ)
    → count_of test (refusals_of (unaltered again)) ≡ cond (test 0) 1 0 + cond (test 9) again 0
unfolding total_of
answers_unaltered test again = ap (λ (n : ℕ). cond (test 0) 1 0 + n) (count_row test 9 again)

sound_of : (fate : Fate) → FramedFate fate → count_of (λ k. eqb k 0) (refusals_of fate) ≡ cond (not (is_lost fate)) 1 0
unfolding total_of
sound_of dropped whole = refl
sound_of (spoiled came indication again) whole = answers_spoiled (λ k. eqb k 0) came indication again whole
sound_of (unaltered again) whole = answers_unaltered (λ k. eqb k 0) again

eight_of_lem : (fate : Fate) → FramedFate fate → count_of (λ k. eqb k 8) (refusals_of fate) ≡ spoiled_times fate
unfolding total_of
eight_of_lem dropped whole = refl
eight_of_lem (spoiled came indication again) whole = answers_spoiled (λ k. eqb k 8) came indication again whole
eight_of_lem (unaltered again) whole = answers_unaltered (λ k. eqb k 8) again

nine_of_lem : (fate : Fate) → FramedFate fate → count_of (λ k. eqb k 9) (refusals_of fate) ≡ copies fate
unfolding total_of
nine_of_lem dropped whole = refl
nine_of_lem (spoiled came indication again) whole = answers_spoiled (λ k. eqb k 9) came indication again whole
nine_of_lem (unaltered again) whole = answers_unaltered (λ k. eqb k 9) again ∙ (let same : 0 + again ≡ again = omega arith in same)

else_of : (n : ℕ) → (n ≡ 0 → ⊥) → (n ≡ 8 → ⊥) → (n ≡ 9 → ⊥) → (fate : Fate) → FramedFate fate
    → count_of (λ k. eqb k n) (refusals_of fate) ≡ 0
unfolding total_of
else_of n not-0 not-8 not-9 dropped whole = refl
else_of n not-0 not-8 not-9 (spoiled came indication again) whole =
    answers_spoiled (λ k. eqb k n) came indication again whole ∙ rw (ne_eqb 8 n (λ e. not-8 (sym e)))
else_of n not-0 not-8 not-9 (unaltered again) whole =
    answers_unaltered (λ k. eqb k n) again ∙ rw (ne_eqb 0 n (λ e. not-0 (sym e)), ne_eqb 9 n (λ e. not-9 (sym e)))

refused_of : (fate : Fate) → FramedFate fate → count_of (λ k. not (eqb k 0)) (refusals_of fate) ≡ spoiled_times fate + copies fate
unfolding total_of
refused_of dropped whole = refl
refused_of (spoiled came indication again) whole =
    answers_spoiled (λ k. not (eqb k 0)) came indication again whole
    ∙ (let same : suc again ≡ suc again + 0 = omega arith in same)
refused_of (unaltered again) whole = answers_unaltered (λ k. not (eqb k 0)) again

-- the lost cells between the first unaltered one and the last, and the unaltered ones, are all there
none_unaltered : (ts : List Trip) → all_lost ts ≡ true → count_of is_unaltered ts ≡ 0
unfolding total_of all_lost
none_unaltered [] e = refl
none_unaltered (t ∷ ts) e =
    let both = both_true (is_lost t.fate) (all_lost ts) e in
    rw both.0 (ap (λ (n : ℕ). 0 + n) (none_unaltered ts both.1))

lost_to_last : (ts : List Trip) → count_of (λ t. is_lost t.fate) (to_last ts) + count_of is_unaltered ts ≡ length (to_last ts)
unfolding total_of all_lost to_last
lost_to_last [] = refl
lost_to_last (t ∷ ts) =
    let lost = count_of (λ t. is_lost t.fate) (to_last ts) in
    let here = count_of is_unaltered ts in
    let on : lost + here ≡ length (to_last ts) = lost_to_last ts in
    split (is_lost t.fate)
    (λ gone.
    split (all_lost ts)
    (λ all. rw (gone, all) (let none : 0 + (0 + here) ≡ 0 = omega (arith, none_unaltered ts all) in none))
    (λ some. rw (gone, some, gone) (let more : 1 + lost + (0 + here) ≡ suc (length (to_last ts)) = omega arith in more)))
    (λ stays. rw (stays, stays) (let more : 0 + lost + (1 + here) ≡ suc (length (to_last ts)) = omega arith in more))

lost_inside : (ts : List Trip)
    → count_of (λ t. is_lost t.fate) (to_last (from_first ts)) + count_of is_unaltered ts ≡ length (to_last (from_first ts))
unfolding total_of from_first
lost_inside [] = lost_to_last []
lost_inside (t ∷ ts) =
    split (is_lost t.fate)
    (λ gone.
    let lost = count_of (λ t. is_lost t.fate) (to_last (from_first ts)) in
    let here = count_of is_unaltered ts in
    rw gone (let same : lost + (0 + here) ≡ length (to_last (from_first ts)) = omega (arith, lost_inside ts) in same))
    (λ stays. rw stays (rw stays at (lost_to_last (t ∷ ts))))

-- the records that are kept
unfoldable kept_by : List ℕ → List Whole → List Whole
kept_by [] ws = []
kept_by (n ∷ ns) [] = []
kept_by (n ∷ ns) (w ∷ ws) = cond (eqb n 0) (w ∷ kept_by ns ws) (kept_by ns ws)

kept_by_lem : (hs : List Heard) → kept_of hs ≡ kept_by (map (λ h. h.answer.refusal) hs) (map (λ h. h.arrived) hs)
unfolding those kept_by
kept_by_lem [] = refl
kept_by_lem (h ∷ hs) =
    split (is_sound h) (λ e. rw e (ap (λ (l : List Whole). h.arrived ∷ l) (kept_by_lem hs))) (λ e. rw e (kept_by_lem hs))

kept_none : {refusal : ℕ} → (refusal ≡ 0 → ⊥) → (n : ℕ) (a : Whole) (ns : List ℕ) (more : List Whole)
    → kept_by (replicate n refusal ++ ns) (replicate n a ++ more) ≡ kept_by ns more
unfolding kept_by
kept_none some zero a ns more = refl
kept_none some (suc n) a ns more = rw (ne_eqb _ 0 some) (kept_none some n a ns more)

kept_fate : (s : SendCall) (fate : Fate) (ns : List ℕ) (more : List Whole)
    → kept_by (refusals_of fate ++ ns) (arrival_of s fate ++ more)
    ≡ cond (not (is_lost fate)) (record { indication = s.indication; cell = s.written } ∷ kept_by ns more) (kept_by ns more)
unfolding kept_by
kept_fate s dropped ns more = refl
kept_fate s (spoiled came indication again) ns more = kept_none (refused_so (eqb (length came) 48)) (suc again) _ ns more
kept_fate s (unaltered again) ns more =
    ap (λ (l : List Whole). record { indication = s.indication; cell = s.written } ∷ l)
    (kept_none (suc-ne-zero 8) again _ ns more)

kept_trips : (ts : List Trip) → kept_by (flat_map (λ t. refusals_of t.fate) ts) (arrivals ts) ≡ map first_delivery (those is_unaltered ts)
unfolding kept_by those flat_map
kept_trips [] = refl
kept_trips (t ∷ ts) =
    kept_fate t.sent t.fate (flat_map (λ t. refusals_of t.fate) ts) (arrivals ts)
    ∙ split (is_lost t.fate)
    (λ lost. rw lost (kept_trips ts))
    (λ here. rw here (ap (λ (l : List Whole). first_delivery t ∷ l) (kept_trips ts)))

-- samples that aren't zero, in places marked sound
there : Trip → ℕ
there t = count_of sound_not_zero (places_of t)

none_there : (t : Trip) → is_lost t.fate ≡ true → there t ≡ 0
unfolding there places_of
none_there t lost = rw lost (count_row sound_not_zero missing (S.used_now t.sent.state))

zip_there : (xs ys : List ℕ) (n : ℕ) → length xs ≡ n → length ys ≡ n
    → count_of sound_not_zero (zip xs (zip ys (replicate n 0))) ≡ count_of not_zero xs
unfolding total_of zip zip_with
zip_there [] ys n a b = refl
zip_there (x ∷ xs) [] n a b = absurd (omega arith)
zip_there (x ∷ xs) (y ∷ ys) zero a b = absurd (omega arith)
zip_there (x ∷ xs) (y ∷ ys) (suc n) a b =
    ap (λ (k : ℕ). cond (not_zero x) 1 0 + k) (zip_there xs ys n (omega arith) (omega arith))

own_there : (t : Trip) → Wrote t.sent → is_lost t.fate ≡ false → there t ≡ count_of not_zero t.sent.samples
unfolding there places_of
own_there t sent here =
    let fit = fits t.sent sent.0 sent.1 in
    rw here
    (zip_there t.sent.samples t.sent.ancillary (S.used_now t.sent.state) fit.samples_length fit.ancillary_length)

abbrev NoneOf : (Trip → ℕ) → Type 0
NoneOf f = (t : Trip) → is_lost t.fate ≡ true → f t ≡ 0

none_outside : (f : Trip → ℕ) → NoneOf f → (ts : List Trip) → all_lost ts ≡ true → total_of f ts ≡ 0
unfolding total_of all_lost
none_outside f none [] e = refl
none_outside f none (t ∷ ts) e =
    let both = both_true (is_lost t.fate) (all_lost ts) e in
    ap₂ (λ (a b : ℕ). a + b) (none t both.0) (none_outside f none ts both.1)

total_to_last : (f : Trip → ℕ) → NoneOf f → (ts : List Trip) → total_of f (to_last ts) ≡ total_of f ts
unfolding total_of to_last
total_to_last f none [] = refl
total_to_last f none (t ∷ ts) =
    split (all_lost (t ∷ ts))
    (λ all. rw all (sym (none_outside f none (t ∷ ts) all)))
    (λ some. rw some (ap (λ (n : ℕ). f t + n) (total_to_last f none ts)))

total_from_first : (f : Trip → ℕ) → NoneOf f → (ts : List Trip) → total_of f (from_first ts) ≡ total_of f ts
unfolding total_of from_first
total_from_first f none [] = refl
total_from_first f none (t ∷ ts) =
    split (is_lost t.fate)
    (λ lost.
    let gone = none t lost in
    rw lost (total_from_first f none ts ∙ (let same : total_of f ts ≡ f t + total_of f ts = omega (arith, gone) in same)))
    (λ here. rw here)

all_there : (ts : List Trip) → Each (λ t. Wrote t.sent) ts
    → total_of there ts ≡ count_of not_zero (flat_map (λ t. t.sent.samples) (those is_unaltered ts))
unfolding total_of flat_map those Each
all_there [] each = refl
all_there (t ∷ ts) each =
    let on = all_there ts each.1 in
    split (is_lost t.fate)
    (λ lost.
    let later = count_of not_zero (flat_map (λ t. t.sent.samples) (those is_unaltered ts)) in
    rw lost (let same : there t + total_of there ts ≡ later = omega (arith, none_there t lost, on) in same))
    (λ here.
    rw here
    (ap₂ (λ (a b : ℕ). a + b) (own_there t each.0 here) on
    ∙ sym (total_joined (λ n. cond (not_zero n) 1 0) t.sent.samples (flat_map (λ t. t.sent.samples) (those is_unaltered ts)))))

there_inside : (ts : List Trip) → Each (λ t. Wrote t.sent) ts
    → count_of sound_not_zero (flat_map places_of (to_last (from_first ts)))
    ≡ count_of not_zero (flat_map (λ t. t.sent.samples) (those is_unaltered ts))
unfolding there
there_inside ts each =
    total_flat (λ p. cond (sound_not_zero p) 1 0) places_of (to_last (from_first ts))
    ∙ total_to_last there none_there (from_first ts)
    ∙ total_from_first there none_there ts
    ∙ all_there ts each

-- what a fresh receiver makes of what arrives
module _ (st : Receiver) (trips : List Trip) (none : st.count ≡ 0)
    (inside : Inside st trips (calls_for st (arrivals trips))) (framed : Each Framed (arrivals trips))
    (sent : Each (λ t. Wrote t.sent) trips)
  where
    abbrev records : List Whole
    records = arrivals trips

    abbrev heard : List Heard
    heard = heard_from st records

    abbrev calls : List ReceiveCall
    calls = calls_for st records

    answers_are : map (λ h. h.answer.refusal) heard ≡ flat_map (λ t. refusals_of t.fate) trips
    answers_are = sym (calls_refuse st records) ∙ inside.refused_so

    -- how many records get a refusal that passes a test
    answered : (test : ℕ → Bool) (per : Fate → ℕ) → ((fate : Fate) → FramedFate fate → count_of test (refusals_of fate) ≡ per fate)
        → count_of (λ h. test h.answer.refusal) heard ≡ total_of (λ t. per t.fate) trips
    answered test per each =
        sym (total_map (λ k. cond (test k) 1 0) (λ h. h.answer.refusal) heard)
        ∙ ap (λ (l : List ℕ). count_of test l) answers_are
        ∙ total_flat (λ k. cond (test k) 1 0) (λ t. refusals_of t.fate) trips
        ∙ total_each (λ t. count_of test (refusals_of t.fate)) (λ t. per t.fate) trips
        (each_map (λ t. FramedFate t.fate) _ (λ t. each t.fate) trips (framed_trips trips framed))

    placed : flat_map places_heard heard ≡ flat_map places_of (to_last (from_first trips))
    placed = sym (calls_hand st records) ∙ inside.comes_out.handed_out

    pub tells_story : TellsStory trips heard
    tells_story =
        let sound-are = answered (λ k. eqb k 0) (λ fate. cond (not (is_lost fate)) 1 0) sound_of in
        let all = counted_on st calls (calls_in_a_row st records) in
        record {
          sound = sound-are;
          missing =
              omega (
                arith,
                none,
                all,
                inside.comes_out.counted,
                sound-are,
                calls_take_cells st records,
                calls_miss st records,
                lost_inside trips,
              );
          refused =
              answered (λ k. not (eqb k 0)) (λ fate. spoiled_times fate + copies fate) refused_of
              ∙ total_plus (λ t. spoiled_times t.fate) (λ t. copies t.fate) trips;
          refused_8 = answered (λ k. eqb k 8) spoiled_times eight_of_lem;
          refused_9 = answered (λ k. eqb k 9) copies nine_of_lem;
          refused_else =
              λ n not-0 not-8 not-9.
              answered (λ k. eqb k n) (λ fate. 0) (else_of n not-0 not-8 not-9) ∙ total_none trips;
          handed_out = placed;
          marks = λ mark. heard_marks mark st records ∙ ap (λ (l : List Place). count_of (has_mark mark) l) placed;
          kept =
              kept_by_lem heard
              ∙ ap₂ kept_by answers_are (all_arrived hear onward (λ h. h.arrived) arrived_is st records)
              ∙ kept_trips trips;
          anything = ap (λ (l : List Place). count_of sound_not_zero l) placed ∙ there_inside trips sent;
        }

pub tools_tell : ToolsTell 3 14 4294967295 MeetsSend
unfolding ToolsTell new_log
tools_tell st sends trips log with_overhead row these within fair few is =
    let fresh = R.open_state st.format st.channels st.order in
    let records = arrivals trips in
    let inside = demand_3_inside 14 st sends trips (calls_for fresh records) with_overhead row these within fair few
    (calls_in_a_row fresh records) (calls_take fresh records) (calls_room fresh records) (le_trans (longest_inside trips) few) in
    let in_a_row = subst (Sending Wrote st) (sym these) (only_written sends st row) in
    let story = subst (TellsStory trips) (sym (read_heard is))
    (tells_story fresh trips refl inside (framed is) (each_wrote st trips in_a_row)) in
    record {
      header = read_header is;
      no_fault = read_fault is;
      tells = story;
      list =
          λ short.
          list_is is short
          ∙ (λ i.
          format_line st.format st.channels st.order
          ++ (lines_of 0 (reading_of log).heard ++ end_line (story.sound i) (story.missing i) (story.refused i)));
      salvage = ap (λ (ws : List Whole). take 3 log ++ octets_in ws) story.kept;
    }
