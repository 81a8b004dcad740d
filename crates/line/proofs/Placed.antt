-- What second numbers tell over the line: never too long of any sender, and exact of one that counts blocks; what is handed out with the
-- told cells put in is every cell in its place.
-- Assumes nothing.
use mathlib.Core.Bool.{Bool, true, false, cond}
use mathlib.Core.List.{List, [], ◌∷◌, ◌++◌, map, flat_map, append_assoc}
use mathlib.Core.Path.{◌≡◌, refl, sym, ◌∙◌, ap, ap₂, subst}
use Prim.Native.Nat.{ℕ, suc, ◌+◌, ◌*◌, ◌/◌, ◌%◌, ◌≤◌}
use native.Mathlib.Nat.{suc-mul, zero-mul}
use native.Mathlib.Omega.{arith}
use lib.ListN.{replicate, replicate-append-replicate}
use Rattle.runs.proofs.Laws.{split}
use Rattle.sender.specs.Sender as S
use Rattle.receiver.specs.Receiver as R
use Rattle.reading.specs.Totals.{total_of, those, Each}
use Rattle.slips.specs.Reports.{Report, told_of, watched_from, no_watch, NeverLonger, NeverAhead, SpacedOut}
use Rattle.slips.proofs.Exactly.{watch_exact, none_watched}
use Rattle.slips.proofs.Rows.{Chain, Counted, rows_never_longer, rows_exact}
use Rattle.slips.proofs.Watched.{watch_never_ahead}
use Rattle.line.specs.Calls.{MeetsSend, ReceiveCall, MeetsReceive}
use Rattle.line.specs.Line.{Sending, Trip, Place, handed_by, places_of, left_by}
use Rattle.line.specs.Losses.{never, after, Told, is_taken, story_from, taken_from, taken_in, sixteens, first_place, AnyLoss}
use Rattle.line.specs.Seconds.{took_in, reports_of, NeverTooLong, put_in, shown_for, from_taken, none_taken, to_taken, SlipsExact}
use Rattle.line.proofs.Losses.{any_loss}
use Rattle.line.proofs.Places.{Alike, all_alike, whatever}
use Rattle.line.proofs.Pieces.{Piece, piece_of, report_with, piece_with}
use Rattle.line.proofs.Rows.{Wrote, only_written}
use Rattle.line.proofs.Seconds.{lost_of, More, Starts, chain_first}
use Rattle.line.proofs.Steps.{missing}

map_map : {A B C : Type 0} (f : A → B) (g : B → C) (l : List A) → map g (map f l) ≡ map (λ x. g (f x)) l
map_map f g [] = refl
map_map {C = C} f g (x ∷ xs) = ap (λ (l : List C). g (f x) ∷ l) (map_map f g xs)

reports_are : (calls : List ReceiveCall) (taken : List Told) → map piece_of (took_in calls) ≡ map piece_with taken
    → reports_of calls ≡ map report_with taken
reports_are calls taken e =
    sym (map_map piece_of (λ (p : Piece). p.0) (took_in calls))
    ∙ ap (map (λ (p : Piece). p.0)) e
    ∙ map_map piece_with (λ (p : Piece). p.0) taken

-- of any sender
started_never_longer : (Counts : Type 0) (taken : List Told) → Starts Counts taken
    → NeverLonger (told_of (map report_with taken)) (map lost_of taken)
unfolding told_of NeverLonger
started_never_longer Counts [] s = tt
started_never_longer Counts (x ∷ xs) s =
    (refl, omega arith, rows_never_longer (More Counts) (report_with x) (map report_with xs) (map lost_of xs) s.2)

started_never_ahead : (Counts : Type 0) (taken : List Told) → Starts Counts taken
    → NeverAhead 0 (watched_from no_watch (map report_with taken)) (map lost_of taken)
unfolding watched_from NeverAhead
started_never_ahead Counts [] s = tt
started_never_ahead Counts (x ∷ xs) s =
    watch_never_ahead (More Counts) (report_with x) (map report_with xs) (lost_of x) (map lost_of xs) s.0 s.2

pub slips_never_too_long : NeverTooLong 3 4294967295 MeetsSend MeetsReceive
unfolding NeverTooLong
slips_never_too_long longest-row st sends trips receives with_overhead row these within fair few meets came room =
    let all = whatever longest-row st sends trips receives with_overhead row these within fair few meets came room in
    let in_a_row = subst (Sending Wrote st) (sym these) (only_written sends st row) in
    let starts = chain_first ⊥ trips st 0 in_a_row (λ c. absurd c) in
    let reports = sym (reports_are receives (taken_in trips) all.pieces) in
    record {
      never_longer = subst (λ (l : List Report). NeverLonger (told_of l) (map lost_of (taken_in trips))) reports (started_never_longer ⊥ (taken_in trips) starts);
      never_ahead =
          subst (λ (l : List Report). NeverAhead 0 (watched_from no_watch l) (map lost_of (taken_in trips))) reports
          (started_never_ahead ⊥ (taken_in trips) starts);
    }

-- of one that counts blocks
abbrev slip_of_lost : ℕ → ℕ
slip_of_lost k = 16 * (k / 16)

counted_chain : (last : Report) (rs : List Report) (ks : List ℕ) → Chain (More (Unit {0})) last rs ks → Each (λ (k : ℕ). k ≤ 119) ks
    → Chain Counted last rs ks
unfolding Chain Each
counted_chain last [] [] c few = tt
counted_chain last [] (k ∷ ks) c few = absurd c
counted_chain last (r ∷ rs) [] c few = absurd c
counted_chain last (r ∷ rs) (k ∷ ks) c few =
    ((c.0.0, c.0.1, (c.0.2 tt, few.0)), counted_chain r rs ks c.1 few.1)

none_first : (k : ℕ) → k ≡ 0 → k / 16 ≡ 0
none_first k e = omega (arith, e)

started_exact : (taken : List Told) → Starts (Unit {0}) taken → Each (λ (k : ℕ). k ≤ 119) (map lost_of taken)
    → told_of (map report_with taken) ≡ map slip_of_lost (map lost_of taken)
unfolding told_of Each
started_exact [] s few = refl
started_exact (x ∷ xs) s few =
    ap₂ (λ (n : ℕ) (l : List ℕ). n ∷ l) (sym (ap (λ (n : ℕ). 16 * n) (none_first (lost_of x) s.1)))
    (rows_exact (report_with x) (map report_with xs) (map lost_of xs) (counted_chain _ _ _ s.2 few.1))

started_watched : (taken : List Told) → Starts (Unit {0}) taken → Each (λ (k : ℕ). k ≤ 119) (map lost_of taken) → SpacedOut (map lost_of taken)
    → watched_from no_watch (map report_with taken) ++ (0 ∷ []) ≡ 0 ∷ map slip_of_lost (map lost_of taken)
unfolding Each
started_watched [] s few spaced = none_watched no_watch
started_watched (x ∷ xs) s few spaced =
    watch_exact (report_with x) (map report_with xs) (lost_of x) (map lost_of xs) s.0 (none_first (lost_of x) s.1)
    (counted_chain _ _ _ s.2 few.1) spaced

-- the told cells put in, over pieces
put_pieces : List ℕ → List Piece → List Place
put_pieces [] ps = []
put_pieces (n ∷ ns) [] = []
put_pieces (n ∷ ns) (p ∷ ps) = (replicate (n * p.1.0) missing ++ p.1.1) ++ put_pieces ns ps

in_pieces : (ns : List ℕ) (calls : List ReceiveCall) → put_in ns calls ≡ put_pieces ns (map piece_of calls)
unfolding put_in put_pieces
in_pieces [] calls = refl
in_pieces (n ∷ ns) [] = refl
in_pieces (n ∷ ns) (c ∷ cs) =
    ap (λ (l : List Place). (replicate (n * (piece_of c).1.0) missing ++ handed_by c) ++ l) (in_pieces ns cs)

-- all lost cells and then the cell
abbrev places_all : Told → List Place
places_all x = replicate (lost_of x * S.used_now x.trip.sent.state) missing ++ places_of x.trip

all_of : (k used : ℕ) (own : List Place)
    → replicate (16 * (k / 16) * used) missing ++ (replicate (k % 16 * used) missing ++ own) ≡ replicate (k * used) missing ++ own
all_of k used own =
    let whole : 16 * (k / 16) + k % 16 ≡ k = omega arith in
    let sum : 16 * (k / 16) * used + k % 16 * used ≡ (16 * (k / 16) + k % 16) * used = omega arith in
    sym (append_assoc (replicate (16 * (k / 16) * used) missing) (replicate (k % 16 * used) missing) own)
    ∙ ap (λ (l : List Place). l ++ own)
    (replicate-append-replicate (16 * (k / 16) * used) (k % 16 * used) missing
    ∙ ap (λ (n : ℕ). replicate n missing) (sum ∙ ap (λ (n : ℕ). n * used) whole))

pieces_all : (taken : List Told) → put_pieces (map slip_of_lost (map lost_of taken)) (map piece_with taken) ≡ flat_map places_all taken
unfolding put_pieces flat_map
pieces_all [] = refl
pieces_all (x ∷ xs) =
    ap₂ (λ (a b : List Place). a ++ b) (all_of (lost_of x) (S.used_now x.trip.sent.state) (places_of x.trip)) (pieces_all xs)

-- every cell from the first taken one to the last
lost_shown : (used : ℕ) (x : Told) → S.used_now x.trip.sent.state ≡ used → is_taken x ≡ false → shown_for x ≡ replicate used missing
lost_shown used x alike gone = rw (gone, alike) refl

none_to_taken : (xs : List Told) → none_taken xs ≡ true → to_taken xs ≡ []
unfolding none_taken to_taken
none_to_taken [] e = refl
none_to_taken (x ∷ xs) e = rw e refl

none_waits : {l : List Place} (used : ℕ) (xs : List Told)
    → l ≡ cond (none_taken xs) [] (replicate (0 * used) missing ++ flat_map shown_for (to_taken xs)) → l ≡ flat_map shown_for (to_taken xs)
unfolding flat_map
none_waits used xs e =
    split (none_taken xs) (λ all. e ∙ rw (all, none_to_taken xs all)) (λ some. e ∙ rw (some, zero-mul used))

-- the list goes on
all_none : (x : Told) (rest : List Told) → is_taken x ≡ false → none_taken rest ≡ true → none_taken (x ∷ rest) ≡ true
unfolding none_taken
all_none x rest gone all = rw (gone, all) refl

some_left : (x : Told) (rest : List Told) → is_taken x ≡ false → none_taken rest ≡ false → none_taken (x ∷ rest) ≡ false
unfolding none_taken
some_left x rest gone some = rw (gone, some) refl

here_one : (x : Told) (rest : List Told) → is_taken x ≡ true → none_taken (x ∷ rest) ≡ false
unfolding none_taken
here_one x rest here = rw here refl

on_to : (x : Told) (rest : List Told) → none_taken (x ∷ rest) ≡ false → to_taken (x ∷ rest) ≡ x ∷ to_taken rest
unfolding to_taken
on_to x rest e = rw e refl

-- what is shown of cells after one that was taken, `k` being lost since
abbrev ShownAfter : ℕ → ℕ → List Told → List Place
ShownAfter used k xs = cond (none_taken xs) [] (replicate (k * used) missing ++ flat_map shown_for (to_taken xs))

shown_on : (used k : ℕ) (x : Told) (rest : List Told) → none_taken (x ∷ rest) ≡ false
    → ShownAfter used k (x ∷ rest) ≡ replicate (k * used) missing ++ (shown_for x ++ flat_map shown_for (to_taken rest))
unfolding flat_map
shown_on used k x rest e =
    ap₂ (λ (b : Bool) (l : List Told). cond b [] (replicate (k * used) missing ++ flat_map shown_for l)) e (on_to x rest e)

shown_none : (used k : ℕ) → [] ≡ ShownAfter used k []
unfolding none_taken
shown_none used k = refl

shown_nothing : [] ≡ flat_map shown_for (to_taken [])
unfolding to_taken flat_map
shown_nothing = refl

-- one that isn't taken
one_lost : (used k : ℕ) (x : Told) (rest : List Told) → S.used_now x.trip.sent.state ≡ used → is_taken x ≡ false
    → {l : List Place} → l ≡ ShownAfter used (suc k) rest → l ≡ ShownAfter used k (x ∷ rest)
one_lost used k x rest alike gone on =
    split (none_taken rest)
    (λ all.
    on ∙ ap (λ (b : Bool). cond b [] (replicate (suc k * used) missing ++ flat_map shown_for (to_taken rest))) all
    ∙ sym (ap (λ (b : Bool). cond b [] (replicate (k * used) missing ++ flat_map shown_for (to_taken (x ∷ rest)))) (all_none x rest gone all)))
    (λ some.
    let more : replicate (suc k * used) missing ≡ replicate (k * used) missing ++ shown_for x
    = ap (λ (n : ℕ). replicate n missing) (suc-mul k used)
    ∙ sym (replicate-append-replicate (k * used) used missing)
    ∙ ap (λ (l : List Place). replicate (k * used) missing ++ l) (sym (lost_shown used x alike gone)) in
    on ∙ ap (λ (b : Bool). cond b [] (replicate (suc k * used) missing ++ flat_map shown_for (to_taken rest))) some
    ∙ ap (λ (l : List Place). l ++ flat_map shown_for (to_taken rest)) more
    ∙ append_assoc (replicate (k * used) missing) (shown_for x) (flat_map shown_for (to_taken rest))
    ∙ sym (shown_on used k x rest (some_left x rest gone some)))

-- and one that is
one_taken : (used k : ℕ) (x : Told) (rest : List Told) → S.used_now x.trip.sent.state ≡ used → is_taken x ≡ true → lost_of x ≡ k
    → {l : List Place} → l ≡ flat_map shown_for (to_taken rest) → places_all x ++ l ≡ ShownAfter used k (x ∷ rest)
one_taken used k x rest alike here lost {l} on =
    let own : places_of x.trip ≡ shown_for x
    = sym (ap (λ (b : Bool). cond b (places_of x.trip) (replicate (S.used_now x.trip.sent.state) missing)) here) in
    ap₂ (λ (n : ℕ) (m : List Place). (replicate n missing ++ places_of x.trip) ++ m) (ap₂ (λ (a b : ℕ). a * b) lost alike) on
    ∙ append_assoc (replicate (k * used) missing) (places_of x.trip) (flat_map shown_for (to_taken rest))
    ∙ ap (λ (m : List Place). replicate (k * used) missing ++ (m ++ flat_map shown_for (to_taken rest))) own
    ∙ sym (shown_on used k x rest (here_one x rest here))

all_after : (used place k : ℕ) (ts : List Trip) → Alike used ts
    → flat_map places_all (taken_from place (after k) ts) ≡ ShownAfter used k (story_from place (after k) ts)
unfolding story_from those Each flat_map
all_after used place k [] alike = shown_none used k
all_after used place k (t ∷ ts) alike =
    let x : Told = record { trip = t; place = place; since = after k } in
    split (is_taken x)
    (λ here.
    let rest = none_waits used (story_from (suc place) (after 0) ts) (all_after used (suc place) 0 ts alike.1) in
    rw here (one_taken used k x (story_from (suc place) (after 0) ts) alike.0 here refl rest))
    (λ gone. rw gone (one_lost used k x (story_from (suc place) (after (suc k)) ts) alike.0 gone (all_after used (suc place) (suc k) ts alike.1)))

all_first : (used place : ℕ) (ts : List Trip) → Alike used ts
    → flat_map places_all (taken_from place never ts) ≡ flat_map shown_for (to_taken (from_taken (story_from place never ts)))
unfolding story_from those Each flat_map from_taken
all_first used place [] alike = shown_nothing
all_first used place (t ∷ ts) alike =
    let x : Told = record { trip = t; place = place; since = never } in
    split (is_taken x)
    (λ here.
    let rest = none_waits used (story_from (suc place) (after 0) ts) (all_after used (suc place) 0 ts alike.1) in
    rw here
    (none_waits used (x ∷ story_from (suc place) (after 0) ts) (one_taken used 0 x (story_from (suc place) (after 0) ts) alike.0 here refl rest)))
    (λ gone. rw gone (all_first used (suc place) ts alike.1))

-- and all slips together
slips_total : (taken : List Told) → total_of (λ (n : ℕ). n) (map slip_of_lost (map lost_of taken)) ≡ 16 * total_of sixteens taken
unfolding total_of
slips_total [] = refl
slips_total (x ∷ xs) =
    ap (λ (n : ℕ). slip_of_lost (lost_of x) + n) (slips_total xs) ∙ (let sum : 16 * (lost_of x / 16) + 16 * total_of sixteens xs ≡ 16 * (lost_of x / 16 + total_of sixteens xs) = omega arith in sum)

pub slips_exact : SlipsExact 119 3 4294967295 MeetsSend MeetsReceive
unfolding SlipsExact AnyLoss
slips_exact longest-row st sends trips receives with_overhead row these within fair few meets came room counts between =
    let all = whatever longest-row st sends trips receives with_overhead row these within fair few meets came room in
    let shows = any_loss longest-row st sends trips receives with_overhead row these within fair few meets came room in
    let in_a_row = subst (Sending Wrote st) (sym these) (only_written sends st row) in
    let starts = chain_first (Unit {0}) trips st 0 in_a_row (λ c. counts) in
    let reports = reports_are receives (taken_in trips) all.pieces in
    let told : told_of (reports_of receives) ≡ map slip_of_lost (map lost_of (taken_in trips)) = ap told_of reports ∙ started_exact (taken_in trips) starts between in
    record {
      exact = told;
      handed_out =
          in_pieces (told_of (reports_of receives)) (took_in receives)
          ∙ ap₂ put_pieces told all.pieces
          ∙ pieces_all (taken_in trips)
          ∙ all_first (S.used_now st) 0 trips (all_alike st trips in_a_row);
      counted =
          ap (λ (n : ℕ). first_place (taken_in trips) + (left_by (R.open_state st.format st.channels st.order) receives).count + n) (ap (total_of (λ (n : ℕ). n)) told ∙ slips_total (taken_in trips))
          ∙ shows.counted;
      watched =
          λ spaced.
          ap (λ (l : List Report). watched_from no_watch l ++ (0 ∷ [])) reports
          ∙ started_watched (taken_in trips) starts between spaced;
    }
