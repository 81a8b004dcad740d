-- Demand 3 is the case of rows of at most fourteen lost cells: each unaltered cell is taken, and all that were lost before it are
-- shown.
-- Assumes nothing.
use mathlib.Core.Bool.{Bool, true, false, true≢false, cond}
use mathlib.Core.List.{List, [], ◌∷◌, ◌++◌, map, flat_map, append_assoc}
use mathlib.Core.Path.{◌≡◌, refl, sym, ◌∙◌, ap, ap₂, subst}
use Prim.Native.Nat.{ℕ, suc, ◌+◌, ◌*◌, ◌%◌, ◌≤◌, max}
use native.Mathlib.Nat.{le_refl, le_trans, le-suc, mod-eq_of_lt, suc-mul, zero-mul}
use native.Mathlib.Omega.{arith}
use borrow.Author.Tests.{ne_eqb}
use lib.ListN.{length, replicate, replicate-append-replicate}
use Rattle.runs.proofs.Laws.{split, both_true}
use Rattle.sender.specs.declared.Sender.{Sender}
use Rattle.sender.specs.Sender as S
use Rattle.receiver.specs.declared.Receiver.{Receiver}
use Rattle.receiver.specs.Receiver as R
use Rattle.reading.specs.Totals.{total_of, those, Each}
use Rattle.line.specs.Calls.{MeetsSend, ReceiveCall, MeetsReceive}
use Rattle.line.specs.Line.{
  Row,
  Sending,
  Fate,
  dropped,
  spoiled,
  unaltered,
  is_lost,
  Trip,
  longest,
  Place,
  places_of,
  from_first,
  all_lost,
  to_last,
  OverTheLine,
  ComesOut,
  refusals,
  refusals_of,
}
use Rattle.line.specs.Losses.{
  Since,
  never,
  after,
  lost_since,
  one_more,
  comes_round,
  story_from,
  taken_from,
  places_with,
  refusals_at,
  refusals_with,
}
use Rattle.line.proofs.Cells.{next_state}
use Rattle.line.proofs.Rows.{Comes, cells_with, Wrote, only_written, comes}
use Rattle.line.proofs.Steps.{missing}

-- at most `row` lost cells stand before each unaltered one that is not the first
unfoldable pub Between : ℕ → Since → List Trip → Type 0
Between row since [] = Unit {0}
Between row since (t ∷ ts) =
    (is_lost t.fate ≡ true → Between row (one_more since) ts)
    × (is_lost t.fate ≡ false → (lost_since since ≤ row) × Between row (after 0) ts)

-- all cells of a row have as many places
abbrev pub Alike : ℕ → List Trip → Type 0
Alike used ts = Each (λ t. S.used_now t.sent.state ≡ used) ts

pub all_alike : (st : Sender) (ts : List Trip) → Sending Wrote st (map (λ t. t.sent) ts) → Alike (S.used_now st) ts
unfolding Row Each S.after
all_alike st [] row = tt
all_alike st (t ∷ ts) row =
    let same : S.used_now t.sent.state ≡ S.used_now st = ap S.used_now row.0 in
    let next : S.used_now t.sent.answer.state ≡ S.used_now st
    = ap S.used_now (next_state t.sent row.1.0 row.1.1) ∙ same in
    (same, subst (λ (n : ℕ). Alike n ts) next (all_alike t.sent.answer.state ts row.2))

-- no unaltered one comes round, and all lost ones are shown
not_round : (since : Since) → lost_since since ≤ 14 → comes_round since ≡ false
not_round never few = refl
not_round (after k) few =
    let low : k % 16 ≡ k = mod-eq_of_lt (omega arith) in ne_eqb (k % 16) 15 (λ e. absurd (omega (arith, low, e)))

all_shown : {k : ℕ} → k ≤ 14 → k % 16 ≡ k
all_shown few = mod-eq_of_lt (omega arith)

none_to_last : (ts : List Trip) → all_lost ts ≡ true → to_last ts ≡ []
unfolding all_lost to_last
none_to_last [] e = refl
none_to_last (t ∷ ts) e = rw e

none_waits : {l : List Place} (used : ℕ) (ts : List Trip)
    → l ≡ cond (all_lost ts) [] (replicate (0 * used) missing ++ flat_map places_of (to_last ts)) → l ≡ flat_map places_of (to_last ts)
unfolding flat_map
none_waits used ts e =
    split (all_lost ts) (λ all. e ∙ rw (all, none_to_last ts all)) (λ some. e ∙ rw (some, zero-mul used))

lost_places : (used : ℕ) (t : Trip) → S.used_now t.sent.state ≡ used → is_lost t.fate ≡ true
    → places_of t ≡ replicate used missing
unfolding places_of
lost_places used t alike lost = rw (lost, alike)

-- the places of lost cells are shown where an unaltered cell follows
shown_after : (used place k : ℕ) (ts : List Trip) → Alike used ts → Between 14 (after k) ts
    → flat_map places_with (taken_from place (after k) ts)
    ≡ cond (all_lost ts) [] (replicate (k * used) missing ++ flat_map places_of (to_last ts))
unfolding story_from those Each Between all_lost to_last flat_map
shown_after used place k [] alike between = refl
shown_after used place k (t ∷ ts) alike between =
    split (is_lost t.fate)
    (λ lost.
    let on = shown_after used (suc place) (suc k) ts alike.1 (between.0 lost) in
    split (all_lost ts)
    (λ all. rw (lost, all) (on ∙ rw all))
    (λ some.
    let more : replicate (suc k * used) missing ≡ replicate (k * used) missing ++ places_of t
    = ap (λ (n : ℕ). replicate n missing) (suc-mul k used)
    ∙ sym (replicate-append-replicate (k * used) used missing)
    ∙ ap (λ (l : List Place). replicate (k * used) missing ++ l) (sym (lost_places used t alike.0 lost)) in
    rw (lost, some)
    (on
    ∙ rw some
    (ap (λ (l : List Place). l ++ flat_map places_of (to_last ts)) more
    ∙ append_assoc (replicate (k * used) missing) (places_of t) (flat_map places_of (to_last ts))))))
    (λ here.
    let few = between.1 here in
    let rest = none_waits used ts (shown_after used (suc place) 0 ts alike.1 few.1) in
    let front : replicate (k % 16 * S.used_now t.sent.state) missing ≡ replicate (k * used) missing
    = ap₂ (λ (a b : ℕ). replicate (a * b) missing) (all_shown few.0) alike.0 in
    rw (here, not_round (after k) few.0)
    (ap₂ (λ (x y : List Place). (x ++ places_of t) ++ y) front rest
    ∙ append_assoc (replicate (k * used) missing) (places_of t) (flat_map places_of (to_last ts))))

shown_places : (used place : ℕ) (ts : List Trip) → Alike used ts → Between 14 never ts
    → flat_map places_with (taken_from place never ts) ≡ flat_map places_of (to_last (from_first ts))
unfolding story_from those Each Between from_first all_lost to_last flat_map
shown_places used place [] alike between = refl
shown_places used place (t ∷ ts) alike between =
    split (is_lost t.fate)
    (λ lost. rw lost (shown_places used (suc place) ts alike.1 (between.0 lost)))
    (λ here.
    let rest = none_waits used ts (shown_after used (suc place) 0 ts alike.1 (between.1 here).1) in
    let front : replicate (0 * S.used_now t.sent.state) missing ≡ []
    = ap (λ (n : ℕ). replicate n missing) (zero-mul (S.used_now t.sent.state)) in
    rw (here, here) (ap₂ (λ (x y : List Place). (x ++ places_of t) ++ y) front rest))

-- the count is how many cells there are from the first unaltered one to the last
count_past : (ts : List Trip) → cond (all_lost ts) 0 (0 + length (to_last ts)) ≡ length (to_last ts)
count_past ts =
    split (all_lost ts)
    (λ all. rw (all, none_to_last ts all))
    (λ some. rw some (let same : 0 + length (to_last ts) ≡ length (to_last ts) = omega arith in same))

count_after_lem : (place k : ℕ) (ts : List Trip) → Between 14 (after k) ts
    → total_of cells_with (taken_from place (after k) ts) ≡ cond (all_lost ts) 0 (k + length (to_last ts))
unfolding story_from those total_of Between all_lost to_last
count_after_lem place k [] between = refl
count_after_lem place k (t ∷ ts) between =
    split (is_lost t.fate)
    (λ lost.
    let on = count_after_lem (suc place) (suc k) ts (between.0 lost) in
    split (all_lost ts)
    (λ all. rw (lost, all) (on ∙ rw all))
    (λ some.
    let next : suc k + length (to_last ts) ≡ k + suc (length (to_last ts)) = omega arith in
    rw (lost, some) (on ∙ rw some next)))
    (λ here.
    let few = between.1 here in
    let rest : total_of cells_with (taken_from (suc place) (after 0) ts) ≡ length (to_last ts)
    = count_after_lem (suc place) 0 ts few.1 ∙ count_past ts in
    let next : suc k + length (to_last ts) ≡ k + suc (length (to_last ts)) = omega arith in
    rw (here, not_round (after k) few.0) (ap₂ (λ (a b : ℕ). suc a + b) (all_shown few.0) rest ∙ next))

count_places : (place : ℕ) (ts : List Trip) → Between 14 never ts
    → total_of cells_with (taken_from place never ts) ≡ length (to_last (from_first ts))
unfolding story_from those total_of Between from_first to_last all_lost
count_places place [] between = refl
count_places place (t ∷ ts) between =
    split (is_lost t.fate)
    (λ lost. rw lost (count_places (suc place) ts (between.0 lost)))
    (λ here.
    let rest : total_of cells_with (taken_from (suc place) (after 0) ts) ≡ length (to_last ts)
    = count_after_lem (suc place) 0 ts (between.1 here).1 ∙ count_past ts in
    let next : 1 + length (to_last ts) ≡ suc (length (to_last ts)) = omega arith in
    rw (here, here) (ap (λ (n : ℕ). 1 + n) rest ∙ next))

-- each cell's deliveries get the refusals that demand 3 has
as_ever : (fate : Fate) → refusals_at false fate ≡ refusals_of fate
as_ever dropped = refl
as_ever (spoiled came indication again) = refl
as_ever (unaltered again) = refl

as_lost : (round : Bool) (fate : Fate) → is_lost fate ≡ true → refusals_at round fate ≡ refusals_of fate
as_lost round dropped e = refl
as_lost round (spoiled came indication again) e = refl
as_lost round (unaltered again) e = absurd (true≢false (sym e))

refused_as_ever : (place : ℕ) (since : Since) (ts : List Trip) → Between 14 since ts
    → flat_map refusals_with (story_from place since ts) ≡ flat_map (λ t. refusals_of t.fate) ts
unfolding story_from Between flat_map
refused_as_ever place since [] between = refl
refused_as_ever place since (t ∷ ts) between =
    split (is_lost t.fate)
    (λ lost.
    rw lost
    (ap₂ (λ (x y : List ℕ). x ++ y) (as_lost (comes_round since) t.fate lost)
    (refused_as_ever (suc place) (one_more since) ts (between.0 lost))))
    (λ here.
    let few = between.1 here in
    let turns = not_round since few.0 in
    rw (here, turns)
    (ap₂ (λ (x y : List ℕ). x ++ y) (as_ever t.fate) (refused_as_ever (suc place) (after 0) ts few.1)))

-- the longest row of lost cells bounds the rows between unaltered ones
all_between : (row : ℕ) (since : Since) (ts : List Trip) → all_lost ts ≡ true → Between row since ts
unfolding all_lost Between
all_between row since [] e = tt
all_between row since (t ∷ ts) e =
    let both = both_true (is_lost t.fate) (all_lost ts) e in
    (λ lost. all_between row (one_more since) ts both.1, λ here. absurd (true≢false (sym both.0 ∙ here)))

between_after : (row k : ℕ) (ts : List Trip) → longest k (to_last ts) ≤ row → Between row (after k) ts
unfolding longest to_last all_lost Between
between_after row k [] h = tt
between_after row k (t ∷ ts) h = (
  λ lost.
      split (all_lost ts)
      (λ all. all_between row _ ts all)
      (λ some. between_after row (suc k) ts (rw (lost, some, lost) at h)),
  λ here.
      let most : max k (longest 0 (to_last ts)) ≤ row = rw (here, here) at h in
      (omega arith, between_after row 0 ts (omega arith)),
)

between : (row : ℕ) (ts : List Trip) → longest 0 (to_last (from_first ts)) ≤ row → Between row never ts
unfolding longest from_first to_last all_lost Between
between row [] h = tt
between row (t ∷ ts) h = (
  λ lost. between row ts (rw lost at h),
  λ here.
      let most : max 0 (longest 0 (to_last ts)) ≤ row = rw (here, here, here) at h in
      (omega arith, between_after row 0 ts (omega arith)),
)

-- less is lost in a row where some is left out at both ends
longest_from : (k : ℕ) (ts : List Trip) → k ≤ longest k ts
unfolding longest
longest_from k [] = le_refl k
longest_from k (t ∷ ts) =
    split (is_lost t.fate) (λ lost. rw lost (le_trans (le-suc k) (longest_from (suc k) ts))) (λ here. rw here (omega arith))

longest_more : (k : ℕ) (ts : List Trip) → longest k ts ≤ longest (suc k) ts
unfolding longest
longest_more k [] = le-suc k
longest_more k (t ∷ ts) =
    split (is_lost t.fate) (λ lost. rw lost (longest_more (suc k) ts)) (λ here. rw here (omega arith))

longest_to_last : (k : ℕ) (ts : List Trip) → longest k (to_last ts) ≤ longest k ts
unfolding longest to_last all_lost
longest_to_last k [] = le_refl k
longest_to_last k (t ∷ ts) =
    split (is_lost t.fate)
    (λ lost.
    split (all_lost ts)
    (λ all. rw (lost, all) (le_trans (le-suc k) (longest_from (suc k) ts)))
    (λ some. rw (lost, some, lost) (longest_to_last (suc k) ts)))
    (λ here. let less = longest_to_last 0 ts in rw (here, here) (omega arith))

longest_from_first : (ts : List Trip) → longest 0 (from_first ts) ≤ longest 0 ts
unfolding longest from_first
longest_from_first [] = le_refl 0
longest_from_first (t ∷ ts) =
    split (is_lost t.fate)
    (λ lost. rw lost (le_trans (longest_from_first ts) (longest_more 0 ts)))
    (λ here. rw (here, here) (le_refl _))

pub longest_inside : (ts : List Trip) → longest 0 (to_last (from_first ts)) ≤ longest 0 ts
longest_inside ts = le_trans (longest_to_last 0 (from_first ts)) (longest_from_first ts)

-- What the calls come to, whatever is lost.
pub whatever : (longest-row : ℕ) → OverTheLine 3 longest-row 4294967295 MeetsSend MeetsReceive
    (λ fresh trips receives. Comes fresh 0 never trips receives)
whatever longest-row st sends trips receives with_overhead row these within fair few meets came room =
    let bound : 0 + 0 + length trips ≤ 4294967295 = omega arith in
    comes trips st (R.open_state st.format st.channels st.order) 0 never receives
    (subst (Sending Wrote st) (sym these) (only_written sends st row)) fair
    (record {
      with_overhead = with_overhead;
      same = record { format = refl; channels = refl; order = refl };
      stands = (refl, refl, refl);
    })
    bound (record { meets = meets; these = came; room = room })

-- What they come to, and a little more than demand 3 asks: cells lost before the first unaltered one and after the last may be
-- more than fourteen.
pub record Inside (fresh : Receiver) (trips : List Trip) (receives : List ReceiveCall) : Type 0 where
  pub comes_out : ComesOut fresh trips receives
  pub refused_so : refusals receives ≡ flat_map (λ t. refusals_of t.fate) trips

pub demand_3_inside : (longest-row : ℕ) → OverTheLine 3 longest-row 4294967295 MeetsSend MeetsReceive
    (λ fresh trips receives. longest 0 (to_last (from_first trips)) ≤ 14 → Inside fresh trips receives)
demand_3_inside longest-row st sends trips receives with_overhead row these within fair few meets came room inside =
    let bounded = between 14 trips inside in
    let all = whatever longest-row st sends trips receives with_overhead row these within fair few meets came room in
    let in_a_row = subst (Sending Wrote st) (sym these) (only_written sends st row) in
    let none : 0 + total_of cells_with (taken_from 0 never trips) ≡ total_of cells_with (taken_from 0 never trips) = omega arith in
    record {
      comes_out =
          record {
            handed_out = all.hands ∙ shown_places (S.used_now st) 0 trips (all_alike st trips in_a_row) bounded;
            counted = all.counts ∙ none ∙ count_places 0 trips bounded;
          };
      refused_so = all.answers ∙ refused_as_ever 0 never trips bounded;
    }
