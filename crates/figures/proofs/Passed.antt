-- Laws of records one behind the other: what was counted so far, and what the rest counts.
-- Assumes nothing.
use mathlib.Core.Bool.{Bool, true, cond}
use mathlib.Core.List.{List, [], ◌∷◌}
use mathlib.Core.Path.{◌≡◌, refl, sym, ◌∙◌, ap}
use Prim.Native.Nat.{ℕ, suc, ◌+◌, ◌*◌, ◌-◌, ◌≤◌}
use native.Mathlib.Nat.{mul-le-mul_right}
use native.Mathlib.Omega.{arith}
use lib.Dec.{eqb}
use lib.ListN.{length, get_or, take, drop, length-drop}
use lib.Seq.{get_or-drop, drop-drop, length-take-le}
use Rattle.runs.proofs.Laws.{split}
use Rattle.formats.specs.Settled.{Settled}
use Rattle.formats.specs.Settings.{settings_of}
use Rattle.receiver.specs.declared.Receiver.{Receiver}
use Rattle.receiver.specs.Receiver.{receive_refusal, after, received_of, judged_of}
use Rattle.receiver.specs.Unpacking.{used_in}
use Rattle.reading.specs.Heard.{Heard, heard_by, end_by, hear, onward, heard_from, end_of}
use Rattle.reading.specs.Records.{Whole, is_whole, front_of, walk_within}
use Rattle.reading.proofs.Records.{whole_facts, front_is}
use Rattle.pieces.proofs.Stretches.{wholes, walk_one, wholes_front, wholes_stop}
use Rattle.figures.specs.declared.Counts.{Counts}
use Rattle.figures.specs.declared.Noted.{Noted}
use Rattle.figures.specs.declared.told.Told.{Told}
use Rattle.figures.specs.Code.{no_counts, one_of, Under}
use Rattle.figures.specs.Figures.{counts_of, plus_of}
use Rattle.figures.specs.Stretch.{told_of, marks_in, taken_one, refused_one, noted_past, records_at, noted_over}
use Rattle.figures.proofs.Laws.{same_counts, counts_none, counts_front, plus_none, none_more, plus_in_turn, under_first}
use Rattle.figures.proofs.Cells.{told_state, refused_one_lem, taken_one_lem, one_under}

still : (n : ℕ) → n ≡ n + 0
still n = omega arith

-- with a cell more
pub refused_more : (c : Counts) (refusal : ℕ) {a b d e : ℕ} → a ≡ cond (eqb refusal 8) 1 0 → b ≡ cond (eqb refusal 9) 1 0
    → d ≡ cond (eqb refusal 15) 1 0 → e ≡ cond (eqb refusal 20) 1 0
    → record {
      sound = c.sound;
      missing = c.missing;
      refused_8 = c.refused_8 + a;
      refused_9 = c.refused_9 + b;
      refused_15 = c.refused_15 + d;
      refused_20 = c.refused_20 + e;
      marked_0 = c.marked_0;
      marked_1 = c.marked_1;
      marked_2 = c.marked_2;
    }
    ≡ plus_of c (refused_one refusal)
refused_more c refusal ea eb ed ee =
    same_counts {b = plus_of c (refused_one refusal)} (still _) (still _) (ap (λ (n : ℕ). c.refused_8 + n) ea)
    (ap (λ (n : ℕ). c.refused_9 + n) eb) (ap (λ (n : ℕ). c.refused_15 + n) ed) (ap (λ (n : ℕ). c.refused_20 + n) ee)
    (still _) (still _) (still _)

pub taken_more : (c : Counts) (used missing ones : ℕ)
    → record {
      sound = c.sound + 1;
      missing = c.missing + missing;
      refused_8 = c.refused_8;
      refused_9 = c.refused_9;
      refused_15 = c.refused_15;
      refused_20 = c.refused_20;
      marked_0 = c.marked_0 + (used - ones);
      marked_1 = c.marked_1 + ones;
      marked_2 = c.marked_2 + missing * used;
    }
    ≡ plus_of c (taken_one used missing ones)
taken_more c used missing ones =
    same_counts {b = plus_of c (taken_one used missing ones)} refl refl (still _) (still _) (still _) (still _) refl refl refl

-- products that stay small
pub gap_few : (missing used : ℕ) → missing ≤ 255 → used ≤ 48 → missing * used ≤ 12240
gap_few missing used few small = let most : missing * used ≤ 255 * used = mul-le-mul_right used few in omega (arith, most)

pub all_few : (records used : ℕ) → records ≤ 512 → used ≤ 48 → records * used ≤ 24576
all_few records used few small = let most : records * used ≤ 512 * used = mul-le-mul_right used few in omega (arith, most)

-- the record at a place
module _ (octets : List ℕ) (at : ℕ) (here : is_whole (drop at octets) ≡ true) where
  pub record_fits : at + 49 ≤ length octets
  record_fits = omega (arith, (whole_facts (drop at octets) here).0, length-drop at octets)

  first : get_or (drop at octets) 0 0 ≡ get_or octets at 0
  first = let none : at + 0 ≡ at = omega arith in get_or-drop at octets 0 0 ∙ ap (λ (k : ℕ). get_or octets k 0) none

  pub record_here : front_of (drop at octets)
      ≡ record { indication = eqb (get_or octets at 0) 1; cell = take (at + 49 - (at + 1)) (drop (at + 1) octets) }
  record_here =
      let size : 48 ≡ at + 49 - (at + 1) = omega arith in
      front_is (drop at octets) (whole_facts (drop at octets) here).0 (whole_facts (drop at octets) here).1
      ∙ (λ i. record { indication = eqb (first i) 1; cell = take (size i) (drop-drop 1 at octets i) })

  pub record_size : length (take (at + 49 - (at + 1)) (drop (at + 1) octets)) ≡ 48
  record_size =
      let size : at + 49 - (at + 1) ≡ 48 = omega arith in
      ap (λ (n : ℕ). length (take n (drop (at + 1) octets))) size
      ∙ length-take-le 48 (drop (at + 1) octets) (omega (arith, record_fits, length-drop (at + 1) octets))

-- past it
module _ (n : Noted) {w : Whole} {cell : List ℕ} {indication : Bool} {told : Told}
    (w-is : w ≡ record { indication = indication; cell = cell }) (is : told ≡ told_of (judged_of n.state cell indication))
  where
    abbrev arrived : Whole
    arrived = record { indication = indication; cell = cell }

    past_one : {counts one : Counts} → counts ≡ plus_of n.counts one → one ≡ one_of (hear n.state arrived)
        → record { state = told.state; counts = counts } ≡ noted_past n w
    past_one added one-is =
        (λ i. record {
          state = told_state n.state cell indication is i;
          counts = (added ∙ ap (plus_of n.counts) one-is) i;
        })
        ∙ ap (noted_past n) (sym w-is)

    pub past_refused : {counts : Counts} → (told.refusal ≡ 0 → ⊥) → counts ≡ plus_of n.counts (refused_one told.refusal)
        → record { state = told.state; counts = counts } ≡ noted_past n w
    past_refused some added = past_one added (refused_one_lem n.state cell indication is some)

    pub past_taken : {set : Settled} → set ≡ settings_of n.state.format n.state.channels n.state.order
        → told.refusal ≡ 0 → {ones : ℕ} {counts : Counts} → ones ≡ marks_in set.format cell (used_in set)
        → counts ≡ plus_of n.counts (taken_one (used_in set) told.missing ones)
        → record { state = told.state; counts = counts } ≡ noted_past n w
    past_taken settles taken ones_are added =
        past_one added (taken_one_lem n.state cell indication is taken settles ones_are)

-- what records count has a bound
under_both : (a b : Counts) (m k : ℕ) → Under m a → Under k b → Under (m + k) (plus_of a b)
under_both a b m k s t =
    record {
      sound = omega (arith, s.sound, t.sound);
      missing = omega (arith, s.missing, t.missing);
      refused8 = omega (arith, s.refused8, t.refused8);
      refused9 = omega (arith, s.refused9, t.refused9);
      refused15 = omega (arith, s.refused15, t.refused15);
      refused20 = omega (arith, s.refused20, t.refused20);
      marked0 = omega (arith, s.marked0, t.marked0);
      marked1 = omega (arith, s.marked1, t.marked1);
      marked2 = omega (arith, s.marked2, t.marked2);
    }

under_far : {m k : ℕ} (c : Counts) → m ≤ k → Under m c → Under k c
under_far c further s =
    record {
      sound = omega (arith, s.sound);
      missing = omega (arith, s.missing);
      refused8 = omega (arith, s.refused8);
      refused9 = omega (arith, s.refused9);
      refused15 = omega (arith, s.refused15);
      refused20 = omega (arith, s.refused20);
      marked0 = omega (arith, s.marked0);
      marked1 = omega (arith, s.marked1);
      marked2 = omega (arith, s.marked2);
    }

none_under : Under 0 no_counts
none_under =
    record {
      sound = omega arith;
      missing = omega arith;
      refused8 = omega arith;
      refused9 = omega arith;
      refused15 = omega arith;
      refused20 = omega arith;
      marked0 = omega arith;
      marked1 = omega arith;
      marked2 = omega arith;
    }

counts_under : (st : Receiver) (ws : List Whole) → Under (720 * length ws) (counts_of (heard_from st ws))
unfolding heard_by
counts_under st [] = rw counts_none (under_far no_counts (omega arith) none_under)
counts_under st (w ∷ ws) =
    let h : Heard = hear st w in
    let both = under_both (one_of h) (counts_of (heard_from (onward h) ws)) 720 (720 * length ws) (one_under st w)
    (counts_under (onward h) ws) in
    rw (counts_front h (heard_from (onward h) ws)) (under_far _ (omega arith) both)

-- what is counted, and records still to come
abbrev noted_from : Noted → List Whole → Noted
noted_from n ws =
    record { state = end_of n.state (heard_from n.state ws); counts = plus_of n.counts (counts_of (heard_from n.state ws)) }

noted_front : (n : Noted) (w : Whole) (ws : List Whole) → noted_from n (w ∷ ws) ≡ noted_from (noted_past n w) ws
unfolding heard_by end_by
noted_front n w ws =
    let h : Heard = hear n.state w in
    let rest : List Heard = heard_from (onward h) ws in
    λ i. record {
      state = end_of (onward h) rest;
      counts = (ap (plus_of n.counts) (counts_front h rest) ∙ sym (plus_in_turn n.counts (one_of h) (counts_of rest))) i;
    }

noted_none : (n : Noted) → noted_from n [] ≡ n
unfolding heard_by end_by
noted_none n i = record { state = n.state; counts = (ap (plus_of n.counts) counts_none ∙ none_more n.counts) i }

noted_start : (st : Receiver) (ws : List Whole) → noted_from (record { state = st; counts = no_counts }) ws ≡ noted_over st ws
noted_start st ws i = record { state = end_of st (heard_from st ws); counts = plus_none (counts_of (heard_from st ws)) i }

-- the settings stay
module _ (st : Receiver) (w : Whole) where
  settings_stay : ((onward (hear st w)).format ≡ st.format) × ((onward (hear st w)).channels ≡ st.channels)
      × ((onward (hear st w)).order ≡ st.order)
  unfolding hear judged_of received_of after
  settings_stay =
      split (eqb (receive_refusal st w.cell w.indication 720 720 720) 0)
      (λ e. rw e (refl, refl, refl))
      (λ e. rw e (refl, refl, refl))

  settles_on : {set : Settled} → set ≡ settings_of st.format st.channels st.order
      → set ≡ settings_of (onward (hear st w)).format (onward (hear st w)).channels (onward (hear st w)).order
  settles_on settles = settles ∙ (λ i. settings_of (sym settings_stay.0 i) (sym settings_stay.1 i) (sym settings_stay.2 i))

records_front : (octets : List ℕ) (at k : ℕ) → is_whole (drop at octets) ≡ true
    → records_at octets at (suc k) ≡ front_of (drop at octets) ∷ records_at octets (at + 49) k
records_front octets at k here =
    walk_one k (drop at octets) here
    ∙ ap (λ (l : List ℕ). front_of (drop at octets) ∷ (walk_within k l).records) (drop-drop 49 at octets)

-- along the records
pub record Walking (set : Settled) (st : Receiver) (octets : List ℕ) (place n : ℕ) (noted : Noted) (at left : ℕ) : Type 0 where
  pub all_whole : wholes left (drop at octets) ≡ left
  pub settles : set ≡ settings_of noted.state.format noted.state.channels noted.state.order
  pub rest : noted_from noted (records_at octets at left) ≡ noted_over st (records_at octets place n)

module _ {set : Settled} {st : Receiver} {octets : List ℕ} {place n : ℕ} where
  pub walking_start : {counts : Counts} → set ≡ settings_of st.format st.channels st.order
      → length (records_at octets place n) ≡ n → counts ≡ no_counts
      → Walking set st octets place n (record { state = st; counts = counts }) place n
  walking_start {counts} settles these none =
      record {
        all_whole = these;
        settles = settles;
        rest = ap (λ (c : Counts). noted_from (record { state = st; counts = c }) (records_at octets place n)) none
            ∙ noted_start st (records_at octets place n);
      }

  module _ {noted : Noted} {at left : ℕ} (g : Walking set st octets place n noted at left) where
    pub walking_few : length (records_at octets place n) ≡ n → n ≤ 512 → Under 1000000 noted.counts
    walking_few these few =
        let total : Counts = counts_of (heard_from st (records_at octets place n)) in
        let all : Under 1000000 total = under_far total (omega (arith, these)) (counts_under st (records_at octets place n)) in
        under_first noted.counts (counts_of (heard_from noted.state (records_at octets at left)))
        (rw (ap (λ (m : Noted). m.counts) g.rest) all)

    pub walking_end : left ≡ 0 → noted ≡ noted_over st (records_at octets place n)
    unfolding walk_within
    walking_end none =
        sym (noted_none noted) ∙ ap (λ (k : ℕ). noted_from noted (records_at octets at k)) (sym none) ∙ g.rest

    module _ (some : left ≡ 0 → ⊥) where
      more : left ≡ suc (left - 1)
      more = omega (arith, some)

      pub walking_here : is_whole (drop at octets) ≡ true
      walking_here =
          split (is_whole (drop at octets))
          (λ e. e)
          (λ e. absurd (some (sym g.all_whole ∙ wholes_stop left (drop at octets) e)))

      front : records_at octets at left ≡ front_of (drop at octets) ∷ records_at octets (at + 49) (left - 1)
      front = ap (records_at octets at) more ∙ records_front octets at (left - 1) walking_here

      pub walking_turn : {next : Noted} → next ≡ noted_past noted (front_of (drop at octets))
          → Walking set st octets place n next (at + 49) (left - 1)
      walking_turn {next} is =
          let w : Whole = front_of (drop at octets) in
          let counted : suc (wholes (left - 1) (drop (at + 49) octets)) ≡ suc (left - 1) =
          ap (λ (l : List ℕ). suc (wholes (left - 1) l)) (sym (drop-drop 49 at octets))
          ∙ sym (wholes_front (left - 1) (drop at octets) walking_here)
          ∙ ap (λ (k : ℕ). wholes k (drop at octets)) (sym more)
          ∙ g.all_whole
          ∙ more in
          record {
            all_whole = omega (arith, counted);
            settles = settles_on noted.state w g.settles
                ∙ ap (λ (m : Noted). settings_of m.state.format m.state.channels m.state.order) (sym is);
            rest = ap (λ (m : Noted). noted_from m (records_at octets (at + 49) (left - 1))) is
                ∙ sym (noted_front noted w (records_at octets (at + 49) (left - 1)))
                ∙ ap (noted_from noted) (sym front)
                ∙ g.rest;
          }
