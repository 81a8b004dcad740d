-- What second numbers tell, of any sender and of one that counts blocks, over the line: the cells that are taken follow each other as
-- the laws of crate `slips` ask.
-- Assumes nothing.
use mathlib.Core.Bool.{Bool, true, false, true≢false, cond, not, ◌&&◌, ◌||◌}
use mathlib.Core.List.{List, [], ◌∷◌, map}
use mathlib.Core.Path.{◌≡◌, refl, sym, ◌∙◌, ap, subst}
use Prim.Native.Nat.{ℕ, suc, ◌+◌, ◌*◌, ◌%◌, ◌≤◌, ◌<◌}
use native.Mathlib.Nat.{mul-le-mul_right}
use native.Mathlib.Omega.{arith}
use borrow.Author.Tests.{eqb-true, eqb-false, ltb-true}
use lib.Dec.{eqb, ltb}
use Rattle.runs.proofs.Laws.{split, past, past_both, neither}
use Rattle.numbers.specs.Numbers.{indication_refused}
use Rattle.sender.specs.declared.Sender.{Sender}
use Rattle.sender.specs.Sender as S
use Rattle.reading.specs.Totals.{those, Each}
use Rattle.slips.specs.Slips.{starts_of}
use Rattle.slips.specs.Reports.{Report}
use Rattle.slips.proofs.Rows.{Follow, Chain}
use Rattle.slips.proofs.Watched.{First}
use Rattle.line.specs.Calls.{SendCall}
use Rattle.line.specs.Line.{Row, Sending, is_lost, Trip}
use Rattle.line.specs.Losses.{never, after, lost_since, comes_round, Told, story_from, taken_from}
use Rattle.line.specs.Seconds.{CountsBlocks}
use Rattle.line.proofs.Cells.{sent_refusal, state_passes, rightly_indicated, next_state, second_small, fits}
use Rattle.line.proofs.Pieces.{second_told, report_with}
use Rattle.line.proofs.Rows.{Wrote}

-- how often the second number goes up in a cell
abbrev up_now : Sender → Bool → ℕ
up_now st i = cond (st.wanted && (i && st.sent)) 1 0

-- and as it is reported
abbrev raised : Sender → Bool → ℕ
raised st i = second_told st (up_now st i)

-- arithmetic of block starts
starts_more : (n k : ℕ) → starts_of n k + 0 ≤ starts_of n (suc k)
unfolding starts_of
starts_more n k = omega arith

starts_one : (n k m : ℕ) → m ≡ (n + suc k) % 16 → m % 8 ≡ 0 → starts_of n k + 1 ≡ starts_of n (suc k)
unfolding starts_of
starts_one n k m e z = omega arith

starts_none : (n k m : ℕ) → m ≡ (n + suc k) % 16 → (m % 8 ≡ 0 → ⊥) → starts_of n k + 0 ≡ starts_of n (suc k)
unfolding starts_of
starts_none n k m e some = omega arith

starts_zero : (n : ℕ) → 0 ≡ starts_of n 0
unfolding starts_of
starts_zero n = omega arith

second_sum : (a ups up : ℕ) → ((a + ups) % 16 + up) % 16 ≡ (a + (ups + up)) % 16
second_sum a ups up = omega arith

number_on_lem : (m n k : ℕ) → m ≡ (n + suc k) % 16 → (m + 1) % 16 ≡ (n + suc (suc k)) % 16
number_on_lem m n k e = omega arith

small_stays : (n : ℕ) → n ≤ 15 → n ≡ (n + 0) % 16
small_stays n few = omega arith

next_one : (m : ℕ) → m ≤ 15 → (m + 1) % 16 ≡ (m + suc 0) % 16
next_one m few = omega arith

-- formats of fewer than twelve slots have eight
eight_slots : (slots width : ℕ) → slots * width ≡ 48 → 8 ≤ slots → slots < 12 → width ≤ 6 → slots ≡ 8
eight_slots slots width e from few to =
    split (eqb width 6)
    (λ t. let six : width ≡ 6 = eqb-true width 6 t in let f : slots * 6 ≡ 48 = ap (λ (w : ℕ). slots * w) (sym six) ∙ e in omega (arith, f))
    (λ g.
    split (eqb width 5)
    (λ t. let five : width ≡ 5 = eqb-true width 5 t in let f : slots * 5 ≡ 48 = ap (λ (w : ℕ). slots * w) (sym five) ∙ e in omega (arith, f))
    (λ h.
    let other : width ≡ 6 → ⊥ = eqb-false width 6 g in
    let another : width ≡ 5 → ⊥ = eqb-false width 5 h in
    let most : slots ≤ 11 = omega arith in
    let less = mul-le-mul_right width most in
    omega (arith, less, e, other, another)))

-- a call that wrote a cell
module _ (s : SendCall) (wrote : Wrote s) where
  abbrev st : Sender
  st = s.state

  abbrev i : Bool
  i = s.indication

  second_to_15 : S.second_now st i ≤ 15
  second_to_15 = let small = second_small s wrote.0 wrote.1 in omega (arith, small)

  told_to_15 : second_told st (S.second_now st i) ≤ 15
  told_to_15 =
      split (ltb (S.format_now st).slots 12) (λ t. rw t (omega arith)) (λ f. rw f second_to_15)

  -- second numbers wanted are reported
  carries : st.wanted ≡ true → ltb (S.format_now st).slots 12 ≡ false
  unfolding S.send_refusal S.state_refusal S.numbers_refused
  carries wanted =
      let none = sym (sent_refusal s wrote.0) ∙ wrote.1 in
      let fourth = (past_both _ _ (past_both (S.state_refusal st) _ none).0).1 in
      let numbers = (past (S.numbers_refused st) 3 0 fourth).0 in
      let wants : Bool
      = cond st.wanted (eqb (S.format_now st).overhead_bits 0 || eqb (S.format_now st).slots 8) (not (eqb st.second 0)) in
      let third : wants ≡ false = (neither (ltb 15 st.second) wants (neither (ltb 15 st.number) (ltb 15 st.second || wants) numbers).1).1 in
      let either : eqb (S.format_now st).overhead_bits 0 || eqb (S.format_now st).slots 8 ≡ false
      = subst (λ (w : Bool). cond w (eqb (S.format_now st).overhead_bits 0 || eqb (S.format_now st).slots 8) (not (eqb st.second 0)) ≡ false)
      wanted third in
      let eight : eqb (S.format_now st).slots 8 ≡ false = (neither (eqb (S.format_now st).overhead_bits 0) (eqb (S.format_now st).slots 8) either).1 in
      let sound = (fits s wrote.0 wrote.1).limits.sound in
      split (ltb (S.format_now st).slots 12)
      (λ t.
      absurd (eqb-false _ _ eight
      (eight_slots (S.format_now st).slots (S.format_now st).width sound.cell sound.slots_from (ltb-true _ _ t) sound.width_to)))
      (λ f. f)

  second_next : second_told st (S.second_now st i) ≡ (second_told st st.second + raised st i) % 16
  unfolding S.second_now
  second_next =
      split (ltb (S.format_now st).slots 12)
      (λ t. rw t refl)
      (λ f.
      rw f
      (split (st.wanted && (i && st.sent))
      (λ t. rw t refl)
      (λ g. rw g (small_stays st.second (state_passes s wrote.0 wrote.1).second_to))))

  indicated : i ≡ true → st.number % 8 ≡ 0
  unfolding indication_refused
  indicated yes-it =
      let e = rw yes-it at (rightly_indicated s wrote.0 wrote.1) in
      split (eqb (st.number % 8) 0) (λ t. eqb-true _ 0 t) (λ f. absurd (true≢false (sym (ap not f) ∙ e)))

  raised_few : (n k : ℕ) → st.number ≡ (n + suc k) % 16 → starts_of n k + raised st i ≤ starts_of n (suc k)
  raised_few n k e =
      split (ltb (S.format_now st).slots 12)
      (λ t. rw t (starts_more n k))
      (λ f.
      rw f
      (split (st.wanted && (i && st.sent))
      (λ t.
      let one = starts_one n k st.number e (indicated (of_both st.wanted i st.sent t)) in
      rw t (subst (λ (m : ℕ). m ≤ starts_of n (suc k)) (sym one) (omega arith)))
      (λ g. rw g (starts_more n k))))
    where
      of_both : (a b c : Bool) → a && (b && c) ≡ true → b ≡ true
      of_both true true c h = refl
      of_both true false c h = absurd (true≢false (sym h))
      of_both false b c h = absurd (true≢false (sym h))

  raised_all : (n k : ℕ) → st.number ≡ (n + suc k) % 16 → st.wanted ≡ true → st.sent ≡ true → (st.number % 8 ≡ 0 → i ≡ true)
      → starts_of n k + raised st i ≡ starts_of n (suc k)
  raised_all n k e wanted sent counts =
      split (eqb (st.number % 8) 0)
      (λ t.
      let zero-there : st.number % 8 ≡ 0 = eqb-true _ 0 t in
      rw (carries wanted, wanted, sent, counts zero-there) (starts_one n k st.number e zero-there))
      (λ f.
      let some : st.number % 8 ≡ 0 → ⊥ = eqb-false _ 0 f in
      let none-given : i ≡ false = split i (λ t. absurd (some (indicated t))) (λ g. g) in
      rw (carries wanted, wanted, none-given) (starts_none n k st.number e some))

-- a sender's state, `k` cells having been sent since the one that was taken last
record Passed (Counts : Type 0) (st : Sender) (last : Report) (k ups : ℕ) : Type 0 where
  last_to : last.number ≤ 15
  number_is : st.number ≡ (last.number + suc k) % 16
  second_to : last.second ≤ 15
  second_is : second_told st st.second ≡ (last.second + ups) % 16
  ups_to : ups ≤ starts_of last.number k
  sent : st.sent ≡ true
  all : Counts → ups ≡ starts_of last.number k

abbrev pub More : Type 0 → ℕ → ℕ → ℕ → Type 0
More Counts last k ups = Counts → ups ≡ starts_of last (suc k)

abbrev Blocks : SendCall → Type 0
Blocks s = (s.state.wanted ≡ true) × (s.state.number % 8 ≡ 0 → s.indication ≡ true)

module _ (Counts : Type 0) (s : SendCall) (wrote : Wrote s) where
  -- the state behind it
  after_it : (P : Sender → Type 0) → P (S.after s.state s.indication) → P s.answer.state
  after_it P p = subst P (sym (next_state s wrote.0 wrote.1)) p

  taken_on : (m : ℕ)
      → Passed Counts s.answer.state
      (record {
        missing = m;
        number = s.state.number;
        second = second_told s.state (S.second_now s.state s.indication);
      }) 0 0
  unfolding S.after
  taken_on m =
      after_it (λ (x : Sender).
      Passed Counts x
      (record {
        missing = m;
        number = s.state.number;
        second = second_told s.state (S.second_now s.state s.indication);
      }) 0 0)
      (record {
        last_to = (state_passes s wrote.0 wrote.1).number_to;
        number_is = next_one s.state.number (state_passes s wrote.0 wrote.1).number_to;
        second_to = told_to_15 s wrote;
        second_is = small_stays _ (told_to_15 s wrote);
        ups_to = omega arith;
        sent = refl;
        all = λ c. starts_zero s.state.number;
      })

  module _ (last : Report) (k ups : ℕ) (p : Passed Counts s.state last k ups) (blocks : Counts → Blocks s) where
    abbrev more : ℕ
    more = ups + raised s.state s.indication

    second_here : second_told s.state (S.second_now s.state s.indication) ≡ (last.second + more) % 16
    second_here =
        second_next s wrote
        ∙ ap (λ (n : ℕ). (n + raised s.state s.indication) % 16) p.second_is
        ∙ second_sum last.second ups (raised s.state s.indication)

    more_to : more ≤ starts_of last.number (suc k)
    more_to =
        let few = raised_few s wrote last.number k p.number_is in
        let up = p.ups_to in
        omega (arith, few, up)

    more_all : Counts → more ≡ starts_of last.number (suc k)
    more_all c =
        ap (λ (n : ℕ). n + raised s.state s.indication) (p.all c)
        ∙ raised_all s wrote last.number k p.number_is (blocks c).0 p.sent (blocks c).1

    lost_on : Passed Counts s.answer.state last (suc k) more
    unfolding S.after
    lost_on =
        after_it (λ (x : Sender). Passed Counts x last (suc k) more)
        (record {
          last_to = p.last_to;
          number_is = number_on_lem s.state.number last.number k p.number_is;
          second_to = p.second_to;
          second_is = second_here;
          ups_to = more_to;
          sent = refl;
          all = more_all;
        })

    follow : (r : Report) → r.missing ≡ k % 16 → r.number ≡ s.state.number
        → r.second ≡ second_told s.state (S.second_now s.state s.indication) → comes_round (after k) ≡ false
        → Follow last r k more
    follow r m n d turns =
        record {
          last_to = p.last_to;
          number_is = n ∙ p.number_is;
          missing_is = m;
          turns = eqb-false _ _ turns;
          second_to = p.second_to;
          second_is = d ∙ second_here;
          ups_to = more_to;
        }

abbrev pub lost_of : Told → ℕ
lost_of x = lost_since x.since

-- the cells that are taken follow each other
module _ (Counts : Type 0) where
  chain_after : (ts : List Trip) (st : Sender) (last : Report) (k ups place : ℕ) → Sending Wrote st (map (λ t. t.sent) ts)
      → Passed Counts st last k ups → (Counts → CountsBlocks ts)
      → Chain (More Counts) last (map report_with (taken_from place (after k) ts)) (map lost_of (taken_from place (after k) ts))
  unfolding story_from those Row Each Chain
  chain_after [] st last k ups place row passed blocks = tt
  chain_after (t ∷ ts) st last k ups place row passed blocks =
      let here-passed = subst (λ (x : Sender). Passed Counts x last k ups) (sym row.0) passed in
      let own : Counts → Blocks t.sent = λ c. (blocks c).0 in
      let on-lost = chain_after ts t.sent.answer.state last (suc k) _ (suc place) row.2
      (lost_on Counts t.sent row.1 last k ups here-passed own) (λ c. (blocks c).1) in
      split (is_lost t.fate)
      (λ lost. rw lost on-lost)
      (λ here.
      split (comes_round (after k))
      (λ round. rw (here, round) on-lost)
      (λ turns.
      rw (here, turns) (
        (
          more Counts t.sent row.1 last k ups here-passed own,
          follow Counts t.sent row.1 last k ups here-passed own _ refl refl refl turns,
          more_all Counts t.sent row.1 last k ups here-passed own,
        ),
        chain_after ts t.sent.answer.state _ 0 0 (suc place) row.2 (taken_on Counts t.sent row.1 (k % 16)) (λ c. (blocks c).1),
      )))

  -- from the first one on
  abbrev pub Starts : List Told → Type 0
  Starts [] = Unit {0}
  Starts (x ∷ xs) = First (report_with x) × (lost_of x ≡ 0) × Chain (More Counts) (report_with x) (map report_with xs) (map lost_of xs)

  pub chain_first : (ts : List Trip) (st : Sender) (place : ℕ) → Sending Wrote st (map (λ t. t.sent) ts) → (Counts → CountsBlocks ts)
      → Starts (taken_from place never ts)
  unfolding story_from those Row Each
  chain_first [] st place row blocks = tt
  chain_first (t ∷ ts) st place row blocks =
      split (is_lost t.fate)
      (λ lost. rw lost (chain_first ts t.sent.answer.state (suc place) row.2 (λ c. (blocks c).1)))
      (λ here.
      rw here (
        record {
          none_missing = refl;
          number_to = (state_passes t.sent row.1.0 row.1.1).number_to;
          second_to = told_to_15 t.sent row.1;
        },
        refl,
        chain_after ts t.sent.answer.state _ 0 0 (suc place) row.2 (taken_on Counts t.sent row.1 0) (λ c. (blocks c).1),
      ))
