-- Laws of the sender's refusals: what each check gives in its turn, and what is known where none refuses.
-- Assumes nothing.
use Rattle.std.proofs.Common.{◌≡◌, ℕ, zero, suc, ◌+◌, ◌*◌, ◌%◌, ◌^◌, ◌<◌, ◌≤◌, Bool, true, false, cond, not, ◌&&◌, eqb, ltb, leb, List, [], ◌∷◌, length, get_or, drop, sym, refl, ap, ◌∙◌, ap₂, mod-lt, mod-eq_of_lt, suc-ne-zero, add-one, arith, drop_of_length-le, drop-cons, pow_pos, ltb-false, ltb-true, le-ltb, lt-ltb, ne_eqb, eqb-true, le-leb}
use borrow.Author.Tests.{lt-leb, not-false}
use lib.Bits.{bit_or, or_lt, or_add_and, and_le_l, and_le_r}
use Rattle.runs.specs.Refusals.{or_else}
use Rattle.runs.proofs.Laws.{split, first_refuses, then_later, past, past_both, neither, both_true, one_shifted}
use Rattle.formats.specs.declared.Format.{Format}
use Rattle.formats.specs.Settled.{Settled}
use Rattle.formats.specs.Formats.{settings_refusal}
use Rattle.formats.specs.Settings.{settings_of, settled}
use Rattle.formats.specs.Sound.{Limits}
use Rattle.formats.proofs.Laws.{settled_of_lem, Settles, settles_all, settled_limits, given_refuses, given_none, given_settled, given_later}
use Rattle.numbers.specs.Code.{sequence_of}
use Rattle.numbers.specs.Numbers.{entry_of, indication_refused}
use Rattle.numbers.proofs.Laws.{entry_lt}
use Rattle.sender.specs.declared.Sender.{Sender}
use Rattle.sender.specs.Packing.{Packable, packed, filled_cell, numbers_refused_by, lengths_refused_by, values_refused_by, Unites, Writes}
use Rattle.sender.specs.Sender.{format_now, used_now, zero_state, open_state, opened_of, numbers_refused, state_refusal, all_below, lengths_refused}
use Rattle.sender.specs.Sender.{values_refused, send_refusal, second_now, after, cell_now, sent_of, cell_after, Sends}
use Rattle.sender.proofs.Packing.{packs}

-- checks 1 to 4, by the settings
module _ (st : Sender) {set : Settled} (given : set ≡ settings_of st.format st.channels st.order) where
  pub by_settings : (set.refusal ≡ 0 → ⊥) → set.refusal ≡ state_refusal st
  unfolding state_refusal
  by_settings some = given_refuses st.format st.channels st.order _ given some

  pub by_numbers : set.refusal ≡ 0 → {b : Bool} → b ≡ numbers_refused_by set.format st.number st.wanted st.second
      → cond b 4 0 ≡ state_refusal st
  unfolding state_refusal numbers_refused numbers_refused_by
  by_numbers none e =
      ap (λ (b : Bool). cond b 4 0)
      (e
      ∙ ap (λ (x : Settled). numbers_refused_by x.format st.number st.wanted st.second)
      (given_settled st.format st.channels st.order 0 given none))
      ∙ sym (given_later st.format st.channels st.order _ given none)

-- what checks 1 to 4 leave where none refuses
pub record StatePasses (octet channels order number second : ℕ) : Type 0 where
  pub settles : Settles octet channels order
  pub number_to : number ≤ 15
  pub second_to : second ≤ 15

pub state_passes : (st : Sender) → state_refusal st ≡ 0 → StatePasses st.format st.channels st.order st.number st.second
unfolding state_refusal numbers_refused
state_passes st e =
    let both = past_both (settings_refusal st.format st.channels st.order) _ e in
    let fourth = past (numbers_refused st) 3 0 both.1 in
    let first = neither (ltb 15 st.number) _ fourth.0 in
    let next = neither (ltb 15 st.second) _ first.1 in
    record {
      settles = settles_all st.format st.channels st.order both.0;
      number_to = ltb-false 15 st.number first.0;
      second_to = ltb-false 15 st.second next.0;
    }

-- an opening, refused and taken
module _ (octet channels order number : ℕ) (wanted : Bool) (second : ℕ) where
  pub opens_refused : {n : ℕ} → (n ≡ 0 → ⊥) → n ≡ state_refusal (open_state octet channels order number wanted second)
      → record { refusal = n; state = zero_state } ≡ opened_of octet channels order number wanted second
  unfolding opened_of
  opens_refused some e = rw (← e, ne_eqb _ _ some)

  pub opens : 0 ≡ state_refusal (open_state octet channels order number wanted second)
      → record { refusal = 0; state = open_state octet channels order number wanted second }
      ≡ opened_of octet channels order number wanted second
  unfolding opened_of
  opens e = rw (← e)

-- what check 5 leaves
pub lengths_are : (used : ℕ) (samples ancillary : List ℕ) (room : ℕ) → lengths_refused_by used samples ancillary room ≡ false
    → (room ≡ 48) × (length samples ≡ used) × (length ancillary ≡ used)
unfolding lengths_refused_by
lengths_are used samples ancillary room taken =
    let first = neither (not (eqb room 48)) _ taken in
    let next = neither (not (eqb (length samples) used)) _ first.1 in (
      eqb-true room 48 (not-false _ first.0),
      eqb-true (length samples) used (not-false _ next.0),
      eqb-true (length ancillary) used (not-false _ next.1),
    )

-- numbers are below a power of two just where the bits that any of them has are
or_below : (a b k : ℕ) → ltb (bit_or a b) (2 ^ k) ≡ ltb a (2 ^ k) && ltb b (2 ^ k)
or_below a b k =
    let left : a ≤ bit_or a b = omega (arith, or_add_and a b, and_le_r a b) in
    let right : b ≤ bit_or a b = omega (arith, or_add_and a b, and_le_l a b) in
    split (ltb a (2 ^ k))
    (λ ta.
    split (ltb b (2 ^ k))
    (λ tb. rw (ta, tb) (lt-ltb _ _ (or_lt k a b (ltb-true a (2 ^ k) ta) (ltb-true b (2 ^ k) tb))))
    (λ tb. rw (ta, tb) (le-ltb (bit_or a b) (2 ^ k) (let far = ltb-false b (2 ^ k) tb in omega arith))))
    (λ ta. rw ta (le-ltb (bit_or a b) (2 ^ k) (let far = ltb-false a (2 ^ k) ta in omega arith)))

-- a run judged from its start: the bits so far, and what is still to come
pub record United (run : List ℕ) (all i : ℕ) : Type 0 where
  pub within : i ≤ length run
  pub is : (k : ℕ) → all_below (2 ^ k) run ≡ ltb all (2 ^ k) && all_below (2 ^ k) (drop i run)

pub united_begun : (run : List ℕ) → United run 0 0
united_begun run =
    record { within = omega arith; is = λ k. rw (lt-ltb 0 (2 ^ k) (pow_pos k)) }

pub united_on : {run : List ℕ} {all i : ℕ} → United run all i → i < length run → United run (bit_or all (get_or run i 0)) (i + 1)
unfolding all_below
united_on {run} {all} {i} so_far less =
    record {
      within = omega arith;
      is = λ k.
          so_far.is k
          ∙ ap (λ (l : List ℕ). ltb all (2 ^ k) && all_below (2 ^ k) l) (drop-cons run i 0 less)
          ∙ sym (and_assoc (ltb all (2 ^ k)) (ltb (get_or run i 0) (2 ^ k)) _)
          ∙ ap₂ (λ (b : Bool) (n : ℕ). b && all_below (2 ^ k) (drop n run)) (sym (or_below all (get_or run i 0) k)) (sym (add-one i));
    }
  where
    and_assoc : (a b c : Bool) → (a && b) && c ≡ a && (b && c)
    and_assoc true b c = refl
    and_assoc false b c = refl

pub united_done : {run : List ℕ} {all i : ℕ} → United run all i → length run ≤ i → Unites run all
unfolding all_below
united_done {run} {all} {i} so_far end =
    record {
      below = λ k.
          so_far.is k
          ∙ ap (λ (l : List ℕ). ltb all (2 ^ k) && all_below (2 ^ k) l) (drop_of_length-le run end)
          ∙ and_true (ltb all (2 ^ k));
    }
  where
    and_true : (a : Bool) → a && true ≡ a
    and_true true = refl
    and_true false = refl

-- check 6 by those bits
module _ (f : Format) (ancillary : List ℕ) {samples : List ℕ} {all : ℕ} (united : Unites samples all) (to : f.sample_bits ≤ 40) where
  shifted : (1 * 2 ^ f.sample_bits) % 2 ^ 64 ≡ 2 ^ f.sample_bits
  shifted = one_shifted (omega arith)

  pub samples_refused : (1 * 2 ^ f.sample_bits) % 2 ^ 64 ≤ all → true ≡ values_refused_by f samples ancillary
  unfolding values_refused_by
  samples_refused far = rw (united.below f.sample_bits, le-ltb all (2 ^ f.sample_bits) (rw shifted at far))

  pub ancillary_refused : {few as_wide : ℕ} → all < (1 * 2 ^ f.sample_bits) % 2 ^ 64 → f.ancillary_bits ≤ 4
      → Unites ancillary few → as_wide ≡ few
      → leb ((1 * 2 ^ f.ancillary_bits) % 2 ^ 64) as_wide ≡ values_refused_by f samples ancillary
  unfolding values_refused_by
  ancillary_refused {few} near to-4 united-few e =
      rw (united.below f.sample_bits, lt-ltb all (2 ^ f.sample_bits) (rw shifted at near), united-few.below f.ancillary_bits)
      (ap₂ leb (one_shifted (let h : f.ancillary_bits < 64 = omega arith in h)) e ∙ not_below (2 ^ f.ancillary_bits) few)
    where
      not_below : (bound n : ℕ) → leb bound n ≡ not (ltb n bound)
      not_below bound n =
          split (ltb n bound)
          (λ t. rw t (lt-leb bound n (ltb-true n bound t)))
          (λ t. rw t (le-leb bound n (ltb-false n bound t)))

pub below_each : (bound : ℕ) (run : List ℕ) → zero < bound → all_below bound run ≡ true → (i : ℕ) → get_or run i 0 < bound
unfolding all_below
below_each bound [] some e i = some
below_each bound (x ∷ xs) some e zero = ltb-true x bound (both_true (ltb x bound) (all_below bound xs) e).0
below_each bound (x ∷ xs) some e (suc i) = below_each bound xs some (both_true (ltb x bound) (all_below bound xs) e).1 i

-- what a call of `send` was given, its cell apart
pub record Call : Type 0 where
  pub state : Sender
  pub indication : Bool
  pub samples : List ℕ
  pub ancillary : List ℕ

-- its refusal, where the cell has so many octets
abbrev pub refusal_of : Call → ℕ → ℕ
refusal_of c room = send_refusal c.state c.indication c.samples c.ancillary room

-- the checks in their turn, by the settings: what is left of them from each on
abbrev pub from_7 : Call → ℕ
from_7 c = cond (indication_refused c.state.number c.indication) 7 0

abbrev pub from_6 : Call → Settled → ℕ
from_6 c set = cond (values_refused_by set.format c.samples c.ancillary) 6 (from_7 c)

abbrev pub from_5 : Call → ℕ → Settled → ℕ
from_5 c room set = cond (lengths_refused_by (set.channels * set.times) c.samples c.ancillary room) 5 (from_6 c set)

abbrev pub from_4 : Call → ℕ → Settled → ℕ
from_4 c room set =
    cond (numbers_refused_by set.format c.state.number c.state.wanted c.state.second) 4 (from_5 c room set)

module _ (c : Call) (room : ℕ) {set : Settled} (given : set ≡ settings_of c.state.format c.state.channels c.state.order) where
  pub by_set : (set.refusal ≡ 0 → ⊥) → set.refusal ≡ refusal_of c room
  unfolding send_refusal
  by_set some =
      by_settings c.state given some ∙ sym (first_refuses _ (λ z. some (by_settings c.state given some ∙ z)))

  pub by_checks : set.refusal ≡ 0 → refusal_of c room ≡ from_4 c room set
  unfolding send_refusal lengths_refused lengths_refused_by values_refused values_refused_by
  by_checks none =
      let rest = from_5 c room (settled c.state.format c.state.channels c.state.order) in
      ap (λ (n : ℕ). or_else n rest) (sym (by_numbers c.state given none refl))
      ∙ either (numbers_refused_by set.format c.state.number c.state.wanted c.state.second) rest
      ∙ ap
      (λ (x : Settled). cond (numbers_refused_by set.format c.state.number c.state.wanted c.state.second) 4 (from_5 c room x))
      (sym (given_settled c.state.format c.state.channels c.state.order 0 given none))
    where
      either : (b : Bool) (rest : ℕ) → or_else (cond b 4 0) rest ≡ cond b 4 rest
      either true rest = first_refuses rest (suc-ne-zero 3)
      either false rest = then_later rest refl

-- what the settings bound where they are not refused
pub limits : (st : Sender) {set : Settled} → set ≡ settings_of st.format st.channels st.order → set.refusal ≡ 0 → Limits set
limits st given none =
    settled_limits st.format st.channels st.order (given_settled st.format st.channels st.order 0 given none)
    (given_none st.format st.channels st.order 0 given none)

-- everything that packing asks, where nothing is refused
module _ (st : Sender) (indication : Bool) (samples ancillary : List ℕ) (room : ℕ)
    (none : send_refusal st indication samples ancillary room ≡ 0)
  where
    abbrev seven : ℕ
    seven = cond (indication_refused st.number indication) 7 0

    abbrev six : ℕ
    six = cond (values_refused st samples ancillary) 6 seven

    abbrev five : ℕ
    five = cond (lengths_refused st samples ancillary room) 5 six

    state_none : (state_refusal st ≡ 0) × (five ≡ 0)
    unfolding send_refusal
    state_none = past_both _ _ none

    pub passes : StatePasses st.format st.channels st.order st.number st.second
    passes = state_passes st state_none.0

    pub settings_none : settings_refusal st.format st.channels st.order ≡ 0
    unfolding state_refusal
    settings_none = (past_both (settings_refusal st.format st.channels st.order) _ state_none.0).0

    fifth : (lengths_refused st samples ancillary room ≡ false) × (six ≡ 0)
    fifth = past (lengths_refused st samples ancillary room) 4 six state_none.1

    sixth : (values_refused st samples ancillary ≡ false) × (seven ≡ 0)
    sixth = past (values_refused st samples ancillary) 5 seven fifth.1

    lengths : (room ≡ 48) × (length samples ≡ used_now st) × (length ancillary ≡ used_now st)
    unfolding lengths_refused lengths_refused_by
    lengths = lengths_are (used_now st) samples ancillary room fifth.0

    pub room_is : room ≡ 48
    room_is = lengths.0

    pub packable : Packable (settled st.format st.channels st.order) samples ancillary
    unfolding values_refused
    packable =
        let f = format_now st in
        let values = neither (not (all_below (2 ^ f.sample_bits) samples)) _ sixth.0 in
        record {
          limits = settled_limits st.format st.channels st.order refl settings_none;
          samples_length = lengths.1;
          ancillary_length = lengths.2;
          small = below_each (2 ^ f.sample_bits) samples (pow_pos f.sample_bits) (not-false _ values.0);
          few = below_each (2 ^ f.ancillary_bits) ancillary (pow_pos f.ancillary_bits) (not-false _ values.1);
        }

pub second_lt : (st : Sender) (indication : Bool) → st.second ≤ 15 → second_now st indication < 16
unfolding second_now
second_lt st indication to = either (st.wanted && (indication && st.sent))
  where
    either : (counts : Bool) → cond counts ((st.second + 1) % 16) st.second < 16
    either true = mod-lt (st.second + 1) (omega arith)
    either false = omega arith

-- a cell refused, and written
module _ (c : Call) (cell : List ℕ) where
  abbrev state : Sender
  state = c.state

  pub writes_refused : {n : ℕ} → (n ≡ 0 → ⊥) → n ≡ refusal_of c (length cell)
      → Writes c.state c.indication c.samples c.ancillary cell n cell
  unfolding cell_after
  writes_refused some e = record { refused = e; cell_after_lem = rw (← e, ne_eqb _ _ some) }

  module _ {set : Settled} (given : set ≡ settings_of state.format state.channels state.order)
      (none : 0 ≡ refusal_of c (length cell))
    where
      set_is : set ≡ settled state.format state.channels state.order
      set_is =
          given
          ∙ settled_of_lem state.format state.channels state.order
          (settings_none state c.indication c.samples c.ancillary (length cell) (sym none))

      pub can_pack : Packable set c.samples c.ancillary × (length cell ≡ 48)
      can_pack = (
        rw set_is (packable state c.indication c.samples c.ancillary (length cell) (sym none)),
        room_is state c.indication c.samples c.ancillary (length cell) (sym none),
      )

      pub writes_taken : {second sequence : ℕ} {cell₁ : List ℕ} → second ≡ second_now state c.indication
          → sequence ≡ sequence_of (entry_of (state.number % 16)) second
          → cell₁ ≡ filled_cell set sequence c.samples c.ancillary
          → Writes c.state c.indication c.samples c.ancillary cell 0 cell₁
      unfolding cell_after cell_now
      writes_taken {second} second_is sequence-is filled =
          let passed = passes state c.indication c.samples c.ancillary (length cell) (sym none) in
          let low : state.number % 16 ≡ state.number = mod-eq_of_lt (omega (arith, passed.number_to)) in
          record {
            refused = none;
            cell_after_lem =
                packs set c.samples c.ancillary (entry_of (state.number % 16)) second (entry_lt (mod-lt state.number (omega arith)))
                (rw second_is (second_lt state c.indication passed.second_to)) sequence-is filled
                ∙ ap (λ (x : Settled). packed x (entry_of (state.number % 16)) second c.samples c.ancillary) set_is
                ∙ ap₂
                (λ (n m : ℕ). packed (settled state.format state.channels state.order) (entry_of n) m c.samples c.ancillary)
                low second_is
                ∙ rw (← none);
          }

  -- and the answer to it
  module _ {refusal : ℕ} {cell₁ : List ℕ} (writes : Writes c.state c.indication c.samples c.ancillary cell refusal cell₁) where
    pub sends_refused : (refusal ≡ 0 → ⊥)
        → Sends c.state c.indication c.samples c.ancillary cell (record { refusal = refusal; state = state }) cell₁
    unfolding sent_of
    sends_refused some =
        record { answered = rw (← writes.refused, ne_eqb _ _ some); cell_after_lem = writes.cell_after_lem }

    module _ (taken : refusal ≡ 0) where
      pub number_lt : state.number < 16
      number_lt =
          omega (
            arith,
            (passes state c.indication c.samples c.ancillary (length cell) (sym writes.refused ∙ taken)).number_to,
          )

      pub sends_taken : {next : Sender} → next ≡ after state c.indication
          → Sends c.state c.indication c.samples c.ancillary cell (record { refusal = 0; state = next }) cell₁
      unfolding sent_of
      sends_taken next_is =
          record { answered = rw (← writes.refused, taken, next_is); cell_after_lem = writes.cell_after_lem }
