-- One cell on the line: an unaltered one is taken and gives back what was sent, a spoiled one is refused.
-- Assumes nothing.
use mathlib.Core.Bool.{Bool, true, false, cond, not, ◌||◌}
use mathlib.Core.List.{List, [], ◌∷◌, ◌++◌, zip, zip_with}
use mathlib.Core.Path.{◌≡◌, refl, sym, ◌∙◌, ap, ap₂}
use Prim.Native.Nat.{ℕ, zero, suc, ◌+◌, ◌*◌, ◌%◌, ◌-◌, ◌≤◌, ◌<◌}
use native.Mathlib.Nat.{mod-add-mod, mod-eq_of_lt, add-mod_right, suc-mul, suc-ne-zero}
use native.Mathlib.Numerals.{add-one}
use native.Mathlib.Omega.{arith}
use borrow.Author.Tests.{ne_eqb, eq-eqb, le-ltb, eqb-true, eqb-false}
use lib.Bits.{bit_xor, xor_self}
use lib.Count.{ones, ones_in}
use lib.Dec.{eqb, ltb}
use lib.ListN.{length, take, replicate, length-append, length-replicate}
use lib.Seq.{take_at}
use Rattle.std.specs.Prelude.{Some}
use Rattle.runs.specs.Runs.{over}
use Rattle.runs.specs.Refusals.{or_else}
use Rattle.runs.proofs.Laws.{split, first_refuses, then_later}
use Rattle.formats.specs.Formats.{format_of, settings_refusal}
use Rattle.numbers.specs.Numbers.{entry_of, found_of, refusal_of, value_of, difference_of}
use Rattle.numbers.proofs.Laws.{table_apart, no_entry_refused}
use Rattle.cells.specs.Cells.{eight_in}
use Rattle.sender.specs.Sender as S
use Rattle.receiver.specs.Receiver as R
use Rattle.receiver.proofs.Indication.{never_15, bare_never_15}
use Rattle.line.specs.Calls.{SendCall, MeetsSend, ReceiveCall, MeetsReceive}
use Rattle.line.specs.Demands.{receive_table, InSettings, GivesBack}
use Rattle.line.specs.Line.{altered_in, WithRoom, Place, places, handed_by}
use Rattle.line.proofs.Calls.{gives_back}
use Rattle.line.proofs.Repeats.{late}
use Rattle.line.proofs.Cells.{
  received_refusal,
  settings_none,
  number_lt,
  fits,
  cell_48,
  eight_sent,
  found_there,
  rightly_there,
  used_in_lem,
  settings_on,
}

-- the place of a lost cell
abbrev pub missing : Place
missing = (0, (0, 2))

-- lists side by side, both cut alike, and both with a row of one value before them
module _ {A B : Type 0} where
  pub take_zip : (n : ℕ) (xs : List A) (ys : List B) → take n (zip xs ys) ≡ zip (take n xs) (take n ys)
  unfolding zip zip_with
  take_zip zero xs ys = refl
  take_zip (suc n) [] ys = refl
  take_zip (suc n) (x ∷ xs) [] = refl
  take_zip (suc n) (x ∷ xs) (y ∷ ys) = ap (λ l. (x, y) ∷ l) (take_zip n xs ys)

  row_zip : (n : ℕ) (x : A) (y : B) (xs : List A) (ys : List B) → zip (replicate n x ++ xs) (replicate n y ++ ys) ≡ replicate n (x, y) ++ zip xs ys
  unfolding zip zip_with
  row_zip zero x y xs ys = refl
  row_zip (suc n) x y xs ys = ap (λ l. (x, y) ∷ l) (row_zip n x y xs ys)

-- k cells after the last one, the difference is k + 1 modulo 16
pub difference_after : (last k : ℕ) → last ≤ 15 → difference_of ((last + 1 + k) % 16) last ≡ (k + 1) % 16
unfolding difference_of
difference_after last k within =
    let low : last % 16 ≡ last = mod-eq_of_lt (omega arith) in
    let whole : last + 1 + k + (16 - last) ≡ k + 1 + 16 = omega arith in
    ap (λ (n : ℕ). ((last + 1 + k) % 16 + (16 - n)) % 16) low
    ∙ mod-add-mod (last + 1 + k) 16 (16 - last)
    ∙ ap (λ (n : ℕ). n % 16) whole
    ∙ add-mod_right (k + 1) 16

pub number_after : (last k : ℕ) → ((last + 1 + k) % 16 + 1) % 16 ≡ (last + 1 + suc k) % 16
number_after last k =
    mod-add-mod (last + 1 + k) 16 1 ∙ ap (λ (n : ℕ). n % 16) (let whole : last + 1 + k + 1 ≡ last + 1 + suc k = omega arith in whole)

-- a receiver that took an unaltered cell after a gap: it is in the settings of the sender that goes on, has the cell's number, and
-- has handed out the places of the missing cells and of this one
pub record Took (s : SendCall) (c : ReceiveCall) (gap : ℕ) : Type 0 where
  pub refused_not : c.answer.refusal ≡ 0
  pub settings : InSettings s.answer.state c.answer.state
  pub started : c.answer.state.started ≡ true
  pub last : c.answer.state.last ≡ s.state.number
  pub counted : c.answer.state.count ≡ c.state.count + suc gap
  pub tells_missing : c.answer.missing ≡ gap
  pub hands : handed_by c
      ≡ replicate (gap * S.used_now s.state) missing ++ places s.samples s.ancillary (replicate (S.used_now s.state) 0)

-- A cell that a sender wrote has an indication that no receiver in its settings refuses 15, where both come as they were sent.
pub honest_never_15 : (s : SendCall) (r : ReceiveCall) → MeetsSend s → s.answer.refusal ≡ 0 → InSettings s.state r.state
    → r.cell ≡ s.written → r.indication ≡ s.indication → MeetsReceive r → r.answer.refusal ≡ 15 → ⊥
honest_never_15 s r sends sent same arrived indicated receives fifteen =
    let table : receive_table r ≡ 15 = sym (received_refusal r receives) ∙ fifteen in
    split (eqb (S.format_now s.state).overhead_bits 0)
    (λ e.
    bare_never_15 r.state r.cell r.indication _ _ _
    (ap (λ (x : ℕ). (format_of x).overhead_bits) same.format ∙ eqb-true _ 0 e) table)
    (λ e. never_15 r.state r.cell r.indication _ _ _ (rightly_there s sends sent (eqb-false _ 0 e) r same arrived indicated) table)

-- check 5, then 8
by_length : (whole : Bool) {found : ℕ} (later : ℕ) → found ≡ 8 → cond (not whole || false) 5 (or_else found later) ≡ cond whole 8 5
by_length true later e = first_refuses _ (λ none. suc-ne-zero 7 (sym e ∙ none)) ∙ e
by_length false later e = refl

-- a cell with overhead that a call wrote
module _ (s : SendCall) (sends : MeetsSend s) (sent : s.answer.refusal ≡ 0) (with_overhead : (S.format_now s.state).overhead_bits ≡ 0 → ⊥) where
  -- one, two or three altered bits lead off the table
  off_table : (came : List ℕ) → 1 ≤ altered_in s came → altered_in s came ≤ 3
      → refusal_of (found_of (eight_in (S.format_now s.state) came)) ≡ 8
  unfolding ones ones_in
  off_table came some few = no_entry_refused (eight_in (S.format_now s.state) came) not_there
    where
      same : altered_in s came ≡ ones (bit_xor (entry_of s.state.number) (entry_of s.state.number)) → ⊥
      same e =
          let none : ones (bit_xor (entry_of s.state.number) (entry_of s.state.number)) ≡ 0
          = ap ones (xor_self (entry_of s.state.number)) in
          omega arith

      not_there : (number : ℕ) → number < 16 → entry_of number ≡ eight_in (S.format_now s.state) came → ⊥
      not_there number low entry =
          let altered : altered_in s came ≡ ones (bit_xor (entry_of s.state.number) (entry_of number))
          = ap₂ (λ (a b : ℕ). ones (bit_xor a b)) (eight_sent s sends sent with_overhead) (sym entry) in
          split (eqb s.state.number number)
          (λ e. same (altered ∙ ap (λ (n : ℕ). ones (bit_xor (entry_of s.state.number) (entry_of n))) (sym (eqb-true _ _ e))))
          (λ e. let far = table_apart (number_lt s sends sent) low (eqb-false _ _ e) in omega (arith, altered))

  -- a call on it by a receiver in the sender's settings
  module _ (c : ReceiveCall) (receives : MeetsReceive c) (same : InSettings s.state c.state) where
    -- checks 1 to 4 pass where the last number and the count do
    state_none : R.last_refused c.state || R.count_refused c.state ≡ false → R.state_refusal c.state ≡ 0
    unfolding R.state_refusal
    state_none fourth_passes =
        (λ i.
        or_else (settings_refusal (same.format i) (same.channels i) (same.order i))
        (cond (R.last_refused c.state || R.count_refused c.state) 4 0))
        ∙ then_later _ (settings_none s sends sent)
        ∙ rw fourth_passes

    -- a spoiled cell
    module _ {came : List ℕ} (arrived : c.cell ≡ came) (some : 1 ≤ altered_in s came) (few : altered_in s came ≤ 3) where
      no_number : refusal_of (R.found_now c.state c.cell) ≡ 8
      unfolding R.found_now
      no_number =
          (λ i.
          refusal_of
          (cond (eqb (format_of (same.format i)).overhead_bits 0) (Some 0) (found_of (eight_in (format_of (same.format i)) (arrived i)))))
          ∙ (rw (ne_eqb (S.format_now s.state).overhead_bits 0 with_overhead))
          ∙ off_table came some few

      -- it is refused 8, or 5 where it came with another number of octets, where check 4 passes and the runs have room
      pub spoiled_gets : R.last_refused c.state || R.count_refused c.state ≡ false → WithRoom c
          → c.answer.refusal ≡ cond (eqb (length came) 48) 8 5
      unfolding R.receive_refusal R.lengths_refused
      spoiled_gets fourth_passes room =
          received_refusal c receives
          ∙ then_later _ (state_none fourth_passes)
          ∙ rw (eq-eqb _ _ room.ancillary_equal, eq-eqb _ _ room.marks_equal)
          (by_length (eqb (length c.cell) 48) _ no_number ∙ ap (λ (l : List ℕ). cond (eqb (length l) 48) 8 5) arrived)

    -- an unaltered one with the number of the one taken last is refused
    pub round_gets : c.cell ≡ s.written → c.indication ≡ s.indication → WithRoom c
        → R.last_refused c.state || R.count_refused c.state ≡ false → R.gap_of c.state c.cell ≡ 0
        → c.answer.refusal ≡ 9
    unfolding refusal_of
    round_gets arrived indicated room fourth_passes none =
        received_refusal c receives
        ∙ late c.state c.cell c.indication _ _ _ (state_none fourth_passes) (ap length arrived ∙ cell_48 s sends sent)
        room.ancillary_equal room.marks_equal (ap refusal_of (found_there s sends sent with_overhead c same arrived))
        ∙ rw (rightly_there s sends sent with_overhead c same arrived indicated, eq-eqb _ 0 none)

    -- an unaltered one is taken where the state passes and the gap is some
    module _ (arrived : c.cell ≡ s.written) (indicated : c.indication ≡ s.indication) (room : WithRoom c)
        (fourth_passes : R.last_refused c.state || R.count_refused c.state ≡ false)
        {gap : ℕ} (gap_is : R.gap_of c.state c.cell ≡ suc gap) (within : R.count_after c.state c.cell ≤ 4294967295)
      where
        found_here : R.found_now c.state c.cell ≡ Some s.state.number
        found_here = found_there s sends sent with_overhead c same arrived

        pub unaltered_taken : c.answer.refusal ≡ 0
        unfolding refusal_of
        unaltered_taken =
            let some : R.gap_of c.state c.cell ≡ 0 → ⊥ = λ e. suc-ne-zero gap (sym gap_is ∙ e) in
            let by-room : receive_table c ≡ cond (ltb (length c.samples) (R.gap_of c.state c.cell * R.used_now c.state)) 10 0
            = late c.state c.cell c.indication _ _ _ (state_none fourth_passes) (ap length arrived ∙ cell_48 s sends sent)
            room.ancillary_equal room.marks_equal (ap refusal_of found_here)
            ∙ rw (rightly_there s sends sent with_overhead c same arrived indicated, ne_eqb _ 0 some, le-ltb 4294967295 _ within) in
            received_refusal c receives
            ∙ split (ltb (length c.samples) (R.gap_of c.state c.cell * R.used_now c.state))
            (λ e. absurd (room.long_enough (by-room ∙ rw e)))
            (λ e. by-room ∙ rw e)

        back : GivesBack s c
        back = gives_back s c sends sent same arrived receives unaltered_taken

        table_none : receive_table c ≡ 0
        table_none = sym (received_refusal c receives) ∙ unaltered_taken

        missing_is : c.answer.missing ≡ gap
        unfolding R.received_of
        missing_is =
            ap (λ x. x.missing) receives.answered
            ∙ rw (table_none, gap_is) (let whole : suc gap - 1 ≡ gap = omega arith in whole)

        state_is : c.answer.state ≡ R.after c.state c.cell
        unfolding R.received_of
        state_is = ap (λ x. x.state) receives.answered ∙ rw table_none

        -- the entries that the answer tells of, in one run
        told : (run : List ℕ) {run₁ : List ℕ} (v : ℕ) (own : List ℕ)
            → run₁ ≡ over (replicate (c.answer.missing * S.used_now s.state) v ++ own) run → length own ≡ S.used_now s.state
            → take ((gap + 1) * S.used_now s.state) run₁ ≡ replicate (gap * S.used_now s.state) v ++ own
        unfolding over
        told run v own e len =
            let used = S.used_now s.state in
            let new : length (replicate (gap * used) v ++ own) ≡ (gap + 1) * used
            = length-append (replicate (gap * used) v) own
            ∙ ap₂ (λ (a b : ℕ). a + b) (length-replicate (gap * used) v) len
            ∙ rw (add-one, suc-mul) in
            ap (take ((gap + 1) * used)) (e ∙ ap (λ (n : ℕ). over (replicate (n * used) v ++ own) run) missing_is)
            ∙ take_at (replicate (gap * used) v ++ own) _ ((gap + 1) * used) new

        hands_out : handed_by c
            ≡ replicate (gap * S.used_now s.state) missing ++ places s.samples s.ancillary (replicate (S.used_now s.state) 0)
        hands_out =
            let used = S.used_now s.state in
            let count : cond (eqb c.answer.refusal 0) ((c.answer.missing + 1) * R.used_now c.state) 0 ≡ (gap + 1) * used
            = rw (unaltered_taken, missing_is, used_in_lem same) in
            rw (
              count,
              take_zip ((gap + 1) * used) c.samples_after (zip c.ancillary_after c.marks_after),
              take_zip ((gap + 1) * used) c.ancillary_after c.marks_after,
              told c.samples 0 s.samples back.samples_back (fits s sends sent).samples_length,
              told c.ancillary 0 s.ancillary back.ancillary_back (fits s sends sent).ancillary_length,
              told c.marks 2 (replicate used 0) back.marked_sound (length-replicate used 0),
            )
            (ap (zip (replicate (gap * used) 0 ++ s.samples)) (row_zip (gap * used) 0 2 s.ancillary (replicate used 0))
            ∙ row_zip (gap * used) 0 (0, 2) s.samples (zip s.ancillary (replicate used 0)))

        pub took : Took s c gap
        unfolding R.after R.count_after value_of
        took =
            record {
              refused_not = unaltered_taken;
              settings =
                  settings_on s sends sent
                  (record {
                    format = ap (λ x. x.format) state_is ∙ same.format;
                    channels = ap (λ x. x.channels) state_is ∙ same.channels;
                    order = ap (λ x. x.order) state_is ∙ same.order;
                  });
              started = ap (λ x. x.started) state_is;
              last = ap (λ x. x.last) state_is ∙ ap value_of found_here;
              counted = ap (λ x. x.count) state_is ∙ ap (λ (n : ℕ). c.state.count + n) gap_is;
              tells_missing = missing_is;
              hands = hands_out;
            }
