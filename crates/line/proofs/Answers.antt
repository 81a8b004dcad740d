-- The sheet and `anything` of a log of the cells as they arrived: each by what its records tell.
-- Assumes nothing.
use mathlib.Core.Bool.{Bool, true, false, cond, not, ◌&&◌, ◌||◌}
use mathlib.Core.List.{List, [], ◌∷◌, flat_map, zip, zip_with}
use mathlib.Core.Path.{◌≡◌, refl, sym, ◌∙◌, ap, ap₂, subst}
use Prim.Native.Nat.{ℕ, zero, suc, ◌+◌}
use native.Mathlib.Nat.{suc-ne-zero}
use native.Mathlib.Omega.{arith}
use borrow.Author.Tests.{eq-eqb, ne_eqb, eqb-true}
use lib.Dec.{eqb}
use lib.ListN.{length}
use Rattle.runs.proofs.Laws.{split}
use Rattle.receiver.specs.declared.Receiver.{Receiver}
use Rattle.receiver.specs.Receiver as R
use Rattle.reading.specs.Heard.{Heard, heard_by, hear, onward, heard_from}
use Rattle.reading.specs.Reading.{reading_of}
use Rattle.reading.specs.Records.{Whole}
use Rattle.reading.specs.Totals.{total_of, count_of}
use Rattle.reading.proofs.Heard.{refused_gives}
use Rattle.reading.proofs.Totals.{total_joined}
use Rattle.glance.specs.Glance.{is_sound, some, sound_at}
use Rattle.figures.specs.Figures.{counts_of}
use Rattle.presence.specs.Presence.{sounds, some_of, answer_of, presence_of}
use Rattle.line.specs.Calls.{MeetsSend}
use Rattle.line.specs.Line.{places}
use Rattle.line.specs.Tools.{places_heard, sound_not_zero, ToolsTell}
use Rattle.line.specs.Answers.{ToolsAnswer}
use Rattle.line.proofs.Logs.{read_heard}
use Rattle.line.proofs.Played.{length_given}
use Rattle.line.proofs.Tools.{tools_tell}

-- a test that passes at some number below n, from the other end
some_front : (test : ℕ → Bool) (n : ℕ) → some test (suc n) ≡ (test 0 || some (λ i. test (suc i)) n)
unfolding some
some_front test zero = split (test 0) (λ e. rw e) (λ e. rw e)
some_front test (suc n) =
    ap (λ (b : Bool). b || test (suc n)) (some_front test n) ∙ or_assoc (test 0) (some (λ i. test (suc i)) n) (test (suc n))
  where
    or_assoc : (a b c : Bool) → (a || b) || c ≡ (a || (b || c))
    or_assoc true b c = refl
    or_assoc false b c = refl

-- none or some, by their count
some_more : (here : Bool) (n : ℕ) → not (eqb (cond here 1 0 + n) 0) ≡ (here || not (eqb n 0))
some_more true n = rw (ne_eqb (1 + n) 0 (λ e. suc-ne-zero n (sym (one_on n) ∙ e)))
  where
    one_on : (n : ℕ) → 1 + n ≡ suc n
    one_on n = omega arith
some_more false n = ap (λ (k : ℕ). not (eqb k 0)) (zero_on n)
  where
    zero_on : (n : ℕ) → 0 + n ≡ n
    zero_on n = omega arith

and_turned : (a b : Bool) → (a && b) ≡ (b && a)
and_turned true true = refl
and_turned true false = refl
and_turned false true = refl
and_turned false false = refl

sounds_by : (xs ys zs : List ℕ) → length xs ≡ length zs → length ys ≡ length zs
    → some (sound_at xs zs) (length xs) ≡ not (eqb (count_of sound_not_zero (places xs ys zs)) 0)
unfolding some sound_at is_sound total_of zip zip_with
sounds_by [] ys zs a b = refl
sounds_by (x ∷ xs) ys [] a b = absurd (omega arith)
sounds_by (x ∷ xs) [] (z ∷ zs) a b = absurd (omega arith)
sounds_by (x ∷ xs) (y ∷ ys) (z ∷ zs) a b =
    some_front (sound_at (x ∷ xs) (z ∷ zs)) (length xs)
    ∙ ap₂ (λ (p q : Bool). p || q) (and_turned (not (eqb x 0)) (eqb z 0)) (sounds_by xs ys zs (omega arith) (omega arith))
    ∙ sym (some_more (eqb z 0 && not (eqb x 0)) (count_of sound_not_zero (places xs ys zs)))

-- a record, and all of them
sounds_heard : (st : Receiver) (r : Whole)
    → sounds (hear st r) ≡ not (eqb (count_of sound_not_zero (places_heard (hear st r))) 0)
unfolding sounds hear some total_of zip zip_with
sounds_heard st r =
    split (eqb (hear st r).answer.refusal 0)
    (λ e.
    let ok = eqb-true _ 0 e in
    sounds_by (hear st r).samples (hear st r).ancillary (hear st r).marks
    (length_given st r _ 0 ok ∙ sym (length_given st r _ 2 ok))
    (length_given st r _ 0 ok ∙ sym (length_given st r _ 2 ok)))
    (λ e. rw (refused_gives st r e (R.samples_now st r.cell)))

some_joined : (a b : ℕ) → not (eqb (a + b) 0) ≡ (not (eqb a 0) || not (eqb b 0))
some_joined zero b = ap (λ (k : ℕ). not (eqb k 0)) (zero_on b)
  where
    zero_on : (n : ℕ) → 0 + n ≡ n
    zero_on n = omega arith
some_joined (suc a) b = rw (ne_eqb (suc a + b) 0 (λ e. absurd (omega (arith, e))), ne_eqb (suc a) 0 (suc-ne-zero a))

some_heard : (st : Receiver) (records : List Whole)
    → some_of sounds (heard_from st records) ≡ not (eqb (count_of sound_not_zero (flat_map places_heard (heard_from st records))) 0)
unfolding some_of heard_by total_of flat_map
some_heard st [] = refl
some_heard st (r ∷ rs) =
    let next = onward (hear st r) in
    let here = count_of sound_not_zero (places_heard (hear st r)) in
    let later = count_of sound_not_zero (flat_map places_heard (heard_from next rs)) in
    ap₂ (λ (p q : Bool). p || q) (sounds_heard st r) (some_heard next rs)
    ∙ sym (some_joined here later)
    ∙ sym (ap (λ (n : ℕ). not (eqb n 0))
    (total_joined (λ p. cond (sound_not_zero p) 1 0) (places_heard (hear st r)) (flat_map places_heard (heard_from next rs))))

-- the answer of a log whose header is taken
found_by : (log : List ℕ) → (reading_of log).header.refusal ≡ 0 → (presence_of log).found ≡ some_of sounds (reading_of log).heard
unfolding presence_of answer_of
found_by log ok =
    rw (eq-eqb (reading_of log).header.refusal 0 ok)
    (split (some_of sounds (reading_of log).heard) (λ e. rw e) (λ e. rw e))

pub tools_answer : ToolsAnswer 3 14 4294967295 MeetsSend
unfolding ToolsAnswer ToolsTell counts_of
tools_answer st sends trips log with_overhead row these within fair few is =
    let told = tools_tell st sends trips log with_overhead row these within fair few is in
    let story = told.tells in
    record {
      sheet =
          λ i. record {
            sound = story.sound i;
            missing = story.missing i;
            refused_8 = story.refused_8 i;
            refused_9 = story.refused_9 i;
            refused_15 = story.refused_else 15 (λ e. omega arith) (λ e. omega arith) (λ e. omega arith) i;
            refused_20 = story.refused_else 20 (λ e. omega arith) (λ e. omega arith) (λ e. omega arith) i;
            marked_0 = story.marks 0 i;
            marked_1 = story.marks 1 i;
            marked_2 = story.marks 2 i;
          };
      anything =
          found_by log told.header
          ∙ subst (λ (hs : List Heard). some_of sounds hs ≡ not (eqb (count_of sound_not_zero (flat_map places_heard hs)) 0))
          (sym (read_heard is)) (some_heard _ _)
          ∙ ap (λ (n : ℕ). not (eqb n 0)) story.anything;
    }
