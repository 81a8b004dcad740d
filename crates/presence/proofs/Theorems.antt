-- Request 7's sentences as theorems over the answer's definition.
-- Assumes nothing.
use Rattle.std.proofs.Common.{◌≡◌, ℕ, suc, ◌+◌, ◌<◌, true, false, not, eqb, List, [], ◌∷◌, ◌++◌, length, get_or, sym, refl, ap, ◌∙◌, subst, true≢false, arith, eq-eqb, ne_eqb, eqb-true}
use borrow.Author.Tests.{eqb-false, not-true}
use Rattle.runs.proofs.Laws.{split, both_true, neither}
use Rattle.cell_log.specs.Records.{header_of}
use Rattle.receiver.specs.declared.Receiver.{Receiver}
use Rattle.reading.specs.Heard.{Heard, heard_by, end_by, hear, onward, heard_from}
use Rattle.reading.specs.Reading.{fresh_of, behind_header}
use Rattle.reading.specs.Records.{Whole, records_in}
use Rattle.reading.proofs.Heard.{length_heard}
use Rattle.glance.specs.Glance.{is_sound, sound_at}
use Rattle.glance.proofs.Some.{Passing, some_here, some_where}
use Rattle.presence.specs.declared.Presence.{Presence}
use Rattle.presence.specs.Handed.{Call, HandsOut, AllSilent, FirstAt, FirstIn}
use Rattle.presence.specs.Presence.{sounds, some_of, first_of, yes_at, answer_of, presence_of}
use Rattle.presence.proofs.Laws.{
  or_rest,
  answer_from,
  from_start,
  from_yes,
  from_next,
  answer_found,
  answer_first,
  answer_all,
  answer_taken,
}
use Rattle.presence.proofs.Said.{silent, length_samples, wrote_is, same_there}
use Rattle.presence.proofs.Walks.{presence_refused, presence_taken}

-- "It should stop at the first one. The answer must equal that of reading every record": with the first such record found, what
-- is read behind it can't change the answer
stop_from : (n : ℕ) (before : List Heard) (h : Heard) (more : List Heard) → some_of sounds before ≡ false → sounds h ≡ true
    → answer_from n (before ++ (h ∷ more)) ≡ yes_at (n + length before)
unfolding some_of
stop_from n [] h more none e = let here : n ≡ n + 0 = omega arith in from_yes n h more e ∙ ap yes_at here
stop_from n (x ∷ xs) h more none e =
    let both = neither (sounds x) (some_of sounds xs) none in
    let all : n + 1 + length xs ≡ n + suc (length xs) = omega arith in
    from_next n x (xs ++ (h ∷ more)) both.0 ∙ stop_from (n + 1) xs h more both.1 e ∙ ap yes_at all

pub stop_is_all : (before : List Heard) (h : Heard) (more : List Heard) → some_of sounds before ≡ false → sounds h ≡ true
    → answer_of (before ++ (h ∷ more)) ≡ yes_at (length before)
stop_is_all before h more none e =
    let all : 0 + length before ≡ length before = omega arith in
    from_start (before ++ (h ∷ more)) ∙ stop_from 0 before h more none e ∙ ap yes_at all

-- "a yes found before a later fault stays a yes": it is the same with the records up to any place behind it
stays_from : (n : ℕ) (heard more : List Heard) → some_of sounds heard ≡ true → answer_from n (heard ++ more) ≡ answer_from n heard
unfolding some_of
stays_from n [] more e = absurd (true≢false (sym e))
stays_from n (x ∷ xs) more e =
    split (sounds x)
    (λ t. from_yes n x (xs ++ more) t ∙ sym (from_yes n x xs t))
    (λ f.
    from_next n x (xs ++ more) f
    ∙ stays_from (n + 1) xs more (or_rest (sounds x) (some_of sounds xs) f e)
    ∙ sym (from_next n x xs f))

pub yes_stays : (heard more : List Heard) → (answer_of heard).found ≡ true → answer_of (heard ++ more) ≡ answer_of heard
yes_stays heard more e =
    from_start (heard ++ more) ∙ stays_from 0 heard more (sym (answer_found heard) ∙ e) ∙ sym (from_start heard)

-- a record says yes exactly where a call of the receiver hands such a sample out
module _ {st : Receiver} {r : Whole} (call : Call st r) where
  abbrev h : Heard
  h = hear st r

  not_refused : sounds h ≡ true → call.answer.refusal ≡ 0
  not_refused e =
      split (eqb call.answer.refusal 0)
      (λ t. eqb-true call.answer.refusal 0 t)
      (λ t.
      absurd (true≢false (sym e
      ∙ silent st r.cell r.indication call.meets call.samples_lent call.ancillary_lent call.marks_lent
      (eqb-false call.answer.refusal 0 t))))

  same : call.answer.refusal ≡ 0 → (i : ℕ) → i < length h.samples
      → sound_at call.samples_after call.marks_after i ≡ sound_at h.samples h.marks i
  same = same_there st r.cell r.indication call.meets call.samples_lent call.ancillary_lent call.marks_lent

  pub hands_out : sounds h ≡ true → HandsOut call
  unfolding sounds sound_at is_sound
  hands_out e =
      let taken = not_refused e in
      let where-it-is : Passing (sound_at h.samples h.marks) (length h.samples) =
      some_where (sound_at h.samples h.marks) (length h.samples) e in
      let both = both_true (not (eqb (get_or call.samples_after where-it-is.place 0) 0)) _
      (same taken where-it-is.place where-it-is.within ∙ where-it-is.passes) in
      record {
        taken = taken;
        place = where-it-is.place;
        written = omega (
          arith,
          where-it-is.within,
          length_samples st r.cell r.indication call.meets call.samples_lent call.ancillary_lent
              call.marks_lent taken,
          wrote_is st r.cell r.indication call.meets call.samples_lent call.ancillary_lent
              call.marks_lent taken,
        );
        sample = eqb-false (get_or call.samples_after where-it-is.place 0) 0 (not-true _ both.0);
        mark = eqb-true (get_or call.marks_after where-it-is.place 0) 0 both.1;
      }

  pub hands_out_none : sounds h ≡ false → HandsOut call → ⊥
  unfolding sounds sound_at is_sound
  hands_out_none f out =
      let within : out.place < length h.samples = omega (
        arith,
        out.written,
        length_samples st r.cell r.indication call.meets call.samples_lent call.ancillary_lent call.marks_lent
            out.taken,
        wrote_is st r.cell r.indication call.meets call.samples_lent call.ancillary_lent call.marks_lent
            out.taken,
      ) in
      let there : sound_at call.samples_after call.marks_after out.place ≡ true =
      rw (
        ne_eqb (get_or call.samples_after out.place 0) 0 out.sample,
        eq-eqb (get_or call.marks_after out.place 0) 0 out.mark,
      ) in
      true≢false
      (sym (some_here (sound_at h.samples h.marks) (length h.samples) out.place within
      (sym (same out.taken out.place within) ∙ there)) ∙ f)

first_later : (h : Heard) (heard : List Heard) → sounds h ≡ false → suc (first_of sounds heard) ≡ first_of sounds (h ∷ heard)
unfolding first_of
first_later h heard f = rw f

-- the first of records in a row, from any state on
first_at : (st : Receiver) (records : List Whole) → some_of sounds (heard_from st records) ≡ true
    → FirstAt st records (first_of sounds (heard_from st records))
unfolding heard_by end_by some_of first_of AllSilent
first_at st [] e = absurd (true≢false (sym e))
first_at st (r ∷ rs) e =
    split (sounds (hear st r))
    (λ t.
    record {
      before = [];
      here = r;
      more = rs;
      records_are = refl;
      counted = rw t;
      handed_out = λ call. hands_out call t;
      none_earlier = tt;
    })
    (λ f.
    let next : FirstAt (onward (hear st r)) rs (first_of sounds (heard_from (onward (hear st r)) rs)) =
    first_at (onward (hear st r)) rs (or_rest (sounds (hear st r)) _ f e) in
    record {
      before = r ∷ next.before;
      here = next.here;
      more = next.more;
      records_are = ap (λ (l : List Whole). r ∷ l) next.records_are;
      counted = ap suc next.counted ∙ first_later (hear st r) (heard_from (onward (hear st r)) rs) f;
      handed_out = next.handed_out;
      none_earlier = (λ call. hands_out_none call f, next.none_earlier);
    })

none_at : (st : Receiver) (records : List Whole) → some_of sounds (heard_from st records) ≡ false → AllSilent st records
unfolding heard_by some_of AllSilent
none_at st [] e = tt
none_at st (r ∷ rs) e =
    let both = neither (sounds (hear st r)) (some_of sounds (heard_from (onward (hear st r)) rs)) e in
    (λ call. hands_out_none call both.0, none_at (onward (hear st r)) rs both.1)

-- of a log
module _ (log : List ℕ) where
  abbrev heard : List Heard
  heard = heard_from (fresh_of (header_of log)) (records_in (behind_header log))

  -- the refusal is the header's, and then there is nothing else
  pub presence_refusal : (presence_of log).refusal ≡ (header_of log).refusal
  presence_refusal =
      split (eqb (header_of log).refusal 0)
      (λ t.
      let none = eqb-true (header_of log).refusal 0 t in
      ap (λ (p : Presence). p.refusal) (presence_taken log none) ∙ answer_taken heard ∙ sym none)
      (λ t. ap (λ (p : Presence). p.refusal) (presence_refused log (eqb-false (header_of log).refusal 0 t)))

  pub presence_nothing : ((presence_of log).refusal ≡ 0 → ⊥) → ((presence_of log).found ≡ false) × ((presence_of log).number ≡ 0)
  presence_nothing some =
      let is = presence_refused log (λ e. some (presence_refusal ∙ e)) in
      (ap (λ (p : Presence). p.found) is, ap (λ (p : Presence). p.number) is)

  found_taken : (presence_of log).found ≡ true → (header_of log).refusal ≡ 0
  found_taken e =
      split (eqb (header_of log).refusal 0)
      (λ t. eqb-true (header_of log).refusal 0 t)
      (λ t.
      absurd (true≢false (sym e
      ∙ ap (λ (p : Presence). p.found) (presence_refused log (eqb-false (header_of log).refusal 0 t)))))

  -- "It also tells the first such record": the receiver hands such a sample out in that record, and in no earlier one
  pub yes_is_handed_out : (presence_of log).found ≡ true → FirstIn log (presence_of log).number
  yes_is_handed_out e =
      let is = presence_taken log (found_taken e) in
      let some : some_of sounds heard ≡ true = sym (answer_found heard) ∙ sym (ap (λ (p : Presence). p.found) is) ∙ e in
      subst (FirstIn log) (sym (ap (λ (p : Presence). p.number) is ∙ answer_first heard some))
      (first_at (fresh_of (header_of log)) (records_in (behind_header log)) some)

  -- "a no tells how many whole records were read": it hands out none in any of them
  pub no_is_silent : (header_of log).refusal ≡ 0 → (presence_of log).found ≡ false
      → ((presence_of log).number ≡ length (records_in (behind_header log)))
      × AllSilent (fresh_of (header_of log)) (records_in (behind_header log))
  no_is_silent none e =
      let is = presence_taken log none in
      let silent-all : some_of sounds heard ≡ false = sym (answer_found heard) ∙ sym (ap (λ (p : Presence). p.found) is) ∙ e in (
        ap (λ (p : Presence). p.number) is
            ∙ answer_all heard silent-all
            ∙ length_heard hear onward (fresh_of (header_of log)) (records_in (behind_header log)),
        none_at (fresh_of (header_of log)) (records_in (behind_header log)) silent-all,
      )
