-- Laws of records that are received: sums over them, and a step over one.
-- Assumes nothing.
use mathlib.Core.Bool.{true, false, cond}
use mathlib.Core.List.{List, [], ◌∷◌, ◌++◌, append_assoc, append-nil, flat_map}
use mathlib.Core.Path.{◌≡◌, refl, sym, ◌∙◌, ap, ap₂, subst}
use Prim.Native.Nat.{ℕ, ◌+◌, ◌*◌, ◌-◌, ◌≤◌, ◌<◌}
use native.Mathlib.Nat.{zero-add}
use native.Mathlib.Omega.{arith}
use borrow.Author.Tests.{le-leb, lt-leb}
use lib.Dec.{eqb, leb}
use lib.ListN.{length, length-append}
use Rattle.cell_log.specs.Records.{record_at, cell_at}
use Rattle.cell_log.proofs.Places.{cell_facts}
use Rattle.receiver.specs.declared.Receiver.{Receiver}
use Rattle.receiver.specs.declared.Received.{Received}
use Rattle.receiver.specs.Receiver.{state_refusal, used_now, judged_of}
use Rattle.reading.specs.Heard.{Heard, heard_by, end_by, hear, heard_from, end_of, onward, sound_in, missing_in, refused_with, is_sound}
use Rattle.reading.specs.Records.{Whole, Walk}
use Rattle.reading.specs.Totals.{total_of}
use Rattle.reading.proofs.Heard.{end_joined, missing_few}
use Rattle.reading.proofs.Places.{walk_at}
use Rattle.reading.proofs.Totals.{total_joined}
use Rattle.hearing.specs.declared.receiving.Batch.{Batch}
use Rattle.hearing.specs.Judging.{all_from, stop_of}
use Rattle.hearing.specs.Receiving.{fitting, samples_of, received_to, begun_as}
use Rattle.hearing.specs.Steps.{stopped_as, one_if, needed_of, past_one, past_all, heard_at, Counted, Puts, Ready, Steps}
use Rattle.hearing.proofs.Takes.{samples_long, ancillary_long, marks_long, sound_onward, used_onward, written_none}

pub flat_joined : {A : Type 0} (f : A → List ℕ) (xs ys : List A) → flat_map f (xs ++ ys) ≡ flat_map f xs ++ flat_map f ys
unfolding flat_map
flat_joined f [] ys = refl
flat_joined f (x ∷ xs) ys = ap (λ (l : List ℕ). f x ++ l) (flat_joined f xs ys) ∙ sym (append_assoc (f x) (flat_map f xs) (flat_map f ys))

-- records that have room, and then those that are left to come
pub fitting_past : (done rest : List Heard) (room : ℕ) → length (samples_of done) ≤ room
    → fitting room (done ++ rest) ≡ done ++ fitting (room - length (samples_of done)) rest
unfolding fitting flat_map
fitting_past [] rest room less = let all : room ≡ room - 0 = omega arith in ap (λ (n : ℕ). fitting n rest) all
fitting_past (h ∷ hs) rest room less =
    let long : length (h.samples ++ samples_of hs) ≡ length h.samples + length (samples_of hs) = length-append h.samples (samples_of hs) in
    let first : leb (length h.samples) room ≡ true = le-leb (length h.samples) room (omega (arith, long, less)) in
    let left : room - length h.samples - length (samples_of hs) ≡ room - length (h.samples ++ samples_of hs) = omega (arith, long) in
    rw first
    (ap (λ (l : List Heard). h ∷ l) (fitting_past hs rest (room - length h.samples) (omega (arith, long, less)))
    ∙ ap (λ (n : ℕ). h ∷ (hs ++ fitting n rest)) left)

-- past records and more records
pub past_twice : (b : Batch) (xs ys : List Heard) → past_all (past_all b xs) ys ≡ past_all b (xs ++ ys)
past_twice b xs ys =
    let n : b.next + 49 * length xs + 49 * length ys ≡ b.next + 49 * length (xs ++ ys) = omega (arith, length-append xs ys) in
    let e : b.entries + length (samples_of xs) + length (samples_of ys) ≡ b.entries + length (samples_of (xs ++ ys)) =
    omega (arith, ap length (flat_joined (λ (h : Heard). h.samples) xs ys) ∙ length-append (samples_of xs) (samples_of ys)) in
    let sum : (f : Heard → ℕ) (k : ℕ) → k + total_of f xs + total_of f ys ≡ k + total_of f (xs ++ ys) = λ f k. omega (arith, total_joined f xs ys) in
    let state : end_of (end_of b.state xs) ys ≡ end_of b.state (xs ++ ys) = sym (end_joined hear onward b.state xs ys) in
    λ i. record {
      refusal = b.refusal;
      state = state i;
      next = n i;
      entries = e i;
      stop = b.stop;
      taken = sum (λ h. cond (is_sound h) 1 0) b.taken i;
      missing = sum (λ h. h.answer.missing) b.missing i;
      refused_8 = sum (λ h. cond (eqb h.answer.refusal 8) 1 0) b.refused_8 i;
      refused_9 = sum (λ h. cond (eqb h.answer.refusal 9) 1 0) b.refused_9 i;
      refused_15 = sum (λ h. cond (eqb h.answer.refusal 15) 1 0) b.refused_15 i;
      refused_20 = sum (λ h. cond (eqb h.answer.refusal 20) 1 0) b.refused_20 i;
    }

pub past_none : (b : Batch) → b ≡ past_all b []
unfolding end_by flat_map total_of
past_none b =
    let same : (k : ℕ) → k ≡ k + 0 = λ k. omega arith in
    let n : b.next ≡ b.next + 49 * 0 = omega arith in
    λ i. record {
      refusal = b.refusal;
      state = b.state;
      next = n i;
      entries = same b.entries i;
      stop = b.stop;
      taken = same b.taken i;
      missing = same b.missing i;
      refused_8 = same b.refused_8 i;
      refused_9 = same b.refused_9 i;
      refused_15 = same b.refused_15 i;
      refused_20 = same b.refused_20 i;
    }

past_one_is : (b : Batch) (h : Heard) → past_one b h.answer (length h.samples) ≡ past_all b (h ∷ [])
unfolding end_by flat_map total_of
past_one_is b h =
    let one : (k n : ℕ) → k + n ≡ k + (n + 0) = λ k n. omega arith in
    let far : b.next + 49 ≡ b.next + 49 * 1 = omega arith in
    let e : b.entries + length h.samples ≡ b.entries + length (h.samples ++ []) =
    ap (λ (l : List ℕ). b.entries + length l) (sym (append-nil h.samples)) in
    λ i. record {
      refusal = b.refusal;
      state = onward h;
      next = far i;
      entries = e i;
      stop = b.stop;
      taken = one b.taken (one_if h.answer.refusal 0) i;
      missing = one b.missing h.answer.missing i;
      refused_8 = one b.refused_8 (one_if h.answer.refusal 8) i;
      refused_9 = one b.refused_9 (one_if h.answer.refusal 9) i;
      refused_15 = one b.refused_15 (one_if h.answer.refusal 15) i;
      refused_20 = one b.refused_20 (one_if h.answer.refusal 20) i;
    }

-- past records from the first on
pub received_is : (st : Receiver) (log : List ℕ) (place : ℕ) (heard : List Heard)
    → stopped_as (past_all (begun_as 0 st place) heard) (stop_of (record_at log (place + 49 * length heard))) ≡ received_to st log place heard
received_is st log place heard =
    let e : 0 + length (samples_of heard) ≡ length (samples_of heard) = zero-add _ in
    let t : 0 + sound_in heard ≡ sound_in heard = zero-add _ in
    let m : 0 + missing_in heard ≡ missing_in heard = zero-add _ in
    let refused : (n : ℕ) → 0 + refused_with n heard ≡ refused_with n heard = λ n. zero-add _ in
    λ i. record {
      refusal = 0;
      state = end_of st heard;
      next = place + 49 * length heard;
      entries = e i;
      stop = stop_of (record_at log (place + 49 * length heard));
      taken = t i;
      missing = m i;
      refused_8 = refused 8 i;
      refused_9 = refused 9 i;
      refused_15 = refused 15 i;
      refused_20 = refused 20 i;
    }

one_few : (number wanted : ℕ) → one_if number wanted ≤ 1
one_few number wanted = few (eqb number wanted)
  where
    few : (b : _) → cond b 1 0 ≤ 1
    few true = omega arith
    few false = omega arith

-- the record at a place comes next
pub comes_next : (st : Receiver) (log : List ℕ) (place : ℕ) → (record_at log place).what ≡ 1
    → all_from st log place ≡ heard_at st log place ∷ all_from (onward (heard_at st log place)) log (place + 49)
unfolding heard_by
comes_next st log place there = ap (λ (w : Walk). heard_from st w.records) (walk_at log place there)

-- a step over one record
module _ (b : Batch) (used : ℕ) (log samples ancillary marks : List ℕ) (ready : Ready b used log samples ancillary marks)
    (there : (record_at log b.next).what ≡ 1)
  where
    abbrev h : Heard
    h = heard_at b.state log b.next

    abbrev whole : Whole
    whole = record { indication = (record_at log b.next).indication; cell = cell_at log b.next }

    pub got_is : {cell : List ℕ} {got : Received} {indication : _} → cell ≡ cell_at log b.next → indication ≡ (record_at log b.next).indication
        → got ≡ judged_of b.state cell indication → got ≡ h.answer
    unfolding hear
    got_is e i g = g ∙ rw (i, e)

    module _ {got : Received} (is : got ≡ h.answer) {entries : ℕ} (n : entries ≡ needed_of got used) where
      entries_is : entries ≡ length h.samples
      entries_is =
          n ∙ ap₂ (λ (g : Received) (u : ℕ). needed_of g u) is ready.used_is ∙ sym (samples_long b.state whole)

      same_long : (column : Heard → List ℕ) → length (column h) ≡ length h.samples → length (column h ++ []) ≡ length (h.samples ++ [])
      same_long column e = ap length (append-nil (column h)) ∙ e ∙ ap length (sym (append-nil h.samples))

      pub steps_on : entries ≤ length samples - b.entries → {r : Batch} {samples₁ ancillary₁ marks₁ : List ℕ}
          → Puts (h ∷ []) b.entries samples ancillary marks samples₁ ancillary₁ marks₁ → r ≡ past_one b got entries
          → Steps b used log samples ancillary marks r samples₁ ancillary₁ marks₁
      unfolding flat_map
      steps_on room {r} puts r-is =
          let facts = cell_facts log b.next there in
          let moved : r ≡ past_all b (h ∷ []) =
          r-is ∙ ap₂ (λ (g : Received) (k : ℕ). past_one b g k) is entries_is ∙ past_one_is b h in
          let state : r.state ≡ onward h = ap (λ (x : Batch). x.state) r-is ∙ ap (λ (g : Received). g.state) is in
          let next : r.next ≡ b.next + 49 = ap (λ (x : Batch). x.next) r-is in
          let few = missing_few b.state whole in
          let c = ready.counted in
          record {
            new = h ∷ [];
            comes = comes_next b.state log b.next there ∙ (λ i. h ∷ all_from (sym state i) log (sym next i));
            moves = moved ∙ ap (stopped_as (past_all b (h ∷ []))) (sym (ap (λ (x : Batch). x.stop) moved));
            on = λ z. (omega arith, omega (arith, next, facts.0));
            full = λ z. absurd (z (ap (λ (x : Batch). x.stop) r-is ∙ ready.going));
            ancillary_long = same_long (λ (x : Heard). x.ancillary) (ancillary_long b.state whole ∙ sym (samples_long b.state whole));
            marks_long = same_long (λ (x : Heard). x.marks) (marks_long b.state whole ∙ sym (samples_long b.state whole));
            puts = puts;
            sound_still = ap state_refusal state ∙ sound_onward b.state whole ready.sound;
            used_still = ready.used_is ∙ sym (used_onward b.state whole) ∙ ap used_now (sym state);
            counted_still =
                subst Counted (sym r-is)
                (record {
                  taken_to_lem = omega (arith, c.taken_to_lem, one_few got.refusal 0);
                  missing_to = omega (arith, c.missing_to, few, ap (λ (g : Received). g.missing) is);
                  eight_to = omega (arith, c.eight_to, one_few got.refusal 8);
                  nine_to = omega (arith, c.nine_to, one_few got.refusal 9);
                  fifteen_to = omega (arith, c.fifteen_to, one_few got.refusal 15);
                  twenty_to = omega (arith, c.twenty_to, one_few got.refusal 20);
                });
            within_still = omega (arith, ap (λ (x : Batch). x.entries) r-is, room, ready.within);
          }

      pub steps_full : length samples - b.entries < entries → {r : Batch} → r ≡ stopped_as b 10
          → Steps b used log samples ancillary marks r samples ancillary marks
      unfolding flat_map fitting end_by
      steps_full short {r} r-is =
          let stop : r.stop ≡ 10 = ap (λ (x : Batch). x.stop) r-is in
          let moved : stopped_as b 10 ≡ stopped_as (past_all b []) 10 = ap (λ (x : Batch). stopped_as x 10) (past_none b) in
          let none-fit : fitting (length samples - b.entries) (all_from b.state log b.next) ≡ [] =
          ap (fitting (length samples - b.entries)) (comes_next b.state log b.next there)
          ∙ rw (lt-leb (length h.samples) (length samples - b.entries) (omega (arith, entries_is, short))) in
          record {
            new = [];
            comes = λ i. all_from (sym r-is i).state log (sym r-is i).next;
            moves = r-is ∙ moved ∙ ap (stopped_as (past_all b [])) (sym stop);
            on = λ z. absurd (omega (arith, stop, z));
            full = λ z. (
              stop,
              (λ i. (record_at log (r-is i).next).what) ∙ there,
              (λ i. fitting (length samples - (r-is i).entries) (all_from (r-is i).state log (r-is i).next)) ∙ none-fit,
            );
            ancillary_long = refl;
            marks_long = refl;
            puts =
                record {
                  samples_are = written_none samples b.entries;
                  ancillary_is = written_none ancillary b.entries;
                  marks_are = written_none marks b.entries;
                };
            sound_still = ap (λ (x : Batch). state_refusal x.state) r-is ∙ ready.sound;
            used_still = ready.used_is ∙ ap (λ (x : Batch). used_now x.state) (sym r-is);
            counted_still = subst Counted (sym r-is) (record {
              taken_to_lem = ready.counted.taken_to_lem;
              missing_to = ready.counted.missing_to;
              eight_to = ready.counted.eight_to;
              nine_to = ready.counted.nine_to;
              fifteen_to = ready.counted.fifteen_to;
              twenty_to = ready.counted.twenty_to;
            });
            within_still = omega (arith, ap (λ (x : Batch). x.entries) r-is, ready.within);
          }
