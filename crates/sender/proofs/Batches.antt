-- Laws of a whole call: how many cells may be sent, and why it stops.
-- Assumes nothing.
use Rattle.std.proofs.Common.{◌≡◌, ℕ, suc, ◌+◌, ◌-◌, ◌*◌, ◌/◌, ◌<◌, ◌≤◌, Bool, not, eqb, ltb, List, length, take, sym, ap, ◌∙◌, subst, mul-le-mul_right, mod-lt, suc-mul, div-add-mod', arith, length-take-le, ltb-false, ltb-true, le-ltb, lt-ltb, eq-eqb, ne_eqb, eqb-true}
use borrow.Author.Tests.{eqb-false, not-true}
use Rattle.runs.proofs.Laws.{split, first_refuses, then_later}
use Rattle.formats.specs.Settled.{Settled}
use Rattle.formats.specs.Settings.{settings_of}
use Rattle.sender.specs.declared.Sender.{Sender}
use Rattle.sender.specs.declared.many.Batch.{Batch}
use Rattle.sender.specs.declared.many.Reached.{Reached}
use Rattle.sender.specs.Many.{SentCell, sent_into, room_from, stop_after, batch_of, batch_not, batch_refusal, SendsMany}
use Rattle.sender.specs.ManyCode.{Bounds, WritesMany, stop_by}
use Rattle.sender.specs.Packing.{values_refused_by}
use Rattle.sender.specs.Sender.{used_now, state_refusal}
use Rattle.sender.proofs.Cellwise.{used_now_lem, limits_now}

-- a call that is refused
module _ (indications : Bool) (st : Sender) (samples ancillary log : List ℕ) (place : ℕ) where
  pub batch_refused : {refusal : ℕ} {answer : Batch} → (refusal ≡ 0 → ⊥) → refusal ≡ batch_refusal st samples ancillary
      → answer ≡ batch_not refusal st → SendsMany indications st samples ancillary log place answer log
  batch_refused {refusal} some e a =
      record { answered = a ∙ rw (← e, ne_eqb refusal 0 some); log_after_lem = rw (← e, ne_eqb refusal 0 some) }

  pub state_refuses : {refusal : ℕ} → (refusal ≡ 0 → ⊥) → refusal ≡ state_refusal st → refusal ≡ batch_refusal st samples ancillary
  unfolding batch_refusal
  state_refuses some e = e ∙ sym (first_refuses _ (λ z. some (e ∙ z)))

  pub lengths_refuse : state_refusal st ≡ 0 → (length ancillary ≡ length samples → ⊥) → 5 ≡ batch_refusal st samples ancillary
  unfolding batch_refusal
  lengths_refuse none other = sym (then_later _ none ∙ rw (ne_eqb (length ancillary) (length samples) other))

-- one that isn't
module _ {set : Settled} (st : Sender) (given : set ≡ settings_of st.format st.channels st.order) (none : state_refusal st ≡ 0)
    (samples ancillary log : List ℕ) (place : ℕ) (same : length ancillary ≡ length samples)
  where
    abbrev used : ℕ
    used = set.channels * set.times

    abbrev whole : ℕ
    whole = length samples / used

    abbrev room : ℕ
    room = room_from log place

    pub used_some : 1 ≤ used
    used_some =
        let l = limits_now st none given in
        omega (arith, l.channels_from, l.times_from, mul-le-mul_right set.times l.channels_from)

    all_whole : whole * used ≤ length samples
    all_whole = omega (arith, div-add-mod' (length samples) used)

    no_other : length samples < whole * used + used
    no_other = omega (arith, div-add-mod' (length samples) used, mod-lt (length samples) used_some)

    module _ {most : ℕ} (to_whole : most ≤ whole) (to_room : most ≤ room) (or-whole : most < room → most ≡ whole) where
      pub most_there : most * used ≤ length samples
      most_there = omega (arith, all_whole, mul-le-mul_right used to_whole)

      pub parts_same : length (take (most * used) ancillary) ≡ length (take (most * used) samples)
      parts_same =
          length-take-le (most * used) ancillary (omega (arith, same, most_there)) ∙ sym (length-take-le (most * used) samples most_there)

      pub bounds : {sound large : Bool} → large ≡ values_refused_by set.format (take (most * used) samples) (take (most * used) ancillary)
          → sound ≡ not large → Bounds set st samples ancillary log place most sound
      bounds {sound} {large} e is =
          let n : used ≡ used_now st = used_now_lem st none given in
          record {
            given = given;
            state_none = none;
            same = same;
            entries = subst (λ (k : ℕ). most * k ≤ length samples) n most_there;
            room = to_room;
            no_more = λ less.
                subst (λ (k : ℕ). length samples < most * k + k) n
                (subst (λ (k : ℕ). length samples < k * used + used) (sym (or-whole less)) no_other);
            all_sound = λ so.
                (λ i. values_refused_by set.format (take (most * sym n i) samples) (take (most * sym n i) ancillary))
                ∙ sym e
                ∙ not-true large (sym is ∙ so);
          }

      -- why it stops
      by_stop : {cells : ℕ} → cells ≤ most → stop_by cells most whole ≡ stop_after used (length samples) (length log) place cells
      unfolding stop_after
      by_stop {cells} within =
          split (ltb cells most)
          (λ t.
          let less : suc cells ≤ most = ltb-true cells most t in
          let some : used ≤ length samples - cells * used =
          omega (arith, most_there, suc-mul cells used, mul-le-mul_right used less) in
          let fits : place + 49 * cells + 49 ≤ length log = omega (arith, less, to_room) in
          rw (t, le-ltb (length samples - cells * used) used some, le-ltb (length log) (place + 49 * cells + 49) fits))
          (λ t.
          let last : cells ≡ most = omega (arith, within, ltb-false cells most t) in
          split (eqb cells whole)
          (λ e.
          let all : cells * used ≡ whole * used = ap (λ (n : ℕ). n * used) (eqb-true cells whole e) in
          let few : length samples - cells * used < used = omega (arith, all, no_other, all_whole) in
          rw (t, e, lt-ltb (length samples - cells * used) used few))
          (λ e.
          let not-all : suc cells ≤ whole = omega (arith, last, to_whole, eqb-false cells whole e) in
          let some : used ≤ length samples - cells * used =
          omega (arith, all_whole, suc-mul cells used, mul-le-mul_right used not-all) in
          let full : room ≤ cells = at_room last (eqb-false cells whole e) in
          let cut : length log < place + 49 * cells + 49 = omega (arith, full) in
          rw (t, e, le-ltb (length samples - cells * used) used some, lt-ltb (length log) (place + 49 * cells + 49) cut)))
        where
          at_room : {cells : ℕ} → cells ≡ most → (cells ≡ whole → ⊥) → room ≤ cells
          at_room {cells} last other =
              split (ltb most room)
              (λ t. absurd (other (last ∙ or-whole (ltb-true most room t))))
              (λ t. omega (arith, last, ltb-false most room t))

      pub batch_sent : (indications : Bool) {answer : Reached} {stop : ℕ} {log₁ : List ℕ}
          → WritesMany indications st samples ancillary log place most answer log₁ → stop ≡ stop_by answer.cells most whole
          → SendsMany indications st samples ancillary log place
          (record {
            refusal = 0;
            state = answer.state;
            next = place + 49 * answer.cells;
            entries = answer.cells * used;
            stop = stop;
            cells = answer.cells;
          })
          log₁
      unfolding batch_refusal
      batch_sent indications {answer} {stop} w stop_is =
          let n : used ≡ used_now st = used_now_lem st none given in
          let nothing : batch_refusal st samples ancillary ≡ 0 = then_later _ none ∙ rw (eq-eqb (length ancillary) (length samples) same) in
          let row : List SentCell = sent_into indications st samples ancillary log place in
          let why : stop ≡ stop_after (used_now st) (length samples) (length log) place (length row) =
          stop_is ∙ by_stop w.within ∙ (λ i. stop_after (n i) (length samples) (length log) place (w.cells_are i)) in
          let right : record {
            refusal = 0;
            state = answer.state;
            next = place + 49 * answer.cells;
            entries = answer.cells * used;
            stop = stop;
            cells = answer.cells;
          } ≡ batch_of st samples log place row =
          λ i. record {
            refusal = 0;
            state = w.state_is i;
            next = place + 49 * w.cells_are i;
            entries = w.cells_are i * n i;
            stop = why i;
            cells = w.cells_are i;
          } in
          record { answered = right ∙ rw nothing; log_after_lem = w.log_after_lem ∙ rw nothing }
