-- Laws of the answers: what the code knows at each return gives the whole promise.
-- Assumes nothing.
use mathlib.Core.Bool.{true, false, cond}
use mathlib.Core.List.{List, [], ◌∷◌, ◌++◌}
use mathlib.Core.Path.{◌≡◌, sym, ◌∙◌, ap, ap₂}
use Prim.Native.Nat.{ℕ, ◌+◌, ◌*◌, ◌/◌, ◌-◌, ◌≤◌, ◌<◌}
use native.Mathlib.Omega.{arith}
use borrow.Author.Tests.{eq-eqb, ne_eqb, eqb-false, leb-true, leb-false, le-ltb}
use lib.Dec.{eqb, leb}
use lib.ListN.{length, take}
use lib.Seq.{length-take-le}
use Rattle.runs.specs.Refusals.{or_else}
use Rattle.runs.specs.Runs.{over, written}
use Rattle.runs.proofs.Laws.{split}
use Rattle.formats.specs.Formats.{settings_refusal}
use Rattle.cell_log.specs.Answers.{Header, Kept}
use Rattle.cell_log.specs.Records.{header_of}
use Rattle.cell_log.specs.Written.{Keeps, header_octets, header_refused_of}
use Rattle.cell_log.proofs.Headers as headers
use Rattle.receiver.specs.declared.Ready.{Ready}
use Rattle.receiver.specs.declared.Receiver.{Receiver}
use Rattle.receiver.specs.Receiver.{opened_of}
use Rattle.reading.specs.Heard.{Heard, sound_in, refused_in, kept_of}
use Rattle.reading.specs.Reading.{Reading, fresh_of, reading_of}
use Rattle.reading.specs.Records.{octets_in}
use Rattle.reading.proofs.Reading.{header_long, header_octets_lem, header_settles, reading_is}
use Rattle.saving.specs.declared.Salvaged.{Salvaged}
use Rattle.saving.specs.declared.Standing.{Standing}
use Rattle.saving.specs.Code.{not_saved, all_of, Counts, Room, Writes}
use Rattle.saving.specs.Salvage.{
  new_log,
  list_from,
  list_of,
  left_out_of,
  cut_from,
  salvage_refusal,
  salvaged_of,
  saved_into,
  Salvages,
}
use Rattle.saving.proofs.Laws.{
  list_long,
  heard_is,
  new_long,
  octets_add_up,
  header_refuses,
  salvaged_is,
  taken_is,
  out_too_short,
  list_too_short,
  room_for_both,
  too_short,
  always_room,
}
use Rattle.saving.proofs.Writing.{written_on, written_front}

-- a refusal leaves both outputs as they were
unsaved : {log out list : List ℕ} {answer : Salvaged} {refusal : ℕ} → salvage_refusal log (length out) (length list) ≡ refusal
    → (refusal ≡ 0 → ⊥) → answer ≡ not_saved refusal → Salvages log out list answer out list
unfolding salvaged_of saved_into over
unsaved {refusal = refusal} e some a =
    record {
      answered = a ∙ rw (e, ne_eqb refusal 0 some);
      out_after = rw (e, ne_eqb refusal 0 some);
      list_after = rw (e, ne_eqb refusal 0 some);
    }

-- a log whose header is taken, and a fresh receiver
module _ (log : List ℕ) (ok : (header_of log).refusal ≡ 0) {state : Receiver} (fresh : state ≡ fresh_of (header_of log)) where
  all : all_of log state ≡ (reading_of log).heard
  all = ap (λ (st : Receiver). all_of log st) fresh ∙ sym (heard_is log ok)

  -- where a walk ends
  module _ {here : Standing} (counts : Counts log state here) where
    kept_is : here.kept ≡ sound_in (reading_of log).heard
    kept_is = counts.kept ∙ ap (λ (hs : List Heard). sound_in hs) all

    left_is : here.left_out ≡ left_out_of log
    left_is = counts.left ∙ ap (λ (hs : List Heard). refused_in hs) all

    cut_is : length log - here.place ≡ cut_from log
    cut_is = counts.cut ∙ ap (λ (r : Reading). length r.rest) (sym (reading_is log ok))

    new_octets : length (new_log log) ≡ 3 + 49 * here.kept
    new_octets = new_long log ok ∙ ap (λ (n : ℕ). 3 + 49 * n) (sym kept_is)

    list_numbers_lem : length (list_of log) ≡ 2 * here.left_out
    list_numbers_lem = list_long 0 (reading_of log).heard ∙ ap (λ (n : ℕ). 2 * n) (sym left_is)

    -- the counts are no larger than the log
    pub few : 3 + 49 * here.kept + 49 * here.left_out ≤ length log
    few = omega (arith, octets_add_up log ok, new_octets, left_is)

    -- whether there is room for what was counted
    pub out_short : (out list : ℕ) → out < 3 + 49 * here.kept → false ≡ eqb (salvage_refusal log out list) 0
    out_short out list h =
        sym (ne_eqb (salvage_refusal log out list) 0
        (λ z. omega (arith, z, out_too_short log out list ok (omega (arith, h, new_octets)))))

    pub by_list : (out list : ℕ) → 3 + 49 * here.kept ≤ out
        → leb (2 * here.left_out) list ≡ eqb (salvage_refusal log out list) 0
    by_list out list h =
        let out_long : length (new_log log) ≤ out = omega (arith, h, new_octets) in
        split (leb (2 * here.left_out) list)
        (λ t.
        rw t
        (sym (eq-eqb (salvage_refusal log out list) 0
        (room_for_both log out list ok out_long (omega (arith, leb-true (2 * here.left_out) list t, list_numbers_lem))))))
        (λ t.
        rw t
        (sym (ne_eqb (salvage_refusal log out list) 0
        (λ z.
        omega (
          arith,
          z,
          list_too_short log out list ok out_long (omega (arith, leb-false (2 * here.left_out) list t, list_numbers_lem)),
        )))))

  pub room_always : (out list : ℕ) → length log ≤ out → length log / 49 * 2 ≤ list → true ≡ eqb (salvage_refusal log out list) 0
  room_always out list h l =
      sym (eq-eqb (salvage_refusal log out list) 0 (always_room log out list ok h (omega (arith, l))))

  pub room : {out list : ℕ} → salvage_refusal log out list ≡ 0 → Room log state out list
  room {out} {list} none =
      let known = taken_is log out list none in
      record {
        headed = header_long log ok;
        out_room =
            omega (arith, known.1, new_long log ok, ap (λ (hs : List Heard). sound_in hs) all);
        list_room_lem =
            omega (arith, known.2, list_long 0 (reading_of log).heard, ap (λ (hs : List Heard). refused_in hs) all);
      }

-- a call
module _ (log : List ℕ) {header : Header} (read : header ≡ header_of log) where
  same_refusal : (header_of log).refusal ≡ header.refusal
  same_refusal = sym (ap (λ (h : Header). h.refusal) read)

  pub header_unsaved : {out list : List ℕ} {answer : Salvaged} → (header.refusal ≡ 0 → ⊥) → answer ≡ not_saved header.refusal
      → Salvages log out list answer out list
  header_unsaved {out} {list} some a =
      unsaved (header_refuses log (length out) (length list) (λ z. some (sym same_refusal ∙ z)) ∙ same_refusal) some a

  module _ (none : header.refusal ≡ 0) where
    pub ok : (header_of log).refusal ≡ 0
    ok = same_refusal ∙ none

    pub short_unsaved : {out list : List ℕ} {answer : Salvaged} → eqb (salvage_refusal log (length out) (length list)) 0 ≡ false
        → answer ≡ not_saved 21 → Salvages log out list answer out list
    short_unsaved {out} {list} e a =
        unsaved (too_short log (length out) (length list) ok (eqb-false _ 0 e)) (λ z. omega (arith, z)) a

    module _ {ready : Ready} (opened : ready ≡ opened_of header.format header.channels header.order) where
      pub fresh_state : ready.state ≡ fresh_of (header_of log)
      fresh_state =
          ap (λ (r : Ready). r.state) opened
          ∙ ap (λ (h : Header). (opened_of h.format h.channels h.order).state) read

      -- what is written
      module _ (out list : List ℕ) (taken : salvage_refusal log (length out) (length list) ≡ 0) where
        settles : settings_refusal header.format header.channels header.order ≡ 0
        settles =
            ap (λ (h : Header). settings_refusal h.format h.channels h.order) read ∙ header_settles log ok

        abbrev octets : List ℕ
        octets = header_octets header.format header.channels header.order

        three : octets ≡ header.format ∷ header.channels ∷ header.order ∷ []
        three = headers.header_octets_lem header.format header.channels header.order settles

        same_three : octets ≡ take 3 log
        same_three =
            three
            ∙ ap (λ (h : Header). h.format ∷ h.channels ∷ h.order ∷ []) read
            ∙ sym (header_octets_lem log ok)

        out_long : 3 ≤ length out
        out_long = omega (arith, (taken_is log (length out) (length list) taken).1, new_long log ok)

        header_room : header_refused_of out header.format header.channels header.order ≡ 0
        unfolding header_refused_of or_else
        header_room = rw (settles, three, le-ltb (length out) 3 out_long)

        head_long : 3 ≡ 0 + length (take 3 log)
        head_long = omega (arith, length-take-le 3 log (header_long log ok))

        module _ {headed out₁ list₁ : List ℕ} {kept : Kept}
            (keeps : Keeps (header_refused_of out header.format header.channels header.order) 0 octets out kept headed)
            (writes : Writes log ready.state headed list out₁ list₁)
          where
            headed_is : headed ≡ written out 0 (take 3 log)
            headed_is =
                keeps.left
                ∙ ap (λ (n : ℕ). cond (eqb n 0) (written out 0 octets) out) header_room
                ∙ ap (written out 0) same_three

            out_is : out₁ ≡ over (new_log log) out
            unfolding new_log
            out_is =
                writes.out_after
                ∙ ap₂ (λ (l : List ℕ) (hs : List Heard). written l 3 (octets_in (kept_of hs))) headed_is (all log ok fresh_state)
                ∙ ap (λ (n : ℕ). written (written out 0 (take 3 log)) n (octets_in (kept_of (reading_of log).heard))) head_long
                ∙ written_on out 0 (take 3 log) (octets_in (kept_of (reading_of log).heard)) (omega arith)
                ∙ written_front out (take 3 log ++ octets_in (kept_of (reading_of log).heard))

            list_is : list₁ ≡ over (list_of log) list
            list_is =
                writes.list_after
                ∙ ap (λ (hs : List Heard). written list 0 (list_from 0 hs)) (all log ok fresh_state)
                ∙ written_front list (list_of log)

            module _ {here : Standing} (counts : Counts log ready.state here) where
              answer_is : record { refusal = 0; octets = 3 + 49 * here.kept; left_out = here.left_out; cut = length log - here.place }
                  ≡ salvaged_of log (length out) (length list)
              answer_is =
                  (λ i.
                  record {
                    refusal = 0;
                    octets = sym (new_octets log ok fresh_state counts) i;
                    left_out = left_is log ok fresh_state counts i;
                    cut = cut_is log ok fresh_state counts i;
                  })
                  ∙ sym (salvaged_is log (length out) (length list) taken)

              pub saved : Salvages log out list
                  (record { refusal = 0; octets = 3 + 49 * here.kept; left_out = here.left_out; cut = length log - here.place })
                  out₁ list₁
              unfolding saved_into
              saved = record { answered = answer_is; out_after = out_is ∙ rw taken; list_after = list_is ∙ rw taken }
