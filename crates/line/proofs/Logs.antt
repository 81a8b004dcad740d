-- A log that the library wrote is its header and its records, and is read back so.
-- Assumes nothing.
use mathlib.Core.List.{List, [], ◌∷◌, ◌++◌, map, append_assoc, append-nil}
use mathlib.Core.Path.{◌≡◌, sym, ◌∙◌, ap, ap₂, subst}
use Prim.Native.Nat.{ℕ, ◌+◌, ◌≤◌}
use native.Mathlib.Omega.{arith}
use borrow.Author.Tests.{eq-eqb, le-leb}
use lib.ListN.{length, take, drop, length-append}
use lib.Seq.{take_at, take_all, length-take-le}
use Rattle.runs.specs.Runs.{written}
use Rattle.formats.specs.Formats.{settings_refusal}
use Rattle.sender.specs.declared.Sender.{Sender}
use Rattle.cell_log.specs.Answers.{Header, Kept}
use Rattle.cell_log.specs.Records.{header_of, record_at}
use Rattle.cell_log.specs.Written.{Keeps, record_octets}
use Rattle.cell_log.proofs.Headers.{header_octets_lem, header_fits}
use Rattle.cell_log.proofs.Keeping.{record_fits}
use Rattle.cell_log.proofs.Refused.{keeps_refusal}
use Rattle.receiver.specs.Receiver as R
use Rattle.reading.specs.Heard.{heard_from, sound_in, missing_in, refused_in}
use Rattle.reading.specs.Reading.{fresh_of, behind_header, reading_of}
use Rattle.reading.specs.Records.{Whole, Framed, records_in, fault_in, walk_in, octets_in}
use Rattle.reading.specs.Totals.{Each}
use Rattle.reading.proofs.Reading.{header_of_three}
use Rattle.reading.proofs.Records.{walk_written, walk_stop, not_whole}
use Rattle.pieces.specs.Limit.{records_to, fault_to}
use Rattle.listing.specs.Lines.{format_line, end_line}
use Rattle.listing.specs.List.{lines_of, end_lines, heard_to, list_to, list_of}
use Rattle.line.specs.Line.{Row}
use Rattle.line.specs.Tools.{KeepCall, Keeping, written_by, LogOf}

-- octets that were kept at a place: they stand behind what stood before it
module _ {refusal place : ℕ} {octets log after : List ℕ} {answer : Kept} (keeps : Keeps refusal place octets log answer after)
    (taken : answer.refusal ≡ 0) (here : place ≤ length log)
  where
    none : refusal ≡ 0
    none = sym (keeps_refusal keeps) ∙ taken

    pub kept_next : answer.next ≡ place + length octets
    kept_next = ap (λ (k : Kept). k.next) keeps.answered ∙ rw none

    kept_log : after ≡ written log place octets
    kept_log = keeps.left ∙ rw none

    pub kept_octets : take answer.next after ≡ take place log ++ octets
    kept_octets =
        let long : length (take place log ++ octets) ≡ place + length octets
        = length-append (take place log) octets ∙ ap (λ (n : ℕ). n + length octets) (length-take-le place log here) in
        ap₂ (λ (n : ℕ) (l : List ℕ). take n l) kept_next kept_log
        ∙ take_at (take place log ++ octets) (drop (place + length octets) log) (place + length octets) long

    pub kept_within : answer.next ≤ length after
    kept_within =
        rw (
          kept_next,
          kept_log,
          length-append (take place log ++ octets) (drop (place + length octets) log),
          length-append (take place log) octets,
          length-take-le place log here,
        ) (omega arith)

pub record Written (log : List ℕ) (place : ℕ) (calls : List KeepCall) : Type 0 where
  pub octets : written_by log place calls ≡ take place log ++ octets_in (map (λ c. c.came) calls)
  pub framed : Each Framed (map (λ c. c.came) calls)

records_kept : (log : List ℕ) (place : ℕ) (calls : List KeepCall) → place ≤ length log → Keeping log place calls
    → Written log place calls
unfolding Row written_by octets_in Each
records_kept log place [] here row = record { octets = sym (append-nil (take place log)); framed = tt }
records_kept log place (c ∷ cs) here row =
    let log_is : c.log ≡ log = ap (λ (x : List ℕ × ℕ). x.0) row.0 in
    let place_is : c.place ≡ place = ap (λ (x : List ℕ × ℕ). x.1) row.0 in
    let meets = row.1.0 in
    let taken = row.1.1 in
    let fits = record_fits c.log c.place c.came.cell (sym (keeps_refusal meets) ∙ taken) in
    let within : c.place ≤ length c.log = omega (arith, fits.1) in
    let on = records_kept c.log_after_lem c.answer.next cs (kept_within meets taken within) row.2 in
    record {
      octets =
          on.octets
          ∙ ap (λ (l : List ℕ). l ++ octets_in (map (λ c. c.came) cs))
          (kept_octets meets taken within
          ∙ ap₂ (λ (n : ℕ) (l : List ℕ). take n l ++ record_octets c.came.indication c.came.cell) place_is log_is)
          ∙ append_assoc (take place log) (record_octets c.came.indication c.came.cell) _;
      framed = (fits.0, on.framed);
    }

-- the whole log, and how it is read
module _ {st : Sender} {records : List Whole} {log : List ℕ} (is : LogOf st records log) where
  fits : (settings_refusal st.format st.channels st.order ≡ 0) × (3 ≤ length is.lent)
  fits = header_fits is.lent st.format st.channels st.order (sym (keeps_refusal is.header) ∙ is.taken)

  none_before : 0 ≤ length is.lent
  none_before = omega arith

  all_kept : Written is.headed is.opening.next is.calls
  all_kept =
      records_kept is.headed is.opening.next is.calls (kept_within is.header is.taken none_before) is.in_a_row

  pub framed : Each Framed records
  framed = subst (Each Framed) is.these all_kept.framed

  log_is : log ≡ st.format ∷ st.channels ∷ st.order ∷ octets_in records
  log_is =
      is.octets
      ∙ all_kept.octets
      ∙ ap₂ (λ (a b : List ℕ). a ++ b)
      (kept_octets is.header is.taken none_before ∙ header_octets_lem st.format st.channels st.order fits.0)
      (ap octets_in is.these)

  pub header_is : header_of log
      ≡ record { refusal = 0; place = 3; format = st.format; channels = st.channels; order = st.order }
  header_is = ap header_of log_is ∙ header_of_three st.format st.channels st.order (octets_in records) fits.0

  behind_is : behind_header log ≡ octets_in records
  behind_is = ap₂ (λ (h : Header) (l : List ℕ). drop h.place l) header_is log_is

  walk_is : walk_in (behind_header log) ≡ record { records = records; rest = [] }
  walk_is =
      ap walk_in (behind_is ∙ sym (append-nil (octets_in records)))
      ∙ walk_written records [] framed
      ∙ rw (walk_stop [] (not_whole [] (omega arith)), append-nil records)

  opened_so : (R.opened_of st.format st.channels st.order).state ≡ R.open_state st.format st.channels st.order
  unfolding R.opened_of
  opened_so = rw fits.0

  fresh_is : fresh_of (header_of log) ≡ R.open_state st.format st.channels st.order
  fresh_is = ap fresh_of header_is ∙ opened_so

  pub heard_is : heard_from (fresh_of (header_of log)) (records_in (behind_header log))
      ≡ heard_from (R.open_state st.format st.channels st.order) records
  heard_is i = heard_from (fresh_is i) (walk_is i).records

  fault_is : fault_in (behind_header log) ≡ 0
  unfolding record_at
  fault_is = ap (λ w. (record_at w.rest 0).refusal) walk_is

  -- the reading
  pub read_header : (reading_of log).header.refusal ≡ 0
  unfolding reading_of
  read_header = let ok : (header_of log).refusal ≡ 0 = ap (λ (h : Header). h.refusal) header_is in rw ok

  pub read_fault : (reading_of log).fault ≡ 0
  unfolding reading_of
  read_fault = let ok : (header_of log).refusal ≡ 0 = ap (λ (h : Header). h.refusal) header_is in rw ok fault_is

  pub read_heard : (reading_of log).heard ≡ heard_from (R.open_state st.format st.channels st.order) records
  unfolding reading_of
  read_heard = let ok : (header_of log).refusal ≡ 0 = ap (λ (h : Header). h.refusal) header_is in rw ok heard_is

  -- the list
  pub list_is : length log ≤ 4294967295 → list_of log
      ≡ format_line st.format st.channels st.order
      ++ (lines_of 0 (reading_of log).heard
      ++ end_line (sound_in (reading_of log).heard) (missing_in (reading_of log).heard) (refused_in (reading_of log).heard))
  unfolding list_to end_lines records_to fault_to
  list_is short =
      let ok : (header_of log).refusal ≡ 0 = ap (λ (h : Header). h.refusal) header_is in
      let few : length (behind_header log) ≤ 4294967292 = rw behind_is (let long = ap length log_is in omega (arith, long)) in
      let all : take 4294967292 (behind_header log) ≡ behind_header log = take_all 4294967292 (behind_header log) few in
      let heard : heard_to 4294967295 log ≡ (reading_of log).heard
      = (λ i. heard_from (fresh_of (header_of log)) (records_in (all i))) ∙ heard_is ∙ sym read_heard in
      let fault : fault_to 4294967292 (behind_header log) ≡ 0 = rw (le-leb _ _ few) fault_is in
      rw (eq-eqb (header_of log).refusal 0 ok)
      (λ i.
      format_line (header_is i).format (header_is i).channels (header_is i).order
      ++ (lines_of 0 (heard i) ++ end_lines (heard i) (fault i)))
