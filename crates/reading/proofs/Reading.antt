-- Laws of the reading of a log: its header is three octets, and its octets are those and its records' and what is left.
-- Assumes nothing.
use mathlib.Core.List.{List, [], ◌∷◌, ◌++◌, append-nil}
use mathlib.Core.Path.{◌≡◌, refl, sym, ◌∙◌, ap}
use Prim.Native.Nat.{ℕ, ◌+◌, ◌*◌, ◌≤◌, ◌<◌}
use native.Mathlib.Omega.{arith}
use borrow.Author.Tests.{eq-eqb, ne_eqb, eqb-true}
use lib.Dec.{eqb}
use lib.ListN.{length, get_or, take, drop, length-drop}
use lib.Seq.{length-take-le, drop_at}
use Rattle.runs.specs.Refusals.{or_else}
use Rattle.runs.proofs.Laws.{split, past_both}
use Rattle.formats.specs.Formats.{settings_refusal}
use Rattle.cell_log.specs.Answers.{Header, Number}
use Rattle.cell_log.specs.Numbers.{number, number_at}
use Rattle.cell_log.specs.Records.{header_refusal, header_of_numbers, header_of, second_number, third_number, record_at}
use Rattle.cell_log.proofs.Groups.{number_agrees}
use Rattle.cell_log.proofs.Headers.{format_small, channels_small, order_small}
use Rattle.cell_log.proofs.Laws.{number_whole, number_cases}
use Rattle.reading.specs.Heard.{hear, onward, heard_from}
use Rattle.reading.specs.Reading.{fresh_of, reading_of}
use Rattle.reading.specs.Records.{Whole, Framed, walk_in, records_in, rest_in, octets_in, fault_in}
use Rattle.reading.specs.Totals.{Each}
use Rattle.reading.proofs.Heard.{length_heard}
use Rattle.reading.proofs.Records.{octets_counted, walk_written, walk_stop, not_whole}

-- a number below 128 stands in one octet
one_octet : (log : List ℕ) (at : ℕ) → (number_at log at).refusal ≡ 0 → (number_at log at).value < 128
    → ((number_at log at).next ≡ at + 1) × (at < length log) × ((number_at log at).value ≡ get_or log at 0)
one_octet log at =
    rw (number_agrees log at)
    (number_cases 2 log at (λ n. n.refusal ≡ 0 → n.value < 128 → (n.next ≡ at + 1) × (at < length log) × (n.value ≡ get_or log at 0))
    (λ e small. omega arith)
    (λ here low e small. (refl, here, refl))
    (λ here high some e small. absurd (omega (arith, some))))

header_taken : (a b c : Number) → (header_of_numbers a b c).refusal ≡ 0 → header_refusal a b c ≡ 0
unfolding header_of_numbers
header_taken a b c =
    split (eqb (header_refusal a b c) 0)
    (λ t e. eqb-true (header_refusal a b c) 0 t)
    (λ t. rw t (λ e. e))

take_three : (l : List ℕ) → 3 ≤ length l → take 3 l ≡ get_or l 0 0 ∷ get_or l 1 0 ∷ get_or l 2 0 ∷ []
take_three [] h = absurd (omega arith)
take_three (x ∷ []) h = absurd (omega arith)
take_three (x ∷ y ∷ []) h = absurd (omega arith)
take_three (x ∷ y ∷ z ∷ rest) h = refl

-- an accepted header
module _ (log : List ℕ) (ok : (header_of log).refusal ≡ 0) where
  abbrev a : Number
  a = number_at log 0

  abbrev b : Number
  b = second_number log

  abbrev c : Number
  c = third_number log

  none : header_refusal a b c ≡ 0
  unfolding header_of
  none = header_taken a b c ok

  numbers : (a.refusal ≡ 0) × (b.refusal ≡ 0) × (c.refusal ≡ 0) × (settings_refusal a.value b.value c.value ≡ 0)
  unfolding header_refusal
  numbers =
      let one = past_both a.refusal _ none in
      let two = past_both b.refusal _ one.1 in
      let three = past_both c.refusal _ two.1 in
      (one.0, two.0, three.0, three.1)

  header_is : header_of log ≡ record { refusal = 0; place = c.next; format = a.value; channels = b.value; order = c.value }
  unfolding header_of header_of_numbers
  header_is = rw none

  first : (a.next ≡ 1) × (0 < length log) × (a.value ≡ get_or log 0 0)
  first = one_octet log 0 numbers.0 (format_small a.value b.value c.value numbers.3)

  second : (b.next ≡ a.next + 1) × (a.next < length log) × (b.value ≡ get_or log a.next 0)
  second = one_octet log a.next numbers.1 (channels_small a.value b.value c.value numbers.3)

  third : (c.next ≡ b.next + 1) × (b.next < length log) × (c.value ≡ get_or log b.next 0)
  third = one_octet log b.next numbers.2 (order_small a.value b.value c.value numbers.3)

  -- it is three octets
  pub header_three : (header_of log).place ≡ 3
  header_three = ap (λ (h : Header). h.place) header_is ∙ omega (arith, first.0, second.0, third.0)

  pub header_long : 3 ≤ length log
  header_long = omega (arith, first.0, second.0, third.1)

  -- they are its three numbers
  pub header_octets_lem : take 3 log ≡ (header_of log).format ∷ (header_of log).channels ∷ (header_of log).order ∷ []
  header_octets_lem =
      let two : b.next ≡ 2 = omega (arith, first.0, second.0) in
      take_three log header_long
      ∙ rw (header_is, first.2, second.2 ∙ ap (λ (n : ℕ). get_or log n 0) first.0, third.2 ∙ ap (λ (n : ℕ). get_or log n 0) two)

  pub header_settles : settings_refusal (header_of log).format (header_of log).channels (header_of log).order ≡ 0
  header_settles = rw header_is numbers.3

  pub reading_is : reading_of log
      ≡ record {
        header = header_of log;
        heard = heard_from (fresh_of (header_of log)) (records_in (drop 3 log));
        fault = fault_in (drop 3 log);
        rest = rest_in (drop 3 log);
      }
  unfolding reading_of
  reading_is = rw (eq-eqb (header_of log).refusal 0 ok, header_three)

  -- the octets of a log: its header, its records, and what is left
  pub log_counted : length log ≡ 3 + 49 * length (reading_of log).heard + length (reading_of log).rest
  log_counted =
      rw (reading_is, length_heard hear onward (fresh_of (header_of log)) (records_in (drop 3 log)))
      (omega (arith, header_long, length-drop 3 log, octets_counted (drop 3 log)))

-- a log whose header is refused has no records
pub reading_none : (log : List ℕ) → ((header_of log).refusal ≡ 0 → ⊥) → reading_of log ≡ record { header = header_of log; heard = []; fault = 0; rest = [] }
unfolding reading_of
reading_none log some = rw (ne_eqb (header_of log).refusal 0 some)

-- three numbers that settle a format are a header, whatever stands behind them
module _ (format channels order : ℕ) (more : List ℕ) (ok : settings_refusal format channels order ≡ 0) where
  abbrev headed : List ℕ
  headed = format ∷ channels ∷ order ∷ more

  one : number_at headed 0 ≡ number format 1
  one = number_agrees headed 0 ∙ number_whole 2 headed 0 refl (omega arith) (format_small format channels order ok)

  two : number_at headed 1 ≡ number channels 2
  two = number_agrees headed 1 ∙ number_whole 2 headed 1 refl (omega arith) (channels_small format channels order ok)

  three : number_at headed 2 ≡ number order 3
  three = number_agrees headed 2 ∙ number_whole 2 headed 2 refl (omega arith) (order_small format channels order ok)

  pub header_of_three : header_of headed ≡ record { refusal = 0; place = 3; format = format; channels = channels; order = order }
  unfolding header_of header_of_numbers header_refusal or_else
  header_of_three = rw (one, two, three, ok)

-- records written behind an accepted header are read back
module _ (log : List ℕ) (ok : (header_of log).refusal ≡ 0) (records : List Whole) (each : Each Framed records) where
  abbrev wrote : List ℕ
  wrote = take 3 log ++ octets_in records

  same_header : header_of log
      ≡ record { refusal = 0; place = 3; format = (header_of log).format; channels = (header_of log).channels; order = (header_of log).order }
  same_header i =
      record {
        refusal = ok i;
        place = header_three log ok i;
        format = (header_of log).format;
        channels = (header_of log).channels;
        order = (header_of log).order;
      }

  pub wrote_header : header_of wrote ≡ header_of log
  wrote_header =
      ap (λ (octets : List ℕ). header_of (octets ++ octets_in records)) (header_octets_lem log ok)
      ∙ header_of_three (header_of log).format (header_of log).channels (header_of log).order (octets_in records) (header_settles log ok)
      ∙ sym same_header

  wrote_walk : walk_in (drop 3 wrote) ≡ record { records = records; rest = [] }
  wrote_walk =
      ap walk_in (drop_at (take 3 log) (octets_in records) 3 (length-take-le 3 log (header_long log ok)) ∙ sym (append-nil (octets_in records)))
      ∙ walk_written records [] each
      ∙ rw (walk_stop [] (not_whole [] (omega arith)), append-nil records)

  pub wrote_reading : reading_of wrote
      ≡ record { header = header_of log; heard = heard_from (fresh_of (header_of log)) records; fault = 0; rest = [] }
  unfolding record_at
  wrote_reading =
      reading_is wrote (ap (λ (h : Header). h.refusal) wrote_header ∙ ok)
      ∙ (λ i. record {
        header = wrote_header i;
        heard = heard_from (fresh_of (wrote_header i)) (wrote_walk i).records;
        fault = (record_at (wrote_walk i).rest 0).refusal;
        rest = (wrote_walk i).rest;
      })
