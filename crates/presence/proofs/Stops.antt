-- A search may stop at a yes: the answer is that of the whole log, whatever stands behind.
-- Assumes nothing.
use Rattle.std.proofs.Common.{◌≡◌, ℕ, ◌≤◌, true, eqb, List, ◌∷◌, ◌++◌, length, drop, sym, ap, ◌∙◌, ap₂, true≢false, take-append-drop, eqb-true}
use borrow.Author.Tests.{eqb-false}
use lib.Seq.{drop-append-le}
use Rattle.runs.proofs.Laws.{split}
use Rattle.cell_log.specs.Answers.{Header}
use Rattle.cell_log.specs.Records.{header_of}
use Rattle.receiver.specs.declared.Receiver.{Receiver}
use Rattle.reading.specs.Heard.{Heard, hear, onward, heard_from, end_of}
use Rattle.reading.specs.Reading.{fresh_of}
use Rattle.reading.specs.Records.{Walk, records_in, rest_in}
use Rattle.reading.proofs.Heard.{heard_joined}
use Rattle.reading.proofs.Reading.{header_three, header_long, header_octets_lem, header_settles, header_of_three}
use Rattle.reading.proofs.Records.{walk_joined}
use Rattle.pieces.specs.Taken.{joined_of}
use Rattle.presence.specs.declared.Presence.{Presence}
use Rattle.presence.specs.Presence.{answer_of, presence_of}
use Rattle.presence.specs.Taking.{search_start, answer_over}
use Rattle.presence.proofs.Going.{any_division_answer}
use Rattle.presence.proofs.Theorems.{yes_stays}
use Rattle.presence.proofs.Walks.{presence_refused, presence_taken}

taken_three : (log : List ℕ) → (header_of log).refusal ≡ 0
    → presence_of log ≡ answer_of (heard_from (fresh_of (header_of log)) (records_in (drop 3 log)))
taken_three log ok =
    presence_taken log ok
    ∙ ap (λ (n : ℕ). answer_of (heard_from (fresh_of (header_of log)) (records_in (drop n log)))) (header_three log ok)

-- octets behind a log whose header is accepted
module _ (log more : List ℕ) (ok : (header_of log).refusal ≡ 0) where
  abbrev numbers : List ℕ → List ℕ
  numbers octets = (header_of log).format ∷ (header_of log).channels ∷ (header_of log).order ∷ octets

  headed : log ≡ numbers (drop 3 log)
  headed = sym (take-append-drop 3 log) ∙ ap (λ (octets : List ℕ). octets ++ drop 3 log) (header_octets_lem log ok)

  same_header : header_of (log ++ more) ≡ header_of log
  same_header =
      let settles = header_settles log ok in
      ap (λ (octets : List ℕ). header_of (octets ++ more)) headed
      ∙ header_of_three (header_of log).format (header_of log).channels (header_of log).order (drop 3 log ++ more) settles
      ∙ sym (header_of_three (header_of log).format (header_of log).channels (header_of log).order (drop 3 log) settles)
      ∙ sym (ap header_of headed)

  abbrev fresh : Receiver
  fresh = fresh_of (header_of log)

  abbrev first : List Heard
  first = heard_from fresh (records_in (drop 3 log))

  abbrev later : List Heard
  later = heard_from (end_of fresh first) (records_in (rest_in (drop 3 log) ++ more))

  longer : presence_of (log ++ more) ≡ answer_of (first ++ later)
  longer =
      taken_three (log ++ more) (ap (λ (h : Header). h.refusal) same_header ∙ ok)
      ∙ ap₂ (λ (h : Header) (octets : List ℕ). answer_of (heard_from (fresh_of h) (records_in octets))) same_header
      (drop-append-le 3 log more (header_long log ok))
      ∙ ap (λ (w : Walk). answer_of (heard_from fresh w.records)) (walk_joined (drop 3 log) more)
      ∙ ap answer_of (heard_joined hear onward fresh (records_in (drop 3 log)) (records_in (rest_in (drop 3 log) ++ more)))

  still_yes : (presence_of log).found ≡ true → presence_of (log ++ more) ≡ presence_of log
  still_yes yes-here =
      longer
      ∙ yes_stays first later (ap (λ (p : Presence). p.found) (sym (taken_three log ok)) ∙ yes-here)
      ∙ sym (taken_three log ok)

-- "a yes found before a later fault stays a yes": whatever octets stand behind
pub yes_whatever_follows : (log more : List ℕ) → (presence_of log).found ≡ true → presence_of (log ++ more) ≡ presence_of log
yes_whatever_follows log more found =
    split (eqb (header_of log).refusal 0)
    (λ e. still_yes log more (eqb-true (header_of log).refusal 0 e) found)
    (λ e.
    absurd (true≢false (sym found
    ∙ ap (λ (p : Presence). p.found) (presence_refused log (eqb-false (header_of log).refusal 0 e)))))

-- "It should stop at the first one. The answer must equal that of reading every record": pieces taken up to a yes answer for the
-- whole log
pub stop_at_yes : (held : List ℕ) (ps : List (List ℕ)) (more : List ℕ) → length held ≡ 49
    → length (joined_of ps) ≤ 18446744073709551615 → (answer_over search_start held ps).found ≡ true
    → answer_over search_start held ps ≡ presence_of (joined_of ps ++ more)
stop_at_yes held ps more size within found =
    let so_far = any_division_answer held ps size within in
    so_far ∙ sym (yes_whatever_follows (joined_of ps) more (ap (λ (p : Presence). p.found) (sym so_far) ∙ found))
