-- Laws of the walk along a log's records: none before this place, and the rest from here.
-- Assumes nothing.
use Rattle.std.proofs.Common.{◌≡◌, ℕ, ◌+◌, ◌≤◌, true, false, cond, eqb, List, ◌∷◌, length, drop, sym, refl, ap, ◌∙◌, ap₂, arith, eq-eqb, ne_eqb}
use Rattle.runs.proofs.Laws.{split}
use Rattle.cell_log.specs.Answers.{Header, Record}
use Rattle.cell_log.specs.Records.{header_of, record_at, cell_at}
use Rattle.cell_log.proofs.Places.{cell_facts}
use Rattle.receiver.specs.declared.Receiver.{Receiver}
use Rattle.reading.specs.Heard.{heard_by, hear, onward, heard_from}
use Rattle.reading.specs.Reading.{fresh_of, behind_header, reading_of}
use Rattle.reading.specs.Records.{Whole, Walk, records_in}
use Rattle.reading.proofs.Places.{walk_at, stop_at}
use Rattle.presence.specs.declared.Presence.{Presence}
use Rattle.presence.specs.declared.sounds.Said.{Said}
use Rattle.presence.specs.Presence.{sounds, yes_at, none_in, refused_by, answer_of, presence_of, said_of, read_from}
use Rattle.presence.proofs.Laws.{answer_from, from_start, from_none, from_yes, from_next}

-- the answer from a place on, of records that are numbered from n on
abbrev pub answer_at : List ℕ → Receiver → ℕ → ℕ → Presence
answer_at log st place n = answer_from n (heard_from st (records_in (drop place log)))

module _ (log : List ℕ) (st : Receiver) (place n : ℕ) where
  abbrev here : Whole
  here = record { indication = (record_at log place).indication; cell = cell_at log place }

  module _ (one : (record_at log place).what ≡ 1) where
    front : answer_at log st place n
        ≡ answer_from n (hear st here ∷ heard_from (onward (hear st here)) (records_in (drop (place + 49) log)))
    unfolding heard_by
    front = ap (λ (w : Walk). answer_from n (heard_from st w.records)) (walk_at log place one)

    at_yes : sounds (hear st here) ≡ true → answer_at log st place n ≡ yes_at n
    at_yes e = front ∙ from_yes n (hear st here) _ e

    at_next : sounds (hear st here) ≡ false
        → answer_at log st place n ≡ answer_at log (onward (hear st here)) (place + 49) (n + 1)
    at_next e = front ∙ from_next n (hear st here) _ e

  at_end : ((record_at log place).what ≡ 1 → ⊥) → answer_at log st place n ≡ none_in n
  unfolding heard_by
  at_end none = ap (λ (w : Walk). answer_from n (heard_from st w.records)) (stop_at log place none) ∙ from_none n

-- the walk's first answer is the one behind the header
pub begun : (header : Header) (log : List ℕ) {st : Receiver} → st ≡ fresh_of header
    → answer_at log st header.place 0 ≡ read_from header log
begun header log fresh = ap (λ (s : Receiver). answer_at log s header.place 0) fresh ∙ sym (from_start _)

-- along the records: the answer is still the one from here on
pub record Along (log : List ℕ) (st₀ : Receiver) (place₀ number₀ : ℕ) (st : Receiver) (place number : ℕ)
    (found : Record) : Type 0 where
  pub read : found ≡ record_at log place
  pub few : number ≤ place
  pub still : answer_at log st₀ place₀ number₀ ≡ answer_at log st place number

pub along_start : {log : List ℕ} {st : Receiver} {place : ℕ} {found : Record} → found ≡ record_at log place
    → Along log st place 0 st place 0 found
along_start read = record { read = read; few = omega arith; still = refl }

module _ {log : List ℕ} {st₀ st : Receiver} {place₀ number₀ place number : ℕ} {found : Record}
    (a : Along log st₀ place₀ number₀ st place number found)
  where
    -- what is read there is one answer, however it is had
    pub seen : {found' : Record} → found' ≡ record_at log place → Along log st₀ place₀ number₀ st place number found'
    seen f = record { read = f; few = a.few; still = a.still }

    what_is : found.what ≡ (record_at log place).what
    what_is = ap (λ (r : Record). r.what) a.read

    module _ (one : found.what ≡ 1) where
      there : (record_at log place).what ≡ 1
      there = sym what_is ∙ one

      pub next_is : found.next ≡ place + 49
      next_is = ap (λ (r : Record). r.next) a.read ∙ (cell_facts log place there).1

      pub inside : place + 49 ≤ length log
      inside = (cell_facts log place there).0

      module _ {said : Said} {cell : List ℕ} (cell_is : cell ≡ cell_at log place)
          (said-is : said ≡ said_of st cell found.indication) where
        says : said ≡ said_of st (cell_at log place) (record_at log place).indication
        says = said-is ∙ ap₂ (λ (c : List ℕ) (r : Record). said_of st c r.indication) cell_is a.read

        pub along_yes : said.sounds ≡ true → yes_at number ≡ answer_at log st₀ place₀ number₀
        along_yes e = sym (at_yes log st place number there (sym (ap (λ (s : Said). s.sounds) says) ∙ e)) ∙ sym a.still

        pub along_next : {next : Record} → said.sounds ≡ false → next ≡ record_at log found.next
            → Along log st₀ place₀ number₀ said.state found.next (number + 1) next
        along_next e read =
            record {
              read = read;
              few = omega (arith, a.few, next_is);
              still = a.still
                  ∙ at_next log st place number there (sym (ap (λ (s : Said). s.sounds) says) ∙ e)
                  ∙ sym (ap₂ (λ (s : Said) (p : ℕ). answer_at log s.state p (number + 1)) says next_is);
            }

    pub along_end : (found.what ≡ 1 → ⊥) → none_in number ≡ answer_at log st₀ place₀ number₀
    along_end none = sym (at_end log st place number (λ e. none (what_is ∙ e))) ∙ sym a.still

-- the header decides
module _ (log : List ℕ) where
  header_same : (reading_of log).header ≡ header_of log
  unfolding reading_of
  header_same = split (eqb (header_of log).refusal 0) (λ e. rw e) (λ e. rw e)

  presence_is : presence_of log
      ≡ cond (eqb (header_of log).refusal 0) (answer_of (reading_of log).heard) (refused_by (header_of log).refusal)
  unfolding presence_of
  presence_is =
      ap (λ (h : Header). cond (eqb h.refusal 0) (answer_of (reading_of log).heard) (refused_by h.refusal)) header_same

  heard_is : (header_of log).refusal ≡ 0 → (reading_of log).heard ≡ heard_from (fresh_of (header_of log)) (records_in (behind_header log))
  unfolding reading_of
  heard_is none = rw (eq-eqb (header_of log).refusal 0 none)

  pub presence_refused : ((header_of log).refusal ≡ 0 → ⊥) → presence_of log ≡ refused_by (header_of log).refusal
  presence_refused some = presence_is ∙ rw (ne_eqb (header_of log).refusal 0 some)

  pub presence_taken : (header_of log).refusal ≡ 0
      → presence_of log ≡ answer_of (heard_from (fresh_of (header_of log)) (records_in (behind_header log)))
  presence_taken none = presence_is ∙ rw (eq-eqb (header_of log).refusal 0 none) (ap answer_of (heard_is none))

  module _ {header : Header} (is : header ≡ header_of log) where
    refusal_is : header.refusal ≡ (header_of log).refusal
    refusal_is = ap (λ (h : Header). h.refusal) is

    pub header_refused : (header.refusal ≡ 0 → ⊥) → refused_by header.refusal ≡ presence_of log
    header_refused some = ap refused_by refusal_is ∙ sym (presence_refused (λ e. some (refusal_is ∙ e)))

    pub header_taken : header.refusal ≡ 0 → read_from header log ≡ presence_of log
    header_taken none = ap (λ (h : Header). read_from h log) is ∙ sym (presence_taken (sym refusal_is ∙ none))
