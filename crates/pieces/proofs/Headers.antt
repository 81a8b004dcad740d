-- A header in pieces: three octets take it, and nine say by what it is refused.
-- Assumes nothing.
use Rattle.std.proofs.Common.{◌≡◌, ℕ, zero, suc, ◌+◌, ◌≤◌, List, [], ◌++◌, length, take, sym, refl, ap, ◌∙◌, append-nil, arith, length-append, length-take-le, take_all, get_or-take, take_at}
use borrow.Author.Tests.{lt-leb}
use Rattle.cell_log.specs.Answers.{Header}
use Rattle.cell_log.specs.Code.{number_within}
use Rattle.cell_log.specs.Numbers.{number_at}
use Rattle.cell_log.specs.Records.{header_of_numbers, header_of, second_number, third_number}
use Rattle.cell_log.proofs.Groups.{number_agrees}
use Rattle.cell_log.proofs.Laws.{next_small}
use Rattle.reading.proofs.Reading.{header_three, header_octets_lem, header_settles, header_of_three}

-- the three octets of an accepted header are a header, whatever stands behind them
module _ (log more : List ℕ) (ok : (header_of log).refusal ≡ 0) where
  is_three : header_of log
      ≡ record { refusal = 0; place = 3; format = (header_of log).format; channels = (header_of log).channels; order = (header_of log).order }
  is_three i =
      record {
        refusal = ok i;
        place = header_three log ok i;
        format = (header_of log).format;
        channels = (header_of log).channels;
        order = (header_of log).order;
      }

  header_kept : header_of (take 3 log ++ more) ≡ header_of log
  header_kept =
      ap (λ (octets : List ℕ). header_of (octets ++ more)) (header_octets_lem log ok)
      ∙ header_of_three (header_of log).format (header_of log).channels (header_of log).order more (header_settles log ok)
      ∙ sym is_three

pub header_taken : (part more : List ℕ) → length part ≡ 3 → (header_of part).refusal ≡ 0 → header_of (part ++ more) ≡ header_of part
header_taken part more three ok =
    ap (λ (p : List ℕ). header_of (p ++ more)) (sym (take_all 3 part (omega arith))) ∙ header_kept part more ok

pub first_three : (log : List ℕ) → (header_of log).refusal ≡ 0 → (header_of (take 3 log)).refusal ≡ 0
first_three log ok =
    ap (λ (h : Header). h.refusal) (ap header_of (sym (append-nil (take 3 log))) ∙ header_kept log [] ok) ∙ ok

-- a number looks at three octets at most
within : (k n : ℕ) (log : List ℕ) (at : ℕ) → n ≤ length log → at + k ≤ n → number_within k (take n log) at ≡ number_within k log at
unfolding number_within
within zero n log at long h = refl
within (suc k) n log at long h =
    rw (
      length-take-le n log long,
      lt-leb n at (omega arith),
      lt-leb (length log) at (omega arith),
      get_or-take n log at 0 (omega arith),
      within k n log (at + 1) long (omega arith),
    )

module _ (log : List ℕ) (long : 9 ≤ length log) where
  number_there : (at : ℕ) → at ≤ 6 → number_at (take 9 log) at ≡ number_at log at
  number_there at h = number_agrees (take 9 log) at ∙ within 3 9 log at long (omega arith) ∙ sym (number_agrees log at)

  next_to : (at : ℕ) → (number_at log at).next ≤ at + 3
  next_to at = rw (number_agrees log at) (next_small 3 log at)

  one : number_at (take 9 log) 0 ≡ number_at log 0
  one = number_there 0 (omega arith)

  two : second_number (take 9 log) ≡ second_number log
  two = ap (λ n. number_at (take 9 log) n.next) one ∙ number_there (number_at log 0).next (omega (arith, next_to 0))

  three : third_number (take 9 log) ≡ third_number log
  three =
      ap (λ n. number_at (take 9 log) n.next) two
      ∙ number_there (second_number log).next (omega (arith, next_to 0, next_to (number_at log 0).next))

  nine : header_of (take 9 log) ≡ header_of log
  unfolding header_of
  nine i = header_of_numbers (one i) (two i) (three i)

pub header_nine : (part more : List ℕ) → length part ≡ 9 → header_of (part ++ more) ≡ header_of part
header_nine part more is =
    sym (nine (part ++ more) (rw (length-append part more) (omega arith))) ∙ ap header_of (take_at part more 9 is)
