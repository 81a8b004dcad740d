-- Cells sent one after the other into a log: `Sends` and `Keeps`, cell after cell.
-- Assumes nothing.
use Rattle.std.specs.Prelude.{◌≡◌, ℕ, zero, suc, ◌+◌, ◌-◌, ◌*◌, ◌/◌, ◌%◌, Bool, cond, ◌&&◌, List, [], ◌∷◌, length, take, drop, ◌==◌, nat_lt}
use mathlib.Core.List.{flat_map}
use Rattle.runs.specs.Refusals.{or_else}
use Rattle.runs.specs.Runs.{written}
use Rattle.cell_log.specs.Written.{record_octets}
use Rattle.sender.specs.declared.Sender.{Sender}
use Rattle.sender.specs.declared.Sent.{Sent}
use Rattle.sender.specs.declared.many.Batch.{Batch}
use Rattle.sender.specs.Sender.{used_now, state_refusal, sent_of, cell_now}

-- "the indication is 1 in every cell whose number is a multiple of 8 where `indications` says yes, else in none"
abbrev pub indicated : Bool → Sender → Bool
indicated indications st = indications && st.number % 8 == 0

-- a cell that was sent: its indication, its octets, and the state after it
pub record SentCell : Type 0 where
  pub indication : Bool
  pub cell : List ℕ
  pub state : Sender

-- the entries of the next cell, and those behind them
abbrev pub next_of : Sender → List ℕ → List ℕ
next_of st run = take (used_now st) run

abbrev pub rest_of : Sender → List ℕ → List ℕ
rest_of st run = drop (used_now st) run

-- what a call of sending answers to the next cell, and the cell
abbrev pub next_sent : Bool → Sender → List ℕ → List ℕ → Sent
next_sent indications st samples ancillary = sent_of st (indicated indications st) (next_of st samples) (next_of st ancillary) 48

abbrev pub next_cell : Bool → Sender → List ℕ → List ℕ → SentCell
next_cell indications st samples ancillary =
    record {
      indication = indicated indications st;
      cell = cell_now st (indicated indications st) (next_of st samples) (next_of st ancillary);
      state = (next_sent indications st samples ancillary).state;
    }

-- cell after cell, as long as none is refused, so many at most
unfoldable pub sent_from : ℕ → Bool → Sender → List ℕ → List ℕ → List SentCell
sent_from zero indications st samples ancillary = []
sent_from (suc most) indications st samples ancillary =
    cond ((next_sent indications st samples ancillary).refusal == 0)
    (next_cell indications st samples ancillary
    ∷ sent_from most indications (next_sent indications st samples ancillary).state (rest_of st samples) (rest_of st ancillary))
    []

-- the state behind them, and the octets of their records
unfoldable pub state_behind : Sender → List SentCell → Sender
state_behind st [] = st
state_behind st (c ∷ cs) = state_behind c.state cs

abbrev pub records_of : List SentCell → List ℕ
records_of cells = flat_map (λ c. record_octets c.indication c.cell) cells

-- how many records have room from a place of a log on: "12 where no record fits any more (a place at the end or past it too)"
abbrev pub room_from : List ℕ → ℕ → ℕ
room_from log place = (length log - place) / 49

abbrev pub sent_into : Bool → Sender → List ℕ → List ℕ → List ℕ → ℕ → List SentCell
sent_into indications st samples ancillary log place = sent_from (room_from log place) indications st samples ancillary

-- "It stops by 0 where fewer than C×T entries are left, 12 where no record fits any more, 6 where the next cell has a number too
-- large; of several the first in this order"
unfoldable pub stop_after : ℕ → ℕ → ℕ → ℕ → ℕ → ℕ
stop_after used entries octets place cells =
    cond (nat_lt (entries - cells * used) used) 0 (cond (nat_lt octets (place + 49 * cells + 49)) 12 6)

-- `counts`: "next place, entries taken, why it stopped, cells"
abbrev pub batch_of : Sender → List ℕ → List ℕ → ℕ → List SentCell → Batch
batch_of st samples log place cells =
    record {
      refusal = 0;
      state = state_behind st cells;
      next = place + 49 * length cells;
      entries = length cells * used_now st;
      stop = stop_after (used_now st) (length samples) (length log) place (length cells);
      cells = length cells;
    }

abbrev pub batch_not : ℕ → Sender → Batch
batch_not refusal st = record { refusal = refusal; state = st; next = 0; entries = 0; stop = 0; cells = 0 }

-- "Returns 0, 1 to 4, or 5 where the two runs aren't equally long; then state and log stay and `counts` is zeros"
unfoldable pub batch_refusal : Sender → List ℕ → List ℕ → ℕ
batch_refusal st samples ancillary = or_else (state_refusal st) (cond (length ancillary == length samples) 0 5)

abbrev pub batch_over : Bool → Sender → List ℕ → List ℕ → List ℕ → ℕ → Batch
batch_over indications st samples ancillary log place =
    cond (batch_refusal st samples ancillary == 0)
    (batch_of st samples log place (sent_into indications st samples ancillary log place))
    (batch_not (batch_refusal st samples ancillary) st)

abbrev pub log_after : Bool → Sender → List ℕ → List ℕ → List ℕ → ℕ → List ℕ
log_after indications st samples ancillary log place =
    cond (batch_refusal st samples ancillary == 0)
    (written log place (records_of (sent_into indications st samples ancillary log place)))
    log

-- the whole promise
pub record SendsMany (indications : Bool) (st : Sender) (samples ancillary log : List ℕ) (place : ℕ) (answer : Batch) (log₁ : List ℕ)
    : Type 0 where
  pub answered : answer ≡ batch_over indications st samples ancillary log place
  pub log_after_lem : log₁ ≡ log_after indications st samples ancillary log place
