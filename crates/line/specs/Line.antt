-- The words of demand 3: what the line may do with cells that one sender wrote in a row, and what is handed out.
-- Assumes nothing.
use Rattle.std.specs.Prelude.{Bool, true, false, cond, ◌&&◌, ◌≡◌, ℕ, suc, ◌+◌, ◌*◌, ◌≤◌, max, eqb, length, take, replicate}
use mathlib.Core.List.{List, [], ◌∷◌, map, flat_map, zip}
use Rattle.std.specs.Int.Bits.{bit_xor}
use Rattle.std.specs.Int.Count.{ones}
use Rattle.formats.specs.Formats.{format_of}
use Rattle.cells.specs.Cells.{eight_in}
use Rattle.sender.specs.declared.Sender.{Sender}
use Rattle.sender.specs.Sender as S
use Rattle.receiver.specs.declared.Receiver.{Receiver}
use Rattle.receiver.specs.declared.Ready.{Ready}
use Rattle.receiver.specs.Receiver as R
use Rattle.reading.specs.Records.{Whole as Arrival}
use Rattle.reading.specs.Totals.{total_of, count_of, Each}
use Rattle.line.specs.Calls.{SendCall, ReceiveCall, MeetsOpenReceiver}
use Rattle.line.specs.Demands.{receive_table}

-- calls in a row: the first starts in this state, each later one in the state that the one before it answered, and each is as the
-- box promises
unfoldable pub Row : {State Call : Type 0} → (Call → State) → (Call → State) → (Call → Type 0) → State → List Call → Type 0
Row before after Box st [] = Unit {0}
Row before after Box st (c ∷ cs) = (before c ≡ st) × Box c × Row before after Box (after c) cs

abbrev pub Sending : (SendCall → Type 0) → Sender → List SendCall → Type 0
Sending Box st calls = Row (λ c. c.state) (λ c. c.answer.state) Box st calls

abbrev pub Receiving : (ReceiveCall → Type 0) → Receiver → List ReceiveCall → Type 0
Receiving Box st calls = Row (λ c. c.state) (λ c. c.answer.state) Box st calls

-- the calls that wrote a cell: those that were not refused
unfoldable pub wrote : List SendCall → List SendCall
wrote [] = []
wrote (s ∷ ss) = cond (eqb s.answer.refusal 0) (s ∷ wrote ss) (wrote ss)

-- what became of a cell: "a line that drops some and spoils others"; a spoiled one comes as these octets with this indication. The
-- number of a cell that came is how many more times it came: "a cell, as it first came, is delivered again any number of times before
-- the next sent cell arrives"
pub data Fate : Type 0 where
  dropped : Fate
  spoiled : List ℕ → Bool → ℕ → Fate
  unaltered : ℕ → Fate

abbrev pub is_lost : Fate → Bool
is_lost dropped = true
is_lost (spoiled came indication again) = true
is_lost (unaltered again) = false

-- one cell's trip: the call that wrote it, and its fate
pub record Trip : Type 0 where
  pub sent : SendCall
  pub fate : Fate

-- how many of the first eight sequencing bits of a sent cell differ in the octets that came
abbrev pub altered_in : SendCall → List ℕ → ℕ
altered_in s came = ones (bit_xor (eight_in (S.format_now s.state) s.written) (eight_in (S.format_now s.state) came))

-- "one, two or three of the first eight sequencing bits and perhaps anything else"; `most` is the three
abbrev pub Fair : ℕ → SendCall → Fate → Type 0
Fair most s dropped = Unit {0}
Fair most s (spoiled came indication again) = (1 ≤ altered_in s came) × (altered_in s came ≤ most)
Fair most s (unaltered again) = Unit {0}

-- the longest row of lost cells, k being lost already; "The limit of fourteen still counts sent cells"
unfoldable pub longest : ℕ → List Trip → ℕ
longest k [] = k
longest k (t ∷ ts) = cond (is_lost t.fate) (longest (suc k) ts) (max k (longest 0 ts))

-- what arrives: an indication and octets, as a record of a log has them; a spoiled cell may come with any number of octets
abbrev pub arrival_of : SendCall → Fate → List Arrival
arrival_of s dropped = []
arrival_of s (spoiled came indication again) = replicate (suc again) (record { cell = came; indication = indication })
arrival_of s (unaltered again) = replicate (suc again) (record { cell = s.written; indication = s.indication })

abbrev pub arrivals : List Trip → List Arrival
arrivals trips = flat_map (λ t. arrival_of t.sent t.fate) trips

abbrev pub taken : ReceiveCall → Arrival
taken c = record { cell = c.cell; indication = c.indication }

-- "at each call three runs of equal length, long enough by refusal 10"
pub record WithRoom (c : ReceiveCall) : Type 0 where
  pub ancillary_equal : length c.ancillary ≡ length c.samples
  pub marks_equal : length c.marks ≡ length c.samples
  pub long_enough : receive_table c ≡ 10 → ⊥

-- a sample, its ancillary number and its mark, and those of three runs side by side
abbrev pub Place : Type 0
Place = ℕ × (ℕ × ℕ)

abbrev pub places : List ℕ → List ℕ → List ℕ → List Place
places samples ancillary marks = zip samples (zip ancillary marks)

-- what one call hands out: nothing where it is refused, else C×T entries for each cell told missing and for the cell itself
abbrev pub handed_by : ReceiveCall → List Place
handed_by c =
    take (cond (eqb c.answer.refusal 0) ((c.answer.missing + 1) * R.used_now c.state) 0)
    (places c.samples_after c.ancillary_after c.marks_after)

-- "What a receiver hands out over several calls is these entries, call after call, joined in that order"
abbrev pub handed : List ReceiveCall → List Place
handed calls = flat_map handed_by calls

-- what must stand in the places of a cell: "each place of a dropped or spoiled cell holds zero and is marked missing"; "each sample
-- and its ancillary bits stand in their sent place, exact and marked sound"
unfoldable pub places_of : Trip → List Place
places_of t =
    cond (is_lost t.fate)
    (replicate (S.used_now t.sent.state) (0, (0, 2)))
    (places t.sent.samples t.sent.ancillary (replicate (S.used_now t.sent.state) 0))

-- "from the first unaltered cell"
unfoldable pub from_first : List Trip → List Trip
from_first [] = []
from_first (t ∷ ts) = cond (is_lost t.fate) (from_first ts) (t ∷ ts)

-- "to the last"
unfoldable pub all_lost : List Trip → Bool
all_lost [] = true
all_lost (t ∷ ts) = is_lost t.fate && all_lost ts

unfoldable pub to_last : List Trip → List Trip
to_last [] = []
to_last (t ∷ ts) = cond (all_lost (t ∷ ts)) [] (t ∷ to_last ts)

-- the state that calls in a row leave
unfoldable pub left_by : Receiver → List ReceiveCall → Receiver
left_by st [] = st
left_by st (c ∷ cs) = left_by c.answer.state cs

-- what holds between two boxes of whatever the line carries, the receiver being fresh; the line may alter `most` bits of a cell and
-- lose `row` cells in a row, and at most `cells` are sent
abbrev pub OverTheLine : ℕ → ℕ → ℕ → (SendCall → Type 0) → (ReceiveCall → Type 0)
    → (Receiver → List Trip → List ReceiveCall → Type 0) → Type 0
OverTheLine most row cells SendBox ReceiveBox Holds =
    (st : Sender) (sends : List SendCall) (trips : List Trip) (receives : List ReceiveCall)
    → ((format_of st.format).overhead_bits ≡ 0 → ⊥)
    → Sending SendBox st sends
    → map (λ t. t.sent) trips ≡ wrote sends
    → length trips ≤ cells
    → Each (λ t. Fair most t.sent t.fate) trips
    → longest 0 trips ≤ row
    → Receiving ReceiveBox (R.open_state st.format st.channels st.order) receives
    → map taken receives ≡ arrivals trips
    → Each WithRoom receives
    → Holds (R.open_state st.format st.channels st.order) trips receives

-- what demand 3 says of it. Request 5: "this number is the last unaltered cell's place counted from the first unaltered one, plus
-- 1, or 0 where no cell came unaltered"; places are counted from 0, so it is how many cells there are from the first to the last
pub record ComesOut (fresh : Receiver) (trips : List Trip) (receives : List ReceiveCall) : Type 0 where
  pub handed_out : handed receives ≡ flat_map places_of (to_last (from_first trips))
  pub counted : (left_by fresh receives).count ≡ length (to_last (from_first trips))

-- Demand 3 of two boxes
unfoldable pub Demand3 : ℕ → ℕ → ℕ → (SendCall → Type 0) → (ReceiveCall → Type 0) → Type 0
Demand3 most row cells SendBox ReceiveBox = OverTheLine most row cells SendBox ReceiveBox ComesOut

-- beside it: the refusals that calls answered, 0 where a cell was taken
abbrev pub refusals : List ReceiveCall → List ℕ
refusals calls = map (λ c. c.answer.refusal) calls

-- those that one cell's deliveries get: "Extra copies of an unaltered cell are refused 9"; a spoiled cell is refused each time
-- alike, 8, or 5 where it came with another number of octets than 48
abbrev pub refusals_of : Fate → List ℕ
refusals_of dropped = []
refusals_of (spoiled came indication again) = replicate (suc again) (cond (eqb (length came) 48) 8 5)
refusals_of (unaltered again) = 0 ∷ replicate again 9

-- Request 5 of a receiver: "it equals the sound cells plus the missing counts of the calls made since the state was opened"; a call
-- that isn't refused took a sound cell
unfoldable pub CountsCells : (ReceiveCall → Type 0) → Type 0
CountsCells Box =
    (octet channels order : ℕ) (opening : Ready) (calls : List ReceiveCall)
    → MeetsOpenReceiver octet channels order opening
    → Receiving Box opening.state calls
    → (left_by opening.state calls).count ≡ count_of (λ c. eqb c.answer.refusal 0) calls + total_of (λ c. c.answer.missing) calls
