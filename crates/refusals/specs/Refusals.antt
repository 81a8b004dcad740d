-- The numbers of refusals, documents 01 and 02.
-- Assumes nothing.
use Rattle.std.specs.Prelude.{ℕ, Result, Ok, Err}
use Rattle.refusals.specs.declared.Refusal.{Refusal}
use Rattle.refusals.specs.declared.Refusal.TheVariants as R

-- "Numbers a box may say no with"
unfoldable pub number_of : Refusal → ℕ
number_of R.Format = 1
number_of R.Channels = 2
number_of R.Order = 3
number_of R.State = 4
number_of R.Length = 5
number_of R.Sample = 6
number_of R.Indication = 7
number_of R.Number = 8
number_of R.Repeat = 9
number_of R.Room = 10
number_of R.LogNumber = 11
number_of R.LogRecord = 12
number_of R.LogLength = 13
number_of R.Status = 14
number_of R.Indicated = 15
number_of R.Preambles = 16
number_of R.Parity = 17
number_of R.Logs = 18
number_of R.Total = 19
number_of R.Count = 20
number_of R.Output = 21
number_of R.Plan = 22
number_of R.Frequency = 23
number_of R.Overhead = 26
number_of R.UnitSize = 27
number_of R.UnitRoom = 28
number_of R.Blocks = 29
number_of R.Circuits = 30
number_of R.Report = 31

-- "Every refusal returns its number"; 0 where nothing is refused
unfoldable pub refused_by : {A : Type 0} → Result A Refusal → ℕ
refused_by (Ok _) = 0
refused_by (Err refusal) = number_of refusal
