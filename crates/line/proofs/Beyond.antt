-- Beyond the demands, on one page: what holds whatever the line loses, and that the tools tell the line's story. Each proof is a
-- citation.
-- Assumes nothing.
use Rattle.line.specs.Answers.{ToolsAnswer}
use Rattle.line.specs.Calls.{MeetsSend, MeetsReceive}
use Rattle.line.specs.Losses.{AnyLoss}
use Rattle.line.specs.Tools.{ToolsTell}
use Rattle.line.proofs.Answers as Answers
use Rattle.line.proofs.Losses as Losses
use Rattle.line.proofs.Tools as Tools

-- "Say what is handed out without that limit, for any row of sent cells, copies included": each sentence is a part of `Shows`.
-- Demand 3 is the case in which no row is longer than fourteen, and is proved from the same induction.
pub any_loss : AnyLoss 3 4294967295 MeetsSend MeetsReceive
any_loss = Losses.any_loss

-- "Take the cells as they arrived, in a log that the library wrote, under demand 3's conditions (copies included)": each sentence
-- is a part of `ToldBy`.
pub tools_tell : ToolsTell 3 14 4294967295 MeetsSend
tools_tell = Tools.tools_tell

-- The sheet of request 3 and the answer of request 7 of such a log: a part of `Answers` each.
pub tools_answer : ToolsAnswer 3 14 4294967295 MeetsSend
tools_answer = Answers.tools_answer
