-- The line that the program `anything` prints: "`yes K` (the first such record), `no N` (whole records read) or `log refused r`".
-- Assumes nothing.
use Rattle.std.specs.Prelude.{◌≡◌, ℕ, cond, List, ◌++◌, length, take, ◌==◌}
use Rattle.runs.specs.Runs.{over}
use Rattle.text.specs.declared.Put.{Put}
use Rattle.text.specs.Put.{listed}
use Rattle.text.specs.Text.{item}
use Rattle.text.specs.Words.{words}
use Rattle.presence.specs.declared.Presence.{Presence}

unfoldable pub line_of : Presence → List ℕ
line_of p =
    cond (p.refusal == 0)
    (cond p.found (item (words "yes ") p.number ++ words "\n") (item (words "no ") p.number ++ words "\n"))
    (item (words "log refused ") p.refusal ++ words "\n")

-- the whole promise of writing it into a lent run: how many octets of it stand there, and whether they are all
pub record Writes (p : Presence) (run : List ℕ) (answer : Put) (run-after : List ℕ) : Type 0 where
  pub printed : answer ≡ listed (length run) (line_of p)
  pub wrote : run-after ≡ over (take (length run) (line_of p)) run
