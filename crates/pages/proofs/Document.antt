-- Document 01's channel status, log and list, on one page: each sentence beside its theorem, each proof a citation.
-- Assumes nothing.
use mathlib.Core.List.{List, [], ◌∷◌}
use mathlib.Core.Path.{◌≡◌}
use Prim.Native.Nat.{ℕ, suc, ◌+◌, ◌≤◌, ◌<◌}
use lib.ListN.{length, get_or, take, drop}
use Rattle.runs.specs.Runs.{over}
use Rattle.cell_log.specs.Records.{header_of}
use Rattle.pieces.specs.Taken.{joined_of}
use Rattle.text.specs.Words.{words}
use Rattle.listing.specs.Lines.{log_refused_line}
use Rattle.listing.specs.List.{list_of}
use Rattle.listing.specs.Taking.{start_of, written_over_of}
use Rattle.listing.proofs.Refused as listing
use Rattle.status.specs.Bits.{bit_of}
use Rattle.status.specs.Check.{check_character}
use Rattle.status.specs.Sender.{brought_out, Octets, SendsBlock}
use Rattle.status.specs.Step.{fit_of}
use Rattle.status.specs.declared.step.Block.{Block}
use Rattle.status.proofs.Sent as status
use Rattle.rimesatchel.specs.Kept.{ListedOctets}
use Rattle.rimesatchel.specs.Statuses.{SteppedOctets}
use Rattle.line.specs.Calls.{MeetsReadCell, MeetsNextPlace}
use Rattle.line.specs.Demands.{record_table}
use Rattle.worked.specs.Cases.{paper's_log}
use Rattle.worked.proofs.Characters as Characters
use Rattle.pages.proofs.Asked as Asked
use Rattle.pages.proofs.Logged as Logged
use Rattle.pages.proofs.Printed as Printed

-- "After 192 bits .. the block of 24 octets is handed out by value": calls of `rime_status_step` in a row, each with the block that the one
-- before it left, whatever block was under assembly. A sender's 192 C bits, B set on the first, with marks 0 or 1, bring out those octets
-- at the last step, and nothing before.
module _ (blocks outs : ℕ → List ℕ) (refusals ancillary mark : ℕ → ℕ) (octets : List ℕ) where
  pub label_out : ((k : ℕ) → SteppedOctets (blocks k) (ancillary k) (mark k) (refusals k) (blocks (suc k)) (outs k))
      → get_or (blocks 0) 0 0 ≤ 191 → Octets octets → SendsBlock octets ancillary → ((k : ℕ) → k < 192 → mark k ≤ 1)
      → outs 191 ≡ fit_of octets ∷ octets
  label_out steps begun whole sends sound = Asked.label_out blocks outs refusals ancillary mark octets steps begun whole sends sound

  pub none_before : ((k : ℕ) → SteppedOctets (blocks k) (ancillary k) (mark k) (refusals k) (blocks (suc k)) (outs k))
      → get_or (blocks 0) 0 0 ≤ 191 → Octets octets → SendsBlock octets ancillary → ((k : ℕ) → k < 192 → mark k ≤ 1)
      → (k : ℕ) → k < 191 → get_or (outs k) 0 0 ≡ 0
  none_before steps begun whole sends sound = Asked.none_before blocks outs refusals ancillary mark octets steps begun whole sends sound

-- "Mark 2 drops the block": a mark 2 anywhere among them, and nothing is brought out
pub dropped : (block : Block) (octets : List ℕ) (ancillary mark : ℕ → ℕ) → block.bits ≤ 191 → SendsBlock octets ancillary
    → ((k : ℕ) → k < 192 → mark k ≤ 2) → (j : ℕ) → j < 192 → mark j ≡ 2 → brought_out block ancillary mark 192 ≡ []
dropped = status.brings_none

-- "octet 23 is the check character of octets 0 to 22": two blocks that differ in one bit of these have two characters
pub changed_bit : (a b : List ℕ) (k : ℕ) → k < 184 → (bit_of a k ≡ bit_of b k → ⊥)
    → ((j : ℕ) → j < 184 → (j ≡ k → ⊥) → bit_of a j ≡ bit_of b j) → check_character a ≡ check_character b → ⊥
changed_bit = Characters.changed_bit

-- "A place at the log's end or past it answers the end": no cell is there, and the place stays
pub end_cell : (log : List ℕ) (place : ℕ) (part : List ℕ) → MeetsReadCell log place part → length log ≤ place → part ≡ []
end_cell = Logged.end_cell

pub end_place : (log : List ℕ) (place next : ℕ) → MeetsNextPlace log place next → length log ≤ place → next ≡ place
end_place = Logged.end_place

-- "it hands each cell back as that part of the log itself": of a record that isn't refused, and the next place is past it
pub whole_cell : (log : List ℕ) (place : ℕ) → place < length log → record_table log place ≡ 0 → (part : List ℕ) → MeetsReadCell log place part
    → part ≡ take 48 (drop (place + 1) log)
whole_cell = Logged.whole_cell

pub whole_place : (log : List ℕ) (place : ℕ) → place < length log → record_table log place ≡ 0 → (next : ℕ) → MeetsNextPlace log place next
    → next ≡ place + 49
whole_place = Logged.whole_place

-- "A fault in the header .. prints only `log refused r`": of any log in any pieces, and of `rime_log_list`
pub list_refused : (limit : ℕ) (held : List ℕ) (pieces : List (List ℕ)) → limit ≤ 4294967295 → length held ≡ 49
    → ((header_of (joined_of pieces)).refusal ≡ 0 → ⊥)
    → written_over_of (start_of limit) held pieces ≡ log_refused_line (header_of (joined_of pieces)).refusal
list_refused = listing.refused_over

pub list_refused_whole : (log run : List ℕ) (refusal : ℕ) (after numbers : List ℕ) → ListedOctets log run refusal after numbers
    → ((header_of log).refusal ≡ 0 → ⊥) → after ≡ over (take (length run) (log_refused_line (header_of log).refusal)) run
list_refused_whole = Logged.refused_listed

-- "For 56 02 00, then twice 00 and the zero cell below, it prints exactly": the four lines
pub prints_exactly : list_of paper's_log ≡ words "format 86 2 0\n0 sound 0 number 0\n1 refused 9\nend 1 sound 0 missing 1 refused\n"
prints_exactly = Printed.prints_exactly
