-- What writing a log and listing one leave in what is lent to them.
-- Assumes nothing.
use Rattle.std.specs.Prelude.{cond, List, [], ◌∷◌, ◌++◌, ◌≡◌, ℕ, ◌-◌, length, take, drop}
use Rattle.runs.specs.Runs.{over}
use Rattle.cell_log.specs.Answers.{Kept}
use Rattle.text.specs.declared.Put.{Put}
use Rattle.listing.specs.declared.Listing.{Listing}
use Rattle.listing.specs.List.{list_of}
use Rattle.listing.specs.Taking.{end_of_text}
use Rattle.text.specs.Put.{listed}

-- the refusal that is returned, and the place that is written
abbrev pub kept_as : ℕ → ℕ → Kept
kept_as refusal next = record { refusal = refusal; next = next }

-- `listed`: octets written, the whole list or not
abbrev pub listed_numbers : Put → List ℕ
listed_numbers l = l.octets ∷ cond l.whole 1 0 ∷ []

-- the list as far as the run goes; nothing is refused
pub record ListedOctets (log run : List ℕ) (refusal : ℕ) (after numbers : List ℕ) : Type 0 where
  pub refused : refusal ≡ 0
  pub said : numbers ≡ listed_numbers (listed (length run) (list_of log))
  pub left : after ≡ over (take (length run) (list_of log)) run

-- a word of the code: the end of a list, written from a place of the run on
pub record EndsFrom (l : Listing) (held run : List ℕ) (at : ℕ) (answer : Put) (after : List ℕ) : Type 0 where
  pub said : answer ≡ listed (length run - at) (end_of_text l held)
  pub left : after ≡ take at run ++ over (take (length run - at) (end_of_text l held)) (drop at run)
