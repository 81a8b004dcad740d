-- `numbers::number_of` meets its contract: four bits that the number in the other four asks find what the whole table holds.
-- Assumes nothing.
use Rattle.std.specs.Prelude.{Option, Some}
use Rattle.std.proofs.Common.{◌≡◌, ℕ, ◌/◌, ◌%◌, sym, ap, ◌∙◌, subst}
use Rattle.numbers.specs.Numbers.{entry_of, found_of, Finds}
use Rattle.numbers.specs.Code.{sequence_of}
use Rattle.numbers.proofs.Laws.{other_four, four_number, four_nothing, finds}
use Rattle.numbers.proofs.number_of.Goals as goal
use Rattle.numbers.proofs.number_of.Goals.{After-turned_round, Start}

-- after the last call: the way back to the start
abbrev from : After-turned_round → Start
from c = c.before.before.before

asked : (c : After-turned_round) → other_four (from c).args.word ≡ c.first_eight.result / 16
asked c =
    sym
    (ap (λ (n : ℕ). n / 16)
    (c.first_eight.ensures
    ∙ ap (λ (n : ℕ). sequence_of (entry_of (n % 16)) 0) c.turned_round-number.ensures))

-- what is returned is what the table has
said : (word : ℕ) {found : Option ℕ} → found ≡ found_of word → Finds word found
said word e = subst (λ f. Finds word f) (sym e) (finds word)

pub returns-then-first_eight-turned_round : goal.returns-then-first_eight-turned_round
returns-then-first_eight-turned_round c = said (from c.before).args.word
    (ap Some c.turned_round-number.ensures
    ∙ four_number (from c.before).ranges.word.fits (asked c.before ∙ c.if-first_eight-turned_round.true ∙ c.turned_round.ensures))

pub returns-else-first_eight-turned_round : goal.returns-else-first_eight-turned_round
returns-else-first_eight-turned_round c = said (from c.before).args.word
    (four_nothing (from c.before).ranges.word.fits (λ e. c.if-first_eight-turned_round.false (sym (asked c.before) ∙ e ∙ sym c.turned_round.ensures)))
