-- `rimesatchel::taken_searches::numbers_of` meets its contract.
-- Assumes nothing.
use Rattle.std.proofs.Common.{◌≡◌, ℕ, [], ◌∷◌, ◌∙◌, ap, arith}
use Rattle.presence.specs.declared.Search.{Search}
use Rattle.rimesatchel.specs.States.{number_of, with_numbers}
use Rattle.rimesatchel.specs.TakenSearches.{search_from, search_numbers}
use Rattle.rimesatchel.proofs.Bytes.{byte_of}
use Rattle.rimesatchel.proofs.TakenSearchesLaws.{search_back}
use Rattle.rimesatchel.proofs.taken_searches.numbers_of.Goals as goal

numbers_are : (s : Search) {m : ℕ} → m ≡ number_of s.sought.found
    → with_numbers s.standing s.sought.state (s.sought.refusal ∷ m ∷ s.sought.number ∷ []) ≡ search_numbers s
unfolding search_numbers
numbers_are s e = ap (λ (m : ℕ). with_numbers s.standing s.sought.state (s.sought.refusal ∷ m ∷ s.sought.number ∷ [])) e

pub returns : goal.returns
returns c =
    let s : Search = c.args.search in
    let same = c.put_numbers.ensures.0 ∙ numbers_are s (byte_of s.sought.found) in
    (same, ap search_from same ∙ search_back s c.put_numbers.ensures.1 (omega arith))
