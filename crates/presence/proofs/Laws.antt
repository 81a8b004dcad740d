-- Laws of a test along a list, and of the answer record by record.
-- Assumes nothing.
use Rattle.std.proofs.Common.{◌≡◌, ℕ, suc, ◌+◌, Bool, true, false, cond, ◌||◌, List, [], ◌∷◌, length, ap, true≢false, arith}
use Rattle.runs.proofs.Laws.{split}
use Rattle.reading.specs.Heard.{Heard}
use Rattle.presence.specs.declared.Presence.{Presence}
use Rattle.presence.specs.Presence.{sounds, some_of, first_of, yes_at, none_in, answer_of}

pub or_rest : (a b : Bool) → a ≡ false → a || b ≡ true → b ≡ true
or_rest true b f e = absurd (true≢false f)
or_rest false b f e = e

-- the answer of records that are numbered from n on
unfoldable pub answer_from : ℕ → List Heard → Presence
answer_from n heard = cond (some_of sounds heard) (yes_at (n + first_of sounds heard)) (none_in (n + length heard))

pub from_start : (heard : List Heard) → answer_of heard ≡ answer_from 0 heard
unfolding answer_of answer_from
from_start heard =
    let first : 0 + first_of sounds heard ≡ first_of sounds heard = omega arith in
    let all : 0 + length heard ≡ length heard = omega arith in
    rw (first, all)

pub from_none : (n : ℕ) → answer_from n [] ≡ none_in n
unfolding answer_from some_of
from_none n = let all : n + 0 ≡ n = omega arith in ap none_in all

module _ (n : ℕ) (h : Heard) (heard : List Heard) where
  pub from_yes : sounds h ≡ true → answer_from n (h ∷ heard) ≡ yes_at n
  unfolding answer_from some_of first_of
  from_yes e = let here : n + 0 ≡ n = omega arith in rw e (ap yes_at here)

  pub from_next : sounds h ≡ false → answer_from n (h ∷ heard) ≡ answer_from (n + 1) heard
  unfolding answer_from some_of first_of
  from_next e =
      let first : n + suc (first_of sounds heard) ≡ n + 1 + first_of sounds heard = omega arith in
      let all : n + suc (length heard) ≡ n + 1 + length heard = omega arith in
      rw (e, first, all)

-- the answer's parts
module _ (heard : List Heard) where
  pub answer_found : (answer_of heard).found ≡ some_of sounds heard
  unfolding answer_of
  answer_found = split (some_of sounds heard) (λ e. rw e) (λ e. rw e)

  pub answer_first : some_of sounds heard ≡ true → (answer_of heard).number ≡ first_of sounds heard
  unfolding answer_of
  answer_first e = rw e

  pub answer_all : some_of sounds heard ≡ false → (answer_of heard).number ≡ length heard
  unfolding answer_of
  answer_all e = rw e

  pub answer_taken : (answer_of heard).refusal ≡ 0
  unfolding answer_of
  answer_taken = split (some_of sounds heard) (λ e. rw e) (λ e. rw e)
