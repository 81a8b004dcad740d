-- Many steps in one call: `step_of` over the entries `from`, `from + step`, .. of two runs, until one hands out a block or the run
-- ends.
-- Assumes nothing.
use Rattle.std.specs.Prelude.{Bool, cond, not, ◌||◌, List, ℕ, zero, suc, ◌+◌, eqb, ltb, length, get_or}
use Rattle.status.specs.Step.{Stepped, step_of, unfinished}
use Rattle.status.specs.declared.step.Block.{Block}

-- what a run of steps leaves and hands out, and the entry that comes next
pub record Ran : Type 0 where
  pub stepped : Stepped
  pub next : ℕ

-- the steps end here: a block is handed out, or the step is refused
abbrev pub is_last : Stepped → Bool
is_last s = not (eqb s.handed.refusal 0) || not (eqb s.handed.answer 0)

-- no entry is used: the block stays, nothing goes out, and the next entry is this one
abbrev pub ended : Block → ℕ → Ran
ended block at = record { stepped = unfinished 0 block; next = at }

module _ (step : ℕ) (ancillary marks : List ℕ) where
  -- the step at an entry, and what comes after it
  abbrev pub gone_on : (Block → ℕ → Ran) → Stepped → ℕ → Ran
  gone_on more s next = cond (is_last s) (record { stepped = s; next = next }) (more s.block next)

  -- the steps one by one from an entry on, at most so many
  unfoldable pub ran_from : ℕ → Block → ℕ → Ran
  ran_from zero block at = ended block at
  ran_from (suc n) block at =
      cond (ltb at (length ancillary))
      (gone_on (ran_from n) (step_of block (get_or ancillary at 0) (get_or marks at 0)) (at + step))
      (ended block at)

-- "cut at 18,446,744,073,709,551,615"
abbrev pub cut_to64 : ℕ → ℕ
cut_to64 n = cond (ltb n 18446744073709551615) n 18446744073709551615

-- "nothing moved and `*next` 0"
abbrev pub ran_not : ℕ → Block → Ran
ran_not refusal block = record { stepped = unfinished refusal block; next = 0 }

-- a refused step refuses the call: "the block is then as before the call"
abbrev pub as_whole : Block → Ran → Ran
as_whole block ran =
    cond (eqb ran.stepped.handed.refusal 0)
    (record { stepped = ran.stepped; next = cut_to64 ran.next })
    (ran_not ran.stepped.handed.refusal block)

-- "5, the runs aren't equally long or `step` is 0; 14, as for the step"; no more steps than entries
unfoldable pub ran_of : Block → List ℕ → List ℕ → ℕ → ℕ → Ran
ran_of block ancillary marks from step =
    cond (not (eqb (length ancillary) (length marks)) || eqb step 0)
    (ran_not 5 block)
    (as_whole block (ran_from step ancillary marks (length ancillary) block from))
