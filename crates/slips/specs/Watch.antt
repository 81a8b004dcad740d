-- The watch over second numbers: one step for each cell that the receiver takes. Second numbers are unprotected, so a slip is told
-- only where the two cells before it agree and the two behind it agree.
-- Assumes nothing.
use Rattle.std.specs.Prelude.{Bool, cond, not, ◌&&◌, ◌||◌, ℕ, suc, ◌+◌, eqb, ltb}
use Rattle.numbers.specs.Numbers.{difference_of}
use Rattle.slips.specs.Slips.{starts_of, behind_of}

-- what is known of the cells before: "a yes or no is 1 or 0, every other octet a number modulo 16"
pub record Watch : Type 0 where
  pub started : ℕ
  pub number : ℕ
  pub sure : ℕ
  pub second : ℕ
  pub may : ℕ
  pub waits : ℕ
  pub other : ℕ

-- what a step leaves and tells
pub record Stepped : Type 0 where
  pub refusal : ℕ
  pub watch : Watch
  pub what : ℕ
  pub cells : ℕ

-- "a yes or no above 1, a number above 15"
unfoldable pub is_too_large : Watch → Bool
is_too_large w =
    ltb 1 w.started || (ltb 15 w.number || (ltb 1 w.sure || (ltb 15 w.second
    || (ltb 15 w.may || (ltb 1 w.waits || ltb 15 w.other)))))

abbrev is_some : ℕ → Bool
is_some n = not (eqb n 0)

-- "not started and not all zeros"
unfoldable pub some_set : Watch → Bool
some_set w = is_some w.number || (is_some w.sure || (is_some w.second || (is_some w.may || (is_some w.waits || is_some w.other))))

-- "not sure and not waiting or with `second` or `may` not 0, sure and not waiting with `may` or `other` not 0"
unfoldable pub unlike : Watch → Bool
unlike w =
    cond (eqb w.sure 0)
    (eqb w.waits 0 || (is_some w.second || is_some w.may))
    (eqb w.waits 0 && (is_some w.may || is_some w.other))

-- 4: "a watch that can't be"
unfoldable pub watch_refused : Watch → Bool
watch_refused w = is_too_large w || cond (eqb w.started 0) (some_set w) (unlike w)

-- 31: "a report that can't follow: missing above 14, number or second above 15, missing not 0 at the first cell, later missing + 1 not
-- the difference of the numbers modulo 16"
unfoldable pub report_refused : Watch → ℕ → ℕ → ℕ → Bool
report_refused w missing number second =
    ltb 14 missing || (ltb 15 number || (ltb 15 second
    || cond (eqb w.started 0) (is_some missing) (not (eqb (suc missing) (difference_of number w.number)))))

-- "started, not sure, waits, other = second"
abbrev pub begun : ℕ → ℕ → Watch
begun number second = record { started = 1; number = number; sure = 0; second = 0; may = 0; waits = 1; other = second }

-- "in step (sure, second = this one, may 0, not waiting, other 0)"
abbrev pub in_step_of : ℕ → ℕ → Watch
in_step_of number second = record { started = 1; number = number; sure = 1; second = second; may = 0; waits = 0; other = 0 }

-- "waits, other = this one, may = may', `second` stays"
abbrev pub out_of_step : ℕ → ℕ → ℕ → ℕ → Watch
out_of_step number kept may second = record { started = 1; number = number; sure = 1; second = kept; may = may; waits = 1; other = second }

abbrev pub told : Watch → ℕ → ℕ → Stepped
told w what cells = record { refusal = 0; watch = w; what = what; cells = cells }

-- "On a refusal the watch stays and `slip` is zeros"
abbrev pub refused : ℕ → Watch → Stepped
refused refusal w = record { refusal = refusal; watch = w; what = 0; cells = 0 }

-- "the lesser of 15 and may + by"
unfoldable pub may_after : ℕ → ℕ → ℕ
may_after may by = cond (ltb 15 (may + by)) 15 (may + by)

-- "agrees = waits and second - other = by modulo 16"
unfoldable pub agrees_with : Watch → ℕ → ℕ → Bool
agrees_with w second by = eqb w.waits 1 && eqb (difference_of second w.other) by

-- "tell 1 with behind(..), or 0 where that is 0"
unfoldable pub slipped : ℕ → ℕ → ℕ → Stepped
slipped number second cells = told (in_step_of number second) (cond (eqb cells 0) 0 1) cells

-- a watch that is sure: "second - `second` = may' modulo 16: in step; tell 2 where it waited, else 0. Else agrees: in step; tell 1 with
-- behind(other - `second` modulo 16, may), the **old** may. Else: waits; tell 3 with behind(this one - `second` modulo 16, may')"
unfoldable pub sure_step : Watch → ℕ → ℕ → ℕ → Stepped
sure_step w number second by =
    cond (eqb (difference_of second w.second) (may_after w.may by))
    (told (in_step_of number second) (cond (eqb w.waits 1) 2 0) 0)
    (cond (agrees_with w second by)
    (slipped number second (behind_of (difference_of w.other w.second) w.may))
    (told (out_of_step number w.second (may_after w.may by) second) 3
    (behind_of (difference_of second w.second) (may_after w.may by))))

-- one that isn't: "agrees: in step, else waits anew with this one; tell 0"
unfoldable pub new_step : Watch → ℕ → ℕ → ℕ → Stepped
new_step w number second by = told (cond (agrees_with w second by) (in_step_of number second) (begun number second)) 0 0

-- a step that isn't refused: "not started: started, not sure, waits, other = second; tell 0"
unfoldable pub taken_step : Watch → ℕ → ℕ → ℕ → Stepped
taken_step w missing number second =
    cond (eqb w.started 0) (told (begun number second) 0 0)
    (cond (eqb w.sure 0)
    (new_step w number second (starts_of w.number (suc missing)))
    (sure_step w number second (starts_of w.number (suc missing))))

-- "Refusals, in this order: 4 for a watch that can't be; 31 for a report that can't follow"
unfoldable pub step_refusal : Watch → ℕ → ℕ → ℕ → ℕ
step_refusal w missing number second = cond (watch_refused w) 4 (cond (report_refused w missing number second) 31 0)

unfoldable pub step_of : Watch → ℕ → ℕ → ℕ → Stepped
step_of w missing number second =
    cond (watch_refused w) (refused 4 w)
    (cond (report_refused w missing number second) (refused 31 w) (taken_step w missing number second))
