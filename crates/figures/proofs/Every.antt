-- Nothing is left out of a sheet: every whole record is counted once, as sound or under the number that refused it; every sample is
-- counted once, by its mark; and no record of a sheet that is given was refused by 20.
-- Assumes nothing.
use mathlib.Core.Bool.{false, cond}
use mathlib.Core.List.{List, [], ◌∷◌}
use mathlib.Core.Path.{◌≡◌, refl, sym, ◌∙◌, ap, subst}
use Prim.Native.Nat.{ℕ, ◌+◌, ◌*◌, ◌≤◌}
use native.Mathlib.Nat.{mul-le-mul_right}
use native.Mathlib.Omega.{arith}
use borrow.Author.Tests.{eqb-true, eqb-false}
use lib.Dec.{eqb}
use lib.ListN.{length, drop, length-append}
use Rattle.runs.proofs.Laws.{split}
use Rattle.cells.specs.Placement.{used_of}
use Rattle.cell_log.specs.Records.{header_of}
use Rattle.receiver.specs.declared.Receiver.{Receiver}
use Rattle.receiver.specs.Receiver.{state_refusal, used_now, judged_of}
use Rattle.receiver.proofs.Count.{opened_count}
use Rattle.receiver.proofs.Onward.{opened_passes, opened_used, used_between}
use Rattle.reading.specs.Heard.{heard_by, hear, onward, heard_from, is_sound, sound_in, missing_in, refused_with, marked_with}
use Rattle.reading.specs.Reading.{Reading, fresh_of}
use Rattle.reading.specs.Records.{Whole, records_in}
use Rattle.reading.specs.Totals.{total_of}
use Rattle.reading.proofs.Heard.{refused_missing}
use Rattle.reading.proofs.Reading.{header_settles, reading_is, reading_none}
use Rattle.reading.proofs.Records.{records_framed}
use Rattle.reading.proofs.Said.{onward_used, said_in, all_said, none_20}
use Rattle.figures.specs.declared.Counts.{Counts}
use Rattle.figures.specs.declared.told.Told.{Told}
use Rattle.figures.specs.Code.{marked}
use Rattle.figures.specs.Figures.{counts_of, too_many_of}
use Rattle.figures.specs.Sheets.{heard_in, heard_over, logs_of, totals_of, sheet_refusal}
use Rattle.figures.specs.Stretch.{told_of}
use Rattle.figures.proofs.Adds.{given}
use Rattle.figures.proofs.Cells.{no_marks, taken_own, taken_gap}
use Rattle.figures.proofs.Laws.{counts_joined, few, few_first, few_second}

-- one record's samples: its own, and those of the gap before it
module _ (st : Receiver) (r : Whole) where
  abbrev got : Told
  got = told_of (judged_of st r.cell r.indication)

  own_samples_lem : marked 0 (hear st r).marks + marked 1 (hear st r).marks ≡ used_now st * cond (is_sound (hear st r)) 1 0
  unfolding hear
  own_samples_lem =
      split (eqb got.refusal 0)
      (λ e. rw e (taken_own st r.cell r.indication {told = got} refl (eqb-true _ 0 e) ∙ omega arith))
      (λ e.
      let none = no_marks st r.cell r.indication {told = got} refl (eqb-false _ 0 e) in
      rw e (omega (arith, none 0, none 1)))

  gap_samples : marked 2 (hear st r).marks ≡ used_now st * (hear st r).answer.missing
  unfolding hear
  gap_samples =
      split (eqb got.refusal 0)
      (λ e. taken_gap st r.cell r.indication {told = got} refl (eqb-true _ 0 e))
      (λ e.
      omega (
        arith,
        no_marks st r.cell r.indication {told = got} refl (eqb-false _ 0 e) 2,
        ap (λ (n : ℕ). used_now st * n) (refused_missing st r e),
      ))

samples_from : (st : Receiver) (records : List Whole)
    → (marked_with 0 (heard_from st records) + marked_with 1 (heard_from st records) ≡ used_now st * sound_in (heard_from st records))
    × (marked_with 2 (heard_from st records) ≡ used_now st * missing_in (heard_from st records))
unfolding heard_by total_of
samples_from st [] = (omega arith, omega arith)
samples_from st (r ∷ rs) =
    let next : Receiver = onward (hear st r) in
    let rest = samples_from next rs in
    let same = onward_used st r in (
      omega (arith, own_samples_lem st r, rest.0, ap (λ (u : ℕ). u * sound_in (heard_from next rs)) same),
      omega (arith, gap_samples st r, rest.1, ap (λ (u : ℕ). u * missing_in (heard_from next rs)) same),
    )

-- a log whose header is taken
module _ (log : List ℕ) (ok : (header_of log).refusal ≡ 0) where
  abbrev fresh : Receiver
  fresh = fresh_of (header_of log)

  abbrev records : List Whole
  records = records_in (drop 3 log)

  heard_is : heard_in log ≡ heard_from fresh records
  heard_is = ap (λ (r : Reading). r.heard) (reading_is log ok)

  fresh_passes : state_refusal fresh ≡ 0
  fresh_passes = opened_passes (header_of log).format (header_of log).channels (header_of log).order (header_settles log ok)

  said_all : said_in (heard_in log) ≡ length (heard_in log)
  said_all = rw heard_is (all_said fresh records fresh_passes (records_framed (drop 3 log)))

  abbrev used : ℕ
  used = used_of (header_of log).format (header_of log).channels

  used_is : used_now fresh ≡ used
  used_is = opened_used (header_of log).format (header_of log).channels (header_of log).order (header_settles log ok)

  own_all : marked_with 0 (heard_in log) + marked_with 1 (heard_in log) ≡ used * sound_in (heard_in log)
  own_all = rw heard_is ((samples_from fresh records).0 ∙ ap (λ (u : ℕ). u * sound_in (heard_from fresh records)) used_is)

  gaps_all : marked_with 2 (heard_in log) ≡ used * missing_in (heard_in log)
  gaps_all = rw heard_is ((samples_from fresh records).1 ∙ ap (λ (u : ℕ). u * missing_in (heard_from fresh records)) used_is)

  few_20 : sound_in (heard_in log) + missing_in (heard_in log) ≤ 4294967280 → refused_with 20 (heard_in log) ≡ 0
  few_20 =
      rw heard_is (λ few.
      none_20 fresh records
      (omega (arith, few, opened_count (header_of log).format (header_of log).channels (header_of log).order)))

-- Every whole record of a log is counted once: as sound, or under the number by which it was refused.
abbrev pub records_told : Counts → ℕ
records_told c = c.sound + c.refused_8 + c.refused_9 + c.refused_15 + c.refused_20

pub every_record : (log : List ℕ) → records_told (counts_of (heard_in log)) ≡ length (heard_in log)
unfolding counts_of total_of
every_record log =
    split (eqb (header_of log).refusal 0)
    (λ e. said_all log (eqb-true _ 0 e))
    (λ e. rw (ap (λ (r : Reading). r.heard) (reading_none log (eqb-false _ 0 e))) refl)

-- Every sample is counted once, by its mark: "C×T for a sound cell, C×T marked 2 for each missing one".
pub record SamplesTold (used : ℕ) (c : Counts) : Type 0 where
  pub own : c.marked_0 + c.marked_1 ≡ used * c.sound
  pub gaps : c.marked_2 ≡ used * c.missing

pub every_sample : (log : List ℕ)
    → SamplesTold (used_of (header_of log).format (header_of log).channels) (counts_of (heard_in log))
unfolding counts_of total_of
every_sample log =
    split (eqb (header_of log).refusal 0)
    (λ e. record { own = own_all log (eqb-true _ 0 e); gaps = gaps_all log (eqb-true _ 0 e) })
    (λ e.
    let none : heard_in log ≡ [] = ap (λ (r : Reading). r.heard) (reading_none log (eqb-false _ 0 e)) in
    record { own = rw none (omega arith); gaps = rw none (omega arith) })

-- No record of a sheet that is given was refused by 20: 19 comes first. Before a 20 some 4,294,967,281 cells of the log are placed,
-- each of them five samples or more, which are shared among three marks.
log_not_20 : (log : List ℕ) → too_many_of (counts_of (heard_in log)) ≡ false → (counts_of (heard_in log)).refused_20 ≡ 0
unfolding counts_of total_of
log_not_20 log given =
    split (eqb (header_of log).refusal 0)
    (λ e.
    let ok = eqb-true _ 0 e in
    let small = few (counts_of (heard_in log)) given in
    let five : 5 ≤ used log ok = subst (λ (u : ℕ). 5 ≤ u) (used_is log ok) (used_between (fresh log ok) (fresh_passes log ok)).0 in
    few_20 log ok
    (omega (
      arith,
      own_all log ok,
      gaps_all log ok,
      small.marked0,
      small.marked1,
      small.marked2,
      mul-le-mul_right (sound_in (heard_in log)) five,
      mul-le-mul_right (missing_in (heard_in log)) five,
    )))
    (λ e. rw (ap (λ (r : Reading). r.heard) (reading_none log (eqb-false _ 0 e))) refl)

-- of all logs together
pub every_record_of_all : (logs : List (List ℕ)) → records_told (totals_of logs) ≡ length (heard_over logs)
unfolding heard_over counts_of total_of
every_record_of_all [] = refl
every_record_of_all (log ∷ logs) =
    ap records_told (counts_joined (heard_in log) (heard_over logs))
    ∙ omega (arith, every_record log, every_record_of_all logs, length-append (heard_in log) (heard_over logs))

pub never_20_of_all : (logs : List (List ℕ)) → too_many_of (totals_of logs) ≡ false → (totals_of logs).refused_20 ≡ 0
unfolding heard_over counts_of total_of
never_20_of_all [] given = refl
never_20_of_all (log ∷ logs) given =
    let joined = counts_joined (heard_in log) (heard_over logs) in
    let both = sym (ap too_many_of joined) ∙ given in
    ap (λ (c : Counts). c.refused_20) joined
    ∙ omega (arith, log_not_20 log (few_first _ _ both), never_20_of_all logs (few_second _ _ both))

pub given_never_20 : (octets lengths : List ℕ) (rows : ℕ) → sheet_refusal octets lengths rows ≡ 0
    → (totals_of (logs_of octets lengths)).refused_20 ≡ 0
given_never_20 octets lengths rows taken = never_20_of_all (logs_of octets lengths) (given octets lengths rows taken).few
