-- Words of the pages on channel status, the log, its list and the requests, of the C calls where there is one.
-- Assumes nothing.
use Rattle.std.specs.Prelude.{cond, not, ◌||◌, List, ◌≡◌, ℕ, zero, suc, ◌+◌, eqb, ltb, length, get_or}
use Rattle.cell_log.specs.Records.{header_of}
use Rattle.reading.specs.Heard.{end_of, sound_in, missing_in, refused_in}
use Rattle.reading.specs.Reading.{fresh_of}
use Rattle.listing.specs.declared.Tally.{Tally}
use Rattle.listing.specs.List.{heard_to}
use Rattle.status.specs.Bits.{bit_of}
use Rattle.status.specs.Check.{check_character}
use Rattle.status.specs.Step.{step_of, is_refused}
use Rattle.status.specs.declared.step.Block.{Block}
use Rattle.circuits.specs.Circuits.{slots_of}
use Rattle.circuits.specs.Plans.{Good, ShareFault, AllowanceFault, SumFault}
use Rattle.units.specs.Back.{ExportCall, ReadCall}
use Rattle.rimesatchel.specs.Network.{ExportedUnits, ReadUnit}
use Rattle.rimesatchel.specs.Statuses.{block_of}

-- request 6, of a block that was handed out: "The answer becomes one of three: fits, doesn't fit, none carried. The third is given exactly
-- where that bit is 0" ("bit 0 of octet 0"): 3 none carried, 2 fits, 1 doesn't fit
pub record AnswersFit (octets : List ℕ) (answer : ℕ) : Type 0 where
  pub none_carried : bit_of octets 0 ≡ 0 → answer ≡ 3
  pub only_there : answer ≡ 3 → bit_of octets 0 ≡ 0
  pub fits : (bit_of octets 0 ≡ 0 → ⊥) → get_or octets 23 0 ≡ check_character octets → answer ≡ 2
  pub doesn't_fit : (bit_of octets 0 ≡ 0 → ⊥) → (get_or octets 23 0 ≡ check_character octets → ⊥) → answer ≡ 1

-- `rime_status_run`: "14, as for rime_status_step, at any entry that the call would use", which are those up to the first that hands out a
-- block; at most so many
module _ (step : ℕ) (ancillary marks : List ℕ) where
  unfoldable pub refused_from : ℕ → Block → ℕ → ℕ
  refused_from zero block at = 0
  refused_from (suc n) block at =
      let stepped = step_of block (get_or ancillary at 0) (get_or marks at 0) in
      cond (ltb at (length ancillary))
      (cond (is_refused block.bits (get_or ancillary at 0) (get_or marks at 0)) 14
      (cond (eqb stepped.handed.answer 0) (refused_from n stepped.block (at + step)) 0))
      0

-- "5, the runs aren't equally long or `step` is 0", then 14
abbrev pub run_refusal : List ℕ → List ℕ → List ℕ → ℕ → ℕ → ℕ
run_refusal block ancillary marks from step =
    cond (not (eqb (length ancillary) (length marks)) || eqb step 0) 5
    (refused_from step ancillary marks (length ancillary) (block_of block) from)

-- request 14, "the state at the end": the receiver and the counts behind all records within the limit
pub record EndsAs (limit : ℕ) (log : List ℕ) (tally : Tally) : Type 0 where
  pub state : tally.state ≡ end_of (fresh_of (header_of log)) (heard_to limit log)
  pub records : tally.records ≡ length (heard_to limit log)
  pub sound : tally.sound ≡ sound_in (heard_to limit log)
  pub missing : tally.missing ≡ missing_in (heard_to limit log)
  pub refused : tally.refused ≡ refused_in (heard_to limit log)

-- request 11, of `rime_circuits_check`: the answer's two numbers. "Our checker says yes exactly when .."; "A no names the first fault"
pub record Checks (octet channels frequency : ℕ) (shares allowances answer : List ℕ) : Type 0 where
  pub yes_only : get_or answer 0 0 ≡ 1 → Good (slots_of octet) channels frequency shares allowances
  pub yes_there : Good (slots_of octet) channels frequency shares allowances → get_or answer 0 0 ≡ 1
  pub share : get_or answer 0 0 ≡ 2 → ShareFault (slots_of octet) frequency shares allowances (get_or answer 1 0)
  pub allowance : get_or answer 0 0 ≡ 3 → AllowanceFault (slots_of octet) frequency shares allowances (get_or answer 1 0)
  pub sum : get_or answer 0 0 ≡ 4 → SumFault (slots_of octet) channels frequency shares allowances

-- request 13: calls of `rime_units_export` and `rime_unit_read`, as the records of the functions have them
pub record UnitsFace : Type 0 where
  pub format : ℕ
  pub channels : ℕ
  pub size : ℕ
  pub samples : List ℕ
  pub ancillary : List ℕ
  pub out : List ℕ
  pub refusal : ℕ
  pub out_after : List ℕ
  pub told : List ℕ

abbrev pub MeetsUnitsFace : UnitsFace → Type 0
MeetsUnitsFace c =
    ExportedUnits c.format c.channels c.size c.samples c.ancillary c.out c.refusal c.out_after c.told

abbrev pub export_of_face : UnitsFace → ExportCall
export_of_face c =
    record {
      octet = c.format;
      channels = c.channels;
      size = c.size;
      samples = c.samples;
      ancillary = c.ancillary;
      out = c.out;
      answer = record { refusal = c.refusal; octets = get_or c.told 0 0; full = get_or c.told 1 0; units = get_or c.told 2 0 };
      out_after = c.out_after;
    }

pub record UnitFace : Type 0 where
  pub format : ℕ
  pub channels : ℕ
  pub unit : List ℕ
  pub samples : List ℕ
  pub ancillary : List ℕ
  pub refusal : ℕ
  pub samples_after : List ℕ
  pub ancillary_after : List ℕ
  pub entries : ℕ

abbrev pub MeetsUnitFace : UnitFace → Type 0
MeetsUnitFace c =
    ReadUnit c.format c.channels c.unit c.samples c.ancillary c.refusal c.samples_after c.ancillary_after c.entries

abbrev pub read_of_face : UnitFace → ReadCall
read_of_face c =
    record {
      octet = c.format;
      channels = c.channels;
      unit = c.unit;
      samples = c.samples;
      ancillary = c.ancillary;
      answer = record { refusal = c.refusal; entries = c.entries };
      samples_after = c.samples_after;
      ancillary_after = c.ancillary_after;
    }
