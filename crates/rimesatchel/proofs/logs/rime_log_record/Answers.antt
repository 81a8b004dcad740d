-- `rimesatchel::logs::rime_log_record` meets its contract: it says what `log::reader::read` says.
-- Assumes nothing.
use mathlib.Core.List.{[], ◌∷◌}
use mathlib.Core.Path.{◌∙◌, ap}
use Prim.Native.Nat.{ℕ}
use Rattle.cell_log.specs.Answers.{Record}
use Rattle.cell_log.proofs.Answered.{answered_some, answered_none}
use Rattle.rimesatchel.specs.Logs.{record_numbers}
use Rattle.rimesatchel.proofs.Bytes.{byte_of}
use Rattle.rimesatchel.proofs.logs.rime_log_record.Goals as goal

pub returns-in-Ok-Some : goal.returns-in-Ok-Some
returns-in-Ok-Some c =
    let is = answered_some _ c.in-Ok-Some.field-0-is c.in-Ok-Some.ensures in (
      ap (λ (r : Record). r.refusal) is,
      ap (λ (n : ℕ). 1 ∷ n ∷ c.in-Ok-Some.found.start ∷ c.in-Ok-Some.found.next ∷ []) (c.from.ensures ∙ byte_of c.in-Ok-Some.found.indication)
          ∙ ap record_numbers is,
    )

pub returns-in-Ok-None : goal.returns-in-Ok-None
returns-in-Ok-None c =
    let is = answered_none _ c.in-Ok-None.field-0-is c.in-Ok-None.ensures in (ap (λ (r : Record). r.refusal) is, ap record_numbers is)

pub returns-in-Err : goal.returns-in-Err
returns-in-Err c = (c.into.ensures ∙ ap (λ (r : Record). r.refusal) c.in-Err.ensures, ap record_numbers c.in-Err.ensures)
