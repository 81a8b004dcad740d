-- `rimesatchel::logs::rime_log_header` meets its contract: it says what `log::read_header` says.
-- Assumes nothing.
use mathlib.Core.Path.{◌∙◌, ap}
use native.Mathlib.Omega.{arith}
use Rattle.cell_log.specs.Answers.{Header}
use Rattle.cell_log.proofs.Headers.{header_place}
use Rattle.rimesatchel.specs.Logs.{header_numbers}
use Rattle.rimesatchel.proofs.logs.rime_log_header.Goals as goal

pub overflow_cast-header : goal.overflow_cast-header
overflow_cast-header c = omega (arith, ap (λ (h : Header). h.place) c.in-Ok.ensures, header_place c.args.log.now)

pub returns-in-Ok : goal.returns-in-Ok
returns-in-Ok c = (ap (λ (h : Header). h.refusal) c.in-Ok.ensures, ap header_numbers c.in-Ok.ensures)

pub returns-in-Err : goal.returns-in-Err
returns-in-Err c = (c.into.ensures ∙ ap (λ (h : Header). h.refusal) c.in-Err.ensures, ap header_numbers c.in-Err.ensures)
