-- `formats::settings` meets its contract.
-- Assumes nothing.
use mathlib.Core.Path.{refl, sym}
use native.Mathlib.Omega.{arith}
use Rattle.std.proofs.lemmas.Result.{err_from_is_err_and}
use Rattle.refusals.specs.Refusals.{number_of, refused_by}
use Rattle.refusals.proofs.Laws.{number_not_0}
use Rattle.formats.specs.Formats.{format_of}
use Rattle.formats.proofs.Laws.{by_1, found_none, found_some, refuses, settles, some_channels}
use Rattle.formats.proofs.settings.Goals as goal

pub returns-in_default : goal.returns-in_default
unfolding number_of
returns-in_default c = let a = c.args in let none = found_none a.octet c.in_default.ensures in
    refuses {f = format_of a.octet} {n = 1} a.octet a.channels a.order refl (by_1 _ a.channels a.order none) (λ e. omega (arith, e))

pub checked-requires : goal.checked-requires
checked-requires c = (found_some c.args.octet c.in-Some.ensures).some

pub returns-in_err-checked : goal.returns-in_err-checked
unfolding refused_by
returns-in_err-checked c =
    let p = err_from_is_err_and c.from_residual.result c.from_residual.ensures.1 in
    let a = c.args in
    rw (p.1, p.2)
    (refuses a.octet a.channels a.order (found_some a.octet c.in-Some.ensures).is c.in_err-checked.ensures (number_not_0 _))

pub times_of-times-requires : goal.times_of-times-requires
unfolding refused_by
times_of-times-requires c = let a = c.args in
    some_channels c.in-Some.format.slots a.channels a.order (sym c.in_ok-checked.ensures)

pub returns : goal.returns
unfolding refused_by
returns c = let a = c.args in
    settles a.octet a.channels a.order (found_some a.octet c.in-Some.ensures).is c.in_ok-checked.ensures refl c.times_of-times.ensures
