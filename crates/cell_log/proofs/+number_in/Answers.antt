-- A law for each return.
use Rattle.std.proofs.Common.{ap, sym, ◌-◌, ◌∙◌, ◌+◌, arith}
use Rattle.std.proofs.lemmas.Result.{err_from_is_err_and}
use Rattle.refusals.specs.Refusals.{number_of}
use Rattle.refusals.proofs.Laws.{number_not_0}
use Rattle.cell_log.specs.Answers.{Number}
use Rattle.cell_log.specs.Code.{behind}
use Rattle.cell_log.proofs.Laws.{number_none, number_some_groups, number_cut, number_whole, number_more, number_behind, value_below}
use Rattle.cell_log.proofs.+number_in.Goals as goal
use Rattle.cell_log.proofs.+number_in.Goals.{then-groups-eq0-via-then-groups-eq0, then-groups-eq0-via-else-groups-eq0+then-log-place}

pub returns-then-groups-eq0 : goal.returns-then-groups-eq0
unfolding number_of
returns-then-groups-eq0 t c =
    elim c.then-groups-eq0.branch [
      | then-groups-eq0-via-then-groups-eq0 w ↦ sym (number_none _ _ _ w.if-groups-eq0.true)
      | then-groups-eq0-via-else-groups-eq0+then-log-place w ↦ sym (number_cut _ _ _ w.if-log-place.true)
    ]

pub returns-then-group-lt128 : goal.returns-then-group-lt128
returns-then-group-lt128 t c =
    sym (number_some_groups _ _ _ c.if-groups-eq0.false
    ∙ number_whole _ _ _ c.from-group.ensures (omega arith) c.if-group-lt128.true)

pub returns-in_err-number_in : goal.returns-in_err-number_in
returns-in_err-number_in t c =
    let p = err_from_is_err_and c.from_residual.result c.from_residual.ensures.1 in
    rw (p.1, p.2)
    (number_behind _ _ _ c.from-group.ensures (omega arith) c.if-group-lt128.false c.in_err-number_in.ensures (number_not_0 _)
    ∙ sym (number_some_groups _ _ _ c.if-groups-eq0.false))

pub behind-requires : goal.behind-requires
behind-requires t c =
    omega (
      arith,
      ap (λ (x : Number). x.value) c.in_ok-number_in.ensures,
      value_below (c.args.groups - 1) c.args.log.now (c.args.place + 1) (omega (arith, c.requires)),
    )

pub returns : goal.returns
returns t c =
    c.behind.ensures
    ∙ ap (behind c.from-group.result) c.in_ok-number_in.ensures
    ∙ sym (number_some_groups _ _ _ c.if-groups-eq0.false
    ∙ number_more _ _ _ c.from-group.ensures (omega arith) c.if-group-lt128.false)
