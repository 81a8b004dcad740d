-- `glance::masks_for` meets its contract: each arm computed.
-- Assumes nothing.
use mathlib.Core.Logic.{⊎_elim}
use mathlib.Core.Path.{sym, ◌∙◌, ap}
use Rattle.glance.specs.Code.{masks_of}
use Rattle.glance.proofs.Words.{unfolded, NoneIn, others}
use Rattle.glance.proofs.masks_for.Goals as goal

pub returns-in-19 : goal.returns-in-19
unfolding unfolded
returns-in-19 c = c.three.ensures
    ∙ ⊎_elim (λ e. sym (ap masks_of e)) (λ e. sym (ap masks_of e)) c.in-19.is

pub returns-in-21 : goal.returns-in-21
unfolding unfolded
returns-in-21 c = c.three-in-21.ensures
    ∙ ⊎_elim (λ e. sym (ap masks_of e)) (λ e. sym (ap masks_of e)) c.in-21.is

pub returns-in-23 : goal.returns-in-23
unfolding unfolded
returns-in-23 c = c.three-in-23.ensures
    ∙ ⊎_elim (λ e. sym (ap masks_of e)) (λ e. sym (ap masks_of e)) c.in-23.is

pub returns-in-82 : goal.returns-in-82
unfolding unfolded
returns-in-82 c = c.three-in-82.ensures ∙ sym (ap masks_of c.in-82.is)

pub returns-in-84 : goal.returns-in-84
unfolding unfolded
returns-in-84 c = c.three-in-84.ensures ∙ sym (ap masks_of c.in-84.is)

pub returns-in-86 : goal.returns-in-86
unfolding unfolded
returns-in-86 c = c.three-in-86.ensures ∙ sym (ap masks_of c.in-86.is)

pub returns-in-90 : goal.returns-in-90
unfolding unfolded
returns-in-90 c = c.three-in-90.ensures ∙ sym (ap masks_of c.in-90.is)

pub returns-in_default : goal.returns-in_default
unfolding NoneIn
returns-in_default c = c.three-in_default.ensures ∙ others c.args.octet c.in_default.in_default-own.rest
