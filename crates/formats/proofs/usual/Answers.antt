-- `formats::usual` meets its contract.
-- Assumes nothing.
use mathlib.Core.Bool.{Bool, cond}
use mathlib.Core.Path.{◌∙◌, sym, ap}
use Rattle.formats.specs.Settings.{settings_of}
use Rattle.formats.proofs.Laws.{usual_one, usual_two}
use Rattle.formats.proofs.usual.Goals as goal

pub returns-then-stereo : goal.returns-then-stereo
returns-then-stereo c = c.usual_with.ensures ∙ usual_two ∙ ap (λ (b : Bool). settings_of 0x56 (cond b 2 1) 0) (sym c.if-stereo.true)

pub returns : goal.returns
returns c = c.usual_with-2.ensures ∙ usual_one ∙ ap (λ (b : Bool). settings_of 0x56 (cond b 2 1) 0) (sym c.if-stereo.false)
