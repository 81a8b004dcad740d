-- `salvaging::parts::put_record` meets its contract.
-- Assumes nothing.
use Rattle.std.proofs.Common.{◌≡◌, ℕ, Bool, true, false, ◌∷◌, refl, ap, ◌∙◌}
use Rattle.cell_log.specs.Written.{octet_of}
use Rattle.text.proofs.Laws.{puts_then, puts_same}
use mir.Val.{bool_byte}
use Rattle.salvaging.proofs.parts.put_record.Goals as goal

byte_is : (indication : Bool) → bool_byte indication ≡ octet_of indication
byte_is true = refl
byte_is false = refl

pub returns : goal.returns
returns c = puts_same (ap (λ (octet : ℕ). octet ∷ c.args.cell.now) (c.from.ensures ∙ byte_is c.args.indication))
    (puts_then c.put_all-past.ensures c.put_all.ensures)
