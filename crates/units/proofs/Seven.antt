-- "Only the seven base formats without overhead may leave this way": of all octets just these.
-- Assumes nothing.
use mathlib.Core.Bool.{Bool, true, cond, not}
use mathlib.Core.Path.{◌≡◌, refl}
use Rattle.runs.specs.Test.{every}
use Rattle.formats.specs.Formats.{is_among}
use Rattle.formats.proofs.Wrong as formats
use Rattle.units.specs.Back.{seven, may_leave}

abbrev same : Bool → Bool → Bool
same a b = cond a b (not b)

pub just_the_seven : every (λ octet. same (may_leave octet) (is_among octet seven)) 256 ≡ true
unfolding every formats.unfolded may_leave
just_the_seven = refl
