-- `rimesatchel::contents::rime_anything` meets its contract: it says what `presence::anything` says.
-- Assumes nothing.
use mathlib.Core.Bool.{Bool, true, false, cond}
use mathlib.Core.List.{[], ◌∷◌}
use mathlib.Core.Path.{◌≡◌, refl, ◌∙◌, ap}
use mir.Val.{bool_byte}
use Rattle.presence.specs.declared.Presence.{Presence}
use Rattle.rimesatchel.specs.Contents.{presence_numbers}
use Rattle.rimesatchel.proofs.contents.rime_anything.Goals as goal

byte_of : (b : Bool) → bool_byte b ≡ cond b 1 0
byte_of true = refl
byte_of false = refl

as_numbers : (p : Presence) → bool_byte p.found ∷ p.number ∷ [] ≡ presence_numbers p
as_numbers p = rw (byte_of p.found)

pub returns : goal.returns
returns c = (
  ap (λ (p : Presence). p.refusal) c.anything-found.ensures,
  as_numbers c.anything-found.result ∙ ap presence_numbers c.anything-found.ensures,
)
