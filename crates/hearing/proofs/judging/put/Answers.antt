-- `hearing::judging::put` meets its contract.
-- Assumes nothing.
use mathlib.Core.List.{[], ◌∷◌}
use mathlib.Core.Path.{◌≡◌, ◌∙◌, ap}
use Prim.Native.Nat.{ℕ, ◌+◌, ◌-◌}
use native.Mathlib.Omega.{arith}
use borrow.Author.Rules.{rules}
use Rattle.hearing.specs.Judging.{yes_no, report_of}
use Rattle.hearing.proofs.Walks.{copied}
use Rattle.hearing.proofs.judging.put.Goals as goal

pub returns : goal.returns
unfolding report_of
returns c = let got = c.args.got in
    let told : c.from-told.result ≡ yes_no got.indication = search rules in
    let five : c.args.place + 5 - c.args.place ≡ 5 = omega arith in
    copied c.args.reports.now c.args.place (report_of got) five
    (c.copy_from_slice.ensures.after
    ∙ ap (λ (x : ℕ). got.refusal ∷ got.missing ∷ got.number ∷ got.second ∷ x ∷ []) told)
