-- `figures::rows::row_of` meets its contract: number by number.
-- Assumes nothing.
use mathlib.Core.List.{List, [], ◌∷◌, map}
use mathlib.Core.Path.{sym, ◌∙◌, ap}
use Prim.Native.Nat.{ℕ, ◌%◌}
use native.Mathlib.Omega.{arith}
use Rattle.std.proofs.Math.ListN.{get_or-map}
use Rattle.std.proofs.lemmas.Grind.{same_number_lists}
use Rattle.figures.specs.Figures.{row_of}
use Rattle.figures.specs.Code.{held_row}
use Rattle.figures.specs.declared.Counts.{Counts}
use Rattle.figures.proofs.rows.row_of.Goals as goal

row_with : Counts → ℕ → List ℕ
row_with c per =
    c.sound ∷ c.missing ∷ c.refused_8 ∷ c.refused_9 ∷ c.refused_15 ∷ c.refused_20 ∷ c.marked_0 ∷ c.marked_1 ∷ c.marked_2
    ∷ per ∷ []

pub returns : goal.returns
unfolding held_row row_of row_with
returns c =
    let f : ℕ → ℕ = λ n. n % 4294967296 in
    let row : List ℕ = row_with c.args.c c.per_million.result in
    let items = c.map.ensures.items in
    same_number_lists c.map.result (map f row) items.long
    (λ k less. (items.at k 0 0 (omega (arith, items.long))).2.met ∙ sym (get_or-map f row k 0))
    ∙ ap (λ (per : ℕ). map f (row_with c.args.c per)) c.per_million.ensures
