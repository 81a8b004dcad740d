-- Demand 1 for the two calls: each refuses exactly where the request says so, under that number, and then nothing lent has changed and
-- every other number is 0.
-- Assumes nothing.
use mathlib.Core.Path.{◌≡◌, sym, ◌∙◌, ap}
use borrow.Author.Tests.{ne_eqb, eqb-true}
use lib.Dec.{eqb}
use Rattle.runs.specs.Runs.{over}
use Rattle.runs.proofs.Laws.{split}
use Rattle.units.specs.declared.Exported.{Exported}
use Rattle.units.specs.declared.Entered.{Entered}
use Rattle.units.specs.Units.{exported_of, export_gives, entered_of, read_gives}
use Rattle.units.specs.Back.{ExportCall, MeetsExport, export_table, ExportedNothing, ReadCall, MeetsRead, read_table, EnteredNothing}

-- "Refusals: 1, 2 as in 01, 5 .., 6 as in 01, then 26 .., 27 .., 28"
pub export_refusal_lem : (e : ExportCall) → MeetsExport e → e.answer.refusal ≡ export_table e
unfolding exported_of
export_refusal_lem e meets =
    ap (λ (x : Exported). x.refusal) meets.answered
    ∙ split (eqb (export_table e) 0) (λ t. rw t (sym (eqb-true (export_table e) 0 t))) (λ t. rw t)

pub demand_1_export : (e : ExportCall) → MeetsExport e → (e.answer.refusal ≡ export_table e) × ((e.answer.refusal ≡ 0 → ⊥) → ExportedNothing e)
unfolding exported_of export_gives over
demand_1_export e meets = (
  export_refusal_lem e meets,
  λ some.
      let refused = ne_eqb _ 0 (λ z. some (export_refusal_lem e meets ∙ z)) in
      record {
        out_as_lent = meets.out_after ∙ rw refused;
        no_octets = ap (λ (x : Exported). x.octets) meets.answered ∙ rw refused;
        no_full = ap (λ (x : Exported). x.full) meets.answered ∙ rw refused;
        no_units = ap (λ (x : Exported). x.units) meets.answered ∙ rw refused;
      },
)

-- "5 .. (in reading also an empty unit)"
pub read_refusal_lem : (r : ReadCall) → MeetsRead r → r.answer.refusal ≡ read_table r
unfolding entered_of
read_refusal_lem r meets =
    ap (λ (x : Entered). x.refusal) meets.answered
    ∙ split (eqb (read_table r) 0) (λ t. rw t (sym (eqb-true (read_table r) 0 t))) (λ t. rw t)

pub demand_1_read : (r : ReadCall) → MeetsRead r → (r.answer.refusal ≡ read_table r) × ((r.answer.refusal ≡ 0 → ⊥) → EnteredNothing r)
unfolding entered_of read_gives over
demand_1_read r meets = (
  read_refusal_lem r meets,
  λ some.
      let refused = ne_eqb _ 0 (λ z. some (read_refusal_lem r meets ∙ z)) in
      record {
        samples_as_lent = meets.samples_after ∙ rw refused;
        ancillary_as_lent = meets.ancillary_after ∙ rw refused;
        no_entries = ap (λ (x : Entered). x.entries) meets.answered ∙ rw refused;
      },
)
