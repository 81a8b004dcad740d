-- Laws of what the code answers: which answer of the papers it is, and that no two are one.
-- Assumes nothing.
use mathlib.Core.Path.{◌≡◌, refl, sym, ◌∙◌, ap}
use mathlib.Core.List.{List}
use Prim.Native.Nat.{ℕ}
use native.Mathlib.Omega.{arith}
use Rattle.std.specs.Prelude.{Option, Some, None, Result, Ok, Err}
use Rattle.refusals.specs.declared.Refusal.{Refusal}
use Rattle.refusals.specs.Refusals.{number_of}
use Rattle.refusals.proofs.Laws.{number_injective, number_not_0}
use Rattle.cell_log.specs.declared.Number.{Number as ReadNumber}
use Rattle.cell_log.specs.declared.Header.{Header as ReadHeader}
use Rattle.cell_log.specs.declared.Record.{Record as ReadRecord}
use Rattle.cell_log.specs.Answers.{Number, Header, Record, Kept}
use Rattle.cell_log.specs.Answered.{number_answered, header_answered, record_answered, kept_answered}
use Rattle.cell_log.specs.Records.{end_at}

-- a record that is read at a place, whatever it is called there
abbrev pub cell_of : ReadRecord → Record
cell_of read = record { refusal = 0; what = 1; indication = read.indication; start = read.start; next = read.next }

pub answered_some : (place : ℕ) {answer : Record} {found : Option ReadRecord} {read : ReadRecord} → found ≡ Some read
    → record_answered place (Ok found) ≡ answer → cell_of read ≡ answer
answered_some place is e = ap (λ (o : Option ReadRecord). record_answered place (Ok o)) (sym is) ∙ e

pub answered_none : (place : ℕ) {answer : Record} {found : Option ReadRecord} → found ≡ None
    → record_answered place (Ok found) ≡ answer → end_at place ≡ answer
answered_none place is e = ap (λ (o : Option ReadRecord). record_answered place (Ok o)) (sym is) ∙ e

-- where no cell is, none is found
pub no_cell : {found answer : Record} → found ≡ answer → found.what ≡ 0 → answer.what ≡ 1 → ⊥
no_cell is none one = omega (arith, ap (λ (r : Record). r.what) is, none, one)

pub number_answered_injective : {x y : Result ReadNumber Refusal} → number_answered x ≡ number_answered y → x ≡ y
number_answered_injective {x = Ok x} {y = Ok y} same = ap Ok (ap (λ (n : Number). record { value = n.value; next = n.next }) same)
number_answered_injective {x = Ok x} {y = Err r} same = absurd (number_not_0 r (sym (ap (λ (n : Number). n.refusal) same)))
number_answered_injective {x = Err r} {y = Ok y} same = absurd (number_not_0 r (ap (λ (n : Number). n.refusal) same))
number_answered_injective {x = Err q} {y = Err r} same = ap Err (number_injective (ap (λ (n : Number). n.refusal) same))

pub header_answered_injective : {x y : Result ReadHeader Refusal} → header_answered x ≡ header_answered y → x ≡ y
header_answered_injective {x = Ok x} {y = Ok y} same =
    ap Ok (ap (λ (h : Header). record { place = h.place; format = h.format; channels = h.channels; order = h.order }) same)
header_answered_injective {x = Ok x} {y = Err r} same = absurd (number_not_0 r (sym (ap (λ (h : Header). h.refusal) same)))
header_answered_injective {x = Err r} {y = Ok y} same = absurd (number_not_0 r (ap (λ (h : Header). h.refusal) same))
header_answered_injective {x = Err q} {y = Err r} same = ap Err (number_injective (ap (λ (h : Header). h.refusal) same))

pub record_answered_injective : (place : ℕ) {x y : Result (Option ReadRecord) Refusal} → record_answered place x ≡ record_answered place y → x ≡ y
record_answered_injective place {x = Ok None} {y = Ok None} same = refl
record_answered_injective place {x = Ok (Some x)} {y = Ok (Some y)} same =
    ap (λ (r : Record). Ok (Some (record { indication = r.indication; start = r.start; next = r.next }))) same
record_answered_injective place {x = Ok None} {y = Ok (Some y)} same = absurd (let z : ◌≡◌ {A = ℕ} 0 1 = ap (λ (r : Record). r.what) same in omega arith)
record_answered_injective place {x = Ok (Some x)} {y = Ok None} same = absurd (let z : ◌≡◌ {A = ℕ} 1 0 = ap (λ (r : Record). r.what) same in omega arith)
record_answered_injective place {x = Ok None} {y = Err r} same = absurd (number_not_0 r (sym (ap (λ (r : Record). r.refusal) same)))
record_answered_injective place {x = Ok (Some x)} {y = Err r} same = absurd (number_not_0 r (sym (ap (λ (r : Record). r.refusal) same)))
record_answered_injective place {x = Err r} {y = Ok None} same = absurd (number_not_0 r (ap (λ (r : Record). r.refusal) same))
record_answered_injective place {x = Err r} {y = Ok (Some y)} same = absurd (number_not_0 r (ap (λ (r : Record). r.refusal) same))
record_answered_injective place {x = Err q} {y = Err r} same = ap Err (number_injective (ap (λ (r : Record). r.refusal) same))

pub kept_answered_injective : {x y : Result ℕ Refusal} → kept_answered x ≡ kept_answered y → x ≡ y
kept_answered_injective {x = Ok x} {y = Ok y} same = ap Ok (ap (λ (k : Kept). k.next) same)
kept_answered_injective {x = Ok x} {y = Err r} same = absurd (number_not_0 r (sym (ap (λ (k : Kept). k.refusal) same)))
kept_answered_injective {x = Err r} {y = Ok y} same = absurd (number_not_0 r (ap (λ (k : Kept). k.refusal) same))
kept_answered_injective {x = Err q} {y = Err r} same = ap Err (number_injective (ap (λ (k : Kept). k.refusal) same))
