-- No second answer: for each public function, whatever answer and lent log at exit meet its contract are equal. Stated over the
-- contracts themselves.
-- Assumes nothing.
use mathlib.Core.List.{List}
use mathlib.Core.Path.{◌≡◌, refl, sym, ◌∙◌, ap}
use Prim.Native.Nat.{ℕ}
use seplogic.Ra.Ura.{Ura}
use base.Logic.{SProp, ent, sep, id⊢}
use borrow.Fn.Kinds.{Dens, ended_of}
use contract.Lifetimes.{Lfts}
use contract.Monad.{Fun, fact}
use denote.Ref.{Bor}
use denote.Triple.Clauses.{Lasts, at_exit}
use denote.Triple.Entry.{Args}
use types.Logic.{Logic}
use prog.Memory.{Memory}
use prog.Routine.{Routine}
use Rattle.std.specs.Prelude.{Option, Result}
use Rattle.runs.proofs.One.{One, both}
use Rattle.refusals.specs.declared.Refusal.{Refusal}
use Rattle.cell_log.specs.Answers.{Header}
use Rattle.cell_log.specs.declared.Record.{Record}
use Rattle.cell_log.specs.declared.reader.Reader.{Reader}
use Rattle.cell_log.specs.Code.{from}
use Rattle.cell_log.specs.Records.{record_at, place_after, cell_at}
use Rattle.cell_log.specs.Written.{Keeps}
use Rattle.cell_log.proofs.Answered.{number_answered_injective, header_answered_injective, record_answered_injective, kept_answered_injective}
use Rattle.cell_log.proofs.read_number.Kinds as read-number-kinds
use Rattle.cell_log.proofs.read_number.Reads as read-number-reads
use Rattle.cell_log.proofs.read_header.Kinds as read-header-kinds
use Rattle.cell_log.proofs.read_header.Reads as read-header-reads
use Rattle.cell_log.proofs.header_numbers.Kinds as header-numbers-kinds
use Rattle.cell_log.proofs.header_numbers.Reads as header-numbers-reads
use Rattle.cell_log.proofs.read_record.Kinds as read-record-kinds
use Rattle.cell_log.proofs.read_record.Reads as read-record-reads
use Rattle.cell_log.proofs.read_indication.Kinds as read-indication-kinds
use Rattle.cell_log.proofs.read_indication.Reads as read-indication-reads
use Rattle.cell_log.proofs.next_place.Kinds as next-place-kinds
use Rattle.cell_log.proofs.next_place.Reads as next-place-reads
use Rattle.cell_log.proofs.read_cell.Kinds as read-cell-kinds
use Rattle.cell_log.proofs.read_cell.Reads as read-cell-reads
use Rattle.cell_log.proofs.keep.write_number.Kinds as write-number-kinds
use Rattle.cell_log.proofs.keep.write_number.Reads as write-number-reads
use Rattle.cell_log.proofs.keep.write_header.Kinds as write-header-kinds
use Rattle.cell_log.proofs.keep.write_header.Reads as write-header-reads
use Rattle.cell_log.proofs.keep.write_record.Kinds as write-record-kinds
use Rattle.cell_log.proofs.keep.write_record.Reads as write-record-reads
use Rattle.cell_log.specs.contracts.reader.Reader.new as new
use Rattle.cell_log.specs.contracts.reader.Reader.record_here as record_here
use Rattle.cell_log.specs.contracts.reader.Reader.cell as cell
use Rattle.cell_log.specs.contracts.reader.Reader.past_record as past-record
use Rattle.cell_log.specs.contracts.reader.read as read
use Rattle.cell_log.specs.Answered.{record_answered, kept_answered}

pub read_number_one : One read-number-kinds.ps read-number-kinds.r read-number-reads.Pre read-number-reads.Post
read_number_one κs a x y v w pre p q = (number_answered_injective (p ∙ sym q), refl)

pub read_header_one : One read-header-kinds.ps read-header-kinds.r read-header-reads.Pre read-header-reads.Post
read_header_one κs a x y v w pre p q = (header_answered_injective (p ∙ sym q), refl)

pub header_numbers_one : One header-numbers-kinds.ps header-numbers-kinds.r header-numbers-reads.Pre header-numbers-reads.Post
header_numbers_one κs a x y v w pre p q = (
  ap (λ (h : Header). record { place = h.place; format = h.format; channels = h.channels; order = h.order }) (p ∙ sym q),
  refl,
)

pub read_record_one : One read-record-kinds.ps read-record-kinds.r read-record-reads.Pre read-record-reads.Post
read_record_one κs a x y v w pre p q = (record_answered_injective _ (p ∙ sym q), refl)

pub read_indication_one : One read-indication-kinds.ps read-indication-kinds.r read-indication-reads.Pre read-indication-reads.Post
read_indication_one κs a x y v w pre p q = (p ∙ sym q, refl)

pub next_place_one : One next-place-kinds.ps next-place-kinds.r next-place-reads.Pre next-place-reads.Post
next_place_one κs a x y v w pre p q = (p ∙ sym q, refl)

-- what is written, and the answer to it
kept_one : {refusal place : ℕ} {octets log after after' : List ℕ} {x y : Result ℕ Refusal}
    → Keeps refusal place octets log (kept_answered x) after → Keeps refusal place octets log (kept_answered y) after' → (x ≡ y) × (after ≡ after')
kept_one p q = (kept_answered_injective (p.answered ∙ sym q.answered), p.left ∙ sym q.left)

pub write_number_one : One write-number-kinds.ps write-number-kinds.r write-number-reads.Pre write-number-reads.Post
write_number_one κs a x y v w pre p q = ((kept_one p q).0, λ i. ((kept_one p q).1 i, (tt, (tt, tt))))

pub write_header_one : One write-header-kinds.ps write-header-kinds.r write-header-reads.Pre write-header-reads.Post
write_header_one κs a x y v w pre p q = ((kept_one p q).0, λ i. ((kept_one p q).1 i, (tt, (tt, (tt, tt)))))

pub write_record_one : One write-record-kinds.ps write-record-kinds.r write-record-reads.Pre write-record-reads.Post
write_record_one κs a x y v w pre p q = ((kept_one p q).0, λ i. ((kept_one p q).1 i, (tt, (tt, (tt, tt)))))

-- of a reference: one place and the same octets are one answer
abbrev Same : Bor (List ℕ) → Bor (List ℕ) → Type 0
Same x y = (x.now ≡ y.now) × (x.ref_ptr ≡ y.ref_ptr)

pub read_cell_one : (κs : Lfts 1) (a : Dens κs read-cell-kinds.ps) (x y : Bor (List ℕ)) (v w : Lasts (ended_of 1 read-cell-kinds.ps read-cell-kinds.r) κs a)
    → read-cell-reads.Pre κs a
    → read-cell-reads.Post κs a x (at_exit (ended_of 1 read-cell-kinds.ps read-cell-kinds.r) κs a v)
    → read-cell-reads.Post κs a y (at_exit (ended_of 1 read-cell-kinds.ps read-cell-kinds.r) κs a w)
    → Same x y
read_cell_one κs a x y v w pre p q = (p.0 ∙ sym q.0, p.1 ∙ sym q.1)

-- the reader's functions: stated over the clauses
abbrev pub Answer : Type 0
Answer = Result (Option Record) Refusal

module _ {M : Type 1} {𝓤 : Ura M} (𝓛 : Logic 𝓤) (mem : Memory → SProp 𝓤) (run : Routine → Fun 𝓤) (κs : Lfts 1) where
  module _ (a : Args new.signature κs) where
    abbrev pub NewEnsures : Reader → SProp 𝓤
    NewEnsures x = (new.clauses 𝓛 mem run κs a).ensures tt x (at_exit new.ended κs a (tt, (tt, tt)))

    pub new_one : (x y : Reader) → ent 𝓤 (sep 𝓤 (NewEnsures x) (NewEnsures y)) (fact 𝓤 (x ≡ y))
    new_one =
        both 𝓤 NewEnsures (λ x. (x.log ≡ a.0) × (x.place ≡ a.1.0)) (λ x y. x ≡ y) (λ x. id⊢ 𝓤 _)
        (λ x y p q i. record { log = (p.0 ∙ sym q.0) i; place = (p.1 ∙ sym q.1) i })

  module _ (a : Args record_here.signature κs) where
    abbrev pub RecordEnsures : Answer → SProp 𝓤
    RecordEnsures x = (record_here.clauses 𝓛 mem run κs a).ensures tt x (at_exit record_here.ended κs a (tt, tt))

    pub record_here_one : (x y : Answer) → ent 𝓤 (sep 𝓤 (RecordEnsures x) (RecordEnsures y)) (fact 𝓤 (x ≡ y))
    record_here_one =
        both 𝓤 RecordEnsures (λ x. record_answered a.0.place x ≡ record_at a.0.log.now a.0.place) (λ x y. x ≡ y) (λ x. id⊢ 𝓤 _)
        (λ x y p q. record_answered_injective _ (p ∙ sym q))

  module _ (a : Args cell.signature κs) where
    abbrev pub CellEnsures : Bor (List ℕ) → SProp 𝓤
    CellEnsures x = (cell.clauses 𝓛 mem run κs a).ensures tt x (at_exit cell.ended κs a (tt, tt))

    pub cell_one : (x y : Bor (List ℕ)) → ent 𝓤 (sep 𝓤 (CellEnsures x) (CellEnsures y)) (fact 𝓤 (Same x y))
    cell_one =
        both 𝓤 CellEnsures
        (λ x. (x.now ≡ cell_at a.0.log.now a.0.place)
        × (x.ref_ptr ≡ from a.0.log.ref_ptr (record_at a.0.log.now a.0.place).start))
        Same (λ x. id⊢ 𝓤 _)
        (λ x y p q. (p.0 ∙ sym q.0, p.1 ∙ sym q.1))

  module _ (a : Args past-record.signature κs) where
    abbrev pub PastEnsures : Reader → SProp 𝓤
    PastEnsures x = (past-record.clauses 𝓛 mem run κs a).ensures tt x (at_exit past-record.ended κs a (tt, tt))

    pub past_record_one : (x y : Reader) → ent 𝓤 (sep 𝓤 (PastEnsures x) (PastEnsures y)) (fact 𝓤 (x ≡ y))
    past_record_one =
        both 𝓤 PastEnsures
        (λ x. (x.log ≡ a.0.log) × (x.place ≡ place_after a.0.log.now a.0.place))
        (λ x y. x ≡ y) (λ x. id⊢ 𝓤 _)
        (λ x y p q i. record { log = (p.0 ∙ sym q.0) i; place = (p.1 ∙ sym q.1) i })

  module _ (a : Args read.signature κs) where
    abbrev pub ReadEnsures : Answer → SProp 𝓤
    ReadEnsures x = (read.clauses 𝓛 mem run κs a).ensures tt x (at_exit read.ended κs a (tt, (tt, tt)))

    pub read_one : (x y : Answer) → ent 𝓤 (sep 𝓤 (ReadEnsures x) (ReadEnsures y)) (fact 𝓤 (x ≡ y))
    read_one =
        both 𝓤 ReadEnsures (λ x. record_answered a.1.0 x ≡ record_at a.0.now a.1.0) (λ x y. x ≡ y) (λ x. id⊢ 𝓤 _)
        (λ x y p q. record_answered_injective _ (p ∙ sym q))
