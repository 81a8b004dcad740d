-- A log received in several calls, each going on where the one before it stopped, is received as in one; and with runs of 720 entries
-- every call goes on.
-- Assumes nothing.
use mathlib.Core.Bool.{Bool, cond}
use mathlib.Core.List.{List, [], ◌∷◌, ◌++◌}
use mathlib.Core.Path.{◌≡◌, refl, sym, ◌∙◌, ap, subst}
use Prim.Native.Nat.{ℕ, ◌+◌, ◌*◌, ◌-◌, ◌≤◌}
use native.Mathlib.Nat.{mul-le-mul, pos_of_ne-zero}
use native.Mathlib.Omega.{arith}
use borrow.Author.Tests.{eq-eqb, le-leb, eqb-true, eqb-false}
use lib.Dec.{eqb, leb}
use lib.ListN.{length, take}
use Rattle.runs.proofs.Laws.{split}
use Rattle.cell_log.specs.Answers.{Record}
use Rattle.cell_log.specs.Records.{record_at, cell_at}
use Rattle.cell_log.proofs.Places.{record_cases}
use Rattle.receiver.specs.declared.Receiver.{Receiver}
use Rattle.receiver.specs.declared.Received.{Received}
use Rattle.receiver.specs.Receiver.{state_refusal, used_now}
use Rattle.receiver.proofs.Onward.{used_between}
use Rattle.reading.specs.Heard.{Heard, hear, heard_from, end_of, onward}
use Rattle.reading.specs.Records.{Whole, Walk, records_in, rest_in}
use Rattle.reading.proofs.Heard.{heard_joined, missing_few}
use Rattle.reading.proofs.Records.{walk_joined}
use Rattle.hearing.specs.declared.receiving.Batch.{Batch}
use Rattle.hearing.specs.Judging.{all_from, stop_of}
use Rattle.hearing.specs.Receiving.{fitting, received_in, received_to, call_refusal, ReceivesLog}
use Rattle.hearing.specs.Steps.{needed_of, heard_at}
use Rattle.hearing.proofs.Onward.{splits}
use Rattle.hearing.proofs.Past.{comes_next}
use Rattle.hearing.proofs.Takes.{samples_long}

-- what fits is a prefix
fits_first : (room : ℕ) (hs : List Heard) → fitting room hs ≡ take (length (fitting room hs)) hs
unfolding fitting
fits_first room [] = refl
fits_first room (h ∷ hs) =
    split (leb (length h.samples) room)
    (λ e. rw e (ap (λ (l : List Heard). h ∷ l) (fits_first (room - length h.samples) hs)))
    (λ e. rw e refl)

-- a record has 720 entries at most: fifteen cells of 48
few_needed : (got : Received) (used : ℕ) → used ≤ 48 → got.missing ≤ 14 → needed_of got used ≤ 720
few_needed got used u m =
    let few : got.missing + 1 ≤ 15 = omega (arith, m) in
    let most : (got.missing + 1) * used ≤ 15 * 48 = mul-le-mul few u in
    split (eqb got.refusal 0) (λ e. rw e most) (λ e. rw e (omega arith))

-- a log in two pieces: what is left of the first goes to the front of the second
pub pieces_on : (st : Receiver) (a b : List ℕ)
    → heard_from st (records_in (a ++ b))
    ≡ heard_from st (records_in a) ++ heard_from (end_of st (heard_from st (records_in a))) (records_in (rest_in a ++ b))
pieces_on st a b =
    ap (λ (w : Walk). heard_from st w.records) (walk_joined a b) ∙ heard_joined hear onward st (records_in a) (records_in (rest_in a ++ b))

-- an answer of a call that isn't refused
module _ {st : Receiver} {log : List ℕ} {place : ℕ} {samples ancillary marks : List ℕ} {answer : Batch} {samples₁ ancillary₁ marks₁ : List ℕ}
    (none : call_refusal st (length samples) (length ancillary) (length marks) ≡ 0)
    (j : ReceivesLog st log place samples ancillary marks answer samples₁ ancillary₁ marks₁)
  where
    answer_is : answer ≡ received_to st log place (received_in st log place (length samples))
    answer_is = j.answered ∙ rw (eq-eqb (call_refusal st (length samples) (length ancillary) (length marks)) 0 none)

    -- "a log cut anywhere and gone on with gives the same as one call": what a call received, and all that comes from its state and next
    -- place on, are all that comes from where it began
    pub received_on : all_from st log place ≡ received_in st log place (length samples) ++ all_from answer.state log answer.next
    received_on =
        let heard = received_in st log place (length samples) in
        let all = all_from st log place in
        let first : take (length heard) all ≡ heard = sym (fits_first (length samples) all) in
        splits (length heard) st log place
        ∙ ap (λ (hs : List Heard). hs ++ all_from (end_of st hs) log (place + 49 * length hs)) first
        ∙ ap (λ (a : Batch). heard ++ all_from a.state log a.next) (sym answer_is)

    -- "with runs of 720 entries or more every call moves its place on or stops by 0, 11 or 12": it doesn't stop by 10 where it began
    pub moves_on : state_refusal st ≡ 0 → 720 ≤ length samples → answer.stop ≡ 10 → place + 49 ≤ answer.next
    unfolding fitting
    moves_on sound room ten =
        let heard = received_in st log place (length samples) in
        let next : answer.next ≡ place + 49 * length heard = ap (λ (a : Batch). a.next) answer_is in
        split (eqb (length heard) 0)
        (λ e.
        let nothing : length heard ≡ 0 = eqb-true _ 0 e in
        let far : place + 49 * length heard ≡ place = omega (arith, nothing) in
        let stop : stop_of (record_at log place) ≡ 10 =
        ap (λ (n : ℕ). stop_of (record_at log n)) (sym far) ∙ sym (ap (λ (a : Batch). a.stop) answer_is) ∙ ten in
        let there : (record_at log place).what ≡ 1 = by_ten (record_at log place) stop
        (record_cases log place (λ r. r.refusal ≡ 10 → ⊥) (λ h z. omega (arith, z)) (λ h l z. omega (arith, z)) (λ h l k z. omega (arith, z))
        (λ l k z. omega (arith, z))) in
        absurd (fits_one there (omega (arith, nothing))))
        (λ e. let some = eqb-false (length heard) 0 e in let one : 1 ≤ length heard = pos_of_ne-zero some in omega (arith, next, one))
      where
        by_ten : (r : Record) → stop_of r ≡ 10 → (r.refusal ≡ 10 → ⊥) → r.what ≡ 1
        by_ten r ten not =
            split (eqb r.what 1) (eqb-true r.what 1)
            (λ e. absurd (not (subst (λ (b : Bool). cond b 10 r.refusal ≡ 10) e ten)))

        fits_one : (record_at log place).what ≡ 1 → length (received_in st log place (length samples)) ≤ 0 → ⊥
        fits_one there few =
            let h = heard_at st log place in
            let whole : Whole = record { indication = (record_at log place).indication; cell = cell_at log place } in
            let used = (used_between st sound).1 in
            let small : length h.samples ≤ 720 =
            subst (λ (n : ℕ). n ≤ 720) (sym (samples_long st whole)) (few_needed h.answer (used_now st) used (missing_few st whole)) in
            let here : received_in st log place (length samples) ≡ h ∷ fitting (length samples - length h.samples) (all_from (onward h) log (place + 49)) =
            ap (fitting (length samples)) (comes_next st log place there)
            ∙ rw (le-leb (length h.samples) (length samples) (omega (arith, small))) in
            omega (arith, ap length here)
