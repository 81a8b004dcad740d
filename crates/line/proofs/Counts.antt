-- The count after any row of calls is what the calls' own answers add up to.
-- Assumes nothing.
use mathlib.Core.List.{List, [], ◌∷◌}
use mathlib.Core.Path.{◌≡◌, ◌∙◌, ap}
use Prim.Native.Nat.{ℕ, ◌+◌, ◌≤◌}
use native.Mathlib.Omega.{arith}
use borrow.Author.Tests.{eqb-true, eqb-false}
use lib.Dec.{eqb}
use Rattle.runs.proofs.Laws.{split}
use Rattle.receiver.specs.declared.Receiver.{Receiver}
use Rattle.receiver.specs.declared.Ready.{Ready}
use Rattle.receiver.proofs.Count.{opened_count, refused_stays, taken_counts, taken_within}
use Rattle.reading.specs.Totals.{total_of, count_of}
use Rattle.line.specs.Calls.{ReceiveCall, MeetsReceive}
use Rattle.line.specs.Line.{Row, Receiving, left_by, CountsCells}
use Rattle.line.proofs.Calls.{receives_or_nothing}

-- cells that calls took, and those that they told missing
abbrev pub sound_by : List ReceiveCall → ℕ
sound_by calls = count_of (λ c. eqb c.answer.refusal 0) calls

abbrev pub missing_by : List ReceiveCall → ℕ
missing_by calls = total_of (λ c. c.answer.missing) calls

-- sums over one call more
none_yet : (n : ℕ) → n ≡ n + (0 + 0)
none_yet n = omega arith

one_taken : {left now before first : ℕ} (missing sound more : ℕ) → left ≡ now + (sound + more) → now ≡ before + (missing + 1)
    → before ≡ first → left ≡ first + (1 + sound + (missing + more))
one_taken missing sound more rest here start = omega arith

one_refused : {left now before first missing : ℕ} (sound more : ℕ) → left ≡ now + (sound + more) → now ≡ before
    → before ≡ first → missing ≡ 0 → left ≡ first + (0 + sound + (missing + more))
one_refused sound more rest here start none = omega arith

pub counted_on : (st : Receiver) (calls : List ReceiveCall) → Receiving MeetsReceive st calls
    → (left_by st calls).count ≡ st.count + (sound_by calls + missing_by calls)
unfolding Row left_by total_of
counted_on st [] row = none_yet st.count
counted_on st (c ∷ cs) row =
    let rest = counted_on c.answer.state cs row.2 in
    let start : c.state.count ≡ st.count = ap (λ (x : Receiver). x.count) row.0 in
    split (eqb c.answer.refusal 0)
    (λ e.
    rw e (one_taken c.answer.missing (sound_by cs) (missing_by cs) rest (taken_counts row.1 (eqb-true _ 0 e)) start))
    (λ e.
    let refused = eqb-false _ 0 e in
    let stays : c.answer.state.count ≡ c.state.count = ap (λ (x : Receiver). x.count) (refused_stays row.1 refused) in
    rw e
    (one_refused (sound_by cs) (missing_by cs) rest stays start
    ((receives_or_nothing c row.1).then_nothing refused).nothing_answered.none_missing))

pub counts_cells : CountsCells MeetsReceive
unfolding CountsCells
counts_cells octet channels order opening calls opens row =
    let none : opening.state.count ≡ 0 = ap (λ (r : Ready). r.state.count) opens ∙ opened_count octet channels order in
    let all = counted_on opening.state calls row in
    let from : opening.state.count + (sound_by calls + missing_by calls) ≡ sound_by calls + missing_by calls
    = omega (arith, none) in
    all ∙ from

-- it never passes its bound
pub count_within : (st : Receiver) (calls : List ReceiveCall) → st.count ≤ 4294967295 → Receiving MeetsReceive st calls
    → (left_by st calls).count ≤ 4294967295
unfolding Row left_by
count_within st [] low row = low
count_within st (c ∷ cs) low row =
    count_within c.answer.state cs
    (split (eqb c.answer.refusal 0)
    (λ e. taken_within row.1 (eqb-true _ 0 e))
    (λ e.
    let stays : c.answer.state.count ≡ st.count
    = ap (λ (x : Receiver). x.count) (refused_stays row.1 (eqb-false _ 0 e) ∙ row.0) in
    omega arith))
    row.2
