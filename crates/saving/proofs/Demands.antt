-- Request 9 on one page: each sentence over every call that meets the contract, each proof a citation of a law over the
-- definitions.
-- Assumes nothing.
use mathlib.Core.List.{List, []}
use mathlib.Core.Path.{◌≡◌, sym, ◌∙◌, ap}
use Prim.Native.Nat.{ℕ, ◌+◌, ◌*◌, ◌/◌, ◌≤◌}
use native.Mathlib.Omega.{arith}
use lib.ListN.{length, take}
use lib.Seq.{take_at}
use Rattle.runs.specs.Runs.{over}
use Rattle.cell_log.specs.Records.{header_of}
use Rattle.reading.specs.Reading.{reading_of}
use Rattle.saving.specs.declared.Salvaged.{Salvaged}
use Rattle.saving.specs.Demands.{SameLine}
use Rattle.saving.specs.Salvage.{new_log, list_of, left_out_of, cut_from, salvage_refusal, saved_into, Salvages}
use Rattle.saving.proofs.Laws as laws

-- a call that isn't refused
module _ {log out list : List ℕ} {answer : Salvaged} {out₁ list₁ : List ℕ} (s : Salvages log out list answer out₁ list₁)
    (taken : answer.refusal ≡ 0)
  where
    pub none : salvage_refusal log (length out) (length list) ≡ 0
    none =
        sym (laws.salvaged_refusal log (length out) (length list))
        ∙ sym (ap (λ (a : Salvaged). a.refusal) s.answered)
        ∙ taken

    pub header_taken : (header_of log).refusal ≡ 0
    header_taken = (laws.taken_is log (length out) (length list) none).0

    answer_is : answer ≡ record { refusal = 0; octets = length (new_log log); left_out = left_out_of log; cut = cut_from log }
    answer_is = s.answered ∙ laws.salvaged_is log (length out) (length list) none

    pub octets_are : answer.octets ≡ length (new_log log)
    octets_are = ap (λ (a : Salvaged). a.octets) answer_is

    pub left_out_are : answer.left_out ≡ left_out_of log
    left_out_are = ap (λ (a : Salvaged). a.left_out) answer_is

    pub cut_are : answer.cut ≡ cut_from log
    cut_are = ap (λ (a : Salvaged). a.cut) answer_is

    -- what it wrote is the new log
    pub wrote_new : take answer.octets out₁ ≡ new_log log
    unfolding over saved_into
    wrote_new =
        let whole : out₁ ≡ over (new_log log) out = s.out_after ∙ rw none in
        ap (take answer.octets) whole ∙ take_at (new_log log) _ answer.octets (sym octets_are)

    pub wrote_list : list₁ ≡ over (list_of log) list
    unfolding saved_into
    wrote_list = s.list_after ∙ rw none

    -- "Running the receiver over the new log gives the same samples, ancillary and marks as over the old one up to its first
    -- framing fault", and ends in the same state
    pub runs_the_same : SameLine (reading_of (take answer.octets out₁)) (reading_of log)
    runs_the_same = rw wrote_new (laws.same_line log header_taken)

    -- the octets of the log are those of the new one, 49 for each record left out, and those cut
    pub octets_counted : length log ≡ answer.octets + 49 * answer.left_out + answer.cut
    octets_counted = omega (arith, octets_are, left_out_are, cut_are, laws.octets_add_up log header_taken)

-- "Salvaging twice changes nothing and lists nothing", and cuts nothing
pub salvaged_twice : {log out list out₁ list₁ again more out₂ list₂ : List ℕ} {first second : Salvaged}
    → Salvages log out list first out₁ list₁ → first.refusal ≡ 0
    → Salvages (take first.octets out₁) again more second out₂ list₂ → second.refusal ≡ 0
    → (take second.octets out₂ ≡ take first.octets out₁) × (second.octets ≡ first.octets)
    × (second.left_out ≡ 0) × (list₂ ≡ more) × (second.cut ≡ 0)
unfolding over
salvaged_twice {log} {out₁ = out₁} {more = more} {list₂ = list₂} {first = first} s ok t again =
    let new : take first.octets out₁ ≡ new_log log = wrote_new s ok in
    let taken = header_taken s ok in
    let same : new_log (take first.octets out₁) ≡ new_log log = ap new_log new ∙ laws.new_again log taken in
    let listed : list_of (take first.octets out₁) ≡ [] = ap (λ (l : List ℕ). list_of l) new ∙ laws.none_listed log taken in
    let list_is : list₂ ≡ over (list_of (take first.octets out₁)) more = wrote_list t again in (
      wrote_new t again ∙ same ∙ sym new,
      octets_are t again ∙ ap length same ∙ sym (octets_are s ok),
      left_out_are t again ∙ ap (λ (l : List ℕ). left_out_of l) new ∙ laws.none_left_out log taken,
      list_is ∙ ap (λ (l : List ℕ). over l more) listed,
      cut_are t again ∙ ap (λ (l : List ℕ). cut_from l) new ∙ laws.none_cut log taken,
    )

-- a new log is salvaged again wherever it has room, and needs no list
pub taken_again : {log out list out₁ list₁ : List ℕ} {first : Salvaged} → Salvages log out list first out₁ list₁
    → first.refusal ≡ 0
    → (again more : ℕ) → first.octets ≤ again → salvage_refusal (take first.octets out₁) again more ≡ 0
taken_again {log} {first = first} s ok again more room =
    let taken = header_taken s ok in
    let header : (header_of (new_log log)).refusal ≡ 0 = rw (laws.new_header log taken) taken in
    rw (wrote_new s ok)
    (laws.room_for_both (new_log log) again more header
    (omega (arith, room, octets_are s ok, ap length (laws.new_again log taken)))
    (omega (arith, ap length (laws.none_listed log taken))))

-- as many octets as the log has, and two numbers for each 49 of them, are always room enough
pub room_enough : (log : List ℕ) (out list : ℕ) → (header_of log).refusal ≡ 0 → length log ≤ out → 2 * (length log / 49) ≤ list
    → salvage_refusal log out list ≡ 0
room_enough = laws.always_room
