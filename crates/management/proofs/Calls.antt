-- The laws of the definitions, said of calls that meet the contracts.
-- Assumes nothing.
use mathlib.Core.List.{List}
use mathlib.Core.Path.{◌≡◌, sym, ◌∙◌, ap, subst}
use Prim.Native.Nat.{ℕ}
use borrow.Author.Tests.{eqb-true}
use lib.Dec.{eqb}
use lib.ListN.{length, get_or, take, drop}
use lib.Seq.{take-append_seam}
use Rattle.runs.proofs.Laws.{split}
use Rattle.runs.specs.Runs.{over}
use Rattle.management.specs.Controller.{controller_of}
use Rattle.management.specs.Demands.{
  EquipmentCall,
  Equips,
  ControllerCall,
  Controls,
  asked_by,
  reference_in,
  equipment_refusal,
  controller_refusal,
  NothingDone,
  SameOutcome,
  answer_of,
  equipment_length,
  controller_length,
}
use Rattle.management.specs.Equipment.{Outcome, Leaves, replied, equipment_of, report_of}
use Rattle.management.specs.Ports.{first_reference}
use Rattle.management.specs.Status.{status_message}
use Rattle.management.specs.Tables.{brought_to}
use Rattle.management.proofs.Brought.{equipment_brought, controller_brought}
use Rattle.management.proofs.Refused.{equipment_refusal_lem, refused_nothing, written_status, answered_nothing, nothing_done}
use Rattle.management.proofs.Setup.{SetUp, set_up, zero_replied}
use Rattle.management.proofs.Taken.{empty_message}

pub equipment_refuses : (c : EquipmentCall) → Equips c
    → (c.refusal ≡ equipment_refusal c.ports c.message (length c.answer)) × ((c.refusal ≡ 0 → ⊥) → NothingDone c)
equipment_refuses c meets =
    let room = length c.answer in (
      meets.refused ∙ equipment_refusal_lem c.ports c.message room,
      λ some.
          (nothing_done c meets (equipment_of c.ports c.message room).refusal
          (refused_nothing c.ports c.message room (λ none. some (meets.refused ∙ none)))).1,
    )

pub controller_refuses : (c : ControllerCall) → Controls c
    → (c.refusal ≡ controller_refusal c.message) × ((c.refusal ≡ 0 → ⊥) → c.ports_after ≡ c.ports)
unfolding controller_refusal
controller_refuses c meets = (
  meets.refused,
  λ some.
      split (eqb (length c.message) 0)
      (λ t. meets.leaves ∙ empty_message c.ports c.message (eqb-true _ _ t))
      (λ t. absurd (some (meets.refused ∙ rw t))),
)

-- calls with outcomes by the same definition
equipment_same : (a b : EquipmentCall) → Equips a → Equips b → a.answer ≡ b.answer
    → equipment_of a.ports a.message (length a.answer) ≡ equipment_of b.ports b.message (length b.answer) → SameOutcome a b
equipment_same a b one two answer same =
    record {
      refusals = one.refused ∙ ap (λ (o : Outcome). o.refusal) same ∙ sym two.refused;
      ports_same = one.leaves ∙ ap (λ (o : Outcome). o.ports) same ∙ sym two.leaves;
      answers_same =
          one.writes
          ∙ ap (λ (o : Outcome). over o.answer a.answer) same
          ∙ ap (over (equipment_of b.ports b.message (length b.answer)).answer) answer
          ∙ sym two.writes;
      reports_same = one.reports ∙ ap report_of same ∙ sym two.reports;
    }

pub equipment_alike : (a b : EquipmentCall) → Equips a → Equips b → a.ports ≡ b.ports → a.answer ≡ b.answer
    → (length a.message ≡ 0 → ⊥) → b.message ≡ brought_to (equipment_length a.message) a.message → SameOutcome a b
equipment_alike a b one two ports answer some is =
    equipment_same a b one two answer
    (sym (equipment_brought a.ports a.message (length a.answer) some)
    ∙ λ i. equipment_of (ports i) (sym is i) (length (answer i)))

pub controller_alike : (a b : ControllerCall) → Controls a → Controls b → a.ports ≡ b.ports
    → b.message ≡ brought_to (controller_length a.message) a.message → a.ports_after ≡ b.ports_after
controller_alike a b one two ports is =
    one.leaves
    ∙ sym (controller_brought a.ports a.message)
    ∙ (λ i. controller_of (ports i) (sym is i))
    ∙ sym two.leaves

module _ (c : EquipmentCall) (meets : Equips c) (written : get_or c.report 0 0 ≡ 0 → ⊥) where
  abbrev o : Outcome
  o = equipment_of c.ports c.message (length c.answer)

  count : get_or c.report 0 0 ≡ length o.answer
  count = ap (λ (l : List ℕ). get_or l 0 0) meets.reports

  -- what was written is the status message for what is asked
  pub answer_written : answer_of c ≡ status_message c.ports (asked_by c.message)
  unfolding over
  answer_written =
      ap (λ (n : ℕ). take n c.answer_after) count
      ∙ ap (take (length o.answer)) meets.writes
      ∙ take-append_seam o.answer (drop (length o.answer) c.answer)
      ∙ written_status c.ports c.message (length c.answer) (λ none. written (count ∙ none))

  pub answered_alone : c.ports_after ≡ c.ports
  answered_alone = meets.leaves ∙ answered_nothing c.ports c.message (length c.answer) (λ none. written (count ∙ none))

module _ (c : EquipmentCall) (meets : Equips c) where
  abbrev comes_to : Outcome
  comes_to = equipment_of c.ports c.message (length c.answer)

  -- the numbers of the report
  reported : (k : ℕ) → get_or c.report k 0 ≡ get_or (report_of comes_to) k 0
  reported k = ap (λ (l : List ℕ). get_or l k 0) meets.reports

  pub ended_call : get_or c.report 1 0 ≡ 1
      → (get_or c.report 3 0 ≡ 0) × (first_reference c.ports_after (get_or c.report 2 0) ≡ 0 → ⊥)
  ended_call setup =
      let ends : SetUp comes_to = set_up c.ports c.message (length c.answer) in
      let said = ends (sym (reported 1) ∙ setup) in (
        reported 3 ∙ said.0,
        λ none. said.1 ((λ i. first_reference (sym meets.leaves i) (sym (reported 2) i)) ∙ none),
      )

  pub zero_alone : get_or c.message 0 0 ≡ 2 → reference_in c.message ≡ 0
      → Leaves (replied c.ports (asked_by c.message) (length c.answer)) c.answer c.refusal c.ports_after c.answer_after c.report
  zero_alone type zero =
      subst
      (λ (o : Outcome). Leaves o c.answer c.refusal c.ports_after c.answer_after c.report)
      (zero_replied c.ports c.message (length c.answer) type zero)
      meets
