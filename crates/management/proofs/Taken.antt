-- Laws of the controlling entity's deeds: what a status message leaves in the ports' records.
-- Assumes nothing.
use mathlib.Core.Bool.{true, false}
use mathlib.Core.List.{List, [], ◌∷◌, ◌++◌}
use mathlib.Core.Path.{◌≡◌, sym, ◌∙◌, ap}
use Prim.Native.Nat.{ℕ, ◌+◌, ◌*◌, ◌-◌, ◌≤◌, ◌<◌}
use native.Mathlib.Omega.{arith}
use borrow.Author.Tests.{eq-eqb, ne_eqb, eqb-true, eqb-false}
use lib.Dec.{eqb}
use lib.ListN.{length, get_or, take, drop, get_or-eq_default}
use Rattle.runs.proofs.Laws.{split}
use Rattle.runs.specs.Runs.{written}
use Rattle.management.specs.declared.ports.Enquiry.{Enquiry}
use Rattle.management.specs.declared.ports.Fit.{Fit}
use Rattle.management.specs.Code.{told_by, taken_to}
use Rattle.management.specs.Controller.{configuration, noted, status_taken, controller_of, Takes}
use Rattle.management.specs.Ports.{best_fit}
use Rattle.management.specs.Status.{recognised}
use Rattle.management.specs.Tables.{brought_to, input_port_status, output_port_status}
use Rattle.management.proofs.Parts.{get_or_brought, part_brought, parts_join}

module _ (ports : List ℕ) (told : Enquiry) (status : ℕ) (rest : List ℕ) where
  module _ (known : recognised told.subsystem_code status ≡ true) {fit : Fit} (best : fit ≡ best_fit ports told) where
    pub taken_noted : {head ports₁ : List ℕ} → (fit.misfits ≡ 4 → ⊥) → head ≡ status ∷ configuration ports told status fit.port
        → ports₁ ≡ written ports (fit.port * 28 + 2) (head ++ rest) → ports₁ ≡ status_taken ports told status rest
    unfolding status_taken noted
    taken_noted some is left =
        left
        ∙ ap (λ (l : List ℕ). written ports (fit.port * 28 + 2) (l ++ rest)) is
        ∙ rw (known, ← best, ne_eqb fit.misfits 4 some)

module _ (ports message : List ℕ) where
  pub not_status : (get_or message 0 0 ≡ 129 → ⊥) → controller_of ports message ≡ ports
  unfolding controller_of
  not_status other = rw (ne_eqb (get_or message 0 0) 129 other)

  pub empty_message : length message ≡ 0 → controller_of ports message ≡ ports
  empty_message none =
      not_status (λ e. let z = get_or-eq_default message 0 {n = 0} (omega arith) in omega arith)

  pub unknown_status : recognised (get_or message 1 0) (get_or message 3 0) ≡ false → controller_of ports message ≡ ports
  unfolding controller_of status_taken input_port_status output_port_status
  unknown_status unknown =
      split (eqb (get_or message 0 0) 129)
      (λ t.
      split (eqb (get_or message 1 0) 0)
      (λ u.
      let code : recognised 0 (get_or message 3 0) ≡ false = rw (eqb-true (get_or message 1 0) 0 u) at unknown in
      rw (t, u, get_or_brought 9 message {k = 3} (omega arith), code))
      (λ u.
      split (eqb (get_or message 1 0) 1)
      (λ v.
      let code : recognised 1 (get_or message 3 0) ≡ false = rw (eqb-true (get_or message 1 0) 1 v) at unknown in
      rw (t, u, v, get_or_brought 29 message {k = 3} (omega arith), code))
      (λ v. rw (t, u, v))))
      (λ t. rw t)

  pub reserved : 1 < get_or message 1 0 → controller_of ports message ≡ ports
  unfolding controller_of
  reserved more =
      let some : get_or message 1 0 ≡ 0 → ⊥ = λ z. omega arith in
      let two : get_or message 1 0 ≡ 1 → ⊥ = λ z. omega arith in
      split (eqb (get_or message 0 0) 129)
      (λ t. rw (t, ne_eqb _ _ some, ne_eqb _ _ two))
      (λ t. rw t)

  module _ (status : get_or message 0 0 ≡ 129) where
    abbrev octets : List ℕ
    octets = brought_to 29 message

    abbrev Told : List ℕ → Type 0
    Told rest = status_taken ports (told_by octets) (get_or octets 3 0) rest ≡ controller_of ports message

    pub input_told_lem : get_or octets 1 0 ≡ 0 → Told (take 2 (drop 7 octets))
    unfolding controller_of input_port_status told_by
    input_told_lem input =
        let zero_is : get_or message 1 0 ≡ 0 = sym (get_or_brought 29 message {k = 1} (omega arith)) ∙ input in
        let selector : get_or (brought_to 9 message) 2 0 ≡ get_or octets 2 0 = same 9 2 (omega arith) (omega arith) in
        let code : get_or (brought_to 9 message) 3 0 ≡ get_or octets 3 0 = same 9 3 (omega arith) (omega arith) in
        let format : get_or (brought_to 9 message) 4 0 ≡ get_or octets 4 0 = same 9 4 (omega arith) (omega arith) in
        let packing : get_or (brought_to 9 message) 5 0 ≡ get_or octets 5 0 = same 9 5 (omega arith) (omega arith) in
        let frequency : get_or (brought_to 9 message) 6 0 ≡ get_or octets 6 0 = same 9 6 (omega arith) (omega arith) in
        let reference : take 2 (drop 7 (brought_to 9 message)) ≡ take 2 (drop 7 octets) =
        part_brought 9 message 7 2 (omega arith) ∙ sym (part_brought 29 message 7 2 (omega arith)) in
        rw (status, zero_is, selector, code, format, packing, frequency, reference, input)
      where
        same : (n k : ℕ) → k < n → k < 29 → get_or (brought_to n message) k 0 ≡ get_or octets k 0
        same n k here there = get_or_brought n message {k = k} here ∙ sym (get_or_brought 29 message {k = k} there)

    pub output_told_lem : get_or octets 1 0 ≡ 1 → get_or octets 3 0 ≡ 0xE0 → Told (take 22 (drop 7 octets))
    unfolding controller_of output_port_status told_by
    output_told_lem output known =
        let one-is : get_or message 1 0 ≡ 1 = sym (get_or_brought 29 message {k = 1} (omega arith)) ∙ output in
        rw (status, one-is, known, parts_join octets 7 20 2, output)

    pub output_told_less : get_or octets 1 0 ≡ 1 → (get_or octets 3 0 ≡ 0xE0 → ⊥) → Told []
    unfolding controller_of output_port_status told_by
    output_told_less output other =
        let one-is : get_or message 1 0 ≡ 1 = sym (get_or_brought 29 message {k = 1} (omega arith)) ∙ output in
        rw (status, one-is, ne_eqb _ _ other, output)

    -- what the code hands on: the octets behind 6, up to where they are taken
    pub told_taken : get_or octets 1 0 ≤ 1 → Told (take (taken_to (get_or octets 1 0) (get_or octets 3 0) - 7) (drop 7 octets))
    unfolding taken_to
    told_taken few =
        split (eqb (get_or octets 1 0) 0)
        (λ t. rw t (input_told_lem (eqb-true _ _ t)))
        (λ t.
        let some : get_or octets 1 0 ≡ 0 → ⊥ = eqb-false _ _ t in
        let output : get_or octets 1 0 ≡ 1 = omega arith in
        split (eqb (get_or octets 3 0) 0xE0)
        (λ u. rw (t, u) (output_told_lem output (eqb-true _ _ u)))
        (λ u. rw (t, u) (output_told_less output (eqb-false _ _ u))))

-- what the controlling entity's call returns and leaves, by the message's first 29 octets
module _ (ports message : List ℕ) where
  pub takes_nothing : length message ≡ 0 → Takes ports message 24 ports
  takes_nothing none =
      record { refused = rw (eq-eqb (length message) 0 none); leaves = sym (empty_message ports message none) }

  module _ (some : length message ≡ 0 → ⊥) {octets : List ℕ} (brought : octets ≡ brought_to 29 message) where
    leaving : {ports₁ : List ℕ} → ports₁ ≡ controller_of ports message → Takes ports message 0 ports₁
    leaving left = record { refused = rw (ne_eqb (length message) 0 some); leaves = left }

    octet_is : (k : ℕ) → k < 29 → get_or octets k 0 ≡ get_or message k 0
    octet_is k less = ap (λ (l : List ℕ). get_or l k 0) brought ∙ get_or_brought 29 message {k = k} less

    pub takes_other : (get_or octets 0 0 ≡ 129 → ⊥) → Takes ports message 0 ports
    takes_other other = leaving (sym (not_status ports message (λ e. other (octet_is 0 (omega arith) ∙ e))))

    pub takes_reserved : 1 < get_or octets 1 0 → Takes ports message 0 ports
    takes_reserved more = leaving (sym (reserved ports message (omega (arith, octet_is 1 (omega arith)))))

    pub takes_status : {told : Enquiry} {to : ℕ} {ports₁ : List ℕ} → get_or octets 0 0 ≡ 129 → get_or octets 1 0 ≤ 1 → told ≡ told_by octets
        → to ≡ taken_to (get_or octets 1 0) (get_or octets 3 0)
        → ports₁ ≡ status_taken ports told (get_or octets 3 0) (take (to - 7) (drop 7 octets)) → Takes ports message 0 ports₁
    takes_status {told} {to} status few who end left =
        leaving
        (left
        ∙ rw (who, end, brought)
        (told_taken ports message (sym (octet_is 0 (omega arith)) ∙ status) (rw brought at few)))
