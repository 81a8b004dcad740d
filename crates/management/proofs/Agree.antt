-- The two sides agree: a status message that the equipment writes of a port in the format asked for leaves, in the record that the
-- controlling entity has of that port, the octets of the equipment's record that the table carries.
-- Assumes nothing.
use mathlib.Core.Bool.{true, cond}
use mathlib.Core.List.{List, [], ◌∷◌, ◌++◌}
use mathlib.Core.Path.{◌≡◌, refl, sym, ◌∙◌, ap}
use Prim.Native.Nat.{ℕ, ◌+◌, ◌*◌, ◌≤◌, ◌<◌}
use native.Mathlib.Nat.{add_assoc}
use native.Mathlib.Omega.{arith}
use borrow.Author.Tests.{eq-eqb, ne_eqb, eqb-true, eqb-false}
use lib.Dec.{eqb}
use lib.ListN.{length, take, drop, replicate, length-append, length-drop}
use lib.Seq.{take_all, length-take-le}
use Rattle.runs.proofs.Laws.{split}
use Rattle.runs.specs.Runs.{tab, written}
use Rattle.management.specs.declared.ports.Enquiry.{Enquiry}
use Rattle.management.specs.declared.ports.Fit.{Fit}
use Rattle.management.specs.Code.{status_head}
use Rattle.management.specs.Controller.{configuration, status_taken, controller_of}
use Rattle.management.specs.Demands.{carried}
use Rattle.management.specs.Ports.{port_count, octet_of, octets_from, status_of, differs, misfits, best_fit}
use Rattle.management.specs.Status.{configured, recognised, status_for, status_message}
use Rattle.management.specs.Tables.{brought_to, input_port_status, output_port_status}
use Rattle.management.proofs.Best.{best_is}
use Rattle.management.proofs.Brought.{brought_exact}
use Rattle.management.proofs.Fits.{fit_inside}
use Rattle.management.proofs.Messages.{input_known, output_known, output_other}
use Rattle.management.proofs.Parts.{octets_are, parts_join, part_written, get_or_before, length_written, same_part}
use Rattle.management.proofs.Taken.{taken_noted}

-- what a port's misfits tell of its record
module _ (ports : List ℕ) (asked : Enquiry) (port : ℕ) where
  pub named : (misfits ports asked port ≡ 4 → ⊥) → (octet_of ports port 0 ≡ asked.subsystem_code) × (octet_of ports port 1 ≡ asked.selector)
  unfolding misfits
  named =
      split (eqb (octet_of ports port 0) asked.subsystem_code)
      (λ t.
      split (eqb (octet_of ports port 1) asked.selector)
      (λ u. λ some. (eqb-true _ _ t, eqb-true _ _ u))
      (λ u. rw (t, u) (λ some. absurd (some refl))))
      (λ t. rw t (λ some. absurd (some refl)))

  alike : (here said : ℕ) → differs here said ≡ 0 → here ≡ said
  alike here said none =
      split (eqb here said) (λ t. eqb-true here said t) (λ t. absurd (let z : ◌≡◌ {A = ℕ} 1 0 = rw t at none in omega arith))

  pub formatted : misfits ports asked port ≡ 0
      → (octet_of ports port 3 ≡ asked.subframe_format)
      × (octet_of ports port 4 ≡ asked.packing)
      × (octet_of ports port 5 ≡ asked.sampling_frequency)
  unfolding misfits
  formatted =
      split (eqb (octet_of ports port 0) asked.subsystem_code)
      (λ t.
      split (eqb (octet_of ports port 1) asked.selector)
      (λ u.
      rw (t, u)
      (λ none.
      (alike _ _ (omega (arith, none)), alike _ _ (omega (arith, none)), alike _ _ (omega (arith, none)))))
      (λ u. rw (t, u) (λ four. absurd (let z : ◌≡◌ {A = ℕ} 4 0 = four in omega arith))))
      (λ t. rw t (λ four. absurd (let z : ◌≡◌ {A = ℕ} 4 0 = four in omega arith)))

-- the octets of a record from its start, where it is in the format asked for
abbrev told : Enquiry → ℕ → List ℕ → List ℕ
told asked status rest =
    (asked.subsystem_code ∷ asked.selector ∷ status ∷ asked.subframe_format ∷ asked.packing ∷ asked.sampling_frequency ∷ []) ++ rest

module _ (ports : List ℕ) (port : ℕ) (inside : port < port_count ports) where
  joined : (k a b : ℕ) → octets_from ports port k a ++ octets_from ports port (k + a) b ≡ octets_from ports port k (a + b)
  joined k a b =
      ap (λ (n : ℕ). octets_from ports port k a ++ take b (drop n ports)) (sym (add_assoc (port * 28) k a))
      ∙ parts_join ports (port * 28 + k) a b

  record_told : (asked : Enquiry) → misfits ports asked port ≡ 0 → (n : ℕ)
      → octets_from ports port 0 (6 + n) ≡ told asked (status_of ports port) (octets_from ports port 6 n)
  unfolding tab
  record_told asked none n =
      let some : misfits ports asked port ≡ 4 → ⊥ = λ four. omega arith in
      let names = named ports asked port some in
      let format = formatted ports asked port none in
      let six : octets_from ports port 0 6 ≡ told asked (status_of ports port) [] =
      octets_are ports port 0 6 (omega arith) ∙ rw (names.0, names.1, format.0, format.1, format.2) in
      sym (joined 0 6 n) ∙ ap (λ (l : List ℕ). l ++ octets_from ports port 6 n) six

  -- and of one that was written behind its subsystem code and selector
  record_written : (asked : Enquiry) → (misfits ports asked port ≡ 4 → ⊥) → (vs : List ℕ) → length vs ≤ 26
      → octets_from (written ports (port * 28 + 2) vs) port 0 (2 + length vs) ≡ asked.subsystem_code ∷ asked.selector ∷ vs
  unfolding tab
  record_written asked some vs few =
      let names = named ports asked port some in
      let after = written ports (port * 28 + 2) vs in
      let same : octets_from after port 0 2 ≡ asked.subsystem_code ∷ asked.selector ∷ [] =
      same_part after ports (port * 28 + 0) 2 (length_written ports (port * 28 + 2) vs (omega arith)) (λ i less.
      get_or_before ports (port * 28 + 2) vs (omega arith) (omega arith))
      ∙ octets_are ports port 0 2 (omega arith)
      ∙ rw (names.0, names.1) in
      sym (parts_join after (port * 28 + 0) 2 (length vs))
      ∙ ap (λ (n : ℕ). octets_from after port 0 2 ++ take (length vs) (drop n after)) (add_assoc (port * 28) 0 2)
      ∙ ap (λ (l : List ℕ). octets_from after port 0 2 ++ l) (part_written ports (port * 28 + 2) vs (omega arith))
      ∙ ap (λ (l : List ℕ). l ++ vs) same

-- what a status message's octets say to the controlling entity
same_asked : (asked : Enquiry) {code : ℕ} → asked.subsystem_code ≡ code
    → ◌≡◌ {A = Enquiry}
    (record {
      subsystem_code = code;
      selector = asked.selector;
      subframe_format = asked.subframe_format;
      packing = asked.packing;
      sampling_frequency = asked.sampling_frequency;
    })
    asked
same_asked asked is =
    λ i.
    record {
      subsystem_code = sym is i;
      selector = asked.selector;
      subframe_format = asked.subframe_format;
      packing = asked.packing;
      sampling_frequency = asked.sampling_frequency;
    }

module _ (records : List ℕ) (asked : Enquiry) (status : ℕ) (rest : List ℕ) where
  pub told_input : asked.subsystem_code ≡ 0 → length rest ≡ 2
      → controller_of records (status_head asked status ++ rest) ≡ status_taken records asked status rest
  unfolding controller_of input_port_status
  told_input input two =
      let itself : brought_to 9 (status_head asked status ++ rest) ≡ status_head asked status ++ rest =
      brought_exact 9 (status_head asked status ++ rest) (omega (arith, length-append (status_head asked status) rest)) in
      rw (itself, eq-eqb _ _ input, take_all 2 rest (omega arith))
      (ap (λ (e : Enquiry). status_taken records e status rest) (same_asked asked input))

  pub told_output : asked.subsystem_code ≡ 1 → length rest ≡ 22
      → controller_of records (status_head asked status ++ rest) ≡ status_taken records asked status (cond (eqb status 0xE0) rest [])
  unfolding controller_of output_port_status
  told_output output many =
      let itself : brought_to 29 (status_head asked status ++ rest) ≡ status_head asked status ++ rest =
      brought_exact 29 (status_head asked status ++ rest) (omega (arith, length-append (status_head asked status) rest)) in
      let whole : take 20 rest ++ take 2 (drop 20 rest) ≡ rest = parts_join rest 0 20 2 ∙ take_all 22 rest (omega arith) in
      let more : asked.subsystem_code ≡ 0 → ⊥ = λ z. omega arith in
      rw (itself, ne_eqb _ _ more, eq-eqb _ _ output, whole)
      (ap (λ (e : Enquiry). status_taken records e status (cond (eqb status 0xE0) rest [])) (same_asked asked output))

-- the octets that go to the record of the controlling entity, and those of the equipment's
module _ (records : List ℕ) (asked : Enquiry) (status : ℕ) (rest : List ℕ) where
  abbrev here : Fit
  here = best_fit records asked

  noted_told : configured asked.subsystem_code status ≡ true → (here.misfits ≡ 4 → ⊥) → length rest ≤ 22
      → octets_from (status_taken records asked status rest) here.port 0 (6 + length rest) ≡ told asked status rest
  unfolding configuration recognised
  noted_told set some few =
      let inside : here.port < port_count records = fit_inside records asked (port_count records) some in
      let own : misfits records asked here.port ≡ 4 → ⊥ = λ four. some (sym (best_is records asked (port_count records) some) ∙ four) in
      let known : recognised asked.subsystem_code status ≡ true = rw set in
      let head : status ∷ asked.subframe_format ∷ asked.packing ∷ asked.sampling_frequency ∷ []
      ≡ status ∷ configuration records asked status here.port = rw set in
      let vs : List ℕ = (status ∷ asked.subframe_format ∷ asked.packing ∷ asked.sampling_frequency ∷ []) ++ rest in
      let count : 6 + length rest ≡ 2 + length vs = omega arith in
      ap (λ (l : List ℕ). octets_from l here.port 0 (6 + length rest)) (sym (taken_noted records asked status rest known refl some head refl))
      ∙ ap (λ (n : ℕ). octets_from (written records (here.port * 28 + 2) vs) here.port 0 n) count
      ∙ record_written records here.port inside asked own vs (omega arith)

-- the two sides
module _ (ports records : List ℕ) (asked : Enquiry) where
  abbrev there : Fit
  there = best_fit ports asked

  abbrev own : ℕ
  own = status_of ports there.port

  module _ (fits : there.misfits ≡ 0) (set : configured asked.subsystem_code own ≡ true) (kept : (best_fit records asked).misfits ≡ 4 → ⊥) where
    some : there.misfits ≡ 4 → ⊥
    some four = omega arith

    inside : there.port < port_count ports
    inside = fit_inside ports asked (port_count ports) some

    none : misfits ports asked there.port ≡ 0
    none = best_is ports asked (port_count ports) some ∙ fits

    status_is : own ≡ status_for ports asked there
    unfolding status_for
    status_is = rw (eq-eqb _ 0 fits, ne_eqb _ 4 some)

    long : (n : ℕ) → n ≤ 22 → length (octets_from ports there.port 6 n) ≡ n
    long n few = length-take-le n (drop (there.port * 28 + 6) ports) (omega (arith, length-drop (there.port * 28 + 6) ports, inside))

    -- n octets behind octet 6 are carried
    carries : (n : ℕ) → n ≤ 22
        → controller_of records (status_message ports asked) ≡ status_taken records asked own (octets_from ports there.port 6 n)
        → octets_from (controller_of records (status_message ports asked)) (best_fit records asked).port 0 (6 + n)
        ≡ octets_from ports there.port 0 (6 + n)
    carries n few taken =
        ap (λ (l : List ℕ). octets_from l (best_fit records asked).port 0 (6 + n)) taken
        ∙ ap (λ (k : ℕ). octets_from (status_taken records asked own (octets_from ports there.port 6 n)) (best_fit records asked).port 0 (6 + k))
        (sym (long n few))
        ∙ noted_told records asked own (octets_from ports there.port 6 n) set kept (omega (arith, long n few))
        ∙ sym (record_told ports there.port inside asked none n)

    pub agree_input : asked.subsystem_code ≡ 0
        → octets_from (controller_of records (status_message ports asked)) (best_fit records asked).port 0 8 ≡ octets_from ports there.port 0 8
    agree_input input =
        carries 2 (omega arith)
        (ap (controller_of records) (sym (input_known ports asked refl status_is input some))
        ∙ told_input records asked own (octets_from ports there.port 6 2) input (long 2 (omega arith)))

    pub agree_output : asked.subsystem_code ≡ 1 → own ≡ 0xE0
        → octets_from (controller_of records (status_message ports asked)) (best_fit records asked).port 0 28 ≡ octets_from ports there.port 0 28
    agree_output output known =
        carries 22 (omega arith)
        (ap (controller_of records) (sym (output_known ports asked refl status_is output known))
        ∙ told_output records asked own (octets_from ports there.port 6 22) output (long 22 (omega arith))
        ∙ rw (eq-eqb own 0xE0 known))

    pub agree_output_less : asked.subsystem_code ≡ 1 → (own ≡ 0xE0 → ⊥)
        → octets_from (controller_of records (status_message ports asked)) (best_fit records asked).port 0 6 ≡ octets_from ports there.port 0 6
    agree_output_less output other =
        carries 0 (omega arith)
        (ap (controller_of records) (sym (output_other ports asked refl status_is output other))
        ∙ told_output records asked own (replicate 22 0) output refl
        ∙ rw (ne_eqb own 0xE0 other))

    pub agree : asked.subsystem_code ≤ 1
        → octets_from (controller_of records (status_message ports asked)) (best_fit records asked).port 0 (carried asked.subsystem_code own)
        ≡ octets_from ports there.port 0 (carried asked.subsystem_code own)
    unfolding carried
    agree few =
        split (eqb asked.subsystem_code 0)
        (λ t. rw t (agree_input (eqb-true _ _ t)))
        (λ t.
        let more : asked.subsystem_code ≡ 0 → ⊥ = eqb-false _ _ t in
        let output : asked.subsystem_code ≡ 1 = omega arith in
        split (eqb own 0xE0)
        (λ u. rw (t, u) (agree_output output (eqb-true _ _ u)))
        (λ u. rw (t, u) (agree_output_less output (eqb-false _ _ u))))
