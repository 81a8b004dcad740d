-- Laws of the status message for what is asked: its octets as the code writes them, and its length.
-- Assumes nothing.
use mathlib.Core.List.{List, ◌++◌}
use mathlib.Core.Path.{◌≡◌, refl, sym, ◌∙◌, ap}
use Prim.Native.Nat.{ℕ, ◌+◌, ◌*◌, ◌≤◌, ◌<◌}
use native.Mathlib.Nat.{add_assoc}
use native.Mathlib.Omega.{arith}
use borrow.Author.Tests.{eq-eqb, ne_eqb, eqb-true, eqb-false}
use lib.Dec.{eqb}
use lib.ListN.{length, take, drop, replicate, length-append, length-drop}
use lib.Seq.{length-take-le}
use Rattle.runs.proofs.Laws.{split}
use Rattle.management.specs.declared.ports.Enquiry.{Enquiry}
use Rattle.management.specs.declared.ports.Fit.{Fit}
use Rattle.management.specs.Code.{status_head, status_length}
use Rattle.management.specs.Ports.{port_count, octets_from, best_fit}
use Rattle.management.specs.Status.{status_for, input_status, output_status, status_message}
use Rattle.management.specs.Tables.{input_port_status_octets, output_port_status_octets, other_status_octets}
use Rattle.management.proofs.Fits.{fit_inside}
use Rattle.management.proofs.Parts.{parts_join}

module _ (ports : List ℕ) (asked : Enquiry) where
  -- an answer, by the head that was written and what stands behind it
  module _ {fit : Fit} (best : fit ≡ best_fit ports asked) {status : ℕ} (is : status ≡ status_for ports asked fit) where
    pub input_none : asked.subsystem_code ≡ 0 → fit.misfits ≡ 4 → status_head asked status ++ replicate 2 0 ≡ status_message ports asked
    unfolding status_message input_port_status_octets input_status
    input_none input none = rw (is, ← best, eq-eqb _ _ input, eq-eqb fit.misfits 4 none, input)

    pub input_known : asked.subsystem_code ≡ 0 → (fit.misfits ≡ 4 → ⊥)
        → status_head asked status ++ octets_from ports fit.port 6 2 ≡ status_message ports asked
    unfolding status_message input_port_status_octets input_status
    input_known input some = rw (is, ← best, eq-eqb _ _ input, ne_eqb fit.misfits 4 some, input)

    pub output_other : asked.subsystem_code ≡ 1 → (status ≡ 0xE0 → ⊥) → status_head asked status ++ replicate 22 0 ≡ status_message ports asked
    unfolding status_message output_port_status_octets output_status
    output_other output other = rw (← best, ← is, eq-eqb _ _ output, ne_eqb status 0xE0 other, output)

    pub output_known : asked.subsystem_code ≡ 1 → status ≡ 0xE0
        → status_head asked status ++ octets_from ports fit.port 6 22 ≡ status_message ports asked
    unfolding status_message output_port_status_octets output_status
    output_known output known =
        let joined : octets_from ports fit.port 6 20 ++ octets_from ports fit.port 26 2 ≡ octets_from ports fit.port 6 22 =
        ap (λ (k : ℕ). octets_from ports fit.port 6 20 ++ take 2 (drop k ports)) (sym (add_assoc (fit.port * 28) 6 20))
        ∙ parts_join ports (fit.port * 28 + 6) 20 2 in
        rw (← best, ← is, eq-eqb _ _ output, eq-eqb status 0xE0 known, output, joined)

  pub other_status : (asked.subsystem_code ≡ 0 → ⊥) → (asked.subsystem_code ≡ 1 → ⊥)
      → other_status_octets asked.subsystem_code ≡ status_message ports asked
  unfolding status_message
  other_status some more = rw (ne_eqb _ _ some, ne_eqb _ _ more)

  -- a status of E0 is a port's own
  pub known_inside : (fit : Fit) → status_for ports asked fit ≡ 0xE0 → fit.misfits ≡ 4 → ⊥
  unfolding status_for
  known_inside fit known none = let z : ◌≡◌ {A = ℕ} 0 0xE0 = rw (eq-eqb fit.misfits 4 none) at known in omega arith

  length_known : (fit : Fit) → fit ≡ best_fit ports asked → (fit.misfits ≡ 4 → ⊥) → (count : ℕ) → count ≤ 22
      → length (octets_from ports fit.port 6 count) ≡ count
  length_known fit best some count few =
      let inside : fit.port < port_count ports =
      rw best (fit_inside ports asked (port_count ports) (λ z. some (ap (λ (f : Fit). f.misfits) best ∙ z))) in
      length-take-le count (drop (fit.port * 28 + 6) ports) (omega (arith, length-drop (fit.port * 28 + 6) ports))

  -- a head of seven octets and what stands behind it
  long : (status : ℕ) (rest : List ℕ) → status_head asked status ++ rest ≡ status_message ports asked
      → length (status_message ports asked) ≡ 7 + length rest
  long status rest is = ap length (sym is) ∙ length-append (status_head asked status) rest

  length_input : asked.subsystem_code ≡ 0 → length (status_message ports asked) ≡ 9
  length_input input =
      split (eqb (best_fit ports asked).misfits 4)
      (λ t. long _ (replicate 2 0) (input_none refl refl input (eqb-true _ _ t)))
      (λ t.
      let some : (best_fit ports asked).misfits ≡ 4 → ⊥ = eqb-false _ _ t in
      long _ (octets_from ports (best_fit ports asked).port 6 2) (input_known refl refl input some)
      ∙ omega (arith, length_known (best_fit ports asked) refl some 2 (omega arith)))

  length_output : asked.subsystem_code ≡ 1 → length (status_message ports asked) ≡ 29
  length_output output =
      split (eqb (status_for ports asked (best_fit ports asked)) 0xE0)
      (λ t.
      let known : status_for ports asked (best_fit ports asked) ≡ 0xE0 = eqb-true _ _ t in
      long _ (octets_from ports (best_fit ports asked).port 6 22) (output_known refl refl output known)
      ∙ omega (arith, length_known (best_fit ports asked) refl (known_inside (best_fit ports asked) known) 22 (omega arith)))
      (λ t. long _ (replicate 22 0) (output_other refl refl output (eqb-false _ _ t)))

  pub length_status : length (status_message ports asked) ≡ status_length asked.subsystem_code
  unfolding status_length
  length_status =
      split (eqb asked.subsystem_code 0)
      (λ t. rw t (length_input (eqb-true _ _ t)))
      (λ t.
      split (eqb asked.subsystem_code 1)
      (λ u. rw (t, u) (length_output (eqb-true _ _ u)))
      (λ u. rw (t, u) (ap length (sym (other_status (eqb-false _ _ t) (eqb-false _ _ u))))))

pub length_other : {code : ℕ} → (code ≡ 0 → ⊥) → (code ≡ 1 → ⊥) → status_length code ≡ 2
unfolding status_length
length_other {code} some more = rw (ne_eqb code 0 some, ne_eqb code 1 more)
