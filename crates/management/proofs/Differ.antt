-- What the controlling entity notes where the equipment has no port in the format asked for: the status, 81 to 87 or 00, and of an input
-- port its first endpoint reference. The format of its record stays.
-- Assumes nothing.
use mathlib.Core.Bool.{true, false, cond}
use mathlib.Core.List.{List, [], ◌∷◌, ◌++◌}
use mathlib.Core.Path.{◌≡◌, refl, sym, ◌∙◌, ap}
use Prim.Native.Nat.{ℕ, ◌+◌, ◌*◌, ◌≤◌, ◌<◌}
use native.Mathlib.Omega.{arith}
use borrow.Author.Tests.{eq-eqb, ne_eqb, le-leb, eqb-true, eqb-false}
use lib.Dec.{eqb}
use lib.ListN.{length, drop, replicate, length-drop}
use lib.Seq.{length-take-le}
use Rattle.runs.proofs.Laws.{split}
use Rattle.runs.specs.Runs.{written}
use Rattle.management.specs.declared.ports.Enquiry.{Enquiry}
use Rattle.management.specs.declared.ports.Fit.{Fit}
use Rattle.management.specs.Code.{status_head}
use Rattle.management.specs.Controller.{configuration, status_taken, controller_of}
use Rattle.management.specs.Ports.{
  port_count,
  octet_of,
  octets_from,
  differs,
  aspect_f,
  aspect_p,
  aspect_r,
  misfits,
  best_fit,
}
use Rattle.management.specs.Status.{configured, recognised, unsupported, status_for, status_message}
use Rattle.management.proofs.Agree.{told_input, told_output}
use Rattle.management.proofs.Best.{best_is}
use Rattle.management.proofs.Fits.{fit_inside}
use Rattle.management.proofs.Messages.{input_none, input_known, output_other}
use Rattle.management.proofs.Taken.{taken_noted}

-- a status that doesn't say how the port is configured
not_configured : (code status : ℕ) → (status ≡ 0x40 → ⊥) → (status ≡ 0x60 → ⊥) → (status ≡ 0xC0 → ⊥) → (status ≡ 0xE0 → ⊥)
    → configured code status ≡ false
unfolding configured
not_configured code status disabled in_use enabled active =
    rw (ne_eqb status 0x40 disabled, ne_eqb status 0xC0 enabled, ne_eqb status 0xE0 active, ne_eqb status 0x60 in_use)
    (split (eqb code 1) (λ t. rw t) (λ t. rw t))

module _ (ports records : List ℕ) (asked : Enquiry) (kept : (best_fit records asked).misfits ≡ 4 → ⊥) (few : asked.subsystem_code ≤ 1) where
  abbrev there : Fit
  there = best_fit ports asked

  -- octet 3 of the status message
  abbrev said : ℕ
  said = status_for ports asked there

  abbrev place : ℕ
  place = (best_fit records asked).port

  -- what is left where these two octets are noted as the first endpoint reference
  abbrev Notes : List ℕ → Type 0
  Notes first =
      controller_of records (status_message ports asked)
      ≡ written records (place * 28 + 2) ((said ∷ octets_from records place 3 3) ++ cond (eqb asked.subsystem_code 0) first [])

  module _ (unset : configured asked.subsystem_code said ≡ false) (known : recognised asked.subsystem_code said ≡ true) where
    taken : (rest : List ℕ)
        → status_taken records asked said rest ≡ written records (place * 28 + 2) ((said ∷ octets_from records place 3 3) ++ rest)
    unfolding configuration
    taken rest =
        let head : said ∷ octets_from records place 3 3 ≡ said ∷ configuration records asked said place = rw unset in
        sym (taken_noted records asked said rest known refl kept head refl)

    notes : (said ≡ 0xE0 → ⊥) → (first : List ℕ) → length first ≡ 2
        → (asked.subsystem_code ≡ 0 → status_head asked said ++ first ≡ status_message ports asked) → Notes first
    notes other first two input =
        split (eqb asked.subsystem_code 0)
        (λ t.
        rw t
        (ap (controller_of records) (sym (input (eqb-true _ _ t)))
        ∙ told_input records asked said first (eqb-true _ _ t) two
        ∙ taken first))
        (λ t.
        let more : asked.subsystem_code ≡ 0 → ⊥ = eqb-false _ _ t in
        let output : asked.subsystem_code ≡ 1 = omega arith in
        rw t
        (ap (controller_of records) (sym (output_other ports asked refl refl output other))
        ∙ told_output records asked said (replicate 22 0) output refl
        ∙ rw (ne_eqb said 0xE0 other) (taken [])))

  -- 81 to 87: there is a port of that subsystem and selector, and its first endpoint reference is noted
  pub unsupported_noted : 0x81 ≤ said → said ≤ 0x87 → Notes (octets_from ports there.port 6 2)
  unfolding recognised status_for
  unsupported_noted from to =
      let some : there.misfits ≡ 4 → ⊥
      = λ none. let z : ◌≤◌ 0x81 0 = rw (eq-eqb there.misfits 4 none) at from in omega arith in
      let inside : there.port < port_count ports = fit_inside ports asked (port_count ports) some in
      let two : length (octets_from ports there.port 6 2) ≡ 2
      = length-take-le 2 (drop (there.port * 28 + 6) ports) (omega (arith, length-drop (there.port * 28 + 6) ports, inside)) in
      let other : said ≡ 0xE0 → ⊥ = λ e. omega (arith, e, to) in
      let unset : configured asked.subsystem_code said ≡ false
      = not_configured asked.subsystem_code said (λ e. omega (arith, e, from)) (λ e. omega (arith, e, from)) (λ e. omega (arith, e, to)) other in
      let nowhere : said ≡ 0 → ⊥ = λ e. omega (arith, e, from) in
      let known : recognised asked.subsystem_code said ≡ true
      = rw (unset, ne_eqb said 0 nowhere, le-leb 0x81 said from, le-leb said 0x87 to) in
      notes unset known other (octets_from ports there.port 6 2) two (λ input. input_known ports asked refl refl input some)

  -- 00: there is none, and 0 is noted
  pub nowhere_noted : there.misfits ≡ 4 → (said ≡ 0) × Notes (replicate 2 0)
  unfolding recognised status_for
  nowhere_noted none =
      let zero : said ≡ 0 = rw (eq-eqb there.misfits 4 none) in
      let other : said ≡ 0xE0 → ⊥ = λ e. omega (arith, e, zero) in
      let unset : configured asked.subsystem_code said ≡ false
      = not_configured asked.subsystem_code said (λ e. omega (arith, e, zero)) (λ e. omega (arith, e, zero)) (λ e. omega (arith, e, zero)) other in
      let known : recognised asked.subsystem_code said ≡ true = rw (unset, eq-eqb said 0 zero) in
      (zero, notes unset known other (replicate 2 0) refl (λ input. input_none ports asked refl refl input none))

differs_to : (here asked : ℕ) → differs here asked ≤ 1
differs_to here asked = split (eqb here asked) (λ t. rw t (omega arith)) (λ t. rw t (omega arith))

-- a port in another format: 81 to 87
module _ (ports : List ℕ) (asked : Enquiry) (some : (best_fit ports asked).misfits ≡ 4 → ⊥) (differ : (best_fit ports asked).misfits ≡ 0 → ⊥)
  where
    abbrev best : ℕ
    best = (best_fit ports asked).port

    abbrev sum-of-aspects : ℕ
    sum-of-aspects = aspect_f ports asked best + aspect_p ports asked best + aspect_r ports asked best

    aspects : (misfits ports asked best ≡ 4 → ⊥) → misfits ports asked best ≡ sum-of-aspects
    unfolding misfits
    aspects =
        split (eqb (octet_of ports best 0) asked.subsystem_code)
        (λ t.
        split (eqb (octet_of ports best 1) asked.selector)
        (λ u. rw (t, u) (λ four. refl))
        (λ u. rw (t, u) (λ four. absurd (four refl))))
        (λ t. rw t (λ four. absurd (four refl)))

    pub unsupported_said : (0x81 ≤ status_for ports asked (best_fit ports asked)) × (status_for ports asked (best_fit ports asked) ≤ 0x87)
    unfolding status_for unsupported
    unsupported_said =
        let own : misfits ports asked best ≡ (best_fit ports asked).misfits = best_is ports asked (port_count ports) some in
        let sum = aspects (λ four. some (sym own ∙ four)) in
        let one : sum-of-aspects ≡ 0 → ⊥ = λ none. differ (sym own ∙ sum ∙ none) in
        let f : aspect_f ports asked best ≤ 1 = differs_to (octet_of ports best 3) asked.subframe_format in
        let p : aspect_p ports asked best ≤ 1 = differs_to (octet_of ports best 4) asked.packing in
        let r : aspect_r ports asked best ≤ 1 = differs_to (octet_of ports best 5) asked.sampling_frequency in
        rw (ne_eqb (best_fit ports asked).misfits 4 some, ne_eqb (best_fit ports asked).misfits 0 differ)
        (omega (arith, one, f, p, r), omega (arith, f, p, r))
