-- Wrong answers of the calls: their contracts rule them out. Stated over the contracts themselves.
-- Assumes nothing.
use mathlib.Core.List.{List, [], ◌∷◌, ◌++◌}
use mathlib.Core.Path.{◌≡◌, sym, ◌∙◌, ap}
use Prim.Native.Nat.{ℕ}
use native.Mathlib.Omega.{arith}
use contract.Lifetimes.{Lfts}
use lib.ListN.{get_or, replicate}
use Rattle.runs.proofs.Wrong.{Never, Place, lent, lent_mut}
use Rattle.runs.specs.Runs.{read_on, over}
use Rattle.formats.proofs.Wrong as formats
use Rattle.management.specs.Controller.{configuration, noted, status_taken, controller_of}
use Rattle.management.specs.Equipment.{
  replied,
  connected_to,
  connected,
  disconnected_from,
  disconnected,
  equipment_of,
}
use Rattle.management.specs.Packing.{port_refusal, port_settings, order_coded, packing_of}
use Rattle.management.specs.Ports.{misfits, fewest, serves, first_from}
use Rattle.management.specs.Status.{
  configured,
  recognised,
  unsupported,
  status_for,
  input_status,
  output_status,
  status_message,
}
use Rattle.management.specs.Tables.{
  brought_to,
  status_enquiry,
  audio_connection_request,
  audio_disconnection_request,
  input_port_status_octets,
  input_port_status,
  output_port_status_octets,
  output_port_status,
}
use Rattle.management.proofs.equipment.rime_equipment.Kinds as equipment-kinds
use Rattle.management.proofs.equipment.rime_equipment.Reads as equipment-reads
use Rattle.management.proofs.controller.rime_controller.Kinds as controller-kinds
use Rattle.management.proofs.controller.rime_controller.Reads as controller-reads
use Rattle.management.proofs.packing.rime_port_settings.Kinds as port-settings-kinds
use Rattle.management.proofs.packing.rime_port_settings.Reads as port-settings-reads
use Rattle.management.proofs.packing.rime_port_packing.Kinds as port-packing-kinds
use Rattle.management.proofs.packing.rime_port_packing.Reads as port-packing-reads

-- every definition on the way down to the numbers
unfoldable pub unfolded : Unit {0}
unfolding read_on over brought_to status_enquiry audio_connection_request audio_disconnection_request input_port_status_octets
    input_port_status output_port_status_octets output_port_status misfits fewest serves first_from configured recognised
    unsupported status_for input_status output_status status_message replied connected_to connected disconnected_from
    disconnected equipment_of configuration noted status_taken controller_of
unfolded = tt

-- an input port with selector 5, enabled, in 56 hex, its first endpoint reference in one octet
abbrev pub input : ℕ → List ℕ
input reference = (0 ∷ 5 ∷ 0xC0 ∷ 0x56 ∷ 2 ∷ 0x90 ∷ 0 ∷ reference ∷ []) ++ replicate 20 0

-- a desk with two ports alike
abbrev pub desk : ℕ → List ℕ
desk reference = input reference ++ input 0

-- a message of a type that asks for selector 5 in that format, with an endpoint reference of one octet
abbrev pub request : ℕ → ℕ → List ℕ
request type reference = type ∷ 5 ∷ 0x56 ∷ 2 ∷ 0x90 ∷ 0 ∷ reference ∷ []

-- an enquiry about that port
abbrev pub enquiry : List ℕ
enquiry = 1 ∷ 0 ∷ 5 ∷ 0x56 ∷ 2 ∷ 0x90 ∷ []

module _ (κs : Lfts 4) (l m a r : Place) where
  -- a call with so many nines as the answer's buffer, and a report of nines
  abbrev Equipping : List ℕ → List ℕ → ℕ → (ℕ → List ℕ → List ℕ → List ℕ → Type 0) → Type 0
  Equipping ports message room Wrong =
      Never equipment-kinds.ps equipment-kinds.r equipment-reads.Post κs
      (lent_mut l ports, (lent m message, (lent_mut a (replicate room 9), (lent_mut r (replicate 4 9), tt))))
      (λ x v. Wrong x v.0 v.1.1.0 v.1.1.1.0)

  -- a second port changed
  pub second_port_not_changed : Equipping (desk 0) (request 2 7) 9 (λ x ports answer report. get_or ports 35 0 ≡ 7)
  unfolding unfolded
  second_port_not_changed x v wrong p = let right : get_or v.0 35 0 ≡ 0 = ap (λ (l : List ℕ). get_or l 35 0) p.leaves in omega arith

  -- a SETUP asked for, and its endpoint reference not stored
  pub reference_not_lost : Equipping (desk 0) (request 2 7) 9 (λ x ports answer report. get_or ports 7 0 ≡ 0)
  unfolding unfolded
  reference_not_lost x v wrong p = let right : get_or v.0 7 0 ≡ 7 = ap (λ (l : List ℕ). get_or l 7 0) p.leaves in omega arith

  -- a SETUP named by the reference that is stored, and not by 0
  pub set_up_not_named : Equipping (desk 0) (request 2 7) 9 (λ x ports answer report. get_or report 3 0 ≡ 7)
  unfolding unfolded
  set_up_not_named x v wrong p = let right : get_or v.1.1.1.0 3 0 ≡ 0 = ap (λ (l : List ℕ). get_or l 3 0) p.reports in omega arith

  -- a SETUP asked for by the reference 0, which leaves a call that no message can end
  pub zero_not_set_up : Equipping (desk 0) (request 2 0) 9 (λ x ports answer report. get_or report 1 0 ≡ 1)
  unfolding unfolded
  zero_not_set_up x v wrong p = let right : get_or v.1.1.1.0 1 0 ≡ 0 = ap (λ (l : List ℕ). get_or l 1 0) p.reports in omega arith

  -- a party added by the reference 0, which is the first one
  pub zero_not_added : Equipping (desk 3) (request 2 0) 9 (λ x ports answer report. get_or report 0 0 ≡ 0)
  unfolding unfolded
  zero_not_added x v wrong p = let right : get_or v.1.1.1.0 0 0 ≡ 9 = ap (λ (l : List ℕ). get_or l 0 0) p.reports in omega arith

  -- a SETUP asked for a port that is the source of a call already
  pub not_set_up_twice : Equipping (desk 3) (request 2 7) 9 (λ x ports answer report. get_or report 1 0 ≡ 1)
  unfolding unfolded
  not_set_up_twice x v wrong p = let right : get_or v.1.1.1.0 1 0 ≡ 2 = ap (λ (l : List ℕ). get_or l 1 0) p.reports in omega arith

  -- the first party dropped by its own reference, and not by 0
  pub first_party_not_named : Equipping (desk 3) (request 3 3) 9 (λ x ports answer report. get_or report 3 0 ≡ 3)
  unfolding unfolded
  first_party_not_named x v wrong p = let right : get_or v.1.1.1.0 3 0 ≡ 0 = ap (λ (l : List ℕ). get_or l 3 0) p.reports in omega arith

  -- an answer written and 25 given
  pub not_written_and_refused : Equipping (desk 0) enquiry 8 (λ x ports answer report. get_or answer 0 0 ≡ 129)
  unfolding unfolded
  not_written_and_refused x v wrong p = let right : get_or v.1.1.0 0 0 ≡ 9 = ap (λ (l : List ℕ). get_or l 0 0) p.writes in omega arith

  -- an answer too short taken
  pub short_answer_not_taken : Equipping (desk 0) enquiry 8 (λ x ports answer report. x ≡ 0)
  unfolding unfolded
  short_answer_not_taken x v wrong p = let right : x ≡ 25 = p.refused in omega arith

  -- the report of a refused call left as it was lent
  pub refused_report_not_left : Equipping (desk 0) enquiry 8 (λ x ports answer report. report ≡ replicate 4 9)
  unfolding unfolded
  refused_report_not_left x v wrong p = let octets : ◌≡◌ {A = ℕ} 9 0 = ap (λ (l : List ℕ). get_or l 0 0) (sym wrong ∙ p.reports) in omega arith

  -- an enquiry not answered
  pub enquiry_not_ignored : Equipping (desk 0) enquiry 9 (λ x ports answer report. get_or report 0 0 ≡ 0)
  unfolding unfolded
  enquiry_not_ignored x v wrong p = let right : get_or v.1.1.1.0 0 0 ≡ 9 = ap (λ (l : List ℕ). get_or l 0 0) p.reports in omega arith

  -- an unknown type answered
  pub unknown_not_answered : Equipping (desk 0) (request 4 7) 9 (λ x ports answer report. get_or answer 0 0 ≡ 129)
  unfolding unfolded
  unknown_not_answered x v wrong p = let right : get_or v.1.1.0 0 0 ≡ 9 = ap (λ (l : List ℕ). get_or l 0 0) p.writes in omega arith

  -- a message of no octets ignored without a word
  pub no_octets_not_taken : Equipping (desk 0) [] 9 (λ x ports answer report. x ≡ 0)
  unfolding unfolded
  no_octets_not_taken x v wrong p = let right : x ≡ 24 = p.refused in omega arith

-- a status message about selector 5 in that format, with an endpoint reference of one octet
abbrev status : ℕ → ℕ → List ℕ
status code reference = 129 ∷ 0 ∷ 5 ∷ code ∷ 0x56 ∷ 2 ∷ 0x50 ∷ 0 ∷ reference ∷ []

module _ (κs : Lfts 2) (l m : Place) where
  abbrev Controlling : List ℕ → (ℕ → List ℕ → Type 0) → Type 0
  Controlling message Wrong =
      Never controller-kinds.ps controller-kinds.r controller-reads.Post κs (lent_mut l (desk 0), (lent m message, tt)) (λ x v. Wrong x v.0)

  -- a second port changed
  pub second_record_not_changed : Controlling (status 0xE0 7) (λ x ports. get_or ports 30 0 ≡ 0xE0)
  unfolding unfolded
  second_record_not_changed x v wrong p = let right : get_or v.0 30 0 ≡ 0xC0 = ap (λ (l : List ℕ). get_or l 30 0) p.leaves in omega arith

  -- nothing noted
  pub status_not_ignored : Controlling (status 0xE0 7) (λ x ports. get_or ports 2 0 ≡ 0xC0)
  unfolding unfolded
  status_not_ignored x v wrong p = let right : get_or v.0 2 0 ≡ 0xE0 = ap (λ (l : List ℕ). get_or l 2 0) p.leaves in omega arith

  -- a format that the port doesn't support taken for its own
  pub unsupported_not_noted : Controlling (status 0x81 7) (λ x ports. get_or ports 5 0 ≡ 0x50)
  unfolding unfolded
  unsupported_not_noted x v wrong p = let right : get_or v.0 5 0 ≡ 0x90 = ap (λ (l : List ℕ). get_or l 5 0) p.leaves in omega arith

  -- a reserved status noted
  pub reserved_not_noted : Controlling (status 0x60 7) (λ x ports. get_or ports 2 0 ≡ 0x60)
  unfolding unfolded
  reserved_not_noted x v wrong p = let right : get_or v.0 2 0 ≡ 0xC0 = ap (λ (l : List ℕ). get_or l 2 0) p.leaves in omega arith

  -- an enquiry taken by the wrong side
  pub enquiry_not_noted : Controlling enquiry (λ x ports. x ≡ 24)
  unfolding unfolded
  enquiry_not_noted x v wrong p = let right : x ≡ 0 = p.refused in omega arith

  pub no_octets_not_0 : Controlling [] (λ x ports. x ≡ 0)
  unfolding unfolded
  no_octets_not_0 x v wrong p = let right : x ≡ 24 = p.refused in omega arith

module _ (κs : Lfts 2) (l m : Place) where
  -- a record in a format and a packing, and three nines to be written over
  abbrev Settling : ℕ → ℕ → (ℕ → List ℕ → Type 0) → Type 0
  Settling format packing Wrong =
      Never port-settings-kinds.ps port-settings-kinds.r port-settings-reads.Post κs
      (lent l ((9 ∷ 9 ∷ 9 ∷ format ∷ packing ∷ []) ++ replicate 23 9), (lent_mut m (replicate 3 9), tt)) (λ x v. Wrong x v.1.0)

  -- multi-channel taken for temporal grouping
  pub multi_channel_not_taken : Settling 0x56 0x82 (λ x settings. x ≡ 0)
  unfolding unfolded formats.unfolded port_refusal port_settings
  multi_channel_not_taken x v wrong p = let right : x ≡ 3 = p.refused in omega arith

  -- the whole octet taken for C, so that grouping by channel has too many
  pub packing_not_channels : Settling 0x56 0x42 (λ x settings. x ≡ 2)
  unfolding unfolded formats.unfolded port_refusal port_settings
  packing_not_channels x v wrong p = let right : x ≡ 0 = p.refused in omega arith

  -- the order lost
  pub order_not_lost : Settling 0x56 0x42 (λ x settings. get_or settings 2 0 ≡ 0)
  unfolding unfolded formats.unfolded port_refusal port_settings
  order_not_lost x v wrong p = let right : get_or v.1.0 2 0 ≡ 1 = ap (λ (l : List ℕ). get_or l 2 0) p.leaves in omega arith

module _ (κs : Lfts 1) (l : Place) where
  abbrev Packing : ℕ → ℕ → ℕ → (ℕ → ℕ → Type 0) → Type 0
  Packing format channels order Wrong =
      Never port-packing-kinds.ps port-packing-kinds.r port-packing-reads.Post κs (format, (channels, (order, (lent_mut l 9, tt))))
      (λ x v. Wrong x v.1.1.1.0)

  -- grouping by channel coded as temporal grouping
  pub order_not_left_out : Packing 0x56 2 1 (λ x packing. packing ≡ 2)
  unfolding unfolded formats.unfolded order_coded packing_of
  order_not_left_out x v wrong p = let right : v.1.1.1.0 ≡ 0x42 = p.leaves in omega arith

  -- one channel coded as grouping by channel, against 6.3.2
  pub one_channel_not_by_channel : Packing 0x56 1 1 (λ x packing. packing ≡ 0x41)
  unfolding unfolded formats.unfolded order_coded packing_of
  one_channel_not_by_channel x v wrong p = let right : v.1.1.1.0 ≡ 1 = p.leaves in omega arith

  -- an octet left as it was lent by a refused call
  pub refused_octet_not_left : Packing 0x56 13 0 (λ x packing. packing ≡ 9)
  unfolding unfolded formats.unfolded order_coded packing_of
  refused_octet_not_left x v wrong p = let right : v.1.1.1.0 ≡ 0 = p.leaves in omega arith
