-- A few calls worked out from the definitions, and that the hypotheses of `sides_agree` and `sides_differ` can be met.
-- Assumes nothing.
use mathlib.Core.Bool.{true}
use mathlib.Core.List.{List, [], ◌∷◌}
use mathlib.Core.Path.{◌≡◌, refl}
use Prim.Native.Nat.{ℕ}
use lib.ListN.{take}
use Rattle.management.specs.Controller.{controller_of}
use Rattle.management.specs.Demands.{asked_by}
use Rattle.management.specs.Equipment.{equipment_of, report_of}
use Rattle.management.specs.Ports.{best_fit, status_of}
use Rattle.management.specs.Status.{configured, status_for}
use Rattle.management.proofs.Wrong.{unfolded, desk, request, enquiry}

abbrev report : ℕ → List ℕ → List ℕ
report reference message = report_of (equipment_of (desk reference) message 29)

-- an enquiry; a connection request without a call and with one; the same two with the endpoint reference 0; disconnections of a party,
-- of the first one and of all; another type
pub reports : report 0 enquiry ∷ report 0 (request 2 7) ∷ report 3 (request 2 7) ∷ report 0 (request 2 0) ∷ report 3 (request 2 0)
    ∷ report 3 (request 3 7) ∷ report 3 (request 3 3) ∷ report 3 (3 ∷ 5 ∷ 0x56 ∷ 2 ∷ 0x90 ∷ 0xFF ∷ 0xFF ∷ []) ∷ report 3 (request 4 7)
    ∷ []
    ≡ (9 ∷ 0 ∷ 0 ∷ 0 ∷ []) ∷ (0 ∷ 1 ∷ 0 ∷ 0 ∷ []) ∷ (0 ∷ 2 ∷ 0 ∷ 7 ∷ []) ∷ (9 ∷ 0 ∷ 0 ∷ 0 ∷ []) ∷ (9 ∷ 0 ∷ 0 ∷ 0 ∷ [])
    ∷ (0 ∷ 4 ∷ 0 ∷ 7 ∷ []) ∷ (0 ∷ 4 ∷ 0 ∷ 0 ∷ []) ∷ (0 ∷ 3 ∷ 0 ∷ 0 ∷ []) ∷ (0 ∷ 0 ∷ 0 ∷ 0 ∷ [])
    ∷ []
unfolding unfolded
reports = refl

-- the answer to an enquiry in the port's format, and to one in another packing
pub answers : (equipment_of (desk 3) enquiry 9).answer ∷ (equipment_of (desk 3) (1 ∷ 0 ∷ 5 ∷ 0x56 ∷ 1 ∷ 0x90 ∷ []) 9).answer ∷ []
    ≡ (129 ∷ 0 ∷ 5 ∷ 0xC0 ∷ 0x56 ∷ 2 ∷ 0x90 ∷ 0 ∷ 3 ∷ []) ∷ (129 ∷ 0 ∷ 5 ∷ 0x82 ∷ 0x56 ∷ 1 ∷ 0x90 ∷ 0 ∷ 3 ∷ []) ∷ []
unfolding unfolded
answers = refl

-- "a port in the format asked for", its status one of those that tell how it is configured, and "a controlling entity that has a record of that
-- port"; and what is then noted
pub agreement_can_be_had : ((best_fit (desk 3) (asked_by enquiry)).misfits ≡ 0)
    × (configured 0 (status_of (desk 3) 0) ≡ true)
    × ((best_fit (desk 0) (asked_by enquiry)).misfits ≡ 0)
    × (take 8 (controller_of (desk 0) (equipment_of (desk 3) enquiry 9).answer) ≡ take 8 (desk 3))
unfolding unfolded asked_by
agreement_can_be_had = (refl, refl, refl, refl)

-- an enquiry in another packing: the status and the first endpoint reference are noted, and the record keeps its format
abbrev other : List ℕ
other = 1 ∷ 0 ∷ 5 ∷ 0x56 ∷ 1 ∷ 0x90 ∷ []

pub difference_can_be_had : (status_for (desk 3) (asked_by other) (best_fit (desk 3) (asked_by other)) ≡ 0x82)
    × ((best_fit (desk 0) (asked_by other)).misfits ≡ 1)
    × (take 8 (controller_of (desk 0) (equipment_of (desk 3) other 9).answer) ≡ 0 ∷ 5 ∷ 0x82 ∷ 0x56 ∷ 2 ∷ 0x90 ∷ 0 ∷ 3 ∷ [])
unfolding unfolded asked_by
difference_can_be_had = (refl, refl, refl)
