-- A message acts as the one that is brought to its specified length (8.3.5).
-- Assumes nothing.
use mathlib.Core.List.{List, ◌++◌}
use mathlib.Core.Path.{◌≡◌, refl, sym, ◌∙◌, ap}
use Prim.Native.Nat.{ℕ, ◌-◌, ◌≤◌, ◌<◌}
use native.Mathlib.Omega.{arith}
use borrow.Author.Tests.{ne_eqb}
use lib.Dec.{eqb}
use lib.ListN.{length, get_or, take, replicate, length-append, length-replicate}
use lib.Seq.{take_all, take-append-le, ext_get_or}
use Rattle.runs.proofs.Laws.{split}
use Rattle.management.specs.Controller.{controller_of}
use Rattle.management.specs.Demands.{equipment_length, controller_length}
use Rattle.management.specs.Equipment.{equipment_of}
use Rattle.management.specs.Tables.{brought_to}
use Rattle.management.proofs.Parts.{length_brought, get_or_brought, get_or_zeros}

-- "shorter than the specified length": zeros are added at the end
pub brought_shorter : (n : ℕ) (message : List ℕ) → length message ≤ n → brought_to n message ≡ message ++ replicate (n - length message) 0
brought_shorter n message short =
    ext_get_or 0 (brought_to n message) (message ++ replicate (n - length message) 0)
    (length_brought n message ∙ omega (arith, length-append message (replicate (n - length message) 0), length-replicate {A = ℕ} (n - length message) 0))
    (λ i less.
    let inside : i < n = omega (arith, length_brought n message, less) in
    get_or_brought n message inside ∙ sym (get_or_zeros message (n - length message) i))

-- "longer than the specified length": the excess octets are ignored
pub brought_longer : (n : ℕ) (message : List ℕ) → n ≤ length message → brought_to n message ≡ take n message
unfolding brought_to
brought_longer n message long = take-append-le n message (replicate n 0) long

pub brought_exact : (n : ℕ) (message : List ℕ) → length message ≡ n → brought_to n message ≡ message
brought_exact n message is = brought_longer n message (omega arith) ∙ take_all n message (omega arith)

pub brought_itself : (message : List ℕ) → brought_to (length message) message ≡ message
brought_itself message = brought_exact (length message) message refl

-- brought to a length twice
again : (n k : ℕ) (message : List ℕ) → n ≤ k → brought_to n (brought_to k message) ≡ brought_to n message
again n k message less =
    ext_get_or 0 (brought_to n (brought_to k message)) (brought_to n message)
    (length_brought n (brought_to k message) ∙ sym (length_brought n message))
    (λ i inside.
    let h : i < n = omega (arith, length_brought n (brought_to k message), inside) in
    get_or_brought n (brought_to k message) h ∙ get_or_brought k message (omega arith) ∙ sym (get_or_brought n message h))

module _ (ports message : List ℕ) (room : ℕ) (some : length message ≡ 0 → ⊥) where
  abbrev type : ℕ
  type = get_or message 0 0

  -- one of the three recognised types, brought to a length of one octet at least
  long : (n : ℕ) → 0 < n → length (brought_to n message) ≡ 0 → ⊥
  long n more none = omega (arith, length_brought n message)

  pub equipment_brought : equipment_of ports (brought_to (equipment_length message) message) room ≡ equipment_of ports message room
  unfolding equipment_of equipment_length
  equipment_brought =
      split (eqb type 1)
      (λ t.
      rw (
        t,
        ne_eqb (length (brought_to 6 message)) 0 (long 6 (omega arith)),
        get_or_brought 6 message {k = 0} (omega arith),
        t,
        ne_eqb (length message) 0 some,
        again 6 6 message (omega arith),
      ))
      (λ t.
      split (eqb type 2)
      (λ u.
      rw (
        t,
        u,
        ne_eqb (length (brought_to 27 message)) 0 (long 27 (omega arith)),
        get_or_brought 27 message {k = 0} (omega arith),
        t,
        u,
        ne_eqb (length message) 0 some,
        again 27 27 message (omega arith),
      ))
      (λ u.
      split (eqb type 3)
      (λ v.
      rw (
        t,
        u,
        v,
        ne_eqb (length (brought_to 7 message)) 0 (long 7 (omega arith)),
        get_or_brought 7 message {k = 0} (omega arith),
        t,
        u,
        v,
        ne_eqb (length message) 0 some,
        again 7 7 message (omega arith),
      ))
      (λ v.
      let n : equipment_length message ≡ length message = rw (t, u, v) in
      ap (λ (k : ℕ). equipment_of ports (brought_to k message) room) n
      ∙ ap (λ (l : List ℕ). equipment_of ports l room) (brought_itself message))))

pub controller_brought : (ports message : List ℕ) → controller_of ports (brought_to (controller_length message) message) ≡ controller_of ports message
unfolding controller_of controller_length
controller_brought ports message =
    split (eqb (get_or message 0 0) 129)
    (λ t.
    split (eqb (get_or message 1 0) 0)
    (λ u.
    rw (
      t,
      u,
      get_or_brought 9 message {k = 0} (omega arith),
      t,
      get_or_brought 9 message {k = 1} (omega arith),
      u,
      again 9 9 message (omega arith),
    ))
    (λ u.
    split (eqb (get_or message 1 0) 1)
    (λ v.
    rw (
      t,
      u,
      v,
      get_or_brought 29 message {k = 0} (omega arith),
      t,
      get_or_brought 29 message {k = 1} (omega arith),
      u,
      v,
      again 29 29 message (omega arith),
    ))
    (λ v.
    rw (
      t,
      u,
      v,
      get_or_brought 2 message {k = 0} (omega arith),
      t,
      get_or_brought 2 message {k = 1} (omega arith),
      u,
      v,
    ))))
    (λ t.
    let n : controller_length message ≡ length message = rw t in
    ap (λ (k : ℕ). controller_of ports (brought_to k message)) n ∙ ap (controller_of ports) (brought_itself message))
