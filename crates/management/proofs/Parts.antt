-- Laws of parts of runs, of a message brought to its length, and of octets written behind others.
-- Assumes nothing.
use mathlib.Core.List.{List, [], ◌∷◌, ◌++◌, append_assoc, append-nil}
use mathlib.Core.Path.{◌≡◌, sym, ◌∙◌, ap}
use Prim.Native.Nat.{ℕ, min, ◌+◌, ◌*◌, ◌-◌, ◌≤◌, ◌<◌}
use native.Mathlib.Nat.{zero-add, add_assoc}
use native.Mathlib.Omega.{arith}
use borrow.Author.Tests.{ltb-true, ltb-false}
use lib.Dec.{ltb}
use lib.ListN.{
  length,
  get_or,
  take,
  drop,
  replicate,
  length-append,
  length-take,
  length-drop,
  length-replicate,
  get_or-replicate,
  get_or-append,
  get_or-eq_default,
}
use Rattle.std.specs.Int.{w16, from_be_bytes}
use Rattle.std.proofs.lemmas.List.{take-append-le, drop-replicate, take-replicate}
use lib.Seq.{take-length, take-append-add, ext_get_or, take_at, drop_at, take-append_seam, take-add, drop-drop, drop-append-add, get_or-append-add, get_or-take, get_or-drop, length-take-le}
use Rattle.runs.proofs.Laws.{split, tab_is}
use Rattle.runs.specs.Runs.{tab, over, written, read_on, number_of}
use Rattle.management.specs.Ports.{octet_of, octets_from}
use Rattle.management.specs.Tables.{brought_to}

-- octets of a port's record, one by one
pub octets_are : (ports : List ℕ) (port k c : ℕ) → port * 28 + k + c ≤ length ports
    → octets_from ports port k c ≡ tab (λ i. octet_of ports port (k + i)) c
octets_are ports port k c room =
    sym (tab_is (λ i. octet_of ports port (k + i)) c (octets_from ports port k c)
    (length-take-le c (drop (port * 28 + k) ports) (omega (arith, length-drop (port * 28 + k) ports)))
    (λ i less.
    sym (get_or-take c (drop (port * 28 + k) ports) i 0 less
    ∙ get_or-drop (port * 28 + k) ports i 0
    ∙ ap (λ (n : ℕ). get_or ports n 0) (add_assoc (port * 28) k i))))

-- two parts, one behind the other
pub parts_join : (xs : List ℕ) (k a b : ℕ) → take a (drop k xs) ++ take b (drop (k + a) xs) ≡ take (a + b) (drop k xs)
parts_join xs k a b = sym (take-add a b (drop k xs) ∙ ap (λ (l : List ℕ). take a (drop k xs) ++ take b l) (drop-drop a k xs))

pub length_brought : (n : ℕ) (message : List ℕ) → length (brought_to n message) ≡ n
unfolding brought_to
length_brought n message =
    length-take-le n (message ++ replicate n 0) (omega (arith, length-append message (replicate n 0), length-replicate {A = ℕ} n 0))

-- zeros at the end are what is read past it
pub get_or_zeros : (message : List ℕ) (n k : ℕ) → get_or (message ++ replicate n 0) k 0 ≡ get_or message k 0
get_or_zeros message n k =
    split (ltb k (length message))
    (λ t. get_or-append message (replicate n 0) 0 k (ltb-true k (length message) t))
    (λ t.
    let past : length message ≤ k = ltb-false k (length message) t in
    let here : length message + (k - length message) ≡ k = omega arith in
    ap (λ (j : ℕ). get_or (message ++ replicate n 0) j 0) (sym here)
    ∙ get_or-append-add message (replicate n 0) (k - length message) 0
    ∙ get_or_none n (k - length message)
    ∙ sym (get_or-eq_default message 0 past))
  where
    get_or_none : (n j : ℕ) → ◌≡◌ {A = ℕ} (get_or (replicate n 0) j 0) 0
    get_or_none n j =
        split (ltb j n)
        (λ t. get_or-replicate n j 0 0 (ltb-true j n t))
        (λ t. get_or-eq_default (replicate n 0) 0 (omega (arith, ltb-false j n t, length-replicate {A = ℕ} n 0)))

-- zeros past the end, and nothing of the excess: an octet within the length is the message's own, or 0
pub get_or_brought : (n : ℕ) (message : List ℕ) {k : ℕ} → k < n → get_or (brought_to n message) k 0 ≡ get_or message k 0
unfolding brought_to
get_or_brought n message {k} less = get_or-take n (message ++ replicate n 0) k 0 less ∙ get_or_zeros message n k

-- as many octets as there are, and zeros behind them
pub brought_is : (n : ℕ) (message : List ℕ) → take (min (length message) n) message ++ drop (min (length message) n) (replicate n 0) ≡ brought_to n message
unfolding brought_to
brought_is n message =
    let zeros = replicate n 0 in
    split (ltb (length message) n)
    (λ t.
    let less : length message < n = ltb-true (length message) n t in
    let least : min (length message) n ≡ length message = omega arith in
    let all : n ≡ length message + (n - length message) = omega arith in
    let few : n - length message ≤ n = omega arith in
    rw (least, take-length message, drop-replicate {X = ℕ} (length message) n 0)
    (sym (ap (λ (k : ℕ). take k (message ++ zeros)) all
    ∙ take-append-add message zeros (n - length message)
    ∙ ap (λ (rest : List ℕ). message ++ rest) (take-replicate {X = ℕ} (n - length message) n 0 few))))
    (λ t.
    let more : n ≤ length message = ltb-false (length message) n t in
    let least : min (length message) n ≡ n = omega arith in
    let none : n - n ≡ 0 = omega arith in
    rw (least, drop-replicate {X = ℕ} n n 0, none)
    (append-nil (take n message) ∙ sym (take-append-le n message zeros more)))

-- the number that two octets make
pub pair_number : (octets : List ℕ) → length octets ≡ 2 → from_be_bytes w16 octets ≡ number_of octets
unfolding read_on
pair_number [] long = absurd (omega (arith, long))
pair_number (x ∷ []) long = absurd (omega (arith, long))
pair_number (x ∷ (y ∷ [])) long = omega arith
pair_number (x ∷ (y ∷ (z ∷ rest))) long = absurd (omega (arith, long))

-- a part of a message brought to its length, octet by octet
pub part_brought : (n : ℕ) (message : List ℕ) (k c : ℕ) → k + c ≤ n
    → take c (drop k (brought_to n message)) ≡ tab (λ i. get_or message (k + i) 0) c
part_brought n message k c room =
    sym (tab_is (λ i. get_or message (k + i) 0) c (take c (drop k (brought_to n message)))
    (length-take-le c (drop k (brought_to n message)) (omega (arith, length-drop k (brought_to n message), length_brought n message)))
    (λ i less.
    sym (get_or-take c (drop k (brought_to n message)) i 0 less ∙ get_or-drop k (brought_to n message) i 0
    ∙ get_or_brought n message {k = k + i} (omega arith))))

pub over_is : (vs run : List ℕ) → over vs run ≡ written run 0 vs
unfolding over
over_is vs run = rw (zero-add (length vs))

-- octets written behind octets are one piece
pub written_behind : (run : List ℕ) (at : ℕ) (a b : List ℕ) → at + length a ≤ length run
    → written (written run at a) (at + length a) b ≡ written run at (a ++ b)
written_behind run at a b room =
    let first : length (take at run ++ a) ≡ at + length a = length-append (take at run) a ∙ omega (arith, length-take-le at run (omega arith)) in
    let rest : drop (at + length a + length b) (written run at a) ≡ drop (at + length a + length b) run =
    ap (λ (n : ℕ). drop (n + length b) (written run at a)) (sym first)
    ∙ drop-append-add (take at run ++ a) (drop (at + length a) run) (length b)
    ∙ drop-drop (length b) (at + length a) run in
    let whole : at + length a + length b ≡ at + length (a ++ b) = omega (arith, length-append a b) in
    ap (λ (l : List ℕ). l ++ b ++ drop (at + length a + length b) (written run at a))
    (take_at (take at run ++ a) (drop (at + length a) run) (at + length a) first)
    ∙ ap (λ (l : List ℕ). take at run ++ a ++ b ++ l) rest
    ∙ ap (λ (n : ℕ). take at run ++ a ++ b ++ drop n run) whole
    ∙ ap (λ (l : List ℕ). l ++ drop (at + length (a ++ b)) run) (append_assoc (take at run) a b)

-- an answer that was written
pub answered : (run rest : List ℕ) {head status answer h : List ℕ} → answer ≡ written run 0 (h ++ rest) → h ≡ head → head ++ rest ≡ status
    → answer ≡ over status run
answered run rest {head} {status} {answer} {h} left is whole =
    left ∙ ap (λ (l : List ℕ). written run 0 (l ++ rest)) is ∙ ap (written run 0) whole ∙ sym (over_is status run)

pub written_over : (run : List ℕ) {octets status answer : List ℕ} → octets ≡ status → answer ≡ written run 0 octets → answer ≡ over status run
written_over run {octets} {status} whole left = left ∙ ap (written run 0) whole ∙ sym (over_is status run)

pub both_written : (run : List ℕ) (at : ℕ) (a b : List ℕ) {first second : List ℕ} → at + length a ≤ length run
    → first ≡ written run at a → second ≡ written first (at + length a) b → second ≡ written run at (a ++ b)
both_written run at a b room one two = two ∙ ap (λ (l : List ℕ). written l (at + length a) b) one ∙ written_behind run at a b room

pub length_written : (run : List ℕ) (at : ℕ) (vs : List ℕ) → at + length vs ≤ length run → length (written run at vs) ≡ length run
length_written run at vs room =
    length-append (take at run ++ vs) (drop (at + length vs) run)
    ∙ omega (arith, length-append (take at run) vs, length-take-le at run (omega arith), length-drop (at + length vs) run)

-- what stands outside the octets that were written stays
module _ (run : List ℕ) (at : ℕ) (vs : List ℕ) (room : at + length vs ≤ length run) where
  front : length (take at run) ≡ at
  front = length-take-le at run (omega arith)

  head : length (take at run ++ vs) ≡ at + length vs
  head = length-append (take at run) vs ∙ omega (arith, front)

  pub get_or_before : {i : ℕ} → i < at → get_or (written run at vs) i 0 ≡ get_or run i 0
  get_or_before {i} less =
      get_or-append (take at run ++ vs) (drop (at + length vs) run) 0 i (omega (arith, head))
      ∙ get_or-append (take at run) vs 0 i (omega (arith, front))
      ∙ get_or-take at run i 0 less

  pub get_or_behind : {i : ℕ} → at + length vs ≤ i → get_or (written run at vs) i 0 ≡ get_or run i 0
  get_or_behind {i} past =
      let here : length (take at run ++ vs) + (i - (at + length vs)) ≡ i = omega (arith, head) in
      let there : at + length vs + (i - (at + length vs)) ≡ i = omega arith in
      ap (λ (k : ℕ). get_or (written run at vs) k 0) (sym here)
      ∙ get_or-append-add (take at run ++ vs) (drop (at + length vs) run) (i - (at + length vs)) 0
      ∙ get_or-drop (at + length vs) run (i - (at + length vs)) 0
      ∙ ap (λ (k : ℕ). get_or run k 0) there

  -- and what was written stands there
  pub part_written : take (length vs) (drop at (written run at vs)) ≡ vs
  part_written =
      ap (λ (l : List ℕ). take (length vs) (drop at l)) (append_assoc (take at run) vs (drop (at + length vs) run))
      ∙ ap (take (length vs)) (drop_at (take at run) (vs ++ drop (at + length vs) run) at front)
      ∙ take-append_seam vs (drop (at + length vs) run)

-- parts of runs that agree there
pub same_part : (xs ys : List ℕ) (k c : ℕ) → length xs ≡ length ys → ((i : ℕ) → i < c → get_or xs (k + i) 0 ≡ get_or ys (k + i) 0)
    → take c (drop k xs) ≡ take c (drop k ys)
same_part xs ys k c long each =
    ext_get_or 0 (take c (drop k xs)) (take c (drop k ys))
    (rw (length-take, length-take, length-drop, length-drop, long))
    (λ i less.
    let inside : i < c = omega (arith, length-take c (drop k xs), less) in
    get_or-take c (drop k xs) i 0 inside
    ∙ get_or-drop k xs i 0
    ∙ each i inside
    ∙ sym (get_or-take c (drop k ys) i 0 inside ∙ get_or-drop k ys i 0))

pub same_rest : (xs ys : List ℕ) (k : ℕ) → length xs ≡ length ys → ((i : ℕ) → k ≤ i → get_or xs i 0 ≡ get_or ys i 0) → drop k xs ≡ drop k ys
same_rest xs ys k long each =
    ext_get_or 0 (drop k xs) (drop k ys)
    (rw (length-drop, length-drop, long))
    (λ i less. get_or-drop k xs i 0 ∙ each (k + i) (omega arith) ∙ sym (get_or-drop k ys i 0))
