-- Reading and writing a log are each other's converse: what was written is read back, and a number that was read is written
-- as it stood.
-- Assumes nothing.
use mathlib.Core.Bool.{Bool, true, false}
use mathlib.Core.List.{List, [], ◌∷◌, ◌++◌, append_assoc}
use mathlib.Core.Path.{◌≡◌, refl, sym, ◌∙◌}
use Prim.Native.Nat.{ℕ, zero, suc, ◌+◌, ◌*◌, ◌/◌, ◌%◌, ◌^◌, ◌-◌, ◌≤◌, ◌<◌}
use native.Mathlib.Nat.{pow-suc}
use native.Mathlib.Omega.{arith}
use native.Mathlib.Numerals.{add-one}
use borrow.Author.Tests.{ltb-true, ltb-false, ne_eqb}
use lib.Dec.{eqb, ltb}
use lib.ListN.{length, get_or, take, drop, length-append}
use lib.Seq.{append_snoc, get_or_at, length-take-le, take_at, drop_at, drop-cons}
use Rattle.cell_log.specs.Answers.{Number}
use Rattle.cell_log.specs.Code.{behind, number_within}
use Rattle.cell_log.specs.Numbers.{number, number_at, groups_of}
use Rattle.runs.specs.Refusals.{or_else}
use Rattle.runs.proofs.Laws.{split}
use Rattle.formats.specs.Formats.{settings_refusal}
use Rattle.cell_log.specs.Records.{header_of, header_of_numbers, header_refusal, record_at, cell_at}
use Rattle.runs.specs.Runs.{written}
use Rattle.cell_log.specs.Written.{number_refusal, header_refused_of, header_octets, record_refusal, octet_of, record_octets}
use Rattle.cell_log.proofs.Headers.{header_fits, header_octets_lem, format_small, channels_small, order_small}
use Rattle.cell_log.proofs.Keeping.{number_fits, record_fits}
use Rattle.cell_log.proofs.Places.{record_cell}
use Rattle.cell_log.proofs.Groups.{number_agrees}
use Rattle.cell_log.proofs.Laws.{number_whole, number_more, number_cases, number_some, value_small, groups_1, groups_more}

-- a list with an entry behind a start
module _ {log : List ℕ} (before : List ℕ) (x : ℕ) (behind' : List ℕ) {at : ℕ} (e : log ≡ before ++ x ∷ behind') (here : length before ≡ at) where
  entry : x ≡ get_or log at 0
  entry = sym (rw e (get_or_at before x behind' 0 at here))

  inside : at < length log
  inside = rw e (rw length-append (omega (arith, here)))

behind_number : (n next : ℕ) → 128 ≤ n → behind (128 + n % 128) (number (n / 128) next) ≡ number n next
unfolding behind
behind_number n next h =
    let some : n / 128 ≡ 0 → ⊥ = λ z. omega arith in
    let v : (128 + n % 128) % 128 + n / 128 * 128 ≡ n = omega arith in
    rw (ne_eqb (n / 128) 0 some, v)

-- the number's shortest form stands at a place of the log
Stands : ℕ → ℕ → List ℕ → ℕ → Type 0
Stands k n log at = (before : List ℕ) × (after : List ℕ) × (log ≡ before ++ groups_of k n ++ after) × (length before ≡ at)

read_one : (k n : ℕ) (log : List ℕ) (at : ℕ) → n < 128 → Stands (suc k) n log at
    → number_within (suc k) log at ≡ number n (at + length (groups_of (suc k) n))
unfolding Stands
read_one k n log at small (before, after, e, here) =
    let one : groups_of (suc k) n ≡ n ∷ [] = groups_1 k n small in
    let e' : log ≡ before ++ n ∷ after = e ∙ rw one (append_snoc before n after) in
    number_whole k log at (entry before n after e' here) (inside before n after e' here) small ∙ rw one

stands_behind : (k n : ℕ) (log : List ℕ) (at : ℕ) → 128 ≤ n → Stands (suc k) n log at → Stands k (n / 128) log (at + 1)
unfolding Stands
stands_behind k n log at large (before, after, e, here) =
    let many : groups_of (suc k) n ≡ (128 + n % 128) ∷ groups_of k (n / 128) = groups_more k n large in (
      before ++ ((128 + n % 128) ∷ []),
      after,
      e ∙ rw (many, append_snoc before (128 + n % 128) (groups_of k (n / 128))),
      length-append before ((128 + n % 128) ∷ []) ∙ omega arith,
    )

read_more : (k n : ℕ) (log : List ℕ) (at : ℕ) → 128 ≤ n → Stands (suc k) n log at
    → number_within k log (at + 1) ≡ number (n / 128) (at + 1 + length (groups_of k (n / 128)))
    → number_within (suc k) log at ≡ number n (at + length (groups_of (suc k) n))
unfolding Stands
read_more k n log at large (before, after, e, here) rest =
    let many : groups_of (suc k) n ≡ (128 + n % 128) ∷ groups_of k (n / 128) = groups_more k n large in
    let e' : log ≡ before ++ (128 + n % 128) ∷ (groups_of k (n / 128) ++ after) =
    e ∙ rw many (append_assoc before ((128 + n % 128) ∷ groups_of k (n / 128)) after) in
    let next : at + 1 + length (groups_of k (n / 128)) ≡ at + length (groups_of (suc k) n) = rw many (omega arith) in
    number_more k log at
    (entry before (128 + n % 128) (groups_of k (n / 128) ++ after) e' here)
    (inside before (128 + n % 128) (groups_of k (n / 128) ++ after) e' here)
    (omega arith)
    ∙ rw (rest, next) (behind_number n (at + length (groups_of (suc k) n)) large)

-- a number's shortest form is read as the number
read_groups : (k n : ℕ) (log : List ℕ) (at : ℕ) → n < 128 ^ suc k → Stands (suc k) n log at
    → number_within (suc k) log at ≡ number n (at + length (groups_of (suc k) n))
read_groups zero n log at below s = read_one zero n log at below s
read_groups (suc k) n log at below s =
    split (ltb n 128)
    (λ t. read_one (suc k) n log at (ltb-true n 128 t) s)
    (λ t.
    let large : 128 ≤ n = ltb-false n 128 t in
    let less : n / 128 < 128 ^ suc k = omega (arith, pow-suc 128 (suc k)) in
    read_more (suc k) n log at large s (read_groups k (n / 128) log (at + 1) less (stands_behind (suc k) n log at large s)))

-- what was written of a number is read back as that number, and the place after it is where writing ended
pub read_written_number : (log : List ℕ) (place n : ℕ) → number_refusal log place n ≡ 0
    → number_at (written log place (groups_of 3 n)) place ≡ number n (place + length (groups_of 3 n))
unfolding Stands
read_written_number log place n ok =
    let fits = number_fits log place n ok in
    number_agrees (written log place (groups_of 3 n)) place
    ∙ read_groups 2 n (written log place (groups_of 3 n)) place (omega (arith, fits.0))
    (take place log, drop (place + length (groups_of 3 n)) log, refl, length-take-le place log (omega (arith, fits.1)))

-- the octets of a log are octets
abbrev pub Octets : List ℕ → Type 0
Octets log = (i : ℕ) → get_or log i 0 < 256

-- the octets from a place up to another
abbrev pub between : ℕ → ℕ → List ℕ → List ℕ
between place next log = take (next - place) (drop place log)

abbrev Whole : ℕ → List ℕ → ℕ → Number → Type 0
Whole k log at n = n.refusal ≡ 0 → (at < n.next) × (groups_of k n.value ≡ between at n.next log)

whole_one : (k : ℕ) (log : List ℕ) (at : ℕ) → at < length log → get_or log at 0 < 128
    → groups_of (suc k) (get_or log at 0) ≡ between at (at + 1) log
whole_one k log at h small =
    let one : at + 1 - at ≡ 1 = omega arith in
    rw (groups_1 k (get_or log at 0) small, one, drop-cons log at 0 h)

whole_more : (k : ℕ) (log : List ℕ) (at value next : ℕ) → at < length log → 128 ≤ get_or log at 0 → get_or log at 0 < 256
    → (value ≡ 0 → ⊥) → at + 1 < next → groups_of k value ≡ between (at + 1) next log
    → groups_of (suc k) (get_or log at 0 % 128 + value * 128) ≡ between at next log
whole_more k log at value next h large octet some after rest =
    let low : 128 + (get_or log at 0 % 128 + value * 128) % 128 ≡ get_or log at 0 = omega arith in
    let high : (get_or log at 0 % 128 + value * 128) / 128 ≡ value = omega arith in
    let more : next - at ≡ suc (next - (at + 1)) = omega arith in
    groups_more k (get_or log at 0 % 128 + value * 128) (omega (arith, some))
    ∙ rw (low, high, more, drop-cons log at 0 h, rest, add-one at)

written_groups : (k : ℕ) (log : List ℕ) (at : ℕ) → Octets log → Whole k log at (number_within k log at)
unfolding number_within
written_groups zero log at octets = λ ok. absurd (let z : ◌≡◌ {A = ℕ} 11 0 = ok in omega arith)
written_groups (suc k) log at octets =
    number_cases k log at (Whole (suc k) log at)
    (λ ok. absurd (let z : ◌≡◌ {A = ℕ} 11 0 = ok in omega arith))
    (λ h small ok. (omega arith, whole_one k log at h small))
    (λ h large some ok.
    let rest = written_groups k log (at + 1) octets (number_some k log (at + 1) some) in (
      omega (arith, rest.0),
      whole_more k log at (number_within k log (at + 1)).value (number_within k log (at + 1)).next h large (octets at) some rest.0 rest.1,
    ))

-- a number that was read is written as it stood, in at most three groups
pub written_read_number : (log : List ℕ) (place : ℕ) → Octets log → (number_at log place).refusal ≡ 0
    → (groups_of 3 (number_at log place).value ≡ between place (number_at log place).next log) × ((number_at log place).value ≤ 2097151)
written_read_number log place octets =
    rw (number_agrees log place)
    (λ ok. ((written_groups 3 log place octets ok).1, omega (arith, value_small 3 log place)))

module _ (log : List ℕ) (format channels order : ℕ) (ok : header_refused_of log format channels order ≡ 0) where
  abbrev headed : List ℕ
  headed = written log 0 (header_octets format channels order)

  fits : (settings_refusal format channels order ≡ 0) × (3 ≤ length log)
  fits = header_fits log format channels order ok

  octets : headed ≡ (format ∷ channels ∷ order ∷ []) ++ drop 3 log
  octets = rw (header_octets_lem format channels order fits.0)

  first : number_at headed 0 ≡ number format 1
  first = number_agrees headed 0 ∙ number_whole 2 headed 0 (rw octets) (rw octets (omega arith)) (format_small format channels order fits.0)

  second : number_at headed 1 ≡ number channels 2
  second = number_agrees headed 1 ∙ number_whole 2 headed 1 (rw octets) (rw octets (omega arith)) (channels_small format channels order fits.0)

  third : number_at headed 2 ≡ number order 3
  third = number_agrees headed 2 ∙ number_whole 2 headed 2 (rw octets) (rw octets (omega arith)) (order_small format channels order fits.0)

  -- a header that was written is read back
  pub read_written_header : header_of headed ≡ record { refusal = 0; place = 3; format = format; channels = channels; order = order }
  unfolding header_of header_of_numbers header_refusal or_else
  read_written_header = rw (first, second, third, fits.0)

octet_small : (b : Bool) → octet_of b ≤ 1
octet_small true = omega arith
octet_small false = omega arith

octet_back : (b : Bool) → eqb (octet_of b) 1 ≡ b
octet_back true = refl
octet_back false = refl

module _ (log : List ℕ) (place : ℕ) (indication : Bool) (cell : List ℕ) (ok : record_refusal log place cell ≡ 0) where
  abbrev kept : List ℕ
  kept = written log place (record_octets indication cell)

  room : (length cell ≡ 48) × (place + 49 ≤ length log)
  room = record_fits log place cell ok

  abbrev rest : List ℕ
  rest = drop (place + length (record_octets indication cell)) log

  start : length (take place log) ≡ place
  start = length-take-le place log (omega (arith, room.1))

  shape : kept ≡ take place log ++ octet_of indication ∷ (cell ++ rest)
  shape = append_assoc (take place log) (record_octets indication cell) rest

  is : octet_of indication ≡ get_or kept place 0
  is = entry (take place log) (octet_of indication) (cell ++ rest) shape start

  long : place + 49 ≤ length kept
  long =
      rw (shape, length-append (take place log) (octet_of indication ∷ (cell ++ rest)), length-append cell rest)
      (omega (arith, start, room.0))

  -- a record that was written is read back
  pub read_written_record : record_at kept place
      ≡ record { refusal = 0; what = 1; indication = indication; start = place + 1; next = place + 49 }
  read_written_record =
      record_cell kept place (rw (← is) (octet_small indication)) long ∙ rw (← is, octet_back indication)

  pub read_written_cell : cell_at kept place ≡ cell
  unfolding cell_at
  read_written_cell =
      let front : kept ≡ take place log ++ (octet_of indication ∷ []) ++ (cell ++ rest) =
      shape ∙ sym (append_snoc (take place log) (octet_of indication) (cell ++ rest)) in
      let at : length (take place log ++ (octet_of indication ∷ [])) ≡ place + 1 =
      length-append (take place log) (octet_of indication ∷ []) ∙ omega (arith, start) in
      rw (read_written_record, front, drop_at (take place log ++ (octet_of indication ∷ [])) (cell ++ rest) (place + 1) at)
      (take_at cell rest 48 room.0)
