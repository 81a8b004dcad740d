-- What a log hands out in pieces is what the whole log has, however it is divided.
-- Assumes nothing.
use Rattle.std.proofs.Common.{◌≡◌, ℕ, suc, ◌+◌, ◌-◌, ◌%◌, ◌^◌, ◌<◌, ◌≤◌, true, false, cond, ◌&&◌, eqb, ltb, leb, List, [], ◌∷◌, ◌++◌, length, get_or, take, drop, sym, refl, ap, ◌∙◌, subst, append_assoc, append-nil, arith, length-append, length-drop, take_all, drop_at, ltb-false, ltb-true, eq-eqb, ne_eqb, eqb-true, le-leb, leb-false, leb-true}
use borrow.Author.Tests.{lt-leb, eqb-false}
use lib.ListN.{get_or-append}
use lib.Seq.{take-append-le, drop-append-le, take-append-add, take-append_seam, append_snoc}
use Rattle.cell_log.specs.Answers.{Record}
use Rattle.cell_log.specs.Records.{header_of, record_at}
use Rattle.cell_log.proofs.Places.{record_end, record_11, record_12}
use Rattle.reading.specs.Records.{Walk, is_whole, front_of, records_in, fault_in}
use Rattle.reading.proofs.Reading.{header_three, header_long}
use Rattle.reading.proofs.Records.{walk_front, walk_stop, whole_facts, whole_here, not_whole, front_is}
use Rattle.runs.proofs.Laws.{split, both_true}
use Rattle.pieces.specs.Limit.{Part, head, whole, refused, broken, records_to, fault_to, end_part, record_parts, parts_of}
use Rattle.pieces.specs.Taken.{
  Taking,
  Took,
  fresh_taking,
  quietly,
  faulty,
  in_header,
  in_record,
  one,
  after,
  handed,
  end_parts,
  joined_of,
  after_all,
  handed_all,
}
use Rattle.pieces.proofs.Headers.{header_taken, header_nine, first_three}
use Rattle.pieces.proofs.Octets.{after_joined, handed_joined}

-- where a walk along the records stops, and where it goes on
module _ (octets : List ℕ) where
  records_stop : is_whole octets ≡ false → records_in octets ≡ []
  records_stop e = ap (λ (w : Walk). w.records) (walk_stop octets e)

  fault_stop : is_whole octets ≡ false → fault_in octets ≡ (record_at octets 0).refusal
  fault_stop e = ap (λ (w : Walk). (record_at w.rest 0).refusal) (walk_stop octets e)

  records_front : is_whole octets ≡ true → records_in octets ≡ front_of octets ∷ records_in (drop 49 octets)
  records_front e = ap (λ (w : Walk). w.records) (walk_front octets e)

  fault_front : is_whole octets ≡ true → fault_in octets ≡ fault_in (drop 49 octets)
  fault_front e = ap (λ (w : Walk). (record_at w.rest 0).refusal) (walk_front octets e)

-- octets of a record that isn't whole: they hold no record, and no fault but 12
module _ (part : List ℕ) (short : length part < 49) (small : 0 < length part → get_or part 0 0 ≤ 1) where
  stops : records_in part ≡ []
  stops = records_stop part (not_whole part short)

  fault_none : length part ≡ 0 → fault_in part ≡ 0
  fault_none none = fault_stop part (not_whole part short) ∙ ap (λ (r : Record). r.refusal) (record_end part 0 (omega arith))

  fault_12 : 0 < length part → fault_in part ≡ 12
  fault_12 some =
      fault_stop part (not_whole part short) ∙ ap (λ (r : Record). r.refusal) (record_12 part 0 some (small some) (omega arith))

  not_11 : eqb (fault_in part) 11 ≡ false
  not_11 =
      split (ltb 0 (length part))
      (λ e. rw (fault_12 (ltb-true 0 (length part) e)))
      (λ e. rw (fault_none (omega (arith, ltb-false 0 (length part) e))))

  -- an octet past the limit
  parts_13 : (x : ℕ) (octets : List ℕ) → record_parts (length part) (part ++ x ∷ octets) ≡ broken 13 ∷ []
  unfolding records_to fault_to end_part
  parts_13 x octets =
      let within : take (length part) (part ++ x ∷ octets) ≡ part = take-append_seam part (x ∷ octets) in
      let past : leb (length (part ++ x ∷ octets)) (length part) ≡ false =
      lt-leb (length (part ++ x ∷ octets)) (length part) (omega (arith, length-append part (x ∷ octets))) in
      rw (within, past, not_11, stops)

  -- the log's end
  parts_end : (left : ℕ) → record_parts (left + length part) part ≡ end_part (cond (ltb 0 (length part)) 12 0)
  unfolding records_to fault_to
  parts_end left =
      let within : take (left + length part) part ≡ part = take_all (left + length part) part (omega arith) in
      let all : leb (length part) (left + length part) ≡ true = le-leb (length part) (left + length part) (omega arith) in
      split (ltb 0 (length part))
      (λ e. rw (within, all, fault_12 (ltb-true 0 (length part) e), stops, e))
      (λ e. rw (within, all, fault_none (omega (arith, ltb-false 0 (length part) e)), stops, e))

-- a record that begins with an octet above 1
module _ (x : ℕ) (large : 1 < x) (octets : List ℕ) where
  not_record : is_whole (x ∷ octets) ≡ false
  not_record = split (is_whole (x ∷ octets)) (λ e. absurd (omega (arith, (whole_facts (x ∷ octets) e).1))) (λ e. e)

  fault_11 : fault_in (x ∷ octets) ≡ 11
  fault_11 = fault_stop (x ∷ octets) not_record ∙ ap (λ (r : Record). r.refusal) (record_11 (x ∷ octets) 0 (omega arith) large)

parts_11 : (left x : ℕ) (octets : List ℕ) → 1 < x → record_parts (suc left) (x ∷ octets) ≡ broken 11 ∷ []
unfolding records_to fault_to end_part
parts_11 left x octets large =
    let stops : records_in (x ∷ take left octets) ≡ [] =
    records_stop (x ∷ take left octets) (not_record x large (take left octets)) in
    split (leb (length (x ∷ octets)) (suc left))
    (λ e. rw (e, fault_11 x large octets, stops))
    (λ e. rw (e, fault_11 x large (take left octets), stops))

-- a whole record taken off the front
module _ (part : List ℕ) (is : length part ≡ 49) (small : get_or part 0 0 ≤ 1) where
  module _ (octets : List ℕ) where
    enough : 49 ≤ length (part ++ octets)
    enough = rw (length-append part octets) (omega arith)

    first : get_or (part ++ octets) 0 0 ≡ get_or part 0 0
    first = get_or-append part octets 0 0 (omega arith)

    front : front_of (part ++ octets) ≡ front_of part
    front =
        let rest : drop 1 (part ++ octets) ≡ drop 1 part ++ octets = drop-append-le 1 part octets (omega arith) in
        let cell : take 48 (drop 1 part ++ octets) ≡ take 48 (drop 1 part) =
        take-append-le 48 (drop 1 part) octets (omega (arith, length-drop 1 part)) in
        front_is (part ++ octets) enough (rw first small) ∙ rw (first, rest, cell) (sym (front_is part (omega arith) small))

    begins : is_whole (part ++ octets) ≡ true
    begins = whole_here (part ++ octets) enough (rw first small)

    records_are : records_in (part ++ octets) ≡ front_of part ∷ records_in octets
    records_are = records_front (part ++ octets) begins ∙ (λ i. front i ∷ records_in (drop_at part octets 49 is i))

    fault_is : fault_in (part ++ octets) ≡ fault_in octets
    fault_is = fault_front (part ++ octets) begins ∙ ap fault_in (drop_at part octets 49 is)

  parts_whole : (left : ℕ) (octets : List ℕ) → record_parts (49 + left) (part ++ octets) ≡ whole (front_of part) ∷ record_parts left octets
  unfolding records_to fault_to
  parts_whole left octets =
      let within : take (49 + left) (part ++ octets) ≡ part ++ take left octets =
      ap (λ (n : ℕ). take (n + left) (part ++ octets)) (sym is) ∙ take-append-add part octets left in
      let test : leb (length (part ++ octets)) (49 + left) ≡ leb (length octets) left =
      split (leb (length octets) left)
      (λ e. le-leb (length (part ++ octets)) (49 + left) (omega (arith, length-append part octets, leb-true (length octets) left e)) ∙ sym e)
      (λ e. lt-leb (length (part ++ octets)) (49 + left) (omega (arith, length-append part octets, leb-false (length octets) left e)) ∙ sym e) in
      rw (within, test, fault_is octets, fault_is (take left octets), records_are (take left octets))

-- what is still to come where a log stands, with the octets behind it
unfoldable ahead : Taking → List ℕ → List Part
ahead t octets =
    cond (eqb t.stage 0) (parts_of t.left (t.part ++ octets))
    (cond (eqb t.stage 1) (record_parts (t.left + length t.part) (t.part ++ octets)) [])

-- a standing that octets lead to: a header isn't taken by its first three octets, a record begins with 0 or 1, and neither is whole
record Sound (t : Taking) : Type 0 where
  pub header : t.stage ≡ 0 → (length t.part < 9) × (3 ≤ length t.part → (header_of (take 3 t.part)).refusal ≡ 0 → ⊥)
  pub among : t.stage ≡ 1 → (length t.part < 49) × (0 < length t.part → get_or t.part 0 0 ≤ 1)

-- one octet on
record Goes (t : Taking) (x : ℕ) : Type 0 where
  pub sound : Sound (one t x).taking
  pub to_come : (octets : List ℕ) → ahead t (x ∷ octets) ≡ (one t x).parts ++ ahead (one t x).taking octets

-- in any way that an octet is taken
goes_as : {t : Taking} {x : ℕ} {w : Took} → one t x ≡ w → Sound w.taking
    → ((octets : List ℕ) → ahead t (x ∷ octets) ≡ w.parts ++ ahead w.taking octets) → Goes t x
goes_as e sound to_come = record { sound = rw e sound; to_come = λ octets. rw e (to_come octets) }

ended : (stage f left records : ℕ) → eqb stage 0 ≡ false → eqb stage 1 ≡ false
    → Sound (record { stage = stage; fault = f; left = left; records = records; part = [] })
ended stage f left records a b =
    record {
      header = λ z. absurd (eqb-false stage 0 a z);
      among = λ z. absurd (eqb-false stage 1 b z);
    }

-- so much of a record, or of a header, is held
holding : (f left records : ℕ) (part : List ℕ) → length part < 49 → (0 < length part → get_or part 0 0 ≤ 1)
    → Sound (record { stage = 1; fault = f; left = left; records = records; part = part })
holding f left records part short small = record { header = λ z. absurd (omega arith); among = λ z. (short, small) }

heading : (f left records : ℕ) (part : List ℕ) → length part < 9 → (3 ≤ length part → (header_of (take 3 part)).refusal ≡ 0 → ⊥)
    → Sound (record { stage = 0; fault = f; left = left; records = records; part = part })
heading f left records part short refused' = record { header = λ z. (short, refused'); among = λ z. absurd (omega arith) }

-- before a record's first octet
nothing_held : (f left records : ℕ) → Sound (record { stage = 1; fault = f; left = left; records = records; part = [] })
nothing_held f left records = record { header = λ z. absurd (omega arith); among = λ z. (omega arith, none) }
  where
    none : 0 < length {A = ℕ} [] → get_or {A = ℕ} [] 0 0 ≤ 1
    none h = omega arith

more_length : (part : List ℕ) (x : ℕ) → length (part ++ (x ∷ [])) ≡ suc (length part)
more_length part x = length-append part (x ∷ []) ∙ omega arith

starts_with : (part : List ℕ) (x : ℕ) → (length part ≡ 0 → x ≤ 1) → (0 < length part → get_or part 0 0 ≤ 1) → get_or (part ++ (x ∷ [])) 0 0 ≤ 1
starts_with [] x low small = low refl
starts_with (y ∷ part) x low small = small (omega arith)

-- among the records
module _ (f left records : ℕ) (part : List ℕ) (x : ℕ) (short : length part < 49) (small : 0 < length part → get_or part 0 0 ≤ 1) where
  abbrev t : Taking
  t = record { stage = 1; fault = f; left = left; records = records; part = part }

  abbrev longer_part : List ℕ
  longer_part = part ++ (x ∷ [])

  to_13 : left ≡ 0 → (octets : List ℕ) → ahead t (x ∷ octets) ≡ broken 13 ∷ []
  unfolding ahead
  to_13 none octets =
      let n : left + length part ≡ length part = omega arith in
      ap (λ (m : ℕ). record_parts m (part ++ x ∷ octets)) n ∙ parts_13 part short small x octets

  to_11 : (left ≡ 0 → ⊥) → length part ≡ 0 → 1 < x → (octets : List ℕ) → ahead t (x ∷ octets) ≡ broken 11 ∷ []
  unfolding ahead
  to_11 some none large octets =
      let n : left + length part ≡ suc (left - 1) = omega (arith, some) in
      let empty : part ≡ [] = sym (take_all 0 part (omega arith)) in
      ap (λ (m : ℕ). record_parts m (part ++ x ∷ octets)) n
      ∙ ap (λ (p : List ℕ). record_parts (suc (left - 1)) (p ++ x ∷ octets)) empty
      ∙ parts_11 (left - 1) x octets large

  to_whole : (left ≡ 0 → ⊥) → length part ≡ 48 → get_or longer_part 0 0 ≤ 1 → (octets : List ℕ)
      → ahead t (x ∷ octets) ≡ whole (front_of longer_part) ∷ record_parts (left - 1 + 0) octets
  unfolding ahead
  to_whole some is first octets =
      let n : left + length part ≡ 49 + (left - 1) = omega (arith, some) in
      let z : left - 1 ≡ left - 1 + 0 = omega arith in
      ap (λ (m : ℕ). record_parts m (part ++ x ∷ octets)) n
      ∙ ap (record_parts (49 + (left - 1))) (sym (append_snoc part x octets))
      ∙ parts_whole longer_part (more_length part x ∙ ap suc is) first (left - 1) octets
      ∙ ap (λ (m : ℕ). whole (front_of longer_part) ∷ record_parts m octets) z

  to_held : (left ≡ 0 → ⊥) → (octets : List ℕ) → ahead t (x ∷ octets) ≡ record_parts (left - 1 + length longer_part) (longer_part ++ octets)
  unfolding ahead
  to_held some octets =
      let n : left + length part ≡ left - 1 + length longer_part = omega (arith, some, more_length part x) in
      ap (λ (m : ℕ). record_parts m (part ++ x ∷ octets)) n
      ∙ ap (record_parts (left - 1 + length longer_part)) (sym (append_snoc part x octets))

  not_above : eqb (length part) 0 && ltb 1 x ≡ false → length part ≡ 0 → x ≤ 1
  not_above b none = ltb-false 1 x (rw (eq-eqb (length part) 0 none) at b)

  record_goes : Goes t x
  unfolding one in_record ahead
  record_goes =
      split (eqb left 0)
      (λ l. goes_as {w = faulty t 3 13} (rw l) (ended 3 13 left records refl refl) (to_13 (eqb-true left 0 l)))
      (λ l.
      let some : left ≡ 0 → ⊥ = eqb-false left 0 l in
      split (eqb (length part) 0 && ltb 1 x)
      (λ b.
      let both = both_true (eqb (length part) 0) (ltb 1 x) b in
      goes_as {w = faulty t 3 11} (rw (l, b)) (ended 3 11 left records refl refl) (to_11 some (eqb-true (length part) 0 both.0) (ltb-true 1 x both.1)))
      (λ b.
      let first : get_or longer_part 0 0 ≤ 1 = starts_with part x (not_above b) small in
      split (eqb (length part) 48)
      (λ e.
      goes_as
      {w = record {
        taking = record { stage = 1; fault = f; left = left - 1; records = (records + 1) % 2 ^ 64; part = [] };
        parts = whole (front_of longer_part) ∷ [];
      }}
      (rw (l, b, e))
      (nothing_held f (left - 1) ((records + 1) % 2 ^ 64))
      (to_whole some (eqb-true (length part) 48 e) first))
      (λ e.
      goes_as
      {w = quietly (record { stage = 1; fault = f; left = left - 1; records = records; part = longer_part })}
      (rw (l, b, e))
      (holding f (left - 1) records longer_part (omega (arith, more_length part x, eqb-false (length part) 48 e)) (λ h. first))
      (to_held some))))

-- in the header
module _ (f left records : ℕ) (part : List ℕ) (x : ℕ) (short : length part < 9)
    (not_taken : 3 ≤ length part → (header_of (take 3 part)).refusal ≡ 0 → ⊥)
  where
    abbrev h : Taking
    h = record { stage = 0; fault = f; left = left; records = records; part = part }

    abbrev longer : List ℕ
    longer = part ++ (x ∷ [])

    comes : (octets : List ℕ) → ahead h (x ∷ octets) ≡ parts_of left (longer ++ octets)
    unfolding ahead
    comes octets = ap (parts_of left) (sym (append_snoc part x octets))

    -- the header's first three octets, where there are more of them
    first_refused : 3 ≤ length part → (header_of (take 3 longer)).refusal ≡ 0 → ⊥
    first_refused many = rw (take-append-le 3 part (x ∷ []) many) (not_taken many)

    to_header : length longer ≡ 3 → (header_of longer).refusal ≡ 0 → (octets : List ℕ)
        → ahead h (x ∷ octets) ≡ head (header_of longer) ∷ record_parts (left - 3 + 0) octets
    unfolding parts_of
    to_header three ok octets =
        let same : header_of (longer ++ octets) ≡ header_of longer = header_taken longer octets three ok in
        let z : left - 3 + 0 ≡ left - 3 = omega arith in
        comes octets ∙ rw (same, eq-eqb (header_of longer).refusal 0 ok, header_three longer ok, drop_at longer octets 3 three, z)

    to_refused : length longer ≡ 9 → (octets : List ℕ) → ahead h (x ∷ octets) ≡ refused (header_of longer).refusal ∷ []
    unfolding parts_of
    to_refused nine octets =
        let some : (header_of longer).refusal ≡ 0 → ⊥ =
        λ ok. first_refused (omega (arith, more_length part x)) (first_three longer ok) in
        comes octets ∙ rw (header_nine longer octets nine, ne_eqb (header_of longer).refusal 0 some)

    header_goes : Goes h x
    unfolding one in_header ahead
    header_goes =
        split (eqb (length longer) 3 && eqb (header_of longer).refusal 0)
        (λ b.
        let both = both_true (eqb (length longer) 3) (eqb (header_of longer).refusal 0) b in
        goes_as
        {w = record {
          taking = record { stage = 1; fault = f; left = left - 3; records = records; part = [] };
          parts = head (header_of longer) ∷ [];
        }}
        (rw b)
        (nothing_held f (left - 3) records)
        (to_header (eqb-true (length longer) 3 both.0) (eqb-true (header_of longer).refusal 0 both.1)))
        (λ b.
        split (eqb (length longer) 9)
        (λ e. goes_as {w = faulty h 2 (header_of longer).refusal} (rw (b, e)) (ended 2 (header_of longer).refusal left
        records refl refl) (to_refused (eqb-true (length longer) 9 e)))
        (λ e.
        goes_as
        {w = quietly (record { stage = 0; fault = f; left = left; records = records; part = longer })}
        (rw (b, e))
        (heading f left records longer (omega (arith, more_length part x, eqb-false (length longer) 9 e)) (still b))
        comes))
      where
        still : eqb (length longer) 3 && eqb (header_of longer).refusal 0 ≡ false
            → 3 ≤ length longer → (header_of (take 3 longer)).refusal ≡ 0 → ⊥
        still b many ok =
            split (eqb (length longer) 3)
            (λ three.
            let all : take 3 longer ≡ longer = take_all 3 longer (omega (arith, eqb-true (length longer) 3 three)) in
            let r : eqb (header_of longer).refusal 0 ≡ false = rw three at b in
            eqb-false (header_of longer).refusal 0 r (rw all at ok))
            (λ three. first_refused (omega (arith, more_length part x, eqb-false (length longer) 3 three)) ok)

-- behind a fault
module _ (t : Taking) (x : ℕ) (sound : Sound t) (a : eqb t.stage 0 ≡ false) (b : eqb t.stage 1 ≡ false) where
  nothing_ahead : (octets : List ℕ) → ahead t octets ≡ []
  unfolding ahead
  nothing_ahead octets = rw (a, b)

  stays : one t x ≡ quietly t
  unfolding one
  stays = rw (a, b)

  fault_goes : Goes t x
  fault_goes = goes_as stays sound (λ octets. nothing_ahead (x ∷ octets) ∙ sym (nothing_ahead octets))

-- wherever a log stands
module _ (t : Taking) where
  staged : {stage : ℕ} → t.stage ≡ stage
      → record { stage = stage; fault = t.fault; left = t.left; records = t.records; part = t.part } ≡ t
  staged e i = record { stage = sym e i; fault = t.fault; left = t.left; records = t.records; part = t.part }

  goes : (x : ℕ) → Sound t → Goes t x
  goes x sound =
      split (eqb t.stage 0)
      (λ a.
      let z : t.stage ≡ 0 = eqb-true t.stage 0 a in
      let facts = sound.header z in
      subst (λ (u : Taking). Goes u x) (staged z) (header_goes t.fault t.left t.records t.part x facts.0 facts.1))
      (λ a.
      split (eqb t.stage 1)
      (λ b.
      let o : t.stage ≡ 1 = eqb-true t.stage 1 b in
      let facts = sound.among o in
      subst (λ (u : Taking). Goes u x) (staged o) (record_goes t.fault t.left t.records t.part x facts.0 facts.1))
      (λ b. fault_goes t x sound a b))

  -- at the log's end
  ends : Sound t → ahead t [] ≡ end_parts t
  unfolding ahead end_parts parts_of
  ends sound =
      split (eqb t.stage 0)
      (λ a.
      let facts = sound.header (eqb-true t.stage 0 a) in
      let some : (header_of t.part).refusal ≡ 0 → ⊥ = λ ok. facts.1 (header_long t.part ok) (first_three t.part ok) in
      rw (a, append-nil t.part, ne_eqb (header_of t.part).refusal 0 some))
      (λ a.
      split (eqb t.stage 1)
      (λ b.
      let facts = sound.among (eqb-true t.stage 1 b) in
      rw (a, b, append-nil t.part) (parts_end t.part facts.0 facts.1 t.left))
      (λ b. rw (a, b)))

-- octets one by one, and then the end
whole_taken : (t : Taking) (octets : List ℕ) → Sound t → handed t octets ++ end_parts (after t octets) ≡ ahead t octets
unfolding handed after
whole_taken t [] sound = sym (ends t sound)
whole_taken t (x ∷ octets) sound =
    let g = goes t x sound in
    append_assoc (one t x).parts (handed (one t x).taking octets) (end_parts (after (one t x).taking octets))
    ∙ ap (λ (l : List Part). (one t x).parts ++ l) (whole_taken (one t x).taking octets g.sound)
    ∙ sym (g.to_come octets)

fresh_sound : (limit : ℕ) → Sound (fresh_taking limit)
fresh_sound limit = record { header = λ z. (omega arith, λ many. absurd (omega arith)); among = λ z. absurd (omega arith) }

-- however a log is divided, the standing at its end is that of the log in one piece, and what is handed out, with the fault at the
-- end, is the parts of the whole
pub any_division_state : (t : Taking) (pieces : List (List ℕ)) → after_all t pieces ≡ after t (joined_of pieces)
unfolding after_all joined_of after
any_division_state t [] = refl
any_division_state t (p ∷ pieces) = any_division_state (after t p) pieces ∙ sym (after_joined t p (joined_of pieces))

division : (t : Taking) (pieces : List (List ℕ)) → handed_all t pieces ≡ handed t (joined_of pieces) ++ end_parts (after t (joined_of pieces))
unfolding handed_all joined_of handed after
division t [] = refl
division t (p ∷ pieces) =
    ap (λ (l : List Part). handed t p ++ l) (division (after t p) pieces)
    ∙ sym (append_assoc (handed t p) (handed (after t p) (joined_of pieces)) (end_parts (after (after t p) (joined_of pieces))))
    ∙ (λ i. sym (handed_joined t p (joined_of pieces)) i ++ end_parts (sym (after_joined t p (joined_of pieces)) i))

pub any_division : (limit : ℕ) (pieces : List (List ℕ)) → handed_all (fresh_taking limit) pieces ≡ parts_of limit (joined_of pieces)
unfolding ahead
any_division limit pieces =
    division (fresh_taking limit) pieces ∙ whole_taken (fresh_taking limit) (joined_of pieces) (fresh_sound limit)
