-- A step along a piece does what its octets do one by one.
-- Assumes nothing.
use Rattle.std.proofs.Common.{◌≡◌, ℕ, suc, ◌+◌, ◌-◌, ◌%◌, ◌^◌, ◌<◌, ◌≤◌, true, false, ◌&&◌, eqb, ltb, leb, List, [], ◌∷◌, ◌++◌, length, get_or, take, drop, set, sym, refl, ap, ◌∙◌, append_assoc, append-nil, add-one, arith, length-append, length-drop, length-set, take-append-drop, length-take-le, take_all, drop-cons, get_or-take, take-suc, drop-drop, take-suc-set, ltb-false, ltb-true, le-ltb, lt-ltb, eq-eqb, ne_eqb, eqb-true}
use borrow.Author.Tests.{lt-leb, eqb-false}
use lib.Seq.{drop-length, append_snoc}
use Rattle.cell_log.specs.Records.{header_of}
use Rattle.reading.specs.Records.{front_of}
use Rattle.runs.proofs.Laws.{split, both_true}
use Rattle.pieces.specs.Found.{Found}
use Rattle.pieces.specs.declared.Standing.{Standing}
use Rattle.pieces.specs.Limit.{Part, head, whole}
use Rattle.pieces.specs.Steps.{
  held_count,
  taking_of,
  fault_found,
  header_found,
  record_found,
  whole_found,
  lies_whole,
  begins_above,
  next_of,
  held_now,
  Steps,
  found_parts,
}
use Rattle.pieces.specs.Taken.{Taking, Took, quietly, faulty, in_header, in_record, one, after, handed}
use Rattle.pieces.proofs.Laws.{lies_facts, lies_not}

-- octets in two parts
pub after_joined : (t : Taking) (a b : List ℕ) → after t (a ++ b) ≡ after (after t a) b
unfolding after
after_joined t [] b = refl
after_joined t (x ∷ a) b = after_joined (one t x).taking a b

pub handed_joined : (t : Taking) (a b : List ℕ) → handed t (a ++ b) ≡ handed t a ++ handed (after t a) b
unfolding after handed
handed_joined t [] b = refl
handed_joined t (x ∷ a) b =
    ap (λ (l : List Part). (one t x).parts ++ l) (handed_joined (one t x).taking a b)
    ∙ sym (append_assoc (one t x).parts (handed (one t x).taking a) (handed (after (one t x).taking a) b))

-- behind a fault nothing is read
module _ (t : Taking) (not-header : eqb t.stage 0 ≡ false) (not_record : eqb t.stage 1 ≡ false) where
  still : (x : ℕ) → one t x ≡ quietly t
  unfolding one
  still x = rw (not-header, not_record)

  pub after_fault : (octets : List ℕ) → after t octets ≡ t
  unfolding after
  after_fault [] = refl
  after_fault (x ∷ octets) = rw (still x) (after_fault octets)

  pub handed_fault : (octets : List ℕ) → handed t octets ≡ []
  unfolding handed
  handed_fault [] = refl
  handed_fault (x ∷ octets) = rw (still x) (handed_fault octets)

-- among the records
abbrev among : ℕ → ℕ → ℕ → List ℕ → Taking
among f left records part = record { stage = 1; fault = f; left = left; records = records; part = part }

-- octets of a record that isn't whole are held
module _ (f records : ℕ) where
  one_held : (left : ℕ) (part : List ℕ) (x : ℕ) → (left ≡ 0 → ⊥) → (length part ≡ 0 → x ≤ 1) → length part < 48
      → one (among f left records part) x ≡ quietly (among f (left - 1) records (part ++ (x ∷ [])))
  unfolding one in_record
  one_held left part x some small short =
      split (eqb (length part) 0)
      (λ e.
      let low : ltb 1 x ≡ false = le-ltb 1 x (small (eqb-true (length part) 0 e)) in
      rw (ne_eqb left 0 some, e, low, ne_eqb (length part) 48 (omega arith)))
      (λ e. rw (ne_eqb left 0 some, e, ne_eqb (length part) 48 (omega arith)))

  more : (part : List ℕ) (x : ℕ) → length (part ++ (x ∷ [])) ≡ suc (length part)
  more part x = length-append part (x ∷ []) ∙ omega arith

  after_held : (left : ℕ) (part octets : List ℕ) → length octets ≤ left → (length part ≡ 0 → get_or octets 0 0 ≤ 1)
      → length part + length octets ≤ 48
      → after (among f left records part) octets ≡ among f (left - length octets) records (part ++ octets)
  unfolding after
  after_held left part [] enough small short = let none : left - 0 ≡ left = omega arith in rw (append-nil part, none)
  after_held left part (x ∷ octets) enough small short =
      let less : left - 1 - length octets ≡ left - suc (length octets) = omega arith in
      rw (one_held left part x (λ none. omega arith) small (omega arith))
      (after_held (left - 1) (part ++ (x ∷ [])) octets (omega arith) (λ none. absurd (omega (arith, more part x))) (omega (arith, more part x))
      ∙ rw (less, append_snoc part x octets))

  handed_held : (left : ℕ) (part octets : List ℕ) → length octets ≤ left → (length part ≡ 0 → get_or octets 0 0 ≤ 1)
      → length part + length octets ≤ 48
      → handed (among f left records part) octets ≡ []
  unfolding handed
  handed_held left part [] enough small short = refl
  handed_held left part (x ∷ octets) enough small short =
      rw (one_held left part x (λ none. omega arith) small (omega arith))
      (handed_held (left - 1) (part ++ (x ∷ [])) octets (omega arith) (λ none. absurd (omega (arith, more part x))) (omega (arith, more part x)))

  -- the last octet of a record
  one_whole : (left : ℕ) (part : List ℕ) (x : ℕ) → (left ≡ 0 → ⊥) → length part ≡ 48
      → one (among f left records part) x
      ≡ record { taking = among f (left - 1) ((records + 1) % 2 ^ 64) []; parts = whole (front_of (part ++ (x ∷ []))) ∷ [] }
  unfolding one in_record
  one_whole left part x some last =
      rw (ne_eqb left 0 some, ne_eqb (length part) 0 (λ none. omega arith), eq-eqb (length part) 48 last)

  -- a whole record
  module _ (left : ℕ) (octets : List ℕ) (is : length octets ≡ 49) (small : get_or octets 0 0 ≤ 1) (enough : 49 ≤ left) where
    first : length (take 48 octets) ≡ 48
    first = length-take-le 48 octets (omega arith)

    abbrev last : ℕ
    last = get_or octets 48 0

    parts_of_lem : octets ≡ take 48 octets ++ (last ∷ [])
    parts_of_lem = sym (take_all 49 octets (omega arith)) ∙ take-suc octets 48 0 (omega arith)

    starts : length {A = ℕ} [] ≡ 0 → get_or (take 48 octets) 0 0 ≤ 1
    starts none = rw (get_or-take 48 octets 0 0 (omega arith)) small

    before : after (among f left records []) (take 48 octets) ≡ among f (left - 48) records (take 48 octets)
    before = after_held left [] (take 48 octets) (omega (arith, first)) starts (omega (arith, first)) ∙ rw first

    ends : one (among f (left - 48) records (take 48 octets)) last
        ≡ record { taking = among f (left - 49) ((records + 1) % 2 ^ 64) []; parts = whole (front_of octets) ∷ [] }
    ends =
        let less : left - 48 - 1 ≡ left - 49 = omega arith in
        one_whole (left - 48) (take 48 octets) last (λ none. omega arith) first ∙ rw (less, ← parts_of_lem)

    pub after_whole : after (among f left records []) octets ≡ among f (left - 49) ((records + 1) % 2 ^ 64) []
    unfolding after
    after_whole =
        ap (after (among f left records [])) parts_of_lem
        ∙ after_joined (among f left records []) (take 48 octets) (last ∷ [])
        ∙ ap (λ (t : Taking). (one t last).taking) before
        ∙ ap (λ (t : Took). t.taking) ends

    pub handed_whole : handed (among f left records []) octets ≡ whole (front_of octets) ∷ []
    unfolding handed
    handed_whole =
        ap (handed (among f left records [])) parts_of_lem
        ∙ handed_joined (among f left records []) (take 48 octets) (last ∷ [])
        ∙ rw (handed_held left [] (take 48 octets) (omega (arith, first)) starts (omega (arith, first)), before, ends)

  -- faults among the records
  one_limit : (left : ℕ) (part : List ℕ) (x : ℕ) → left ≡ 0 → one (among f left records part) x ≡ faulty (among f left records part) 3 13
  unfolding one in_record
  one_limit left part x none = rw (eq-eqb left 0 none)

  one_above : (left : ℕ) (part : List ℕ) (x : ℕ) → (left ≡ 0 → ⊥) → length part ≡ 0 → 1 < x
      → one (among f left records part) x ≡ faulty (among f left records part) 3 11
  unfolding one in_record
  one_above left part x some none large = rw (ne_eqb left 0 some, eq-eqb (length part) 0 none, lt-ltb 1 x large)

-- what a step answers and leaves, against its octets one by one
pub record Follows (s : Standing) (held piece : List ℕ) (place : ℕ) (f : Found) (now : List ℕ) : Type 0 where
  pub state : after (taking_of s held) (drop place piece) ≡ after (taking_of f.standing now) (drop f.next piece)
  pub parts : handed (taking_of s held) (drop place piece)
      ≡ found_parts f now piece place ++ handed (taking_of f.standing now) (drop f.next piece)
  pub on : place < f.next
  pub within : f.next ≤ length piece
  pub size : length now ≡ 49

module _ (s : Standing) (held piece : List ℕ) (place : ℕ) (size : length held ≡ 49) (here : place < length piece) where
  abbrev t : Taking
  t = taking_of s held

  abbrev x : ℕ
  x = get_or piece place 0

  abbrev rest : List ℕ
  rest = drop (suc place) piece

  ahead : drop place piece ≡ x ∷ rest
  ahead = drop-cons piece place 0 here

  first_after : {w : Took} → one t x ≡ w → after t (drop place piece) ≡ after w.taking rest
  unfolding after
  first_after e = ap (after t) ahead ∙ ap (λ (u : Took). after u.taking rest) e

  first_handed : {w : Took} → one t x ≡ w → handed t (drop place piece) ≡ w.parts ++ handed w.taking rest
  unfolding handed
  first_handed e = ap (handed t) ahead ∙ ap (λ (u : Took). u.parts ++ handed u.taking rest) e

  module _ {f : Found} {now : List ℕ} (kept : length now ≡ 49)
      (e : one t x ≡ record { taking = taking_of f.standing now; parts = found_parts f now piece place })
    where
      by_one : f.next ≡ place + 1 → Follows s held piece place f now
      by_one past =
          let there : suc place ≡ f.next = omega arith in
          record {
            state = first_after e ∙ rw there;
            parts = first_handed e ∙ rw there;
            on = omega arith;
            within = omega arith;
            size = kept;
          }

      by_fault : f.next ≡ length piece → eqb f.standing.stage 0 ≡ false → eqb f.standing.stage 1 ≡ false
          → Follows s held piece place f now
      unfolding taking_of after handed
      by_fault past a b =
          let done : drop f.next piece ≡ [] = rw past (drop-length piece) in
          record {
            state = first_after e ∙ after_fault (taking_of f.standing now) a b rest ∙ rw done;
            parts = first_handed e ∙ rw (handed_fault (taking_of f.standing now) a b rest, done);
            on = omega arith;
            within = omega arith;
            size = kept;
          }

  behind : eqb s.stage 0 ≡ false → eqb s.stage 1 ≡ false
      → Follows s held piece place (record { what = 0; next = length piece; standing = s }) held
  unfolding taking_of found_parts after handed
  behind a b =
      record {
        state = after_fault t a b (drop place piece) ∙ rw (drop-length piece);
        parts = handed_fault t a b (drop place piece) ∙ rw (drop-length piece);
        on = here;
        within = omega arith;
        size = size;
      }

  put_more : (k : ℕ) → k < 49 → take k held ++ (x ∷ []) ≡ take (k + 1) (set held k x)
  put_more k h = sym (rw (add-one k) (take-suc-set held k x (omega arith)))

  put_size : (k : ℕ) → length (set held k x) ≡ 49
  put_size k = length-set held k x ∙ size

  -- in the header
  module _ (z : s.stage ≡ 0) where
    abbrev c : ℕ
    c = s.count % 9

    abbrev put : List ℕ
    put = set held c x

    put_length : (k : ℕ) → k ≤ 49 → length (take k put) ≡ k
    put_length k h = length-take-le k put (omega (arith, put_size c))

    reach : one t x ≡ in_header t (take (c + 1) put)
    unfolding one taking_of held_count
    reach =
        let e : eqb s.stage 0 ≡ true = eq-eqb s.stage 0 z in
        rw (e, put_more c (omega arith))

    took_header : c ≡ 2 → (header_of (take 3 put)).refusal ≡ 0
        → one t x ≡ record { taking = among s.fault (s.left - 3) s.records []; parts = head (header_of (take 3 put)) ∷ [] }
    unfolding in_header taking_of
    took_header two ok =
        let n : take (c + 1) put ≡ take 3 put = rw two in
        reach ∙ rw (n, eq-eqb (length (take 3 put)) 3 (put_length 3 (omega arith)), eq-eqb (header_of (take 3 put)).refusal 0 ok)

    took_refused : c ≡ 8 → one t x ≡ faulty t 2 (header_of (take 9 put)).refusal
    unfolding in_header
    took_refused eight =
        let n : take (c + 1) put ≡ take 9 put = rw eight in
        let l : length (take 9 put) ≡ 9 = put_length 9 (omega arith) in
        reach ∙ rw (n, ne_eqb (length (take 9 put)) 3 (λ three. omega arith), eq-eqb (length (take 9 put)) 9 l)

    took_more : eqb c 2 && eqb (header_of (take 3 put)).refusal 0 ≡ false → (c ≡ 8 → ⊥)
        → one t x ≡ quietly (record { stage = 0; fault = s.fault; left = s.left; records = s.records; part = take (c + 1) put })
    unfolding in_header taking_of
    took_more other not-nine =
        let l : length (take (c + 1) put) ≡ c + 1 = put_length (c + 1) (omega arith) in
        let n9 : eqb (length (take (c + 1) put)) 9 ≡ false = ne_eqb (length (take (c + 1) put)) 9 (λ nine. not-nine (omega arith)) in
        split (eqb c 2)
        (λ e.
        let two : c ≡ 2 = eqb-true c 2 e in
        let n : take (c + 1) put ≡ take 3 put = rw two in
        let r : eqb (header_of (take (c + 1) put)).refusal 0 ≡ false = rw n (rw e at other) in
        reach ∙ rw (eq-eqb (length (take (c + 1) put)) 3 (omega arith), r, n9))
        (λ e. reach ∙ rw (ne_eqb (length (take (c + 1) put)) 3 (λ three. eqb-false c 2 e (omega arith)), n9))

    in_header_lem : Follows s held piece place (header_found s put (place + 1) (length piece)) put
    unfolding header_found taking_of held_count found_parts
    in_header_lem =
        split (eqb c 2 && eqb (header_of (take 3 put)).refusal 0)
        (λ e.
        let both = both_true (eqb c 2) (eqb (header_of (take 3 put)).refusal 0) e in
        let two : c ≡ 2 = eqb-true c 2 both.0 in
        let ok : (header_of (take 3 put)).refusal ≡ 0 = eqb-true (header_of (take 3 put)).refusal 0 both.1 in
        rw e (by_one (put_size c) (took_header two ok) refl))
        (λ e.
        split (eqb c 8)
        (λ n. rw (e, n) (by_fault (put_size c) (took_refused (eqb-true c 8 n)) refl refl refl))
        (λ n.
        let not-nine : c ≡ 8 → ⊥ = eqb-false c 8 n in
        let low : (c + 1) % 9 ≡ c + 1 = omega (arith, not-nine) in
        rw (e, n) (by_one (put_size c) (rw low (took_more e not-nine)) refl)))

  -- among the records
  module _ (not-header : s.stage ≡ 0 → ⊥) (o : s.stage ≡ 1) where
    abbrev k : ℕ
    k = s.count % 49

    count_is : held_count s ≡ k
    unfolding held_count
    count_is = rw (ne_eqb s.stage 0 not-header)

    abbrev part : List ℕ
    part = take k held

    part_length : length part ≡ k
    part_length = length-take-le k held (omega arith)

    stands : t ≡ among s.fault s.left s.records part
    unfolding taking_of
    stands i = record { stage = o i; fault = s.fault; left = s.left; records = s.records; part = take (count_is i) held }

    at_limit : s.left ≡ 0 → Follows s held piece place (fault_found s 3 13 (length piece)) held
    unfolding taking_of held_count found_parts
    at_limit none =
        by_fault size (ap (λ (u : Taking). one u x) stands ∙ one_limit s.fault s.records s.left part x none) refl refl refl

    module _ (some : s.left ≡ 0 → ⊥) where
      begins_above_lem : k ≡ 0 → 1 < x → Follows s held piece place (fault_found s 3 11 (length piece)) held
      unfolding taking_of held_count found_parts
      begins_above_lem none large =
          by_fault size
          (ap (λ (u : Taking). one u x) stands ∙ one_above s.fault s.records s.left part x some (part_length ∙ none) large) refl refl refl

      module _ (small : k ≡ 0 → x ≤ 1) where
        abbrev stored : List ℕ
        stored = set held k x

        held_last : k ≡ 48 → part ++ (x ∷ []) ≡ stored
        held_last last =
            let n : k + 1 ≡ 49 = omega arith in
            put_more k (omega arith) ∙ rw n (take_all 49 stored (omega (arith, put_size k)))

        one_more : Follows s held piece place (record_found s (place + 1)) stored
        unfolding record_found taking_of held_count found_parts
        one_more =
            split (eqb k 48)
            (λ e.
            let last : k ≡ 48 = eqb-true k 48 e in
            rw e
            (by_one (put_size k)
            (ap (λ (u : Taking). one u x) stands
            ∙ one_whole s.fault s.records s.left part x some (part_length ∙ last)
            ∙ rw (held_last last))
            refl))
            (λ e.
            let short : k < 48 = omega (arith, eqb-false k 48 e) in
            let low : (k + 1) % 49 ≡ k + 1 = omega arith in
            rw e
            (by_one (put_size k)
            (ap (λ (u : Taking). one u x) stands
            ∙ one_held s.fault s.records s.left part x some (λ none. small (sym part_length ∙ none)) (omega (arith, part_length))
            ∙ rw (low, put_more k (omega arith)))
            refl))

      -- a record that lies whole in the piece
      module _ (none : k ≡ 0) (small : x ≤ 1) (long : 49 ≤ length piece - place) (enough : 49 ≤ s.left) where
        abbrev octets : List ℕ
        octets = take 49 (drop place piece)

        octets_length : length octets ≡ 49
        octets_length = length-take-le 49 (drop place piece) (omega (arith, length-drop place piece))

        octets_first : get_or octets 0 0 ≤ 1
        octets_first = rw (get_or-take 49 (drop place piece) 0 0 (omega arith), ahead) small

        nothing : part ≡ []
        nothing = rw none

        stands_empty : t ≡ among s.fault s.left s.records []
        stands_empty = stands ∙ rw nothing

        two_parts : drop place piece ≡ octets ++ drop (place + 49) piece
        two_parts = sym (take-append-drop 49 (drop place piece)) ∙ rw (drop-drop 49 place piece)

        whole_after : after t octets ≡ among s.fault (s.left - 49) ((s.records + 1) % 2 ^ 64) []
        whole_after =
            ap (λ (u : Taking). after u octets) stands_empty
            ∙ after_whole s.fault s.records s.left octets octets_length octets_first enough

        whole_handed : handed t octets ≡ whole (front_of octets) ∷ []
        whole_handed =
            ap (λ (u : Taking). handed u octets) stands_empty
            ∙ handed_whole s.fault s.records s.left octets octets_length octets_first enough

        lies_whole_lem : Follows s held piece place (whole_found s (place + 49)) held
        unfolding taking_of held_count found_parts
        lies_whole_lem =
            record {
              state = ap (after t) two_parts ∙ after_joined t octets (drop (place + 49) piece)
                  ∙ ap (λ (u : Taking). after u (drop (place + 49) piece)) whole_after;
              parts = ap (handed t) two_parts ∙ handed_joined t octets (drop (place + 49) piece) ∙ rw (whole_handed, whole_after);
              on = omega arith;
              within = omega arith;
              size = size;
            }

  pub follows : Follows s held piece place (next_of s held piece place) (held_now s held piece place)
  unfolding next_of held_now begins_above
  follows =
      let inside : leb (length piece) place ≡ false = lt-leb (length piece) place here in
      split (eqb s.stage 0)
      (λ a. rw (inside, a) (in_header_lem (eqb-true s.stage 0 a)))
      (λ a. split (eqb s.stage 1)
      (λ b.
      let not-header : s.stage ≡ 0 → ⊥ = eqb-false s.stage 0 a in
      let o : s.stage ≡ 1 = eqb-true s.stage 1 b in
      split (eqb s.left 0)
      (λ l. rw (inside, a, b, l) (at_limit not-header o (eqb-true s.left 0 l)))
      (λ l.
      let some : s.left ≡ 0 → ⊥ = eqb-false s.left 0 l in
      split (eqb (s.count % 49) 0)
      (λ z.
      let none : s.count % 49 ≡ 0 = eqb-true (s.count % 49) 0 z in
      split (ltb 1 x)
      (λ h. rw (inside, a, b, l, z, h) (begins_above_lem not-header o some none (ltb-true 1 x h)))
      (λ h.
      let small : x ≤ 1 = ltb-false 1 x h in
      split (lies_whole (s.count % 49) (length piece - place) s.left)
      (λ w.
      let facts = lies_facts (s.count % 49) (length piece - place) s.left w in
      rw (inside, a, b, l, z, h, w) (lies_whole_lem not-header o some none small facts.1 facts.2))
      (λ w. rw (inside, a, b, l, z, h, w) (one_more not-header o some (λ e. small)))))
      (λ z.
      let begun : s.count % 49 ≡ 0 → ⊥ = eqb-false (s.count % 49) 0 z in
      let w : lies_whole (s.count % 49) (length piece - place) s.left ≡ false = sym (lies_not (length piece - place) s.left begun) in
      rw (inside, a, b, l, z, w) (one_more not-header o some (λ e. absurd (begun e))))))
      (λ b. rw (inside, a, b) (behind a b)))

-- so does every answer that keeps the promise
pub step_follows : {s : Standing} {held piece : List ℕ} {place : ℕ} {f : Found} {now : List ℕ} → Steps s held piece place f now
    → length held ≡ 49 → place < length piece → Follows s held piece place f now
step_follows {s} {held} {piece} {place} step size here =
    rw (step.answered, step.left) (follows s held piece place size here)
