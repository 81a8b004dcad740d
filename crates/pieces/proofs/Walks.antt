-- Laws of a walk along a piece, for those who go along it: what was handed out so far, and what is still to come.
-- Assumes nothing.
use Rattle.std.proofs.Common.{◌≡◌, ℕ, zero, suc, ◌+◌, ◌-◌, ◌%◌, ◌<◌, ◌≤◌, true, false, ◌&&◌, eqb, ltb, leb, List, [], ◌∷◌, ◌++◌, length, get_or, take, drop, set, sym, refl, ap, ◌∙◌, append_assoc, append-nil, arith, drop_of_length-le, ltb-false, ltb-true, le-ltb, lt-ltb, eq-eqb, ne_eqb, eqb-true, le-leb}
use Rattle.runs.proofs.Laws.{split, neither}
use Rattle.cell_log.specs.Records.{header_of}
use Rattle.reading.specs.Records.{front_of}
use Rattle.pieces.specs.Found.{Found}
use Rattle.pieces.specs.declared.Standing.{Standing}
use Rattle.pieces.specs.Limit.{Part, whole, parts_of}
use Rattle.pieces.specs.Steps.{
  start_of,
  held_count,
  taking_of,
  header_found,
  record_found,
  lies_whole,
  begins_above,
  next_of,
  held_now,
  Steps,
  found_parts,
  is_record,
  in_piece,
  found_octets,
  steps_from,
  stood_of,
  handed_over,
  stood_over,
}
use Rattle.pieces.specs.Taken.{Taking, fresh_taking, after, handed, joined_of, after_all, handed_all}
use Rattle.pieces.proofs.Division.{any_division, any_division_state}
use Rattle.pieces.proofs.Laws.{lies_facts}
use Rattle.pieces.proofs.Octets.{follows, step_follows}

-- steps enough for all octets are enough
enough : (m n : ℕ) (s : Standing) (held piece : List ℕ) (place : ℕ) → length held ≡ 49
    → length piece - place ≤ m → length piece - place ≤ n → steps_from m s held piece place ≡ steps_from n s held piece place
unfolding steps_from
enough zero zero s held piece place size a b = refl
enough zero (suc n) s held piece place size a b = rw (le-ltb place (length piece) (omega arith))
enough (suc m) zero s held piece place size a b = rw (le-ltb place (length piece) (omega arith))
enough (suc m) (suc n) s held piece place size a b =
    split (ltb place (length piece))
    (λ e.
    let f = follows s held piece place size (ltb-true place (length piece) e) in
    rw e
    (enough m n (next_of s held piece place).standing (held_now s held piece place) piece (next_of s held piece place).next f.size
    (omega (arith, f.on, f.within)) (omega (arith, f.on, f.within))))
    (λ e. rw e)

module _ {s : Standing} {held piece : List ℕ} {place : ℕ} {f : Found} {now : List ℕ} (step : Steps s held piece place f now)
    (size : length held ≡ 49) (here : place < length piece)
  where
    -- one step more
    step_on_lem : steps_from (length piece - place) s held piece place ≡ steps_from (length piece - f.next) f.standing now piece f.next
    unfolding steps_from
    step_on_lem =
        let facts = step_follows step size here in
        let some : length piece - place ≡ suc (length piece - place - 1) = omega arith in
        ap (λ (n : ℕ). steps_from n s held piece place) some
        ∙ rw (lt-ltb place (length piece) here, ← step.answered, ← step.left)
        (enough (length piece - place - 1) (length piece - f.next) f.standing now piece f.next facts.size
        (omega (arith, facts.on, facts.within)) (omega arith))

-- steps along what is left of a piece are its octets one by one
steps_state : (n : ℕ) (s : Standing) (held piece : List ℕ) (place : ℕ) → length held ≡ 49 → length piece - place ≤ n
    → (taking_of (steps_from n s held piece place).standing (steps_from n s held piece place).held ≡ after (taking_of s held) (drop place piece))
    × (length (steps_from n s held piece place).held ≡ 49)
unfolding steps_from after
steps_state zero s held piece place size a = rw (drop_of_length-le piece {i = place} (omega arith)) (refl, size)
steps_state (suc n) s held piece place size a =
    split (ltb place (length piece))
    (λ e.
    let f = follows s held piece place size (ltb-true place (length piece) e) in
    let more = steps_state n (next_of s held piece place).standing (held_now s held piece place) piece (next_of s held piece place).next
    f.size (omega (arith, f.on, f.within)) in
    rw e (more.0 ∙ sym f.state, more.1))
    (λ e. rw (e, drop_of_length-le piece {i = place} (ltb-false place (length piece) e)) (refl, size))

module _ (s : Standing) (held piece : List ℕ) (size : length held ≡ 49) where
  pub stood_state : taking_of (stood_of s held piece).standing (stood_of s held piece).held ≡ after (taking_of s held) piece
  unfolding stood_of
  stood_state = (steps_state (length piece) s held piece 0 size (omega arith)).0

  pub stood_size : length (stood_of s held piece).held ≡ 49
  unfolding stood_of
  stood_size = (steps_state (length piece) s held piece 0 size (omega arith)).1

-- a walk along a piece: where it stands, and what was handed out so far
pub record Along (from : Standing) (lent piece : List ℕ) (place : ℕ) (s : Standing) (held : List ℕ) (done : List Part) : Type 0 where
  pub within : place ≤ length piece
  pub size : length held ≡ 49
  pub stands : steps_from (length piece - place) s held piece place ≡ stood_of from lent piece
  pub parts : done ++ handed (taking_of s held) (drop place piece) ≡ handed (taking_of from lent) piece

pub along_start : (s : Standing) (held piece : List ℕ) → length held ≡ 49 → Along s held piece 0 s held []
unfolding stood_of
along_start s held piece size =
    let all : length piece - 0 ≡ length piece = omega arith in
    record { within = omega arith; size = size; stands = rw all; parts = refl }

pub along_turn : {from s : Standing} {lent held piece : List ℕ} {place : ℕ} {done : List Part} {f : Found} {now : List ℕ}
    → Along from lent piece place s held done → place < length piece → Steps s held piece place f now
    → Along from lent piece f.next f.standing now (done ++ found_parts f now piece place)
along_turn {from} {s} {lent} {held} {piece} {place} {done} {f} {now} a here step =
    let facts = step_follows step a.size here in
    record {
      within = facts.within;
      size = facts.size;
      stands = sym (step_on_lem step a.size here) ∙ a.stands;
      parts = append_assoc done (found_parts f now piece place) (handed (taking_of f.standing now) (drop f.next piece))
          ∙ ap (λ (l : List Part). done ++ l) (sym facts.parts)
          ∙ a.parts;
    }

-- a step goes on within the piece
pub turn_on : {from s : Standing} {lent held piece : List ℕ} {place : ℕ} {done : List Part} {f : Found} {now : List ℕ}
    → Along from lent piece place s held done → place < length piece → Steps s held piece place f now
    → (place < f.next) × (f.next ≤ length piece)
turn_on a here step = let facts = step_follows step a.size here in (facts.on, facts.within)

pub along_end : {from s : Standing} {lent held piece : List ℕ} {place : ℕ} {done : List Part} → Along from lent piece place s held done
    → length piece ≤ place → (record { standing = s; held = held } ≡ stood_of from lent piece) × (done ≡ handed (taking_of from lent) piece)
unfolding steps_from handed
along_end {piece = piece} {place = place} {done = done} a end =
    let none : length piece - place ≡ 0 = omega arith in
    (rw none at a.stands, sym (append-nil done) ∙ rw (drop_of_length-le piece {i = place} end) at a.parts)

-- over pieces, each taken where the one before it left off
over_is : (s : Standing) (held : List ℕ) (pieces : List (List ℕ)) → length held ≡ 49 → handed_over s held pieces ≡ handed_all (taking_of s held) pieces
unfolding handed_over handed_all
over_is s held [] size = refl
over_is s held (p ∷ pieces) size =
    ap (λ (l : List Part). handed (taking_of s held) p ++ l)
    (over_is (stood_of s held p).standing (stood_of s held p).held pieces (stood_size s held p size)
    ∙ ap (λ (t : Taking). handed_all t pieces) (stood_state s held p size))

stood_is : (s : Standing) (held : List ℕ) (pieces : List (List ℕ)) → length held ≡ 49
    → taking_of (stood_over s held pieces).standing (stood_over s held pieces).held ≡ after_all (taking_of s held) pieces
unfolding stood_over after_all
stood_is s held [] size = refl
stood_is s held (p ∷ pieces) size =
    stood_is (stood_of s held p).standing (stood_of s held p).held pieces (stood_size s held p size)
    ∙ ap (λ (t : Taking). after_all t pieces) (stood_state s held p size)

fresh_is : (limit : ℕ) (held : List ℕ) → taking_of (start_of limit) held ≡ fresh_taking limit
unfolding taking_of held_count
fresh_is limit held = refl

-- "However the log is divided among the reads": what is handed out is the parts of the joined log, and the standing at the end, with
-- the octets held, is that of the joined log in one piece
module _ (limit : ℕ) (held : List ℕ) (pieces : List (List ℕ)) (size : length held ≡ 49) where
  pub division_parts : handed_over (start_of limit) held pieces ≡ parts_of limit (joined_of pieces)
  division_parts =
      over_is (start_of limit) held pieces size
      ∙ ap (λ (t : Taking). handed_all t pieces) (fresh_is limit held)
      ∙ any_division limit pieces

  pub division_state : taking_of (stood_over (start_of limit) held pieces).standing (stood_over (start_of limit) held pieces).held
      ≡ taking_of (stood_of (start_of limit) held (joined_of pieces)).standing (stood_of (start_of limit) held (joined_of pieces)).held
  division_state =
      stood_is (start_of limit) held pieces size
      ∙ any_division_state (taking_of (start_of limit) held) pieces
      ∙ sym (stood_state (start_of limit) held (joined_of pieces) size)

-- a record that is found in a piece begins and lies in it, within the limit
pub record Lies (s : Standing) (piece : List ℕ) (place : ℕ) : Type 0 where
  pub stage_1 : s.stage ≡ 1
  pub begins : s.count % 49 ≡ 0
  pub low : get_or piece place 0 ≤ 1
  pub fits : place + 49 ≤ length piece
  pub within : 49 ≤ s.left

not_above : (count octet : ℕ) → count ≡ 0 → begins_above count octet ≡ false → octet ≤ 1
unfolding begins_above
not_above count octet none e = ltb-false 1 octet (rw (eq-eqb count 0 none) at e)

lies : (s : Standing) (held piece : List ℕ) (place : ℕ) → (next_of s held piece place).what ≡ 2 → Lies s piece place
unfolding next_of header_found record_found
lies s held piece place =
    split (leb (length piece) place)
    (λ a. rw a (λ e. absurd (omega (arith, e))))
    (λ a.
    split (eqb s.stage 0)
    (λ b.
    let put : List ℕ = set held (s.count % 9) (get_or piece place 0) in
    split (eqb (s.count % 9) 2 && eqb (header_of (take 3 put)).refusal 0)
    (λ c. rw (a, b, c) (λ e. absurd (omega (arith, e))))
    (λ c. split (eqb (s.count % 9) 8)
    (λ d. rw (a, b, c, d) (λ e. absurd (omega (arith, e))))
    (λ d. rw (a, b, c, d) (λ e. absurd (omega (arith, e))))))
    (λ b.
    split (eqb s.stage 1)
    (λ o.
    split (eqb s.left 0)
    (λ l. rw (a, b, o, l) (λ e. absurd (omega (arith, e))))
    (λ l.
    split (begins_above (s.count % 49) (get_or piece place 0))
    (λ g. rw (a, b, o, l, g) (λ e. absurd (omega (arith, e))))
    (λ g.
    split (lies_whole (s.count % 49) (length piece - place) s.left)
    (λ w.
    let facts = lies_facts (s.count % 49) (length piece - place) s.left w in
    let found : Lies s piece place =
    record {
      stage_1 = eqb-true s.stage 1 o;
      begins = facts.0;
      low = not_above (s.count % 49) (get_or piece place 0) facts.0 g;
      fits = omega (arith, facts.1);
      within = facts.2;
    } in
    rw (a, b, o, l, g, w) (λ e. found))
    (λ w.
    split (eqb (s.count % 49) 48)
    (λ d. rw (a, b, o, l, g, w, d) (λ e. absurd (omega (arith, e))))
    (λ d. rw (a, b, o, l, g, w, d) (λ e. absurd (omega (arith, e))))))))
    (λ o. rw (a, b, o) (λ e. absurd (omega (arith, e))))))

pub found_lies : {s : Standing} {held piece : List ℕ} {place : ℕ} {f : Found} {now : List ℕ} → Steps s held piece place f now
    → f.what ≡ 2 → Lies s piece place
found_lies {s} {held} {piece} {place} step two =
    lies s held piece place (ap (λ (f : Found). f.what) (sym step.answered) ∙ two)

pub found_room : {s : Standing} {held piece : List ℕ} {place : ℕ} {f : Found} {now : List ℕ} → Steps s held piece place f now
    → f.what ≡ 2 → place + 49 ≤ length piece
found_room step two = (found_lies step two).fits

-- what was found is a record: its octets tell it
pub found_record : (f : Found) (held piece : List ℕ) (place : ℕ) → (f.what ≡ 2 → place + 49 ≤ length piece)
    → is_record f.what ≡ true
    → found_parts f held piece place ≡ whole (front_of (found_octets f.what held piece place)) ∷ []
unfolding found_parts is_record found_octets in_piece
found_record f held piece place room is =
    split (eqb f.what 2)
    (λ t.
    let two : f.what ≡ 2 = eqb-true f.what 2 t in
    let not-1 : eqb f.what 1 ≡ false = ne_eqb f.what 1 (λ one. omega (arith, one, two)) in
    rw (not-1, t, le-leb (place + 49) (length piece) (room two)))
    (λ t.
    let three : f.what ≡ 3 = eqb-true f.what 3 (rw t at is) in
    let not-1 : eqb f.what 1 ≡ false = ne_eqb f.what 1 (λ one. omega (arith, one, three)) in
    rw (not-1, t, eq-eqb f.what 3 three))

-- and where it is none
pub no_record : (what : ℕ) → is_record what ≡ false → (eqb what 2 ≡ false) × (eqb what 3 ≡ false)
unfolding is_record
no_record what none = let each = neither (eqb what 2) (eqb what 3) none in (each.0, each.1)
