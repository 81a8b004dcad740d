-- Laws of a search through the parts of a log, and what any division of it comes to.
-- Assumes nothing.
use Rattle.std.proofs.Common.{◌≡◌, ℕ, ◌+◌, ◌-◌, ◌%◌, ◌^◌, ◌<◌, ◌≤◌, true, false, eqb, List, [], ◌∷◌, ◌++◌, map, length, sym, refl, ap, ◌∙◌, mod-eq_of_lt, arith, length-drop, take_all, eq-eqb, ne_eqb, eqb-true}
use borrow.Author.Tests.{eqb-false}
use Rattle.runs.proofs.Laws.{split}
use Rattle.cell_log.specs.Records.{header_of}
use Rattle.receiver.specs.declared.Receiver.{Receiver}
use Rattle.reading.specs.Heard.{heard_by, hear, onward, heard_from}
use Rattle.reading.specs.Reading.{fresh_of, behind_header}
use Rattle.reading.specs.Records.{Whole, records_in}
use Rattle.reading.proofs.Reading.{header_three}
use Rattle.reading.proofs.Records.{octets_counted}
use Rattle.pieces.specs.Found.{Found}
use Rattle.pieces.specs.declared.Standing.{Standing}
use Rattle.pieces.specs.Limit.{Part, whole, records_to, fault_to, end_part, parts_of}
use Rattle.pieces.specs.Steps.{taking_of, stood_of, Steps, found_parts, handed_over}
use Rattle.pieces.specs.Taken.{Taking, handed, end_fault, end_parts, joined_of}
use Rattle.pieces.proofs.Walks.{Along, along_start, along_turn, along_end, turn_on, division_parts}
use Rattle.presence.specs.declared.Search.{Search}
use Rattle.presence.specs.declared.Sought.{Sought}
use Rattle.presence.specs.declared.sounds.Said.{Said}
use Rattle.presence.specs.Presence.{sounds, said_of, presence_of}
use Rattle.presence.specs.Taking.{
  fresh_sought,
  past_heard,
  past_record,
  past_part,
  sought_of,
  told_by,
  no_sought,
  search_start,
  search_after,
  Takes,
  answer_at_end,
  answer_over,
}
use Rattle.presence.proofs.Laws.{answer_from, from_start, from_none, from_yes, from_next}
use Rattle.presence.proofs.Walks.{presence_refused, presence_taken}

-- past one record
module _ (t : Sought) (w : Whole) where
  pub past_found : t.found ≡ true → t ≡ past_record t w
  unfolding past_record
  past_found e = rw e

  module _ {said : Said} (none : t.found ≡ false) (is : said ≡ said_of t.state w.cell w.indication) where
    says : sounds (hear t.state w) ≡ said.sounds
    says = sym (ap (λ (s : Said). s.sounds) is)

    pub past_yes : said.sounds ≡ true
        → record { state = said.state; refusal = t.refusal; found = true; number = t.number } ≡ past_record t w
    unfolding past_record past_heard
    past_yes e =
        rw (none, says, e)
        (ap (λ (s : Receiver). record { state = s; refusal = t.refusal; found = true; number = t.number })
        (ap (λ (s : Said). s.state) is))

    pub past_no : {number : ℕ} → said.sounds ≡ false → number ≡ (t.number + 1) % 2 ^ 64
        → record { state = said.state; refusal = t.refusal; found = t.found; number = number } ≡ past_record t w
    unfolding past_record past_heard
    past_no e number_is =
        rw (none, says, e)
        (λ i. record { state = (is i).state; refusal = t.refusal; found = false; number = number_is i })

-- parts one after the other
pub sought_joined : (t : Sought) (a b : List Part) → sought_of t (a ++ b) ≡ sought_of (sought_of t a) b
unfolding sought_of
sought_joined t [] b = refl
sought_joined t (p ∷ a) b = sought_joined (past_part t p) a b

-- past one part, and past none
module _ (t : Sought) {parts : List Part} where
  pub past_one : {r : Sought} {p : Part} → parts ≡ p ∷ [] → r ≡ past_part t p → r ≡ sought_of t parts
  unfolding sought_of
  past_one is e = e ∙ ap (sought_of t) (sym is)

  pub past_none : parts ≡ [] → t ≡ sought_of t parts
  unfolding sought_of
  past_none is = ap (sought_of t) (sym is)

-- along a piece: the parts so far, and what is known behind them
pub record Going (from : Standing) (first : Sought) (lent piece : List ℕ) (s : Standing) (t : Sought) (held : List ℕ)
    (place : ℕ) : Type 0 where
  pub parts : List Part
  pub along : Along from lent piece place s held parts
  pub knows : t ≡ sought_of first parts

module _ {from : Standing} {first : Sought} {lent piece : List ℕ} where
  pub going_start : length lent ≡ 49 → Going from first lent piece from first lent 0
  unfolding sought_of
  going_start size = record { parts = []; along = along_start from lent piece size; knows = refl }

  module _ {s : Standing} {t : Sought} {held now : List ℕ} {place : ℕ} {f : Found}
      (g : Going from first lent piece s t held place)
      (here : place < length piece) (step : Steps s held piece place f now)
    where
      pub going_turn : {next : Sought} → next ≡ sought_of t (found_parts f now piece place)
          → Going from first lent piece f.standing next now f.next
      going_turn e =
          let found : List Part = found_parts f now piece place in
          record {
            parts = g.parts ++ found;
            along = along_turn g.along here step;
            knows = e ∙ ap (λ (u : Sought). sought_of u found) g.knows ∙ sym (sought_joined first g.parts found);
          }

      pub going_on : (place < f.next) × (f.next ≤ length piece)
      going_on = turn_on g.along here step

  pub going_end : {s : Standing} {t : Sought} {held : List ℕ} {place : ℕ} → Going from first lent piece s t held place
      → length piece ≤ place
      → Takes (record { standing = from; sought = first }) lent piece (record { standing = s; sought = t }) held
  going_end g end =
      let ends = along_end g.along end in
      record {
        goes_on = λ i. record { standing = (ends.0 i).standing; sought = (g.knows ∙ ap (sought_of first) ends.1) i };
        holds = λ i. (ends.0 i).held;
      }

-- what stops the records leaves what is known
stop_leaves : (t : Sought) (fault : ℕ) → sought_of t (end_part fault) ≡ t
unfolding end_part sought_of past_part
stop_leaves t fault = split (eqb fault 0) (λ e. rw e) (λ e. rw e)

-- at the log's end
module _ (s : Search) (held : List ℕ) where
  abbrev k : Taking
  k = taking_of s.standing held

  pub ends_in_header : {refusal : ℕ} → refusal ≡ end_fault k → s.standing.stage ≡ 0
      → record { refusal = refusal; found = s.sought.found; number = s.sought.number } ≡ answer_at_end s held
  unfolding end_fault end_parts taking_of sought_of past_part
  ends_in_header {refusal} e z =
      let same : refusal ≡ (header_of k.part).refusal = e ∙ rw (eq-eqb s.standing.stage 0 z) in
      rw (eq-eqb s.standing.stage 0 z)
      (ap (λ (r : ℕ). record { refusal = r; found = s.sought.found; number = s.sought.number }) same)

  pub ends_past_header : (s.standing.stage ≡ 0 → ⊥) → told_by s.sought ≡ answer_at_end s held
  unfolding end_parts taking_of sought_of
  ends_past_header not-0 =
      split (eqb s.standing.stage 1)
      (λ e. rw (ne_eqb s.standing.stage 0 not-0, e) (ap told_by (sym (stop_leaves s.sought _))))
      (λ e. rw (ne_eqb s.standing.stage 0 not-0, e))

-- past a yes nothing changes
found_stays : (st : Receiver) (n : ℕ) (ws : List Whole) (fault : ℕ)
    → sought_of (record { state = st; refusal = 0; found = true; number = n }) (map whole ws ++ end_part fault)
    ≡ record { state = st; refusal = 0; found = true; number = n }
unfolding sought_of past_part past_record
found_stays st n [] fault = stop_leaves (record { state = st; refusal = 0; found = true; number = n }) fault
found_stays st n (w ∷ ws) fault = found_stays st n ws fault

-- past a record that says yes, and past one that doesn't
module _ (st : Receiver) (n : ℕ) (w : Whole) where
  past_here : sounds (hear st w) ≡ true
      → past_heard (record { state = st; refusal = 0; found = false; number = n }) (hear st w)
      ≡ record { state = onward (hear st w); refusal = 0; found = true; number = n }
  unfolding past_heard
  past_here e = rw e

  past_on : sounds (hear st w) ≡ false → n + 1 < 2 ^ 64
      → past_heard (record { state = st; refusal = 0; found = false; number = n }) (hear st w)
      ≡ record { state = onward (hear st w); refusal = 0; found = false; number = n + 1 }
  unfolding past_heard
  past_on e few = rw (e, mod-eq_of_lt few)

-- records, from any state and number on
sought_records : (st : Receiver) (n : ℕ) (ws : List Whole) (fault : ℕ) → n + length ws < 2 ^ 64
    → told_by (sought_of (record { state = st; refusal = 0; found = false; number = n }) (map whole ws ++ end_part fault))
    ≡ answer_from n (heard_from st ws)
unfolding sought_of past_part past_record heard_by
sought_records st n [] fault few =
    ap told_by (stop_leaves (record { state = st; refusal = 0; found = false; number = n }) fault) ∙ sym (from_none n)
sought_records st n (w ∷ ws) fault few =
    split (sounds (hear st w))
    (λ e.
    ap (λ (u : Sought). told_by (sought_of u (map whole ws ++ end_part fault))) (past_here st n w e)
    ∙ ap told_by (found_stays (onward (hear st w)) n ws fault)
    ∙ sym (from_yes n (hear st w) (heard_from (onward (hear st w)) ws) e))
    (λ e.
    ap (λ (u : Sought). told_by (sought_of u (map whole ws ++ end_part fault))) (past_on st n w e (omega arith))
    ∙ sought_records (onward (hear st w)) (n + 1) ws fault (omega arith)
    ∙ sym (from_next n (hear st w) (heard_from (onward (hear st w)) ws) e))

-- of a whole log that the limit doesn't cut
module _ (limit : ℕ) (log : List ℕ) (to : limit < 2 ^ 64) (within : length log ≤ limit) where
  all_records : (header_of log).refusal ≡ 0 → records_to (limit - 3) (behind_header log) ≡ records_in (behind_header log)
  unfolding records_to
  all_records none =
      let three : (header_of log).place ≡ 3 = header_three log none in
      ap records_in
      (take_all (limit - 3) (behind_header log) (omega (arith, length-drop (header_of log).place log, three, within)))

  few_records : length (records_in (behind_header log)) ≤ limit
  few_records = omega (arith, octets_counted (behind_header log), length-drop (header_of log).place log, within)

  told_whole : told_by (sought_of no_sought (parts_of limit log)) ≡ presence_of log
  unfolding parts_of sought_of past_part
  told_whole =
      split (eqb (header_of log).refusal 0)
      (λ e.
      let none : (header_of log).refusal ≡ 0 = eqb-true (header_of log).refusal 0 e in
      let fault : ℕ = fault_to (limit - 3) (behind_header log) in
      rw e
      (ap (λ (ws : List Whole). told_by (sought_of (fresh_sought (header_of log)) (map whole ws ++ end_part fault))) (all_records none)
      ∙ sought_records (fresh_of (header_of log)) 0 (records_in (behind_header log)) fault (omega (arith, few_records, to))
      ∙ sym (from_start (heard_from (fresh_of (header_of log)) (records_in (behind_header log))))
      ∙ sym (presence_taken log none)))
      (λ e. rw e (sym (presence_refused log (eqb-false (header_of log).refusal 0 e))))

-- over pieces the answer is that of what they hand out
over_parts : (s : Search) (held : List ℕ) (ps : List (List ℕ))
    → answer_over s held ps ≡ told_by (sought_of s.sought (handed_over s.standing held ps))
unfolding answer_over handed_over
over_parts s held [] = refl
over_parts s held (p ∷ ps) =
    over_parts (search_after s held p) (stood_of s.standing held p).held ps
    ∙ ap told_by (sym (sought_joined s.sought (handed (taking_of s.standing held) p)
    (handed_over (stood_of s.standing held p).standing (stood_of s.standing held p).held ps)))

-- however a log of up to 18,446,744,073,709,551,615 octets is divided among the reads, the answer is that of the whole log
pub any_division_answer : (held : List ℕ) (ps : List (List ℕ)) → length held ≡ 49 → length (joined_of ps) ≤ 18446744073709551615
    → answer_over search_start held ps ≡ presence_of (joined_of ps)
any_division_answer held ps size within =
    over_parts search_start held ps
    ∙ ap (λ (parts : List Part). told_by (sought_of no_sought parts)) (division_parts 18446744073709551615 held ps size)
    ∙ told_whole 18446744073709551615 (joined_of ps) (omega arith) within
