-- Laws of the two walks along a log's records: the invariants of their loops. Each says what is still to come, so that a turn
-- takes one record off it.
-- Assumes nothing.
use mathlib.Core.Bool.{Bool, true, false, cond, not}
use mathlib.Core.List.{List, [], ◌∷◌, ◌++◌, append_assoc, append-nil}
use mathlib.Core.Path.{◌≡◌, refl, sym, ◌∙◌, ap, ap₂, subst}
use Prim.Native.Nat.{ℕ, suc, ◌+◌, ◌*◌, ◌-◌, ◌≤◌, ◌<◌}
use native.Mathlib.Omega.{arith}
use borrow.Author.Tests.{eq-eqb, ne_eqb, le-ltb}
use lib.Dec.{eqb}
use lib.ListN.{length, take, drop, length-append, length-drop}
use lib.Seq.{length-take-le}
use Rattle.runs.specs.Runs.{written}
use Rattle.runs.proofs.Laws.{split}
use Rattle.cell_log.specs.Answers.{Record, Kept}
use Rattle.cell_log.specs.Records.{record_at, cell_at}
use Rattle.cell_log.specs.Written.{Keeps, record_refusal, record_octets}
use Rattle.cell_log.proofs.Places.{record_cases, cell_facts}
use Rattle.receiver.specs.declared.Receiver.{Receiver}
use Rattle.receiver.specs.declared.Received.{Received}
use Rattle.receiver.specs.Receiver.{judged_of}
use Rattle.reading.specs.Heard.{Heard, heard_by, hear, heard_from, is_sound, sound_in, refused_in, kept_of}
use Rattle.reading.specs.Records.{Whole, Walk, rest_in, octets_in}
use Rattle.reading.specs.Totals.{total_of, those}
use Rattle.reading.proofs.Places.{walk_at, stop_at}
use Rattle.saving.specs.declared.Standing.{Standing}
use Rattle.saving.specs.Code.{start_of, after_of, heard_at, all_of, Counts, put_octets, put_numbers, Fits, PutsOne, Room, Writes}
use Rattle.saving.specs.Salvage.{list_from}
use Rattle.saving.proofs.Writing.{written_none, written_on}

-- a record is sound or left out
one_each : (b : Bool) → cond b 1 0 + cond (not b) 1 0 ≡ 1
one_each true = refl
one_each false = refl

counts_one : (b : Bool) → b ≡ true → ◌≡◌ {A = ℕ} (cond b 1 0) 1
counts_one b e = rw e

counts_other : (b : Bool) → b ≡ false → ◌≡◌ {A = ℕ} (cond (not b) 1 0) 1
counts_other b e = rw e

-- the record here, and what is made of it
module _ (log : List ℕ) (here : Standing) where
  abbrev front : Whole
  front = record { indication = (record_at log here.place).indication; cell = cell_at log here.place }

  abbrev head : Heard
  head = hear here.state front

  abbrev past : Standing
  past = after_of here (here.place + 49) head.answer

  module _ (one : (record_at log here.place).what ≡ 1) where
    heard_turn : heard_at log here ≡ head ∷ heard_at log past
    unfolding heard_by after_of
    heard_turn = ap (λ (w : Walk). heard_from here.state w.records) (walk_at log here.place one)

    sound_turn : sound_in (heard_at log here) ≡ cond (is_sound head) 1 0 + sound_in (heard_at log past)
    unfolding total_of
    sound_turn = ap (λ (hs : List Heard). sound_in hs) heard_turn

    refused_turn : refused_in (heard_at log here) ≡ cond (not (is_sound head)) 1 0 + refused_in (heard_at log past)
    unfolding total_of
    refused_turn = ap (λ (hs : List Heard). refused_in hs) heard_turn

    rest_turn : rest_in (drop here.place log) ≡ rest_in (drop (here.place + 49) log)
    rest_turn = ap (λ (w : Walk). w.rest) (walk_at log here.place one)

    cell_long : length (cell_at log here.place) ≡ 48
    unfolding cell_at
    cell_long =
        record_cases log here.place (λ r. r.what ≡ 1 → length (take (r.what * 48) (drop r.start log)) ≡ 48)
        (λ h z. absurd (omega (arith, z))) (λ h l z. absurd (omega (arith, z))) (λ h l k z. absurd (omega (arith, z)))
        (λ l k z. length-take-le 48 (drop (here.place + 1) log) (omega (arith, k, length-drop (here.place + 1) log)))
        one

  got_is : {cell : List ℕ} {found : Record} {got : Received} → found ≡ record_at log here.place
      → cell ≡ cell_at log here.place
      → got ≡ judged_of here.state cell found.indication → got ≡ head.answer
  unfolding hear
  got_is f e g = g ∙ rw (f, e)

  module _ (none : (record_at log here.place).what ≡ 1 → ⊥) where
    heard_none : heard_at log here ≡ []
    unfolding heard_by
    heard_none = ap (λ (w : Walk). heard_from here.state w.records) (stop_at log here.place none)

    sound_none : sound_in (heard_at log here) ≡ 0
    unfolding total_of
    sound_none = ap (λ (hs : List Heard). sound_in hs) heard_none

    refused_none : refused_in (heard_at log here) ≡ 0
    unfolding total_of
    refused_none = ap (λ (hs : List Heard). refused_in hs) heard_none

    rest_none : rest_in (drop here.place log) ≡ drop here.place log
    rest_none = ap (λ (w : Walk). w.rest) (stop_at log here.place none)

-- along the records, in either walk
pub record Walking (log : List ℕ) (state : Receiver) (here : Standing) (found : Record) : Type 0 where
  pub read : found ≡ record_at log here.place
  pub within : here.place ≤ length log
  pub far : here.kept + here.left_out < here.place
  pub kept : here.kept + sound_in (heard_at log here) ≡ sound_in (all_of log state)
  pub left : here.left_out + refused_in (heard_at log here) ≡ refused_in (all_of log state)
  pub rest : rest_in (drop here.place log) ≡ rest_in (drop 3 log)

module _ (log : List ℕ) (state : Receiver) (long : 3 ≤ length log) where
  begun : {found : Record} → found ≡ record_at log 3 → Walking log state (start_of state) found
  begun f = record { read = f; within = long; far = omega arith; kept = omega arith; left = omega arith; rest = refl }

  pub walking_start : {here : Standing} {found : Record} → here ≡ start_of state → found ≡ record_at log here.place
      → Walking log state here found
  walking_start {found = found} e f =
      subst (λ (s : Standing). found ≡ record_at log s.place → Walking log state s found) (sym e) begun f

-- the state that a walk starts with
pub started : {state : Receiver} {first : Standing} → first ≡ start_of state → first.state ≡ state
started e = ap (λ (s : Standing). s.state) e

pub start_again : {state : Receiver} {first : Standing} → first ≡ start_of state → first ≡ start_of first.state
start_again e = e ∙ ap start_of (sym (started e))

pub room_again : {log : List ℕ} {state : Receiver} {first : Standing} {out list : ℕ} → first ≡ start_of state
    → Room log state out list
    → Room log first.state out list
room_again {log = log} {out = out} {list = list} e = subst (λ (st : Receiver). Room log st out list) (sym (started e))

module _ {log : List ℕ} {state : Receiver} {here : Standing} {found : Record} (w : Walking log state here found) where
  -- what is read there is one answer, however it is had
  pub seen : {found' : Record} → found' ≡ record_at log here.place → Walking log state here found'
  seen f = record { read = f; within = w.within; far = w.far; kept = w.kept; left = w.left; rest = w.rest }

  module _ (none : found.what ≡ 1 → ⊥) where
    pub none_here : (record_at log here.place).what ≡ 1 → ⊥
    none_here one = none (ap (λ (r : Record). r.what) w.read ∙ one)

    pub walking_end : Counts log state here
    walking_end =
        record {
          kept = omega (arith, w.kept, sound_none log here none_here);
          left = omega (arith, w.left, refused_none log here none_here);
          within = w.within;
          cut = sym (length-drop here.place log) ∙ ap length (sym (rest_none log here none_here) ∙ w.rest);
        }

    pub counted : {settled : Receiver} {first : Standing} → first ≡ start_of settled → state ≡ first.state
        → Counts log settled here
    counted e same = subst (λ (st : Receiver). Counts log st here) (same ∙ started e) walking_end

  module _ (one : found.what ≡ 1) where
    pub is_one : (record_at log here.place).what ≡ 1
    is_one = ap (λ (r : Record). r.what) (sym w.read) ∙ one

    facts : (here.place + 49 ≤ length log) × ((record_at log here.place).next ≡ here.place + 49)
    facts = cell_facts log here.place is_one

    next_is : found.next ≡ here.place + 49
    next_is = ap (λ (r : Record). r.next) w.read ∙ facts.1

    turned : {found' : Record} → found' ≡ record_at log (past log here).place → Walking log state (past log here) found'
    unfolding after_of
    turned f =
        record {
          read = f;
          within = facts.0;
          far = omega (arith, w.far, one_each (is_sound (head log here)));
          kept = omega (arith, w.kept, sound_turn log here is_one);
          left = omega (arith, w.left, refused_turn log here is_one);
          rest = sym (rest_turn log here is_one) ∙ w.rest;
        }

    pub walking_less : (got : Received) {here' : Standing} → here' ≡ after_of here found.next got
        → length log - here'.place < length log - here.place
    unfolding after_of
    walking_less got {here'} a =
        let place : here'.place ≡ found.next = ap (λ (s : Standing). s.place) a in omega (arith, facts.0, next_is)

    -- what the receiver answers to the record here
    module _ {cell : List ℕ} {got : Received} (e : cell ≡ cell_at log here.place) (g : got ≡ judged_of here.state cell found.indication) where
      pub answer_is : got ≡ (head log here).answer
      answer_is = got_is log here w.read e g

      pub past_is : {here' : Standing} → here' ≡ after_of here found.next got → here' ≡ past log here
      past_is a = a ∙ ap₂ (λ (n : ℕ) (r : Received). after_of here n r) next_is answer_is

      pub walking_turn : {here' : Standing} {found' : Record} → here' ≡ after_of here found.next got
          → found' ≡ record_at log here'.place → Walking log state here' found'
      walking_turn {found' = found'} a f =
          subst (λ (s : Standing). found' ≡ record_at log s.place → Walking log state s found') (sym (past_is a)) turned f

      -- there is room for it where records are written
      pub walking_fits : {out list : ℕ} → Room log state out list → Fits out list here got.refusal cell
      walking_fits room =
          record {
            framed = ap length e ∙ cell_long log here is_one;
            low = w.far;
            sound =
                λ z.
                let sound : is_sound (head log here) ≡ true =
                eq-eqb (head log here).answer.refusal 0 (sym (ap (λ (r : Received). r.refusal) answer_is) ∙ z) in
                omega (arith, room.out_room, w.kept, sound_turn log here is_one, counts_one (is_sound (head log here)) sound);
            refused =
                λ some.
                let refused : is_sound (head log here) ≡ false =
                ne_eqb (head log here).answer.refusal 0 (λ z. some (ap (λ (r : Received). r.refusal) answer_is ∙ z)) in
                omega (arith, room.list_room_lem, w.left, refused_turn log here is_one, counts_other (is_sound (head log here)) refused);
          }

-- what one record adds
octets_turn : (h : Heard) (hs : List Heard)
    → put_octets h.answer.refusal h.arrived.indication h.arrived.cell ++ octets_in (kept_of hs)
    ≡ octets_in (kept_of (h ∷ hs))
unfolding those octets_in
octets_turn h hs = split (eqb h.answer.refusal 0) (λ e. rw e) (λ e. rw e)

octets_long : (refusal : ℕ) (indication : Bool) (cell : List ℕ) → length cell ≡ 48
    → length (put_octets refusal indication cell) ≡ 49 * cond (eqb refusal 0) 1 0
octets_long refusal indication cell framed = split (eqb refusal 0) (λ e. rw e (omega (arith, framed))) (λ e. rw e (omega arith))

numbers_turn : (index : ℕ) (h : Heard) (hs : List Heard)
    → put_numbers h.answer.refusal index ++ list_from (suc index) hs ≡ list_from index (h ∷ hs)
unfolding list_from
numbers_turn index h hs = split (eqb h.answer.refusal 0) (λ e. rw e) (λ e. rw e)

numbers_long : (refusal index : ℕ) → length (put_numbers refusal index) ≡ 2 * cond (not (eqb refusal 0)) 1 0
numbers_long refusal index = split (eqb refusal 0) (λ e. rw e (omega arith)) (λ e. rw e (omega arith))

-- along the records where they are written: what is there so far, and what is still to come
pub record Putting (log : List ℕ) (state : Receiver) (out₀ list₀ : List ℕ) (here : Standing) (out list : List ℕ) : Type 0 where
  pub same_out : length out ≡ length out₀
  pub same_list : length list ≡ length list₀
  pub done : List ℕ
  pub noted : List ℕ
  pub out_is : out ≡ written out₀ 3 done
  pub list_is : list ≡ written list₀ 0 noted
  pub done_long : length done ≡ 49 * here.kept
  pub noted_long : length noted ≡ 2 * here.left_out
  pub done_rest : done ++ octets_in (kept_of (heard_at log here)) ≡ octets_in (kept_of (all_of log state))
  pub noted_rest : noted ++ list_from (here.kept + here.left_out) (heard_at log here) ≡ list_from 0 (all_of log state)

pub putting_start : (log : List ℕ) (state : Receiver) (out₀ list₀ : List ℕ) {here : Standing} → here ≡ start_of state
    → Putting log state out₀ list₀ here out₀ list₀
putting_start log state out₀ list₀ e = subst (λ (s : Standing). Putting log state out₀ list₀ s out₀ list₀) (sym e) at_start
  where
    at_start : Putting log state out₀ list₀ (start_of state) out₀ list₀
    at_start =
        record {
          same_out = refl;
          same_list = refl;
          done = [];
          noted = [];
          out_is = sym (written_none out₀ 3);
          list_is = sym (written_none list₀ 0);
          done_long = refl;
          noted_long = refl;
          done_rest = refl;
          noted_rest = refl;
        }

module _ {log : List ℕ} {state : Receiver} {out₀ list₀ : List ℕ} {here : Standing} {out list : List ℕ}
    (p : Putting log state out₀ list₀ here out list) where
  pub putting_room : Room log state (length out₀) (length list₀) → Room log state (length out) (length list)
  putting_room room =
      record {
        headed = room.headed;
        out_room = omega (arith, room.out_room, p.same_out);
        list_room_lem = omega (arith, room.list_room_lem, p.same_list);
      }

  module _ {found : Record} (w : Walking log state here found) where
    pub putting_end : (found.what ≡ 1 → ⊥) → Writes log state out₀ list₀ out list
    unfolding those octets_in list_from
    putting_end none =
        let empty : heard_at log here ≡ [] = heard_none log here (none_here w none) in
        let octets : p.done ≡ octets_in (kept_of (all_of log state)) =
        sym (append-nil p.done)
        ∙ ap (λ (hs : List Heard). p.done ++ octets_in (kept_of hs)) (sym empty)
        ∙ p.done_rest in
        let numbers : p.noted ≡ list_from 0 (all_of log state) =
        sym (append-nil p.noted)
        ∙ ap (λ (hs : List Heard). p.noted ++ list_from (here.kept + here.left_out) hs) (sym empty)
        ∙ p.noted_rest in
        record { out_after = p.out_is ∙ ap (written out₀ 3) octets; list_after = p.list_is ∙ ap (written list₀ 0) numbers }

    pub wrote : {settled : Receiver} {first : Standing} → first ≡ start_of settled → state ≡ first.state → (found.what ≡ 1 → ⊥)
        → Writes log settled out₀ list₀ out list
    wrote e same none = subst (λ (st : Receiver). Writes log st out₀ list₀ out list) (same ∙ started e) (putting_end none)

    module _ (one : found.what ≡ 1) (headed : 3 ≤ length out₀) where
      abbrev h : Heard
      h = head log here

      abbrev index : ℕ
      index = here.kept + here.left_out

      abbrev octets : List ℕ
      octets = put_octets h.answer.refusal (front log here).indication (front log here).cell

      abbrev numbers : List ℕ
      numbers = put_numbers h.answer.refusal index

      octets_rest : (p.done ++ octets) ++ octets_in (kept_of (heard_at log (past log here))) ≡ octets_in (kept_of (all_of log state))
      unfolding hear
      octets_rest =
          append_assoc p.done octets (octets_in (kept_of (heard_at log (past log here))))
          ∙ ap (λ (l : List ℕ). p.done ++ l)
          (octets_turn h (heard_at log (past log here))
          ∙ ap (λ (hs : List Heard). octets_in (kept_of hs)) (sym (heard_turn log here (is_one w one))))
          ∙ p.done_rest

      index_more : (past log here).kept + (past log here).left_out ≡ suc index
      unfolding after_of
      index_more = omega (arith, one_each (is_sound h))

      numbers_rest : (p.noted ++ numbers) ++ list_from ((past log here).kept + (past log here).left_out) (heard_at log (past log here))
          ≡ list_from 0 (all_of log state)
      numbers_rest =
          append_assoc p.noted numbers
          (list_from ((past log here).kept + (past log here).left_out) (heard_at log (past log here)))
          ∙ ap (λ (l : List ℕ). p.noted ++ l)
          (ap (λ (k : ℕ). numbers ++ list_from k (heard_at log (past log here))) index_more
          ∙ numbers_turn index h (heard_at log (past log here))
          ∙ ap (list_from index) (sym (heard_turn log here (is_one w one))))
          ∙ p.noted_rest

      module _ {out' list' : List ℕ} (puts : PutsOne out list here h.answer.refusal (front log here).indication
          (front log here).cell out' list')
          (same-out' : length out' ≡ length out) (same-list' : length list' ≡ length list)
        where
          put : Putting log state out₀ list₀ (past log here) out' list'
          unfolding after_of
          put =
              let at_out : 3 + 49 * here.kept ≡ 3 + length p.done = omega (arith, p.done_long) in
              let at-list : 2 * here.left_out ≡ 0 + length p.noted = omega (arith, p.noted_long) in
              let cell : length (front log here).cell ≡ 48 = cell_long log here (is_one w one) in
              record {
                same_out = same-out' ∙ p.same_out;
                same_list = same-list' ∙ p.same_list;
                done = p.done ++ octets;
                noted = p.noted ++ numbers;
                out_is =
                    puts.out_after
                    ∙ ap₂ (λ (l : List ℕ) (n : ℕ). written l n octets) p.out_is at_out
                    ∙ written_on out₀ 3 p.done octets headed;
                list_is =
                    puts.list_after
                    ∙ ap₂ (λ (l : List ℕ) (n : ℕ). written l n numbers) p.list_is at-list
                    ∙ written_on list₀ 0 p.noted numbers (omega arith);
                done_long =
                    length-append p.done octets
                    ∙ omega (arith, p.done_long, octets_long h.answer.refusal (front log here).indication (front log here).cell cell);
                noted_long =
                    length-append p.noted numbers ∙ omega (arith, p.noted_long, numbers_long h.answer.refusal index);
                done_rest = octets_rest;
                noted_rest = numbers_rest;
              }

      pub putting_turn : {cell : List ℕ} {got : Received} {here' : Standing} {out' list' : List ℕ}
          → cell ≡ cell_at log here.place
          → got ≡ judged_of here.state cell found.indication → here' ≡ after_of here found.next got
          → PutsOne out list here got.refusal found.indication cell out' list'
          → length out' ≡ length out → length list' ≡ length list
          → Putting log state out₀ list₀ here' out' list'
      putting_turn {cell} {got} {here'} {out'} {list'} e g a puts so sl =
          let answer : got ≡ h.answer = answer_is w one e g in
          let these : PutsOne out list here h.answer.refusal (front log here).indication (front log here).cell out' list' =
          record {
            out_after =
                puts.out_after
                ∙ ap (λ (r : Received). written out (3 + 49 * here.kept) (put_octets r.refusal found.indication cell)) answer
                ∙ ap₂ (λ (f : Record) (l : List ℕ). written out (3 + 49 * here.kept) (put_octets h.answer.refusal f.indication l)) w.read e;
            list_after =
                puts.list_after
                ∙ ap (λ (r : Received). written list (2 * here.left_out) (put_numbers r.refusal index)) answer;
          } in
          subst (λ (s : Standing). Putting log state out₀ list₀ s out' list') (sym (past_is w one e g a)) (put these so sl)

-- one record put where it belongs, as the code does it
module _ {out list : List ℕ} {here : Standing} {refusal : ℕ} {indication : Bool} {cell : List ℕ} where
  pub put_sound : {out' : List ℕ} {answer : Kept} → Fits (length out) (length list) here refusal cell → refusal ≡ 0
      → Keeps (record_refusal out (3 + 49 * here.kept) cell) (3 + 49 * here.kept) (record_octets indication cell) out answer out'
      → PutsOne out list here refusal indication cell out' list
  unfolding record_refusal
  put_sound fits z k =
      let none : record_refusal out (3 + 49 * here.kept) cell ≡ 0 =
      rw (eq-eqb (length cell) 48 fits.framed, le-ltb (length out) (3 + 49 * here.kept + 49) (fits.sound z)) in
      record {
        out_after =
            k.left
            ∙ ap (λ (n : ℕ). cond (eqb n 0) (written out (3 + 49 * here.kept) (record_octets indication cell)) out) none
            ∙ ap (λ (b : Bool). written out (3 + 49 * here.kept) (cond b (record_octets indication cell) []))
            (sym (eq-eqb refusal 0 z));
        list_after =
            sym (written_none list (2 * here.left_out))
            ∙ ap (λ (b : Bool). written list (2 * here.left_out) (cond b [] ((here.kept + here.left_out) ∷ refusal ∷ [])))
            (sym (eq-eqb refusal 0 z));
      }

  pub put_refused : {list' : List ℕ} → (refusal ≡ 0 → ⊥)
      → list' ≡ written list (2 * here.left_out) ((here.kept + here.left_out) ∷ refusal ∷ [])
      → PutsOne out list here refusal indication cell out list'
  put_refused some l =
      record {
        out_after =
            sym (written_none out (3 + 49 * here.kept))
            ∙ ap (λ (b : Bool). written out (3 + 49 * here.kept) (cond b (record_octets indication cell) []))
            (sym (ne_eqb refusal 0 some));
        list_after =
            l
            ∙ ap (λ (b : Bool). written list (2 * here.left_out) (cond b [] ((here.kept + here.left_out) ∷ refusal ∷ [])))
            (sym (ne_eqb refusal 0 some));
      }
