-- Laws of the walk along a log's records: what the loop keeps, and where it ends.
-- Assumes nothing.
use mathlib.Core.List.{List, [], ◌∷◌, ◌++◌, append_assoc, append-nil, flat_map}
use mathlib.Core.Path.{◌≡◌, refl, sym, ◌∙◌, ap, ap₂}
use Prim.Native.Nat.{ℕ, ◌+◌, ◌*◌, ◌/◌, ◌≤◌, ◌<◌, ◌-◌}
use native.Mathlib.Omega.{arith}
use lib.ListN.{length, take, drop, length-append}
use lib.Seq.{take_at, take_all, drop-append-add, drop-drop}
use Rattle.runs.specs.Runs.{over, written}
use Rattle.cell_log.specs.Answers.{Record}
use Rattle.cell_log.specs.Records.{record_at, cell_at}
use Rattle.cell_log.proofs.Places.{record_cases}
use Rattle.receiver.specs.declared.Receiver.{Receiver}
use Rattle.receiver.specs.declared.Received.{Received}
use Rattle.receiver.specs.Receiver.{judged_of}
use Rattle.reading.specs.Heard.{Heard, heard_by, end_by, hear, heard_from, end_of, onward}
use Rattle.reading.specs.Records.{Walk}
use Rattle.reading.proofs.Heard.{end_joined}
use Rattle.reading.proofs.Places.{walk_at, stop_at}
use Rattle.hearing.specs.Code.{ended_as}
use Rattle.hearing.specs.Judging.{report_of, reports_of, stop_of, all_from, judged_in, judged_to, JudgesOn}
use Rattle.hearing.specs.declared.judging.Judged.{Judged}

-- entries behind those that were written from the start
pub over_on : (a b run : List ℕ) → written (over a run) (length a) b ≡ over (a ++ b) run
unfolding over
over_on a b run =
    let behind = drop (length a) run in
    let past : drop (length a + length b) (a ++ behind) ≡ drop (length (a ++ b)) run =
    drop-append-add a behind (length b) ∙ drop-drop (length b) (length a) run ∙ ap (λ (n : ℕ). drop n run) (sym (length-append a b)) in
    ap₂ (λ (x y : List ℕ). x ++ b ++ y) (take_at a behind (length a) refl) past

-- entries copied into a part of a run
pub copied : (run : List ℕ) (at : ℕ) (vs : List ℕ) {n : ℕ} {part : List ℕ} → n ≡ length vs → part ≡ vs
    → take at run ++ (part ++ drop n (drop at run)) ≡ written run at vs
copied run at vs {n} {part} is e =
    sym (append_assoc (take at run) part (drop n (drop at run)))
    ∙ ap₂ (λ (p rest : List ℕ). take at run ++ p ++ rest) e (drop-drop n at run ∙ ap (λ (k : ℕ). drop (at + k) run) is)

-- room for one record more
pub room_for_five : (run run₀ : List ℕ) {n : ℕ} → length run ≡ length run₀ → n < length run₀ / 5 → 5 * n + 5 ≤ length run
room_for_five run run₀ same h = omega (arith, same)

-- the octets of one record more
pub reports_more : (done : List Heard) (h : Heard) → reports_of (done ++ (h ∷ [])) ≡ reports_of done ++ report_of h.answer
unfolding flat_map
reports_more [] h = append-nil (report_of h.answer)
reports_more (x ∷ xs) h =
    ap (λ (l : List ℕ). report_of x.answer ++ l) (reports_more xs h) ∙ sym (append_assoc (report_of x.answer) (reports_of xs) (report_of h.answer))

pub length_reports : (done : List Heard) → length (reports_of done) ≡ 5 * length done
unfolding flat_map report_of
length_reports [] = refl
length_reports (x ∷ xs) = length-append (report_of x.answer) (reports_of xs) ∙ omega (arith, length_reports xs)

length_more : {A : Type 0} (xs : List A) (x : A) → length (xs ++ (x ∷ [])) ≡ length xs + 1
length_more xs x = length-append xs (x ∷ [])

module _ (st : Receiver) (log : List ℕ) (place : ℕ) (reports₀ : List ℕ) where
  -- so many records are judged, and the others are still to come
  pub record Standing (now : Receiver) (at records : ℕ) (reports : List ℕ) (found : Record) : Type 0 where
    pub done : List Heard
    pub all : all_from st log place ≡ done ++ all_from now log at
    pub state : now ≡ end_of st done
    pub count : records ≡ length done
    pub place_is : at ≡ place + 49 * records
    pub within : records ≤ length reports₀ / 5
    pub out : reports ≡ over (reports_of done) reports₀
    pub same : length reports ≡ length reports₀
    pub read : found ≡ record_at log at

  pub begun : {found : Record} → found ≡ record_at log place → Standing st place 0 reports₀ found
  unfolding over flat_map end_by
  begun f =
      record {
        done = [];
        all = refl;
        state = refl;
        count = refl;
        place_is = omega arith;
        within = omega arith;
        out = refl;
        same = refl;
        read = f;
      }

  module _ {now : Receiver} {at records : ℕ} {reports : List ℕ} {found : Record} (s : Standing now at records reports found) where
    -- what is read there is one answer, however it is had
    pub seen : {found' : Record} → found' ≡ record_at log at → Standing now at records reports found'
    seen f =
        record {
          done = s.done;
          all = s.all;
          state = s.state;
          count = s.count;
          place_is = s.place_is;
          within = s.within;
          out = s.out;
          same = s.same;
          read = f;
        }

    there : found.what ≡ 1 → (record_at log at).what ≡ 1
    there one = ap (λ (r : Record). r.what) (sym s.read) ∙ one

    next_is : found.what ≡ 1 → found.next ≡ at + 49
    next_is one =
        ap (λ (r : Record). r.next) s.read
        ∙ record_cases log at (λ r. r.what ≡ 1 → r.next ≡ at + 49) (λ h z. absurd (omega (arith, z))) (λ h l z. absurd (omega (arith, z)))
        (λ h l k z. absurd (omega (arith, z))) (λ l k z. refl) (there one)

    abbrev head : Heard
    head = hear now (record { indication = (record_at log at).indication; cell = cell_at log at })

    got_is : {cell : List ℕ} {got : Received} → cell ≡ cell_at log at → got ≡ judged_of now cell found.indication → got ≡ head.answer
    unfolding hear
    got_is e g = g ∙ rw (s.read, e)

    comes : found.what ≡ 1 → all_from now log at ≡ head ∷ all_from (onward head) log (at + 49)
    unfolding heard_by
    comes one = ap (λ (w : Walk). heard_from now w.records) (walk_at log at (there one))

    -- one record more
    pub turned : found.what ≡ 1 → records < length reports₀ / 5 → {cell : List ℕ} {got : Received} {reports₁ : List ℕ} {found₁ : Record}
        → cell ≡ cell_at log at → got ≡ judged_of now cell found.indication → reports₁ ≡ written reports (5 * records) (report_of got)
        → length reports₁ ≡ length reports → found₁ ≡ record_at log found.next
        → Standing got.state found.next (records + 1) reports₁ found₁
    unfolding end_by
    turned one room {got = got} {reports₁ = reports₁} c g w l f =
        let e : got ≡ head.answer = got_is c g in
        let far : 5 * records ≡ length (reports_of s.done) = omega (arith, s.count, length_reports s.done) in
        record {
          done = s.done ++ (head ∷ []);
          all =
              s.all
              ∙ ap (λ (hs : List Heard). s.done ++ hs) (comes one)
              ∙ sym (append_assoc s.done (head ∷ []) (all_from (onward head) log (at + 49)))
              ∙ (λ i. (s.done ++ (head ∷ [])) ++ all_from (sym e i).state log (sym (next_is one) i));
          state = ap (λ (r : Received). r.state) e ∙ sym (end_joined hear onward st s.done (head ∷ []));
          count = omega (arith, s.count, length_more s.done head);
          place_is = omega (arith, next_is one, s.place_is);
          within = omega arith;
          out =
              w
              ∙ (λ i. written (s.out i) (far i) (report_of (e i)))
              ∙ over_on (reports_of s.done) (report_of head.answer) reports₀
              ∙ ap (λ (o : List ℕ). over o reports₀) (sym (reports_more s.done head));
          same = l ∙ s.same;
          read = f;
        }

    -- the end
    ends : judged_in st log place (length reports₀) ≡ s.done
        → (ended_as now at records found ≡ judged_to st log place (judged_in st log place (length reports₀)))
        × (reports ≡ over (reports_of (judged_in st log place (length reports₀))) reports₀)
    ends e =
        let n : at ≡ place + 49 * length s.done = omega (arith, s.place_is, s.count) in
        let r : found ≡ record_at log (place + 49 * length s.done) = s.read ∙ ap (record_at log) n in
        let done : ended_as now at records found ≡ judged_to st log place s.done =
        λ i. record { refusal = 0; state = s.state i; next = n i; records = s.count i; stop = stop_of (r i) } in (
          done ∙ ap (judged_to st log place) (sym e),
          s.out ∙ ap (λ (hs : List Heard). over (reports_of hs) reports₀) (sym e),
        )

    abbrev Ended : Judged → Type 0
    Ended answer = JudgesOn st log place reports₀ answer reports

    ended : judged_in st log place (length reports₀) ≡ s.done → {answer : Judged} → answer ≡ ended_as now at records found → Ended answer
    ended e a = record { answered = a ∙ (ends e).0; reports_after = (ends e).1 }

    -- no room for one more
    pub ends_full : length reports₀ / 5 ≤ records → {answer : Judged} → answer ≡ ended_as now at records found → Ended answer
    ends_full full =
        ended (ap (take (length reports₀ / 5)) s.all ∙ take_at s.done (all_from now log at) (length reports₀ / 5) (omega (arith, s.within, s.count)))

    nothing_comes : (found.what ≡ 1 → ⊥) → all_from now log at ≡ []
    unfolding heard_by
    nothing_comes none =
        ap (λ (w : Walk). heard_from now w.records) (stop_at log at (λ e. none (ap (λ (r : Record). r.what) s.read ∙ e)))

    -- no record there
    pub ends_there : (found.what ≡ 1 → ⊥) → {answer : Judged} → answer ≡ ended_as now at records found → Ended answer
    ends_there none =
        ended
        (ap (take (length reports₀ / 5))
        (s.all ∙ ap (λ (hs : List Heard). s.done ++ hs) (nothing_comes none) ∙ append-nil s.done)
        ∙ take_all (length reports₀ / 5) s.done (omega (arith, s.within, s.count)))

pub one_fewer : {n most : ℕ} → n < most → most - (n + 1) < most - n
one_fewer h = omega arith
