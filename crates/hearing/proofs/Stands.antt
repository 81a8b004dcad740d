-- Laws of the walk along a log's records that are received: what the loop keeps, and where it ends.
-- Assumes nothing.
use mathlib.Core.List.{List, [], ◌++◌, append_assoc, append-nil, flat_map}
use mathlib.Core.Path.{◌≡◌, refl, sym, ◌∙◌, ap, ap₂, subst}
use Prim.Native.Nat.{ℕ, ◌+◌, ◌*◌, ◌-◌, ◌≤◌, ◌<◌}
use native.Mathlib.Nat.{zero-add}
use native.Mathlib.Omega.{arith}
use borrow.Author.Tests.{eq-eqb, ne_eqb}
use lib.ListN.{length, length-append}
use Rattle.runs.specs.Runs.{over, written}
use Rattle.cell_log.specs.Answers.{Record}
use Rattle.cell_log.specs.Records.{record_at}
use Rattle.receiver.specs.declared.Receiver.{Receiver}
use Rattle.receiver.specs.Receiver.{state_refusal, used_now}
use Rattle.reading.specs.Heard.{Heard, heard_by, heard_from}
use Rattle.reading.specs.Records.{Walk}
use Rattle.reading.proofs.Places.{stop_at}
use Rattle.hearing.specs.declared.receiving.Batch.{Batch}
use Rattle.hearing.specs.Judging.{all_from, stop_of}
use Rattle.hearing.specs.Receiving.{fitting, received_in, samples_of, ancillary_of, marks_of, received_to, begun_as, ReceivesOn}
use Rattle.hearing.specs.Steps.{stopped_as, past_all, Counted, Ready, Steps}
use Rattle.hearing.proofs.Walks.{over_on}
use Rattle.hearing.proofs.Past.{flat_joined, fitting_past, past_twice, past_none, received_is}

-- the loop
module _ (st : Receiver) (used : ℕ) (log : List ℕ) (place : ℕ) (samples₀ ancillary₀ marks₀ : List ℕ) where
  -- so many records are received, and the others are still to come
  pub record Stood (b : Batch) (samples ancillary marks : List ℕ) : Type 0 where
    pub done : List Heard
    pub all : all_from st log place ≡ done ++ all_from b.state log b.next
    pub is : b ≡ stopped_as (past_all (begun_as 0 st place) done) b.stop
    pub samples_out_lem : samples ≡ over (samples_of done) samples₀
    pub ancillary_out_lem : ancillary ≡ over (ancillary_of done) ancillary₀
    pub marks_out : marks ≡ over (marks_of done) marks₀
    pub samples_same : length samples ≡ length samples₀
    pub ancillary_same : length ancillary ≡ length samples₀
    pub marks_same : length marks ≡ length samples₀
    pub ancillary_long : length (ancillary_of done) ≡ length (samples_of done)
    pub marks_long : length (marks_of done) ≡ length (samples_of done)
    pub sound : state_refusal b.state ≡ 0
    pub used_is : used ≡ used_now b.state
    pub counted : Counted b
    pub within : b.entries ≤ length samples₀

  pub stood_begun : state_refusal st ≡ 0 → used ≡ used_now st → length ancillary₀ ≡ length samples₀ → length marks₀ ≡ length samples₀ → {b : Batch}
      → b ≡ begun_as 0 st place → Stood b samples₀ ancillary₀ marks₀
  unfolding over flat_map
  stood_begun none u la lm {b} b-is =
      let stop : b.stop ≡ 0 = ap (λ (x : Batch). x.stop) b-is in
      record {
        done = [];
        all = λ i. all_from (sym b-is i).state log (sym b-is i).next;
        is = b-is ∙ past_none (begun_as 0 st place) ∙ ap (stopped_as (past_all (begun_as 0 st place) [])) (sym stop);
        samples_out_lem = refl;
        ancillary_out_lem = refl;
        marks_out = refl;
        samples_same = refl;
        ancillary_same = la;
        marks_same = lm;
        ancillary_long = refl;
        marks_long = refl;
        sound = ap (λ (x : Batch). state_refusal x.state) b-is ∙ none;
        used_is = u ∙ ap (λ (x : Batch). used_now x.state) (sym b-is);
        counted = subst Counted (sym b-is) (record {
          taken_to_lem = omega arith;
          missing_to = omega arith;
          eight_to = omega arith;
          nine_to = omega arith;
          fifteen_to = omega arith;
          twenty_to = omega arith;
        });
        within = omega (arith, ap (λ (x : Batch). x.entries) b-is);
      }

  module _ {b : Batch} {samples ancillary marks : List ℕ} (s : Stood b samples ancillary marks) where
    pub stood_ready : b.stop ≡ 0 → Ready b used log samples ancillary marks
    stood_ready going =
        record {
          sound = s.sound;
          going = going;
          used_is = s.used_is;
          counted = s.counted;
          within = omega (arith, s.within, s.samples_same);
          ancillary_same = s.ancillary_same ∙ sym s.samples_same;
          marks_same = s.marks_same ∙ sym s.samples_same;
        }

    entries_are : b.entries ≡ length (samples_of s.done)
    entries_are = ap (λ (x : Batch). x.entries) s.is ∙ zero-add (length (samples_of s.done))

    -- one step more
    pub stood_on : {r : Batch} {samples₁ ancillary₁ marks₁ : List ℕ} → Steps b used log samples ancillary marks r samples₁ ancillary₁ marks₁
        → b.stop ≡ 0 → length samples₁ ≡ length samples → length ancillary₁ ≡ length ancillary → length marks₁ ≡ length marks
        → Stood r samples₁ ancillary₁ marks₁
    stood_on {r} t going ls la lm =
        let columns : (column : Heard → List ℕ) → length (flat_map column s.done) ≡ b.entries → (run₀ run run₁ : List ℕ)
        → run ≡ over (flat_map column s.done) run₀ → run₁ ≡ written run b.entries (flat_map column t.new)
        → run₁ ≡ over (flat_map column (s.done ++ t.new)) run₀ =
        λ column far run₀ run run₁ so_far w.
        w
        ∙ (λ i. written (so_far i) (sym far i) (flat_map column t.new))
        ∙ over_on (flat_map column s.done) (flat_map column t.new) run₀
        ∙ ap (λ (l : List ℕ). over l run₀) (sym (flat_joined column s.done t.new)) in
        let longs : (column : Heard → List ℕ) → length (flat_map column s.done) ≡ length (samples_of s.done)
        → length (flat_map column t.new) ≡ length (samples_of t.new)
        → length (flat_map column (s.done ++ t.new)) ≡ length (samples_of (s.done ++ t.new)) =
        λ column d n.
        ap length (flat_joined column s.done t.new)
        ∙ length-append (flat_map column s.done) (flat_map column t.new)
        ∙ ap₂ (λ (x y : ℕ). x + y) d n
        ∙ sym (length-append (samples_of s.done) (samples_of t.new))
        ∙ ap length (sym (flat_joined (λ (h : Heard). h.samples) s.done t.new)) in
        let from : Batch = past_all (begun_as 0 st place) s.done in
        let b-is : b ≡ from = s.is ∙ ap (stopped_as from) going in
        record {
          done = s.done ++ t.new;
          all =
              s.all
              ∙ ap (λ (hs : List Heard). s.done ++ hs) t.comes
              ∙ sym (append_assoc s.done t.new (all_from r.state log r.next));
          is =
              t.moves
              ∙ ap (λ (x : Batch). stopped_as (past_all x t.new) r.stop) b-is
              ∙ ap (λ (x : Batch). stopped_as x r.stop) (past_twice (begun_as 0 st place) s.done t.new);
          samples_out_lem = columns (λ h. h.samples) (sym entries_are) samples₀ samples _ s.samples_out_lem t.puts.samples_are;
          ancillary_out_lem =
              columns (λ h. h.ancillary) (s.ancillary_long ∙ sym entries_are) ancillary₀ ancillary _ s.ancillary_out_lem t.puts.ancillary_is;
          marks_out = columns (λ h. h.marks) (s.marks_long ∙ sym entries_are) marks₀ marks _ s.marks_out t.puts.marks_are;
          samples_same = ls ∙ s.samples_same;
          ancillary_same = la ∙ s.ancillary_same;
          marks_same = lm ∙ s.marks_same;
          ancillary_long = longs (λ h. h.ancillary) s.ancillary_long t.ancillary_long;
          marks_long = longs (λ h. h.marks) s.marks_long t.marks_long;
          sound = t.sound_still;
          used_is = t.used_still;
          counted = t.counted_still;
          within = omega (arith, t.within_still, s.samples_same);
        }

    -- the end
    ends : received_in st log place (length samples₀) ≡ s.done → {answer : Batch} → answer ≡ stopped_as b (stop_of (record_at log b.next))
        → ReceivesOn st log place samples₀ ancillary₀ marks₀ answer samples ancillary marks
    ends e {answer} a =
        let from : Batch = past_all (begun_as 0 st place) s.done in
        let there : stop_of (record_at log b.next) ≡ stop_of (record_at log (place + 49 * length s.done)) =
        ap (λ (x : Batch). stop_of (record_at log x.next)) s.is in
        let so : answer ≡ received_to st log place s.done =
        a ∙ ap₂ (λ (x : Batch) (n : ℕ). stopped_as x n) s.is there ∙ received_is st log place s.done in
        record {
          answered = so ∙ ap (received_to st log place) (sym e);
          samples_after = s.samples_out_lem ∙ ap (λ (hs : List Heard). over (samples_of hs) samples₀) (sym e);
          ancillary_after = s.ancillary_out_lem ∙ ap (λ (hs : List Heard). over (ancillary_of hs) ancillary₀) (sym e);
          marks_after = s.marks_out ∙ ap (λ (hs : List Heard). over (marks_of hs) marks₀) (sym e);
        }

    fits_so_far : received_in st log place (length samples₀)
        ≡ s.done ++ fitting (length samples₀ - b.entries) (all_from b.state log b.next)
    fits_so_far =
        ap (fitting (length samples₀)) s.all
        ∙ fitting_past s.done (all_from b.state log b.next) (length samples₀) (omega (arith, entries_are, s.within))
        ∙ ap (λ (n : ℕ). s.done ++ fitting (length samples₀ - n) (all_from b.state log b.next)) (sym entries_are)

    -- no record there
    pub stood_end : {found : Record} → found ≡ record_at log b.next → (found.what ≡ 1 → ⊥) → {answer : Batch} → answer ≡ stopped_as b found.refusal
        → ReceivesOn st log place samples₀ ancillary₀ marks₀ answer samples ancillary marks
    unfolding heard_by fitting
    stood_end {found} f none {answer} a =
        let not_there : (record_at log b.next).what ≡ 1 → ⊥ = λ e. none (ap (λ (r : Record). r.what) f ∙ e) in
        let nothing : all_from b.state log b.next ≡ [] = ap (λ (w : Walk). heard_from b.state w.records) (stop_at log b.next not_there) in
        let stop : found.refusal ≡ stop_of (record_at log b.next) =
        ap (λ (r : Record). r.refusal) f ∙ rw (ne_eqb (record_at log b.next).what 1 not_there) in
        ends
        (fits_so_far
        ∙ ap (λ (hs : List Heard). s.done ++ fitting (length samples₀ - b.entries) hs) nothing
        ∙ append-nil s.done)
        (a ∙ ap (stopped_as b) stop)

    -- no room
    pub stood_full : (b.stop ≡ 10) × ((record_at log b.next).what ≡ 1) × (fitting (length samples₀ - b.entries) (all_from b.state log b.next) ≡ [])
        → ReceivesOn st log place samples₀ ancillary₀ marks₀ b samples ancillary marks
    stood_full full =
        let stop : b.stop ≡ stop_of (record_at log b.next) = full.0 ∙ rw (eq-eqb (record_at log b.next).what 1 full.1) in
        ends (fits_so_far ∙ ap (λ (hs : List Heard). s.done ++ hs) full.2 ∙ append-nil s.done) (ap (stopped_as b) stop)

  -- stopped by a step
  pub stood_stopped : {b : Batch} {samples ancillary marks : List ℕ} → Stood b samples ancillary marks → {r : Batch} {samples₁ ancillary₁ marks₁ : List ℕ}
      → Steps b used log samples ancillary marks r samples₁ ancillary₁ marks₁ → (r.stop ≡ 0 → ⊥) → b.stop ≡ 0
      → length samples₁ ≡ length samples → length ancillary₁ ≡ length ancillary → length marks₁ ≡ length marks
      → ReceivesOn st log place samples₀ ancillary₀ marks₀ r samples₁ ancillary₁ marks₁
  stood_stopped s {r} t some going ls la lm =
      let full = t.full some in
      stood_full (stood_on s t going ls la lm) (
        full.0,
        full.1,
        subst (λ (n : ℕ). fitting (n - r.entries) (all_from r.state log r.next) ≡ []) s.samples_same full.2,
      )

-- a step goes on
pub step_less : {b : Batch} {used : ℕ} {log samples ancillary marks : List ℕ} {r : Batch} {samples₁ ancillary₁ marks₁ : List ℕ}
    → Steps b used log samples ancillary marks r samples₁ ancillary₁ marks₁ → r.stop ≡ 0 → length log - r.next < length log - b.next
step_less {b} {r = r} t going =
    let e : r.next ≡ b.next + 49 * length t.new = ap (λ (x : Batch). x.next) t.moves in
    let on = t.on going in
    omega (arith, e, on.0, on.1)

-- the state that it began with
pub of_begun : {st : Receiver} {log : List ℕ} {place : ℕ} {samples ancillary marks : List ℕ} {b₀ answer : Batch} {samples₁ ancillary₁ marks₁ : List ℕ}
    → b₀ ≡ begun_as 0 st place → ReceivesOn b₀.state log place samples ancillary marks answer samples₁ ancillary₁ marks₁
    → ReceivesOn st log place samples ancillary marks answer samples₁ ancillary₁ marks₁
of_begun {log = log} {place} {samples} {ancillary} {marks} {answer = answer} {samples₁} {ancillary₁} {marks₁} e =
    subst (λ (x : Receiver). ReceivesOn x log place samples ancillary marks answer samples₁ ancillary₁ marks₁) (ap (λ (b : Batch). b.state) e)
