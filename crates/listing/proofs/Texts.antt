-- Laws of the text of a log's parts, and of the counts behind them.
-- Assumes nothing.
use Rattle.std.proofs.Common.{◌≡◌, ℕ, ◌<◌, ◌≤◌, true, cond, eqb, ltb, List, [], ◌∷◌, ◌++◌, length, sym, refl, ap, ◌∙◌, append_assoc, append-nil, eq-eqb, ne_eqb, eqb-true}
use Rattle.runs.proofs.Laws.{split}
use Rattle.cell_log.specs.Records.{header_of}
use Rattle.receiver.specs.declared.Received.{Received}
use Rattle.pieces.specs.Found.{Found}
use Rattle.pieces.specs.declared.Standing.{Standing}
use Rattle.pieces.specs.Limit.{Part, refused, end_part}
use Rattle.pieces.specs.Steps.{taking_of, Steps, found_parts}
use Rattle.pieces.specs.Taken.{fault_part, Taking, end_fault, end_parts}
use Rattle.pieces.proofs.Walks.{Along, along_start, along_turn, along_end, turn_on}
pub use Rattle.pieces.proofs.Walks.{found_room}
use Rattle.text.specs.declared.Put.{Put}
use Rattle.listing.specs.declared.Listing.{Listing}
use Rattle.listing.specs.declared.Tally.{Tally}
use Rattle.text.specs.Put.{Puts}
use Rattle.listing.specs.Lines.{sound_line, refused_line, broken_line, end_line, log_refused_line}
use Rattle.listing.specs.List.{line_of}
use Rattle.listing.specs.Taking.{end_text, part_text, part_tally, text_of, tally_of, piece_text, end_of_text, Takes, Ends}
use Rattle.text.proofs.Laws.{puts_then, puts_same, puts_none, said_from_start, wrote_from_start}

-- parts one after the other
pub text_joined : (t : Tally) (a b : List Part) → text_of t (a ++ b) ≡ text_of t a ++ text_of (tally_of t a) b
unfolding text_of tally_of
text_joined t [] b = refl
text_joined t (p ∷ a) b =
    ap (λ (l : List ℕ). part_text t p ++ l) (text_joined (part_tally t p) a b)
    ∙ sym (append_assoc (part_text t p) (text_of (part_tally t p) a) (text_of (tally_of (part_tally t p) a) b))

pub tally_joined : (t : Tally) (a b : List Part) → tally_of t (a ++ b) ≡ tally_of (tally_of t a) b
unfolding tally_of
tally_joined t [] b = refl
tally_joined t (p ∷ a) b = tally_joined (part_tally t p) a b

-- the text and the counts of one part
pub one_text : (t : Tally) (p : Part) → text_of t (p ∷ []) ≡ part_text t p
unfolding text_of
one_text t p = append-nil (part_text t p)

one_tally : (t : Tally) (p : Part) → tally_of t (p ∷ []) ≡ part_tally t p
unfolding tally_of
one_tally t p = refl

-- lines by what was answered
pub line_sound : (index : ℕ) (got : Received) → got.refusal ≡ 0 → sound_line index got.missing got.number ≡ line_of index got
unfolding line_of
line_sound index got ok = rw (eq-eqb got.refusal 0 ok)

pub line_refused : (index : ℕ) (got : Received) → (got.refusal ≡ 0 → ⊥) → refused_line index got.refusal ≡ line_of index got
unfolding line_of
line_refused index got some = rw (ne_eqb got.refusal 0 some)

pub end_plain : (t : Tally) (fault : ℕ) → fault ≡ 0 → end_line t.sound t.missing t.refused ≡ end_text t fault
unfolding end_text
end_plain t fault none = rw (eq-eqb fault 0 none)

pub end_broken : (t : Tally) (fault : ℕ) → (fault ≡ 0 → ⊥)
    → broken_line t.records fault ++ end_line t.sound t.missing t.refused ≡ end_text t fault
unfolding end_text
end_broken t fault some = rw (ne_eqb fault 0 some)

-- what was put and the counts are those of parts
abbrev pub Tells : Tally → List Part → List ℕ → Put → List ℕ → Put → Tally → Type 0
Tells t parts before at now past tally = Puts before at now past (text_of t parts) × (tally ≡ tally_of t parts)

-- one part, and none
module _ (t : Tally) {parts : List Part} where
  pub tells : {before now : List ℕ} {at past : Put} {tally : Tally} {p : Part} {text : List ℕ} → parts ≡ p ∷ []
      → text ≡ part_text t p → Puts before at now past text → tally ≡ part_tally t p → Tells t parts before at now past tally
  tells {p = p} is same puts counts =
      (puts_same (same ∙ sym (one_text t p) ∙ ap (text_of t) (sym is)) puts, counts ∙ sym (one_tally t p) ∙ ap (tally_of t) (sym is))

  pub tells_none : (before : List ℕ) (at : Put) → parts ≡ [] → Tells t parts before at before at t
  unfolding text_of tally_of
  tells_none before at is = (puts_same (ap (text_of t) (sym is)) (puts_none before at), ap (tally_of t) (sym is))

-- a fault
module _ (t : Tally) (stage fault : ℕ) where
  pub fault_refused : stage ≡ 2 → log_refused_line fault ≡ part_text t (fault_part stage fault)
  unfolding part_text
  fault_refused two = rw (eq-eqb stage 2 two)

  pub fault_broken : (stage ≡ 2 → ⊥) → end_text t fault ≡ part_text t (fault_part stage fault)
  unfolding part_text
  fault_broken other = rw (ne_eqb stage 2 other)

  pub fault_counts : t ≡ part_tally t (fault_part stage fault)
  unfolding part_tally
  fault_counts = split (eqb stage 2) (λ e. rw e) (λ e. rw e)

-- along a piece: the parts so far, their lines written, and the counts behind them
pub record Going (l : Listing) (lent piece first : List ℕ) (at : Put) (s : Standing) (t : Tally) (held run : List ℕ) (past : Put) (place : ℕ)
    : Type 0
  where
    pub parts : List Part
    pub along : Along l.standing lent piece place s held parts
    pub puts : Puts first at run past (text_of l.tally parts)
    pub counts : t ≡ tally_of l.tally parts
    pub same : length run ≡ length first

module _ {l : Listing} {lent piece first : List ℕ} {at : Put} where
  pub going_start : length lent ≡ 49 → Going l lent piece first at l.standing l.tally lent first at 0
  unfolding text_of tally_of
  going_start size =
      record {
        parts = [];
        along = along_start l.standing lent piece size;
        puts = puts_none first at;
        counts = refl;
        same = refl;
      }

  pub going_turn : {s : Standing} {t tally : Tally} {held run now wrote : List ℕ} {past next : Put} {place : ℕ} {f : Found}
      → Going l lent piece first at s t held run past place → place < length piece → Steps s held piece place f now
      → Tells t (found_parts f now piece place) run past wrote next tally → length wrote ≡ length run
      → Going l lent piece first at f.standing tally now wrote next f.next
  going_turn {t = t} {now = now} {place = place} {f = f} g here step told same =
      let found : List Part = found_parts f now piece place in
      record {
        parts = g.parts ++ found;
        along = along_turn g.along here step;
        puts = puts_same
            (ap (λ (u : Tally). text_of l.tally g.parts ++ text_of u found) g.counts ∙ sym (text_joined l.tally g.parts found))
            (puts_then g.puts told.0);
        counts = told.1 ∙ ap (λ (u : Tally). tally_of u found) g.counts ∙ sym (tally_joined l.tally g.parts found);
        same = same ∙ g.same;
      }

  pub going_on : {s : Standing} {t : Tally} {held run now : List ℕ} {past : Put} {place : ℕ} {f : Found}
      → Going l lent piece first at s t held run past place → place < length piece → Steps s held piece place f now
      → (place < f.next) × (f.next ≤ length piece)
  going_on g here step = turn_on g.along here step

pub going_end : {l : Listing} {lent piece first held run : List ℕ} {s : Standing} {t : Tally} {past : Put} {place : ℕ}
    → Going l lent piece first (record { octets = 0; whole = true }) s t held run past place → length piece ≤ place
    → Takes l lent piece first (record { listed = past; listing = record { standing = s; tally = t } }) held run
going_end {l} {lent} {piece} {first} {held} {run} {s} {t} {past} g end =
    let ends = along_end g.along end in
    let all : text_of l.tally g.parts ≡ piece_text l lent piece = ap (text_of l.tally) ends.1 in
    let puts = puts_same all g.puts in
    record {
      printed = said_from_start puts;
      wrote = wrote_from_start puts;
      goes_on = λ i. record { standing = (ends.0 i).standing; tally = (g.counts ∙ ap (tally_of l.tally) ends.1) i };
      holds = λ i. (ends.0 i).held;
    }

-- what stops the records
pub end_part_lem : (t : Tally) (fault : ℕ) → end_text t fault ≡ text_of t (end_part fault)
unfolding end_part text_of part_text
end_part_lem t fault =
    split (eqb fault 0)
    (λ e. let none : fault ≡ 0 = eqb-true fault 0 e in rw e (ap (end_text t) none ∙ sym (append-nil (end_text t 0))))
    (λ e. rw e (sym (append-nil (end_text t fault))))

-- at the log's end
module _ (s : Standing) (held : List ℕ) where
  abbrev k : Taking
  k = taking_of s held

  module _ (z : s.stage ≡ 0) where
    fault_in_header : end_fault k ≡ (header_of k.part).refusal
    unfolding end_fault taking_of
    fault_in_header = rw (eq-eqb s.stage 0 z)

    pub parts_in_header : end_parts k ≡ refused (header_of k.part).refusal ∷ []
    unfolding end_parts taking_of
    parts_in_header = rw (eq-eqb s.stage 0 z)

  module _ (not-0 : s.stage ≡ 0 → ⊥) where
    module _ (one : s.stage ≡ 1) where
      fault_in_record : end_fault k ≡ cond (ltb 0 (length k.part)) 12 0
      unfolding end_fault taking_of
      fault_in_record = rw (ne_eqb s.stage 0 not-0, eq-eqb s.stage 1 one)

      parts_in_record : end_parts k ≡ end_part (cond (ltb 0 (length k.part)) 12 0)
      unfolding end_parts taking_of
      parts_in_record = rw (ne_eqb s.stage 0 not-0, eq-eqb s.stage 1 one)

    parts_none : (s.stage ≡ 1 → ⊥) → end_parts k ≡ []
    unfolding end_parts taking_of
    parts_none not-1 = rw (ne_eqb s.stage 0 not-0, ne_eqb s.stage 1 not-1)

module _ {l : Listing} {held first run : List ℕ} {past : Put} where
  ends_with : {text : List ℕ} → text ≡ end_of_text l held → Puts first (record { octets = 0; whole = true }) run past text → Ends l held first past run
  ends_with same puts =
      record { printed = said_from_start (puts_same same puts); wrote = wrote_from_start (puts_same same puts) }

  pub ends_refused : {refusal : ℕ} → refusal ≡ end_fault (taking_of l.standing held) → l.standing.stage ≡ 0
      → Puts first (record { octets = 0; whole = true }) run past (log_refused_line refusal) → Ends l held first past run
  unfolding part_text
  ends_refused e z =
      let last : Part = refused (header_of (taking_of l.standing held).part).refusal in
      ends_with
      (ap log_refused_line (e ∙ fault_in_header l.standing held z)
      ∙ sym (one_text l.tally last)
      ∙ ap (text_of l.tally) (sym (parts_in_header l.standing held z)))

  pub ends_lines : {refusal : ℕ} → refusal ≡ end_fault (taking_of l.standing held) → (l.standing.stage ≡ 0 → ⊥) → l.standing.stage ≡ 1
      → Puts first (record { octets = 0; whole = true }) run past (end_text l.tally refusal) → Ends l held first past run
  ends_lines e not-0 one =
      let fault : ℕ = cond (ltb 0 (length (taking_of l.standing held).part)) 12 0 in
      ends_with
      (ap (end_text l.tally) (e ∙ fault_in_record l.standing held not-0 one)
      ∙ end_part_lem l.tally fault
      ∙ ap (text_of l.tally) (sym (parts_in_record l.standing held not-0 one)))

pub ends_nothing : {l : Listing} {held first : List ℕ} → (l.standing.stage ≡ 0 → ⊥) → (l.standing.stage ≡ 1 → ⊥)
    → Ends l held first (record { octets = 0; whole = true }) first
unfolding text_of
ends_nothing {l} {held} {first} not-0 not-1 =
    ends_with (ap (text_of l.tally) (sym (parts_none l.standing held not-0 not-1))) (puts_none first (record { octets = 0; whole = true }))
