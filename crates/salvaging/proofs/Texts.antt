-- Laws of what is written of a log's parts, and of the counts behind them.
-- Assumes nothing.
use Rattle.std.proofs.Common.{◌≡◌, ℕ, ◌+◌, ◌-◌, ◌%◌, ◌^◌, Bool, true, false, cond, eqb, ltb, List, [], ◌∷◌, ◌++◌, length, take, sym, refl, ap, ◌∙◌, append_assoc, append-nil, eq-eqb, ne_eqb}
use Rattle.runs.proofs.Laws.{split}
use Rattle.cell_log.specs.Answers.{Header}
use Rattle.cell_log.specs.Records.{header_of, record_at, cell_at}
use Rattle.cell_log.specs.Written.{record_octets}
use Rattle.receiver.specs.declared.Received.{Received}
use Rattle.receiver.specs.Receiver.{judged_of}
use Rattle.reading.specs.Records.{Whole, front_of}
use Rattle.pieces.specs.Limit.{Part, head, whole, refused, end_part}
use Rattle.pieces.specs.Steps.{taking_of}
use Rattle.pieces.specs.Taken.{fault_part, Taking, end_fault, end_parts}
use Rattle.text.specs.declared.Put.{Put}
use Rattle.text.specs.Put.{Puts}
use Rattle.text.proofs.Laws.{puts_same, puts_none}
use Rattle.salvaging.specs.declared.Salvaging.{Salvaging}
use Rattle.salvaging.specs.declared.Tally.{Tally}
use Rattle.listing.specs.Lines.{refused_line, log_refused_line}
use Rattle.salvaging.specs.Lines.{end_line}
use Rattle.salvaging.specs.Taking.{
  fresh_tally,
  refused_by,
  judged_whole,
  after_of,
  head_octets,
  part_octets,
  part_text,
  part_tally,
  octets_by,
  text_by,
  tally_by,
  TellsOne,
  Tells,
  end_tally,
  last_text,
}

-- parts one after the other
pub octets_joined : (t : Tally) (a b : List Part) → octets_by t (a ++ b) ≡ octets_by t a ++ octets_by (tally_by t a) b
unfolding octets_by tally_by
octets_joined t [] b = refl
octets_joined t (p ∷ a) b =
    ap (λ (l : List ℕ). part_octets t p ++ l) (octets_joined (part_tally t p) a b)
    ∙ sym (append_assoc (part_octets t p) (octets_by (part_tally t p) a) (octets_by (tally_by (part_tally t p) a) b))

pub text_joined : (t : Tally) (a b : List Part) → text_by t (a ++ b) ≡ text_by t a ++ text_by (tally_by t a) b
unfolding text_by tally_by
text_joined t [] b = refl
text_joined t (p ∷ a) b =
    ap (λ (l : List ℕ). part_text t p ++ l) (text_joined (part_tally t p) a b)
    ∙ sym (append_assoc (part_text t p) (text_by (part_tally t p) a) (text_by (tally_by (part_tally t p) a) b))

pub tally_joined : (t : Tally) (a b : List Part) → tally_by t (a ++ b) ≡ tally_by (tally_by t a) b
unfolding tally_by
tally_joined t [] b = refl
tally_joined t (p ∷ a) b = tally_joined (part_tally t p) a b

-- a record, as the code reads and judges it
module _ (t : Tally) (octets : List ℕ) where
  abbrev w : Whole
  w = front_of octets

  judged_is : {said : Bool} {cell : List ℕ} {got : Received} → said ≡ (record_at octets 0).indication → cell ≡ cell_at octets 0
      → got ≡ judged_of t.state cell said → got ≡ judged_whole t.state w
  unfolding front_of
  judged_is f e g = g ∙ (λ i. judged_of t.state (e i) (f i))

  module _ {said : Bool} {cell : List ℕ} {got : Received} {tally : Tally} (read : said ≡ (record_at octets 0).indication)
      (part : cell ≡ cell_at octets 0) (judged : got ≡ judged_of t.state cell said) (counted : tally ≡ after_of t got)
    where
      is : got ≡ judged_whole t.state w
      is = judged_is read part judged

      refusal_is : (judged_whole t.state w).refusal ≡ got.refusal
      refusal_is = sym (ap (λ (g : Received). g.refusal) is)

      tally_is : tally ≡ part_tally t (whole w)
      unfolding part_tally
      tally_is = counted ∙ ap (after_of t) is

      pub tells_sound : {out out₁ notes : List ℕ} {saved saved₁ noted : Put} → got.refusal ≡ 0
          → Puts out saved out₁ saved₁ (record_octets said cell)
          → TellsOne t (whole w) out saved out₁ saved₁ notes noted notes noted tally
      unfolding part_octets part_text front_of
      tells_sound {notes = notes} {noted = noted} ok puts =
          let test : eqb (judged_whole t.state w).refusal 0 ≡ true = eq-eqb (judged_whole t.state w).refusal 0 (refusal_is ∙ ok) in
          record {
            saves = puts_same
                ((λ i. record_octets (read i) (part i))
                ∙ sym (ap (λ b. cond b (record_octets w.indication w.cell) []) test)) puts;
            notes_it = puts_same
                (sym (ap (λ b. cond b [] (refused_line ((t.kept + t.left_out) % 2 ^ 64) (judged_whole t.state w).refusal)) test))
                (puts_none notes noted);
            counts = tally_is;
          }

      pub tells_refused : {out notes notes₁ : List ℕ} {saved noted noted₁ : Put} {index : ℕ} → (got.refusal ≡ 0 → ⊥)
          → index ≡ (t.kept + t.left_out) % 2 ^ 64 → Puts notes noted notes₁ noted₁ (refused_line index got.refusal)
          → TellsOne t (whole w) out saved out saved notes noted notes₁ noted₁ tally
      unfolding part_octets part_text
      tells_refused {out = out} {saved = saved} some at puts =
          let test : eqb (judged_whole t.state w).refusal 0 ≡ false =
          ne_eqb (judged_whole t.state w).refusal 0 (λ z. some (sym refusal_is ∙ z)) in
          record {
            saves = puts_same (sym (ap (λ b. cond b (record_octets w.indication w.cell) []) test)) (puts_none out saved);
            notes_it = puts_same
                ((λ i. refused_line (at i) (sym refusal_is i))
                ∙ sym (ap (λ b. cond b [] (refused_line ((t.kept + t.left_out) % 2 ^ 64) (judged_whole t.state w).refusal)) test)) puts;
            counts = tally_is;
          }

-- one part, and none
module _ (t : Tally) {parts : List Part} where
  pub tells : {out out₁ notes notes₁ : List ℕ} {saved saved₁ noted noted₁ : Put} {tally : Tally} {p : Part} → parts ≡ p ∷ []
      → TellsOne t p out saved out₁ saved₁ notes noted notes₁ noted₁ tally → Tells t parts out saved out₁ saved₁ notes noted notes₁ noted₁ tally
  unfolding octets_by text_by tally_by
  tells {p = p} is one =
      record {
        saves = puts_same (sym (append-nil (part_octets t p)) ∙ ap (octets_by t) (sym is)) one.saves;
        notes_it = puts_same (sym (append-nil (part_text t p)) ∙ ap (text_by t) (sym is)) one.notes_it;
        counts = one.counts ∙ ap (tally_by t) (sym is);
      }

  pub tells_none : {out notes : List ℕ} {saved noted : Put} → parts ≡ [] → Tells t parts out saved out saved notes noted notes noted t
  unfolding octets_by text_by tally_by
  tells_none {out} {notes} {saved} {noted} is =
      record {
        saves = puts_same (ap (octets_by t) (sym is)) (puts_none out saved);
        notes_it = puts_same (ap (text_by t) (sym is)) (puts_none notes noted);
        counts = ap (tally_by t) (sym is);
      }

pub one_header : {t : Tally} (held : List ℕ) {out out₁ notes : List ℕ} {saved saved₁ noted : Put} {tally : Tally} {h : Header}
    → h ≡ record (header_of (take 3 held)) { refusal = 0 } → Puts out saved out₁ saved₁ (head_octets h) → tally ≡ fresh_tally h
    → TellsOne t (head (header_of (take 3 held))) out saved out₁ saved₁ notes noted notes noted tally
unfolding part_octets part_text part_tally
one_header held {notes = notes} {noted = noted} same puts counts =
    record {
      saves = puts_same (ap head_octets same) puts;
      notes_it = puts_none notes noted;
      counts = counts ∙ ap fresh_tally same;
    }

module _ (t : Tally) (stage fault : ℕ) where
  fault_writes : [] ≡ part_octets t (fault_part stage fault)
  unfolding part_octets
  fault_writes = split (eqb stage 2) (λ e. rw e) (λ e. rw e)

  fault_says : [] ≡ part_text t (fault_part stage fault)
  unfolding part_text
  fault_says = split (eqb stage 2) (λ e. rw e) (λ e. rw e)

  pub one_fault : {out notes : List ℕ} {saved noted : Put} {tally : Tally} → tally ≡ part_tally t (fault_part stage fault)
      → TellsOne t (fault_part stage fault) out saved out saved notes noted notes noted tally
  one_fault {out} {notes} {saved} {noted} counts =
      record {
        saves = puts_same fault_writes (puts_none out saved);
        notes_it = puts_same fault_says (puts_none notes noted);
        counts = counts;
      }

-- at the log's end
module _ (s : Salvaging) (held : List ℕ) where
  abbrev k : Taking
  k = taking_of s.standing held

  pub ended_in_header : {refusal : ℕ} → refusal ≡ end_fault k → s.standing.stage ≡ 0 → refused_by s.tally refusal ≡ end_tally s held
  unfolding end_fault end_parts taking_of tally_by part_tally
  ended_in_header e z =
      let fault : end_fault k ≡ (header_of k.part).refusal = rw (eq-eqb s.standing.stage 0 z) in
      let parts : end_parts k ≡ refused (header_of k.part).refusal ∷ [] = rw (eq-eqb s.standing.stage 0 z) in
      ap (refused_by s.tally) (e ∙ fault) ∙ ap (tally_by s.tally) (sym parts)

  pub ended_behind : (s.standing.stage ≡ 0 → ⊥) → s.tally ≡ end_tally s held
  unfolding end_parts end_part taking_of tally_by part_tally
  ended_behind not-0 =
      split (eqb s.standing.stage 1)
      (λ o.
      split (ltb 0 (length k.part))
      (λ e. rw (ne_eqb s.standing.stage 0 not-0, o, e))
      (λ e. rw (ne_eqb s.standing.stage 0 not-0, o, e)))
      (λ o. rw (ne_eqb s.standing.stage 0 not-0, o))

-- what is said last
module _ (octets : ℕ) (t : Tally) where
  pub last_refused_lem : (t.refusal ≡ 0 → ⊥) → log_refused_line t.refusal ≡ last_text octets t
  unfolding last_text
  last_refused_lem some = rw (ne_eqb t.refusal 0 some)

  pub last_counts : {cut : ℕ} → t.refusal ≡ 0 → cut ≡ octets - t.taken → end_line t.kept t.left_out cut ≡ last_text octets t
  unfolding last_text
  last_counts none is = rw (eq-eqb t.refusal 0 none) (ap (end_line t.kept t.left_out) is)
