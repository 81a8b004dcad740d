-- However a log is divided, what is written is the new log of the whole one and what is said of it, and no count wraps.
-- Assumes nothing.
use Rattle.std.proofs.Common.{◌≡◌, ℕ, suc, ◌+◌, ◌-◌, ◌*◌, ◌%◌, ◌^◌, ◌<◌, ◌≤◌, true, false, cond, not, eqb, ltb, List, [], ◌∷◌, ◌++◌, map, length, take, sym, refl, ap, ◌∙◌, ap₂, append_assoc, mod-eq_of_lt, add-one, arith, length-append, length-drop, take_all, eq-eqb, ne_eqb, eqb-true}
use borrow.Author.Tests.{eqb-false}
use Rattle.runs.proofs.Laws.{split}
use Rattle.cell_log.specs.Records.{header_of}
use Rattle.cell_log.specs.Written.{record_octets}
use Rattle.cell_log.proofs.Headers.{format_small, channels_small, order_small}
use Rattle.receiver.specs.declared.Receiver.{Receiver}
use Rattle.receiver.specs.declared.Received.{Received}
use Rattle.reading.specs.Heard.{Heard, hear, heard_by, onward, heard_from, is_sound, sound_in, refused_in, kept_of}
use Rattle.reading.specs.Reading.{fresh_of, behind_header, reading_of}
use Rattle.reading.specs.Records.{Whole, records_in, octets_in}
use Rattle.reading.specs.Totals.{total_of, those}
use Rattle.reading.proofs.Heard.{length_heard}
use Rattle.reading.proofs.Reading.{header_three, header_octets_lem, header_settles, log_counted}
use Rattle.reading.proofs.Records.{octets_counted}
use Rattle.pieces.specs.Limit.{Part, head, whole, refused, records_to, fault_to, end_part, parts_of}
use Rattle.pieces.specs.Steps.{taking_of, stood_of, handed_over}
use Rattle.pieces.specs.Taken.{Taking, end_parts, joined_of}
use Rattle.pieces.proofs.Walks.{division_parts}
use Rattle.saving.specs.Salvage.{new_log, list_from, cut_from}
use Rattle.salvaging.specs.declared.Salvaging.{Salvaging}
use Rattle.salvaging.specs.declared.Tally.{Tally}
use Rattle.listing.specs.Lines.{refused_line}
use Rattle.salvaging.specs.Lines.{end_line}
use Rattle.salvaging.specs.Said.{saved_of, lines_of, notes_of}
use Rattle.salvaging.specs.Taking.{
  judged_whole,
  after_of,
  head_octets,
  part_octets,
  part_text,
  part_tally,
  octets_by,
  text_by,
  tally_by,
  no_tally,
  start_of,
  piece_parts,
  piece_octets,
  piece_text,
  salvaging_after,
  last_text,
  saved_over,
  notes_over,
}
use Rattle.salvaging.proofs.Texts.{octets_joined, text_joined, tally_joined}

abbrev counted : Receiver → ℕ → ℕ → ℕ → Tally
counted st taken k f = record { state = st; refusal = 0; taken = taken; kept = k; left_out = f }

-- what ends a log changes nothing but the refusal of its header
module _ (t : Tally) (fault : ℕ) where
  end_octets : octets_by t (end_part fault) ≡ []
  unfolding end_part octets_by part_octets
  end_octets = split (eqb fault 0) (λ e. rw e) (λ e. rw e)

  end_text_lem : text_by t (end_part fault) ≡ []
  unfolding end_part text_by part_text
  end_text_lem = split (eqb fault 0) (λ e. rw e) (λ e. rw e)

  end_tally_lem : tally_by t (end_part fault) ≡ t
  unfolding end_part tally_by part_tally
  end_tally_lem = split (eqb fault 0) (λ e. rw e) (λ e. rw e)

-- a record that is judged: no count wraps
module _ (st : Receiver) (w : Whole) (n k f : ℕ) (few : 3 + 49 * n + 49 < 2 ^ 64) (all : k + f ≡ n) where
  abbrev h : Heard
  h = hear st w

  judged_is : judged_whole st w ≡ h.answer
  unfolding hear
  judged_is = refl

  abbrev before : Tally
  before = counted st (3 + 49 * n) k f

  module _ (e : is_sound h ≡ true) where
    test : eqb (judged_whole st w).refusal 0 ≡ true
    test = ap (λ (g : Received). eqb g.refusal 0) judged_is ∙ e

    sound_octets : part_octets before (whole w) ≡ record_octets w.indication w.cell
    unfolding part_octets
    sound_octets = rw test

    sound_text : part_text before (whole w) ≡ []
    unfolding part_text
    sound_text = rw test

    sound_tally : part_tally before (whole w) ≡ counted (onward h) (3 + 49 * (n + 1)) (k + 1) f
    unfolding part_tally after_of
    sound_tally =
        let a : (3 + 49 * n + 49) % 2 ^ 64 ≡ 3 + 49 * (n + 1) = mod-eq_of_lt few ∙ omega arith in
        let b : (k + 1) % 2 ^ 64 ≡ k + 1 = mod-eq_of_lt (omega arith) in
        ap (after_of before) judged_is ∙ rw (e, a, b)

  module _ (e : is_sound h ≡ false) where
    test_not : eqb (judged_whole st w).refusal 0 ≡ false
    test_not = ap (λ (g : Received). eqb g.refusal 0) judged_is ∙ e

    refused_octets : part_octets before (whole w) ≡ []
    unfolding part_octets
    refused_octets = rw test_not

    refused_text : part_text before (whole w) ≡ refused_line n h.answer.refusal
    unfolding part_text
    refused_text =
        let at : (k + f) % 2 ^ 64 ≡ n = mod-eq_of_lt (omega arith) ∙ all in
        rw test_not (λ i. refused_line (at i) (judged_is i).refusal)

    refused_tally : part_tally before (whole w) ≡ counted (onward h) (3 + 49 * (n + 1)) k (f + 1)
    unfolding part_tally after_of
    refused_tally =
        let a : (3 + 49 * n + 49) % 2 ^ 64 ≡ 3 + 49 * (n + 1) = mod-eq_of_lt few ∙ omega arith in
        let b : (f + 1) % 2 ^ 64 ≡ f + 1 = mod-eq_of_lt (omega arith) in
        ap (after_of before) judged_is ∙ rw (e, a, b)

arrived_is : (st : Receiver) (w : Whole) → (hear st w).arrived ≡ w
unfolding hear
arrived_is st w = refl

-- records, and what stops them: what is written of them, and the counts behind them
pub record Said (t : Tally) (ps : List Part) (octets text : List ℕ) (taken k f : ℕ) : Type 0 where
  pub octets_are : octets_by t ps ≡ octets
  pub text_is : text_by t ps ≡ text
  pub refusal_is : (tally_by t ps).refusal ≡ 0
  pub taken_is : (tally_by t ps).taken ≡ taken
  pub kept_is : (tally_by t ps).kept ≡ k
  pub left_is : (tally_by t ps).left_out ≡ f

said_turn : {t u : Tally} {p : Part} {ps : List Part} {octets text one line : List ℕ} {taken k f : ℕ} → part_tally t p ≡ u
    → part_octets t p ≡ one → part_text t p ≡ line → Said u ps octets text taken k f → Said t (p ∷ ps) (one ++ octets) (line ++ text) taken k f
unfolding octets_by text_by tally_by
said_turn {ps = ps} e o l s =
    record {
      octets_are = ap₂ (λ (a b : List ℕ). a ++ b) o (ap (λ (v : Tally). octets_by v ps) e ∙ s.octets_are);
      text_is = ap₂ (λ (a b : List ℕ). a ++ b) l (ap (λ (v : Tally). text_by v ps) e ∙ s.text_is);
      refusal_is = ap (λ (v : Tally). (tally_by v ps).refusal) e ∙ s.refusal_is;
      taken_is = ap (λ (v : Tally). (tally_by v ps).taken) e ∙ s.taken_is;
      kept_is = ap (λ (v : Tally). (tally_by v ps).kept) e ∙ s.kept_is;
      left_is = ap (λ (v : Tally). (tally_by v ps).left_out) e ∙ s.left_is;
    }

said_same : {t : Tally} {ps : List Part} {octets text octets' text' : List ℕ} {taken k f taken' k' f' : ℕ} → octets ≡ octets' → text ≡ text'
    → taken ≡ taken' → k ≡ k' → f ≡ f' → Said t ps octets text taken k f → Said t ps octets' text' taken' k' f'
said_same a b c d e s =
    record {
      octets_are = s.octets_are ∙ a;
      text_is = s.text_is ∙ b;
      refusal_is = s.refusal_is;
      taken_is = s.taken_is ∙ c;
      kept_is = s.kept_is ∙ d;
      left_is = s.left_is ∙ e;
    }

said_records : (st : Receiver) (n k f : ℕ) (ws : List Whole) (fault : ℕ) → 3 + 49 * (n + length ws) < 2 ^ 64 → k + f ≡ n
    → Said (counted st (3 + 49 * n) k f) (map whole ws ++ end_part fault) (octets_in (kept_of (heard_from st ws)))
    (lines_of (list_from n (heard_from st ws))) (3 + 49 * (n + length ws)) (k + sound_in (heard_from st ws)) (f + refused_in (heard_from st ws))
unfolding heard_by total_of those octets_in list_from lines_of
said_records st n k f [] fault few all =
    let t : Tally = counted st (3 + 49 * n) k f in
    let same : tally_by t (end_part fault) ≡ t = end_tally_lem t fault in
    record {
      octets_are = end_octets t fault;
      text_is = end_text_lem t fault;
      refusal_is = ap (λ (u : Tally). u.refusal) same;
      taken_is = ap (λ (u : Tally). u.taken) same ∙ omega arith;
      kept_is = ap (λ (u : Tally). u.kept) same ∙ omega arith;
      left_is = ap (λ (u : Tally). u.left_out) same ∙ omega arith;
    }
said_records st n k f (w ∷ ws) fault few all =
    let h : Heard = hear st w in
    let hs : List Heard = heard_from (onward h) ws in
    let low : 3 + 49 * n + 49 < 2 ^ 64 = omega arith in
    let c : 3 + 49 * (n + 1 + length ws) ≡ 3 + 49 * (n + suc (length ws)) = omega arith in
    split (is_sound h)
    (λ e.
    let more = said_records (onward h) (n + 1) (k + 1) f ws fault (omega arith) (omega arith) in
    let octets : record_octets w.indication w.cell ++ octets_in (kept_of hs)
    ≡ octets_in (map (λ (x : Heard). x.arrived) (cond (is_sound h) (h ∷ those is_sound hs) (those is_sound hs))) =
    ap (λ (r : Whole). record_octets r.indication r.cell ++ octets_in (kept_of hs)) (sym (arrived_is st w)) ∙ rw e in
    let lines : lines_of (list_from (n + 1) hs)
    ≡ lines_of (cond (is_sound h) (list_from (suc n) hs) (n ∷ h.answer.refusal ∷ list_from (suc n) hs)) =
    rw e (ap (λ (m : ℕ). lines_of (list_from m hs)) (add-one n)) in
    let kept : k + 1 + sound_in hs ≡ k + (cond (is_sound h) 1 0 + sound_in hs) = rw e (omega arith) in
    let left : f + refused_in hs ≡ f + (cond (not (is_sound h)) 1 0 + refused_in hs) = rw e (omega arith) in
    said_same octets lines c kept left
    (said_turn (sound_tally st w n k f low all e) (sound_octets st w n k f low all e) (sound_text st w n k f low all e) more))
    (λ e.
    let more = said_records (onward h) (n + 1) k (f + 1) ws fault (omega arith) (omega arith) in
    let octets : octets_in (kept_of hs)
    ≡ octets_in (map (λ (x : Heard). x.arrived) (cond (is_sound h) (h ∷ those is_sound hs) (those is_sound hs))) = rw e in
    let lines : refused_line n h.answer.refusal ++ lines_of (list_from (n + 1) hs)
    ≡ lines_of (cond (is_sound h) (list_from (suc n) hs) (n ∷ h.answer.refusal ∷ list_from (suc n) hs)) =
    rw e (ap (λ (m : ℕ). refused_line n h.answer.refusal ++ lines_of (list_from m hs)) (add-one n)) in
    let kept : k + sound_in hs ≡ k + (cond (is_sound h) 1 0 + sound_in hs) = rw e (omega arith) in
    let left : f + 1 + refused_in hs ≡ f + (cond (not (is_sound h)) 1 0 + refused_in hs) = rw e (omega arith) in
    said_same octets lines c kept left
    (said_turn (refused_tally st w n k f low all e) (refused_octets st w n k f low all e) (refused_text st w n k f low all e) more))

-- a log of at most 18,446,744,073,709,551,615 octets: its parts are those of the whole log, since no octet is past the limit
module _ (log : List ℕ) (counts : length log ≤ 18446744073709551615) where
  abbrev parts : List Part
  parts = parts_of 18446744073709551615 log

  module _ (ok : (header_of log).refusal ≡ 0) where
    abbrev behind : List ℕ
    behind = behind_header log

    within : length behind ≤ 18446744073709551612
    within = omega (arith, length-drop (header_of log).place log, header_three log ok)

    all_records : records_to 18446744073709551612 behind ≡ records_in behind
    unfolding records_to
    all_records = ap (λ (octets : List ℕ). records_in octets) (take_all 18446744073709551612 behind within)

    abbrev fault : ℕ
    fault = fault_to 18446744073709551612 behind

    parts_are : parts ≡ head (header_of log) ∷ (map whole (records_in behind) ++ end_part fault)
    unfolding parts_of
    parts_are =
        rw (eq-eqb (header_of log).refusal 0 ok)
        (ap (λ (ws : List Whole). head (header_of log) ∷ (map whole ws ++ end_part fault)) all_records)

    abbrev made : List Heard
    made = heard_from (fresh_of (header_of log)) (records_in behind)

    heard_is : (reading_of log).heard ≡ made
    unfolding reading_of
    heard_is = rw (eq-eqb (header_of log).refusal 0 ok)

    count_is : length made ≡ length (records_in behind)
    count_is = length_heard hear onward (fresh_of (header_of log)) (records_in behind)

    few : 3 + 49 * (0 + length (records_in behind)) < 2 ^ 64
    few = omega (arith, octets_counted behind, within)

    head_is : head_octets (header_of log) ≡ take 3 log
    head_is =
        let settles = header_settles log ok in
        let a : (header_of log).format % 256 ≡ (header_of log).format = mod-eq_of_lt (omega (arith, format_small _ _ _ settles)) in
        let b : (header_of log).channels % 256 ≡ (header_of log).channels = mod-eq_of_lt (omega (arith, channels_small _ _ _ settles)) in
        let c : (header_of log).order % 256 ≡ (header_of log).order = mod-eq_of_lt (omega (arith, order_small _ _ _ settles)) in
        (λ i. a i ∷ b i ∷ c i ∷ []) ∙ sym (header_octets_lem log ok)

    said : Said no_tally parts (take 3 log ++ octets_in (kept_of made)) (lines_of (list_from 0 made)) (3 + 49 * (0 + length (records_in behind)))
        (0 + sound_in made) (0 + refused_in made)
    unfolding part_octets part_text part_tally
    said =
        let more = said_records (fresh_of (header_of log)) 0 0 0 (records_in behind) fault few refl in
        rw parts_are
        (said_turn {t = no_tally} {u = counted (fresh_of (header_of log)) 3 0 0} {p = head (header_of log)} {line = []} refl head_is refl more)

    pub octets_whole : octets_by no_tally parts ≡ saved_of log
    unfolding saved_of new_log
    octets_whole =
        said.octets_are
        ∙ ap (λ (hs : List Heard). take 3 log ++ octets_in (kept_of hs)) (sym heard_is)
        ∙ sym (rw (eq-eqb (header_of log).refusal 0 ok))

    cut_is : length log - (3 + 49 * (0 + length (records_in behind))) ≡ cut_from log
    cut_is = omega (arith, log_counted log ok, ap length heard_is, count_is)

    pub text_whole : text_by no_tally parts ++ last_text (length log) (tally_by no_tally parts) ≡ notes_of log
    unfolding notes_of last_text
    text_whole =
        let kept : 0 + sound_in made ≡ sound_in made = omega arith in
        let left : 0 + refused_in made ≡ refused_in made = omega arith in
        let last : last_text (length log) (tally_by no_tally parts) ≡ end_line (sound_in made) (refused_in made) (cut_from log) =
        rw (eq-eqb (tally_by no_tally parts).refusal 0 said.refusal_is)
        (λ i. end_line ((said.kept_is ∙ kept) i) ((said.left_is ∙ left) i) ((ap (λ (n : ℕ). length log - n) said.taken_is ∙ cut_is) i)) in
        ap₂ (λ (a b : List ℕ). a ++ b) said.text_is last
        ∙ ap (λ (hs : List Heard). lines_of (list_from 0 hs) ++ end_line (sound_in hs) (refused_in hs) (cut_from log)) (sym heard_is)
        ∙ sym (rw (eq-eqb (header_of log).refusal 0 ok))

  module _ (some : (header_of log).refusal ≡ 0 → ⊥) where
    parts_refused : parts ≡ refused (header_of log).refusal ∷ []
    unfolding parts_of
    parts_refused = rw (ne_eqb (header_of log).refusal 0 some)

    pub octets_refused : octets_by no_tally parts ≡ saved_of log
    unfolding saved_of octets_by part_octets
    octets_refused = ap (octets_by no_tally) parts_refused ∙ sym (rw (ne_eqb (header_of log).refusal 0 some))

    pub text_refused : text_by no_tally parts ++ last_text (length log) (tally_by no_tally parts) ≡ notes_of log
    unfolding notes_of last_text text_by tally_by part_text part_tally
    text_refused =
        ap (λ (ps : List Part). text_by no_tally ps ++ last_text (length log) (tally_by no_tally ps)) parts_refused
        ∙ rw (ne_eqb (header_of log).refusal 0 some)

  pub out_whole : octets_by no_tally parts ≡ saved_of log
  out_whole =
      split (eqb (header_of log).refusal 0)
      (λ e. octets_whole (eqb-true (header_of log).refusal 0 e))
      (λ e. octets_refused (eqb-false (header_of log).refusal 0 e))

  pub notes_whole : text_by no_tally parts ++ last_text (length log) (tally_by no_tally parts) ≡ notes_of log
  notes_whole =
      split (eqb (header_of log).refusal 0)
      (λ e. text_whole (eqb-true (header_of log).refusal 0 e))
      (λ e. text_refused (eqb-false (header_of log).refusal 0 e))

-- what ends a log writes nothing into either run
ends_octets : (t : Tally) (k : Taking) → octets_by t (end_parts k) ≡ []
unfolding end_parts octets_by part_octets
ends_octets t k =
    split (eqb k.stage 0)
    (λ a. rw a)
    (λ a. split (eqb k.stage 1)
    (λ b. rw (a, b) (end_octets t (cond (ltb 0 (length k.part)) 12 0)))
    (λ b. rw (a, b)))

ends_text : (t : Tally) (k : Taking) → text_by t (end_parts k) ≡ []
unfolding end_parts text_by part_text
ends_text t k =
    split (eqb k.stage 0)
    (λ a. rw a)
    (λ a. split (eqb k.stage 1)
    (λ b. rw (a, b) (end_text_lem t (cond (ltb 0 (length k.part)) 12 0)))
    (λ b. rw (a, b)))

-- what is written over pieces is what is written of all that they hand out
over_octets : (s : Salvaging) (held : List ℕ) (ps : List (List ℕ)) → saved_over s held ps ≡ octets_by s.tally (handed_over s.standing held ps)
unfolding saved_over handed_over
over_octets s held [] = sym (ends_octets s.tally (taking_of s.standing held))
over_octets s held (p ∷ ps) =
    ap (λ (octets : List ℕ). piece_octets s held p ++ octets) (over_octets (salvaging_after s held p) (stood_of s.standing held p).held ps)
    ∙ sym (octets_joined s.tally (piece_parts s held p)
    (handed_over (stood_of s.standing held p).standing (stood_of s.standing held p).held ps))

over_text : (s : Salvaging) (held : List ℕ) (ps : List (List ℕ)) → s.octets + length (joined_of ps) < 2 ^ 64
    → notes_over s held ps
    ≡ text_by s.tally (handed_over s.standing held ps)
    ++ last_text (s.octets + length (joined_of ps)) (tally_by s.tally (handed_over s.standing held ps))
unfolding notes_over handed_over joined_of
over_text s held [] fits =
    let none : s.octets + 0 ≡ s.octets = omega arith in
    let last : Tally = tally_by s.tally (end_parts (taking_of s.standing held)) in
    ap (λ (n : ℕ). last_text n last) (sym none)
    ∙ ap (λ (l : List ℕ). l ++ last_text (s.octets + 0) last) (sym (ends_text s.tally (taking_of s.standing held)))
over_text s held (p ∷ ps) fits =
    let long : length (p ++ joined_of ps) ≡ length p + length (joined_of ps) = length-append p (joined_of ps) in
    let next : Salvaging = salvaging_after s held p in
    let rest : List Part = handed_over (stood_of s.standing held p).standing (stood_of s.standing held p).held ps in
    let first : List Part = piece_parts s held p in
    let sum : (s.octets + length p) % 2 ^ 64 ≡ s.octets + length p = mod-eq_of_lt (omega (arith, long)) in
    let total : (s.octets + length p) % 2 ^ 64 + length (joined_of ps) ≡ s.octets + length (p ++ joined_of ps) = omega (arith, sum, long) in
    let line : List ℕ = last_text (s.octets + length (p ++ joined_of ps)) (tally_by s.tally (first ++ rest)) in
    ap (λ (l : List ℕ). piece_text s held p ++ l)
    (over_text next (stood_of s.standing held p).held ps (omega (arith, total, fits))
    ∙ (λ i. text_by (tally_by s.tally first) rest ++ last_text (total i) (sym (tally_joined s.tally first rest) i)))
    ∙ sym (append_assoc (piece_text s held p) (text_by (tally_by s.tally first) rest) line)
    ∙ ap (λ (l : List ℕ). l ++ line) (sym (text_joined s.tally first rest))

-- request 14's word, "However the log is divided among the reads", of the salvage: the new log, the lines and the counts are those of
-- the whole log. A log of more octets can't be counted in 64 bits.
module _ (held : List ℕ) (ps : List (List ℕ)) (size : length held ≡ 49) (counts : length (joined_of ps) ≤ 18446744073709551615) where
  handed_is : handed_over start_of.standing held ps ≡ parts_of 18446744073709551615 (joined_of ps)
  handed_is = division_parts 18446744073709551615 held ps size

  pub any_division_saved : saved_over start_of held ps ≡ saved_of (joined_of ps)
  any_division_saved = over_octets start_of held ps ∙ ap (octets_by no_tally) handed_is ∙ out_whole (joined_of ps) counts

  pub any_division_notes : notes_over start_of held ps ≡ notes_of (joined_of ps)
  any_division_notes =
      let zero-sum : 0 + length (joined_of ps) ≡ length (joined_of ps) = omega arith in
      over_text start_of held ps (omega (arith, counts))
      ∙ (λ i. text_by no_tally (handed_is i) ++ last_text (zero-sum i) (tally_by no_tally (handed_is i)))
      ∙ notes_whole (joined_of ps) counts
