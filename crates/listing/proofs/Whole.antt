-- However a log is divided, what is written is the list of the whole log, and no count wraps.
-- Assumes nothing.
use Rattle.std.proofs.Common.{◌≡◌, ℕ, suc, ◌+◌, ◌-◌, ◌*◌, ◌%◌, ◌^◌, ◌<◌, ◌≤◌, true, false, cond, not, eqb, List, [], ◌∷◌, ◌++◌, map, length, take, sym, refl, ap, ◌∙◌, append_assoc, append-nil, mod-eq_of_lt, arith}
use Rattle.runs.proofs.Laws.{split}
use Rattle.cell_log.specs.Records.{header_of}
use Rattle.receiver.specs.declared.Receiver.{Receiver}
use Rattle.receiver.specs.declared.Received.{Received}
use Rattle.reading.specs.Heard.{Heard, hear, heard_by, onward, heard_from, is_sound, sound_in, missing_in, refused_in}
use Rattle.reading.specs.Reading.{fresh_of, behind_header}
use Rattle.reading.specs.Records.{Whole}
use Rattle.reading.specs.Totals.{total_of}
use Rattle.reading.proofs.Heard.{missing_few, refused_missing}
use Rattle.reading.proofs.Records.{octets_counted}
use Rattle.pieces.specs.Limit.{Part, whole, records_to, fault_to, end_part, parts_of}
use Rattle.pieces.specs.Steps.{taking_of, stood_of, handed_over}
use Rattle.pieces.specs.Taken.{Taking, after, handed, joined_of}
use Rattle.pieces.proofs.Octets.{handed_joined}
use Rattle.pieces.proofs.Walks.{stood_state, stood_size, division_parts}
use Rattle.text.proofs.Short.{take_to}
use Rattle.listing.specs.declared.Listing.{Listing}
use Rattle.listing.specs.declared.Tally.{Tally}
use Rattle.listing.specs.Lines.{format_line, broken_line, end_line, log_refused_line}
use Rattle.listing.specs.List.{line_of, lines_of, end_lines, heard_to, list_to}
use Rattle.listing.specs.Taking.{
  judged_whole,
  after_of,
  end_text,
  part_text,
  part_tally,
  text_of,
  tally_of,
  no_tally,
  start_of,
  piece_parts,
  piece_text,
  listing_after,
  written_over_of,
  listing_over,
}
use Rattle.listing.proofs.Texts.{text_joined, tally_joined, end_part_lem}

abbrev counted : Receiver → ℕ → ℕ → ℕ → ℕ → Tally
counted st n s m f = record { state = st; records = n; sound = s; missing = m; refused = f }

-- the fault and the end line, by the counts alone
end_same : (st st' : Receiver) (fault : ℕ) {n n' s s' m m' f f' : ℕ} → n ≡ n' → s ≡ s' → m ≡ m' → f ≡ f'
    → end_text (counted st n s m f) fault ≡ end_text (counted st' n' s' m' f') fault
unfolding end_text
end_same st st' fault a b c d i =
    cond (eqb fault 0) (end_line (b i) (c i) (d i)) (broken_line (a i) fault ++ end_line (b i) (c i) (d i))

-- a record that is judged: no count wraps
module _ (st : Receiver) (w : Whole) (n s m f : ℕ) (few : n < 4294967296) (s-to : s ≤ n) (m-to : m ≤ 14 * n) (f-to : f ≤ n) where
  abbrev h : Heard
  h = hear st w

  judged_is : judged_whole st w ≡ h.answer
  unfolding hear
  judged_is = refl

  past_sound_lem : is_sound h ≡ true → after_of (counted st n s m f) h.answer ≡ counted (onward h) (n + 1) (s + 1) (m + h.answer.missing) f
  unfolding after_of
  past_sound_lem e =
      let a : (n + 1) % 2 ^ 64 ≡ n + 1 = mod-eq_of_lt (omega arith) in
      let b : (s + 1) % 2 ^ 64 ≡ s + 1 = mod-eq_of_lt (omega arith) in
      let c : (m + h.answer.missing) % 2 ^ 64 ≡ m + h.answer.missing = mod-eq_of_lt (omega (arith, missing_few st w)) in
      rw (e, a, b, c)

  past_refused : is_sound h ≡ false → after_of (counted st n s m f) h.answer ≡ counted (onward h) (n + 1) s m (f + 1)
  unfolding after_of
  past_refused e =
      let a : (n + 1) % 2 ^ 64 ≡ n + 1 = mod-eq_of_lt (omega arith) in
      let d : (f + 1) % 2 ^ 64 ≡ f + 1 = mod-eq_of_lt (omega arith) in
      rw (e, a, d)

-- the lines of records, and what stops them
text_records : (st : Receiver) (n s m f : ℕ) (ws : List Whole) (fault : ℕ) → n + length ws ≤ 4294967296 → s ≤ n → m ≤ 14 * n → f ≤ n
    → text_of (counted st n s m f) (map whole ws ++ end_part fault)
    ≡ lines_of n (heard_from st ws)
    ++ end_text
    (counted st (n + length (heard_from st ws)) (s + sound_in (heard_from st ws)) (m + missing_in (heard_from st ws)) (f + refused_in (heard_from st ws)))
    fault
unfolding text_of part_text part_tally lines_of heard_by total_of
text_records st n s m f [] fault few s-to m-to f-to =
    sym (end_part_lem (counted st n s m f) fault)
    ∙ end_same st st fault {n = n} {n' = n + 0} {s = s} {s' = s + 0} {m = m} {m' = m + 0} {f = f} {f' = f + 0}
    (omega arith) (omega arith) (omega arith) (omega arith)
text_records st n s m f (w ∷ ws) fault few s-to m-to f-to =
    let h : Heard = hear st w in
    let hs : List Heard = heard_from (onward h) ws in
    let rest : List Part = map whole ws ++ end_part fault in
    let line : List ℕ = line_of n h.answer in
    let lines : List ℕ = lines_of (n + 1) hs in
    let a : n + 1 + length hs ≡ n + suc (length hs) = omega arith in
    let judged : line_of n (judged_whole st w) ++ text_of (after_of (counted st n s m f) (judged_whole st w)) rest
    ≡ line ++ text_of (after_of (counted st n s m f) h.answer) rest =
    ap (λ (got : Received). line_of n got ++ text_of (after_of (counted st n s m f) got) rest) (judged_is st w n s m f (omega arith) s-to m-to f-to) in
    split (is_sound h)
    (λ e.
    let b : s + 1 + sound_in hs ≡ s + (cond (is_sound h) 1 0 + sound_in hs) = rw e (omega arith) in
    let c : m + h.answer.missing + missing_in hs ≡ m + (h.answer.missing + missing_in hs) = omega arith in
    let d : f + refused_in hs ≡ f + (cond (not (is_sound h)) 1 0 + refused_in hs) = rw e (omega arith) in
    let end : List ℕ = end_text (counted (onward h) (n + 1 + length hs) (s + 1 + sound_in hs) (m + h.answer.missing + missing_in hs) (f + refused_in hs)) fault in
    let more : text_of (counted (onward h) (n + 1) (s + 1) (m + h.answer.missing) f) rest ≡ lines ++ end =
    text_records (onward h) (n + 1) (s + 1) (m + h.answer.missing) f ws fault (omega arith) (omega arith) (omega (arith, missing_few st w)) (omega arith) in
    judged
    ∙ ap (λ (u : Tally). line ++ text_of u rest) (past_sound_lem st w n s m f (omega arith) s-to m-to f-to e)
    ∙ ap (λ (l : List ℕ). line ++ l) more
    ∙ sym (append_assoc line lines end)
    ∙ ap (λ (l : List ℕ). (line ++ lines) ++ l) (end_same (onward h) st fault a b c d))
    (λ e.
    let none : h.answer.missing ≡ 0 = refused_missing st w e in
    let b : s + sound_in hs ≡ s + (cond (is_sound h) 1 0 + sound_in hs) = rw e (omega arith) in
    let c : m + missing_in hs ≡ m + (h.answer.missing + missing_in hs) = omega (arith, none) in
    let d : f + 1 + refused_in hs ≡ f + (cond (not (is_sound h)) 1 0 + refused_in hs) = rw e (omega arith) in
    let end : List ℕ = end_text (counted (onward h) (n + 1 + length hs) (s + sound_in hs) (m + missing_in hs) (f + 1 + refused_in hs)) fault in
    let more : text_of (counted (onward h) (n + 1) s m (f + 1)) rest ≡ lines ++ end =
    text_records (onward h) (n + 1) s m (f + 1) ws fault (omega arith) (omega arith) (omega arith) (omega arith) in
    judged
    ∙ ap (λ (u : Tally). line ++ text_of u rest) (past_refused st w n s m f (omega arith) s-to m-to f-to e)
    ∙ ap (λ (l : List ℕ). line ++ l) more
    ∙ sym (append_assoc line lines end)
    ∙ ap (λ (l : List ℕ). (line ++ lines) ++ l) (end_same (onward h) st fault a b c d))

module _ (limit : ℕ) (long : limit ≤ 4294967295) (log : List ℕ) where
  abbrev records : List Whole
  records = records_to (limit - 3) (behind_header log)

  -- there are fewer records than octets within the limit
  few : length records ≤ 4294967295
  unfolding records_to
  few =
      omega (
        arith,
        octets_counted (take (limit - 3) (behind_header log)),
        take_to (limit - 3) (behind_header log),
      )

  abbrev heard : List Heard
  heard = heard_to limit log

  end_is : (st : Receiver) (fault : ℕ)
      → end_text (counted st (0 + length heard) (0 + sound_in heard) (0 + missing_in heard) (0 + refused_in heard)) fault ≡ end_lines heard fault
  unfolding end_text end_lines
  end_is st fault =
      let a : 0 + length heard ≡ length heard = omega arith in
      let b : 0 + sound_in heard ≡ sound_in heard = omega arith in
      let c : 0 + missing_in heard ≡ missing_in heard = omega arith in
      let d : 0 + refused_in heard ≡ refused_in heard = omega arith in
      end_same st st fault a b c d

  pub text_whole : text_of no_tally (parts_of limit log) ≡ list_to limit log
  unfolding parts_of list_to text_of part_text part_tally
  text_whole =
      split (eqb (header_of log).refusal 0)
      (λ e.
      let line : List ℕ = format_line (header_of log).format (header_of log).channels (header_of log).order in
      let fault' : ℕ = fault_to (limit - 3) (behind_header log) in
      rw e (ap (λ (l : List ℕ). line ++ l)
      (text_records (fresh_of (header_of log)) 0 0 0 0 records fault' (omega (arith, few)) (omega arith) (omega arith) (omega arith)
      ∙ ap (λ (l : List ℕ). lines_of 0 heard ++ l) (end_is (fresh_of (header_of log)) fault'))))
      (λ e. rw e (append-nil (log_refused_line (header_of log).refusal)))

-- what is written over pieces is the text of what they hand out
over_text : (l : Listing) (held : List ℕ) (ps : List (List ℕ)) → written_over_of l held ps ≡ text_of l.tally (handed_over l.standing held ps)
unfolding written_over_of handed_over
over_text l held [] = refl
over_text l held (p ∷ ps) =
    ap (λ (text : List ℕ). piece_text l held p ++ text) (over_text (listing_after l held p) (stood_of l.standing held p).held ps)
    ∙ sym (text_joined l.tally (piece_parts l held p) (handed_over (stood_of l.standing held p).standing (stood_of l.standing held p).held ps))

-- "However the log is divided among the reads, the lines printed .. are those of the whole", and no count wraps up to that length
pub any_division_list : (limit : ℕ) (held : List ℕ) (ps : List (List ℕ)) → limit ≤ 4294967295 → length held ≡ 49
    → written_over_of (start_of limit) held ps ≡ list_to limit (joined_of ps)
any_division_list limit held ps long size =
    over_text (start_of limit) held ps ∙ ap (text_of no_tally) (division_parts limit held ps size) ∙ text_whole limit long (joined_of ps)

-- "and the state at the end": the counts and the receiver behind pieces are those behind the joined log in one piece
pub any_division_tally : (l : Listing) (held : List ℕ) (ps : List (List ℕ)) → length held ≡ 49
    → (listing_over l held ps).tally ≡ tally_of l.tally (handed (taking_of l.standing held) (joined_of ps))
unfolding listing_over joined_of handed tally_of
any_division_tally l held [] size = refl
any_division_tally l held (p ∷ ps) size =
    any_division_tally (listing_after l held p) (stood_of l.standing held p).held ps (stood_size l.standing held p size)
    ∙ ap (λ (t : Taking). tally_of (tally_of l.tally (piece_parts l held p)) (handed t (joined_of ps))) (stood_state l.standing held p size)
    ∙ sym (tally_joined l.tally (piece_parts l held p) (handed (after (taking_of l.standing held) p) (joined_of ps)))
    ∙ ap (tally_of l.tally) (sym (handed_joined (taking_of l.standing held) p (joined_of ps)))
