-- The receiver's state and the counts behind a log's pieces are those of the whole log's records.
-- Assumes nothing.
use mathlib.Core.Bool.{true, false, cond, not}
use mathlib.Core.List.{List, [], ◌∷◌, ◌++◌, map}
use mathlib.Core.Path.{◌≡◌, sym, ◌∙◌, ap}
use Prim.Native.Nat.{ℕ, suc, ◌+◌, ◌*◌, ◌%◌, ◌-◌, ◌^◌, ◌≤◌, ◌<◌}
use native.Mathlib.Nat.{mod-eq_of_lt}
use native.Mathlib.Omega.{arith}
use lib.Dec.{eqb, ltb}
use lib.ListN.{length, take}
use Rattle.text.proofs.Short.{take_to}
use Rattle.runs.proofs.Laws.{split}
use Rattle.cell_log.specs.Records.{header_of}
use Rattle.receiver.specs.declared.Receiver.{Receiver}
use Rattle.reading.specs.Records.{Whole}
use Rattle.reading.specs.Heard.{Heard, heard_by, end_by, hear, onward, heard_from, end_of, is_sound, sound_in, missing_in, refused_in}
use Rattle.reading.specs.Reading.{fresh_of, behind_header}
use Rattle.reading.specs.Totals.{total_of}
use Rattle.reading.proofs.Heard.{missing_few, refused_missing}
use Rattle.reading.proofs.Records.{octets_counted}
use Rattle.pieces.specs.Limit.{Part, whole, records_to, fault_to, end_part, parts_of}
use Rattle.pieces.specs.Steps.{taking_of, stood_of, handed_over}
use Rattle.pieces.specs.Taken.{Taking, end_parts, joined_of}
use Rattle.pieces.proofs.Walks.{division_parts}
use Rattle.listing.specs.declared.Listing.{Listing}
use Rattle.listing.specs.declared.Tally.{Tally}
use Rattle.listing.specs.List.{heard_to}
use Rattle.listing.specs.Taking.{
  judged_whole,
  after_of,
  part_tally,
  tally_of,
  no_tally,
  start_of,
  piece_parts,
  listing_after,
  listing_over,
}
use Rattle.listing.proofs.Texts.{tally_joined}

abbrev pub counted : Receiver → ℕ → ℕ → ℕ → ℕ → Tally
counted st records sound missing refused = record { state = st; records = records; sound = sound; missing = missing; refused = refused }

-- what stops a log counts nothing
stop_counts : (t : Tally) (fault : ℕ) → tally_of t (end_part fault) ≡ t
unfolding tally_of part_tally end_part
stop_counts t fault = split (eqb fault 0) (λ e. rw e) (λ e. rw e)

end_counts : (t : Tally) (taking : Taking) → tally_of t (end_parts taking) ≡ t
unfolding tally_of part_tally end_parts
end_counts t taking =
    split (eqb taking.stage 0) (λ e. rw e)
    (λ e. split (eqb taking.stage 1) (λ f. rw (e, f) (stop_counts t (cond (ltb 0 (length taking.part)) 12 0))) (λ f. rw (e, f)))

-- the counts behind pieces are those of what they hand out
over_tally : (l : Listing) (held : List ℕ) (ps : List (List ℕ))
    → (listing_over l held ps).tally ≡ tally_of l.tally (handed_over l.standing held ps)
unfolding listing_over handed_over
over_tally l held [] = sym (end_counts l.tally (taking_of l.standing held))
over_tally l held (p ∷ ps) =
    over_tally (listing_after l held p) (stood_of l.standing held p).held ps
    ∙ sym (tally_joined l.tally (piece_parts l held p) (handed_over (stood_of l.standing held p).standing (stood_of l.standing held p).held ps))

counts_same : (st : Receiver) {n n' s s' m m' f f' : ℕ} → n ≡ n' → s ≡ s' → m ≡ m' → f ≡ f' → counted st n s m f ≡ counted st n' s' m' f'
counts_same st a b c d = λ i. counted st (a i) (b i) (c i) (d i)

-- past a record no count wraps
module _ (st : Receiver) (w : Whole) (n s m f : ℕ) (few : n < 4294967296) (s-to : s ≤ n) (m-to : m ≤ 14 * n) (f-to : f ≤ n) where
  abbrev h : Heard
  h = hear st w

  past_sound_lem : is_sound h ≡ true
      → after_of (counted st n s m f) (judged_whole st w) ≡ counted (onward h) (n + 1) (s + 1) (m + h.answer.missing) f
  unfolding after_of hear
  past_sound_lem e =
      let a : (n + 1) % 2 ^ 64 ≡ n + 1 = mod-eq_of_lt (omega arith) in
      let b : (s + 1) % 2 ^ 64 ≡ s + 1 = mod-eq_of_lt (omega arith) in
      let c : (m + h.answer.missing) % 2 ^ 64 ≡ m + h.answer.missing = mod-eq_of_lt (omega (arith, missing_few st w)) in
      rw (e, a, b, c)

  past_refused : is_sound h ≡ false → after_of (counted st n s m f) (judged_whole st w) ≡ counted (onward h) (n + 1) s m (f + 1)
  unfolding after_of hear
  past_refused e =
      let a : (n + 1) % 2 ^ 64 ≡ n + 1 = mod-eq_of_lt (omega arith) in
      let d : (f + 1) % 2 ^ 64 ≡ f + 1 = mod-eq_of_lt (omega arith) in
      rw (e, a, d)

-- those of records, and what stops them; no count wraps
tally_records : (st : Receiver) (n s m f : ℕ) (ws : List Whole) (fault : ℕ) → n + length ws ≤ 4294967296 → s ≤ n → m ≤ 14 * n → f ≤ n
    → tally_of (counted st n s m f) (map whole ws ++ end_part fault)
    ≡ counted (end_of st (heard_from st ws)) (n + length (heard_from st ws)) (s + sound_in (heard_from st ws)) (m + missing_in (heard_from st ws))
    (f + refused_in (heard_from st ws))
unfolding tally_of part_tally heard_by end_by total_of
tally_records st n s m f [] fault few s-to m-to f-to =
    stop_counts (counted st n s m f) fault
    ∙ counts_same st {n = n} {n' = n + 0} {s = s} {s' = s + 0} {m = m} {m' = m + 0} {f = f} {f' = f + 0} (omega arith) (omega arith) (omega arith) (omega arith)
tally_records st n s m f (w ∷ ws) fault few s-to m-to f-to =
    let h : Heard = hear st w in
    let hs : List Heard = heard_from (onward h) ws in
    let rest : List Part = map whole ws ++ end_part fault in
    let end : Receiver = end_of (onward h) hs in
    let a : n + 1 + length hs ≡ n + suc (length hs) = omega arith in
    split (is_sound h)
    (λ e.
    let b : s + 1 + sound_in hs ≡ s + (cond (is_sound h) 1 0 + sound_in hs) = rw e (omega arith) in
    let c : m + h.answer.missing + missing_in hs ≡ m + (h.answer.missing + missing_in hs) = omega arith in
    let d : f + refused_in hs ≡ f + (cond (not (is_sound h)) 1 0 + refused_in hs) = rw e (omega arith) in
    ap (λ (t : Tally). tally_of t rest) (past_sound_lem st w n s m f (omega arith) s-to m-to f-to e)
    ∙ tally_records (onward h) (n + 1) (s + 1) (m + h.answer.missing) f ws fault (omega arith) (omega arith)
    (omega (arith, missing_few st w)) (omega arith)
    ∙ counts_same end a b c d)
    (λ e.
    let none : h.answer.missing ≡ 0 = refused_missing st w e in
    let b : s + sound_in hs ≡ s + (cond (is_sound h) 1 0 + sound_in hs) = rw e (omega arith) in
    let c : m + missing_in hs ≡ m + (h.answer.missing + missing_in hs) = omega (arith, none) in
    let d : f + 1 + refused_in hs ≡ f + (cond (not (is_sound h)) 1 0 + refused_in hs) = rw e (omega arith) in
    ap (λ (t : Tally). tally_of t rest) (past_refused st w n s m f (omega arith) s-to m-to f-to e)
    ∙ tally_records (onward h) (n + 1) s m (f + 1) ws fault (omega arith) (omega arith) (omega arith) (omega arith)
    ∙ counts_same end a b c d)

pub ended : (limit : ℕ) (held : List ℕ) (ps : List (List ℕ)) → limit ≤ 4294967295 → length held ≡ 49 → (header_of (joined_of ps)).refusal ≡ 0
    → (listing_over (start_of limit) held ps).tally
    ≡ counted (end_of (fresh_of (header_of (joined_of ps))) (heard_to limit (joined_of ps))) (length (heard_to limit (joined_of ps)))
    (sound_in (heard_to limit (joined_of ps))) (missing_in (heard_to limit (joined_of ps))) (refused_in (heard_to limit (joined_of ps)))
unfolding parts_of tally_of part_tally records_to
ended limit held ps long size taken =
    let log : List ℕ = joined_of ps in
    let heard : List Heard = heard_to limit log in
    let few : length (records_to (limit - 3) (behind_header log)) ≤ 4294967295
    = omega (arith, octets_counted (take (limit - 3) (behind_header log)), take_to (limit - 3) (behind_header log)) in
    let a : 0 + length heard ≡ length heard = omega arith in
    let b : 0 + sound_in heard ≡ sound_in heard = omega arith in
    let c : 0 + missing_in heard ≡ missing_in heard = omega arith in
    let d : 0 + refused_in heard ≡ refused_in heard = omega arith in
    over_tally (start_of limit) held ps
    ∙ ap (tally_of no_tally) (division_parts limit held ps size)
    ∙ (rw taken)
    ∙ tally_records (fresh_of (header_of log)) 0 0 0 0 (records_to (limit - 3) (behind_header log)) (fault_to (limit - 3) (behind_header log))
    (omega (arith, few)) (omega arith) (omega arith) (omega arith)
    ∙ counts_same (end_of (fresh_of (header_of log)) heard) a b c d
