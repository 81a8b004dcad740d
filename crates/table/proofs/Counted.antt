-- Laws of a sheet that is made log by log, each log in pieces: what is counted so far, and the lines of it.
-- Assumes nothing.
use Rattle.std.proofs.Common.{◌≡◌, ℕ, ◌+◌, ◌<◌, ◌≤◌, ltb, List, [], ◌∷◌, ◌++◌, length, sym, refl, ap, ◌∙◌, append_assoc, append-nil, arith, length-append, le-ltb}
use lib.Seq.{append_snoc}
use Rattle.runs.proofs.Laws.{split}
use Rattle.pieces.specs.Taken.{joined_of}
use Rattle.pieces.proofs.Walks.{stood_size}
use Rattle.figures.specs.Adding.{added_over}
use Rattle.figures.specs.Code.{no_counts, capped}
use Rattle.figures.specs.Figures.{counts_of}
use Rattle.figures.specs.Sheets.{heard_in}
use Rattle.figures.specs.Taking.{tally_over}
use Rattle.figures.proofs.Walks.{any_division_counts}
use Rattle.table.specs.declared.Input.{Input}
use Rattle.table.specs.Taking.{between_of, first_of, next_input, Stood, next_of, counted_by, log_ended, standing}

-- with these logs added and this part of the next one counted: what comes of any pieces of it and of any logs behind it
pub record Counted (rows₀ : List ℕ) (s : Stood) (done : List (List ℕ)) (part : List ℕ) : Type 0 where
  pub size : length s.held ≡ 49
  pub logs : s.sheet.input.logs ≡ length done
  pub counts : (ps : List (List ℕ)) → length (part ++ joined_of ps) ≤ 18446744073709551615
      → (tally_over s.sheet.tally s.held ps).noted.counts ≡ capped (counts_of (heard_in (part ++ joined_of ps)))
  pub adds : (more : List (List ℕ))
      → added_over s.sheet.totals s.rows (length done) more ≡ added_over no_counts rows₀ 0 (done ++ more)

module _ (rows₀ : List ℕ) where
  pub counted_start : (files : ℕ) (held kept : List ℕ) → length held ≡ 49 → Counted rows₀ (standing files held rows₀ kept) [] []
  unfolding first_of
  counted_start files held kept size =
      record {
        size = size;
        logs = split (ltb 4096 files) (λ t. rw t refl) (λ t. rw t refl);
        counts = λ ps long. any_division_counts held ps size long;
        adds = λ more. refl;
      }

  -- behind a piece of the log, wherever the input stands
  pub counted_by_lem : {s : Stood} {done : List (List ℕ)} {part : List ℕ} (i : Input) (piece : List ℕ)
      → i.logs ≡ s.sheet.input.logs → Counted rows₀ s done part → Counted rows₀ (counted_by s i piece) done (part ++ piece)
  unfolding tally_over joined_of
  counted_by_lem {s} i piece same c =
      record {
        size = stood_size s.sheet.tally.standing s.held piece c.size;
        logs = same ∙ c.logs;
        counts = λ (ps : List (List ℕ)) (long : _). rw append_assoc (c.counts (piece ∷ ps) (rw append_assoc at long));
        adds = c.adds;
      }

  -- behind a log
  pub next_input_lem : {s : Stood} {done : List (List ℕ)} {log : List ℕ} → length done < 4096 → Counted rows₀ s done log
      → (next_of s.sheet).input ≡ between_of s.sheet.input.refusal (length done + 1)
  unfolding next_input
  next_input_lem {s} few c = rw (le-ltb 4095 s.sheet.input.logs (omega (arith, c.logs, few)), c.logs)

  pub counted_log : {s : Stood} {done : List (List ℕ)} {log : List ℕ} → length done < 4096 → length log ≤ 18446744073709551615
      → Counted rows₀ s done log → Counted rows₀ (log_ended s) (done ++ (log ∷ [])) []
  unfolding tally_over joined_of added_over
  counted_log {s} {done} {log} few long c =
      let count : s.sheet.tally.noted.counts ≡ capped (counts_of (heard_in log)) =
      rw append-nil at (c.counts [] (rw (append-nil log) long)) in
      let more : length (done ++ (log ∷ [])) ≡ length done + 1 = length-append done (log ∷ []) in
      record {
        size = c.size;
        logs = ap (λ (i : Input). i.logs) (next_input_lem few c) ∙ sym more;
        counts = λ ps (long : _). any_division_counts s.held ps c.size long;
        adds = λ (logs : List (List ℕ)). rw (more, c.logs, count, append_snoc done log logs) (c.adds (log ∷ logs));
      }
