-- What is printed of standard input, whatever its division among the reads: the table of the logs that it holds, or its refusal.
-- Assumes nothing.
use Rattle.std.proofs.Common.{◌≡◌, ℕ, suc, ◌-◌, ◌≤◌, List, [], ◌∷◌, ◌++◌, length, sym, refl, ap, ◌∙◌, append-nil, arith, ne_eqb}
use Rattle.pieces.specs.Taken.{joined_of}
use Rattle.table.specs.Logs.{are_digits, number_on, Logs, no_logs, logs_to, logs_in}
use Rattle.table.specs.Table.{refused_line, text_of, printed_of}
use Rattle.table.specs.Taking.{last_of, first_of, Stood, lines_of, taken_over, standing, printed_over}
use Rattle.table.proofs.Counted.{counted_start}
use Rattle.table.proofs.Division.{with_logs, input_of, Stands, refused, between, within, past_pieces}
use Rattle.table.proofs.Lengths.{none_left, ends_in_length, ends_in_log}
use Rattle.table.proofs.Printed.{one_line, stopped_last, lines_table}

module _ (all : Logs) where
  told : (refusal : ℕ) → (refusal ≡ 0 → ⊥) → all.refusal ≡ refusal → refused_line refusal ≡ text_of all
  unfolding text_of
  told refusal some is = sym (rw (is, ne_eqb refusal 0 some))

  five : (s : Stood) (done : List (List ℕ)) → last_of (input_of s) ≡ 5 → all ≡ with_logs done (no_logs 5) → lines_of s ≡ text_of all
  five s done last is = one_line s last (λ e. omega (arith, e)) ∙ told 5 (λ e. omega (arith, e)) (ap (λ (l : Logs). l.refusal) is)

module _ {rows₀ : List ℕ} {all : Logs} where
  -- a sheet that is refused, whatever comes
  stopped : {s : Stood} {rest : List ℕ} → Stands rows₀ all s rest → ((input_of s).refusal ≡ 0 → ⊥) → lines_of s ≡ text_of all
  stopped {s} (refused some is) stops = one_line s (stopped_last (input_of s) some) some ∙ told all (input_of s).refusal some is
  stopped (between done ds c b is) stops = absurd (stops b.none)
  stopped (within done part c w is) stops = absurd (stops w.none)

  -- a sheet at the input's end
  ended : {s : Stood} → 40960 ≤ length rows₀ → Stands rows₀ all s [] → lines_of s ≡ text_of all
  unfolding last_of text_of
  ended {s} room (refused some is) = stopped {s = s} {rest = []} (refused some is) some
  ended {s} room (between done [] c b is) =
      let last : last_of (input_of s) ≡ 0 = rw (b.none, b.out, b.digits) in
      let none : all ≡ record { refusal = 0; logs = done } =
      is
      ∙ ap (with_logs done) (none_left (4096 - length done))
      ∙ ap (λ (l : List (List ℕ)). record { refusal = 0; logs = l }) (append-nil done) in
      lines_table rows₀ room c b.few last ∙ sym (ap text_of none)
  ended {s} room (between done (d ∷ ds) c b is) =
      let last : last_of (input_of s) ≡ 5 = rw (b.none, b.out, b.digits, ne_eqb (suc (length ds)) 0 (λ e. omega (arith, e))) in
      let left : 4096 - length done ≡ suc (4095 - length done) = omega (arith, b.last) in
      five all s done last
      (is
      ∙ ap (λ (l : List ℕ). with_logs done (logs_to (4096 - length done) l)) (append-nil (d ∷ ds))
      ∙ ap (λ (n : ℕ). with_logs done (logs_to n (d ∷ ds))) left
      ∙ ap (with_logs done) (ends_in_length (4095 - length done) (d ∷ ds) b.are (λ e. omega (arith, e))))
  ended {s} room (within done part c w is) =
      let last : last_of (input_of s) ≡ 5 = rw (w.none, ne_eqb (input_of s).left 0 w.some) in
      five all s done last
      (is ∙ ap (with_logs done) (ends_in_log (4095 - length done) part (input_of s).left w.some))

-- standard input
module _ (held rows kept : List ℕ) (size : length held ≡ 49) where
  started : (ps : List (List ℕ)) (rest : List ℕ)
      → Stands rows (logs_in (joined_of ps ++ rest)) (taken_over (standing 0 held rows kept) ps) rest
  unfolding first_of are_digits number_on
  started ps rest =
      past_pieces rows (logs_in (joined_of ps ++ rest)) (standing 0 held rows kept) ps rest
      (between [] [] (counted_start rows 0 held kept size)
      (record {
        none = refl;
        out = refl;
        are = refl;
        digits = refl;
        number = refl;
        short = omega arith;
        fits = omega arith;
        few = omega arith;
        last = omega arith;
      })
      refl)

  -- "what is printed is a definition over the log": however the input is divided among the reads, it is that of the whole input
  pub any_division_table : (ps : List (List ℕ)) → 40960 ≤ length rows → printed_over held rows kept ps ≡ printed_of (joined_of ps)
  any_division_table ps room = ended room (started ps []) ∙ ap printed_of (append-nil (joined_of ps))

  -- behind a refusal nothing more need be read: whatever comes, it is what is printed of the whole input
  pub refused_early : (ps : List (List ℕ)) (rest : List ℕ)
      → ((taken_over (standing 0 held rows kept) ps).sheet.input.refusal ≡ 0 → ⊥)
      → printed_over held rows kept ps ≡ printed_of (joined_of ps ++ rest)
  refused_early ps rest some = stopped (started ps rest) some
