-- A step on a watch's octets, by what the step by value answered.
-- Assumes nothing.
use mathlib.Core.List.{List, [], ◌∷◌}
use mathlib.Core.Path.{◌≡◌, refl, sym, ◌∙◌, ap}
use Prim.Native.Nat.{ℕ}
use borrow.Author.Tests.{eq-eqb, ne_eqb}
use lib.ListN.{get_or}
use Rattle.std.proofs.Common.{Result, Ok, Err}
use Rattle.refusals.specs.declared.Refusal.{Refusal}
use Rattle.refusals.specs.Refusals.{number_of}
use Rattle.refusals.proofs.Laws.{number_not_0}
use Rattle.slips.specs.declared.Slip.{Slip}
use Rattle.slips.specs.Watch.{Stepped, step_of}
use Rattle.slips.specs.Known.{what_of, cells_of, stepped_from, watch_in, octets_in}
use Rattle.rimesatchel.specs.Watches.{watch_of, watch_octets, slipped_of, SlippedOctets}

module _ (watch report : List ℕ) {s : Stepped} (is : s ≡ slipped_of watch report) where
  tells_it : s.what ∷ s.cells ∷ [] ≡ (slipped_of watch report).what ∷ (slipped_of watch report).cells ∷ []
  tells_it = ap (λ (x : Stepped). x.what ∷ x.cells ∷ []) is

  pub slip_refused : (s.refusal ≡ 0 → ⊥) → SlippedOctets watch report s.refusal watch (s.what ∷ s.cells ∷ [])
  slip_refused some =
      let refusal = ap (λ (x : Stepped). x.refusal) is in
      record {
        refused = refusal;
        leaves = rw (ne_eqb (slipped_of watch report).refusal 0 (λ e. some (refusal ∙ e)));
        tells = tells_it;
      }

  pub slip_taken : s.refusal ≡ 0 → {left : List ℕ} → left ≡ watch_octets s.watch
      → SlippedOctets watch report 0 left (s.what ∷ s.cells ∷ [])
  slip_taken none leaves =
      let refusal = ap (λ (x : Stepped). x.refusal) is in
      record {
        refused = sym none ∙ refusal;
        leaves =
            leaves ∙ ap (λ (x : Stepped). watch_octets x.watch) is
            ∙ rw (eq-eqb (slipped_of watch report).refusal 0 (sym refusal ∙ none));
        tells = tells_it;
      }

module _ (watch report : List ℕ) where
  -- the step by octets, of those of the watch and of the report
  abbrev stepped_by : Result (List ℕ × Slip) Refusal → Type 0
  stepped_by result = stepped_from watch result ≡ step_of (watch_in watch) (get_or report 0 0) (get_or report 1 0) (get_or report 2 0)

  pub report_refused : (refusal : Refusal) → stepped_by (Err refusal) → SlippedOctets watch report (number_of refusal) watch (0 ∷ 0 ∷ [])
  unfolding watch_of
  report_refused refusal is = slip_refused watch report is (number_not_0 refusal)

  pub step_taken : (r : List ℕ × Slip) → stepped_by (Ok r) → r.0 ≡ octets_in (watch_in r.0)
      → SlippedOctets watch report 0 r.0 (what_of r.1 ∷ cells_of r.1 ∷ [])
  unfolding watch_of watch_octets
  step_taken r is leaves = slip_taken watch report is refl leaves
