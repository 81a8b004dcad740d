-- What a call of the sender leaves: the next state, and octets.
-- Assumes nothing.
use mathlib.Core.Bool.{Bool, true, false, cond, ◌&&◌}
use mathlib.Core.List.{List, [], ◌∷◌, ◌++◌}
use mathlib.Core.Path.{◌≡◌, refl, sym, ◌∙◌, ap}
use Prim.Native.Nat.{ℕ, zero, suc, ◌+◌, ◌%◌, ◌<◌}
use native.Mathlib.Nat.{mod-lt}
use native.Mathlib.Omega.{arith}
use borrow.Author.Tests.{eqb-true, not-false}
use lib.Dec.{ltb}
use lib.ListN.{get_or}
use Rattle.runs.specs.Runs.{joined, octets_of}
use Rattle.runs.proofs.Laws.{past_both, past, neither}
use Rattle.formats.specs.Formats.{settings_refusal}
use Rattle.cells.specs.Cells.{cell_of, slot_octets}
use Rattle.sender.specs.Sender as S
use Rattle.line.specs.Calls.{SendCall, MeetsSend}
use Rattle.line.specs.Demands.{send_table}
use Rattle.line.proofs.Cells.{sent_refusal, next_state, written_is}
use Rattle.pages.specs.Boxes.{GoesOn}

-- lists of octets: each entry, and 0 past the end
abbrev Small : List ℕ → Type 0
Small octets = (i : ℕ) → get_or octets i 0 < 256

small_both : (xs ys : List ℕ) → Small xs → Small ys → Small (xs ++ ys)
small_both [] ys hx hy i = hy i
small_both (x ∷ xs) ys hx hy zero = hx 0
small_both (x ∷ xs) ys hx hy (suc i) = small_both xs ys (λ j. hx (suc j)) hy i

small_octets : (w n : ℕ) → Small (octets_of w n)
unfolding octets_of
small_octets zero n i = omega arith
small_octets (suc w) n zero = mod-lt _ (omega arith)
small_octets (suc w) n (suc i) = small_octets w n i

small_joined : (g : ℕ → List ℕ) (n : ℕ) → ((k : ℕ) → Small (g k)) → Small (joined g n)
unfolding joined
small_joined g zero all i = omega arith
small_joined g (suc n) all i = small_both (joined g n) (g n) (small_joined g n all) (all n) i

-- the second number's rule, by its three conditions
both_needed : (wanted indication sent : Bool) (x y : ℕ) → wanted ≡ true → indication ≡ true → sent ≡ true
    → cond (wanted && (indication && sent)) x y ≡ x
both_needed wanted indication sent x y w i b = λ k. cond (w k && (i k && b k)) x y

not_first : (wanted indication sent : Bool) (x y : ℕ) → sent ≡ false → cond (wanted && (indication && sent)) x y ≡ y
not_first true true sent x y b = λ k. cond (b k) x y
not_first true false sent x y b = refl
not_first false indication sent x y b = refl

not_indicated : (wanted indication sent : Bool) (x y : ℕ) → indication ≡ false → cond (wanted && (indication && sent)) x y ≡ y
not_indicated true indication sent x y i = λ k. cond (i k && sent) x y
not_indicated false indication sent x y i = refl

not_wanted_stays : (wanted rest : Bool) (x y : ℕ) → wanted ≡ false → cond (wanted && rest) x y ≡ y
not_wanted_stays wanted rest x y w = λ k. cond (w k && rest) x y

unwanted : (wanted a b : Bool) → wanted ≡ false → cond wanted a b ≡ false → b ≡ false
unwanted wanted a b w e = (λ k. cond (sym w k) a b) ∙ e

module _ (s : SendCall) (meets : MeetsSend s) (sent : s.answer.refusal ≡ 0) where
  pub sent_octets : Small s.written
  unfolding S.cell_now cell_of slot_octets
  sent_octets i =
      rw (written_is s meets sent)
      (small_joined _ (S.format_now s.state).slots (λ k. small_octets (S.format_now s.state).width _) i)

  second_is : s.answer.state.second ≡ S.second_now s.state s.indication
  unfolding S.after
  second_is = ap (λ x. x.second) (next_state s meets sent)

  -- a sender that doesn't keep second numbers has 0: check 4 passed
  none_kept : s.state.wanted ≡ false → s.state.second ≡ 0
  unfolding S.send_refusal S.state_refusal S.numbers_refused
  none_kept not-wanted =
      let none : send_table s ≡ 0 = sym (sent_refusal s meets) ∙ sent in
      let state = (past_both (S.state_refusal s.state) _ none).0 in
      let fourth = (past (S.numbers_refused s.state) 3 0 (past_both (settings_refusal s.state.format s.state.channels s.state.order) _ state).1).0 in
      let later = (neither (ltb 15 s.state.second) _ (neither (ltb 15 s.state.number) _ fourth).1).1 in
      eqb-true s.state.second 0 (not-false _ (unwanted s.state.wanted _ _ not-wanted later))

  pub goes_on : GoesOn s
  unfolding S.after S.second_now
  goes_on =
      let next = next_state s meets sent in
      record {
        format = ap (λ x. x.format) next;
        channels = ap (λ x. x.channels) next;
        order = ap (λ x. x.order) next;
        wanted = ap (λ x. x.wanted) next;
        sent = ap (λ x. x.sent) next;
        number = ap (λ x. x.number) next;
        carried = second_is;
        adds = λ wanted indicated begun. second_is ∙ both_needed s.state.wanted s.indication s.state.sent ((s.state.second + 1) % 16) s.state.second wanted indicated begun;
        first = λ begun. second_is ∙ not_first s.state.wanted s.indication s.state.sent ((s.state.second + 1) % 16) s.state.second begun;
        else_stays = λ indicated. second_is ∙ not_indicated s.state.wanted s.indication s.state.sent ((s.state.second + 1) % 16) s.state.second indicated;
        not_kept_lem = λ not-wanted. second_is ∙ not_wanted_stays s.state.wanted (s.indication && s.state.sent) ((s.state.second + 1) % 16) s.state.second not-wanted ∙ none_kept not-wanted;
      }
