-- The number that the paper defines at a place is the one that the code reads there, one group after the other.
-- Assumes nothing.
use mathlib.Core.Bool.{false, ◌&&◌}
use mathlib.Core.List.{List}
use mathlib.Core.Path.{◌≡◌, refl, sym, ◌∙◌, ap}
use Prim.Native.Nat.{ℕ, ◌+◌, ◌-◌, ◌*◌, ◌%◌, ◌≤◌, ◌<◌}
use native.Mathlib.Omega.{arith}
use borrow.Author.Tests.{lt-ltb, le-ltb, eq-eqb, ne_eqb, ltb-true, ltb-false, leb-true, leb-false, eqb-true, eqb-false}
use lib.Dec.{eqb, leb, ltb}
use lib.ListN.{length, get_or, get_or-eq_default}
use Rattle.runs.proofs.Laws.{split}
use Rattle.cell_log.specs.Answers.{Number}
use Rattle.cell_log.specs.Code.{behind, number_within}
use Rattle.cell_log.specs.Numbers.{groups_at, is_cut, is_long, is_padded, value_at, number, no_number_of, number_at}
use Rattle.cell_log.proofs.Laws.{number_none, number_cut, number_whole, number_more}

behind_none : (group : ℕ) {more : Number} → more ≡ no_number_of → behind group more ≡ no_number_of
unfolding behind
behind_none group e = rw e

behind_zero : (group next : ℕ) {value : ℕ} → value ≡ 0 → behind group (number value next) ≡ no_number_of
unfolding behind
behind_zero group next {value} e = rw (eq-eqb value 0 e)

behind_some : (group next : ℕ) {value : ℕ} → (value ≡ 0 → ⊥) → behind group (number value next) ≡ number (group % 128 + value * 128) next
unfolding behind
behind_some group next {value} some = rw (ne_eqb value 0 some)

module _ (log : List ℕ) (at : ℕ) where
  -- what a number is, by how many groups it has
  module _ {groups : ℕ} (many : groups_at log at ≡ groups) where
    is_cut_lem : length log < at + groups → number_at log at ≡ no_number_of
    unfolding number_at is_cut
    is_cut_lem h = rw (many, lt-ltb (length log) (at + groups) h)

    is_long_lem : 3 < groups → number_at log at ≡ no_number_of
    unfolding number_at is_long
    is_long_lem h = split (is_cut log at) (λ e. rw e) (λ e. rw (e, many, lt-ltb 3 groups h))

    is_padded_lem : 1 < groups → get_or log (at + groups - 1) 0 ≡ 0 → number_at log at ≡ no_number_of
    unfolding number_at is_padded
    is_padded_lem h last =
        split (is_cut log at) (λ e. rw e) (λ e.
        split (is_long log at) (λ f. rw (e, f)) (λ f. rw (e, f, many, lt-ltb 1 groups h, last)))

    is_whole : at + groups ≤ length log → groups ≤ 3 → ltb 1 groups && eqb (get_or log (at + groups - 1) 0) 0 ≡ false
        → number_at log at ≡ number (value_at groups log at) (at + groups)
    unfolding number_at is_cut is_long is_padded
    is_whole h few shortest = rw (many, le-ltb (length log) (at + groups) h, le-ltb 3 groups few, shortest)

  one : get_or log at 0 < 128 → groups_at log at ≡ 1
  unfolding groups_at
  one h = rw (lt-ltb (get_or log at 0) 128 h)

  module _ (more : 128 ≤ get_or log at 0) where
    two : get_or log (at + 1) 0 < 128 → groups_at log at ≡ 2
    unfolding groups_at
    two h = rw (le-ltb (get_or log at 0) 128 more, lt-ltb (get_or log (at + 1) 0) 128 h)

    module _ (more₁ : 128 ≤ get_or log (at + 1) 0) where
      three : get_or log (at + 2) 0 < 128 → groups_at log at ≡ 3
      unfolding groups_at
      three h = rw (le-ltb (get_or log at 0) 128 more, le-ltb (get_or log (at + 1) 0) 128 more₁, lt-ltb (get_or log (at + 2) 0) 128 h)

      four : 128 ≤ get_or log (at + 2) 0 → groups_at log at ≡ 4
      unfolding groups_at
      four h = rw (le-ltb (get_or log at 0) 128 more, le-ltb (get_or log (at + 1) 0) 128 more₁, le-ltb (get_or log (at + 2) 0) 128 h)

  -- past the log's end stands no group
  none_past : (k : ℕ) → length log ≤ at + k → get_or log (at + k) 0 < 128
  none_past k h = rw (get_or-eq_default log 0 h) (omega arith)

  agree_1 : at < length log → get_or log at 0 < 128 → number_at log at ≡ number_within 3 log at
  unfolding value_at
  agree_1 here small =
      let low : get_or log at 0 % 128 ≡ get_or log at 0 = omega arith in
      is_whole (one small) (omega arith) (omega arith) refl ∙ rw low (sym (number_whole 2 log at refl here small))

  module _ (here : at < length log) (more : 128 ≤ get_or log at 0) where
    -- what stands behind the first group
    behind_1 : {rest : Number} → number_within 2 log (at + 1) ≡ rest → behind (get_or log at 0) rest ≡ number_within 3 log at
    behind_1 e = sym (number_more 2 log at refl here more ∙ ap (behind (get_or log at 0)) e)

    agree_2 : at + 1 < length log → get_or log (at + 1) 0 < 128 → number_at log at ≡ number_within 3 log at
    unfolding value_at
    agree_2 there small =
        let last : at + 2 - 1 ≡ at + 1 = omega arith in
        let low : get_or log (at + 1) 0 % 128 ≡ get_or log (at + 1) 0 = omega arith in
        let next : at + 1 + 1 ≡ at + 2 = omega arith in
        let read : number_within 2 log (at + 1) ≡ number (get_or log (at + 1) 0) (at + 2) = number_whole 1 log (at + 1) refl there small ∙ rw next in
        split (eqb (get_or log (at + 1) 0) 0)
        (λ z.
        let none : get_or log (at + 1) 0 ≡ 0 = eqb-true (get_or log (at + 1) 0) 0 z in
        is_padded_lem (two more small) (omega arith) (rw last none) ∙ sym (behind_zero (get_or log at 0) (at + 2) none) ∙ behind_1 read)
        (λ z.
        is_whole (two more small) (omega arith) (omega arith) (rw (last, z)) ∙ rw low
        (sym (behind_some (get_or log at 0) (at + 2) (eqb-false (get_or log (at + 1) 0) 0 z))) ∙ behind_1 read)

    module _ (there : at + 1 < length log) (more₁ : 128 ≤ get_or log (at + 1) 0) where
      behind_2 : {rest : Number} → number_within 1 log (at + 2) ≡ rest
          → behind (get_or log at 0) (behind (get_or log (at + 1) 0) rest) ≡ number_within 3 log at
      behind_2 e =
          let next : at + 1 + 1 ≡ at + 2 = omega arith in
          behind_1 (number_more 1 log (at + 1) refl there more₁ ∙ ap (behind (get_or log (at + 1) 0)) (rw next e))

      agree_3 : at + 2 < length log → get_or log (at + 2) 0 < 128 → number_at log at ≡ number_within 3 log at
      unfolding value_at
      agree_3 third small =
          let last : at + 3 - 1 ≡ at + 2 = omega arith in
          let low : get_or log (at + 2) 0 % 128 ≡ get_or log (at + 2) 0 = omega arith in
          let next : at + 2 + 1 ≡ at + 3 = omega arith in
          let read : number_within 1 log (at + 2) ≡ number (get_or log (at + 2) 0) (at + 3) = number_whole 0 log (at + 2) refl third small ∙ rw next in
          split (eqb (get_or log (at + 2) 0) 0)
          (λ z.
          let none : get_or log (at + 2) 0 ≡ 0 = eqb-true (get_or log (at + 2) 0) 0 z in
          is_padded_lem (three more more₁ small) (omega arith) (rw last none)
          ∙ sym (behind_none (get_or log at 0) (behind_zero (get_or log (at + 1) 0) (at + 3) none)) ∙ behind_2 read)
          (λ z.
          let some : get_or log (at + 2) 0 ≡ 0 → ⊥ = eqb-false (get_or log (at + 2) 0) 0 z in
          let two-groups = behind_some (get_or log (at + 1) 0) (at + 3) some in
          let value : get_or log at 0 % 128 + (get_or log (at + 1) 0 % 128 + get_or log (at + 2) 0 * 128) * 128
          ≡ get_or log at 0 % 128 + get_or log (at + 1) 0 % 128 * 128 + get_or log (at + 2) 0 * 16384 = omega arith in
          let three-groups = behind_some (get_or log at 0) (at + 3) (λ none. some (omega arith)) in
          is_whole (three more more₁ small) (omega arith) (omega arith) (rw (last, z))
          ∙ rw low (sym (ap (behind (get_or log at 0)) two-groups ∙ three-groups ∙ rw value)) ∙ behind_2 read)

      agree_4 : at + 2 < length log → 128 ≤ get_or log (at + 2) 0 → number_at log at ≡ number_within 3 log at
      agree_4 third more₂ =
          is_long_lem (four more more₁ more₂) (omega arith)
          ∙ sym (behind_none (get_or log at 0) (behind_none (get_or log (at + 1) 0) refl))
          ∙ behind_2 (number_more 0 log (at + 2) refl third more₂ ∙ behind_none (get_or log (at + 2) 0) (number_none 0 log (at + 2 + 1) refl))

      agree_cut_2 : length log ≤ at + 2 → number_at log at ≡ number_within 3 log at
      agree_cut_2 end =
          is_cut_lem (three more more₁ (none_past 2 end)) (omega arith)
          ∙ sym (behind_none (get_or log at 0) (behind_none (get_or log (at + 1) 0) refl)) ∙ behind_2 (number_cut 1 log (at + 2) end)

    agree_cut_1 : length log ≤ at + 1 → number_at log at ≡ number_within 3 log at
    agree_cut_1 end =
        is_cut_lem (two more (none_past 1 end)) (omega arith)
        ∙ sym (behind_none (get_or log at 0) refl) ∙ behind_1 (number_cut 2 log (at + 1) end)

  agree_cut : length log ≤ at → number_at log at ≡ number_within 3 log at
  agree_cut end =
      let past : get_or log at 0 < 128 = rw (get_or-eq_default log 0 end) (omega arith) in
      is_cut_lem (one past) (omega arith) ∙ sym (number_cut 3 log at end)

  -- inside the log or past its end, and one group or more
  group_cases : (k : ℕ) {P : Type 0} → (length log ≤ k → P) → (k < length log → get_or log k 0 < 128 → P)
      → (k < length log → 128 ≤ get_or log k 0 → P) → P
  group_cases k past small large =
      split (leb (length log) k)
      (λ e. past (leb-true (length log) k e))
      (λ e. split (ltb (get_or log k 0) 128)
      (λ s. small (leb-false (length log) k e) (ltb-true (get_or log k 0) 128 s))
      (λ s. large (leb-false (length log) k e) (ltb-false (get_or log k 0) 128 s)))

  pub number_agrees : number_at log at ≡ number_within 3 log at
  number_agrees =
      group_cases at agree_cut agree_1 (λ here more.
      group_cases (at + 1) (agree_cut_1 here more) (agree_2 here more) (λ there more₁.
      group_cases (at + 2) (agree_cut_2 here more there more₁) (agree_3 here more there more₁) (agree_4 here more there more₁)))
