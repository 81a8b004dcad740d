-- The theorem for the reader: a sender's 192 C bits, B set on the first, with marks 0 or 1, bring out exactly those 24 octets,
-- once, at the last step and not before; a mark 2 anywhere among them brings out none.
-- Assumes nothing.
use mathlib.Core.Bool.{false, cond}
use mathlib.Core.List.{List, [], ◌∷◌}
use mathlib.Core.Path.{◌≡◌, refl, sym, ◌∙◌, ap}
use Prim.Native.Nat.{ℕ, zero, suc, ◌+◌, ◌*◌, ◌≤◌, ◌<◌}
use native.Mathlib.Nat.{not-suc-le-zero}
use native.Mathlib.Numerals.{add-one}
use native.Mathlib.Omega.{arith}
use borrow.Author.Tests.{ne_eqb, eqb-true, eqb-false}
use lib.Dec.{eqb}
use lib.ListN.{get_or}
use Rattle.runs.proofs.Laws.{split}
use Rattle.status.specs.Bits.{bit_of, with_bit}
use Rattle.status.specs.Check.{check_character}
use Rattle.status.specs.Sender.{block_after, brought_by, brought_out, Octets, SendsBlock}
use Rattle.status.specs.Step.{step_of, is_refused, unfinished, finished, added_to, fit_of, no_block, b_of, c_of}
use Rattle.status.specs.declared.step.Block.{Block}
use Rattle.status.specs.Step.{Stepped}
use Rattle.status.proofs.Bits.{up_to, up_to_none, up_to_more, up_to_all}
use Rattle.status.proofs.Steps.{step_dropped, step_begun, step_idle, step_added, added_more, added_last, within_taken}

-- ---- one step that finishes no block
brought_none : (s : Stepped) (block : Block) → s ≡ unfinished 0 block → brought_by s ≡ []
unfolding brought_by
brought_none s block e = rw e

fit_said : (octets : List ℕ) → eqb (fit_of octets) 0 ≡ false
unfolding fit_of
fit_said octets =
    split (eqb (bit_of octets 0) 0) (λ b. rw b) (λ b.
    split (eqb (get_or octets 23 0) (check_character octets)) (λ e. rw (b, e)) (λ e. rw (b, e)))

brought_one : (octets : List ℕ) → brought_by (finished octets) ≡ (fit_of octets, octets) ∷ []
unfolding brought_by
brought_one octets = rw (fit_said octets)

-- the step is taken, finishes no block, and leaves one of at most so many bits
record Goes (block : Block) (a m most : ℕ) : Type 0 where
  left : Block
  goes : step_of block a m ≡ unfinished 0 left
  few : left.bits ≤ most

weaker : {block : Block} {a m n k : ℕ} → Goes block a m n → n ≤ k → Goes block a m k
weaker g h = record { left = g.left; goes = g.goes; few = omega (arith, g.few) }

emptied : (block : Block) (a m : ℕ) → Goes block a m 0 → (step_of block a m).block.bits ≡ 0
emptied block a m g = omega (arith, g.few, ap (λ (s : Stepped). s.block.bits) g.goes)

module _ (block : Block) (a m : ℕ) (a≤ : a ≤ 15) (m≤ : m ≤ 2) (bits≤ : block.bits ≤ 191) where
  taken : is_refused block.bits a m ≡ false
  taken = within_taken block.bits a m bits≤ a≤ m≤

  dropping : m ≡ 2 → Goes block a m 0
  dropping e = record { left = no_block; goes = step_dropped block a m taken e; few = omega arith }

  beginning : b_of a ≡ 1 → Goes block a m 1
  beginning b =
      split (eqb m 2)
      (λ e. weaker (dropping (eqb-true m 2 e)) (omega arith))
      (λ e. record { left = _; goes = step_begun block a m taken (eqb-false m 2 e) b; few = omega arith })

  waiting : b_of a ≡ 0 → block.bits ≡ 0 → Goes block a m 0
  waiting b none =
      split (eqb m 2)
      (λ e. dropping (eqb-true m 2 e))
      (λ e. record { left = block; goes = step_idle block a m taken (eqb-false m 2 e) (omega arith) none; few = omega arith })

  adding : (n : ℕ) → b_of a ≡ 0 → block.bits ≤ n → n < 191 → Goes block a m (suc n)
  adding n b few n< =
      split (eqb block.bits 0)
      (λ e. weaker (waiting b (eqb-true block.bits 0 e)) (omega arith))
      (λ e. split (eqb m 2)
      (λ d. weaker (dropping (eqb-true m 2 d)) (omega arith))
      (λ d. record {
        left = _;
        goes = step_added block a m taken (eqb-false m 2 d) (omega arith) (eqb-false block.bits 0 e) ∙ added_more block.bits _ (omega arith);
        few = omega arith;
      }))

-- ---- a sender's steps
module _ (block : Block) (octets : List ℕ) (a m : ℕ → ℕ) (begun : block.bits ≤ 191) (sends : SendsBlock octets a) (marks : (k : ℕ) → k < 192 → m k ≤ 2) where
  goes_at : (n : ℕ) → n < 191 → Goes (block_after block a m n) (a n) (m n) (suc n)
  unfolding block_after
  goes_at zero h = beginning block (a 0) (m 0) (sends.within 0 (omega arith)) (marks 0 (omega arith)) begun sends.first
  goes_at (suc n) h =
      let g = goes_at n (omega arith) in
      let few : (step_of (block_after block a m n) (a n) (m n)).block.bits ≤ suc n = omega (arith, g.few, ap (λ (s : Stepped). s.block.bits) g.goes) in
      adding _ (a (suc n)) (m (suc n)) (sends.within (suc n) (omega arith)) (marks (suc n) (omega arith)) (omega arith) (suc n)
      (sends.alone (suc n) (omega arith) (omega arith)) few h

  bits_at : (n : ℕ) → n ≤ 191 → (block_after block a m n).bits ≤ 191
  unfolding block_after
  bits_at zero h = begun
  bits_at (suc n) h = let g = goes_at n (omega arith) in omega (arith, g.few, ap (λ (s : Stepped). s.block.bits) g.goes)

  -- fewer than 192 steps bring out nothing
  none : (n : ℕ) → n ≤ 191 → brought_out block a m n ≡ []
  unfolding brought_out
  none zero h = refl
  none (suc n) h = rw (none n (omega arith), brought_none _ (goes_at n (omega arith)).left (goes_at n (omega arith)).goes)

  -- after a mark 2 at j no bit comes
  gone : (j n : ℕ) → m j ≡ 2 → j < n → n ≤ 191 → (block_after block a m n).bits ≡ 0
  unfolding block_after
  gone j zero two l h = absurd (not-suc-le-zero l)
  gone j (suc n) two l h =
      let b = block_after block a m n in
      let within = sends.within n (omega arith) in
      emptied b (a n) (m n)
      (split (eqb n j)
      (λ e. dropping b (a n) (m n) within (marks n (omega arith)) (bits_at n (omega arith)) (ap m (eqb-true n j e) ∙ two))
      (λ e.
      let later : j < n = omega (arith, eqb-false n j e) in
      waiting b (a n) (m n) within (marks n (omega arith)) (bits_at n (omega arith)) (sends.alone n (omega arith) (omega arith))
      (gone j n two later (omega arith))))

  -- so the last step brings out nothing either
  last_none : (j : ℕ) → m j ≡ 2 → j < 192 → Goes (block_after block a m 191) (a 191) (m 191) 0
  last_none j two l =
      let b = block_after block a m 191 in
      let within = sends.within 191 (omega arith) in
      split (eqb j 191)
      (λ e. dropping b (a 191) (m 191) within (marks 191 (omega arith)) (bits_at 191 (omega arith)) (ap m (sym (eqb-true j 191 e)) ∙ two))
      (λ e.
      let sooner : j < 191 = omega (arith, eqb-false j 191 e) in
      waiting b (a 191) (m 191) within (marks 191 (omega arith)) (bits_at 191 (omega arith)) (sends.alone 191 (omega arith) (omega arith))
      (gone j 191 two sooner (omega arith)))

  all_none : (j : ℕ) → m j ≡ 2 → j < 192 → brought_out block a m 192 ≡ []
  unfolding brought_out
  all_none j two l =
      let g = last_none j two l in
      rw (none 191 (omega arith), brought_none _ g.left g.goes)

  -- ---- with marks 0 or 1
  module _ (sound : (k : ℕ) → k < 192 → m k ≤ 1) where
    -- the block of which n bits have come
    abbrev come : ℕ → Block
    come n = record { bits = n; octets = up_to octets n }

    taken_at : (bits n : ℕ) → bits ≤ 191 → n < 192 → is_refused bits (a n) (m n) ≡ false
    taken_at bits n b h = within_taken bits (a n) (m n) b (sends.within n h) (marks n h)

    put_at_lem : (n : ℕ) → n < 192 → with_bit (up_to octets n) n (c_of (a n)) ≡ up_to octets (suc n)
    put_at_lem n h = ap (with_bit (up_to octets n) n) (sends.carries n h) ∙ up_to_more octets n h

    -- a bit after the first
    next_at : (n : ℕ) → suc n < 192 → step_of (come (suc n)) (a (suc n)) (m (suc n)) ≡ added_to (suc n) (up_to octets (suc (suc n)))
    next_at n h =
        step_added (come (suc n)) (a (suc n)) (m (suc n)) (taken_at (suc n) (suc n) (omega arith) h) (λ two. omega (arith, sound (suc n) h, two))
        (λ one. omega (arith, sends.alone (suc n) (omega arith) h, one)) (λ e. omega (arith, e))
        ∙ ap (added_to (suc n)) (put_at_lem (suc n) h)

    step_at_lem : (n : ℕ) → n < 191 → step_of (block_after block a m n) (a n) (m n) ≡ unfinished 0 (come (suc n))
    unfolding block_after
    step_at_lem zero h =
        step_begun block (a 0) (m 0) (taken_at block.bits 0 begun (omega arith)) (λ two. omega (arith, sound 0 (omega arith), two)) sends.first
        ∙ ap (λ (o : List ℕ). unfinished 0 (record { bits = 1; octets = o }))
        (ap (λ (z : List ℕ). with_bit z 0 (c_of (a 0))) (sym (up_to_none octets)) ∙ put_at_lem 0 (omega arith))
    step_at_lem (suc n) h =
        ap (λ (s : Stepped). step_of s.block (a (suc n)) (m (suc n))) (step_at_lem n (omega arith))
        ∙ next_at n (omega arith)
        ∙ added_more (suc n) _ h
        ∙ ap (λ (k : ℕ). unfinished 0 (record { bits = k; octets = up_to octets (suc (suc n)) })) (add-one (suc n))

    last_at : Octets octets → step_of (block_after block a m 191) (a 191) (m 191) ≡ finished octets
    unfolding block_after
    last_at whole =
        ap (λ (s : Stepped). step_of s.block (a 191) (m 191)) (step_at_lem 190 (omega arith))
        ∙ next_at 190 (omega arith)
        ∙ added_last 191 _ (omega arith)
        ∙ ap finished (up_to_all octets whole.many whole.small)

    all_brought : Octets octets → brought_out block a m 192 ≡ (fit_of octets, octets) ∷ []
    unfolding brought_out
    all_brought whole = rw (none 191 (omega arith), last_at whole) (brought_one octets)

-- A sender's C bits, B set on the first, with marks 0 or 1, whatever block was under assembly: the 192 steps bring out the 24
-- octets, once, and fewer steps bring out nothing.
pub brings_out : (block : Block) (octets : List ℕ) (ancillary mark : ℕ → ℕ)
    → block.bits ≤ 191 → Octets octets → SendsBlock octets ancillary → ((k : ℕ) → k < 192 → mark k ≤ 1)
    → (brought_out block ancillary mark 192 ≡ (fit_of octets, octets) ∷ []) × ((n : ℕ) → n < 192 → brought_out block ancillary mark n ≡ [])
brings_out block octets ancillary mark begun whole sends sound =
    let marks : (k : ℕ) → k < 192 → mark k ≤ 2 = λ k h. omega (arith, sound k h) in
    (all_brought block octets ancillary mark begun sends marks sound whole, λ n h. none block octets ancillary mark begun sends marks n (omega arith))

-- The same with a mark 2 anywhere among them: the 192 steps bring out nothing.
pub brings_none : (block : Block) (octets : List ℕ) (ancillary mark : ℕ → ℕ)
    → block.bits ≤ 191 → SendsBlock octets ancillary → ((k : ℕ) → k < 192 → mark k ≤ 2) → (j : ℕ) → j < 192 → mark j ≡ 2
    → brought_out block ancillary mark 192 ≡ []
brings_none block octets ancillary mark begun sends marks j h two = all_none block octets ancillary mark begun sends marks j two h

bit_lt : (octets : List ℕ) (k : ℕ) → bit_of octets k < 2
unfolding bit_of
bit_lt octets k = omega arith

-- There is such a sender for every block.
pub sends_any : (octets : List ℕ) → SendsBlock octets (λ k. cond (eqb k 0) 8 0 + bit_of octets k * 4)
sends_any octets = record {
  within = λ k h. split (eqb k 0) (λ e. rw e (omega (arith, bit_lt octets k))) (λ e. rw e (omega (arith, bit_lt octets k)));
  first = omega (arith, bit_lt octets 0);
  alone = λ k p h. rw (ne_eqb k 0 (λ e. omega (arith, e))) (omega (arith, bit_lt octets k));
  carries = λ k h. split (eqb k 0) (λ e. rw e (omega (arith, bit_lt octets k))) (λ e. rw e (omega (arith, bit_lt octets k)));
}
