-- Laws of many steps in one call: one step more, the end, and eight steps at once.
-- Assumes nothing.
use mathlib.Core.Bool.{true, false, cond}
use mathlib.Core.List.{List, [], ◌∷◌}
use mathlib.Core.Path.{◌≡◌, refl, sym, ◌∙◌, ap}
use Prim.Native.Nat.{ℕ, zero, suc, ◌+◌, ◌*◌, ◌/◌, ◌%◌, ◌^◌, ◌≤◌, ◌<◌, ◌-◌}
use native.Mathlib.Nat.{pos_of_ne-zero, suc-mul, zero-mul, mul-le-mul_right, pow-suc, div-one}
use native.Mathlib.Omega.{arith}
use borrow.Author.Tests.{eqb-true, eqb-false, ltb-true, ltb-false, lt-ltb, le-ltb, ne_eqb, eq-eqb}
use lib.Arith.{digits_div, digits_mod}
use lib.Dec.{ltb, eqb}
use lib.ListN.{length, get_or, set}
use lib.Pow.{shr-shr}
use Rattle.std.specs.Prelude.{min}
use lib.Seq.{set-get_or, get_or-set_same}
use Rattle.runs.proofs.Laws.{split}
use Rattle.status.specs.Bits.{bit_of, octet_with, with_bit, zeros}
use Rattle.status.specs.Check.{check_character}
use Rattle.status.specs.Eight.{low_bits, entry, Adding, with_eight}
use Rattle.status.specs.Run.{is_last, ended, gone_on, ran_from, cut_to64, ran_not, as_whole}
use Rattle.status.specs.Step.{step_of, added_to, is_refused, fit_of, unfinished, finished, c_of, b_of}
use Rattle.status.specs.declared.step.Block.{Block}
use Rattle.status.specs.Step.{Stepped}
use Rattle.status.specs.Run.{Ran}
use Rattle.status.proofs.Stays.{put}
use Rattle.status.proofs.Steps.{step_begun, step_idle, step_added, added_more, added_last, within_taken}

pub set_twice : (xs : List ℕ) (i v w : ℕ) → set (set xs i v) i w ≡ set xs i w
set_twice [] i v w = refl
set_twice (x ∷ xs) zero v w = refl
set_twice (x ∷ xs) (suc i) v w = ap (λ (ys : List ℕ). x ∷ ys) (set_twice xs i v w)

-- a sum, cut at the greatest number
pub cut_min : (n : ℕ) → min n 18446744073709551615 ≡ cut_to64 n
cut_min n = grind arith

pub cut_below : (n : ℕ) → n ≤ 18446744073709551615 → n ≡ cut_to64 n
cut_below n h =
    split (ltb n 18446744073709551615) (λ e. rw e) (λ e. rw e (omega (arith, ltb-false n 18446744073709551615 e)))

pub cut_to : (n : ℕ) {m : ℕ} → m ≡ cut_to64 n → m ≤ 18446744073709551615
cut_to n e =
    split (ltb n 18446744073709551615) (λ t. let is : cut_to64 n ≡ n = rw t in omega (arith, e, is, ltb-true n 18446744073709551615 t))
    (λ t. let is : cut_to64 n ≡ 18446744073709551615 = rw t in omega (arith, e, is))

cut_twice : (n : ℕ) → cut_to64 n ≡ cut_to64 (cut_to64 n)
cut_twice n =
    split (ltb n 18446744073709551615)
    (λ e. let is : cut_to64 n ≡ n = rw e in ap cut_to64 (sym is))
    (λ e. let is : cut_to64 n ≡ 18446744073709551615 = rw e in is ∙ ap cut_to64 (sym is))

module _ (step : ℕ) (ancillary marks : List ℕ) (some : 1 ≤ step) where
  abbrev from : ℕ → Block → ℕ → Ran
  from = ran_from step ancillary marks

  -- more steps than entries change nothing
  enough : (n m : ℕ) (block : Block) (at : ℕ) → length ancillary ≤ at + n → length ancillary ≤ at + m → from n block at ≡ from m block at
  unfolding ran_from
  enough zero zero block at p q = refl
  enough zero (suc m) block at p q = rw (le-ltb at (length ancillary) (omega arith))
  enough (suc n) zero block at p q = rw (le-ltb at (length ancillary) (omega arith))
  enough (suc n) (suc m) block at p q =
      let s = step_of block (get_or ancillary at 0) (get_or marks at 0) in
      ap
      (λ (r : Ran).
      cond (ltb at (length ancillary)) (cond (is_last s) (record { stepped = s; next = at + step }) r) (ended block at))
      (enough n m s.block (at + step) (omega arith) (omega arith))

  -- the steps from an entry on
  abbrev pub rest : Block → ℕ → Ran
  rest block at = from (length ancillary) block at

  pub rest_ends : (block : Block) (at : ℕ) → length ancillary ≤ at → rest block at ≡ ended block at
  unfolding ran_from
  rest_ends block at h = enough (length ancillary) zero block at (omega arith) (omega arith)

  module _ (block : Block) (at : ℕ) (h : at < length ancillary) where
    abbrev here : Stepped
    here = step_of block (get_or ancillary at 0) (get_or marks at 0)

    one : rest block at ≡ gone_on step ancillary marks rest here (at + step)
    unfolding ran_from
    one =
        enough (length ancillary) (suc (length ancillary)) block at (omega arith) (omega arith)
        ∙ rw (lt-ltb at (length ancillary) h)

    pub goes_on : is_last here ≡ false → rest block at ≡ rest here.block (at + step)
    goes_on e = one ∙ rw e

    pub stops : is_last here ≡ true → rest block at ≡ record { stepped = here; next = at + step }
    stops e = one ∙ rw e

    on_to : {block' : Block} → here ≡ unfinished 0 block' → rest block at ≡ rest block' (at + step)
    on_to e = goes_on (ap is_last e) ∙ ap (λ (s : Stepped). rest s.block (at + step)) e

-- an octet of which the low j bits are those of numbers, the others as they were
abbrev mixed : ℕ → (ℕ → ℕ) → ℕ → ℕ
mixed o f j = o / 2 ^ j * 2 ^ j + low_bits f j

pub low_lt : (f : ℕ → ℕ) (j : ℕ) → low_bits f j < 2 ^ j
unfolding low_bits
low_lt f zero = omega arith
low_lt f (suc j) =
    let l = low_lt f j in
    omega (arith, l, pow-suc 2 j, mul-le-mul_right {m = c_of (f j)} {n = 1} (2 ^ j) (omega arith))

regrouped : (q c w l : ℕ) {w₂ : ℕ} → w₂ ≡ w * 2 → (q * 2 + c) * w + l ≡ q * w₂ + (l + c * w)
regrouped q c w l e = rw e (omega arith)

mixed_on : (o : ℕ) (f : ℕ → ℕ) (j : ℕ) → octet_with (mixed o f j) j (c_of (f j)) ≡ mixed o f (suc j)
unfolding low_bits
mixed_on o f j =
    let high : mixed o f j / 2 ^ j ≡ o / 2 ^ j = digits_div (o / 2 ^ j) (low_lt f j) in
    let low : mixed o f j % 2 ^ j ≡ low_bits f j = digits_mod (o / 2 ^ j) (low_lt f j) in
    let half : o / 2 ^ j / 2 ≡ o / 2 ^ suc j = shr-shr o j 1 ∙ ap (λ (k : ℕ). o / 2 ^ k) (omega arith) in
    put (mixed o f j) j (c_of (f j)) ∙ rw (high, low, half) (regrouped (o / 2 ^ suc j) (c_of (f j)) (2 ^ j) (low_bits f j) (pow-suc 2 j))

mixed_none : (o : ℕ) (f : ℕ → ℕ) → mixed o f 0 ≡ o
unfolding low_bits
mixed_none o f = rw (div-one o) (omega arith)

-- entries that add a bit alone, or nothing where no block has begun
module _ (block : Block) (a m : ℕ) (within : block.bits ≤ 191) (plain : a ≤ 7) (sound : m ≤ 1) where
  not_begun : b_of a ≡ 1 → ⊥
  not_begun e = omega (arith, e)

  not_missing : m ≡ 2 → ⊥
  not_missing e = omega (arith, e)

  taken : is_refused block.bits a m ≡ false
  taken = within_taken block.bits a m within (omega arith) (omega arith)

  plain_idle : block.bits ≡ 0 → step_of block a m ≡ unfinished 0 block
  plain_idle = step_idle block a m taken not_missing not_begun

  plain_added : (block.bits ≡ 0 → ⊥) → step_of block a m ≡ added_to block.bits (with_bit block.octets block.bits (c_of a))
  plain_added = step_added block a m taken not_missing not_begun

-- an entry that begins a block
first_begun : (block : Block) (a m : ℕ) → block.bits ≤ 191 → 8 ≤ a → a ≤ 15 → m ≤ 1
    → step_of block a m ≡ unfinished 0 (record { bits = 1; octets = with_bit zeros 0 (c_of a) })
first_begun block a m within large small sound =
    step_begun block a m (within_taken block.bits a m within (omega arith) (omega arith)) (λ e. omega (arith, e)) (omega arith)

-- a block of whole octets, of which the next one is being filled
module _ (b : ℕ) (os : List ℕ) (f : ℕ → ℕ) (whole : b % 8 ≡ 0) (in-it : b / 8 < length os) where
  abbrev o : ℕ
  o = get_or os (b / 8) 0

  abbrev filling : ℕ → List ℕ
  filling j = set os (b / 8) (mixed o f j)

  abbrev part : ℕ → Block
  part j = record { bits = b + j; octets = filling j }

  filling_on : (j : ℕ) → j < 8 → with_bit (filling j) (b + j) (c_of (f j)) ≡ filling (suc j)
  unfolding with_bit
  filling_on j h =
      let place : (b + j) / 8 ≡ b / 8 = omega arith in
      let bit : (b + j) % 8 ≡ j = omega arith in
      rw (place, bit, get_or-set_same os (b / 8) (mixed o f j) 0 in-it)
      (set_twice os (b / 8) (mixed o f j) (octet_with (mixed o f j) j (c_of (f j))) ∙ ap (set os (b / 8)) (mixed_on o f j))

  part_more : (j m : ℕ) → j < 8 → 0 < b + j → b + j < 191 → f j ≤ 7 → m ≤ 1 → step_of (part j) (f j) m ≡ unfinished 0 (part (suc j))
  part_more j m h begun more plain sound =
      plain_added (part j) (f j) m (omega arith) plain sound (λ e. omega (arith, e))
      ∙ ap (added_to (b + j)) (filling_on j h)
      ∙ added_more (b + j) (filling (suc j)) more
      ∙ ap (λ (n : ℕ). unfinished 0 (record { bits = n; octets = filling (suc j) })) (omega arith)

  part_last : (j m : ℕ) → j < 8 → b + j ≡ 191 → f j ≤ 7 → m ≤ 1 → step_of (part j) (f j) m ≡ finished (filling (suc j))
  part_last j m h last plain sound =
      plain_added (part j) (f j) m (omega arith) plain sound (λ e. omega (arith, e, last))
      ∙ ap (added_to (b + j)) (filling_on j h)
      ∙ added_last (b + j) (filling (suc j)) (omega arith)

mixed_all : (o : ℕ) (f : ℕ → ℕ) → o < 256 → mixed o f 8 ≡ low_bits f 8
mixed_all o f h = omega arith

-- a finished block ends the steps
finished_last : (octets : List ℕ) → is_last (finished octets) ≡ true
unfolding fit_of
finished_last octets = split (eqb (bit_of octets 0) 0) (λ e. rw e) (λ e. split (eqb (get_or octets 23 0) (check_character octets)) (λ g. rw (e, g)) (λ g. rw (e, g)))

-- the first octet of a block that begins
first_octet : (f : ℕ → ℕ) → with_bit zeros 0 (c_of (f 0)) ≡ set zeros 0 (mixed 0 f 1)
unfolding with_bit low_bits octet_with
first_octet f = ap (set zeros 0) (omega arith)

under : (b : ℕ) → b ≤ 191 → b % 8 ≡ 0 → (b ≡ 184 → ⊥) → b < 184
under b h w n = omega (arith, n)

-- eight entries at once
module _ (step : ℕ) (ancillary marks : List ℕ) (some : 1 ≤ step) (at : ℕ) (fit : at + 7 * step < length ancillary)
    (adding : Adding ancillary marks at step 8)
  where
    abbrev f : ℕ → ℕ
    f = entry ancillary at step

    abbrev rest_of : Block → ℕ → Ran
    rest_of = rest step ancillary marks some

    there : (j : ℕ) → j < 8 → at + j * step < length ancillary
    there j h = omega (arith, mul-le-mul_right {m = j} {n = 7} step (omega arith))

    next_place : (j : ℕ) → at + j * step + step ≡ at + suc j * step
    next_place j = omega (arith, suc-mul j step)

    here_on : (j : ℕ) → j < 8 → (block block' : Block) → step_of block (f j) (entry marks at step j) ≡ unfinished 0 block'
        → rest_of block (at + j * step) ≡ rest_of block' (at + suc j * step)
    here_on j h block block' e =
        on_to step ancillary marks some block (at + j * step) (there j h) e ∙ ap (rest_of block') (next_place j)

    module _ (b : ℕ) (os : List ℕ) (whole : b % 8 ≡ 0) (in-it : b / 8 < length os) where
      parts : (j n : ℕ) → 0 < b + j → (j ≡ 0 → f 0 ≤ 7) → j + n ≤ 8 → b + (j + n) ≤ 191
          → rest_of (part b os f whole in-it j) (at + j * step) ≡ rest_of (part b os f whole in-it (j + n)) (at + (j + n) * step)
      parts j zero begun first to most = ap (λ (k : ℕ). rest_of (part b os f whole in-it k) (at + k * step)) (omega arith)
      parts j (suc n) begun first to most =
          parts j n begun first (omega arith) (omega arith)
          ∙ here_on (j + n) (omega arith) (part b os f whole in-it (j + n)) (part b os f whole in-it (suc (j + n)))
          (part_more b os f whole in-it (j + n) _ (omega arith) (omega arith) (omega arith) (plain_at (j + n) (omega arith) (λ e. first (omega (arith, e))))
          (adding.sound (j + n) (omega arith)))
          ∙ ap (λ (k : ℕ). rest_of (part b os f whole in-it k) (at + k * step)) (omega arith)
        where
          plain_at : (i : ℕ) → i < 8 → (i ≡ 0 → f 0 ≤ 7) → f i ≤ 7
          plain_at zero h first = first refl
          plain_at (suc i) h first = adding.plain (suc i) (omega arith) h

    idles : (n : ℕ) (block : Block) → block.bits ≡ 0 → f 0 ≤ 7 → n ≤ 8 → rest_of block at ≡ rest_of block (at + n * step)
    idles zero block none first to = ap (rest_of block) (omega (arith, zero-mul step))
    idles (suc n) block none first to =
        idles n block none first (omega arith)
        ∙ here_on n (omega arith) block block (plain_idle block (f n) _ (omega (arith, none)) (plain_at n (omega arith)) (adding.sound n (omega arith)) none)
      where
        plain_at : (i : ℕ) → i < 8 → f i ≤ 7
        plain_at zero h = first
        plain_at (suc i) h = adding.plain (suc i) (omega arith) h

    -- the octet that they fill, by a block that was begun
    module _ (block : Block) (whole : block.bits % 8 ≡ 0) (in-it : block.bits / 8 < length block.octets)
        (small : get_or block.octets (block.bits / 8) 0 < 256) (begun : 0 < block.bits) (first : f 0 ≤ 7)
      where
        abbrev part_of : ℕ → Block
        part_of = part block.bits block.octets f whole in-it

        abbrev filled-with : List ℕ
        filled-with = set block.octets (block.bits / 8) (low_bits f 8)

        full : (part_of 8).octets ≡ filled-with
        full = ap (set block.octets (block.bits / 8)) (mixed_all (get_or block.octets (block.bits / 8) 0) f small)

        starts : rest_of block at ≡ rest_of (part_of 0) (at + 0 * step)
        starts =
            let octets : block.octets ≡ (part_of 0).octets =
            sym (set-get_or block.octets (block.bits / 8) 0)
            ∙ ap (set block.octets (block.bits / 8)) (sym (mixed_none (get_or block.octets (block.bits / 8) 0) f)) in
            let bits : block.bits ≡ block.bits + 0 = omega arith in
            let place : at ≡ at + 0 * step = omega (arith, zero-mul step) in
            λ i. rest_of (record { bits = bits i; octets = octets i }) (place i)

        eight_more : block.bits < 184 → rest_of block at ≡ rest_of (record { bits = block.bits + 8; octets = filled-with }) (at + 8 * step)
        eight_more more =
            starts
            ∙ parts block.bits block.octets whole in-it 0 8 (omega arith) (λ e. first) (omega arith) (omega arith)
            ∙ ap (λ (os : List ℕ). rest_of (record { bits = block.bits + 8; octets = os }) (at + 8 * step)) full

        eight_last : block.bits ≡ 184 → rest_of block at ≡ record { stepped = finished filled-with; next = at + 8 * step }
        eight_last last =
            let at_7 = at + 7 * step in
            let is : step_of (part_of 7) (f 7) (entry marks at step 7) ≡ finished filled-with =
            part_last block.bits block.octets f whole in-it 7 _ (omega arith) (omega arith) (adding.plain 7 (omega arith) (omega arith))
            (adding.sound 7 (omega arith))
            ∙ ap finished full in
            starts
            ∙ parts block.bits block.octets whole in-it 0 7 (omega arith) (λ e. first) (omega arith) (omega arith)
            ∙ stops step ancillary marks some (part_of 7) at_7 (there 7 (omega arith)) (ap is_last is ∙ finished_last filled-with)
            ∙ (λ i. record { stepped = is i; next = next_place 7 i })

    -- they begin a block
    eight_begun : (block : Block) → block.bits ≤ 191 → 8 ≤ f 0
        → rest_of block at ≡ rest_of (record { bits = 8; octets = set zeros 0 (low_bits f 8) }) (at + 8 * step)
    eight_begun block within begins =
        let place : at ≡ at + 0 * step = omega (arith, zero-mul step) in
        ap (rest_of block) place
        ∙ here_on 0 (omega arith) block (part 0 zeros f refl (omega arith) 1)
        (first_begun block (f 0) _ within begins adding.first (adding.sound 0 (omega arith)) ∙ ap (λ (os : List ℕ). unfinished 0 (record { bits = 1; octets = os })) (first_octet f))
        ∙ parts 0 zeros refl (omega arith) 1 7 (omega arith) (λ e. absurd (omega (arith, e))) (omega arith) (omega arith)
        ∙ ap (λ (x : ℕ). rest_of (record { bits = 8; octets = set zeros 0 x }) (at + 8 * step)) (mixed_all 0 f (omega arith))

    -- the block past them, by whether they begin one
    module _ (block : Block) (within : block.bits ≤ 191) (whole : f 0 ≤ 7 → block.bits % 8 ≡ 0) (long : length block.octets ≡ 24)
        (small : get_or block.octets (block.bits / 8) 0 < 256)
      where
        abbrev after : Block
        after = with_eight block (ltb 7 (f 0)) (low_bits f 8)

        pub past_eight : (after.bits ≡ 192 → ⊥) → rest_of block at ≡ rest_of after (at + 8 * step)
        unfolding with_eight
        past_eight more =
            split (ltb 7 (f 0))
            (λ e. rw e (eight_begun block within (ltb-true 7 (f 0) e)))
            (λ e.
            let first = ltb-false 7 (f 0) e in
            split (eqb block.bits 0)
            (λ n. rw (e, n) (idles 8 block (eqb-true block.bits 0 n) first (omega arith)))
            (λ n.
            let some_bits : 0 < block.bits = pos_of_ne-zero (eqb-false block.bits 0 n) in
            let fewer : block.bits ≡ 184 → ⊥ = λ g. more (rw (e, n) (omega (arith, g))) in
            rw (e, n)
            (eight_more block (whole first) (omega arith) small some_bits first (under block.bits within (whole first) fewer))))

        pub done_eight : after.bits ≡ 192 → rest_of block at ≡ record { stepped = finished after.octets; next = at + 8 * step }
        unfolding with_eight
        done_eight all =
            split (ltb 7 (f 0))
            (λ e. absurd (let g : ◌≡◌ {A = ℕ} 8 192 = (rw e at all) in omega (arith, g)))
            (λ e.
            let first = ltb-false 7 (f 0) e in
            split (eqb block.bits 0)
            (λ n. absurd (let g : block.bits ≡ 192 = (rw (e, n) at all) in omega (arith, g)))
            (λ n.
            let some_bits : 0 < block.bits = pos_of_ne-zero (eqb-false block.bits 0 n) in
            let g : block.bits + 8 ≡ 192 = (rw (e, n) at all) in
            rw (e, n) (eight_last block (whole first) (omega arith) small some_bits first (omega (arith, g)))))

-- the call's answer: the next entry cut, and a refused step
module _ (block : Block) where
  pub whole_cut : (s : Stepped) (n : ℕ) → as_whole block (record { stepped = s; next = n }) ≡ as_whole block (record { stepped = s; next = cut_to64 n })
  whole_cut s n = ap (λ (k : ℕ). cond (eqb s.handed.refusal 0) (record { stepped = s; next = k }) (ran_not s.handed.refusal block)) (cut_twice n)

  pub whole_done : (s : Stepped) (n : ℕ) → s.handed.refusal ≡ 0 → n ≤ 18446744073709551615
      → record { stepped = s; next = n } ≡ as_whole block (record { stepped = s; next = n })
  whole_done s n none small = rw (eq-eqb s.handed.refusal 0 none) (ap (λ (k : ℕ). record { stepped = s; next = k }) (cut_below n small))

  pub whole_refused : (s : Stepped) (n : ℕ) → (s.handed.refusal ≡ 0 → ⊥) → as_whole block (record { stepped = s; next = n }) ≡ ran_not s.handed.refusal block
  whole_refused s n some = rw (ne_eqb s.handed.refusal 0 some)

  module _ (step : ℕ) (ancillary marks : List ℕ) (some : 1 ≤ step) where
    pub rest_cut : (b : Block) (n : ℕ) → length ancillary ≤ 18446744073709551615
        → as_whole block (rest step ancillary marks some b n) ≡ as_whole block (rest step ancillary marks some b (cut_to64 n))
    rest_cut b n long =
        split (ltb n 18446744073709551615)
        (λ e. let is : cut_to64 n ≡ n = rw e in ap (λ (k : ℕ). as_whole block (rest step ancillary marks some b k)) (sym is))
        (λ e.
        let far = ltb-false n 18446744073709551615 e in
        let is : cut_to64 n ≡ 18446744073709551615 = rw e in
        ap (as_whole block) (rest_ends step ancillary marks some b n (omega (arith, far)))
        ∙ whole_cut (unfinished 0 b) n
        ∙ ap (as_whole block) (sym (rest_ends step ancillary marks some b (cut_to64 n) (omega (arith, is)))))

    -- one step, by what it says
    module _ (now : Block) (at : ℕ) (here : at < length ancillary) {s : Stepped} (is : s ≡ step_of now (get_or ancillary at 0) (get_or marks at 0)) where
      abbrev answer-now : Ran
      answer-now = as_whole block (rest step ancillary marks some now at)

      stopped : is_last s ≡ true → rest step ancillary marks some now at ≡ record { stepped = s; next = at + step }
      stopped e = stops step ancillary marks some now at here (ap is_last (sym is) ∙ e) ∙ ap (λ (r : Stepped). record { stepped = r; next = at + step }) (sym is)

      pub step_refuses : (s.handed.refusal ≡ 0 → ⊥) → ran_not s.handed.refusal block ≡ answer-now
      step_refuses r = sym (ap (as_whole block) (stopped (rw (ne_eqb s.handed.refusal 0 r))) ∙ whole_refused s (at + step) r)

      pub step_hands : s.handed.refusal ≡ 0 → (s.handed.answer ≡ 0 → ⊥) → record { stepped = s; next = cut_to64 (at + step) } ≡ answer-now
      step_hands r a =
          let last : is_last s ≡ true = rw (eq-eqb s.handed.refusal 0 r, ne_eqb s.handed.answer 0 a) in
          sym (ap (as_whole block) (stopped last) ∙ rw (eq-eqb s.handed.refusal 0 r))

      pub step_goes_on : s.handed.refusal ≡ 0 → s.handed.answer ≡ 0 → length ancillary ≤ 18446744073709551615
          → answer-now ≡ as_whole block (rest step ancillary marks some s.block (cut_to64 (at + step)))
      step_goes_on r a long =
          let on : is_last (step_of now (get_or ancillary at 0) (get_or marks at 0)) ≡ false =
          ap is_last (sym is) ∙ rw (eq-eqb s.handed.refusal 0 r, eq-eqb s.handed.answer 0 a) in
          ap (as_whole block) (goes_on step ancillary marks some now at here on ∙ ap (λ (t : Stepped). rest step ancillary marks some t.block (at + step)) (sym is))
          ∙ rest_cut s.block (at + step) long

pub cut_less : {long : ℕ} (at step : ℕ) {m : ℕ} → at < long → 1 ≤ step → long ≤ 18446744073709551615 → m ≡ cut_to64 (at + step) → long - m < long - at
cut_less at step here some short e =
    split (ltb (at + step) 18446744073709551615) (λ t. let is : cut_to64 (at + step) ≡ at + step = rw t in omega (arith, e, is))
    (λ t. let is : cut_to64 (at + step) ≡ 18446744073709551615 = rw t in omega (arith, e, is))
