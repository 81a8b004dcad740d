-- Rows of cells: what is handed out of them, by demand 2 of each, leaves as frames of a cable and as data units, and comes back.
-- Assumes nothing.
use mathlib.Core.Bool.{Bool, true, false, not, ◌||◌}
use mathlib.Core.List.{List, [], ◌∷◌, ◌++◌, flat_map, append_assoc}
use mathlib.Core.Path.{◌≡◌, refl, sym, ◌∙◌, ap, ap₂, subst}
use Prim.Native.Nat.{ℕ, suc, ◌+◌, ◌*◌, ◌-◌, ◌<◌}
use native.Mathlib.Nat.{suc-mul, zero-mul, add-mul}
use native.Mathlib.Omega.{arith}
use borrow.Author.Tests.{eq-eqb}
use lib.ListN.{length, take, drop, replicate, length-append, length-replicate}
use lib.Seq.{take_at, drop-append_seam, drop-append-add}
use Rattle.runs.specs.Runs.{over}
use Rattle.formats.specs.Formats.{length_of, sample_bits, ancillary_bits, overhead_bits, listed_octets, is_among, is_listed, width_of, slots_of, format_of, times_of}
use Rattle.reading.specs.Totals.{total_of, Each}
use Rattle.sender.specs.Sender as S
use Rattle.receiver.specs.declared.Receiver.{Receiver}
use Rattle.receiver.specs.Receiver as R
use Rattle.cable.specs.Back.{SameFrame}
use Rattle.cable.specs.Frames.{export_of}
use Rattle.cable.specs.Rows.{pair_at}
use Rattle.cable.proofs.Rows.{row_back}
use Rattle.units.specs.Back.{ExportCall, MeetsExport, ReadCall, MeetsRead, ReadsUnit}
use Rattle.units.proofs.Back.{back_whole}
use Rattle.line.specs.Calls.{ReceiveCall}
use Rattle.line.specs.Demands.{receive_table}
use Rattle.line.proofs.Cells.{received_refusal, used_in_lem, fits}
use Rattle.line.proofs.Demands.{demand_2}
use Rattle.pages.specs.Rows.{
  Cell,
  Crosses,
  handed_from,
  samples_out,
  ancillary_out,
  TwoOf56,
  CarriesFrames,
  frames_in,
  ExportsRow,
  RowBack,
}

-- what one call handed out of a run that was given these entries
at_start : (new run : List ℕ) {n : ℕ} → length new ≡ n → take n (over new run) ≡ new
unfolding over
at_start new run e = take_at new (drop (length new) run) _ e

either : (b : Bool) → b || true ≡ true
either true = refl
either false = refl

gap_bare : (st : Receiver) (cell : List ℕ) → (format_of st.format).overhead_bits ≡ 0 → R.gap_of st cell ≡ 1
unfolding R.gap_of
gap_bare st cell bare = rw (eq-eqb (format_of st.format).overhead_bits 0 bare, either (not st.started))

module _ (x : Cell) (c : Crosses x) where
  abbrev used : ℕ
  used = S.used_now x.sent.state

  abbrev missing : ℕ
  missing = x.got.answer.missing

  many : suc missing * R.used_now x.got.state ≡ missing * used + used
  many = ap (λ (n : ℕ). suc missing * n) (used_in_lem c.settings) ∙ suc-mul missing used

  handed_is : (own run run₁ : List ℕ) → length own ≡ used → run₁ ≡ over (replicate (missing * used) 0 ++ own) run
      → take (suc missing * R.used_now x.got.state) run₁ ≡ replicate (missing * used) 0 ++ own
  handed_is own run run₁ long left =
      let whole : length (replicate (missing * used) 0 ++ own) ≡ suc missing * R.used_now x.got.state
      = length-append (replicate (missing * used) 0) own
      ∙ ap₂ (λ (m n : ℕ). m + n) (length-replicate {A = ℕ} (missing * used) 0) long
      ∙ sym many in
      ap (take (suc missing * R.used_now x.got.state)) left ∙ at_start (replicate (missing * used) 0 ++ own) run whole

  pub samples_handed : handed_from (λ r. r.samples_after) x ≡ replicate (missing * used) 0 ++ x.sent.samples
  samples_handed =
      handed_is x.sent.samples x.got.samples x.got.samples_after (fits x.sent c.sends c.written).samples_length
      (demand_2 x.sent x.got c.sends c.written c.settings c.arrived c.receives c.taken).samples_back

  pub ancillary_handed : handed_from (λ r. r.ancillary_after) x ≡ replicate (missing * used) 0 ++ x.sent.ancillary
  ancillary_handed =
      handed_is x.sent.ancillary x.got.ancillary x.got.ancillary_after (fits x.sent c.sends c.written).ancillary_length
      (demand_2 x.sent x.got c.sends c.written c.settings c.arrived c.receives c.taken).ancillary_back

  -- without overhead no cell is missing
  none_missing : (format_of x.sent.state.format).overhead_bits ≡ 0 → missing ≡ 0
  unfolding R.received_of
  none_missing bare =
      let none : receive_table x.got ≡ 0 = sym (received_refusal x.got c.receives) ∙ c.taken in
      let told : missing ≡ R.gap_of x.got.state x.got.cell - 1 = ap (λ y. y.missing) c.receives.answered ∙ rw none in
      let here : (format_of x.got.state.format).overhead_bits ≡ 0
      = ap (λ (octet : ℕ). (format_of octet).overhead_bits) c.settings.format ∙ bare in
      let one : R.gap_of x.got.state x.got.cell ≡ 1 = gap_bare x.got.state x.got.cell here in
      omega (arith, told, one)

  bare_handed : (own : List ℕ) → (format_of x.sent.state.format).overhead_bits ≡ 0 → replicate (missing * used) 0 ++ own ≡ own
  bare_handed own bare = ap (λ (n : ℕ). replicate n 0 ++ own) (ap (λ (m : ℕ). m * used) (none_missing bare) ∙ zero-mul used)

-- a row of cells without overhead hands out what was sent
abbrev Bare : Cell → Type 0
Bare x = Crosses x × ((format_of x.sent.state.format).overhead_bits ≡ 0)

samples_out_lem : (cells : List Cell) → Each Bare cells → samples_out cells ≡ flat_map (λ x. x.sent.samples) cells
unfolding flat_map Each
samples_out_lem [] all = refl
samples_out_lem (x ∷ xs) all =
    ap₂ (λ (a b : List ℕ). a ++ b)
    (samples_handed x all.0.0 ∙ bare_handed x all.0.0 x.sent.samples all.0.1) (samples_out_lem xs all.1)

ancillary_out_lem : (cells : List Cell) → Each Bare cells → ancillary_out cells ≡ flat_map (λ x. x.sent.ancillary) cells
unfolding flat_map Each
ancillary_out_lem [] all = refl
ancillary_out_lem (x ∷ xs) all =
    ap₂ (λ (a b : List ℕ). a ++ b)
    (ancillary_handed x all.0.0 ∙ bare_handed x all.0.0 x.sent.ancillary all.0.1) (ancillary_out_lem xs all.1)

-- and that leaves as data units, and comes back
pub units_back : (cells : List Cell) → Each (λ x. Crosses x × ((format_of x.sent.state.format).overhead_bits ≡ 0)) cells
    → (e : ExportCall) → ExportsRow cells e → MeetsExport e → e.answer.refusal ≡ 0 → (reads : ℕ → ReadCall)
    → ((k : ℕ) → k < e.answer.units → ReadsUnit e k (reads k) × MeetsRead (reads k)) → RowBack cells e reads
units_back cells all e these meets leaves reads each =
    let back = back_whole e meets leaves reads each in
    record {
      none_refused = back.none_refused;
      samples_back = back.samples_back ∙ these.the_samples ∙ samples_out_lem cells all;
      ancillary_back = back.ancillary_back ∙ these.the_ancillary ∙ ancillary_out_lem cells all;
    }

-- two channels in a cell of 56 hex have six times
twelve : 2 * times_of (format_of 0x56).slots 2 ≡ 12
unfolding length_of sample_bits ancillary_bits overhead_bits listed_octets is_among is_listed width_of slots_of format_of
twelve = refl

used_12 : (x : Cell) → TwoOf56 x → S.used_now x.sent.state ≡ 12
used_12 x two = (λ i. two.channels i * times_of (format_of (two.format i)).slots (two.channels i)) ∙ twelve

-- the frames of a cell stand behind those of the cells before it
joined_flat : {A : Type 0} (f : A → List ℕ) (xs ys : List A) → flat_map f (xs ++ ys) ≡ flat_map f xs ++ flat_map f ys
unfolding flat_map
joined_flat f [] ys = refl
joined_flat f (x ∷ xs) ys = ap (λ (l : List ℕ). f x ++ l) (joined_flat f xs ys) ∙ sym (append_assoc (f x) (flat_map f xs) (flat_map f ys))

row_length : (f : Cell → List ℕ) → ((x : Cell) → TwoOf56 x → length (f x) ≡ suc x.got.answer.missing * 6 * 2)
    → (cells : List Cell) → Each TwoOf56 cells → length (flat_map f cells) ≡ frames_in cells * 2
unfolding flat_map Each total_of
row_length f each [] all = refl
row_length f each (x ∷ xs) all =
    length-append (f x) (flat_map f xs)
    ∙ ap₂ (λ (m n : ℕ). m + n) (each x all.0) (row_length f each xs all.1)
    ∙ sym (add-mul (suc x.got.answer.missing * 6) (frames_in xs) 2)

pair_past : (xs ys : List ℕ) (n k : ℕ) → length xs ≡ n * 2 → pair_at (xs ++ ys) (n + k) ≡ pair_at ys k
unfolding pair_at
pair_past xs ys n k long =
    let place : (n + k) * 2 ≡ length xs + k * 2 = omega (arith, long) in
    ap (λ (m : ℕ). take 2 (drop m (xs ++ ys))) place ∙ ap (take 2) (drop-append-add xs ys (k * 2))

over_itself : (new rest : List ℕ) → new ++ rest ≡ over new (new ++ rest)
unfolding over
over_itself new rest = ap (λ (l : List ℕ). new ++ l) (sym (drop-append_seam new rest))

module _ (before : List Cell) (x : Cell) (later : List Cell) (all : Each TwoOf56 before) (two : TwoOf56 x)
    (preambles subframes : ℕ → List ℕ) (carries : CarriesFrames preambles subframes x)
  where
    abbrev lost : ℕ
    lost = x.got.answer.missing

    zeros_are : lost * S.used_now x.sent.state ≡ lost * 6 * 2
    zeros_are = ap (λ (n : ℕ). lost * n) (used_12 x two) ∙ (let same : lost * 12 ≡ lost * 6 * 2 = omega arith in same)

    -- what is handed out of one run over the row, and where this cell's frames stand
    stands : (out : Cell → List ℕ) (own : List ℕ)
        → ((y : Cell) (t : TwoOf56 y) → length (out y) ≡ suc y.got.answer.missing * 6 * 2)
        → out x ≡ replicate (lost * S.used_now x.sent.state) 0 ++ own
        → (k : ℕ)
        → pair_at (flat_map out (before ++ (x ∷ later))) (frames_in before + (lost * 6 + k))
        ≡ pair_at (over (replicate (lost * 6 * 2) 0 ++ own) ((replicate (lost * 6 * 2) 0 ++ own) ++ flat_map out later)) (lost * 6 + k)
    unfolding flat_map
    stands out own each is k =
        let new : List ℕ = replicate (lost * 6 * 2) 0 ++ own in
        let out_is : out x ≡ new = is ∙ ap (λ (n : ℕ). replicate n 0 ++ own) zeros_are in
        ap (λ (l : List ℕ). pair_at l (frames_in before + (lost * 6 + k))) (joined_flat out before (x ∷ later))
        ∙ pair_past (flat_map out before) (flat_map out (x ∷ later)) (frames_in before) (lost * 6 + k) (row_length out each before all)
        ∙ ap (λ (l : List ℕ). pair_at (l ++ flat_map out later) (lost * 6 + k)) out_is
        ∙ ap (λ (l : List ℕ). pair_at l (lost * 6 + k)) (over_itself new (flat_map out later))

    own_length : (own : Cell → List ℕ) (run : ReceiveCall → List ℕ)
        → ((y : Cell) → Crosses y → length (own y) ≡ S.used_now y.sent.state)
        → ((y : Cell) → Crosses y → handed_from run y ≡ replicate (y.got.answer.missing * S.used_now y.sent.state) 0 ++ own y)
        → (y : Cell) → TwoOf56 y → length (handed_from run y) ≡ suc y.got.answer.missing * 6 * 2
    own_length own run long is y t =
        ap length (is y t.crosses)
        ∙ length-append (replicate (y.got.answer.missing * S.used_now y.sent.state) 0) (own y)
        ∙ ap₂ (λ (m n : ℕ). m + n) (length-replicate {A = ℕ} _ 0) (long y t.crosses)
        ∙ ap (λ (n : ℕ). y.got.answer.missing * n + n) (used_12 y t)
        ∙ (let same : y.got.answer.missing * 12 + 12 ≡ suc y.got.answer.missing * 6 * 2
        = omega (arith, suc-mul y.got.answer.missing 6) in same)

    pub frames_back : (k : ℕ) → k < 6
        → SameFrame (preambles k) (subframes k)
        (export_of (pair_at (samples_out (before ++ (x ∷ later))) (frames_in before + (lost * 6 + k)))
        (pair_at (ancillary_out (before ++ (x ∷ later))) (frames_in before + (lost * 6 + k))))
    frames_back k h =
        let samples_at = stands (handed_from (λ r. r.samples_after)) x.sent.samples
        (own_length (λ y. y.sent.samples) (λ r. r.samples_after) (λ y c. (fits y.sent c.sends c.written).samples_length) samples_handed)
        (samples_handed x two.crosses) k in
        let ancillary_at_lem = stands (handed_from (λ r. r.ancillary_after)) x.sent.ancillary
        (own_length (λ y. y.sent.ancillary) (λ r. r.ancillary_after) (λ y c. (fits y.sent c.sends c.written).ancillary_length)
        ancillary_handed)
        (ancillary_handed x two.crosses) k in
        let zeros : List ℕ = replicate (lost * 6 * 2) 0 in
        let s-run : List ℕ = (zeros ++ x.sent.samples) ++ samples_out later in
        let a-run : List ℕ = (zeros ++ x.sent.ancillary) ++ ancillary_out later in
        subst (λ (p : List ℕ × List ℕ). SameFrame (preambles k) (subframes k) (export_of p.0 p.1))
        (λ i. (sym samples_at i, sym ancillary_at_lem i))
        (row_back preambles subframes 6 carries.halves carries.imported (lost * 6) s-run a-run
        (over (zeros ++ x.sent.samples) s-run) (over (zeros ++ x.sent.ancillary) a-run)
        (λ i. over (zeros ++ carries.samples i) s-run) (λ i. over (zeros ++ carries.ancillary i) a-run) k h)
