-- Laws of formats without overhead: each whole record is a cell that is taken, with no gap before it and no sample marked 1.
-- Assumes nothing.
use mathlib.Core.Bool.{Bool, true, false, ◌&&◌, ◌||◌}
use mathlib.Core.List.{List, ◌∷◌}
use mathlib.Core.Path.{◌≡◌, refl, sym, ◌∙◌, ap, ap₂}
use Prim.Native.Nat.{ℕ, zero, suc, ◌+◌, ◌*◌, ◌-◌}
use native.Mathlib.Nat.{suc-mul, zero-mul}
use native.Mathlib.Omega.{arith}
use borrow.Author.Tests.{eq-eqb}
use lib.Dec.{eqb}
use lib.ListN.{length, get_or, take, drop, length-drop}
use lib.Seq.{length-take-le}
use Rattle.std.specs.Prelude.{Some}
use Rattle.runs.proofs.Laws.{split}
use Rattle.formats.specs.declared.Format.{Format}
use Rattle.formats.specs.Settled.{Settled}
use Rattle.formats.specs.Formats.{format_of}
use Rattle.formats.specs.Settings.{settings_of}
use Rattle.numbers.specs.Numbers.{indication_refused}
use Rattle.receiver.specs.declared.Receiver.{Receiver}
use Rattle.receiver.specs.Receiver.{last_refused, count_refused, found_now, gap_of, judged_of}
use Rattle.receiver.specs.Unpacking.{used_in}
use Rattle.receiver.proofs.Laws.{settled_format}
use Rattle.reading.specs.Heard.{Heard, heard_by, end_by, hear, onward, heard_from, end_of}
use Rattle.reading.specs.Records.{Whole, is_whole, walk_within}
use Rattle.reading.proofs.Records.{whole_facts, front_is}
use Rattle.pieces.proofs.Stretches.{wholes, walk_one, wholes_front, wholes_stop}
use Rattle.figures.specs.declared.Counts.{Counts}
use Rattle.figures.specs.declared.Noted.{Noted}
use Rattle.figures.specs.declared.told.Told.{Told}
use Rattle.figures.specs.Code.{no_counts, one_of}
use Rattle.figures.specs.Figures.{counts_of, plus_of}
use Rattle.figures.specs.Stretch.{told_of, taken_one, noted_over, Bare, bare_noted}
use Rattle.figures.proofs.Cells.{taken_one_lem}
use Rattle.figures.proofs.Laws.{same_counts, counts_none, counts_front}
use Rattle.figures.proofs.Slots.{none_marked}
use Rattle.figures.proofs.Turns.{takes_next}

and_false : (b : Bool) → b && false ≡ false
and_false true = refl
and_false false = refl

-- one cell
module _ (st : Receiver) (cell : List ℕ) (indication : Bool) {set : Settled}
    (settles : set ≡ settings_of st.format st.channels st.order) (n : ℕ) (bare : Bare set st (suc n))
    (size : length cell ≡ 48)
  where
    abbrev st₁ : Receiver
    st₁ =
        record {
          format = st.format;
          channels = st.channels;
          order = st.order;
          started = true;
          last = 0;
          count = st.count + 1;
        }

    without : eqb (format_of st.format).overhead_bits 0 ≡ true
    without =
        ap (λ (f : Format). eqb f.overhead_bits 0) (sym (settled_format st settles bare.taken))
        ∙ eq-eqb set.format.overhead_bits 0 bare.no_overhead

    found : Some 0 ≡ found_now st cell
    unfolding found_now
    found = sym (rw without)

    rightly : false ≡ indication_refused 0 indication
    unfolding indication_refused
    rightly = sym (and_false indication)

    one : 1 ≡ gap_of st cell
    unfolding gap_of
    one = sym (rw (without, bare.started) refl)

    fourth : false ≡ (last_refused st || count_refused st)
    unfolding last_refused count_refused
    fourth = sym (rw (bare.last_none, bare.started) refl)

    abbrev told : Told
    told = told_of (judged_of st cell indication)

    told_is : told ≡ record { refusal = 0; missing = 0; state = st₁ }
    told_is =
        ap told_of
        (sym (takes_next st cell indication settles bare.taken fourth size found rightly one (omega (arith, bare.goes_on))))

    abbrev h : Heard
    h = hear st (record { indication = indication; cell = cell })

    pub bare_onward : onward h ≡ st₁
    unfolding hear
    bare_onward = ap (λ (t : Told). t.state) told_is

    pub bare_one : one_of h ≡ taken_one (used_in set) 0 0
    bare_one =
        sym (taken_one_lem st cell indication {told = told} refl (ap (λ (t : Told). t.refusal) told_is) settles
        (none_marked set.format cell (used_in set) bare.no_overhead).0)
        ∙ ap (λ (t : Told). taken_one (used_in set) t.missing 0) told_is

-- so many
cell_size : (octets : List ℕ) → is_whole octets ≡ true → length (take 48 (drop 1 octets)) ≡ 48
cell_size octets here =
    length-take-le 48 (drop 1 octets) (omega (arith, length-drop 1 octets, (whole_facts octets here).0))

-- one more before the others
bare_more : (st : Receiver) (used n : ℕ)
    → bare_noted st used (suc n)
    ≡ record { state = (bare_noted st used (1 + n)).state; counts = plus_of (taken_one used 0 0) (bare_noted st used n).counts }
bare_more st used n =
    let next : suc n ≡ 1 + n = omega arith in
    let product : suc n * used ≡ used - 0 + n * used = omega (arith, suc-mul n used) in
    let none : 0 ≡ 0 * used + 0 = omega (arith, zero-mul used) in
    λ i. record {
      state = (bare_noted st used (next i)).state;
      counts = same_counts {a = (bare_noted st used (suc n)).counts} {b = plus_of (taken_one used 0 0) (bare_noted st used n).counts}
          next refl refl refl refl refl product refl none i;
    }

-- what is heard behind a cell that is heard so
pub over_front : (st st₁ : Receiver) (w : Whole) (ws : List Whole) (one : Counts) → onward (hear st w) ≡ st₁ → one_of (hear st w) ≡ one
    → record { state = (noted_over st₁ ws).state; counts = plus_of one (noted_over st₁ ws).counts } ≡ noted_over st (w ∷ ws)
unfolding heard_by end_by
over_front st st₁ w ws one on-is one-is =
    sym
    ((λ i. record {
      state = end_of (on-is i) (heard_from (on-is i) ws);
      counts = (counts_front (hear st w) (heard_from (onward (hear st w)) ws)
          ∙ ap₂ (λ (c : Counts) (s : Receiver). plus_of c (counts_of (heard_from s ws))) one-is on-is) i;
    }))

pub bare_over : (n : ℕ) (st : Receiver) (octets : List ℕ) {set : Settled}
    → set ≡ settings_of st.format st.channels st.order → Bare set st n → wholes n octets ≡ n
    → bare_noted st (used_in set) n ≡ noted_over st (walk_within n octets).records
unfolding walk_within heard_by end_by
bare_over zero st octets {set} settles bare these =
    let none : st.count + 0 ≡ st.count = omega arith in
    let product : 0 * used_in set ≡ 0 = zero-mul (used_in set) in
    λ i. record {
      state = record {
        format = st.format;
        channels = st.channels;
        order = st.order;
        started = sym bare.started i;
        last = sym bare.last_none i;
        count = none i;
      };
      counts = (same_counts {b = no_counts} refl refl refl refl refl refl product refl refl ∙ sym counts_none) i;
    }
bare_over (suc n) st octets {set} settles bare these =
    let here : is_whole octets ≡ true =
    split (is_whole octets) (λ e. e) (λ e. absurd (omega (arith, these, wholes_stop (suc n) octets e))) in
    let rest : wholes n (drop 49 octets) ≡ n = omega (arith, these, wholes_front n octets here) in
    let size : length (take 48 (drop 1 octets)) ≡ 48 = cell_size octets here in
    let facts = whole_facts octets here in
    let indication : Bool = eqb (get_or octets 0 0) 1 in
    let cell : List ℕ = take 48 (drop 1 octets) in
    let ws : List Whole = (walk_within n (drop 49 octets)).records in
    let next : Receiver = st₁ st cell indication settles n bare size in
    let far : st.count + (1 + n) ≡ st.count + 1 + n = omega arith in
    let bare₁ : Bare set next n =
    record {
      taken = bare.taken;
      no_overhead = bare.no_overhead;
      started = refl;
      last_none = refl;
      goes_on = omega (arith, bare.goes_on);
    } in
    let later : bare_noted next (used_in set) n ≡ noted_over next ws = bare_over n next (drop 49 octets) settles bare₁ rest in
    bare_more st (used_in set) n
    ∙ (λ i. record {
      state = record {
        format = st.format;
        channels = st.channels;
        order = st.order;
        started = true;
        last = 0;
        count = far i;
      };
      counts = plus_of (taken_one (used_in set) 0 0) (bare_noted st (used_in set) n).counts;
    })
    ∙ ap (λ (m : Noted). record { state = m.state; counts = plus_of (taken_one (used_in set) 0 0) m.counts }) later
    ∙ over_front st next (record { indication = indication; cell = cell }) ws (taken_one (used_in set) 0 0)
    (bare_onward st cell indication settles n bare size) (bare_one st cell indication settles n bare size)
    ∙ ap (λ (w : Whole). noted_over st (w ∷ ws)) (sym (front_is octets facts.0 facts.1))
    ∙ ap (noted_over st) (sym (walk_one n octets here))
