-- Laws of a state whose settings are refused: it takes no record, and none of its refusals is counted.
-- Assumes nothing.
use mathlib.Core.Bool.{Bool, true, false, cond}
use mathlib.Core.List.{List, [], ◌∷◌}
use mathlib.Core.Path.{◌≡◌, refl, sym, ◌∙◌, ap}
use Prim.Native.Nat.{ℕ, ◌≤◌}
use native.Mathlib.Omega.{arith}
use borrow.Author.Tests.{ne_eqb}
use lib.ListN.{length}
use Rattle.formats.specs.Settled.{Settled}
use Rattle.formats.specs.Formats.{settings_refusal}
use Rattle.formats.specs.Settings.{settings_of}
use Rattle.formats.proofs.Laws.{given_refusal}
use Rattle.receiver.specs.declared.Receiver.{Receiver}
use Rattle.receiver.specs.declared.Received.{Received}
use Rattle.receiver.specs.Receiver.{judged_of}
use Rattle.receiver.specs.Unpacking.{refused_by}
use Rattle.receiver.proofs.Laws.{answer_early, early_settings}
use Rattle.reading.specs.Heard.{heard_by, end_by, hear, onward}
use Rattle.reading.specs.Records.{Whole}
use Rattle.figures.specs.declared.Noted.{Noted}
use Rattle.figures.specs.Code.{no_counts, one_of}
use Rattle.figures.specs.Figures.{plus_of}
use Rattle.figures.specs.Stretch.{told_of, refused_one, noted_over}
use Rattle.figures.proofs.Bare.{over_front}
use Rattle.figures.proofs.Cells.{refused_one_lem}
use Rattle.figures.proofs.Laws.{counts_none, plus_none}

-- checks 1 to 3 refuse by 1 to 3
few : (octet channels order : ℕ) → settings_refusal octet channels order ≤ 3
unfolding settings_refusal
few octet channels order = most _ _ _
  where
    most : (a b c : Bool) → cond a 1 (cond b 2 (cond c 3 0)) ≤ 3
    most true b c = omega arith
    most false true c = omega arith
    most false false true = omega arith
    most false false false = omega arith

uncounted : (n : ℕ) → n ≤ 3 → refused_one n ≡ no_counts
uncounted n low =
    rw (
      ne_eqb n 8 (λ e. omega (arith, e)),
      ne_eqb n 9 (λ e. omega (arith, e)),
      ne_eqb n 15 (λ e. omega (arith, e)),
      ne_eqb n 20 (λ e. omega (arith, e)),
    )

module _ (st : Receiver) {set : Settled} (settles : set ≡ settings_of st.format st.channels st.order) (some : set.refusal ≡ 0 → ⊥)
  where
    judged : (w : Whole) → refused_by set.refusal st ≡ judged_of st w.cell w.indication
    unfolding judged_of
    judged w =
        answer_early st w.cell w.indication 720 720 720 some (early_settings st settles (length w.cell) 720 720 720 some)

    stays : (w : Whole) → onward (hear st w) ≡ st
    unfolding hear
    stays w = sym (ap (λ (got : Received). got.state) (judged w))

    low : set.refusal ≤ 3
    low = omega (arith, few st.format st.channels st.order, given_refusal st.format st.channels st.order 0 settles)

    none : (w : Whole) → one_of (hear st w) ≡ no_counts
    none w =
        let is : set.refusal ≡ (judged_of st w.cell w.indication).refusal = ap (λ (got : Received). got.refusal) (judged w) in
        sym (refused_one_lem st w.cell w.indication {told = told_of (judged_of st w.cell w.indication)} refl (λ e. some (is ∙ e)))
        ∙ ap refused_one (sym is)
        ∙ uncounted set.refusal low

    pub none_over : (ws : List Whole) → record { state = st; counts = no_counts } ≡ noted_over st ws
    unfolding heard_by end_by
    none_over [] = λ i. record { state = st; counts = sym counts_none i }
    none_over (w ∷ ws) =
        (λ i. record {
          state = (none_over ws i).state;
          counts = (sym (plus_none no_counts) ∙ ap (λ (m : Noted). plus_of no_counts m.counts) (none_over ws)) i;
        })
        ∙ over_front st st w ws no_counts (stays w) (none w)
