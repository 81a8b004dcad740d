-- What was asked for, of the C calls: the theorems below carried over to the face.
-- Assumes nothing.
use mathlib.Core.Bool.{Bool, true, false, cond}
use mathlib.Core.List.{List, [], ◌∷◌, ◌++◌}
use mathlib.Core.Path.{◌≡◌, refl, sym, ◌∙◌, ap, subst}
use Prim.Native.Nat.{ℕ, zero, suc, ◌+◌, ◌≤◌, ◌<◌}
use native.Mathlib.Omega.{arith}
use borrow.Author.Tests.{eq-eqb, ne_eqb, eqb-true}
use lib.Dec.{eqb, ltb}
use lib.ListN.{length, get_or, take, drop}
use Rattle.runs.proofs.Laws.{split}
use Rattle.cell_log.specs.Answers.{Header}
use Rattle.cell_log.specs.Records.{header_of}
use Rattle.reading.specs.Heard.{sound_in}
use Rattle.reading.specs.Reading.{reading_of, fresh_of, behind_header}
use Rattle.reading.specs.Records.{records_in}
use Rattle.presence.specs.Handed.{FirstIn, AllSilent}
use Rattle.presence.specs.Presence.{presence_of}
use Rattle.presence.specs.Taking.{reads_on}
use Rattle.presence.specs.declared.Search.{Search}
use Rattle.presence.proofs.Theorems as presence
use Rattle.saving.specs.declared.Salvaged.{Salvaged}
use Rattle.saving.specs.Demands.{SameLine}
use Rattle.saving.specs.Salvage.{new_log, list_of, left_out_of, cut_from, salvaged_of, Salvages}
use Rattle.saving.proofs.Demands as saving
use Rattle.saving.proofs.Laws as saved
use Rattle.salvaging.specs.Lines.{end_line}
use Rattle.salvaging.specs.Said as Said
use Rattle.status.specs.Bits.{bit_of, with_bit, zeros}
use Rattle.status.specs.Check.{check_character}
use Rattle.status.specs.Sender.{block_after, brought_by, brought_out, Octets, SendsBlock}
use Rattle.status.specs.Step.{Stepped, b_of, c_of, no_block, fit_of, unfinished, finished, is_refused, added_to, step_of}
use Rattle.status.specs.declared.step.Block.{Block}
use Rattle.status.proofs.Sent as status
use Rattle.cable.specs.Back.{Halves, SameFrame}
use Rattle.cable.specs.Frames.{import_of, export_of}
use Rattle.cable.proofs.Back as cable
use Rattle.circuits.specs.Circuits.{Verdict, Refused, Yes, Share, Allowance, Sum, answer_of, circuit_of, checked_of, check_refusal, octet_refusal}
use Rattle.circuits.proofs.Checked as circuits
use Rattle.units.specs.Back as U
use Rattle.rimesatchel.specs.Contents.{presence_numbers}
use Rattle.rimesatchel.specs.Frames.{ImportedFrame, ExportedFrame}
use Rattle.rimesatchel.specs.Plans.{CheckedPlan}
use Rattle.rimesatchel.specs.Salvages.{SalvagedLog}
use Rattle.rimesatchel.specs.Statuses.{block_of, SteppedOctets}
use Rattle.line.proofs.Demands as line
use Rattle.pages.specs.Papers.{
  AnswersFit,
  Checks,
  UnitsFace,
  MeetsUnitsFace,
  export_of_face,
  UnitFace,
  MeetsUnitFace,
  read_of_face,
}

-- request 7: a search behind its yes
pub anything_stops : (s : Search) → s.sought.found ≡ true → reads_on s ≡ false
unfolding reads_on
anything_stops s found = rw found

-- request 1: a frame imported and exported again
pub frame_back : (preambles subframes samples ancillary preambles₁ subframes₁ : List ℕ) (x y : ℕ) → Halves preambles subframes
    → ImportedFrame preambles subframes x samples ancillary → x ≡ 0 → ExportedFrame samples ancillary y preambles₁ subframes₁
    → SameFrame preambles subframes (record { refusal = y; preambles = preambles₁; subframes = subframes₁ })
frame_back preambles subframes samples ancillary preambles₁ subframes₁ x y halves came taken goes =
    let said : export_of samples ancillary ≡ record { refusal = y; preambles = preambles₁; subframes = subframes₁ }
    = λ i. record { refusal = sym goes.refused i; preambles = sym goes.the_preambles i; subframes = sym goes.the_subframes i } in
    let same : export_of (import_of preambles subframes).samples (import_of preambles subframes).ancillary ≡ export_of samples ancillary
    = λ i. export_of (sym came.the_samples i) (sym came.the_ancillary i) in
    subst (SameFrame preambles subframes) (same ∙ said)
    (cable.export_of_imported preambles subframes halves (sym came.refused ∙ taken))

-- request 6: what is said of a block that goes out
unfoldable FitSaid : Stepped → Type 0
FitSaid s = (s.handed.answer ≡ 0 → ⊥) → s.handed.answer ≡ fit_of s.handed.octets

either_said : (test : Bool) (a b : Stepped) → FitSaid a → FitSaid b → FitSaid (cond test a b)
either_said true a b first second = first
either_said false a b first second = second

nothing_said : (refusal : ℕ) (block : Block) → FitSaid (unfinished refusal block)
unfolding FitSaid
nothing_said refusal block some = absurd (some refl)

finished_said : (octets : List ℕ) → FitSaid (finished octets)
unfolding FitSaid
finished_said octets some = refl

added_said : (bits : ℕ) (octets : List ℕ) → FitSaid (added_to bits octets)
unfolding added_to
added_said bits octets =
    either_said (ltb bits 191) (unfinished 0 (record { bits = bits + 1; octets = octets })) (finished octets) (nothing_said 0 _)
    (finished_said octets)

step_said : (block : Block) (ancillary mark : ℕ) → FitSaid (step_of block ancillary mark)
unfolding step_of
step_said block ancillary mark =
    let octets : List ℕ = with_bit block.octets block.bits (c_of ancillary) in
    let begun : Block = record { bits = 1; octets = with_bit zeros 0 (c_of ancillary) } in
    either_said (is_refused block.bits ancillary mark) (unfinished 14 block) _ (nothing_said 14 block)
    (either_said (eqb mark 2) (unfinished 0 no_block) _ (nothing_said 0 no_block)
    (either_said (eqb (b_of ancillary) 1) (unfinished 0 begun) _ (nothing_said 0 begun)
    (either_said (eqb block.bits 0) (unfinished 0 block) (added_to block.bits octets) (nothing_said 0 block)
    (added_said block.bits octets))))

fit_answers : (octets : List ℕ) → AnswersFit octets (fit_of octets)
unfolding fit_of
fit_answers octets =
    record {
      none_carried = λ bare. rw (eq-eqb (bit_of octets 0) 0 bare);
      only_there = only;
      fits = λ carried fits. rw (ne_eqb (bit_of octets 0) 0 carried, eq-eqb _ _ fits);
      doesn't_fit = λ carried differs. rw (ne_eqb (bit_of octets 0) 0 carried, ne_eqb _ _ differs);
    }
  where
    only : fit_of octets ≡ 3 → bit_of octets 0 ≡ 0
    only three =
        split (eqb (bit_of octets 0) 0) (λ e. eqb-true _ 0 e)
        (λ e.
        split (eqb (get_or octets 23 0) (check_character octets))
        (λ f. let two : ◌≡◌ {A = ℕ} 2 3 = rw (e, f) at three in omega (arith, two))
        (λ f. let one : ◌≡◌ {A = ℕ} 1 3 = rw (e, f) at three in omega (arith, one)))

pub three_answers : (block : List ℕ) (ancillary mark refusal : ℕ) (left out : List ℕ)
    → SteppedOctets block ancillary mark refusal left out → (get_or out 0 0 ≡ 0 → ⊥) → AnswersFit (drop 1 out) (get_or out 0 0)
unfolding FitSaid
three_answers block ancillary mark refusal left out p some =
    let s : Stepped = step_of (block_of block) ancillary mark in
    let first : get_or out 0 0 ≡ s.handed.answer = ap (λ (o : List ℕ). get_or o 0 0) p.hands in
    let rest : drop 1 out ≡ s.handed.octets = ap (λ (o : List ℕ). drop 1 o) p.hands in
    let said : s.handed.answer ≡ fit_of s.handed.octets = step_said (block_of block) ancillary mark (λ none. some (first ∙ none)) in
    subst (λ (answer : ℕ). AnswersFit (drop 1 out) answer) (sym (first ∙ said))
    (subst (λ (octets : List ℕ). AnswersFit octets (fit_of s.handed.octets)) (sym rest) (fit_answers s.handed.octets))

-- a row of steps of the face is a row of steps
block_at : (blocks outs : ℕ → List ℕ) (refusals ancillary mark : ℕ → ℕ)
    → ((k : ℕ) → SteppedOctets (blocks k) (ancillary k) (mark k) (refusals k) (blocks (suc k)) (outs k))
    → (k : ℕ) → block_after (block_of (blocks 0)) ancillary mark k ≡ block_of (blocks k)
unfolding block_after
block_at blocks outs refusals ancillary mark steps zero = refl
block_at blocks outs refusals ancillary mark steps (suc k) =
    ap (λ (b : Block). (step_of b (ancillary k) (mark k)).block) (block_at blocks outs refusals ancillary mark steps k)
    ∙ sym (ap block_of (steps k).leaves)

-- what a step that hands something out handed
one_brought : (s : Stepped) {answer : ℕ} {octets : List ℕ} → brought_by s ≡ (answer, octets) ∷ []
    → (s.handed.answer ≡ answer) × (s.handed.octets ≡ octets)
unfolding brought_by
one_brought s {answer} {octets} e =
    split (eqb s.handed.answer 0)
    (λ t. let none : ◌≡◌ {A = ℕ} 0 1 = ap length (rw t at e) in absurd (omega (arith, none)))
    (λ t.
    let same : ◌≡◌ {A = List (ℕ × List ℕ)} ((s.handed.answer, s.handed.octets) ∷ []) ((answer, octets) ∷ []) = rw t at e in
    (ap (λ l. (first_of l).0) same, ap (λ l. (first_of l).1) same))
  where
    first_of : List (ℕ × List ℕ) → ℕ × List ℕ
    first_of [] = (0, [])
    first_of (x ∷ xs) = x

none_brought : (s : Stepped) → brought_by s ≡ [] → s.handed.answer ≡ 0
unfolding brought_by
none_brought s e =
    split (eqb s.handed.answer 0)
    (λ t. eqb-true _ 0 t)
    (λ t. let one : ◌≡◌ {A = ℕ} 1 0 = ap length (rw t at e) in absurd (omega (arith, one)))

both_none : {A : Type 0} (xs ys : List A) → xs ++ ys ≡ [] → ys ≡ []
both_none [] ys e = e
both_none (x ∷ xs) ys e = let one : suc (length (xs ++ ys)) ≡ 0 = ap length e in absurd (omega (arith, one))

module _ (blocks outs : ℕ → List ℕ) (refusals ancillary mark : ℕ → ℕ) (octets : List ℕ)
    (steps : (k : ℕ) → SteppedOctets (blocks k) (ancillary k) (mark k) (refusals k) (blocks (suc k)) (outs k))
    (begun : get_or (blocks 0) 0 0 ≤ 191) (whole : Octets octets) (sends : SendsBlock octets ancillary) (sound : (k : ℕ) → k < 192 → mark k ≤ 1)
  where
    both : (brought_out (block_of (blocks 0)) ancillary mark 192 ≡ (fit_of octets, octets) ∷ [])
        × ((n : ℕ) → n < 192 → brought_out (block_of (blocks 0)) ancillary mark n ≡ [])
    both = status.brings_out (block_of (blocks 0)) octets ancillary mark begun whole sends sound

    stepped : (k : ℕ) → step_of (block_after (block_of (blocks 0)) ancillary mark k) (ancillary k) (mark k) ≡ step_of (block_of (blocks k)) (ancillary k) (mark k)
    stepped k = ap (λ (b : Block). step_of b (ancillary k) (mark k)) (block_at blocks outs refusals ancillary mark steps k)

    pub label_out : outs 191 ≡ fit_of octets ∷ octets
    unfolding brought_out
    label_out =
        let last : brought_by (step_of (block_of (blocks 191)) (ancillary 191) (mark 191)) ≡ (fit_of octets, octets) ∷ []
        = sym
        ((λ i. both.1 191 (omega arith) i ++ brought_by (stepped 191 i)))
        ∙ both.0 in
        let handed = one_brought (step_of (block_of (blocks 191)) (ancillary 191) (mark 191)) last in
        (steps 191).hands ∙ (λ i. handed.0 i ∷ handed.1 i)

    pub none_before : (k : ℕ) → k < 191 → get_or (outs k) 0 0 ≡ 0
    unfolding brought_out
    none_before k h =
        let here : brought_by (step_of (block_after (block_of (blocks 0)) ancillary mark k) (ancillary k) (mark k)) ≡ []
        = both_none (brought_out (block_of (blocks 0)) ancillary mark k) _ (both.1 (suc k) (omega (arith, h))) in
        ap (λ (o : List ℕ). get_or o 0 0) (steps k).hands
        ∙ none_brought _ (sym (ap brought_by (stepped k)) ∙ here)

-- request 7
module _ (log : List ℕ) (refusal : ℕ) (answer : List ℕ) (p : (refusal ≡ (presence_of log).refusal) × (answer ≡ presence_numbers (presence_of log))) where
  number_is : get_or answer 1 0 ≡ (presence_of log).number
  number_is = ap (λ (o : List ℕ). get_or o 1 0) p.1

  found_is : get_or answer 0 0 ≡ cond (presence_of log).found 1 0
  found_is = ap (λ (o : List ℕ). get_or o 0 0) p.1

  one_found : (found : Bool) → ◌≡◌ {A = ℕ} (cond found 1 0) 1 → found ≡ true
  one_found true e = refl
  one_found false e = let not_so : ◌≡◌ {A = ℕ} 0 1 = e in absurd (omega (arith, not_so))

  none_found : (found : Bool) → ◌≡◌ {A = ℕ} (cond found 1 0) 0 → found ≡ false
  none_found false e = refl
  none_found true e = let not_so : ◌≡◌ {A = ℕ} 1 0 = e in absurd (omega (arith, not_so))

  pub anything_yes : get_or answer 0 0 ≡ 1 → FirstIn log (get_or answer 1 0)
  anything_yes found =
      subst (FirstIn log) (sym number_is) (presence.yes_is_handed_out log (one_found (presence_of log).found (sym found_is ∙ found)))

  pub anything_no : refusal ≡ 0 → get_or answer 0 0 ≡ 0
      → (get_or answer 1 0 ≡ length (records_in (behind_header log))) × AllSilent (fresh_of (header_of log)) (records_in (behind_header log))
  anything_no taken silence =
      let silent = presence.no_is_silent log (sym (presence.presence_refusal log) ∙ sym p.0 ∙ taken)
      (none_found (presence_of log).found (sym found_is ∙ silence)) in
      (number_is ∙ silent.0, silent.1)

-- request 9
module _ (log out list : List ℕ) (refusal : ℕ) (out₁ list₁ counts : List ℕ) (p : SalvagedLog log out list refusal out₁ list₁ counts)
    (taken : refusal ≡ 0)
  where
    abbrev told : Salvaged
    told = salvaged_of log (length out) (length list)

    none : told.refusal ≡ 0
    none = sym p.refused ∙ taken

    octets_are : get_or counts 0 0 ≡ told.octets
    octets_are = ap (λ (o : List ℕ). get_or o 0 0) p.counted

    pub salvaged_the_same : SameLine (reading_of (take (get_or counts 0 0) out₁)) (reading_of log)
    salvaged_the_same =
        subst (λ (n : ℕ). SameLine (reading_of (take n out₁)) (reading_of log)) (sym octets_are) (saving.runs_the_same p.salvages none)

    module _ (again more : List ℕ) (refusal₂ : ℕ) (out₂ list₂ counts₂ : List ℕ)
        (q : SalvagedLog (take (get_or counts 0 0) out₁) again more refusal₂ out₂ list₂ counts₂) (taken₂ : refusal₂ ≡ 0)
      where
        abbrev told₂ : Salvaged
        told₂ = salvaged_of (take (get_or counts 0 0) out₁) (length again) (length more)

        pub salvaged_twice : (take (get_or counts₂ 0 0) out₂ ≡ take (get_or counts 0 0) out₁) × (get_or counts₂ 1 0 ≡ 0) × (list₂ ≡ more)
            × (get_or counts₂ 2 0 ≡ 0)
        salvaged_twice =
            let same : Salvages (take told.octets out₁) again more told₂ out₂ list₂
            = subst (λ (n : ℕ). Salvages (take n out₁) again more told₂ out₂ list₂) octets_are q.salvages in
            let twice = saving.salvaged_twice p.salvages none same (sym q.refused ∙ taken₂) in (
              ap (λ (o : List ℕ). take (get_or o 0 0) out₂) q.counted ∙ twice.0 ∙ ap (λ (n : ℕ). take n out₁) (sym octets_are),
              ap (λ (o : List ℕ). get_or o 1 0) q.counted ∙ twice.2,
              twice.3,
              ap (λ (o : List ℕ). get_or o 2 0) q.counted ∙ twice.4,
            )

-- of the program: the new log salvaged is itself, and the lines beside it are the end line alone
saved_is : (log : List ℕ) → (header_of log).refusal ≡ 0 → Said.saved_of log ≡ new_log log
unfolding Said.saved_of
saved_is log taken = rw taken

notes_are : (log : List ℕ) → (header_of log).refusal ≡ 0
    → Said.notes_of log ≡ Said.lines_of (list_of log) ++ end_line (sound_in (reading_of log).heard) (left_out_of log) (cut_from log)
unfolding Said.notes_of
notes_are log taken = rw taken

pub text_twice : (log : List ℕ) → (header_of log).refusal ≡ 0
    → (Said.saved_of (Said.saved_of log) ≡ Said.saved_of log)
    × (Said.notes_of (Said.saved_of log) ≡ end_line (sound_in (reading_of (Said.saved_of log)).heard) 0 0)
unfolding Said.lines_of
text_twice log taken =
    let is : Said.saved_of log ≡ new_log log = saved_is log taken in
    let again : (header_of (new_log log)).refusal ≡ 0 = ap (λ (h : Header). h.refusal) (saved.new_header log taken) ∙ taken in (
      ap Said.saved_of is ∙ saved_is (new_log log) again ∙ saved.new_again log taken ∙ sym is,
      ap Said.notes_of is
          ∙ notes_are (new_log log) again
          ∙ (λ i.
          Said.lines_of (saved.none_listed log taken i)
          ++ end_line (sound_in (reading_of (new_log log)).heard) (saved.none_left_out log taken i) (saved.none_cut log taken i))
          ∙ ap (λ (l : List ℕ). end_line (sound_in (reading_of l).heard) 0 0) (sym is),
    )

-- request 11
module _ (octet channels frequency : ℕ) (shares allowances : List ℕ) (refusal : ℕ) (answer : List ℕ)
    (p : CheckedPlan octet channels frequency shares allowances refusal answer) (taken : refusal ≡ 0)
  where
    abbrev verdict : Verdict
    verdict = checked_of octet channels frequency shares allowances

    table_none : check_refusal (octet_refusal octet) channels frequency (length shares) (length allowances) ≡ 0
    table_none =
        sym (line.demand_1_check_circuits octet channels frequency shares allowances verdict refl).by_the_table ∙ sym p.refused ∙ taken

    answer_is : get_or answer 0 0 ≡ answer_of verdict
    answer_is = ap (λ (o : List ℕ). get_or o 0 0) p.told

    circuit_is : get_or answer 1 0 ≡ circuit_of verdict
    circuit_is = ap (λ (o : List ℕ). get_or o 1 0) p.told

    says_yes : (v : Verdict) → answer_of v ≡ 1 → v ≡ Yes
    says_yes Yes e = refl
    says_yes (Refused n) e = let not_so : ◌≡◌ {A = ℕ} 0 1 = e in absurd (omega (arith, not_so))
    says_yes (Share k) e = let not_so : ◌≡◌ {A = ℕ} 2 1 = e in absurd (omega (arith, not_so))
    says_yes (Allowance k) e = let not_so : ◌≡◌ {A = ℕ} 3 1 = e in absurd (omega (arith, not_so))
    says_yes Sum e = let not_so : ◌≡◌ {A = ℕ} 4 1 = e in absurd (omega (arith, not_so))

    says_share : (v : Verdict) → answer_of v ≡ 2 → v ≡ Share (circuit_of v)
    says_share (Share k) e = refl
    says_share Yes e = let not_so : ◌≡◌ {A = ℕ} 1 2 = e in absurd (omega (arith, not_so))
    says_share (Refused n) e = let not_so : ◌≡◌ {A = ℕ} 0 2 = e in absurd (omega (arith, not_so))
    says_share (Allowance k) e = let not_so : ◌≡◌ {A = ℕ} 3 2 = e in absurd (omega (arith, not_so))
    says_share Sum e = let not_so : ◌≡◌ {A = ℕ} 4 2 = e in absurd (omega (arith, not_so))

    says_allowance : (v : Verdict) → answer_of v ≡ 3 → v ≡ Allowance (circuit_of v)
    says_allowance (Allowance k) e = refl
    says_allowance Yes e = let not_so : ◌≡◌ {A = ℕ} 1 3 = e in absurd (omega (arith, not_so))
    says_allowance (Refused n) e = let not_so : ◌≡◌ {A = ℕ} 0 3 = e in absurd (omega (arith, not_so))
    says_allowance (Share k) e = let not_so : ◌≡◌ {A = ℕ} 2 3 = e in absurd (omega (arith, not_so))
    says_allowance Sum e = let not_so : ◌≡◌ {A = ℕ} 4 3 = e in absurd (omega (arith, not_so))

    says_sum : (v : Verdict) → answer_of v ≡ 4 → v ≡ Sum
    says_sum Sum e = refl
    says_sum Yes e = let not_so : ◌≡◌ {A = ℕ} 1 4 = e in absurd (omega (arith, not_so))
    says_sum (Refused n) e = let not_so : ◌≡◌ {A = ℕ} 0 4 = e in absurd (omega (arith, not_so))
    says_sum (Share k) e = let not_so : ◌≡◌ {A = ℕ} 2 4 = e in absurd (omega (arith, not_so))
    says_sum (Allowance k) e = let not_so : ◌≡◌ {A = ℕ} 3 4 = e in absurd (omega (arith, not_so))

    pub checks : Checks octet channels frequency shares allowances answer
    checks =
        record {
          yes_only = λ e. circuits.yes_good octet channels frequency shares allowances table_none (says_yes verdict (sym answer_is ∙ e));
          yes_there =
              λ good. answer_is ∙ ap (λ (v : Verdict). answer_of v) (circuits.good_yes octet channels frequency shares allowances table_none good);
          share =
              λ e.
              circuits.no_share octet channels frequency shares allowances table_none (get_or answer 1 0)
              (says_share verdict (sym answer_is ∙ e) ∙ ap Share (sym circuit_is));
          allowance =
              λ e.
              circuits.no_allowance octet channels frequency shares allowances table_none (get_or answer 1 0)
              (says_allowance verdict (sym answer_is ∙ e) ∙ ap Allowance (sym circuit_is));
          sum = λ e. circuits.no_sum octet channels frequency shares allowances table_none (says_sum verdict (sym answer_is ∙ e));
        }

-- request 13: a call of the face is one of the function
pub units_as : (c : UnitsFace) → MeetsUnitsFace c → U.MeetsExport (export_of_face c)
units_as c p =
    record {
      answered =
          λ i.
          record {
            refusal = p.refused i;
            octets = ap (λ (o : List ℕ). get_or o 0 0) p.tells i;
            full = ap (λ (o : List ℕ). get_or o 1 0) p.tells i;
            units = ap (λ (o : List ℕ). get_or o 2 0) p.tells i;
          };
      out_after = p.writes.out_after;
    }

pub unit_as : (c : UnitFace) → MeetsUnitFace c → U.MeetsRead (read_of_face c)
unit_as c p =
    record {
      answered = λ i. record { refusal = p.refused i; entries = p.tells i };
      samples_after = p.reads.samples_after;
      ancillary_after = p.reads.ancillary_after;
    }
