-- Frames imported in a row, and exported again from runs that hold what they brought, after other entries: the frames that came.
-- Assumes nothing.
use mathlib.Core.List.{List, ◌++◌}
use mathlib.Core.Path.{◌≡◌, sym, ◌∙◌, ap, ap₂, subst}
use Prim.Native.Nat.{ℕ, suc, ◌+◌, ◌*◌, ◌≤◌, ◌<◌}
use native.Mathlib.Nat.{suc-mul, mul-le-mul_right}
use native.Mathlib.Omega.{arith}
use lib.Dec.{eqb}
use lib.ListN.{length, take, drop, replicate, length-append, length-drop, length-replicate}
use lib.Seq.{take-append-le, drop-append-le, drop-append-add}
use Rattle.runs.specs.Runs.{over}
use Rattle.runs.proofs.Laws.{split, length_joined, part_joined}
use Rattle.cable.specs.Frames.{import_refusal, import_of, export_of}
use Rattle.cable.specs.Back.{Halves, SameFrame}
use Rattle.cable.specs.Rows.{samples_of, ancillary_of, pair_at}
use Rattle.cable.proofs.Back.{export_of_imported}

-- a frame brings two of each, refused or not
two_samples : (preambles subframes : List ℕ) → length (import_of preambles subframes).samples ≡ 2
unfolding import_of
two_samples preambles subframes = split (eqb (import_refusal preambles subframes) 0) (λ e. rw e) (λ e. rw e)

two_ancillary : (preambles subframes : List ℕ) → length (import_of preambles subframes).ancillary ≡ 2
unfolding import_of
two_ancillary preambles subframes = split (eqb (import_refusal preambles subframes) 0) (λ e. rw e) (λ e. rw e)

-- entries behind others in a run that was written into
behind : (m k : ℕ) (entries run : List ℕ) → k * 2 + 2 ≤ length entries
    → pair_at (over (replicate (m * 2) 0 ++ entries) run) (m + k) ≡ pair_at entries k
unfolding over pair_at
behind m k entries run within =
    let head : List ℕ = replicate (m * 2) 0 in
    let rest = drop (length (head ++ entries)) run in
    let long : length head ≡ m * 2 = length-replicate {A = ℕ} (m * 2) 0 in
    let whole : length (head ++ entries) ≡ m * 2 + length entries = length-append head entries ∙ ap (λ (n : ℕ). n + length entries) long in
    let at : (m + k) * 2 ≡ length head + k * 2 = omega (arith, long) in
    let dropped : drop ((m + k) * 2) (head ++ entries) ≡ drop (k * 2) entries =
    ap (λ (n : ℕ). drop n (head ++ entries)) at ∙ drop-append-add head entries (k * 2) in
    ap (take 2) (drop-append-le ((m + k) * 2) (head ++ entries) rest (omega (arith, whole)) ∙ ap (λ (l : List ℕ). l ++ rest) dropped)
    ∙ take-append-le 2 (drop (k * 2) entries) rest (omega (arith, length-drop (k * 2) entries))

module _ (preambles subframes : ℕ → List ℕ) (n : ℕ) where
  pub length_samples : length (samples_of preambles subframes n) ≡ n * 2
  length_samples = length_joined _ 2 n (λ k. two_samples (preambles k) (subframes k))

  pub length_ancillary : length (ancillary_of preambles subframes n) ≡ n * 2
  length_ancillary = length_joined _ 2 n (λ k. two_ancillary (preambles k) (subframes k))

  samples_at : {k : ℕ} → k < n → pair_at (samples_of preambles subframes n) k ≡ (import_of (preambles k) (subframes k)).samples
  unfolding pair_at
  samples_at h = part_joined _ 2 n (λ k. two_samples (preambles k) (subframes k)) h

  ancillary_at_lem : {k : ℕ} → k < n → pair_at (ancillary_of preambles subframes n) k ≡ (import_of (preambles k) (subframes k)).ancillary
  unfolding pair_at
  ancillary_at_lem h = part_joined _ 2 n (λ k. two_ancillary (preambles k) (subframes k)) h

  -- n frames whose entries stand in two runs after those of m others: each goes out as it came
  pub row_back : ((k : ℕ) → k < n → Halves (preambles k) (subframes k)) → ((k : ℕ) → k < n → (import_of (preambles k) (subframes k)).refusal ≡ 0)
      → (m : ℕ) (samples ancillary samples₁ ancillary₁ : List ℕ)
      → samples₁ ≡ over (replicate (m * 2) 0 ++ samples_of preambles subframes n) samples
      → ancillary₁ ≡ over (replicate (m * 2) 0 ++ ancillary_of preambles subframes n) ancillary
      → (k : ℕ) → k < n → SameFrame (preambles k) (subframes k) (export_of (pair_at samples₁ (m + k)) (pair_at ancillary₁ (m + k)))
  row_back halves taken m samples ancillary samples₁ ancillary₁ is-samples is-ancillary k h =
      let inside : k * 2 + 2 ≤ n * 2 = omega (arith, suc-mul k 2, mul-le-mul_right {m = suc k} {n = n} 2 h) in
      let left : pair_at samples₁ (m + k) ≡ (import_of (preambles k) (subframes k)).samples =
      ap (λ (l : List ℕ). pair_at l (m + k)) is-samples
      ∙ behind m k (samples_of preambles subframes n) samples (omega (arith, length_samples))
      ∙ samples_at h in
      let right : pair_at ancillary₁ (m + k) ≡ (import_of (preambles k) (subframes k)).ancillary =
      ap (λ (l : List ℕ). pair_at l (m + k)) is-ancillary
      ∙ behind m k (ancillary_of preambles subframes n) ancillary (omega (arith, length_ancillary))
      ∙ ancillary_at_lem h in
      subst (SameFrame (preambles k) (subframes k)) (sym (ap₂ export_of left right))
      (export_of_imported (preambles k) (subframes k) (halves k h) (taken k h))
