-- Frames in a row: the runs of samples and ancillary numbers that they bring, and the entries of one frame in such runs.
-- Assumes nothing.
use Rattle.std.specs.Prelude.{List, ℕ, ◌*◌, take, drop}
use Rattle.runs.specs.Runs.{joined}
use Rattle.cable.specs.Frames.{import_of}

-- n frames imported one after the other: two channels side by side, frame after frame
abbrev pub samples_of : (ℕ → List ℕ) → (ℕ → List ℕ) → ℕ → List ℕ
samples_of preambles subframes n = joined (λ k. (import_of (preambles k) (subframes k)).samples) n

abbrev pub ancillary_of : (ℕ → List ℕ) → (ℕ → List ℕ) → ℕ → List ℕ
ancillary_of preambles subframes n = joined (λ k. (import_of (preambles k) (subframes k)).ancillary) n

-- the two entries of frame k in a run
unfoldable pub pair_at : List ℕ → ℕ → List ℕ
pair_at run k = take 2 (drop (k * 2) run)
