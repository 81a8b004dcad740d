-- What the AES3 cable's calls write into the arrays lent to them, as include/rimesatchel.h has it: first half first.
-- Assumes nothing.
use Rattle.std.specs.Prelude.{List, ◌≡◌, ℕ}
use Rattle.cable.specs.Frames.{import_of, export_of}

pub record ImportedFrame (preambles subframes : List ℕ) (refusal : ℕ) (samples ancillary : List ℕ) : Type 0 where
  pub refused : refusal ≡ (import_of preambles subframes).refusal
  pub the_samples : samples ≡ (import_of preambles subframes).samples
  pub the_ancillary : ancillary ≡ (import_of preambles subframes).ancillary

pub record ExportedFrame (samples ancillary : List ℕ) (refusal : ℕ) (preambles subframes : List ℕ) : Type 0 where
  pub refused : refusal ≡ (export_of samples ancillary).refusal
  pub the_preambles : preambles ≡ (export_of samples ancillary).preambles
  pub the_subframes : subframes ≡ (export_of samples ancillary).subframes
