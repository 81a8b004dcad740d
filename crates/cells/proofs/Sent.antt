-- A cell by the definition holds what document 01 says of a sent cell, for every format, C and order at once.
-- Assumes nothing.
use Rattle.std.proofs.Common.{ℕ, zero, ◌*◌, ◌^◌, ◌<◌, ◌≤◌, Bool, List, get_or, ◌∙◌}
use Rattle.formats.specs.declared.Format.{Format}
use Rattle.formats.specs.Sound.{Sound}
use Rattle.numbers.specs.Numbers.{entry_of}
use Rattle.numbers.proofs.Laws.{entry_lt, table_divides}
use Rattle.cells.specs.Cells.{cell_of}
use Rattle.cells.specs.Sent.{SentCell}
use Rattle.cells.proofs.Whole as whole

module _ {f : Format} (s : Sound f) (by_channel_of : Bool) (channels times number second : ℕ) (samples ancillary : List ℕ) where
  abbrev word : ℕ
  word = entry_of number

  pub sent_cell : ((i : ℕ) → get_or samples i 0 < 2 ^ f.sample_bits)
      → ((i : ℕ) → get_or ancillary i 0 < 2 ^ f.ancillary_bits)
      → zero < channels
      → channels * times ≤ f.slots
      → number < 16
      → SentCell f by_channel_of channels times number second samples ancillary
      (cell_of f by_channel_of channels times word second samples ancillary)
  sent_cell small few some fit low =
      record {
        octets = whole.cell_length s by_channel_of channels times word second samples ancillary;
        sample_at = whole.sample_at s by_channel_of channels times word second samples ancillary small few some fit;
        ancillary_at_lem = whole.ancillary_at_lem s by_channel_of channels times word second samples ancillary small few some fit;
        unused = λ slot past h. whole.unused_zero s by_channel_of channels times word second samples ancillary small few past h;
        protection = λ over slot h. whole.protection_at s by_channel_of channels times word second samples ancillary small few over h;
        protection_unused = λ over slot past h.
            whole.protection_unused s by_channel_of channels times word second samples ancillary small few over past h;
        number_bits = λ over.
            let eight = whole.eight_in_back s by_channel_of channels times word second samples ancillary small few over (entry_lt low) in
            (eight, eight ∙ table_divides low);
        second_bits = λ over enough i h.
            whole.second_bits s by_channel_of channels times word second samples ancillary small few over h enough;
        later_bits = λ over slot past h.
            whole.later_bits s by_channel_of channels times word second samples ancillary small few over past h;
      }
