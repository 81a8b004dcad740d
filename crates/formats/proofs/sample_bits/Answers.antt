-- `formats::sample_bits` meets its contract: each arm by the law of its codes.
-- Assumes nothing.
use mathlib.Core.Path.{sym, ap}
use native.Mathlib.Omega.{arith}
use Rattle.formats.specs.Formats.{sample_bits, length_of}
use Rattle.formats.proofs.Laws.{length_low, length_four, length_high}
use Rattle.formats.proofs.sample_bits.Goals as goal

pub returns-in-9 : goal.returns-in-9
unfolding sample_bits length_of
returns-in-9 c = sym (ap length_of c.in-9.is)

pub returns-in-10 : goal.returns-in-10
unfolding sample_bits length_of
returns-in-10 c = sym (ap length_of c.in-10.is)

pub returns-in-0-to-1 : goal.returns-in-0-to-1
unfolding sample_bits
returns-in-0-to-1 c = sym (length_low (omega arith))

pub returns-in-2-to-8 : goal.returns-in-2-to-8
unfolding sample_bits
returns-in-2-to-8 c = sym (length_four (omega arith) (omega arith))

pub returns-in-11-to-15 : goal.returns-in-11-to-15
unfolding sample_bits
returns-in-11-to-15 c = sym (length_high (omega arith))
