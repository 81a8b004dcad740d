-- The two examples of Appendix 2 come out as printed.
-- Assumes nothing.
use mathlib.Core.Path.{◌≡◌, refl}
use Rattle.status.specs.Examples.{with_bits, appendix_given, appendix_printed}
use Rattle.status.proofs.Wrong.{unfolded}

pub appendix_examples : appendix_given ≡ appendix_printed
unfolding unfolded with_bits appendix_given appendix_printed
appendix_examples = refl
