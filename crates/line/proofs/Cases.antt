-- The cases marked P, one whole cell, and the examples that Appendix 2 of source document 002 prints: what the definitions give is what
-- is printed.
-- Assumes nothing.
use mathlib.Core.Path.{◌≡◌, refl}
use Rattle.status.specs.Examples.{appendix_given, appendix_printed}
use Rattle.status.proofs.Examples.{appendix_examples}
use Rattle.status.proofs.Wrong as status
use Rattle.line.specs.Cases.{defined, printed}
use Rattle.line.proofs.Opened.{opened}

worked : defined ≡ printed
unfolding opened status.unfolded defined printed
worked = refl

pub the_paper's_cases : (defined ≡ printed) × (appendix_given ≡ appendix_printed)
the_paper's_cases = (worked, appendix_examples)
