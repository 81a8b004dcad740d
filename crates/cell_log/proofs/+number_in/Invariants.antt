-- It calls itself with one group less, which is the measure.
use Rattle.cell_log.proofs.+number_in.Given as goal

abbrev pub decreases-number_in : goal.decreases-number_in
decreases-number_in l = l.groups
