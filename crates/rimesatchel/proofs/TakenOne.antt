-- No second answer: whatever answer, lent state, lent octets and lent runs at exit meet the contract of a call that takes a log in
-- pieces are equal. Stated over the contracts themselves.
-- Assumes nothing.
use mathlib.Core.Path.{sym, ◌∙◌}
use Rattle.runs.proofs.One.{One}
use Rattle.rimesatchel.proofs.taken_figures.rime_figures_start.Kinds as figures-start-kinds
use Rattle.rimesatchel.proofs.taken_figures.rime_figures_start.Reads as figures-start-reads
use Rattle.rimesatchel.proofs.taken_figures.rime_figures_take.Kinds as figures-take-kinds
use Rattle.rimesatchel.proofs.taken_figures.rime_figures_take.Reads as figures-take-reads
use Rattle.rimesatchel.proofs.taken_figures.rime_figures_end.Kinds as figures-end-kinds
use Rattle.rimesatchel.proofs.taken_figures.rime_figures_end.Reads as figures-end-reads
use Rattle.rimesatchel.proofs.taken_lists.rime_list_start.Kinds as list-start-kinds
use Rattle.rimesatchel.proofs.taken_lists.rime_list_start.Reads as list-start-reads
use Rattle.rimesatchel.proofs.taken_lists.rime_list_take.Kinds as list-take-kinds
use Rattle.rimesatchel.proofs.taken_lists.rime_list_take.Reads as list-take-reads
use Rattle.rimesatchel.proofs.taken_lists.rime_list_end.Kinds as list-end-kinds
use Rattle.rimesatchel.proofs.taken_lists.rime_list_end.Reads as list-end-reads
use Rattle.rimesatchel.proofs.taken_salvages.rime_salvage_start.Kinds as salvage-start-kinds
use Rattle.rimesatchel.proofs.taken_salvages.rime_salvage_start.Reads as salvage-start-reads
use Rattle.rimesatchel.proofs.taken_salvages.rime_salvage_take.Kinds as salvage-take-kinds
use Rattle.rimesatchel.proofs.taken_salvages.rime_salvage_take.Reads as salvage-take-reads
use Rattle.rimesatchel.proofs.taken_salvages.rime_salvage_end.Kinds as salvage-end-kinds
use Rattle.rimesatchel.proofs.taken_salvages.rime_salvage_end.Reads as salvage-end-reads
use Rattle.rimesatchel.proofs.taken_searches.rime_anything_start.Kinds as anything-start-kinds
use Rattle.rimesatchel.proofs.taken_searches.rime_anything_start.Reads as anything-start-reads
use Rattle.rimesatchel.proofs.taken_searches.rime_anything_take.Kinds as anything-take-kinds
use Rattle.rimesatchel.proofs.taken_searches.rime_anything_take.Reads as anything-take-reads
use Rattle.rimesatchel.proofs.taken_searches.rime_anything_end.Kinds as anything-end-kinds
use Rattle.rimesatchel.proofs.taken_searches.rime_anything_end.Reads as anything-end-reads

pub list_start_one : One list-start-kinds.ps list-start-kinds.r list-start-reads.Pre list-start-reads.Post
list_start_one κs a x y v w pre p q = (p.refused ∙ sym q.refused, λ i. ((p.leaves ∙ sym q.leaves) i, ((p.holds ∙ sym q.holds) i, tt)))

pub salvage_start_one : One salvage-start-kinds.ps salvage-start-kinds.r salvage-start-reads.Pre salvage-start-reads.Post
salvage_start_one κs a x y v w pre p q = (p.refused ∙ sym q.refused, λ i. ((p.leaves ∙ sym q.leaves) i, ((p.holds ∙ sym q.holds) i, tt)))

pub anything_start_one : One anything-start-kinds.ps anything-start-kinds.r anything-start-reads.Pre anything-start-reads.Post
anything_start_one κs a x y v w pre p q = (p.refused ∙ sym q.refused, λ i. ((p.leaves ∙ sym q.leaves) i, ((p.holds ∙ sym q.holds) i, tt)))

pub figures_start_one : One figures-start-kinds.ps figures-start-kinds.r figures-start-reads.Pre figures-start-reads.Post
figures_start_one κs a x y v w pre p q = (p.refused ∙ sym q.refused, λ i. ((p.leaves ∙ sym q.leaves) i, ((p.holds ∙ sym q.holds) i, tt)))

pub list_take_one : One list-take-kinds.ps list-take-kinds.r list-take-reads.Pre list-take-reads.Post
list_take_one κs a x y v w pre p q = (p.refused ∙ sym q.refused, λ i. ((p.leaves ∙ sym q.leaves) i, ((p.holds ∙ sym q.holds) i, (tt, ((p.wrote ∙ sym q.wrote) i, ((p.counted ∙ sym q.counted) i, tt))))))

pub list_end_one : One list-end-kinds.ps list-end-kinds.r list-end-reads.Pre list-end-reads.Post
list_end_one κs a x y v w pre p q = (p.refused ∙ sym q.refused, λ i. (tt, (tt, ((p.wrote ∙ sym q.wrote) i, ((p.counted ∙ sym q.counted) i, tt)))))

pub salvage_take_one : One salvage-take-kinds.ps salvage-take-kinds.r salvage-take-reads.Pre salvage-take-reads.Post
salvage_take_one κs a x y v w pre p q = (p.refused ∙ sym q.refused, λ i. ((p.leaves ∙ sym q.leaves) i, ((p.holds ∙ sym q.holds) i, (tt, ((p.wrote_out ∙ sym q.wrote_out) i, ((p.wrote_notes ∙ sym q.wrote_notes) i, ((p.counted ∙ sym q.counted) i, tt)))))))

pub salvage_end_one : One salvage-end-kinds.ps salvage-end-kinds.r salvage-end-reads.Pre salvage-end-reads.Post
salvage_end_one κs a x y v w pre p q = (p.refused ∙ sym q.refused, λ i. (tt, (tt, ((p.wrote ∙ sym q.wrote) i, ((p.counted ∙ sym q.counted) i, tt)))))

pub anything_take_one : One anything-take-kinds.ps anything-take-kinds.r anything-take-reads.Pre anything-take-reads.Post
anything_take_one κs a x y v w pre p q = (p.refused ∙ sym q.refused, λ i. ((p.leaves ∙ sym q.leaves) i, ((p.holds ∙ sym q.holds) i, (tt, ((p.reads ∙ sym q.reads) i, tt)))))

pub anything_end_one : One anything-end-kinds.ps anything-end-kinds.r anything-end-reads.Pre anything-end-reads.Post
anything_end_one κs a x y v w pre p q = (p.refused ∙ sym q.refused, λ i. (tt, (tt, ((p.answers ∙ sym q.answers) i, tt))))

pub figures_take_one : One figures-take-kinds.ps figures-take-kinds.r figures-take-reads.Pre figures-take-reads.Post
figures_take_one κs a x y v w pre p q = (p.refused ∙ sym q.refused, λ i. ((p.leaves ∙ sym q.leaves) i, ((p.holds ∙ sym q.holds) i, (tt, tt))))

pub figures_end_one : One figures-end-kinds.ps figures-end-kinds.r figures-end-reads.Pre figures-end-reads.Post
figures_end_one κs a x y v w pre p q = (p.refused ∙ sym q.refused, λ i. (tt, ((p.row_is ∙ sym q.row_is) i, tt)))
