-- No second answer: whatever answer and lent array at exit meet the contract of a public function are equal. Stated over the
-- contracts themselves.
-- Assumes nothing.
use Rattle.std.proofs.Common.{◌≡◌, ℕ, cond, eqb, sym, refl, ap, ◌∙◌}
use Rattle.pieces.specs.declared.Found as code
use Rattle.pieces.specs.declared.What.{What}
use Rattle.pieces.specs.declared.What.TheVariants as kind
use Rattle.pieces.specs.Found.{Found, number_of, numbered}
use Rattle.runs.proofs.One.{One}
use Rattle.pieces.proofs.end.Kinds as end-kinds
use Rattle.pieces.proofs.end.Reads as end_reads
use Rattle.pieces.proofs.is_record.Kinds as is-record-kinds
use Rattle.pieces.proofs.is_record.Reads as is-record-reads
use Rattle.pieces.proofs.next.Kinds as next-kinds
use Rattle.pieces.proofs.next.Reads as next-reads
use Rattle.pieces.proofs.octets_found.Kinds as octets-found-kinds
use Rattle.pieces.proofs.octets_found.Reads as octets-found-reads
use Rattle.pieces.proofs.record_octets.Kinds as record-octets-kinds
use Rattle.pieces.proofs.record_octets.Reads as record-octets-reads
use Rattle.pieces.proofs.start.Kinds as start-kinds
use Rattle.pieces.proofs.start.Reads as start-reads
use Rattle.pieces.proofs.stretch_at.Kinds as stretch-at-kinds
use Rattle.pieces.proofs.stretch_at.Reads as stretch-at-reads
use Rattle.pieces.proofs.U8FromWhat.from.Kinds as from-kinds
use Rattle.pieces.proofs.U8FromWhat.from.Reads as from-reads

pub start_one : One start-kinds.ps start-kinds.r start-reads.Pre start-reads.Post
start_one κs a x y v w pre p q = (p ∙ sym q, refl)

-- no two kinds have one number, so the numbered answer says which was found
kind_of : ℕ → What
kind_of n = cond (eqb n 0) kind.Nothing (cond (eqb n 1) kind.Header (cond (eqb n 2) kind.InPiece (cond (eqb n 3) kind.Held kind.Fault)))

kind_back : (what : What) → kind_of (number_of what) ≡ what
unfolding kind_of
kind_back kind.Nothing = refl
kind_back kind.Header = refl
kind_back kind.InPiece = refl
kind_back kind.Held = refl
kind_back kind.Fault = refl

back : Found → code.Found
back f = record { what = kind_of f.what; next = f.next; standing = f.standing }

back_again : (f : code.Found) → back (numbered f) ≡ f
unfolding back
back_again f = ap (λ (what : What). record { what = what; next = f.next; standing = f.standing }) (kind_back f.what)

pub numbered_injective : {f g : code.Found} → numbered f ≡ numbered g → f ≡ g
numbered_injective {f} {g} same = sym (back_again f) ∙ ap back same ∙ back_again g

pub next_one : One next-kinds.ps next-kinds.r next-reads.Pre next-reads.Post
next_one κs a x y v w pre p q = (numbered_injective (p.answered ∙ sym q.answered), λ i. (tt, ((p.left ∙ sym q.left) i, (tt, (tt, tt)))))

pub end_one : One end-kinds.ps end-kinds.r end_reads.Pre end_reads.Post
end_one κs a x y v w pre p q = (p ∙ sym q, refl)

pub is_record_one : One is-record-kinds.ps is-record-kinds.r is-record-reads.Pre is-record-reads.Post
is_record_one κs a x y v w pre p q = (p ∙ sym q, refl)

pub record_octets_one : One record-octets-kinds.ps record-octets-kinds.r record-octets-reads.Pre record-octets-reads.Post
record_octets_one κs a x y v w pre p q = (p ∙ sym q, refl)

pub octets_found_one : One octets-found-kinds.ps octets-found-kinds.r octets-found-reads.Pre octets-found-reads.Post
octets_found_one κs a x y v w pre p q = (p ∙ sym q, refl)

pub stretch_at_one : One stretch-at-kinds.ps stretch-at-kinds.r stretch-at-reads.Pre stretch-at-reads.Post
stretch_at_one κs a x y v w pre p q = (p ∙ sym q, refl)

pub from_one : One from-kinds.ps from-kinds.r from-reads.Pre from-reads.Post
from_one κs a x y v w pre p q = (p ∙ sym q, refl)
