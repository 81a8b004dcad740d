-- Laws of a step along a piece, over plain values: what is known of a record that lies whole in the piece.
-- Assumes nothing.
use Rattle.std.proofs.Common.{◌≡◌, ℕ, ◌+◌, ◌≤◌, true, false, ◌&&◌, eqb, leb, ne_eqb, eqb-true, leb-true}
use Rattle.runs.proofs.Laws.{both_true}
use Rattle.pieces.specs.Steps.{in_piece, lies_whole}

pub lies_not : {count : ℕ} (ahead left : ℕ) → (count ≡ 0 → ⊥) → false ≡ lies_whole count ahead left
unfolding lies_whole
lies_not {count} ahead left some = rw (ne_eqb count 0 some)

-- a record that lies whole: none is begun, and 49 octets are ahead and within the limit
pub lies_facts : (count ahead left : ℕ) → lies_whole count ahead left ≡ true → (count ≡ 0) × (49 ≤ ahead) × (49 ≤ left)
unfolding lies_whole
lies_facts count ahead left e =
    let one = both_true (eqb count 0) (leb 49 ahead && leb 49 left) e in
    let two = both_true (leb 49 ahead) (leb 49 left) one.1 in
    (eqb-true count 0 one.0, leb-true 49 ahead two.0, leb-true 49 left two.1)

-- a record in a piece
pub in_room : (what size place : ℕ) → in_piece what size place ≡ true → place + 49 ≤ size
unfolding in_piece
in_room what size place e = leb-true (place + 49) size (both_true (eqb what 2) (leb (place + 49) size) e).1
