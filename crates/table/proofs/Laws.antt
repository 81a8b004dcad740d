-- Laws of the lines of a table.
-- Assumes nothing.
use Rattle.std.proofs.Common.{◌≡◌, ℕ, ◌+◌, ◌*◌, ◌/◌, ◌<◌, ◌≤◌, true, List, [], ◌∷◌, ◌++◌, length, get_or, take, drop, sym, ap, ◌∙◌, append_assoc, append-nil, add-one, take_all, take-suc, le-leb}
use borrow.Author.Tests.{lt-leb}
use Rattle.text.specs.declared.Put.{Put}
use Rattle.text.specs.Put.{Puts}
use Rattle.text.specs.Text.{decimal, item}
use Rattle.text.specs.Words.{words}
use Rattle.text.proofs.Laws.{puts_then, puts_same, said_from_start, wrote_from_start}
use Rattle.table.specs.Table.{cells_of, log_line, Prints}
use Rattle.table.specs.Taking.{row_at}

-- a number more of a row
cells_more : (xs : List ℕ) (x : ℕ) → cells_of (xs ++ (x ∷ [])) ≡ cells_of xs ++ item (words ",") x
unfolding cells_of
cells_more [] x = append-nil (item (words ",") x)
cells_more (y ∷ xs) x =
    ap (λ (l : List ℕ). item (words ",") y ++ l) (cells_more xs x)
    ∙ sym (append_assoc (item (words ",") y) (cells_of xs) (item (words ",") x))

pub cells_turn : {a b c : List ℕ} {s t u : Put} (row : List ℕ) (i : ℕ) → i < length row → Puts a s b t (cells_of (take i row))
    → Puts b t c u (item (words ",") (get_or row i 0)) → Puts a s c u (cells_of (take (i + 1) row))
cells_turn row i here p q =
    puts_same
    (sym (ap (λ (n : ℕ). cells_of (take n row)) (add-one i) ∙ ap cells_of (take-suc row i 0 here)
    ∙ cells_more (take i row) (get_or row i 0)))
    (puts_then p q)

pub cells_end : {a b c : List ℕ} {s t u : Put} (row : List ℕ) (i : ℕ) → length row ≤ i → Puts a s b t (cells_of (take i row))
    → Puts b t c u (words "\n") → Puts a s c u (cells_of row ++ words "\n")
cells_end row i all p q = puts_then (puts_same (ap cells_of (take_all i row all)) p) q

-- a line put from a run's start
pub prints : {run run₁ line : List ℕ} {start past : Put} → start ≡ record { octets = 0; whole = true }
    → Puts run start run₁ past line
    → Prints run past run₁ line
prints {run} {run₁} {line} {past = past} begins p =
    let q : Puts run (record { octets = 0; whole = true }) run₁ past line = rw begins at p in
    record { said = said_from_start q; wrote = wrote_from_start q }

-- the line of a log, with the row at its place
module _ (rows : List ℕ) (log : ℕ) {a b d : List ℕ} {s t u : Put} (start : s ≡ record { octets = 0; whole = true })
    (number : Puts a s b t (decimal log))
  where
    with_row : {row : List ℕ} → row ≡ row_at rows log → Puts b t d u (cells_of row ++ words "\n")
        → Prints a u d (log_line log (row_at rows log))
    with_row is p = prints start (puts_then number (puts_same (ap (λ (r : List ℕ). cells_of r ++ words "\n") is) p))

    pub without_row : length rows / 10 ≤ log → Puts b t d u (cells_of [] ++ words "\n") → Prints a u d (log_line log (row_at rows log))
    unfolding row_at
    without_row past p = with_row (sym (rw (le-leb (length rows / 10) log past))) p

    pub row_there : {n : ℕ} → log < length rows / 10 → n ≡ 10 → Puts b t d u (cells_of (take n (drop (10 * log) rows)) ++ words "\n")
        → Prints a u d (log_line log (row_at rows log))
    unfolding row_at
    row_there within ten p =
        with_row (ap (λ (k : ℕ). take k (drop (10 * log) rows)) ten ∙ sym (rw (lt-leb (length rows / 10) log within))) p
