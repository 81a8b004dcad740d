-- Laws of the answer's line.
-- Assumes nothing.
use Rattle.std.proofs.Common.{◌≡◌, ℕ, zero, suc, ◌+◌, ◌/◌, ◌%◌, ◌≤◌, true, false, eqb, ltb, List, [], ◌∷◌, ◌++◌, length, ap, ◌∙◌, arith, length-append, take_all, eq-eqb, ne_eqb, le-leb}
use Rattle.runs.proofs.Laws.{split}
use Rattle.text.specs.declared.Put.{Put}
use Rattle.text.specs.Put.{Puts}
use Rattle.text.specs.Text.{digits_of, item}
use Rattle.text.specs.Words.{words}
use Rattle.text.proofs.Laws.{puts_same, said_from_start, wrote_from_start}
use Rattle.presence.specs.declared.Presence.{Presence}
use Rattle.presence.specs.Line.{line_of, Writes}

module _ (p : Presence) where
  pub line_refused : (p.refusal ≡ 0 → ⊥) → item (words "log refused ") p.refusal ++ words "\n" ≡ line_of p
  unfolding line_of
  line_refused some = rw (ne_eqb p.refusal 0 some)

  module _ (none : p.refusal ≡ 0) where
    pub line_yes : p.found ≡ true → item (words "yes ") p.number ++ words "\n" ≡ line_of p
    unfolding line_of
    line_yes e = rw (eq-eqb p.refusal 0 none, e)

    pub line_no : p.found ≡ false → item (words "no ") p.number ++ words "\n" ≡ line_of p
    unfolding line_of
    line_no e = rw (eq-eqb p.refusal 0 none, e)

  pub writes : {run after : List ℕ} {past : Put} {octets : List ℕ} → octets ≡ line_of p
      → Puts run (record { octets = 0; whole = true }) after past octets → Writes p run past after
  writes same puts =
      let all = puts_same same puts in record { printed = said_from_start all; wrote = wrote_from_start all }

length_digits : (k n : ℕ) → length (digits_of k n) ≤ k
unfolding digits_of
length_digits zero n = omega arith
length_digits (suc k) n =
    split (ltb n 10) (λ e. rw e (omega arith))
    (λ e. rw (e, length-append (digits_of k (n / 10)) ((48 + n % 10) ∷ [])) (omega (arith, length_digits k (n / 10))))

short_line : (begins : List ℕ) (n : ℕ) → length begins ≤ 12 → length (item begins n ++ words "\n") ≤ 33
short_line begins n few =
    rw (length-append (item begins n) (words "\n"), length-append begins (digits_of 20 n)) (omega (arith, few, length_digits 20 n))

-- it has at most 33 octets
pub line_short : (p : Presence) → length (line_of p) ≤ 33
unfolding line_of
line_short p =
    split (eqb p.refusal 0)
    (λ e.
    split p.found (λ f. rw (e, f) (short_line (words "yes ") p.number (omega arith)))
    (λ f. rw (e, f) (short_line (words "no ") p.number (omega arith))))
    (λ e. rw e (short_line (words "log refused ") p.refusal (omega arith)))

-- so it is whole in a run of as many
pub writes_whole : {p : Presence} {run after : List ℕ} {past : Put} → Writes p run past after → 33 ≤ length run
    → (past.whole ≡ true) × (past.octets ≤ length run)
writes_whole {p} {run} w room =
    let short = line_short p in (
      ap (λ (x : Put). x.whole) w.printed ∙ le-leb (length (line_of p)) (length run) (omega arith),
      omega (arith, ap (λ (x : Put). x.octets) w.printed ∙ ap length (take_all (length run) (line_of p) (omega arith)), short),
    )
