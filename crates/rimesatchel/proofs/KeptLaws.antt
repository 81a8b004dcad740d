-- A text put into a run in two parts, each as far as the run goes, is the text of both put there at once.
-- Assumes nothing.
use mathlib.Core.Bool.{Bool, ◌&&◌}
use mathlib.Core.List.{List, [], ◌∷◌, ◌++◌, append_assoc, append-nil}
use mathlib.Core.Path.{◌≡◌, refl, sym, ◌∙◌, ap, subst}
use Prim.Native.Nat.{ℕ, zero, suc, ◌+◌, ◌-◌, ◌≤◌, ◌<◌}
use native.Mathlib.Omega.{arith}
use borrow.Author.Tests.{le-leb, lt-leb, leb-true, leb-false}
use borrow.Rule.Slice.PartMut.{mid_of, post_of, put_mid}
use lib.Dec.{leb}
use lib.ListN.{length, take, drop, replicate, length-append, length-drop, drop_of_length-le}
use lib.Seq.{take_all, take_at, drop_at, drop-drop}
use mir.Val.{bool_byte}
use Rattle.runs.specs.Runs.{over}
use Rattle.runs.proofs.Laws.{split}
use Rattle.pieces.specs.Steps.{stood_of}
use Rattle.pieces.specs.Taken.{joined_of}
use Rattle.text.specs.declared.Put.{Put}
use Rattle.listing.specs.declared.Listing.{Listing}
use Rattle.listing.specs.declared.Printed.{Printed}
use Rattle.listing.specs.List.{list_to, list_of}
use Rattle.listing.specs.Taking.{start_of, piece_text, listing_after, end_of_text, written_over_of, Takes, Ends}
use Rattle.text.specs.Put.{listed}
use Rattle.text.proofs.Short.{take_to}
use Rattle.listing.proofs.Whole.{any_division_list}
use Rattle.rimesatchel.proofs.Bytes.{byte_of}
use Rattle.rimesatchel.specs.Kept.{listed_numbers, EndsFrom, ListedOctets}

-- so many of two texts: of the first, and then of the second what room is left
take_both : (n : ℕ) (a b : List ℕ) → take n (a ++ b) ≡ take n a ++ take (n - length (take n a)) b
take_both zero a b = refl
take_both (suc n) [] b = let all : suc n ≡ suc n - 0 = omega arith in ap (λ (k : ℕ). take k b) all
take_both (suc n) (x ∷ a) b =
    let less : suc n - suc (length (take n a)) ≡ n - length (take n a) = omega arith in
    ap (λ (l : List ℕ). x ∷ l) (take_both n a b) ∙ rw less

module _ (a b run : List ℕ) where
  abbrev room : ℕ
  room = length run

  abbrev first : List ℕ
  first = take room a

  abbrev second : List ℕ
  second = take (room - length first) b

  pub in_room : length first ≤ room
  in_room = take_to room a

  parts_length : length (take room (a ++ b)) ≡ length first + length second
  parts_length = ap length (take_both room a b) ∙ length-append first second

  same_room : length (over first run) ≡ room
  unfolding over
  same_room = length-append first (drop (length first) run) ∙ omega (arith, length-drop (length first) run, in_room)

  -- a run that holds the first part
  module _ {now : List ℕ} {at : ℕ} (here : at ≡ length first) (holds : now ≡ over first run) where
    left_over : length now - at ≡ room - length first
    left_over = omega (arith, here, ap length holds ∙ same_room)

    -- what it holds with the second part
    pub both_left : {after : List ℕ} → after ≡ take at now ++ over (take (length now - at) b) (drop at now)
        → after ≡ over (take room (a ++ b)) run
    unfolding over
    both_left {after} e =
        let front : take at now ≡ first = ap (take at) holds ∙ take_at first (drop (length first) run) at (sym here) in
        let back : drop at now ≡ drop (length first) run =
        ap (drop at) holds ∙ drop_at first (drop (length first) run) at (sym here) in
        let rest : List ℕ = drop (length first + length second) run in
        let parts : take at now ++ over (take (length now - at) b) (drop at now) ≡ first ++ (second ++ rest) =
        rw (left_over, front, back, drop-drop (length second) (length first) run) in
        let at_once : over (take room (a ++ b)) run ≡ (first ++ second) ++ rest =
        rw (take_both room a b, length-append first second) in
        e ∙ parts ∙ sym (append_assoc first second rest) ∙ sym at_once

    -- what is said of it
    pub both_octets : {n : ℕ} → n ≡ length (take (length now - at) b) → at + n ≡ length (take room (a ++ b))
    both_octets {n} e =
        let same : n ≡ length second = e ∙ ap (λ (k : ℕ). length (take k b)) left_over in
        omega (arith, here, same, parts_length)

    pub both_fit : {n : ℕ} → n ≡ length (take (length now - at) b) → at + n ≤ room
    both_fit e = omega (arith, both_octets e, take_to room (a ++ b))

    both_leb : leb (length a) room && leb (length b) (room - length first) ≡ leb (length (a ++ b)) room
    both_leb =
        split (leb (length a) room)
        (λ t.
        let fits : length a ≤ room = leb-true (length a) room t in
        let all : length first ≡ length a = ap length (take_all room a fits) in
        rw (t, all, length-append a b)
        (split (leb (length b) (room - length a))
        (λ s.
        let more : length a + length b ≤ room = omega (arith, leb-true (length b) (room - length a) s, fits) in
        rw (s, le-leb (length a + length b) room more))
        (λ s.
        let less : room < length a + length b = omega (arith, leb-false (length b) (room - length a) s, fits) in
        rw (s, lt-leb (length a + length b) room less))))
        (λ t.
        let less : room < length a + length b = omega (arith, leb-false (length a) room t) in
        rw (t, length-append a b, lt-leb (length a + length b) room less))

    pub both_whole : {w v : Bool} → w ≡ leb (length a) room → v ≡ leb (length b) (length now - at)
        → w && v ≡ leb (length (a ++ b)) room
    both_whole e f = rw (e, f, left_over) both_leb

abbrev held₀ : List ℕ
held₀ = replicate 49 0

abbrev limit : ℕ
limit = 4294967295

abbrev pub lines_of_log : List ℕ → List ℕ
lines_of_log log = piece_text (start_of limit) held₀ log

abbrev pub end_of_log : List ℕ → List ℕ
end_of_log log = end_of_text (listing_after (start_of limit) held₀ log) (stood_of (start_of limit).standing held₀ log).held

-- the list of a log is that of one piece, and the end
in_one : (log : List ℕ) → lines_of_log log ++ end_of_log log ≡ list_of log
unfolding written_over_of joined_of
in_one log = any_division_list limit held₀ (log ∷ []) (omega arith) refl ∙ ap (list_to limit) (append-nil log)

module _ {begun : Listing} {log run held now : List ℕ} {printed : Printed} (is : begun ≡ start_of limit)
    (takes : Takes begun held₀ log run printed held now) where
  took : Takes (start_of limit) held₀ log run printed held now
  took = subst (λ (l : Listing). Takes l held₀ log run printed held now) is takes

  here : printed.listed.octets ≡ length (take (length run) (lines_of_log log))
  here = ap (λ (l : Put). l.octets) took.printed

  -- the lines of the log leave a place in the run
  pub place_in : printed.listed.octets ≤ length now
  place_in =
      let a : List ℕ = lines_of_log log in
      let b : List ℕ = end_of_log log in
      omega (arith, here, in_room a b run, ap length took.wrote ∙ same_room a b run)

  module _ {end : Put} {after : List ℕ}
      (ended : EndsFrom printed.listing held now printed.listed.octets end after) where
    same_end : end_of_text printed.listing held ≡ end_of_log log
    same_end i = end_of_text (took.goes_on i) (took.holds i)

    said_end : end ≡ listed (length now - printed.listed.octets) (end_of_log log)
    said_end = ended.said ∙ ap (listed (length now - printed.listed.octets)) same_end

    pub fits : printed.listed.octets + end.octets ≤ length run
    fits = both_fit (lines_of_log log) (end_of_log log) run here took.wrote (ap (λ (l : Put). l.octets) said_end)

    pub listed_octets_lem : {whole : Bool} → whole ≡ printed.listed.whole && end.whole
        → ListedOctets log run 0 after ((printed.listed.octets + end.octets) ∷ bool_byte whole ∷ [])
    listed_octets_lem {whole} w =
        let a : List ℕ = lines_of_log log in
        let b : List ℕ = end_of_log log in
        let at : ℕ = printed.listed.octets in
        let octets : at + end.octets ≡ length (take (length run) (a ++ b)) =
        both_octets a b run here took.wrote (ap (λ (l : Put). l.octets) said_end) in
        let all : whole ≡ leb (length (a ++ b)) (length run) =
        w ∙ both_whole a b run here took.wrote (ap (λ (l : Put). l.whole) took.printed)
        (ap (λ (l : Put). l.whole) said_end) in
        let left : after ≡ over (take (length run) (a ++ b)) run =
        both_left a b run here took.wrote
        (ended.left ∙ ap (λ (l : List ℕ). take at now ++ over (take (length now - at) l) (drop at now)) same_end) in
        record {
          refused = refl;
          said =
              ap (λ (w : ℕ). (at + end.octets) ∷ w ∷ []) (byte_of whole)
              ∙ (λ i. listed_numbers (record { octets = octets i; whole = all i }))
              ∙ ap (λ (l : List ℕ). listed_numbers (listed (length run) l)) (in_one log);
          left = left ∙ ap (λ (l : List ℕ). over (take (length run) l) run) (in_one log);
        }

-- the end of a list in a part that is lent from a place on
pub ends_from : {l : Listing} {held : List ℕ} (run : List ℕ) (at : ℕ) → at ≤ length run → {answer : Put} {part : List ℕ}
    → Ends l held (mid_of at (length run - at) run) answer part
    → EndsFrom l held run at answer (put_mid at (length run - at) run part)
ends_from {l} {held} run at within {answer} {part} e =
    let long : length (drop at run) ≡ length run - at = length-drop at run in
    let whole : mid_of at (length run - at) run ≡ drop at run = take_all (length run - at) (drop at run) (omega (arith, long)) in
    let none : post_of at (length run - at) run ≡ [] =
    drop_of_length-le (drop at run) {i = length run - at} (omega (arith, long)) in
    let size : length (mid_of at (length run - at) run) ≡ length run - at = ap length whole ∙ long in
    record {
      said = e.printed ∙ ap (λ (k : ℕ). listed k (end_of_text l held)) size;
      left =
          ap (λ (x : List ℕ). take at run ++ (part ++ x)) none
          ∙ ap (λ (x : List ℕ). take at run ++ x) (append-nil part)
          ∙ ap (λ (x : List ℕ). take at run ++ x) e.wrote
          ∙ (λ i. take at run ++ over (take (size i) (end_of_text l held)) (whole i));
    }
