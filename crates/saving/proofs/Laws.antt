-- Laws of the new log and of the list, over the definitions.
-- Assumes nothing.
use mathlib.Core.List.{List, [], ◌∷◌, ◌++◌, map, flat_map}
use mathlib.Core.Path.{◌≡◌, refl, sym, ◌∙◌, ap, ap₂}
use Prim.Native.Nat.{ℕ, suc, ◌+◌, ◌*◌, ◌/◌, ◌≤◌, ◌<◌}
use native.Mathlib.Omega.{arith}
use borrow.Author.Tests.{eqb-true, leb-true, leb-false, lt-ltb, le-ltb, ltb-false}
use lib.Dec.{eqb, leb, ltb}
use lib.ListN.{length, take, drop, length-append, length-map}
use lib.Seq.{length-take-le, take_at}
use Rattle.runs.specs.Refusals.{or_else}
use Rattle.runs.proofs.Laws.{split, past, past_both, neither, first_refuses}
use Rattle.cell_log.specs.Records.{header_of}
use Rattle.receiver.specs.declared.Receiver.{Receiver}
use Rattle.reading.specs.Heard.{Heard, heard_from, end_of, is_sound, sound_in, refused_in, kept_of}
use Rattle.reading.specs.Reading.{Reading, fresh_of, reading_of}
use Rattle.reading.specs.Records.{Whole, records_in, octets_in}
use Rattle.reading.specs.Totals.{total_of, those}
use Rattle.reading.proofs.Heard.{sound_again, state_again, kept_framed, samples_again, ancillary_again, marks_again}
use Rattle.reading.proofs.Reading.{header_long, reading_is, log_counted, wrote_header, wrote_reading}
use Rattle.reading.proofs.Records.{records_framed, length_records}
use Rattle.reading.proofs.Totals.{count_both, those_twice, length_those}
use Rattle.saving.specs.Demands.{SameLine}
use Rattle.saving.specs.Salvage.{new_log, list_from, list_of, left_out_of, cut_from, salvage_refusal, salvaged_of}

-- two numbers for each record left out
pub list_long : (index : ℕ) (heard : List Heard) → length (list_from index heard) ≡ 2 * refused_in heard
unfolding list_from total_of
list_long index [] = refl
list_long index (h ∷ hs) =
    split (is_sound h)
    (λ e. rw e (omega (arith, list_long (suc index) hs)))
    (λ e. rw e (omega (arith, list_long (suc index) hs)))

-- none where all are sound
list_none : (index : ℕ) (heard : List Heard) → list_from index (those is_sound heard) ≡ []
unfolding list_from those
list_none index [] = refl
list_none index (h ∷ hs) =
    split (is_sound h)
    (λ e. rw e (rw e (list_none (suc index) hs)))
    (λ e. rw e (list_none index hs))

-- the octets of the records kept
kept_long : (st : Receiver) (octets : List ℕ)
    → length (octets_in (kept_of (heard_from st (records_in octets)))) ≡ 49 * sound_in (heard_from st (records_in octets))
kept_long st octets =
    length_records (kept_of (heard_from st (records_in octets))) (kept_framed st (records_in octets) (records_framed octets))
    ∙ ap (λ (n : ℕ). 49 * n)
    (length-map (those is_sound (heard_from st (records_in octets))) (λ h. h.arrived)
    ∙ length_those is_sound (heard_from st (records_in octets)))

module _ (log : List ℕ) (ok : (header_of log).refusal ≡ 0) where
  abbrev fresh : Receiver
  fresh = fresh_of (header_of log)

  abbrev records : List Whole
  records = records_in (drop 3 log)

  abbrev made : List Heard
  made = heard_from fresh records

  abbrev read_as : List Heard → Reading
  read_as heard = record { header = header_of log; heard = heard; fault = 0; rest = [] }

  pub heard_is : (reading_of log).heard ≡ made
  heard_is = ap (λ (r : Reading). r.heard) (reading_is log ok)

  new_is : new_log log ≡ take 3 log ++ octets_in (kept_of made)
  unfolding new_log
  new_is = ap (λ (hs : List Heard). take 3 log ++ octets_in (kept_of hs)) heard_is

  head_long : length (take 3 log) ≡ 3
  head_long = length-take-le 3 log (header_long log ok)

  pub new_long : length (new_log log) ≡ 3 + 49 * sound_in (reading_of log).heard
  new_long =
      ap length new_is
      ∙ length-append (take 3 log) (octets_in (kept_of made))
      ∙ ap₂ (λ (m n : ℕ). m + n) head_long
      (kept_long fresh (drop 3 log) ∙ ap (λ (hs : List Heard). 49 * sound_in hs) (sym heard_is))

  -- "octets of the log = octets of the new one + 49 × records left out + octets cut"
  pub octets_add_up : length log ≡ length (new_log log) + 49 * left_out_of log + cut_from log
  octets_add_up = omega (arith, log_counted log ok, count_both is_sound (reading_of log).heard, new_long)

  -- the new log is read as the sound records of the old one
  new_heard : reading_of (new_log log) ≡ read_as (heard_from fresh (kept_of made))
  new_heard = ap reading_of new_is ∙ wrote_reading log ok (kept_of made) (kept_framed fresh records (records_framed (drop 3 log)))

  pub new_reading : reading_of (new_log log) ≡ read_as (those is_sound made)
  new_reading = new_heard ∙ ap read_as (sound_again fresh records)

  pub new_header : header_of (new_log log) ≡ header_of log
  new_header = ap header_of new_is ∙ wrote_header log ok (kept_of made) (kept_framed fresh records (records_framed (drop 3 log)))

  over_new : (column : Heard → List ℕ) → flat_map column (heard_from fresh (kept_of made)) ≡ flat_map column made
      → flat_map column (reading_of (new_log log)).heard ≡ flat_map column (reading_of log).heard
  over_new column same =
      ap (λ (r : Reading). flat_map column r.heard) new_heard ∙ same
      ∙ ap (λ (hs : List Heard). flat_map column hs) (sym heard_is)

  pub same_line : SameLine (reading_of (new_log log)) (reading_of log)
  same_line =
      record {
        header = ap (λ (r : Reading). r.header) new_heard ∙ sym (ap (λ (r : Reading). r.header) (reading_is log ok));
        samples = over_new (λ h. h.samples) (samples_again fresh records);
        ancillary = over_new (λ h. h.ancillary) (ancillary_again fresh records);
        marks = over_new (λ h. h.marks) (marks_again fresh records);
        state =
            ap (λ (r : Reading). end_of (fresh_of r.header) r.heard) new_heard
            ∙ state_again fresh records
            ∙ sym (ap (λ (r : Reading). end_of (fresh_of r.header) r.heard) (reading_is log ok));
      }

  -- "Salvaging twice changes nothing and lists nothing", and cuts nothing
  pub new_again : new_log (new_log log) ≡ new_log log
  unfolding new_log
  new_again =
      ap₂ (λ (a b : List ℕ). a ++ b)
      (take_at (take 3 log) (octets_in (kept_of (reading_of log).heard)) 3 head_long)
      (ap (λ (r : Reading). octets_in (kept_of r.heard)) new_reading
      ∙ ap (λ (hs : List Heard). octets_in (map (λ (h : Heard). h.arrived) hs)) (those_twice is_sound made))
      ∙ sym new_is

  pub none_listed : list_of (new_log log) ≡ []
  none_listed = ap (λ (r : Reading). list_from 0 r.heard) new_reading ∙ list_none 0 made

  pub none_left_out : left_out_of (new_log log) ≡ 0
  none_left_out = omega (arith, list_long 0 (reading_of (new_log log)).heard, ap length none_listed)

  pub none_cut : cut_from (new_log log) ≡ 0
  none_cut = ap (λ (r : Reading). length r.rest) new_reading

-- the refusal
module _ (log : List ℕ) (out list : ℕ) where
  pub header_refuses : ((header_of log).refusal ≡ 0 → ⊥) → salvage_refusal log out list ≡ (header_of log).refusal
  unfolding salvage_refusal
  header_refuses some = first_refuses _ some

  pub salvaged_refusal : (salvaged_of log out list).refusal ≡ salvage_refusal log out list
  unfolding salvaged_of
  salvaged_refusal =
      split (eqb (salvage_refusal log out list) 0)
      (λ e. rw e (sym (eqb-true (salvage_refusal log out list) 0 e)))
      (λ e. rw e)

  pub salvaged_is : salvage_refusal log out list ≡ 0
      → salvaged_of log out list
      ≡ record { refusal = 0; octets = length (new_log log); left_out = left_out_of log; cut = cut_from log }
  unfolding salvaged_of
  salvaged_is none = rw none

  -- what is known where it isn't refused
  pub taken_is : salvage_refusal log out list ≡ 0
      → ((header_of log).refusal ≡ 0) × (length (new_log log) ≤ out) × (length (list_of log) ≤ list)
  unfolding salvage_refusal
  taken_is none =
      let both = past_both (header_of log).refusal _ none in
      let short = neither (ltb out (length (new_log log))) (ltb list (length (list_of log))) (past _ 20 0 both.1).0 in
      (both.0, ltb-false out (length (new_log log)) short.0, ltb-false list (length (list_of log)) short.1)

  module _ (ok : (header_of log).refusal ≡ 0) where
    pub out_too_short : out < length (new_log log) → salvage_refusal log out list ≡ 21
    unfolding salvage_refusal or_else
    out_too_short h = rw (ok, lt-ltb out (length (new_log log)) h)

    pub list_too_short : length (new_log log) ≤ out → list < length (list_of log) → salvage_refusal log out list ≡ 21
    unfolding salvage_refusal or_else
    list_too_short h l = rw (ok, le-ltb out (length (new_log log)) h, lt-ltb list (length (list_of log)) l)

    pub room_for_both : length (new_log log) ≤ out → length (list_of log) ≤ list → salvage_refusal log out list ≡ 0
    unfolding salvage_refusal or_else
    room_for_both h l = rw (ok, le-ltb out (length (new_log log)) h, le-ltb list (length (list_of log)) l)

    -- what refuses behind the header is 21
    pub too_short : (salvage_refusal log out list ≡ 0 → ⊥) → salvage_refusal log out list ≡ 21
    too_short some =
        split (leb (length (new_log log)) out)
        (λ t.
        let out_long = leb-true (length (new_log log)) out t in
        split (leb (length (list_of log)) list)
        (λ u. absurd (some (room_for_both out_long (leb-true (length (list_of log)) list u))))
        (λ u. list_too_short out_long (leb-false (length (list_of log)) list u)))
        (λ t. out_too_short (leb-false (length (new_log log)) out t))

    -- as many octets as the log has, and two numbers for each 49 of them, are always room enough
    pub always_room : length log ≤ out → 2 * (length log / 49) ≤ list → salvage_refusal log out list ≡ 0
    always_room h l =
        let sum : length log ≡ length (new_log log) + 49 * left_out_of log + cut_from log = octets_add_up log ok in
        let few : left_out_of log ≤ length log / 49 = omega (arith, sum) in
        room_for_both (omega (arith, sum)) (omega (arith, few, list_long 0 (reading_of log).heard))
