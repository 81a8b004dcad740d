-- Laws of sending cell after cell: what the loops keep, and where they end.
-- Assumes nothing.
use Rattle.std.proofs.Common.{◌≡◌, ℕ, zero, suc, ◌+◌, ◌-◌, ◌*◌, ◌%◌, ◌<◌, ◌≤◌, Bool, true, false, cond, not, ◌&&◌, ◌||◌, eqb, ltb, List, [], ◌∷◌, ◌++◌, length, take, drop, replicate, sym, refl, ap, ◌∙◌, subst, ap₂, append_assoc, append-nil, mul-le-mul_right, suc-mul, zero-mul, arith, length-append, length-drop, length-take-le, take_all, drop-drop, ltb-false, ltb-true, le-ltb, eq-eqb, ne_eqb}
use mathlib.Core.List.{flat_map}
use borrow.Rule.Slice.PartMut.{put_mid}
use lib.ListN.{length-replicate}
use lib.ListN as L
use Rattle.runs.specs.Runs.{written}
use Rattle.runs.proofs.Laws.{split, then_later, past, past_both, neither}
use Rattle.formats.specs.declared.Format.{Format}
use Rattle.formats.specs.Settled.{Settled}
use Rattle.formats.specs.Formats.{settings_refusal}
use Rattle.formats.specs.Settings.{settings_of, settled}
use Rattle.formats.specs.Sound.{Limits}
use Rattle.formats.proofs.Laws.{settled_of_lem, settled_limits}
use Rattle.cell_log.specs.Written.{octet_of, record_octets}
use Rattle.numbers.specs.Code.{sequence_of}
use Rattle.numbers.specs.Numbers.{entry_of, indication_refused}
use Rattle.sender.specs.declared.Sender.{Sender}
use Rattle.sender.specs.Many.{indicated, SentCell, next_of, rest_of, sent_from, state_behind, records_of, room_from, sent_into}
use Rattle.sender.specs.ManyCode.{Bounds, WritesMany}
use Rattle.sender.specs.Packing.{Packable, filled_cell, values_refused_by}
use Rattle.sender.specs.Sender.{format_now, used_now, numbers_refused, state_refusal, lengths_refused, values_refused, send_refusal}
use Rattle.sender.specs.Sender.{second_now, after, cell_now, sent_of, cell_after}
use Rattle.sender.proofs.Laws.{Call, refusal_of, state_passes, second_lt, can_pack, writes_taken}
use Rattle.sender.proofs.Parts.{part_sound, written_none, written_on, lent_behind}

-- a second number that isn't wanted stays
by_wanted : (wanted a counts : Bool) (second : ℕ) → cond wanted a (not (eqb second 0)) ≡ false
    → cond wanted a (not (eqb (cond (wanted && counts) ((second + 1) % 16) second) 0)) ≡ false
by_wanted true a counts second e = e
by_wanted false a counts second e = e

-- a state that nothing is wrong with
module _ (st : Sender) (none : state_refusal st ≡ 0) where
  settings_none : settings_refusal st.format st.channels st.order ≡ 0
  unfolding state_refusal
  settings_none = (past_both (settings_refusal st.format st.channels st.order) _ none).0

  pub number_now_lem : st.number < 16
  number_now_lem = omega (arith, (state_passes st none).number_to)

  abbrev unkept : Bool
  unkept = eqb (format_now st).overhead_bits 0 || eqb (format_now st).slots 8

  kept : (indication : Bool) → cond st.wanted unkept (not (eqb st.second 0)) ≡ false
      → cond st.wanted unkept (not (eqb (second_now st indication) 0)) ≡ false
  unfolding second_now
  kept indication e = by_wanted st.wanted unkept (indication && st.sent) st.second e

  -- nothing is wrong with the state after a cell
  pub sound_after : (indication : Bool) → state_refusal (after st indication) ≡ 0
  unfolding state_refusal numbers_refused after
  sound_after indication =
      let fourth = past (numbers_refused st) 3 0 (past_both (settings_refusal st.format st.channels st.order) _ none).1 in
      let rest = neither (ltb 15 st.number) _ fourth.0 in
      let last = neither (ltb 15 st.second) _ rest.1 in
      let low : ltb 15 ((st.number + 1) % 16) ≡ false = le-ltb 15 ((st.number + 1) % 16) (omega arith) in
      let few : ltb 15 (second_now st indication) ≡ false =
      le-ltb 15 (second_now st indication) (omega (arith, second_lt st indication (state_passes st none).second_to)) in
      then_later _ settings_none ∙ rw (low, few, kept indication last.1)

  module _ {set : Settled} (given : set ≡ settings_of st.format st.channels st.order) where
    set_now : set ≡ settled st.format st.channels st.order
    set_now = given ∙ settled_of_lem st.format st.channels st.order settings_none

    pub used_now_lem : set.channels * set.times ≡ used_now st
    used_now_lem = ap (λ (x : Settled). x.channels * x.times) set_now

    pub limits_now : Limits set
    limits_now = subst Limits (sym set_now) (settled_limits st.format st.channels st.order refl settings_none)

    pub values_now : (samples ancillary : List ℕ) → values_refused_by set.format samples ancillary ≡ values_refused st samples ancillary
    unfolding values_refused values_refused_by
    values_now samples ancillary = ap (λ (x : Settled). values_refused_by x.format samples ancillary) set_now

  -- the next cell, of entries that there are
  module _ (indications : Bool) (samples ancillary : List ℕ) where
    abbrev here : Bool
    here = indicated indications st

    never_7 : indication_refused st.number here ≡ false
    unfolding indication_refused
    never_7 = either indications (eqb (st.number % 8) 0)
      where
        either : (a b : Bool) → (a && b) && not b ≡ false
        either true true = refl
        either true false = refl
        either false b = refl

    module _ (long : length samples ≡ used_now st) (as_long : length ancillary ≡ used_now st) where
      pub sendable : values_refused st samples ancillary ≡ false → send_refusal st here samples ancillary 48 ≡ 0
      unfolding send_refusal lengths_refused
      sendable small =
          then_later _ none ∙ rw (eq-eqb (length samples) (used_now st) long, eq-eqb (length ancillary) (used_now st) as_long, small, never_7)

      pub not_sendable : values_refused st samples ancillary ≡ true → send_refusal st here samples ancillary 48 ≡ 6
      unfolding send_refusal lengths_refused
      not_sendable large =
          then_later _ none ∙ rw (eq-eqb (length samples) (used_now st) long, eq-eqb (length ancillary) (used_now st) as_long, large)

    pub too_few : (length samples ≡ used_now st → ⊥) → send_refusal st here samples ancillary 48 ≡ 5
    unfolding send_refusal lengths_refused
    too_few other = then_later _ none ∙ rw (ne_eqb (length samples) (used_now st) other)

-- one cell more, and none
module _ (indications : Bool) (st : Sender) (samples ancillary : List ℕ) where
  abbrev asked : ℕ
  asked = send_refusal st (indicated indications st) (next_of st samples) (next_of st ancillary) 48

  abbrev pub sent_now : SentCell
  sent_now =
      record {
        indication = indicated indications st;
        cell = cell_now st (indicated indications st) (next_of st samples) (next_of st ancillary);
        state = after st (indicated indications st);
      }

  pub comes : (most : ℕ) → asked ≡ 0
      → sent_from (suc most) indications st samples ancillary
      ≡ sent_now ∷ sent_from most indications (after st (indicated indications st)) (rest_of st samples) (rest_of st ancillary)
  unfolding sent_from sent_of
  comes most none = rw (eq-eqb asked 0 none)

  pub ends : (most : ℕ) → (asked ≡ 0 → ⊥) → sent_from most indications st samples ancillary ≡ []
  unfolding sent_from sent_of
  ends zero some = refl
  ends (suc most) some = rw (ne_eqb asked 0 some, ne_eqb asked 0 some)

-- a cell filled with its sequencing bits is the cell of the definition
module _ (st : Sender) (indication : Bool) (samples ancillary : List ℕ) {set : Settled}
    (given : set ≡ settings_of st.format st.channels st.order) (none : send_refusal st indication samples ancillary 48 ≡ 0)
  where
    abbrev call : Call
    call = record { state = st; indication = indication; samples = samples; ancillary = ancillary }

    abbrev blank : List ℕ
    blank = replicate 48 0

    none_of : 0 ≡ refusal_of call (length blank)
    none_of = sym none ∙ ap (send_refusal st indication samples ancillary) (sym (length-replicate {A = ℕ} 48 0))

    pub packs_now : Packable set samples ancillary
    packs_now = (can_pack call blank given none_of).0

    pub cell_is : {second : ℕ} {cell : List ℕ} → second ≡ second_now st indication
        → cell ≡ filled_cell set (sequence_of (entry_of (st.number % 16)) second) samples ancillary
        → cell ≡ cell_now st indication samples ancillary
    unfolding cell_after
    cell_is second_is filled =
        (writes_taken call blank given none_of second_is refl filled).cell_after_lem ∙ rw (eq-eqb (refusal_of call (length blank)) 0 (sym none_of))

-- the state behind one cell more, and the octets of its record behind the others
behind_more : (st : Sender) (done : List SentCell) (c : SentCell) → state_behind st (done ++ (c ∷ [])) ≡ c.state
unfolding state_behind
behind_more st [] c = refl
behind_more st (x ∷ xs) c = behind_more x.state xs c

records_more : (done : List SentCell) (c : SentCell) → records_of (done ++ (c ∷ [])) ≡ records_of done ++ record_octets c.indication c.cell
unfolding flat_map
records_more [] c = append-nil (record_octets c.indication c.cell)
records_more (x ∷ xs) c =
    let first = record_octets x.indication x.cell in
    ap (λ (l : List ℕ). first ++ l) (records_more xs c) ∙ sym (append_assoc first (records_of xs) (record_octets c.indication c.cell))

module _ (set : Settled) (indications : Bool) (st : Sender) (samples ancillary log₀ : List ℕ) (place most : ℕ) where
  abbrev room : ℕ
  room = room_from log₀ place

  abbrev to_come : Sender → ℕ → ℕ → List SentCell
  to_come now at cells = sent_from (room - cells) indications now (drop at samples) (drop at ancillary)

  -- so many cells are sent, and the others are still to come
  pub record Standing (now : Sender) (at to cells : ℕ) (log : List ℕ) : Type 0 where
    pub done : List SentCell
    pub all : sent_into indications st samples ancillary log₀ place ≡ done ++ to_come now at cells
    pub state : now ≡ state_behind st done
    pub count : cells ≡ length done
    pub octets : length (records_of done) ≡ 49 * cells
    pub within : cells ≤ most
    pub at_is : at ≡ cells * used_now st
    pub to_is : to ≡ place + 49 * cells
    pub out : log ≡ written log₀ place (records_of done)
    pub same : length log ≡ length log₀
    pub given : set ≡ settings_of now.format now.channels now.order
    pub used : used_now now ≡ used_now st
    pub sound : state_refusal now ≡ 0

  module _ {known : Bool} (b : Bounds set st samples ancillary log₀ place most known) where
    pub begun : Standing st 0 place 0 log₀
    unfolding flat_map state_behind
    begun =
        let none : room ≡ room - 0 = omega arith in
        record {
          done = [];
          all = ap (λ (n : ℕ). sent_from n indications st samples ancillary) none;
          state = refl;
          count = refl;
          octets = refl;
          within = omega arith;
          at_is = omega (arith, zero-mul (used_now st));
          to_is = omega arith;
          out = sym (written_none log₀ place);
          same = refl;
          given = b.given;
          used = refl;
          sound = b.state_none;
        }

    module _ {now : Sender} {at to cells : ℕ} {log : List ℕ} (s : Standing now at to cells log) where
      -- where no cell is still to come
      finish : to_come now at cells ≡ [] → WritesMany indications st samples ancillary log₀ place most (record { state = now; cells = cells }) log
      finish none =
          let whole : sent_into indications st samples ancillary log₀ place ≡ s.done =
          s.all ∙ ap (λ (cs : List SentCell). s.done ++ cs) none ∙ append-nil s.done in
          record {
            within = s.within;
            cells_are = s.count ∙ ap length (sym whole);
            state_is = s.state ∙ ap (state_behind st) (sym whole);
            log_after_lem = s.out ∙ ap (λ (cs : List SentCell). written log₀ place (records_of cs)) (sym whole);
          }

      -- as many as may be
      pub ends_full : most ≤ cells → WritesMany indications st samples ancillary log₀ place most (record { state = now; cells = cells }) log
      unfolding sent_from
      ends_full full =
          let last : cells ≡ most = omega (arith, s.within, full) in
          split (ltb most room)
          (λ t.
          let short : length samples < most * used_now st + used_now st = b.no_more (ltb-true most room t) in
          let at_end : at ≡ most * used_now st = s.at_is ∙ ap (λ (n : ℕ). n * used_now st) last in
          let few : length (drop at samples) < used_now now = omega (arith, length-drop at samples, short, at_end, s.used) in
          let left : length (next_of now (drop at samples)) ≡ length (drop at samples) =
          ap length (take_all (used_now now) (drop at samples) (omega (arith, few))) in
          finish
          (ends indications now (drop at samples) (drop at ancillary) (room - cells)
          (λ z.
          let five = too_few now s.sound indications (next_of now (drop at samples)) (next_of now (drop at ancillary)) (λ e. omega (arith, e, left, few)) in
          omega (arith, five, z))))
          (λ t.
          let none : room - cells ≡ 0 = omega (arith, ltb-false most room t, last) in
          finish (ap (λ (n : ℕ). sent_from n indications now (drop at samples) (drop at ancillary)) none))

      -- one cell more
      module _ (less : cells < most) where
        pub room_here : to + 49 ≤ length log
        room_here = omega (arith, less, b.room, s.to_is, s.same)

        pub entries_here : at + used_now st ≤ most * used_now st
        entries_here =
            let more : suc cells ≤ most = omega (arith, less) in
            omega (arith, s.at_is, suc-mul cells (used_now st), mul-le-mul_right (used_now st) more)

        pub in_samples : at + used_now st ≤ length samples
        in_samples = omega (arith, entries_here, b.entries)

        part_long : (run : List ℕ) → length run ≡ length samples → length (next_of now (drop at run)) ≡ used_now now
        part_long run e = length-take-le (used_now now) (drop at run) (omega (arith, e, length-drop at run, in_samples, s.used))

        abbrev pS : List ℕ
        pS = next_of now (drop at samples)

        abbrev pA : List ℕ
        pA = next_of now (drop at ancillary)

        abbrev cell-now : SentCell
        cell-now = sent_now indications now (drop at samples) (drop at ancillary)

        pub small_here : values_refused_by set.format pS pA ≡ false → send_refusal now (indicated indications now) pS pA 48 ≡ 0
        small_here e =
            sendable now s.sound indications pS pA (part_long samples refl) (part_long ancillary b.same)
            (sym (values_now now s.sound s.given pS pA) ∙ e)

        pub ends_large : values_refused_by set.format pS pA ≡ true
            → WritesMany indications st samples ancillary log₀ place most (record { state = now; cells = cells }) log
        ends_large e =
            let six = not_sendable now s.sound indications pS pA (part_long samples refl) (part_long ancillary b.same)
            (sym (values_now now s.sound s.given pS pA) ∙ e) in
            finish (ends indications now (drop at samples) (drop at ancillary) (room - cells) (λ z. omega (arith, six, z)))

        more_come : {past : ℕ} → past ≡ at + used_now st → send_refusal now (indicated indications now) pS pA 48 ≡ 0
            → to_come now at cells ≡ cell-now ∷ to_come (after now (indicated indications now)) past (cells + 1)
        more_come {past} e none =
            let n : room - cells ≡ suc (room - (cells + 1)) = omega (arith, less, b.room) in
            let far : at + used_now now ≡ past = omega (arith, e, s.used) in
            ap (λ (k : ℕ). sent_from k indications now (drop at samples) (drop at ancillary)) n
            ∙ comes indications now (drop at samples) (drop at ancillary) (room - (cells + 1)) none
            ∙ ap₂ (λ (x y : List ℕ). cell-now ∷ sent_from (room - (cells + 1)) indications (after now (indicated indications now)) x y)
            (drop-drop (used_now now) at samples ∙ ap (λ (k : ℕ). drop k samples) far)
            (drop-drop (used_now now) at ancillary ∙ ap (λ (k : ℕ). drop k ancillary) far)

        stands : {past end : ℕ} {log₁ : List ℕ} → send_refusal now (indicated indications now) pS pA 48 ≡ 0
            → length cell-now.cell ≡ 48 → log₁ ≡ written log to (record_octets cell-now.indication cell-now.cell)
            → length log₁ ≡ length log → past ≡ at + used_now st → end ≡ to + 49
            → Standing (after now (indicated indications now)) past end (cells + 1) log₁
        unfolding after
        stands none long put kept far next_to =
            let new : List ℕ = record_octets cell-now.indication cell-now.cell in
            let before : to ≡ place + length (records_of s.done) = omega (arith, s.to_is, s.octets) in
            let inside : place ≤ length log₀ = omega (arith, room_here, s.to_is, s.same) in
            let more : records_of (s.done ++ (cell-now ∷ [])) ≡ records_of s.done ++ new = records_more s.done cell-now in
            record {
              done = s.done ++ (cell-now ∷ []);
              all =
                  s.all
                  ∙ ap (λ (cs : List SentCell). s.done ++ cs) (more_come far none)
                  ∙ sym (append_assoc s.done (cell-now ∷ []) _);
              state = sym (behind_more st s.done cell-now);
              count = omega (arith, s.count, length-append s.done (cell-now ∷ []));
              octets = ap length more ∙ length-append (records_of s.done) new ∙ omega (arith, s.octets, long);
              within = omega (arith, less);
              at_is = omega (arith, far, s.at_is, suc-mul cells (used_now st));
              to_is = omega (arith, next_to, s.to_is);
              out =
                  put
                  ∙ ap₂ (λ (l : List ℕ) (n : ℕ). written l n new) s.out before
                  ∙ written_on log₀ place (records_of s.done) new inside
                  ∙ ap (written log₀ place) (sym more);
              same = kept ∙ s.same;
              given = s.given;
              used = s.used;
              sound = sound_after now s.sound (indicated indications now);
            }

        pub turned : {now₁ : Sender} {past end : ℕ} {log₁ : List ℕ} → send_refusal now (indicated indications now) pS pA 48 ≡ 0
            → length cell-now.cell ≡ 48 → log₁ ≡ written log to (record_octets cell-now.indication cell-now.cell)
            → length log₁ ≡ length log → past ≡ at + used_now st → end ≡ to + 49 → now₁ ≡ after now (indicated indications now)
            → Standing now₁ past end (cells + 1) log₁
        turned {past = past} {end = end} {log₁ = log₁} none long put kept far next_to e =
            subst (λ (n : Sender). Standing n past end (cells + 1) log₁) (sym e) (stands none long put kept far next_to)

        -- by what the code has at hand
        module _ {samples₁ ancillary₁ : List ℕ} (first : samples₁ ≡ pS) (second : ancillary₁ ≡ pA) where
          abbrev f : Format
          f = set.format

          values_are : values_refused_by f samples₁ ancillary₁ ≡ values_refused_by f pS pA
          values_are i = values_refused_by f (first i) (second i)

          pub as_many : length ancillary₁ ≡ length samples₁
          as_many =
              ap length second ∙ part_long ancillary b.same ∙ sym (ap length first ∙ part_long samples refl)

          pub known_sound : known ≡ true → values_refused_by f samples₁ ancillary₁ ≡ false
          known_sound so =
              values_are
              ∙ (λ i. values_refused_by f (take (s.used i) (drop at samples)) (take (s.used i) (drop at ancillary)))
              ∙ part_sound f samples ancillary (most * used_now st) at (used_now st) entries_here (b.all_sound so)

          pub large_ends : values_refused_by f samples₁ ancillary₁ ≡ true
              → WritesMany indications st samples ancillary log₀ place most (record { state = now; cells = cells }) log
          large_ends e = ends_large (sym values_are ∙ e)

          module _ (small : values_refused_by f samples₁ ancillary₁ ≡ false) {indication : Bool} (is : indication ≡ indicated indications now) where
            none_here : send_refusal now (indicated indications now) pS pA 48 ≡ 0
            none_here = small_here (sym values_are ∙ small)

            none₁ : send_refusal now indication samples₁ ancillary₁ 48 ≡ 0
            none₁ = (λ i. send_refusal now (is i) (first i) (second i) 48) ∙ none_here

            pub can_pack_here : Packable set samples₁ ancillary₁
            can_pack_here = packs_now now indication samples₁ ancillary₁ s.given none₁

            pub goes_on : {two octet size past end : ℕ} {cell log₁ : List ℕ} {now₁ : Sender} → two ≡ second_now now indication
                → octet ≡ octet_of indication
                → cell ≡ filled_cell set (sequence_of (entry_of (now.number % 16)) two) samples₁ ancillary₁
                → size ≡ 48 → length cell ≡ 48 → log₁ ≡ put_mid (to + 1) size (L.set log to octet) cell → length log₁ ≡ length log
                → past ≡ at + set.channels * set.times → end ≡ to + 49 → now₁ ≡ after now indication
                → Standing now₁ past end (cells + 1) log₁
            goes_on {octet = octet} {size = size} {cell = cell} two_is octet_is filled size_is long put kept far next_to e =
                let canonical : cell ≡ cell-now.cell =
                cell_is now indication samples₁ ancillary₁ s.given none₁ two_is filled ∙ (λ i. cell_now now (is i) (first i) (second i)) in
                let whole : put_mid (to + 1) size (L.set log to octet) cell ≡ written log to (octet ∷ cell) =
                lent_behind octet cell log to size (size_is ∙ sym long) (omega (arith, room_here, long)) in
                let named : octet ≡ octet_of cell-now.indication = octet_is ∙ ap octet_of is in
                turned none_here (sym (ap length canonical) ∙ long) (put ∙ whole ∙ (λ i. written log to (named i ∷ canonical i))) kept
                (far ∙ ap (λ (n : ℕ). at + n) (used_now_lem now s.sound s.given ∙ s.used)) next_to (e ∙ ap (after now) is)

pub one_fewer : {n most : ℕ} → n < most → most - (n + 1) < most - n
one_fewer h = omega (arith, h)
