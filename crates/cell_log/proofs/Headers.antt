-- Laws of the header, over plain values.
-- Assumes nothing.
use mathlib.Core.Bool.{Bool, true, false, cond}
use mathlib.Core.List.{List, [], ◌∷◌}
use mathlib.Core.Path.{◌≡◌, refl, sym, ◌∙◌, subst}
use Prim.Native.Nat.{ℕ, ◌+◌, ◌≤◌, ◌<◌}
use native.Mathlib.Omega.{arith}
use borrow.Author.Tests.{ne_eqb, ltb-true, ltb-false, lt-ltb, le-ltb}
use lib.Dec.{T, eqb, ltb, ltb→lt}
use lib.ListN.{length, set}
use Rattle.runs.specs.Refusals.{or_else}
use Rattle.runs.specs.Test.{every}
use Rattle.runs.proofs.Laws.{every_at, split, past, past_both}
use Rattle.formats.specs.Formats.{listed_octets, is_among, is_listed, settings_refusal}
use Rattle.formats.specs.Settings.{settings_of}
use Rattle.formats.proofs.Laws.{beyond, Settles, settles_all, sound_fields, refusal_of_lem, given_refusal}
use Rattle.formats.specs.Settled.{Settled}
use Rattle.cell_log.specs.Answers.{Number, Header, Kept}
use Rattle.cell_log.specs.Numbers.{number_at}
use Rattle.cell_log.specs.Records.{no_header, header_refusal, header_of_numbers, header_of, second_number, third_number}
use Rattle.cell_log.specs.Written.{Keeps, kept, header_octets, header_refused_of}
use Rattle.runs.proofs.Filling.{stored}
use Rattle.cell_log.proofs.Keeping.{keeps}
use Rattle.cell_log.proofs.Groups.{number_agrees}
use Rattle.cell_log.proofs.Laws.{next_small, groups_1}

module _ (a b c : Number) where
  numbers_not : {refusal : ℕ} {answer : Header} → header_refusal a b c ≡ refusal → (refusal ≡ 0 → ⊥) → answer ≡ no_header refusal
      → answer ≡ header_of_numbers a b c
  unfolding header_of_numbers
  numbers_not {refusal} met some is = is ∙ rw (met, ne_eqb refusal 0 some)

  numbers_taken : header_refusal a b c ≡ 0
      → record { refusal = 0; place = c.next; format = a.value; channels = b.value; order = c.value } ≡ header_of_numbers a b c
  unfolding header_of_numbers
  numbers_taken met = rw met

-- the three numbers as they are read, one after the other
module _ (log : List ℕ) {first : Number} (e₁ : first ≡ number_at log 0) where
  headed : {second third : Number} → second ≡ number_at log first.next → third ≡ number_at log second.next
      → header_of_numbers first second third ≡ header_of log
  unfolding header_of
  headed e₂ e₃ = rw (e₃, e₂, e₁)

  pub header_first : {answer : Header} → (first.refusal ≡ 0 → ⊥) → answer ≡ no_header first.refusal → answer ≡ header_of log
  unfolding header_refusal or_else
  header_first some is = numbers_not first (number_at log first.next) (number_at log (number_at log first.next).next)
      (rw (ne_eqb first.refusal 0 some)) some is ∙ headed refl refl

  module _ {second : Number} (e₂ : second ≡ number_at log first.next) (ok₁ : first.refusal ≡ 0) where
    pub header_second : {answer : Header} → (second.refusal ≡ 0 → ⊥) → answer ≡ no_header second.refusal → answer ≡ header_of log
    unfolding header_refusal or_else
    header_second some is = numbers_not first second (number_at log second.next) (rw (ok₁, ne_eqb second.refusal 0 some)) some is ∙ headed e₂ refl

    module _ {third : Number} (e₃ : third ≡ number_at log second.next) (ok₂ : second.refusal ≡ 0) where
      pub header_third : {answer : Header} → (third.refusal ≡ 0 → ⊥) → answer ≡ no_header third.refusal → answer ≡ header_of log
      unfolding header_refusal or_else
      header_third some is = numbers_not first second third (rw (ok₁, ok₂, ne_eqb third.refusal 0 some)) some is ∙ headed e₂ e₃

      module _ {settled : Settled} (e₄ : settled ≡ settings_of first.value second.value third.value) (ok₃ : third.refusal ≡ 0) where
        judged : header_refusal first second third ≡ settled.refusal
        unfolding header_refusal or_else
        judged = rw (ok₁, ok₂, ok₃, e₄) (sym (refusal_of_lem first.value second.value third.value))

        pub header_unsettled : {answer : Header} → (settled.refusal ≡ 0 → ⊥) → answer ≡ no_header settled.refusal → answer ≡ header_of log
        header_unsettled some is = numbers_not first second third judged some is ∙ headed e₂ e₃

        pub header_taken : settled.refusal ≡ 0
            → record { refusal = 0; place = third.next; format = first.value; channels = second.value; order = third.value } ≡ header_of log
        header_taken ok = numbers_taken first second third (judged ∙ ok) ∙ headed e₂ e₃

next_to : (log : List ℕ) (at : ℕ) → (number_at log at).next ≤ at + 3
next_to log at = rw (number_agrees log at) (next_small 3 log at)

-- three numbers of three groups at most
pub header_place : (log : List ℕ) → (header_of log).place ≤ 9
unfolding header_of header_of_numbers
header_place log =
    split (eqb (header_refusal (number_at log 0) (second_number log) (third_number log)) 0)
    (λ e.
    rw e
    (omega (arith, next_to log 0, next_to log (number_at log 0).next, next_to log (second_number log).next)))
    (λ e. rw e (omega arith))

-- an octet of the fourteen is one group
one_group : ℕ → Bool
one_group octet = cond (is_listed octet) (ltb octet 128) true

-- the octet, C and order of a header that is settled are one group each
module _ (format channels order : ℕ) (ok : settings_refusal format channels order ≡ 0) where
  settles : Settles format channels order
  settles = settles_all format channels order ok

  octet_to : format ≤ 255
  octet_to =
      split (ltb 255 format)
      (λ e. let z : false ≡ true = sym (beyond (ltb-true 255 format e)) ∙ settles.listed in absurd (subst T (sym z) tt))
      (λ e. ltb-false 255 format e)

  pub format_small : format < 128
  unfolding one_group is_listed is_among listed_octets every
  format_small =
      let t : T (one_group format) = every_at one_group 256 tt format (omega (arith, octet_to)) in
      ltb→lt format 128 (subst (λ (b : Bool). T (cond b (ltb format 128) true)) settles.listed t)

  pub channels_small : channels < 128
  channels_small = omega (arith, settles.channels_to, (sound_fields format settles.listed).slots_to)

  pub order_small : order < 128
  order_small = omega (arith, settles.order_to)

  pub header_octets_lem : header_octets format channels order ≡ format ∷ channels ∷ order ∷ []
  header_octets_lem = rw (groups_1 2 format format_small, groups_1 2 channels channels_small, groups_1 2 order order_small)

module _ (log : List ℕ) (format channels order : ℕ) where
  pub header_refused : {settled : Settled} → settled ≡ settings_of format channels order → (settled.refusal ≡ 0 → ⊥)
      → header_refused_of log format channels order ≡ settled.refusal
  unfolding header_refused_of or_else
  header_refused {settled} e some =
      let n : settings_refusal format channels order ≡ settled.refusal = sym (given_refusal format channels order 0 e) in
      rw (n, ne_eqb settled.refusal 0 some)

  pub header_no_room : settings_refusal format channels order ≡ 0 → length log < 3 → header_refused_of log format channels order ≡ 11
  unfolding header_refused_of or_else
  header_no_room ok h =
      let e : header_octets format channels order ≡ format ∷ channels ∷ order ∷ [] = header_octets_lem format channels order ok in
      rw (ok, e, lt-ltb (length log) 3 h)

  pub header_fits : header_refused_of log format channels order ≡ 0 → (settings_refusal format channels order ≡ 0) × (3 ≤ length log)
  unfolding header_refused_of
  header_fits none =
      let both = past_both (settings_refusal format channels order) _ none in
      let room : ◌≡◌ {A = ℕ} (cond (ltb (length log) 3) 11 0) 0 = rw (header_octets_lem format channels order both.0) at both.1 in
      (both.0, ltb-false (length log) 3 (past (ltb (length log) 3) 10 0 room).0)

  header_room : settings_refusal format channels order ≡ 0 → 3 ≤ length log → header_refused_of log format channels order ≡ 0
  unfolding header_refused_of or_else
  header_room ok h =
      let e : header_octets format channels order ≡ format ∷ channels ∷ order ∷ [] = header_octets_lem format channels order ok in
      rw (ok, e, le-ltb (length log) 3 h)

  pub header_stored : {answer : Kept} → settings_refusal format channels order ≡ 0 → 3 ≤ length log → answer ≡ kept 3
      → Keeps (header_refused_of log format channels order) 0 (header_octets format channels order) log answer
      (set (set (set log 0 format) 1 channels) 2 order)
  header_stored ok h is =
      let e : header_octets format channels order ≡ format ∷ channels ∷ order ∷ [] = header_octets_lem format channels order ok in
      keeps (header_room ok h) (is ∙ rw e) (stored (format ∷ channels ∷ order ∷ []) log 0 (omega arith) ∙ rw e)
