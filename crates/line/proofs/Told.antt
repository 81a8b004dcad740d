-- What the tools tell is sharp: a reading that counts a copy as missing doesn't tell the story, and a log as it asks can be had.
-- Assumes nothing.
use mathlib.Core.Bool.{false, cond}
use mathlib.Core.List.{List, [], ◌∷◌, map}
use mathlib.Core.Path.{◌≡◌, refl}
use Prim.Native.Nat.{ℕ, ◌+◌}
use native.Mathlib.Nat.{suc-ne-zero}
use native.Mathlib.Omega.{arith}
use lib.Dec.{eqb}
use lib.ListN.{replicate}
use Rattle.runs.specs.Runs.{written}
use Rattle.cell_log.specs.Numbers.{groups_of}
use Rattle.cell_log.specs.Written.{kept, header_octets, header_refused_of, record_octets, record_refusal}
use Rattle.receiver.specs.declared.Received.{Received}
use Rattle.receiver.specs.Receiver as R
use Rattle.reading.specs.Heard.{Heard, heard_by, given, hear, heard_from, sound_in, missing_in, refused_in}
use Rattle.reading.specs.Reading.{reading_of}
use Rattle.reading.specs.Records.{Whole as Arrival}
use Rattle.line.specs.Line.{Fate, dropped, spoiled, unaltered, Trip, arrivals}
use Rattle.line.specs.Tools.{KeepCall, written_by, LogOf, TellsStory, ToldBy, ToolsTell}
use Rattle.line.proofs.Examples.{studio, fresh, sends, sends_in_a_row, trips}
use Rattle.line.proofs.Opened.{opened}
use Rattle.line.proofs.Sharp.{altered}
use Rattle.line.proofs.Tools.{tools_tell}

-- A reading that takes a copy for a cell that came before its time: it refuses it and tells one missing.
abbrev one_missing : Received → Received
one_missing r =
    record {
      refusal = r.refusal;
      state = r.state;
      missing = cond (eqb r.refusal 9) 1 r.missing;
      number = r.number;
      second = r.second;
      indication = r.indication;
    }

abbrev miscounted : Heard → Heard
miscounted h =
    record {
      arrived = h.arrived;
      answer = one_missing h.answer;
      samples = h.samples;
      ancillary = h.ancillary;
      marks = h.marks;
    }

abbrev pub copied : List Trip
copied = trips studio ((1, unaltered 1) ∷ [])

pub copy_not_missing : TellsStory copied (map miscounted (heard_from fresh (arrivals copied))) → ⊥
unfolding opened trips heard_by hear given R.judged_of
copy_not_missing story = let missing : ◌≡◌ {A = ℕ} 1 0 = story.missing in omega arith

-- A log of a cell that came twice, one dropped, one spoiled, and one more that came, in a lent run of two hundred octets.
unfoldable pub carried : List (ℕ × Fate)
carried = (1, unaltered 1) ∷ (2, dropped) ∷ (3, spoiled (altered 2 15) false 0) ∷ (4, unaltered 0) ∷ []

abbrev pub lent : List ℕ
lent = replicate 200 0

abbrev pub headed : List ℕ
headed = written lent 0 (header_octets 0x5A 5 0)

abbrev pub keeping : List ℕ → ℕ → Arrival → KeepCall
keeping log place a =
    record {
      log = log;
      place = place;
      came = a;
      answer = kept (place + 49);
      log_after_lem = written log place (record_octets a.indication a.cell);
    }

unfoldable pub keeping_all : List ℕ → ℕ → List Arrival → List KeepCall
keeping_all log place [] = []
keeping_all log place (a ∷ came) =
    keeping log place a ∷ keeping_all (written log place (record_octets a.indication a.cell)) (place + 49) came

abbrev pub came : List Arrival
came = arrivals (trips studio carried)

abbrev pub log : List ℕ
log = written_by headed 3 (keeping_all headed 3 came)

pub can_be_told : LogOf studio (arrivals (trips studio carried)) log
unfolding opened trips carried keeping_all groups_of header_refused_of record_refusal
can_be_told =
    record {
      lent = lent;
      opening = kept 3;
      headed = headed;
      header = record { answered = refl; left = refl };
      taken = refl;
      calls = keeping_all headed 3 came;
      in_a_row = (
        refl,
        (record { answered = refl; left = refl }, refl),
        (
          refl,
          (record { answered = refl; left = refl }, refl),
          (refl, (record { answered = refl; left = refl }, refl), (refl, (record { answered = refl; left = refl }, refl), tt)),
        ),
      );
      these = refl;
      octets = refl;
    }

-- two sound, two missing between them, and two refused: the copy and the spoiled one
pub record Counted (heard : List Heard) : Type 0 where
  pub sound : sound_in heard ≡ 2
  pub missing : missing_in heard ≡ 2
  pub refused : refused_in heard ≡ 2

pub told_so : Counted (reading_of log).heard
unfolding opened trips carried ToolsTell
told_so =
    let told : ToldBy studio (trips studio carried) log
    = tools_tell studio (sends studio carried) (trips studio carried) log (λ e. suc-ne-zero 3 e) (sends_in_a_row studio carried)
    refl (omega arith) (tt, (tt, ((omega arith, omega arith), (tt, tt)))) (omega arith) can_be_told in
    record { sound = told.tells.sound; missing = told.tells.missing; refused = told.tells.refused }
