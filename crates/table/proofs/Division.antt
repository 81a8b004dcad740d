-- Where a sheet stands among the logs of standard input: each step of the code goes on as the page's definition says.
-- Assumes nothing.
use Rattle.std.proofs.Common.{◌≡◌, ℕ, zero, suc, ◌+◌, ◌-◌, ◌*◌, ◌<◌, ◌≤◌, true, false, eqb, ltb, leb, List, [], ◌∷◌, ◌++◌, length, take, drop, sym, refl, ap, ◌∙◌, subst, append_assoc, arith, length-append, drop_of_length-le, length-take-le, ltb-false, ltb-true, le-ltb, lt-ltb, eq-eqb, ne_eqb, eqb-true, leb-false, leb-true}
use borrow.Author.Tests.{eqb-false}
use lib.Seq.{append_snoc, drop-nil, take-length}
use Rattle.runs.proofs.Laws.{split}
use Rattle.pieces.specs.Taken.{joined_of}
use Rattle.table.specs.declared.Input.{Input}
use Rattle.table.specs.declared.logs.Step.{Step}
use Rattle.table.specs.Logs.{are_digits, number_on, Logs, no_logs, with_log, logs_to}
use Rattle.table.specs.Taking.{
  between_of,
  read_of,
  begins_of,
  goes_on_of,
  length_step,
  share_of,
  left_of,
  log_step,
  step_of,
  Stood,
  counted_by,
  log_ended,
  step_at,
  settled_of,
  stepped_by,
  taken_from,
  taken_of,
  taken_over,
}
use Rattle.table.proofs.Counted.{Counted, counted_by_lem, next_input_lem, counted_log}
use Rattle.table.proofs.Lengths.{
  digits_more,
  goes_facts,
  number_more,
  rest_of,
  behind_the_last,
  newline_alone,
  no_digit,
  newline,
  rest_whole,
  rest_part,
}

-- logs before those that come
abbrev pub with_logs : List (List ℕ) → Logs → Logs
with_logs done behind = record { refusal = behind.refusal; logs = done ++ behind.logs }

abbrev pub input_of : Stood → Input
input_of s = s.sheet.input

-- between two logs, with these digits of a length read; none behind the 4,096th log
pub record Between (i : Input) (done : List (List ℕ)) (ds : List ℕ) : Type 0 where
  pub none : i.refusal ≡ 0
  pub out : i.left ≡ 0
  pub are : are_digits ds ≡ true
  pub digits : i.digits ≡ length ds
  pub number : i.number ≡ number_on 0 ds
  pub short : length ds ≤ 10
  pub fits : number_on 0 ds ≤ 4294967295
  pub few : length done ≤ 4096
  pub last : length ds ≤ 10 * (4096 - length done)

-- within a log, of which this part is read
pub record Within (i : Input) (done : List (List ℕ)) (part : List ℕ) : Type 0 where
  pub none : i.refusal ≡ 0
  pub some : i.left ≡ 0 → ⊥
  pub few : length done < 4096
  pub fits : length part + i.left ≤ 4294967295

-- where a sheet stands, by the logs that the whole input holds and what of it is still to come
pub data Stands (rows₀ : List ℕ) (all : Logs) (s : Stood) (rest : List ℕ) : Type 0 where
  refused : ((input_of s).refusal ≡ 0 → ⊥) → all.refusal ≡ (input_of s).refusal → Stands rows₀ all s rest
  between : (done : List (List ℕ)) (ds : List ℕ) → Counted rows₀ s done [] → Between (input_of s) done ds
      → all ≡ with_logs done (logs_to (4096 - length done) (ds ++ rest)) → Stands rows₀ all s rest
  within : (done : List (List ℕ)) (part : List ℕ) → Counted rows₀ s done part → Within (input_of s) done part
      → all ≡ with_logs done (rest_of (4095 - length done) part (input_of s).left rest) → Stands rows₀ all s rest

module _ (rows₀ : List ℕ) (all : Logs) where
  -- behind a whole log
  next_log : {s : Stood} {done : List (List ℕ)} {log : List ℕ} (rest : List ℕ) → (input_of s).refusal ≡ 0 → length done < 4096
      → length log ≤ 4294967295 → Counted rows₀ s done log
      → all ≡ with_logs done (with_log log (logs_to (4095 - length done) rest)) → Stands rows₀ all (log_ended s) rest
  unfolding are_digits number_on
  next_log {s} {done} {log} rest none few long c is =
      let more : length (done ++ (log ∷ [])) ≡ length done + 1 = length-append done (log ∷ []) in
      let left : 4096 - length (done ++ (log ∷ [])) ≡ 4095 - length done = omega (arith, more) in
      let here = next_input_lem rows₀ few c in
      between (done ++ (log ∷ [])) [] (counted_log rows₀ few (omega (arith, long)) c)
      (record {
        none = ap (λ (i : Input). i.refusal) here ∙ none;
        out = ap (λ (i : Input). i.left) here;
        are = refl;
        digits = ap (λ (i : Input). i.digits) here;
        number = ap (λ (i : Input). i.number) here;
        short = omega arith;
        fits = omega arith;
        few = omega (arith, more, few);
        last = omega arith;
      })
      (is
      ∙ ap (λ (n : ℕ). with_logs done (with_log log (logs_to n rest))) (sym left)
      ∙ ap (λ (l : List (List ℕ)). record { refusal = (logs_to (4096 - length (done ++ (log ∷ []))) rest).refusal; logs = l })
      (sym (append_snoc done log (logs_to (4096 - length (done ++ (log ∷ []))) rest).logs)))

  module _ (s : Stood) (o : ℕ) (os later : List ℕ) where
    -- the sheet behind a step, and what comes then
    abbrev After : Step → Type 0
    After step = Stands rows₀ all (stepped_by step s (take step.octets (o ∷ os))) (drop (step.used - 1) os ++ later)

    abbrev step : Step
    step = step_of (input_of s) o (suc (length os))

    behind : {next : Step} → step ≡ next → After next → After step
    behind is after = subst After (sym is) after

    -- an octet that makes the input refused
    stops : (refusal : ℕ) → (refusal ≡ 0 → ⊥) → all.refusal ≡ refusal → After (read_of (between_of refusal (input_of s).logs))
    unfolding settled_of
    stops refusal some is = refused some is

    module _ (done : List (List ℕ)) (ds : List ℕ) (c : Counted rows₀ s done []) (b : Between (input_of s) done ds)
        (is : all ≡ with_logs done (logs_to (4096 - length done) (ds ++ (o ∷ (os ++ later)))))
      where
        told : {n : ℕ} {l : Logs} → 4096 - length done ≡ n → logs_to n (ds ++ (o ∷ (os ++ later))) ≡ l → all ≡ with_logs done l
        told {n} e law = is ∙ ap (λ (m : ℕ). with_logs done (logs_to m (ds ++ (o ∷ (os ++ later))))) e ∙ ap (with_logs done) law

        in_length : step ≡ length_step (input_of s) o
        unfolding step_of
        in_length = rw (eq-eqb (input_of s).refusal 0 b.none, eq-eqb (input_of s).left 0 b.out)

        past_last : 4095 < (input_of s).logs → After step
        unfolding length_step
        past_last many =
            let at : step ≡ read_of (between_of 18 (input_of s).logs) = in_length ∙ rw (lt-ltb 4095 (input_of s).logs many) in
            behind at
            (stops 18 (λ e. omega (arith, e))
            (ap (λ (l : Logs). l.refusal)
            (told (omega (arith, many, c.logs)) (behind_the_last ds o (os ++ later)))))

        module _ (few : length done < 4096) where
          abbrev most : ℕ
          most = 4095 - length done

          is_most : 4096 - length done ≡ suc most
          is_most = omega (arith, few)

          here : ltb 4095 (input_of s).logs ≡ false
          here = le-ltb 4095 (input_of s).logs (omega (arith, c.logs, few))

          no_log : step ≡ read_of (between_of 5 (input_of s).logs) → logs_to (suc most) (ds ++ (o ∷ (os ++ later))) ≡ no_logs 5
              → After step
          no_log at law = behind at (stops 5 (λ e. omega (arith, e)) (ap (λ (l : Logs). l.refusal) (told is_most law)))

          -- a newline that no digit stands before, and an octet that is no digit
          past_newline_alone : o ≡ 10 → (input_of s).digits ≡ 0 → After step
          unfolding length_step
          past_newline_alone end none =
              no_log (in_length ∙ rw (here, eq-eqb o 10 end, eq-eqb (input_of s).digits 0 none))
              (ap (λ (n : ℕ). logs_to (suc most) (ds ++ (n ∷ (os ++ later)))) end
              ∙ newline_alone most ds b.are (os ++ later) (sym b.digits ∙ none))

          module _ (more : o ≡ 10 → ⊥) where
            goes : goes_on_of (input_of s).digits (input_of s).number o ≡ goes_on_of (length ds) (number_on 0 ds) o
            goes = rw (b.digits, b.number)

            past_other : goes_on_of (input_of s).digits (input_of s).number o ≡ false → After step
            unfolding length_step
            past_other odd =
                no_log (in_length ∙ rw (here, ne_eqb o 10 more, odd))
                (no_digit most ds b.are o (os ++ later) more (sym goes ∙ odd))

            -- the next digit
            past_digit : goes_on_of (input_of s).digits (input_of s).number o ≡ true → After step
            unfolding length_step settled_of are_digits number_on
            past_digit on =
                let i : Input = record {
                  refusal = 0;
                  logs = (input_of s).logs;
                  left = 0;
                  digits = (input_of s).digits + 1;
                  number = 10 * (input_of s).number + (o - 48);
                } in
                let at : step ≡ read_of i = in_length ∙ rw (here, ne_eqb o 10 more, on) in
                let fact = goes_facts (input_of s).digits (input_of s).number o on in
                let long : length (ds ++ (o ∷ [])) ≡ length ds + 1 = length-append ds (o ∷ []) in
                let value : number_on 0 (ds ++ (o ∷ [])) ≡ 10 * number_on 0 ds + (o - 48) = number_more 0 ds (o ∷ []) in
                behind at
                (between done (ds ++ (o ∷ [])) (counted_by_lem rows₀ i [] refl c)
                (record {
                  none = refl;
                  out = refl;
                  are = digits_more ds (o ∷ []) b.are ∙ rw fact.0;
                  digits = omega (arith, b.digits, long);
                  number = omega (arith, b.number, value);
                  short = omega (arith, b.digits, long, fact.2);
                  fits = omega (arith, b.number, value, fact.3);
                  few = b.few;
                  last = omega (arith, b.digits, long, fact.2, few);
                })
                (is ∙ ap (λ (l : List ℕ). with_logs done (logs_to (4096 - length done) l)) (sym (append_snoc ds o (os ++ later)))))

          -- a newline behind digits
          module _ (end : o ≡ 10) (some : (input_of s).digits ≡ 0 → ⊥) where
            at_newline : step ≡ begins_of (input_of s).logs (input_of s).number
            unfolding length_step
            at_newline = in_length ∙ rw (here, eq-eqb o 10 end, ne_eqb (input_of s).digits 0 some)

            log_comes : all ≡ with_logs done (rest_of most [] (input_of s).number (os ++ later))
            log_comes =
                told is_most
                (ap (λ (n : ℕ). logs_to (suc most) (ds ++ (n ∷ (os ++ later)))) end
                ∙ newline most ds b.are (os ++ later) (λ e. some (b.digits ∙ e)) b.short b.fits
                ∙ ap (λ (n : ℕ). rest_of most [] n (os ++ later)) (sym b.number))

            past_newline : After step
            unfolding settled_of
            past_newline =
                let counted = counted_by_lem rows₀ (begins_of (input_of s).logs (input_of s).number).input [] refl c in
                split (eqb (input_of s).number 0)
                (λ t.
                let none : (input_of s).number ≡ 0 = eqb-true (input_of s).number 0 t in
                behind at_newline
                (rw t
                (next_log (os ++ later) refl few (omega arith) counted
                (log_comes
                ∙ ap (λ (n : ℕ). with_logs done (rest_of most [] n (os ++ later))) none
                ∙ ap (with_logs done) (rest_whole most [] 0 [] (os ++ later) (omega arith))))))
                (λ t.
                behind at_newline
                (rw t
                (within done [] counted
                (record {
                  none = refl;
                  some = eqb-false (input_of s).number 0 t;
                  few = few;
                  fits = omega (arith, b.number, b.fits);
                })
                log_comes)))

          past_octet : After step
          past_octet =
              split (eqb o 10)
              (λ t.
              split (eqb (input_of s).digits 0)
              (λ u. past_newline_alone (eqb-true o 10 t) (eqb-true (input_of s).digits 0 u))
              (λ u. past_newline (eqb-true o 10 t) (eqb-false (input_of s).digits 0 u)))
              (λ t.
              split (goes_on_of (input_of s).digits (input_of s).number o)
              (λ u. past_digit (eqb-false o 10 t) u)
              (λ u. past_other (eqb-false o 10 t) u))

    module _ (done : List (List ℕ)) (part : List ℕ) (c : Counted rows₀ s done part) (w : Within (input_of s) done part)
        (is : all ≡ with_logs done (rest_of (4095 - length done) part (input_of s).left ((o ∷ os) ++ later)))
      where
        abbrev left : ℕ
        left = (input_of s).left

        abbrev log_goes : Input
        log_goes = left_of (input_of s) (left - suc (length os))

        in_log : (share : ℕ) → share_of left (suc (length os)) ≡ share
            → step ≡ record { input = log_goes; octets = share; used = share; whole = leb left (suc (length os)) }
        unfolding step_of log_step
        in_log share e = rw (eq-eqb (input_of s).refusal 0 w.none, ne_eqb left 0 w.some, e)

        counted : (ahead : List ℕ) → Counted rows₀ (counted_by s log_goes ahead) done (part ++ ahead)
        counted ahead = counted_by_lem rows₀ log_goes ahead refl c

        past_end : left ≤ suc (length os) → leb left (suc (length os)) ≡ true → After step
        unfolding settled_of
        past_end there t =
            let rest : drop left (o ∷ os) ≡ drop (left - 1) os =
            ap (λ (n : ℕ). drop n (o ∷ os)) (let e : left ≡ suc (left - 1) = omega (arith, w.some) in e) in
            let long : length (part ++ take left (o ∷ os)) ≤ 4294967295 =
            omega (arith, length-append part (take left (o ∷ os)), length-take-le left (o ∷ os) there, w.fits) in
            behind (in_log left (rw t))
            (rw t
            (next_log (drop (left - 1) os ++ later) w.none w.few long (counted (take left (o ∷ os)))
            (is
            ∙ ap (with_logs done)
            (rest_whole (4095 - length done) part left (o ∷ os) later there
            ∙ ap (λ (l : List ℕ). with_log (part ++ take left (o ∷ os)) (logs_to (4095 - length done) (l ++ later))) rest))))

        past_piece : suc (length os) < left → leb left (suc (length os)) ≡ false → After step
        unfolding settled_of
        past_piece beyond t =
            let piece : take (length os) os ≡ os = take-length os in
            let none : drop (suc (length os) - 1) os ≡ [] = drop_of_length-le os {i = suc (length os) - 1} (omega arith) in
            behind (in_log (suc (length os)) (rw t))
            (rw (t, none, piece)
            (within done (part ++ (o ∷ os)) (counted (o ∷ os))
            (record {
              none = w.none;
              some = λ e. omega (arith, e, beyond);
              few = w.few;
              fits = omega (arith, length-append part (o ∷ os), w.fits, beyond);
            })
            (is ∙ ap (with_logs done) (rest_part (4095 - length done) part left (o ∷ os) later (omega (arith, beyond))))))

    past_step : Stands rows₀ all s ((o ∷ os) ++ later) → After step
    unfolding step_of settled_of
    past_step (refused some is) = rw (ne_eqb (input_of s).refusal 0 some) (refused some is)
    past_step (between done ds c b is) =
        split (ltb 4095 (input_of s).logs)
        (λ t. past_last done ds c b is (ltb-true 4095 (input_of s).logs t))
        (λ t. past_octet done ds c b is (omega (arith, ltb-false 4095 (input_of s).logs t, c.logs)))
    past_step (within done part c w is) =
        split (leb (input_of s).left (suc (length os)))
        (λ t. past_end done part c w is (leb-true (input_of s).left (suc (length os)) t) t)
        (λ t. past_piece done part c w is (leb-false (input_of s).left (suc (length os)) t) t)

  -- behind a piece, and behind pieces
  past_octets : (used : ℕ) (s : Stood) (octets later : List ℕ) → Stands rows₀ all s (drop used octets ++ later)
      → Stands rows₀ all (taken_from used s octets) later
  unfolding taken_from
  past_octets used s [] later at = rw drop-nil at at
  past_octets (suc used) s (o ∷ os) later at = past_octets used s os later at
  past_octets zero s (o ∷ os) later at =
      past_octets ((step_at s o os).used - 1) (stepped_by (step_at s o os) s (take (step_at s o os).octets (o ∷ os))) os later
      (past_step s o os later at)

  pub past_pieces : (s : Stood) (ps : List (List ℕ)) (rest : List ℕ) → Stands rows₀ all s (joined_of ps ++ rest)
      → Stands rows₀ all (taken_over s ps) rest
  unfolding taken_over joined_of
  past_pieces s [] rest at = at
  past_pieces s (p ∷ ps) rest at =
      past_pieces (taken_of s p) ps rest (past_octets 0 s p (joined_of ps ++ rest) (rw append_assoc at at))
