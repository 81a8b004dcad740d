-- What the boxes' promises leave of their states as octets.
-- Assumes nothing.
use mathlib.Core.Bool.{Bool}
use mathlib.Core.List.{List, [], ◌∷◌}
use mathlib.Core.Path.{◌≡◌, sym, ◌∙◌, ap, subst}
use Prim.Native.Nat.{ℕ, ◌+◌, ◌*◌, ◌/◌, ◌%◌, ◌≤◌, ◌<◌}
use native.Mathlib.Nat.{div-div-eq-div-mul, div-lt_iff_lt-mul, div-add-mod', mod-eq_of_lt}
use native.Mathlib.Omega.{arith}
use borrow.Author.Tests.{ne_eqb}
use Rattle.sender.specs.declared.Sender.{Sender}
use Rattle.sender.specs.declared.Sent.{Sent}
use Rattle.sender.specs.Sender.{Sends}
use Rattle.receiver.specs.declared.Receiver.{Receiver}
use Rattle.receiver.specs.declared.Received.{Received}
use Rattle.receiver.specs.Receiver.{Receives}
use Rattle.rimesatchel.specs.Boxes.{
  yes_no,
  sender_of,
  sender_octets,
  count_of,
  count_octets,
  receiver_of,
  receiver_octets,
  report_octets,
  state_after,
  SentOctets,
  ReceivedOctets,
}

four_octets : (n a b d r s t top : ℕ) → a * 256 + r ≡ n → b * 256 + s ≡ a → d * 256 + t ≡ b → top ≡ d
    → r + s * 256 + t * 65536 + top * 16777216 ≡ n
four_octets n a b d r s t top one two three four = omega arith

-- the count comes through the state's octets whole
pub count_kept : (st : Receiver) → st.count ≤ 4294967295 → (receiver_of (receiver_octets st)).count ≡ st.count
unfolding receiver_of receiver_octets count_of count_octets
count_kept st few =
    let n = st.count in
    let third : n / 256 / 256 ≡ n / 65536 = div-div-eq-div-mul n 256 256 in
    let fourth : n / 65536 / 256 ≡ n / 16777216 = div-div-eq-div-mul n 65536 256 in
    let high : n / 16777216 < 256 = (div-lt_iff_lt-mul {k = 16777216} {x = n} {y = 256} (omega arith)).1 (omega (arith, few)) in
    four_octets n (n / 256) (n / 65536) (n / 16777216) (n % 256) (n / 256 % 256) (n / 65536 % 256) (n / 16777216 % 256)
    (div-add-mod' n 256) (ap (λ (m : ℕ). m * 256 + n / 256 % 256) (sym third) ∙ div-add-mod' (n / 256) 256)
    (ap (λ (m : ℕ). m * 256 + n / 65536 % 256) (sym fourth) ∙ div-add-mod' (n / 65536) 256) (mod-eq_of_lt high)

after_refused : {a r : ℕ} (new old : List ℕ) → a ≡ r → (a ≡ 0 → ⊥) → old ≡ state_after r new old
after_refused new old is some = rw (ne_eqb _ 0 (λ e. some (is ∙ e)))

after_taken : {a r : ℕ} (new old : List ℕ) {left : List ℕ} → a ≡ r → a ≡ 0 → left ≡ new → left ≡ state_after r new old
after_taken new old is none e = rw (sym is ∙ none) e

module _ (state : List ℕ) (indication : Bool) (samples ancillary cell : List ℕ) {st : Sender} {answer : Sent} {cell₁ : List ℕ}
    (is : st ≡ sender_of state) (sends : Sends st indication samples ancillary cell answer cell₁)
  where
    here : Sends (sender_of state) indication samples ancillary cell answer cell₁
    here = subst (λ (x : Sender). Sends x indication samples ancillary cell answer cell₁) is sends

    pub sent_refused : (answer.refusal ≡ 0 → ⊥) → SentOctets state indication samples ancillary cell answer.refusal state cell₁
    sent_refused some =
        record {
          refused = ap (λ (x : Sent). x.refusal) here.answered;
          leaves = after_refused _ state (ap (λ (x : Sent). x.refusal) here.answered) some;
          writes = here.cell_after_lem;
        }

    pub sent_taken : answer.refusal ≡ 0 → {left : List ℕ} → left ≡ sender_octets answer.state
        → SentOctets state indication samples ancillary cell 0 left cell₁
    sent_taken none e =
        record {
          refused = sym none ∙ ap (λ (x : Sent). x.refusal) here.answered;
          leaves =
              after_taken _ state (ap (λ (x : Sent). x.refusal) here.answered) none
              (e ∙ ap (λ (x : Sent). sender_octets x.state) here.answered);
          writes = here.cell_after_lem;
        }

module _ (state cell : List ℕ) (indication : Bool) (samples ancillary marks : List ℕ) {st : Receiver} {answer : Received}
    {samples₁ ancillary₁ marks₁ : List ℕ} {told : ℕ} (is : st ≡ receiver_of state)
    (receives : Receives st cell indication samples ancillary marks answer samples₁ ancillary₁ marks₁)
    (said : told ≡ yes_no answer.indication)
  where
    taken : Receives (receiver_of state) cell indication samples ancillary marks answer samples₁ ancillary₁ marks₁
    taken = subst (λ (x : Receiver). Receives x cell indication samples ancillary marks answer samples₁ ancillary₁ marks₁) is receives

    abbrev report : List ℕ
    report = answer.missing ∷ answer.number ∷ answer.second ∷ told ∷ []

    reported : report ≡ report_octets answer
    unfolding report_octets
    reported = ap (λ (n : ℕ). answer.missing ∷ answer.number ∷ answer.second ∷ n ∷ []) said

    pub received_refused : (answer.refusal ≡ 0 → ⊥)
        → ReceivedOctets state cell indication samples ancillary marks answer.refusal state samples₁ ancillary₁ marks₁ report
    received_refused some =
        record {
          refused = ap (λ (x : Received). x.refusal) taken.answered;
          leaves = after_refused _ state (ap (λ (x : Received). x.refusal) taken.answered) some;
          reports = reported ∙ ap report_octets taken.answered;
          receives = subst (λ (x : Received). Receives (receiver_of state) cell indication samples ancillary marks x samples₁ ancillary₁ marks₁)
              taken.answered taken;
        }

    pub received_taken : answer.refusal ≡ 0 → {left : List ℕ} → left ≡ receiver_octets answer.state
        → ReceivedOctets state cell indication samples ancillary marks 0 left samples₁ ancillary₁ marks₁ report
    received_taken none e =
        record {
          refused = sym none ∙ ap (λ (x : Received). x.refusal) taken.answered;
          leaves =
              after_taken _ state (ap (λ (x : Received). x.refusal) taken.answered) none
              (e ∙ ap (λ (x : Received). receiver_octets x.state) taken.answered);
          reports = reported ∙ ap report_octets taken.answered;
          receives = subst (λ (x : Received). Receives (receiver_of state) cell indication samples ancillary marks x samples₁ ancillary₁ marks₁)
              taken.answered taken;
        }
