-- `rimesatchel::states::put_numbers` meets its contract: eleven numbers, and the state's own up to the run's end.
-- Assumes nothing.
use Rattle.std.proofs.Common.{◌≡◌, ℕ, ◌+◌, ◌-◌, List, [], ◌∷◌, ◌++◌, length, take, drop, refl, ap, ◌∙◌, arith, append-nil, length-drop, take_at}
use Rattle.std.proofs.lemmas.List.{drop_all}
use borrow.Rule.Slice.PartMut.{post_of}
use Rattle.receiver.specs.declared.Receiver.{Receiver}
use Rattle.pieces.specs.declared.Standing.{Standing}
use Rattle.rimesatchel.specs.States.{number_of, with_numbers, Within}
use Rattle.rimesatchel.proofs.Bytes.{byte_of}
use Rattle.rimesatchel.proofs.states.put_numbers.Goals as goal

-- a run that holds a front and then another part up to its end
two_parts : (old : List ℕ) {own front shared part : List ℕ} → length old ≡ 11 + length own → shared ≡ front → length front ≡ 11 → part ≡ own
    → take 11 (shared ++ drop 11 old)
    ++ (part ++ post_of 11 (length (shared ++ drop 11 old) - 11) (shared ++ drop 11 old))
    ≡ front ++ own
two_parts old {own} {front} {shared} {part} size first eleven same =
    let run : List ℕ = shared ++ drop 11 old in
    let long : length shared ≡ 11 = ap length first ∙ eleven in
    let none : post_of 11 (length run - 11) run ≡ [] = drop_all (length run - 11) (drop 11 run) (omega (arith, length-drop 11 run)) in
    rw (none, take_at shared (drop 11 old) 11 long, append-nil part) (λ i. first i ++ same i)

numbers_are : (s : Standing) (r : Receiver) (own : List ℕ) {n : ℕ} → n ≡ number_of r.started
    → s.stage ∷ s.fault ∷ s.count ∷ s.left ∷ s.records ∷ r.format ∷ r.channels ∷ r.order ∷ n ∷ r.last ∷ r.count ∷ own
    ≡ with_numbers s r own
numbers_are s r own e = rw e

pub returns : goal.returns
returns c =
    let within : Within c.args.standing c.args.receiver = omega arith in (
      two_parts c.args.numbers.now c.requires c.copy_from_slice.ensures.after refl c.copy_from_slice-2.ensures.after
          ∙ numbers_are c.args.standing c.args.receiver c.args.own.now (byte_of c.args.receiver.started),
      within,
    )
