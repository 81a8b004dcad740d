-- No second answer: whatever answer and lent run at exit meet the contract of a public function are equal. Stated over the
-- contracts themselves.
-- Assumes nothing.
use mathlib.Core.List.{List}
use mathlib.Core.Path.{◌≡◌, sym, ◌∙◌, ap}
use Prim.Native.Nat.{ℕ}
use Rattle.runs.proofs.One.{One}
use Rattle.text.specs.declared.Put.{Put}
use Rattle.text.specs.Put.{Filling, Puts}
use Rattle.text.proofs.put_all.Kinds as put-all-kinds
use Rattle.text.proofs.put_all.Reads as put-all-reads
use Rattle.text.proofs.put_item.Kinds as put-item-kinds
use Rattle.text.proofs.put_item.Reads as put-item-reads
use Rattle.text.proofs.put_line.Kinds as put-line-kinds
use Rattle.text.proofs.put_line.Reads as put-line-reads
use Rattle.text.proofs.put_number.Kinds as put-number-kinds
use Rattle.text.proofs.put_number.Reads as put-number-reads

module _ {before : List ℕ} {at : Put} {octets one two : List ℕ} {x y : Put} (p : Puts before at one x octets) (q : Puts before at two y octets)
  where
    alike : ◌≡◌ {A = Filling} (record { run = one; past = x }) (record { run = two; past = y })
    alike = p.is ∙ sym q.is

    pub same_run : one ≡ two
    same_run = ap (λ (f : Filling). f.run) alike

    pub same_past : x ≡ y
    same_past = ap (λ (f : Filling). f.past) alike

pub put_all_one : One put-all-kinds.ps put-all-kinds.r put-all-reads.Pre put-all-reads.Post
put_all_one κs a x y v w pre p q = (same_past p q, λ i. (same_run p q i, (tt, (tt, tt))))

pub put_number_one : One put-number-kinds.ps put-number-kinds.r put-number-reads.Pre put-number-reads.Post
put_number_one κs a x y v w pre p q = (same_past p q, λ i. (same_run p q i, (tt, (tt, tt))))

pub put_item_one : One put-item-kinds.ps put-item-kinds.r put-item-reads.Pre put-item-reads.Post
put_item_one κs a x y v w pre p q = (same_past p q, λ i. (same_run p q i, (tt, (tt, (tt, tt)))))

pub put_line_one : One put-line-kinds.ps put-line-kinds.r put-line-reads.Pre put-line-reads.Post
put_line_one κs a x y v w pre p q = (same_past p q, λ i. (same_run p q i, (tt, (tt, (tt, tt)))))
