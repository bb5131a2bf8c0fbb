-- Registers that a room lends, and that come back as many as they were.
use Rattle.std.proofs.Common.{◌≡◌, ◌∙◌, ◌++◌, ◌<◌, ℕ, List, length, take, drop, ap, sym, subst}
use Rattle.std.proofs.Math.Seq.{take-append_seam}
use Rattle.std.proofs.lemmas.List.{length-map}
use Rattle.fixed_machine.specs.declared.register.Register.{Register}
use Rattle.fixed_machine.specs.Machine.{Cell}
use Rattle.fixed_machine.specs.Step.{cell_of, cells_of}

pub put_back : {A : Type 0} (count : ℕ) (new items : List A) → length new ≡ count → take count (new ++ drop (length new) items) ≡ new
put_back count new items same = ap (λ (n : ℕ). take n (new ++ drop (length new) items)) (sym same) ∙ take-append_seam new (drop (length new) items)

pub in_lent : (r : ℕ) (lent : List Register) (cells : List Cell) → cells_of lent ≡ cells → r < length cells → r < length lent
in_lent r lent cells same h = subst (λ (n : ℕ). r < n) (sym (ap length same) ∙ length-map lent cell_of) h
