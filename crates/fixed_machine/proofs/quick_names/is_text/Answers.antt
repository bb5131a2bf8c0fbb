use Rattle.std.proofs.Common.{◌-◌, ◌∙◌, drop, refl, sym, arith}
use Rattle.fixed_machine.proofs.QuickText.{joined, text_stands}
use Rattle.fixed_machine.proofs.quick_names.is_text.Goals as goal
use Rattle.fixed_machine.proofs.quick_names.is_text.Goals.{then-is_eight-2, else-is_eight-2}

pub returns-then-is_four : goal.returns-then-is_four
returns-then-is_four g c last =
    text_stands c.args.bytes.now c.args.text.now c.args.at g.row.N 4 (g.row.N - 4) 4 c.told-text (omega arith) (omega arith) (c.if-is_four.ensures refl) (c.is_four-then-is_four.ensures last)

pub returns-then-is_eight : goal.returns-then-is_eight
returns-then-is_eight g c last =
    text_stands c.args.bytes.now c.args.text.now c.args.at g.row.N 8 (g.row.N - 8) 8 c.told-text (omega arith) (omega arith) (c.if-is_eight.ensures refl) (c.is_eight-then-is_eight.ensures last)

pub returns-then-is_eight-3 : goal.returns-then-is_eight-3
returns-then-is_eight-3 g c last =
    let text = c.args.text.now in
    let bytes = c.args.bytes.now in
    elim c.if-is_eight-2.branch [
      | then-is_eight-2 w ↦
          let front = joined (drop c.args.at bytes) text 8 8 8 (omega arith) (w.if-is_eight-2.ensures refl) (w.is_eight-then-is_eight-2.ensures (sym w.value-is ∙ c.if-is_eight-3.true)) in
          text_stands bytes text c.args.at g.row.N 16 (g.row.N - 8) 8 c.told-text (omega arith) (omega arith) front (c.is_eight-then-is_eight-3.ensures last)
      | else-is_eight-2 w ↦ absurd (grind (arith, w.value-is, c.if-is_eight-3.true))
    ]
