use Rattle.std.proofs.Common.{map, ◌∙◌, sym, ap, arith}
use Rattle.std.specs.Option.{option_map}
use Rattle.std.proofs.lemmas.List.{length-map}
use Rattle.fixed_block.proofs.Fronts.{each_here, each_long, ends, goes_on, stops, written}
use Rattle.fixed_block.proofs.each.checked_singly.Goals as goal

pub returns-in-None-clause-place : goal.returns-in-None-clause-place
returns-in-None-clause-place g c =
    let value = g.T.Valued.value in
    let exact = g.O.Each.exact c.args.operation.now in
    let x = c.index-block-at.result in
    let old = c.args.block.now in
    let now = c.loop-at.block in
    let row = each_here value exact (map exact (map value old)) old now c.loop-at.at x c.index-block-at.is c.loop-at.invariant.front (each_long value exact old) (omega arith) in
    (stops g.T.RawWord.SIGNED g.T.Valued.BITS (map exact (map value old)) (map value old) (map value now) c.loop-at.at (value x) (exact (value x)) c.loop-at.invariant.front c.loop-at.invariant.fit row.0 row.1 (ap (option_map value) (sym c.in-None.is) ∙ c.checked_of.ensures (exact (value x)) c.outcome.ensures)).0

pub returns-in-None-clause-block : goal.returns-in-None-clause-block
returns-in-None-clause-block g c =
    let value = g.T.Valued.value in
    let exact = g.O.Each.exact c.args.operation.now in
    let x = c.index-block-at.result in
    let old = c.args.block.now in
    let now = c.loop-at.block in
    let row = each_here value exact (map exact (map value old)) old now c.loop-at.at x c.index-block-at.is c.loop-at.invariant.front (each_long value exact old) (omega arith) in
    (stops g.T.RawWord.SIGNED g.T.Valued.BITS (map exact (map value old)) (map value old) (map value now) c.loop-at.at (value x) (exact (value x)) c.loop-at.invariant.front c.loop-at.invariant.fit row.0 row.1 (ap (option_map value) (sym c.in-None.is) ∙ c.checked_of.ensures (exact (value x)) c.outcome.ensures)).1

pub loop-at-preserved : goal.loop-at-preserved
loop-at-preserved g c =
    let value = g.T.Valued.value in
    let exact = g.O.Each.exact c.args.operation.now in
    let x = c.index-block-at.result in
    let old = c.args.block.now in
    let now = c.loop-at.block in
    let rows = map exact (map value old) in
    let row = each_here value exact rows old now c.loop-at.at x c.index-block-at.is c.loop-at.invariant.front (each_long value exact old) (omega arith) in
    let on = goes_on g.T.RawWord.SIGNED g.T.Valued.BITS rows c.loop-at.at (value x) (exact (value x)) (value c.in-Some.number) c.loop-at.invariant.fit row.0 row.1 (ap (option_map value) (sym c.in-Some.is) ∙ c.checked_of.ensures (exact (value x)) c.outcome.ensures) in
    record {
      front = written value rows old now c.loop-at.at x c.in-Some.number c.loop-at.invariant.front (each_long value exact old) (omega arith) on.1;
      fit = on.0;
    }

pub returns-clause-place : goal.returns-clause-place
returns-clause-place g c =
    let value = g.T.Valued.value in
    let exact = g.O.Each.exact c.args.operation.now in
    let old = c.args.block.now in
    let rows = map exact (map value old) in
    (ends g.T.RawWord.SIGNED g.T.Valued.BITS rows (map value old) (map value c.loop-at.block) c.loop-at.at c.loop-at.invariant.front c.loop-at.invariant.fit (omega (arith, each_long value exact old, length-map old value))).0

pub returns-clause-block : goal.returns-clause-block
returns-clause-block g c =
    let value = g.T.Valued.value in
    let exact = g.O.Each.exact c.args.operation.now in
    let old = c.args.block.now in
    let rows = map exact (map value old) in
    (ends g.T.RawWord.SIGNED g.T.Valued.BITS rows (map value old) (map value c.loop-at.block) c.loop-at.at c.loop-at.invariant.front c.loop-at.invariant.fit (omega (arith, each_long value exact old, length-map old value))).1
