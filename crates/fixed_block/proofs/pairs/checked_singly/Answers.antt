use Rattle.std.proofs.Common.{map, ◌∙◌, sym, ap, arith}
use Rattle.std.specs.Option.{option_map}
use Rattle.std.proofs.lemmas.List.{length-map}
use Rattle.fixed_block.specs.Blocks.{of_pairs}
use Rattle.fixed_block.proofs.Fronts.{ends, goes_on, pair_here, pairs_long, stops, written}
use Rattle.fixed_block.proofs.pairs.checked_singly.Goals as goal

pub returns-in-None-clause-place : goal.returns-in-None-clause-place
returns-in-None-clause-place g c =
    let value = g.T.Valued.value in
    let exact = g.O.Pairs.exact c.args.operation.now in
    let x = c.index-block-at.result in
    let o = c.index-others-at.result in
    let old = c.args.block.now in
    let others = c.args.others.now in
    let now = c.loop-at.block in
    let row = pair_here value exact (of_pairs exact (map value old) (map value others)) old others now c.loop-at.at x o c.requires.lengths c.index-block-at.is c.index-others-at.is c.loop-at.invariant.front (pairs_long value exact old others c.requires.lengths) (omega arith) in
    (stops g.T.RawWord.SIGNED g.T.Valued.BITS (of_pairs exact (map value old) (map value others)) (map value old) (map value now) c.loop-at.at (value x) (exact (value x) (value o)) c.loop-at.invariant.front c.loop-at.invariant.fit row.0 row.1 (ap (option_map value) (sym c.in-None.is) ∙ c.checked_of.ensures (exact (value x) (value o)) c.outcome.ensures)).0

pub returns-in-None-clause-block : goal.returns-in-None-clause-block
returns-in-None-clause-block g c =
    let value = g.T.Valued.value in
    let exact = g.O.Pairs.exact c.args.operation.now in
    let x = c.index-block-at.result in
    let o = c.index-others-at.result in
    let old = c.args.block.now in
    let others = c.args.others.now in
    let now = c.loop-at.block in
    let row = pair_here value exact (of_pairs exact (map value old) (map value others)) old others now c.loop-at.at x o c.requires.lengths c.index-block-at.is c.index-others-at.is c.loop-at.invariant.front (pairs_long value exact old others c.requires.lengths) (omega arith) in
    (stops g.T.RawWord.SIGNED g.T.Valued.BITS (of_pairs exact (map value old) (map value others)) (map value old) (map value now) c.loop-at.at (value x) (exact (value x) (value o)) c.loop-at.invariant.front c.loop-at.invariant.fit row.0 row.1 (ap (option_map value) (sym c.in-None.is) ∙ c.checked_of.ensures (exact (value x) (value o)) c.outcome.ensures)).1

pub loop-at-preserved : goal.loop-at-preserved
loop-at-preserved g c =
    let value = g.T.Valued.value in
    let exact = g.O.Pairs.exact c.args.operation.now in
    let x = c.index-block-at.result in
    let o = c.index-others-at.result in
    let old = c.args.block.now in
    let others = c.args.others.now in
    let now = c.loop-at.block in
    let rows = of_pairs exact (map value old) (map value others) in
    let row = pair_here value exact rows old others now c.loop-at.at x o c.requires.lengths c.index-block-at.is c.index-others-at.is c.loop-at.invariant.front (pairs_long value exact old others c.requires.lengths) (omega arith) in
    let on = goes_on g.T.RawWord.SIGNED g.T.Valued.BITS rows c.loop-at.at (value x) (exact (value x) (value o)) (value c.in-Some.number) c.loop-at.invariant.fit row.0 row.1 (ap (option_map value) (sym c.in-Some.is) ∙ c.checked_of.ensures (exact (value x) (value o)) c.outcome.ensures) in
    record {
      front = written value rows old now c.loop-at.at x c.in-Some.number c.loop-at.invariant.front (pairs_long value exact old others c.requires.lengths) (omega arith) on.1;
      fit = on.0;
    }

pub returns-clause-place : goal.returns-clause-place
returns-clause-place g c =
    let value = g.T.Valued.value in
    let exact = g.O.Pairs.exact c.args.operation.now in
    let old = c.args.block.now in
    let others = c.args.others.now in
    let rows = of_pairs exact (map value old) (map value others) in
    (ends g.T.RawWord.SIGNED g.T.Valued.BITS rows (map value old) (map value c.loop-at.block) c.loop-at.at c.loop-at.invariant.front c.loop-at.invariant.fit (omega (arith, pairs_long value exact old others c.requires.lengths, length-map old value))).0

pub returns-clause-block : goal.returns-clause-block
returns-clause-block g c =
    let value = g.T.Valued.value in
    let exact = g.O.Pairs.exact c.args.operation.now in
    let old = c.args.block.now in
    let others = c.args.others.now in
    let rows = of_pairs exact (map value old) (map value others) in
    (ends g.T.RawWord.SIGNED g.T.Valued.BITS rows (map value old) (map value c.loop-at.block) c.loop-at.at c.loop-at.invariant.front c.loop-at.invariant.fit (omega (arith, pairs_long value exact old others c.requires.lengths, length-map old value))).1
