use Rattle.std.proofs.Common.{rules, ◌≡◌, map, false, true, arith}
use Rattle.std.proofs.lemmas.List.{length-map}
use Rattle.fixed_word.specs.Format.{fits}
use Rattle.fixed_block.proofs.Fronts.{all_fit, each_long}
use Rattle.fixed_block.proofs.Tested.{each_at, passed_on, stopped}
use Rattle.fixed_block.proofs.each.fitting_singly.Goals as goal

pub returns-then-not-fits_of-clause-value : goal.returns-then-not-fits_of-clause-value
returns-then-not-fits_of-clause-value g c =
    let value = g.T.Valued.value in
    let exact = g.O.Each.exact c.args.operation.now in
    let x = c.index-block-at.result in
    let block = c.args.block.now in
    let miss : c.fits_of.result ≡ false = search rules in
    stopped (fits g.T.RawWord.SIGNED g.T.Valued.BITS) (map exact (map value block)) c.loop-at.at (value x) (exact (value x)) c.fits_of.result c.loop-at.invariant (each_at value exact block c.loop-at.at x c.index-block-at.is (omega arith)) (c.fits_of.ensures (exact (value x)) c.outcome.ensures) miss

pub loop-at-preserved : goal.loop-at-preserved
loop-at-preserved g c =
    let value = g.T.Valued.value in
    let exact = g.O.Each.exact c.args.operation.now in
    let x = c.index-block-at.result in
    let block = c.args.block.now in
    let hit : c.fits_of.result ≡ true = search rules in
    passed_on (fits g.T.RawWord.SIGNED g.T.Valued.BITS) (map exact (map value block)) c.loop-at.at (value x) (exact (value x)) c.fits_of.result c.loop-at.invariant (each_at value exact block c.loop-at.at x c.index-block-at.is (omega arith)) (c.fits_of.ensures (exact (value x)) c.outcome.ensures) hit

pub returns-clause-value : goal.returns-clause-value
returns-clause-value g c =
    let value = g.T.Valued.value in
    let exact = g.O.Each.exact c.args.operation.now in
    let block = c.args.block.now in
    let rows = map exact (map value block) in
    let long = each_long value exact block in
    let all = all_fit (fits g.T.RawWord.SIGNED g.T.Valued.BITS) rows c.loop-at.at c.loop-at.invariant (omega (arith, long, length-map block value)) in
    omega (arith, all, long, length-map block value)
