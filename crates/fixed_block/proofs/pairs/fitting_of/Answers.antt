use Rattle.std.proofs.Common.{rules, ◌≡◌, ◌+◌, ◌≤◌, map, drop, length, true, arith}
use Rattle.std.specs.List.{list_all, slice_range}
use Rattle.std.proofs.lemmas.List.{length-map}
use Rattle.fixed_word.specs.Format.{fits}
use Rattle.fixed_block.specs.Blocks.{of_pairs}
use Rattle.fixed_block.proofs.Fronts.{pairs_long}
use Rattle.fixed_block.proofs.Tested.{more_passed, pairs_split}
use Rattle.fixed_block.proofs.pairs.fitting_of.Goals as goal

pub loop-at-preserved : goal.loop-at-preserved
loop-at-preserved g c =
    let s = g.T.RawWord.SIGNED in
    let n = g.T.Valued.BITS in
    let value = g.T.Valued.value in
    let exact = g.O.Pairs.exact c.args.operation.now in
    let block = c.args.block.now in
    let others = c.args.others.now in
    let i = c.loop-at.at in
    let within : i + 64 ≤ length block = search rules in
    let first : length (slice_range block i (i + 64)) ≡ 64 = search rules in
    let second : length (slice_range others i (i + 64)) ≡ 64 = search rules in
    let same : length (slice_range block i (i + 64)) ≡ length (slice_range others i (i + 64)) = omega (arith, first, second) in
    let front = of_pairs exact (map value (slice_range block i (i + 64))) (map value (slice_range others i (i + 64))) in
    let long : length front ≡ 64 = omega (arith, pairs_long value exact (slice_range block i (i + 64)) (slice_range others i (i + 64)) same, length-map (slice_range block i (i + 64)) value, first) in
    let all : list_all (fits s n) front ≡ true = search rules in
    record {
      within = within;
      split = more_passed (fits s n) (of_pairs exact (map value block) (map value others)) (of_pairs exact (map value (drop i block)) (map value (drop i others))) front _ i 64 c.loop-at.invariant.split (pairs_split value exact block others i (i + 64) (omega arith) same) long all;
    }
