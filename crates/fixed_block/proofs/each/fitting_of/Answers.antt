use Rattle.std.proofs.Common.{rules, ◌≡◌, ◌+◌, ◌≤◌, map, drop, length, true, arith}
use Rattle.std.specs.List.{list_all, slice_range}
use Rattle.std.proofs.lemmas.List.{length-map}
use Rattle.fixed_word.specs.Format.{fits}
use Rattle.fixed_block.proofs.Tested.{each_split, more_passed}
use Rattle.fixed_block.proofs.each.fitting_of.Goals as goal

pub loop-at-preserved : goal.loop-at-preserved
loop-at-preserved g c =
    let s = g.T.RawWord.SIGNED in
    let n = g.T.Valued.BITS in
    let value = g.T.Valued.value in
    let exact = g.O.Each.exact c.args.operation.now in
    let block = c.args.block.now in
    let i = c.loop-at.at in
    let within : i + 64 ≤ length block = search rules in
    let front = map exact (map value (slice_range block i (i + 64))) in
    let long : length front ≡ 64 = search (rules, length-map) in
    let all : list_all (fits s n) front ≡ true = search rules in
    record {
      within = within;
      split = more_passed (fits s n) (map exact (map value block)) (map exact (map value (drop i block))) front _ i 64 c.loop-at.invariant.split (each_split value exact block i (i + 64) (omega arith)) long all;
    }
