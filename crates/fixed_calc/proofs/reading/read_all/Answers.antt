use Rattle.std.proofs.Common.{◌≡◌, ◌<◌, ◌+◌, ℕ, Ok, suc, length, take, refl, ap, subst, arith, rules, length-append, length-take}
use Rattle.std.proofs.lemmas.Grind.{common_steps}
use Rattle.fixed_calc.specs.Calls.{buffer_size}
use Rattle.fixed_calc.proofs.reading.read_all.Goals as goal

pub reading-preserved : goal.reading-preserved
reading-preserved g c =
    let script = c.reading.script.items in
    let count = c.in-Ok-read.count in
    let some : 0 < count = omega (arith, c.if-count-eq0.false) in
    let room : length c.reading.buffer ≡ buffer_size = search rules in
    let gives = subst (λ (n : ℕ). g.S.Source.read_gives c.reading.source n (Ok count) c.read.new.self) room c.in-Ok-read.ensures.gives in
    let longer : length c.extend_from_slice.new.self.items ≡ length script + count = omega (arith, ap length c.in-Ok-extend_from_slice.ensures.items, length-append script (take count c.read.new.buf), length-take count c.read.new.buf, c.in-Ok-read.ensures.within) in
    record {
      within = search rules;
      taken = grind (arith, common_steps);
      faults = search rules;
      reads = (suc c.reading.invariant.reads.0, (length script, count, c.reading.source, c.reading.invariant.reads.1, some, longer, gives));
    }

pub returns-in-Err-extend_from_slice-clause-reads : goal.returns-in-Err-extend_from_slice-clause-reads
returns-in-Err-extend_from_slice-clause-reads g c =
    let before = length c.reading.script.items in
    let count = c.in-Ok-read.count in
    let some : 0 < count = omega (arith, c.if-count-eq0.false) in
    let room : length c.reading.buffer ≡ buffer_size = search rules in
    let gives = subst (λ (n : ℕ). g.S.Source.read_gives c.reading.source n (Ok count) c.read.new.self) room c.in-Ok-read.ensures.gives in
    (suc c.reading.invariant.reads.0, before + count, (before, count, c.reading.source, c.reading.invariant.reads.1, some, refl, gives), omega (arith, c.if-count-len.false, c.reading.invariant.within, c.len.ensures))
