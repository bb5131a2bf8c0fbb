use Rattle.std.specs.List.{repeat}
use Rattle.std.specs.Char.{encode_utf8}
use Rattle.std.specs.Fmt.{HasWrittenStyled, IsFlush}
use Rattle.fixed_decimal.proofs.layout.write_repeated.Given as goal

abbrev pub invariant-loop : goal.invariant-loop
invariant-loop g l = IsFlush l.fn.f → HasWrittenStyled g.W.Write.write_str_gives l.fn.f (repeat l.counter (encode_utf8 l.sign)) l.f
