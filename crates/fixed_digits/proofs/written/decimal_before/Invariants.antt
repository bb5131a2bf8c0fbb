use Rattle.std.proofs.Common.{◌≡◌, ◌≤◌, ◌++◌, length, drop}
use Rattle.fixed_word.specs.Decimal.{natural_text}
use Rattle.fixed_digits.proofs.written.decimal_before.Given as goal

-- the digits so far stand behind those of the rest
abbrev pub invariant-loop-rest : goal.invariant-loop-rest
invariant-loop-rest l =
    record {
      digits : natural_text l.number ++ drop l.end l.fn.buffer ≡ natural_text l.rest ++ drop l.at l.buffer;
      room : length (natural_text l.rest) ≤ l.at;
      within : l.at ≤ l.end;
    }

abbrev pub decreases-loop-rest : goal.decreases-loop-rest
decreases-loop-rest l = l.rest
