use Rattle.std.proofs.Common.{◌≡◌, ◌+◌, ◌-◌, ◌^◌, ◌<◌, ◌≤◌, ◌++◌, drop, length}
use Rattle.std.specs.Fmt.{digits}
use Rattle.fixed_radix.proofs.Shown.{before}
use Rattle.fixed_radix.proofs.digits.put_whole.Given as goal

abbrev pub invariant-loop-rest : goal.invariant-loop-rest
invariant-loop-rest l =
    record {
      long : length l.buffer ≡ length l.fn.buffer;
      below : l.at < l.end;
      room : l.end ≤ l.at + 64;
      small : l.rest < 2 ^ (l.at + 64 - l.end);
      shown : digits (2 ^ l.bits) l.upper l.number ++ drop l.end l.fn.buffer ≡ before (l.at + 64 - l.end) (2 ^ l.bits) l.upper l.rest (drop l.at l.buffer);
    }

abbrev pub decreases-loop-rest : goal.decreases-loop-rest
decreases-loop-rest l = l.at
