use Rattle.std.proofs.Common.{◌≡◌, take, true}
use Rattle.fixed_script.proofs.names.is_name.Given as goal

-- the bytes so far are those of the name
abbrev pub invariant-loop-at : goal.invariant-loop-at
invariant-loop-at l = l.same ≡ true → take l.at l.bytes ≡ take l.at l.name
