-- The tokens so far are decimals, so it rests with those to come.
use Rattle.std.proofs.Common.{◌≡◌, length}
use Rattle.fixed_text.specs.Tokens.{tokens_of}
use Rattle.fixed_script.specs.Headers.{all_decimal}
use Rattle.fixed_script.proofs.header.all_decimal.Given as goal

abbrev pub invariant-loop-token : goal.invariant-loop-token
invariant-loop-token l = all_decimal l.tokens ≡ all_decimal (tokens_of l.bytes)

abbrev pub decreases-loop-token : goal.decreases-loop-token
decreases-loop-token l = length l.tokens
