use Rattle.fixed_num.proofs.StrictRows.{strict_row, strict_side}
use Rattle.fixed_num.proofs.from_decimal.FixedFromDecimal.strict_from_str_round.Goals as goal

pub strict_of-requires : goal.strict_of-requires
strict_of-requires g c = strict_side g.T.Valued.value g.T.RawWord.SIGNED g.T.Valued.BITS c.args.text.now c.as_bytes.result.now g.row.F c.args.rounding c.in-Ok.outcome c.as_bytes.ensures.value c.in-Ok.ensures c.requires.fits

pub returns-in-Ok : goal.returns-in-Ok
returns-in-Ok g c = strict_row g.T.Valued.value g.T.RawWord.SIGNED g.T.Valued.BITS c.args.text.now c.as_bytes.result.now g.row.F c.args.rounding c.in-Ok.outcome (g.T.Valued.value c.strict_of.result) c.as_bytes.ensures.value c.in-Ok.ensures c.strict_of.ensures
