-- Headers, as the code holds them.
use Rattle.fixed_digits.specs.Numerals.{cap}
use Rattle.fixed_filter.specs.declared.header.FilterHeader.{FilterHeader as CappedHeader}
use Rattle.fixed_filter.specs.Text.{FilterHeader}

abbrev pub capped_header : FilterHeader → CappedHeader
capped_header h = record { word = h.word; out = cap h.out; coef = cap h.coef; sample = cap h.sample }
