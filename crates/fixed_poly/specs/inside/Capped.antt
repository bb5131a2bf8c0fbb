-- Headers, as the code holds them.
use Rattle.fixed_digits.specs.Numerals.{cap}
use Rattle.fixed_poly.specs.declared.header.PolyHeader.{PolyHeader as CappedHeader}
use Rattle.fixed_poly.specs.Text.{PolyHeader}

abbrev pub capped_header : PolyHeader → CappedHeader
capped_header h = record { word = h.word; frac = cap h.frac }
