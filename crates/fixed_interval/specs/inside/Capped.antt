-- Headers and lines as the code represents them.
use Rattle.fixed_text.specs.Decimals.{decimal_of}
use Rattle.fixed_digits.specs.Numerals.{cap}
use Rattle.fixed_interval.specs.declared.header.IntervalHeader.{IntervalHeader as CappedHeader}
use Rattle.fixed_interval.specs.declared.line.Line.{Line}
use Rattle.fixed_interval.specs.declared.line.Request.{Request}
use Rattle.fixed_interval.specs.declared.line.Request.TheVariants.{Set, Two, Root}
use Rattle.fixed_interval.specs.Text.{IntervalHeader, IntervalRequest, IntervalLine, SetTo, OfTwo, RootOf}

abbrev pub capped_header : IntervalHeader → CappedHeader
capped_header h = record { word = h.word; frac = cap h.frac; count = cap h.count }

abbrev pub capped_request : IntervalRequest → Request
capped_request (SetTo low high) = Set (decimal_of low) (decimal_of high)
capped_request (OfTwo op a b) = Two op (cap a) (cap b)
capped_request (RootOf a) = Root (cap a)

abbrev pub capped_line : IntervalLine → Line
capped_line l = record { dest = cap l.dest; request = capped_request l.request }
