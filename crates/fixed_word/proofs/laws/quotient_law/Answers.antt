use Rattle.fixed_word.proofs.QuotientLaws.{euclidean_is, floor_quotient_is, floor_quotient_unique, truncated_quotient_is}
use Rattle.fixed_word.proofs.laws.quotient_law.Goals as goal

pub returns : goal.returns
returns c = record {
  floor = floor_quotient_is;
  floor_unique = floor_quotient_unique;
  trunc = truncated_quotient_is;
  euclid = euclidean_is;
}
