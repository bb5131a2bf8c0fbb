use Rattle.fixed_text.proofs.Readers.{natural_reader, whole_reader, numbered_reader, word_reader, joined_split}
use Rattle.fixed_text.proofs.Joined.{split_joined}
use Rattle.fixed_text.proofs.laws.reading_law.Goals as goal

pub returns : goal.returns
returns c = record { naturals = natural_reader; wholes = whole_reader; numbered = numbered_reader; words = word_reader; cut = joined_split; joined = split_joined }
