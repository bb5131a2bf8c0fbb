use Rattle.fixed_script.proofs.OneText.{one_whole, one_line, one_header}
use Rattle.fixed_text.proofs.Cutting.{pieces_joined}
use Rattle.fixed_script.proofs.laws.text_law.Goals as goal

pub returns : goal.returns
returns c = record { numbers = one_whole; lines = one_line; headers = one_header; pieces = pieces_joined }
