use Rattle.fixed_script.proofs.TextsRead.{reads_lines, reads_headers}
use Rattle.fixed_script.proofs.laws.reading_law.Goals as goal

pub returns : goal.returns
returns c = record { lines = reads_lines; headers = reads_headers }
