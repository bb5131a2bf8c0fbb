-- The text of a header, and of a line, as a piece.
use Rattle.std.specs.Option.{option_and_then}
use Rattle.std.proofs.Common.{◌≡◌, Some, refl, ap, ◌∙◌}
use Rattle.fixed_text.proofs.Ended.{body_ended}
use Rattle.fixed_script.specs.Text.{ScriptHeader, header_text, ScriptLine, IsLine, line_text}
use Rattle.fixed_script.specs.Lines.{line_of, header_of, header_of_piece, line_of_piece}
use Rattle.fixed_machine.specs.Answers.{ended}
use Rattle.fixed_script.proofs.TextsRead.{reads_lines, reads_headers}

pub line_read : (l : ScriptLine) → IsLine l → line_of_piece (ended (line_text l)) ≡ Some l
unfolding line_of_piece
line_read l is = ap (λ o. option_and_then line_of o) (body_ended (line_text l)) ∙ (reads_lines (line_text l) l).1 (is, refl)

pub header_read : (h : ScriptHeader) → header_of_piece (ended (header_text h)) ≡ Some h
unfolding header_of_piece
header_read h = ap (λ o. option_and_then header_of o) (body_ended (header_text h)) ∙ (reads_headers (header_text h) h).1 refl
