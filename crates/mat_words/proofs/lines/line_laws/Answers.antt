use Rattle.mat_words.proofs.LineLemmas.{first_line, cut_or_last, written_lines, one_text}
use Rattle.mat_words.proofs.lines.line_laws.Goals as goal

pub returns : goal.returns
returns c = record { first = first_line; cut = cut_or_last; written = written_lines; one_text = one_text }
