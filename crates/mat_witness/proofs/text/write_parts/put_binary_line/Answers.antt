use Rattle.mat_witness.proofs.Common.{◌∙◌, rules, binary}
use Rattle.mat_witness.proofs.PartTexts.{word_line_written}
use Rattle.mat_witness.proofs.text.write_parts.put_binary_line.Goals as goal

pub returns : goal.returns
returns c = (search rules) ∙ word_line_written c.args.out.now.items c.args.keyword.now (binary c.args.digits c.args.number)
