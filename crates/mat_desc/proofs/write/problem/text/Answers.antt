use Rattle.mat_desc.proofs.Common.{rules, instance_of, written_notation}
use Rattle.mat_desc.proofs.Writing.{problem_written}
use Rattle.mat_desc.proofs.write.problem.text.Goals as goal

pub returns : goal.returns
returns c =
    problem_written (written_notation c.args.lists) (instance_of c.args.problem.now) c.put_version_line.new.out.items c.put_header.new.out.items
    c.put_name_lines.new.out.items c.put_body.new.out.items _ (search rules) c.in_ok-put_header.ensures c.in_ok-put_name_lines.ensures
    c.in_ok-put_body.ensures (search rules)
