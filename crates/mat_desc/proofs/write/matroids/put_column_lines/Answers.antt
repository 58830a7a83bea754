use Rattle.mat_desc.proofs.Common.{arith, column_line}
use Rattle.mat_desc.proofs.Writing.{lines_written}
use Rattle.mat_desc.proofs.write.matroids.put_column_lines.Goals as goal

pub returns : goal.returns
returns c = lines_written (column_line c.args.dim) c.args.out.now.items c.args.columns.now c.loop-column.column-index c.loop-column.out.items
    (omega arith) c.loop-column.invariant
