use Rattle.mat_top.proofs.Common.{◌≡◌, ◌++◌, ◌∷◌, ◌∙◌, [], codes, pos, append_assoc, arith, rules, text_of, numeral, members_line}
use Rattle.mat_words.proofs.WrittenLines.{item_written, line_written}
use Rattle.mat_top.proofs.cut_lines.put_cut_line.Goals as goal

pub returns : goal.returns
returns c =
    let members = c.as_slice-members.result.now in
    let weight = numeral c.args.cut.now.weight in
    let written : c.push.new.self.items ≡ c.args.out.now.items ++ (codes "cut " ++ text_of (members_line weight members ∷ [])) =
    line_written (λ v. numeral (pos v)) (c.args.out.now.items ++ codes "cut ") weight members
    c.loop-v.v-index c.loop-v.out.items _ (omega arith) c.loop-v.invariant (search rules)
    ∙ append_assoc c.args.out.now.items (codes "cut ") (text_of (members_line weight members ∷ [])) in
    rw c.as_slice-members.ensures.items at written

pub loop-v-preserved : goal.loop-v-preserved
loop-v-preserved c =
    let start = (c.args.out.now.items ++ codes "cut ") ++ numeral c.args.cut.now.weight in
    item_written (λ v. 32 ∷ numeral (pos v)) start c.as_slice-members.result.now c.loop-v.v-index 0 c.loop-v.out.items _
    (omega arith) c.loop-v.invariant (search rules)
