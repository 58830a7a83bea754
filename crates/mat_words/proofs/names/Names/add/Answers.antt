use Rattle.mat_words.proofs.Common.{ap, ◌∙◌}
use Rattle.mat_words.specs.Names.{bytes_of}
use Rattle.mat_words.proofs.NameLemmas.{kept_lawful, kept_with}
use Rattle.mat_words.proofs.names.Names.add.Goals as goal

pub invariant_of-self : goal.invariant_of-self
invariant_of-self c =
    let same = c.in_ok-name.ensures.items_if_clones_equal (λ x y e. e) in
    record {
      lawful =
          kept_lawful c.insert.result c.args.self.now.names.keys c.insert.new.self.keys c.in_ok-name.name c.args.word.now same
          c.insert.ensures.keys c.insert.ensures.err c.args.self.now.lawful c.requires.name c.requires.room;
    }

pub returns-clause-names : goal.returns-clause-names
returns-clause-names c =
    let same = c.in_ok-name.ensures.items_if_clones_equal (λ x y e. e) in
    ap bytes_of c.in_ok-insert.ensures.keys ∙ kept_with c.args.self.now.names.keys c.in_ok-name.name c.args.word.now same
