use Rattle.mat_laws.proofs.laws.heaviest_by_the_mains.Goals as goal

pub returns : goal.returns
returns c = λ p w X best Y in_p size. (best.most Y in_p size).0
