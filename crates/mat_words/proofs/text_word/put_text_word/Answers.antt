use Rattle.mat_words.proofs.Common.{on_err_weaker}
use Rattle.mat_words.proofs.WrittenLines.{front_unchanged}
use Rattle.mat_words.proofs.text_word.put_text_word.Goals as goal

pub returns-in-Number-clause-err : goal.returns-in-Number-clause-err
returns-in-Number-clause-err c =
    on_err_weaker c.put_number_word.result (front_unchanged c.args.out.now.items c.put_number_word.new.out.items) c.put_number_word.ensures.err

pub returns-in-Weight-clause-err : goal.returns-in-Weight-clause-err
returns-in-Weight-clause-err c =
    on_err_weaker c.put_weight_word.result (front_unchanged c.args.out.now.items c.put_weight_word.new.out.items) c.put_weight_word.ensures.err
