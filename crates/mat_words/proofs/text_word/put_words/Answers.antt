use Rattle.mat_words.proofs.Common.{◌∷◌, take, arith, err_from_is_err_and, text_word}
use Rattle.std.specs.List.{flat_map}
use Rattle.mat_words.proofs.WrittenLines.{item_written, words_done, front_kept}
use Rattle.mat_words.proofs.text_word.put_words.Goals as goal

pub returns-clause-ok : goal.returns-clause-ok
returns-clause-ok c =
    words_done text_word c.args.out.now.items c.args.words.now c.loop-word.word-index c.loop-word.out.items (omega arith) c.loop-word.invariant

pub loop-word-preserved : goal.loop-word-preserved
loop-word-preserved c =
    item_written (λ word. 32 ∷ text_word word) c.args.out.now.items c.args.words.now c.loop-word.word-index _ c.loop-word.out.items _
    (omega arith) c.loop-word.invariant c.in_ok-put_text_word.ensures.ok

pub returns-in_err-put_text_word-clause-err : goal.returns-in_err-put_text_word-clause-err
returns-in_err-put_text_word-clause-err c =
    let p = err_from_is_err_and c.from_residual.result c.from_residual.ensures.1 in
    rw p.1 (front_kept c.args.out.now.items (flat_map (λ word. 32 ∷ text_word word) (take c.loop-word.word-index c.args.words.now))
    c.loop-word.out.items c.put_text_word.new.out.items c.loop-word.invariant c.in_err-put_text_word.ensures.err)
