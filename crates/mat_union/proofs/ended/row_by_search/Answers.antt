use Rattle.mat_union.proofs.Common.{◌∙◌, ◌||◌, ap, refl, is_member}
use Rattle.mat_union.proofs.SearchEnds.{entered_row, stuck_row}
use Rattle.mat_union.proofs.ended.row_by_search.Goals as goal

pub returns-then-search-clause-row : goal.returns-then-search-clause-row
returns-then-search-clause-row c = λ n tests parts x same e. entered_row e c.if-search.true _ same _ refl c.in_ok-copy.ensures.equal

pub returns-clause-row : goal.returns-clause-row
returns-clause-row c = λ n tests parts x same e. stuck_row e c.if-search.false c.insert_all.new.set
    (λ v. c.in_ok-insert_all.ensures v ∙ ap (λ s. is_member v s || is_member v c.reached.result.now) c.new-reached.ensures ∙ ap (is_member v) c.reached.ensures)
    _ same _ refl c.in_ok-among.ensures.members
