use Rattle.mat_cuts.proofs.Common.{refl, false≢true}
use Rattle.std.proofs.lemmas.Result.{IfOk-weaker}
use Rattle.mat_cuts.proofs.checking.is_unreached.Goals as goal

pub returns-then-not-is_root_free : goal.returns-then-not-is_root_free
returns-then-not-is_root_free c = (
  λ right. absurd (false≢true right),
  λ unreached. (c.if-not-is_root_free.ensures c.args.vertices c.requires.below).1 unreached.root_free,
)

pub returns : goal.returns
returns c = IfOk-weaker c.no_arc_enters.result _ _ (λ none told. (
  λ right. record { root_free = (c.if-not-is_root_free.ensures c.args.vertices c.requires.below).0 refl; none = told.0 right },
  λ unreached. told.1 unreached.none,
)) c.no_arc_enters.ensures
