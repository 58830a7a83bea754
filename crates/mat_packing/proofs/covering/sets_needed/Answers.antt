use Rattle.mat_packing.proofs.Common.{◌≡◌, ◌+◌, ◌-◌, ◌/◌, ◌<◌, ℕ, arith, length, sym, IsSet-length, rank, IsEnough}
use Rattle.mat_packing.proofs.CoverCounts.{enough_of, some_rank}
use Rattle.mat_packing.proofs.covering.sets_needed.Goals as goal

pub prove-unreachable-requires : goal.prove-unreachable-requires
prove-unreachable-requires g c =
    let most = IsSet-length (g.M.Matroid.ground_size c.args.m.now) c.args.set.now c.requires.set in
    let n = c.size-most.ensures in
    let l = c.len-members.ensures.count in
    let more = c.if-prove.true in
    omega arith

pub nonzero_div-result : goal.nonzero_div-result
nonzero_div-result g c =
    let e = c.in_ok-each.ensures.rank in
    let some = some_rank c.lawful.ensures c.requires.alone c.args.set.now c.requires.set c.requires.some in
    omega arith

pub returns : goal.returns
returns g c =
    let set = c.args.set.now in
    let some = some_rank c.lawful.ensures c.requires.alone set c.requires.set c.requires.some in
    two (length set) c.len-members.result (rank (g.M.Matroid.indep c.args.m.now) set) c.in_ok-each.each (sym c.len-members.ensures.count) (sym c.in_ok-each.ensures.rank) c.requires.some some
  where
    two : (a b d e : ℕ) → a ≡ b → d ≡ e → 0 < a → 0 < d → IsEnough a d ((b - 1) / e + 1)
    two a b d e f h s t = rw (sym f, sym h) (enough_of a d s t)
