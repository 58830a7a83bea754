use Rattle.mat_packing.proofs.Common.{◌≡◌, ◌-◌, ◌/◌, ◌<◌, ℕ, arith, length, all_below, minus, length-complement, IsSet-length, rank, IsRoom}
use Rattle.mat_packing.proofs.BaseCounts.{room_of}
use Rattle.mat_packing.proofs.packing.bases_allowed.Goals as goal

pub overflow_cast-outside : goal.overflow_cast-outside
overflow_cast-outside g c = let m = IsSet-length _ _ c.requires.set in let fits = c.size-n.type_inv in let n = c.size-n.ensures in let l = c.len.ensures.count in omega arith

pub overflow_sub-outside : goal.overflow_sub-outside
overflow_sub-outside g c = let m = IsSet-length _ _ c.requires.set in let fits = c.size-n.type_inv in let n = c.size-n.ensures in let l = c.len.ensures.count in omega arith

pub returns : goal.returns
returns g c =
    let n = g.M.Matroid.ground_size c.args.m.now in
    let cut = c.args.cut.now in
    let outside : length (minus (all_below n) cut) ≡ c.size-n.result - c.len.result = (let a = length-complement n cut c.requires.set.rising c.requires.set.below in let b = c.size-n.ensures in let d = c.len.ensures.count in omega arith) in
    let need : c.args.base_size - rank (g.M.Matroid.indep c.args.m.now) cut ≡ c.args.base_size - c.in_ok-within.within = (let e = c.in_ok-within.ensures.rank in omega arith) in
    let some : 0 < c.args.base_size - c.in_ok-within.within = (let l = c.requires.less in let e = c.in_ok-within.ensures.rank in omega arith) in
    two (length (minus (all_below n) cut)) (c.size-n.result - c.len.result) (c.args.base_size - rank (g.M.Matroid.indep c.args.m.now) cut) (c.args.base_size - c.in_ok-within.within) outside need some
  where
    two : (a b d e : ℕ) → a ≡ b → d ≡ e → 0 < e → IsRoom a d (b / e)
    two a b d e f h s = rw (f, h) (room_of b e s)
