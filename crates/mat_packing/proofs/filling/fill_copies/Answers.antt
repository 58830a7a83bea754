use Rattle.mat_packing.proofs.Common.{◌≡◌, ◌∙◌, All, length, map, ap, arith, subst, sym, all_below, IsFilled}
use Rattle.std.proofs.lemmas.Result.{IfOk-weaker}
use Rattle.mat_packing.proofs.CopyLists.{common, copies_filled, joined, no_copies, start_parts}
use Rattle.mat_packing.proofs.filling.fill_copies.Goals as goal

pub fill_parts-requires-clause-sound : goal.fill_parts-requires-clause-sound
fill_parts-requires-clause-sound g c κs within =
    let refs = c.deref.result.now in
    let long : length refs ≡ c.args.count = ap length c.deref.ensures.value ∙ c.in_ok-copies.ensures.long in
    let all : All (λ r. r.now ≡ c.args.m.now) refs = subst (All (λ r. r.now ≡ c.args.m.now)) (sym c.deref.ensures.value) c.in_ok-copies.ensures.same in
    let other = c.if-count-eq0.false in
    let fits = c.ranges.count.fits in
    joined (λ r. r.now) c.args.m.now g.M.Matroid.ground_size g.M.Matroid.sound c.requires.sound refs all (omega arith) (omega arith)

pub fill_parts-requires-clause-parts : goal.fill_parts-requires-clause-parts
fill_parts-requires-clause-parts g c κs within =
    let refs = c.deref.result.now in
    let long : length refs ≡ c.args.count = ap length c.deref.ensures.value ∙ c.in_ok-copies.ensures.long in
    let all : All (λ r. r.now ≡ c.args.m.now) refs = subst (All (λ r. r.now ≡ c.args.m.now)) (sym c.deref.ensures.value) c.in_ok-copies.ensures.same in
    start_parts (λ r. r.now) c.args.m.now g.M.Matroid.indep refs all c.in_ok-parts.parts (c.in_ok-parts.ensures.long ∙ sym long) c.in_ok-parts.ensures.disjoint c.in_ok-parts.ensures.passes

pub returns-then-count-eq0 : goal.returns-then-count-eq0
returns-then-count-eq0 g c = no_copies (g.M.Matroid.ground_size c.args.m.now) (g.M.Matroid.indep c.args.m.now) c.args.count c.in_ok-parts.parts c.in_ok-cut.cut c.if-count-eq0.true c.in_ok-parts.ensures.long
    (c.in_ok-cut.ensures.members ∙ ap all_below c.size-n.ensures)

pub returns : goal.returns
returns g c =
    let refs = c.deref.result.now in
    let long : length refs ≡ c.args.count = ap length c.deref.ensures.value ∙ c.in_ok-copies.ensures.long in
    let all : All (λ r. r.now ≡ c.args.m.now) refs = subst (All (λ r. r.now ≡ c.args.m.now)) (sym c.deref.ensures.value) c.in_ok-copies.ensures.same in
    let other = c.if-count-eq0.false in
    let size = common (λ r. r.now) c.args.m.now g.M.Matroid.ground_size refs all (omega arith) in
    IfOk-weaker c.fill_parts.result _ _ (λ f h. copies_filled (λ r. r.now) c.args.m.now g.M.Matroid.indep refs all c.args.count long
    (subst (λ n. IsFilled n (map (λ r. g.M.Matroid.indep r.now) refs) c.in_ok-parts.parts f.parts f.cut) size h)) c.fill_parts.ensures
