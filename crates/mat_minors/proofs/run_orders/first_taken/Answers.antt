use Rattle.mat_minors.proofs.Common.{◌<◌, ◌≤◌, length, get_or, if◌then◌else◌, refl, sym, ap, ◌∙◌, arith, with_one}
use Rattle.mat_minors.proofs.MinorRuns.{IsCapped-start, IsCapped-next, IsCapped-full, IsCapped-end}
use Rattle.mat_minors.proofs.run_orders.first_taken.Goals as goal
use Rattle.mat_minors.proofs.run_orders.first_taken.Goals.{then-contains+in_ok-add, else-contains}

pub loop-x-init : goal.loop-x-init
loop-x-init c = λ n p laws distinct run. rw c.new-set.ensures.members (IsCapped-start laws c.args.cap c.args.order.now distinct)

pub returns-then-len-cap : goal.returns-then-len-cap
returns-then-len-cap c = λ n p laws distinct run.
    let count = c.len.ensures.count in
    let full : c.args.cap ≤ length c.loop-x.set = (let test = c.if-len-cap.true in omega arith) in
    IsCapped-full laws c.args.cap c.args.order.now c.loop-x.set c.loop-x.x-index full (c.loop-x.invariant n p laws distinct run)

pub loop-x-preserved : goal.loop-x-preserved
loop-x-preserved c = λ n p laws distinct run.
    let count = c.len.ensures.count in
    let room : length c.loop-x.set < c.args.cap = (let test = c.if-len-cap.false in omega arith) in
    let found = c.contains.ensures.found in
    let x = get_or c.args.order.now c.loop-x.x-index 0 in
    let next = IsCapped-next laws c.args.cap c.args.order.now c.args.all.now c.loop-x.set c.loop-x.x-index x c.loop-x-test.true refl run room
    (c.loop-x.invariant n p laws distinct run) in
    elim c.if-contains.branch [
      | then-contains+in_ok-add w ↦ rw w.set-is (next _
          (w.in_ok-add.ensures.ok.1 ∙ sym (ap (λ b. if b then with_one c.loop-x.set x else c.loop-x.set) (sym found ∙ w.if-contains.true))))
      | else-contains w ↦ rw w.set-is (next _
          (sym (ap (λ b. if b then with_one c.loop-x.set x else c.loop-x.set) (sym found ∙ w.if-contains.false))))
    ]

pub returns : goal.returns
returns c = λ n p laws distinct run.
    IsCapped-end laws c.args.cap c.args.order.now c.loop-x.set c.loop-x.x-index c.loop-x-test.false (c.loop-x.invariant n p laws distinct run)
