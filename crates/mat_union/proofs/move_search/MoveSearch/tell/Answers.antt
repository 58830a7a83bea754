-- The row tells which members of the part can give way to the element: those that were not reached are reached now, from it.
use Rattle.mat_union.proofs.Common.{◌≡◌, ◌∙◌, ◌+◌, ◌||◌, suc, refl, sym, ap, arith, length, both_ways, is_member}
use Rattle.std.proofs.Math.Numerals.{add-one}
use Rattle.mat_union.proofs.Asking.{closed_left, entered_left, told_more, part_left}
use Rattle.mat_union.proofs.move_search.MoveSearch.tell.Goals as goal

pub returns-then-row : goal.returns-then-row
returns-then-row c = λ n m exchanges among start h asks told. (
  record { from_start = h.from_start; size = h.size; count = h.count; here = h.here; so_far = h.so_far; enters = λ e. (c.requires.open.more, sym told.adds ∙ c.if-row.true) },
  entered_left c.args.self.entered _ (suc (length among)) c.args.self.head c.args.self.count c.args.self.part asks refl,
)

pub returns-then-search : goal.returns-then-search
returns-then-search c = λ n m exchanges among start h asks told. (
  record {
    from_start = h.from_start;
    size = h.size;
    count = h.count;
    here = (let a = h.count in let b = c.if-search.true in omega arith);
    so_far = told_more h.so_far c.insert_all.new.set c.args.row.now.with (λ v. c.in_ok-insert_all.ensures v ∙ ap (λ xs. is_member v c.args.self.pushes || is_member v xs) c.as_slice.ensures.items)
        told.trades (sym told.adds ∙ c.if-row.false) (c.args.self.part + 1) (add-one c.args.self.part);
    enters = λ e. absurd (both_ways _ asks e);
  },
  part_left c.args.self.entered c.args.self.entered (suc (length among)) c.args.self.head c.args.self.count c.args.self.part (c.args.self.part + 1) asks asks (add-one c.args.self.part) c.requires.part,
)

pub returns : goal.returns
returns c = λ n m exchanges among start h asks told.
    let s = c.args.self in
    let a = h.count in
    let b = c.if-search.false in
    let d = c.requires.part in
    let last : suc s.part ≡ m = omega arith in
    let r = c.in_ok-close.ensures n m exchanges among start (record {
      from_start = h.from_start;
      size = h.size;
      count = h.count;
      some = (let l = h.here in omega arith);
      refused = asks;
      so_far = told_more h.so_far c.insert_all.new.set c.args.row.now.with (λ v. c.in_ok-insert_all.ensures v ∙ ap (λ xs. is_member v s.pushes || is_member v xs) c.as_slice.ensures.items)
          told.trades (sym told.adds ∙ c.if-row.false) m (sym last);
    }) in
    (r.0, closed_left s.entered c.close.new.self.entered (suc (length among)) s.head c.close.new.self.head s.count c.close.new.self.count s.part c.close.new.self.part asks r.1 r.2 r.3 r.4 (let f = h.so_far.fuel in let k = c.requires.open.more in omega arith) (omega arith))
