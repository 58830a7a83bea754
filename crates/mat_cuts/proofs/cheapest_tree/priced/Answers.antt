-- Each turn of the search spends an arc that enters the last set of the path, or ends at a set that no arc enters. When
-- no vertex is left for a path to begin at, what each arc has paid is that of the listed cuts, and the tree that grows from the root is right.
use Rattle.mat_cuts.proofs.Common.{◌≡◌, replicate, set, eqb, [], rules, length, sym, ap, subst, arith, ◌∙◌, lt-ltb, ints, never, all_below, without_one, AllBelow, length-without_one, is_member-all_below, length-all_below, IsRising-all_below, those_below, IsUnentered, TellsSpent, at}
use Rattle.mat_cuts.proofs.Loops.{places-start}
use Rattle.mat_cuts.proofs.Searching.{last_set-is, IsSearching, IsSearching-start, IsSearching-begun, IsSearching-turn, IsSearching-unreached}
use Rattle.mat_cuts.proofs.cheapest_tree.priced.Goals as goal

pub begin-requires-clause-below : goal.begin-requires-clause-below
begin-requires-clause-below c =
    subst (λ n. AllBelow n c.search.path.fresh) (sym c.search.invariant.searching.path.long)
    c.search.invariant.searching.path.fresh_set.below

pub begin-requires-clause-few : goal.begin-requires-clause-few
begin-requires-clause-few c = (let s = c.search.invariant.spare in let f = c.requires.few in omega arith)

pub search-preserved : goal.search-preserved
search-preserved c =
    let turn = IsSearching-turn c.args.vertices c.args.arcs.now c.requires.graph c.args.costs.now c.args.root c.search.raised c.spend.new.raised
    c.search.path c.begin.new.path c.follow.new.path c.in-Some.a _ c.requires.few c.search.invariant.searching c.search.invariant.spare
    c.if-not-begin.ensures c.in-Some.is c.in_ok-spent.ensures c.follow.ensures in
    record { searching = turn.0; spare = turn.1 }

pub search-smaller : goal.search-smaller
search-smaller c =
    (IsSearching-turn c.args.vertices c.args.arcs.now c.requires.graph c.args.costs.now c.args.root c.search.raised c.spend.new.raised
    c.search.path c.begin.new.path c.follow.new.path c.in-Some.a _ c.requires.few c.search.invariant.searching c.search.invariant.spare
    c.if-not-begin.ensures c.in-Some.is c.in_ok-spent.ensures c.follow.ensures).2

pub search-init : goal.search-init
search-init c =
    let vertices = c.args.vertices in
    let arcs = c.args.arcs.now in
    let costs = c.args.costs.now in
    let root = c.args.root in
    let unseen : c.in_ok-vec.field-0.items ≡ replicate vertices never = search rules in
    let places = places-start vertices root c.in_ok-vec.field-0.items unseen c.requires.root in
    let fresh = c.take_out.ensures.items ∙ ap (λ l. without_one l root) c.in_ok-all_below.ensures.members in
    let since = c.in_ok-first_times.field-0.items in
    let place = set c.in_ok-vec.field-0.items root 0 in
    let fresh_set = c.take_out.new.self in
    let start = IsSearching-start vertices arcs c.requires.graph costs root since place fresh_set c.requires.root c.requires.costs
    c.requires.range c.in_ok-first_times.ensures.long c.in_ok-first_times.ensures.times places.0 places.1.0 places.1.1 fresh in
    let all = subst (λ r. IsSearching vertices arcs costs root r since [] place fresh_set 0) (sym c.in_ok-from_slice.ensures.items) start in
    record {
      searching = subst (λ k. IsSearching vertices arcs costs root c.in_ok-from_slice.field-0.items since k place fresh_set 0)
          (sym c.new.ensures.items) all;
      spare = (let e = ap length fresh in let n = ap length c.new.ensures.items in let b = c.requires.root in
          let k = length-without_one (all_below vertices) root (IsRising-all_below vertices) (is_member-all_below root vertices ∙ lt-ltb root vertices b) in
          omega (arith, length-all_below vertices));
    }

pub returns-in_default : goal.returns-in_default
returns-in_default c =
    let vertices = c.args.vertices in
    let arcs = c.args.arcs.now in
    let graph = c.requires.graph in
    let costs = c.args.costs.now in
    let root = c.args.root in
    let raised = c.search.raised in
    let place = c.begin.new.path.place.items in
    let last = c.begin.new.path.last in
    let begun = IsSearching-begun vertices arcs graph costs root raised.reduced.items raised.since.items raised.cuts.items c.search.path c.begin.new.path
    c.search.invariant.searching c.if-not-begin.ensures in
    let none = subst (TellsSpent arcs place last raised c.spend.new.raised) c.in_default.is c.in_ok-spent.ensures in
    let set_is = c.in_ok-at_place.ensures ∙ ap (λ p. those_below (length p) (λ v. eqb (at p v) last)) c.deref.ensures.value
    ∙ ap (λ n. those_below n (λ v. eqb (at place v) last)) begun.0.path.long ∙ sym (last_set-is vertices place last) in
    subst (IsUnentered vertices arcs root) (sym set_is)
    (IsSearching-unreached vertices arcs graph costs root raised.reduced.items raised.since.items raised.cuts.items place
    c.begin.new.path.fresh last begun.0 begun.1 none)

pub returns : goal.returns
returns c =
    let raised = c.search.invariant.searching.raised in
    record {
      right = record {
        spans = c.in_ok-tree.ensures.spans;
        few = (let spare = c.search.invariant.spare in omega arith);
        each = raised.each;
        within = λ a l. omega (arith, ints, raised.paid a l, raised.low a l);
        total = c.in_ok-tree.ensures.cost;
      };
      left_long = raised.reduced_long;
      left_is = raised.paid;
    }
