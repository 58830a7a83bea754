-- The paths to the members of a set that another set has not are taken out, one after the other: those to the common members are left.
use Rattle.mat_linked.proofs.Common.{◌≡◌, ℕ, ◌+◌, ◌<◌, ◌≤◌, true, List, length, get_or, take, sym, ap, ◌∙◌, subst, arith, take_all, intersection, is_member, minus, without_one, IsRising, IsSet, minus_from, minus_parts, below_member, IsSet-minus, is_member-get_or, same_members, set_members}
use Rattle.mat_linked.proofs.Common.{IsRising-minus, IsRising-without_one, is_member-take_more, is_member-take_next, IsLinkedTo, gammoid_laws, is_gammoid, set_of_vertices, IsGammoid, member_vertex}
use Rattle.mat_flow.specs.declared.link_table.LinkTable.{LinkTable}
use Rattle.mat_linked.proofs.GrownSets.{minus-minus}
use Rattle.mat_linked.proofs.LinkedRows.{set_of_vertices-without_one}
use Rattle.mat_linked.proofs.LinkedRuns.{is_member-set_of_vertices}

-- there are paths to the vertices of a set but the first i elements of another one
abbrev pub AreFewerPaths : (vertices : ℕ) (arcs : List (ℕ × ℕ)) (sources targets base gone : List ℕ) (i : ℕ) (links : LinkTable) → Type 0
AreFewerPaths vertices arcs sources targets base gone i links =
    IsLinkedTo vertices arcs sources (set_of_vertices targets (minus base (take i gone))) links

minus_no_items : (a xs : List ℕ) → IsRising a → a ≡ minus a (take 0 xs)
minus_no_items a xs r = same_members _ _ r (IsRising-minus a (take 0 xs) r) (λ k. grind (arith, set_members))

minus_next_item : (a xs : List ℕ) (i : ℕ) → IsRising a → i < length xs
    → without_one (minus a (take i xs)) (get_or xs i 0) ≡ minus a (take (i + 1) xs)
minus_next_item a xs i r l =
    same_members _ _ (IsRising-without_one _ _ (IsRising-minus a (take i xs) r)) (IsRising-minus a (take (i + 1) xs) r)
    (λ k. grind (arith, set_members, is_member-take_more xs i k l))

module _ (vertices : ℕ) (arcs : List (ℕ × ℕ)) (sources targets : List ℕ) (given : IsGammoid vertices arcs sources targets)
    (base next gone : List ℕ) (ok : is_gammoid vertices arcs sources targets base ≡ true) (is : gone ≡ minus base next) where
  set_base : IsSet (length targets) base
  set_base = (gammoid_laws vertices arcs sources targets given).sets base ok

  rises_gone : IsRising gone
  rises_gone = rw is (IsRising-minus base next set_base.rising)

  pub AreFewerPaths-none : (links : LinkTable) → IsLinkedTo vertices arcs sources (set_of_vertices targets base) links
      → AreFewerPaths vertices arcs sources targets base gone 0 links
  AreFewerPaths-none links linked =
      subst (λ X. IsLinkedTo vertices arcs sources (set_of_vertices targets X) links) (minus_no_items base gone set_base.rising) linked

  pub AreFewerPaths-all : (i : ℕ) (links : LinkTable) → length gone ≤ i → AreFewerPaths vertices arcs sources targets base gone i links
      → IsLinkedTo vertices arcs sources (set_of_vertices targets (intersection base next)) links
  AreFewerPaths-all i links past linked =
      subst (λ X. IsLinkedTo vertices arcs sources (set_of_vertices targets X) links)
      (ap (minus base) (take_all i gone past ∙ is) ∙ minus-minus base next set_base.rising) linked

  module _ (i y : ℕ) (inside : i < length gone) (at : y ≡ get_or gone i 0) where
    in_base : is_member y base ≡ true
    in_base = (minus_parts base next y (ap (is_member y) (sym is) ∙ is_member-get_or gone i y inside (sym at))).0

    pub below : y < length targets
    below = below_member set_base in_base

    abbrev left : List ℕ
    left = minus base (take i gone)

    in_left : is_member y left ≡ true
    in_left = minus_from base (take i gone) y in_base (ap (λ k. is_member k (take i gone)) at ∙ is_member-take_next gone i rises_gone inside)

    pub vertex_is_end : is_member (get_or targets y 0) (set_of_vertices targets left) ≡ true
    vertex_is_end = is_member-set_of_vertices targets left (get_or targets y 0) ∙ member_vertex targets left y in_left

    pub AreFewerPaths-more : (links : LinkTable)
        → IsLinkedTo vertices arcs sources (without_one (set_of_vertices targets left) (get_or targets y 0)) links
        → AreFewerPaths vertices arcs sources targets base gone (i + 1) links
    AreFewerPaths-more links linked =
        subst (λ X. IsLinkedTo vertices arcs sources X links)
        (set_of_vertices-without_one targets left y given.distinct (IsSet-minus (length targets) base (take i gone) set_base) below
        ∙ ap (set_of_vertices targets) (ap (without_one left) at ∙ minus_next_item base gone i set_base.rising inside)) linked
