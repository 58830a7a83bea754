-- One arborescence after the other is packed: what is kept, that packing ends with as many as each root-free set lets in, and that no more
-- can be packed than the arcs that enter a root-free set.
use Rattle.mat_branch.proofs.Common.{◌≡◌, ℕ, zero, suc, ◌+◌, ◌-◌, ◌<◌, ◌≤◌, ◌⊎◌, ◌↔◌, Option, None, Some, Bool, true, false, List, [], ◌∷◌, ◌++◌, length, inl, inr, refl, sym, ap, subst, arith, length-append, cases_Bool, false≢true, indicator, multiplicity, AreDisjoint, entering}
use Rattle.mat_branch.proofs.Common.{IsSpanningArborescence, IsRootFree, all_below, is_member, IsSet, below_member, IsRising-all_below, IsSet-all_below, IsSubset-all_below, at_most_entering, walk_enters, member_from_some, AreEntered, IsGrown, TellsSeldom, IsSeldomEnteredBy, some_seldom_entered}
use Rattle.std.proofs.lemmas.List.Elements.{All-get_or, All-nil, All-push}
use Rattle.std.specs.List.{All}
use Rattle.mat_sets.proofs.Families.{multiplicity-append, AreDisjoint-tail}
use Rattle.mat_branch.specs.Arborescences.{AreDisjointArborescences, IsSeldomEntered}
use Rattle.mat_branch.specs.Branches.{is_cut, HasNoArborescences, IsBranching}
use Rattle.mat_branch.specs.declared.branching.Branch.{Branch}
use Rattle.mat_branch.specs.declared.branching.Branch.TheVariants.{All as Branches, Cut}
use Rattle.mat_branch.proofs.GrowthSteps.{grow, Grows-start}
use Rattle.mat_branch.proofs.Seldom.{none_gives, some_gives}

module _ (vertices arcs root : ℕ) (ends : ℕ → ℕ × ℕ) where
  -- these arborescences share no arc with each other nor with the live arcs, and each root-free set is entered by at least so many live arcs as
  -- are left to pack
  pub record Packs (left : ℕ) (live : List ℕ) (trees : List (List ℕ)) : Type 0 where
    pub live_set : IsSet arcs live
    pub each : All (IsSpanningArborescence vertices arcs ends root) trees
    pub disjoint : AreDisjoint (live ∷ trees)
    pub entered : AreEntered vertices root ends live left

  pub Packs-start : (k : ℕ) → AreEntered vertices root ends (all_below arcs) k → Packs k (all_below arcs) []
  unfolding multiplicity
  Packs-start k e = record {
    live_set = IsSet-all_below arcs;
    each = All-nil (IsSpanningArborescence vertices arcs ends root);
    disjoint = record { once = λ x. one (is_member x (all_below arcs)) };
    entered = e;
  }
    where
      one : (b : Bool) → indicator b + 0 ≤ 1
      one true = omega arith
      one false = omega arith

  pub Packs-push : (left : ℕ) (first live tree : List ℕ) (trees : List (List ℕ)) → Packs (suc left) first trees
      → IsGrown vertices arcs root ends first left live tree → Packs left live (trees ++ tree ∷ [])
  unfolding multiplicity
  Packs-push left first live tree trees p g = record {
    live_set = g.live_set;
    each = All-push (IsSpanningArborescence vertices arcs ends root) trees tree p.each g.spans;
    disjoint = record { once = λ x. let h = p.disjoint.once x in omega (arith, multiplicity-append x trees (tree ∷ []), g.parts x) };
    entered = g.entered;
  }

  pub Packs-done : (left k : ℕ) (live : List ℕ) (trees : List (List ℕ)) → Packs left live trees → length trees ≡ k
      → AreDisjointArborescences vertices arcs ends root k trees
  Packs-done left k live trees p l = record { many = l; each = p.each; disjoint = AreDisjoint-tail live trees p.disjoint }

  pub pack : (left k : ℕ) (live : List ℕ) (trees : List (List ℕ)) → root < vertices → ((a : ℕ) → a < arcs → (ends a).0 < vertices)
      → Packs left live trees → length trees + left ≡ k
      → (packed : List (List ℕ)) × AreDisjointArborescences vertices arcs ends root k packed
  pack zero k live trees below tails p l = (trees, Packs-done zero k live trees p (omega arith))
  pack (suc left) k live trees below tails p l =
      let short : (n : ℕ) × (n + 1 ≡ vertices) = before vertices below in
      let g = grow vertices arcs root ends short.0 live left live (root ∷ []) [] tails (Grows-start vertices arcs root ends live left p.live_set below p.entered) short.1 in
      pack left k g.live (trees ++ g.tree ∷ []) below tails (Packs-push left live g.live g.tree trees p g.grown)
      (omega (arith, length-append trees (g.tree ∷ [])))
    where
      before : (n : ℕ) → root < n → (m : ℕ) × (m + 1 ≡ n)
      before zero l = absurd (omega arith)
      before (suc n) l = (n, omega arith)

  -- ---- entered often enough, or not

  pub entered_or_seldom : (k : ℕ) → AreEntered vertices root ends (all_below arcs) k ⊎ ((cut : List ℕ) × IsSeldomEntered vertices arcs ends root k cut)
  entered_or_seldom k = elim (cases_Bool (some_seldom_entered vertices root ends (all_below arcs) k)) [
    | inl some ↦ (let f = some_gives vertices root ends (all_below arcs) k some in inr (f.0, record { root_free = f.1.root_free; few = f.1.few }))
    | inr none ↦ inl (none_gives vertices root ends (all_below arcs) k none)
  ]

  -- Edmonds' theorem
  pub disjoint_or_seldom_entered : (k : ℕ) → root < vertices → ((a : ℕ) → a < arcs → (ends a).0 < vertices)
      → ((trees : List (List ℕ)) × AreDisjointArborescences vertices arcs ends root k trees)
      ⊎ ((cut : List ℕ) × IsSeldomEntered vertices arcs ends root k cut)
  disjoint_or_seldom_entered k below tails = elim (entered_or_seldom k) [
    | inl e ↦ inl (pack k k (all_below arcs) [] below tails (Packs-start k e) (omega arith))
    | inr c ↦ inr c
  ]

  -- ---- the other direction

  pub each_enters : (k : ℕ) (trees : List (List ℕ)) → AreDisjointArborescences vertices arcs ends root k trees → (cut : List ℕ)
      → IsRootFree vertices root cut → k ≤ length (entering ends (all_below arcs) cut)
  each_enters k trees d cut free =
      let v = member_from_some cut free.some in
      let most = at_most_entering ends (all_below arcs) cut trees (IsRising-all_below arcs) d.disjoint (λ tree i l e.
      let spans = subst (IsSpanningArborescence vertices arcs ends root) e (All-get_or (IsSpanningArborescence vertices arcs ends root) trees i [] l d.each) in
      let r = spans.reached v.0 (below_member free.set v.1) in
      let w = walk_enters ends cut r.along root v.0 r.walk free.free v.1 in
      let m = r.inside.inside w.0 w.1 in
      record { arc = w.0; member = m; live_arc = (IsSubset-all_below arcs tree spans.set.below).inside w.0 m; comes = w.2 }) in
      omega (arith, most, d.many)

  -- there are not both such arborescences and such a set
  pub seldom_entered_has_none : (k : ℕ) (trees : List (List ℕ)) (cut : List ℕ) → AreDisjointArborescences vertices arcs ends root k trees
      → IsSeldomEntered vertices arcs ends root k cut → ⊥
  seldom_entered_has_none k trees cut d c = let most = each_enters k trees d cut c.root_free in let few = c.few in absurd (omega arith)

  -- a right answer is such a set exactly where there are no such arborescences
  pub no_arborescences_told : (k : ℕ) (found : Branch) → IsBranching vertices arcs ends root k found
      → (is_cut found ≡ true) ↔ HasNoArborescences vertices arcs ends root k
  no_arborescences_told k (Branches trees) b = ((λ e. absurd (false≢true e)), λ none. absurd (none trees b))
  no_arborescences_told k (Cut cut) b = ((λ _ trees d. seldom_entered_has_none k trees cut d b), λ _. refl)

-- ---- the loop

module _ (vertices arcs root : ℕ) (ends : ℕ → ℕ × ℕ) (k : ℕ) where
  -- no set is entered too seldom
  pub entered_from_none : (live : List ℕ) (found : Option (List ℕ)) → live ≡ all_below arcs → ((cut : List ℕ) → found ≡ Some cut → ⊥)
      → TellsSeldom vertices root ends live k found → AreEntered vertices root ends (all_below arcs) k
  entered_from_none live None e none tells = subst (λ l. AreEntered vertices root ends l k) e tells
  entered_from_none live (Some cut) e none tells = absurd (none cut refl)

  -- a set that is entered too seldom by all arcs
  pub seldom_from_some : (live cut : List ℕ) → live ≡ all_below arcs → IsSeldomEnteredBy vertices root ends live k cut
      → IsSeldomEntered vertices arcs ends root k cut
  seldom_from_some live cut e s = record { root_free = s.root_free; few = subst (λ l. length (entering ends l cut) < k) e s.few }

  -- these are packed, and so many are left
  pub record IsPacking (left : ℕ) (live : List ℕ) (trees : List (List ℕ)) : Type 0 where
    pub packs : Packs vertices arcs root ends left live trees
    pub many : length trees + left ≡ k

  pub IsPacking-start : (live : List ℕ) (trees : List (List ℕ)) → live ≡ all_below arcs → trees ≡ [] → AreEntered vertices root ends (all_below arcs) k
      → IsPacking k live trees
  IsPacking-start live trees el et e = record {
    packs = subst (λ l. Packs vertices arcs root ends k l trees) (sym el)
        (subst (Packs vertices arcs root ends k (all_below arcs)) (sym et) (Packs-start vertices arcs root ends k e));
    many = (let none : length trees ≡ 0 = ap length et in omega arith);
  }

  pub IsPacking-push : (left : ℕ) (first live tree : List ℕ) (trees more : List (List ℕ)) → 0 < left → more ≡ trees ++ tree ∷ []
      → IsPacking left first trees → IsGrown vertices arcs root ends first (left - 1) live tree → IsPacking (left - 1) live more
  IsPacking-push zero first live tree trees more some e p g = absurd (omega arith)
  IsPacking-push (suc left) first live tree trees more some e p g =
      let same : suc left - 1 ≡ left = omega arith in
      subst (λ n. IsPacking n live more) (sym same) (record {
        packs = subst (Packs vertices arcs root ends left live) (sym e) (Packs-push vertices arcs root ends left first live tree trees p.packs
            (subst (λ n. IsGrown vertices arcs root ends first n live tree) same g));
        many = (let long = ap length e in let many = p.many in omega (arith, length-append trees (tree ∷ [])));
      })

  pub IsPacking-done : (left : ℕ) (live : List ℕ) (trees all : List (List ℕ)) → (0 < left → ⊥) → all ≡ trees → IsPacking left live trees
      → AreDisjointArborescences vertices arcs ends root k all
  IsPacking-done left live trees all none e p =
      subst (AreDisjointArborescences vertices arcs ends root k) (sym e)
      (Packs-done vertices arcs root ends left k live trees p.packs (let many = p.many in omega (arith, none)))
