-- A path from a source, turned round, is a route back from its last vertex; and a route, turned round, is such a path.
use Rattle.mat_flow.proofs.Common.{◌≡◌, ℕ, true, List, [], ◌∷◌, ◌++◌, reverse, refl, sym, ap, ◌∙◌, subst, append_assoc, is_member, is_member-reverse, reverse-cons, first_of, last_of, IsPath}
use Rattle.mat_flow.proofs.RoutePartLaws.{first_of-member}
use Rattle.mat_flow.proofs.Routes.{LeadsBack}

-- the turned list, in front of others
reverse_onto : (v : ℕ) (rest others : List ℕ) → reverse (v ∷ rest) ++ others ≡ reverse rest ++ v ∷ others
reverse_onto v rest others = ap (λ l. l ++ others) (reverse-cons v rest) ∙ append_assoc (reverse rest) (v ∷ []) others

module _ (arcs : List (ℕ × ℕ)) (sources : List ℕ) where
  LeadsBack-onto : (v : ℕ) (rest back : List ℕ) → LeadsBack arcs sources (v ∷ back) → IsPath arcs (v ∷ rest)
      → LeadsBack arcs sources (reverse rest ++ v ∷ back)
  LeadsBack-onto v [] back leads joined = leads
  LeadsBack-onto v (u ∷ rest) back leads joined =
      subst (LeadsBack arcs sources) (sym (reverse_onto u rest (v ∷ back))) (LeadsBack-onto u rest (v ∷ back) (joined.0, leads) joined.1)

  last_of-onto : (v : ℕ) (rest back : List ℕ) → first_of (reverse rest ++ v ∷ back) ≡ last_of (v ∷ rest)
  last_of-onto v [] back = refl
  last_of-onto v (u ∷ rest) back = ap first_of (reverse_onto u rest (v ∷ back)) ∙ last_of-onto u rest (v ∷ back)

  -- a path from a source, turned round
  pub LeadsBack-reverse : (path : List ℕ) → IsPath arcs path → is_member (first_of path) sources ≡ true
      → LeadsBack arcs sources (reverse path)
  LeadsBack-reverse [] joined starts = absurd joined
  LeadsBack-reverse (v ∷ rest) joined starts = subst (LeadsBack arcs sources) (sym (reverse-cons v rest)) (LeadsBack-onto v rest [] starts joined)

  pub first_of-reverse : (path : List ℕ) → IsPath arcs path → first_of (reverse path) ≡ last_of path
  first_of-reverse [] joined = absurd joined
  first_of-reverse (v ∷ rest) joined = ap first_of (reverse-cons v rest) ∙ last_of-onto v rest []

  -- a path holds its last vertex
  pub last_of-member : (path : List ℕ) → IsPath arcs path → is_member (first_of path) sources ≡ true
      → is_member (last_of path) path ≡ true
  last_of-member path joined starts =
      sym (is_member-reverse (last_of path) path) ∙ ap (λ v. is_member v (reverse path)) (sym (first_of-reverse path joined))
      ∙ first_of-member arcs sources (reverse path) (LeadsBack-reverse path joined starts)

  -- from a source to the end of the route
  pub record IsPathTo (end : ℕ) (path : List ℕ) : Type 0 where
    pub joined : IsPath arcs path
    pub starts : is_member (first_of path) sources ≡ true
    pub ends : last_of path ≡ end

  path_onto : (v : ℕ) (rest path : List ℕ) → LeadsBack arcs sources (v ∷ rest) → IsPath arcs (v ∷ path)
      → IsPathTo (last_of (v ∷ path)) (reverse rest ++ v ∷ path)
  path_onto v [] path leads joined = record { joined = joined; starts = leads; ends = refl }
  path_onto v (u ∷ rest) path leads joined =
      subst (IsPathTo (last_of (v ∷ path))) (sym (reverse_onto u rest (v ∷ path))) (path_onto u rest (v ∷ path) leads.1 (leads.0, joined))

  -- a route, turned round
  pub IsPathTo-reverse : (route : List ℕ) → LeadsBack arcs sources route → IsPathTo (first_of route) (reverse route)
  IsPathTo-reverse [] leads = absurd leads
  IsPathTo-reverse (v ∷ rest) leads = subst (IsPathTo v) (sym (reverse-cons v rest)) (path_onto v rest [] leads tt)
