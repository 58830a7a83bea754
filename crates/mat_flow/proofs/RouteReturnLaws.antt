-- One end more for the cut family is one end more for the family. Where the end that came lies on a part that was cut off, its route goes
-- on over that part and the route to the crossing over the other part; otherwise the route to the crossing goes on to its old end.
use Rattle.mat_flow.proofs.Common.{◌≡◌, ℕ, Bool, true, false, ◌||◌, eqb, List, [], ◌∷◌, ◌++◌, inl, inr, refl, sym, ap, ◌∙◌, subst, append_assoc, and_from, eq-eqb, false≢true, and_left, both_ways, cases_Bool, false_from_ne_true, not_from_false, or_from, or_left, or_parts, or_right, is_member}
use Rattle.mat_flow.proofs.Common.{with_one, without_one, AreDistinct-apart, SplitAt, is_member-left, is_member-middle, is_member-right, is_member-tail, member_differs, members_differ, split_at, IsRising-without_one, is_member-append, is_member-with_one, is_member-without_one, eqb-turned}
use Rattle.mat_sets.proofs.Changes.{with_one-returned}
use Rattle.mat_flow.proofs.RouteCrossingLaws.{Crossing, at_outside, cut_ends, cut_vertices, kept_end, on_owner, owner_in_front, owner_route}
use Rattle.mat_flow.proofs.RouteExtensionLaws.{IsExtension, IsRoute-extended, IsRoute-kept, terminal_missed, two_extended}
use Rattle.mat_flow.proofs.RoutePartLaws.{first_of-member}
use Rattle.mat_flow.proofs.Routes.{HasOneEndMore, IsRoute, AreRoutes, with_route, with_terminals}

module _ {arcs : List (ℕ × ℕ)} {sources : List ℕ} {target terminal : ℕ → Bool} {ends : List ℕ} {route : ℕ → List ℕ}
    (family : AreRoutes arcs sources target terminal ends route) (c : Crossing arcs sources (λ v. target v || terminal v) ends route)
    (more : HasOneEndMore arcs sources target (with_terminals terminal (cut_vertices c)) (cut_ends c)) where
  abbrev kept : List ℕ
  kept = without_one ends c.owner

  abbrev grown : List ℕ
  grown = with_one (with_one kept c.at) more.end

  not_terminal : (v : ℕ) → with_terminals terminal (cut_vertices c) v ≡ false → terminal v ≡ false
  not_terminal v h = (or_parts (terminal v) _ h).0

  -- the route to m goes on to e over this part
  abbrev Extended : ℕ → ℕ → List ℕ → Type 0
  Extended e m part = IsExtension arcs sources target terminal grown more.route kept e m part

  -- ---- the members of the new ends

  at_grown : is_member c.at grown ≡ true
  at_grown = is_member-with_one c.at more.end (with_one kept c.at) ∙ or_right (eqb c.at more.end) _
      (is_member-with_one c.at c.at kept ∙ or_left _ (is_member c.at kept) (eq-eqb c.at c.at refl))

  end_grown : is_member more.end grown ≡ true
  end_grown = is_member-with_one more.end more.end (with_one kept c.at)
      ∙ or_left _ (is_member more.end (with_one kept c.at)) (eq-eqb more.end more.end refl)

  kept_grown : (e : ℕ) → is_member e kept ≡ true → is_member e grown ≡ true
  kept_grown e m = is_member-with_one e more.end (with_one kept c.at) ∙ or_right (eqb e more.end) _
      (is_member-with_one e c.at kept ∙ or_right (eqb e c.at) _ m)

  not_grown : (v : ℕ) → eqb v more.end ≡ false → eqb v c.at ≡ false → is_member v kept ≡ false → is_member v grown ≡ false
  not_grown v a b d = is_member-with_one v more.end (with_one kept c.at) ∙ or_from _ _ a (is_member-with_one v c.at kept ∙ or_from _ _ b d)

  end_parts : (eqb more.end c.at ≡ false) × (is_member more.end kept ≡ false)
  end_parts = or_parts (eqb more.end c.at) _ (sym (is_member-with_one more.end c.at kept) ∙ more.new)

  at_leaves : is_member c.at kept ≡ false
  at_leaves = is_member-without_one c.at c.owner ends ∙ and_left (is_member c.at ends) _ (at_outside c)

  -- ---- the parts that were cut off: they share no vertex, are terminals, and hold no new end but one

  on_route : (v : ℕ) → is_member v c.owner_front ≡ true → is_member v (route c.owner) ≡ true
  on_route v m = on_owner c v (is_member-left v c.owner_front (c.at ∷ c.owner_rest) m)

  parts_apart : (v : ℕ) → is_member v c.owner_front ≡ true → is_member v c.front ≡ false
  parts_apart v m = false_from_ne_true _ (λ k. both_ways _ (c.clear v c.owner k c.owned) (on_route v m))

  owner_front_off : (v : ℕ) → is_member v c.owner_front ≡ true → eqb v more.end ≡ false → is_member v grown ≡ false
  owner_front_off v m other = not_grown v other
      (or_parts (eqb v c.at) _ (AreDistinct-apart c.owner_front (c.at ∷ c.owner_rest) v (owner_route family c).distinct m)).0
      (false_from_ne_true _ (λ k. (let p = kept_end c v k in
      let r = family.each v p.0 in
      both_ways _ (family.apart v c.owner v p.0 c.owned p.1
      (subst (λ z. is_member z (route v) ≡ true) r.begins (first_of-member arcs sources (route v) r.leads))) (on_route v m))))

  front_off : (v : ℕ) → is_member v c.front ≡ true → eqb v more.end ≡ false → is_member v grown ≡ false
  front_off v m other = not_grown v other
      (or_parts (eqb v c.at) _ (AreDistinct-apart c.front (c.at ∷ c.rest) v c.found.distinct m)).0
      (is_member-without_one v c.owner ends ∙ and_left (is_member v ends) _ (c.avoids v (is_member-left v c.front (c.at ∷ c.rest) m)))

  -- ---- extensions over these parts

  extension : (e m : ℕ) (front part rest : List ℕ) → IsRoute arcs sources terminal e (part ++ m ∷ rest) → (target e || terminal e) ≡ true
      → ((v : ℕ) → is_member v front ≡ true → is_member v (cut_vertices c) ≡ true)
      → ((v : ℕ) → is_member v front ≡ true → eqb v more.end ≡ false → is_member v grown ≡ false)
      → ((v : ℕ) → is_member v part ≡ true → is_member v front ≡ true) → is_member more.end part ≡ false
      → is_member m grown ≡ true → is_member m kept ≡ false → Extended e m part
  extension e m front part rest is goal cut off inside out from leaves = record {
    is = IsRoute-extended more.routes terminal not_terminal e m part rest is from (λ v on. clear v m on from);
    goal = goal;
    from = from;
    leaves = leaves;
    clear = clear;
  }
    where
      clear : (v f : ℕ) → is_member v part ≡ true → is_member f grown ≡ true → is_member v (more.route f) ≡ false
      clear v f on = terminal_missed more.routes terminal not_terminal v f (or_right (terminal v) _ (cut v (inside v on)))
          (off v (inside v on) (member_differs v more.end part on out))

  owner_extension : (m : ℕ) (part rest : List ℕ) → c.owner_front ++ c.at ∷ c.owner_rest ≡ part ++ m ∷ rest
      → ((v : ℕ) → is_member v part ≡ true → is_member v c.owner_front ≡ true) → is_member more.end part ≡ false
      → is_member m grown ≡ true → is_member m kept ≡ false → Extended c.owner m part
  owner_extension m part rest splits =
      extension c.owner m c.owner_front part rest (subst (IsRoute arcs sources terminal c.owner) splits (owner_route family c))
      (family.goals c.owner c.owned) (λ v. is_member-left v c.owner_front (c.at ∷ c.front)) owner_front_off

  found_extension : (m : ℕ) (part rest : List ℕ) → c.front ++ c.at ∷ c.rest ≡ part ++ m ∷ rest
      → ((v : ℕ) → is_member v part ≡ true → is_member v c.front ≡ true) → is_member more.end part ≡ false
      → is_member m grown ≡ true → is_member m kept ≡ false → Extended c.end m part
  found_extension m part rest splits =
      extension c.end m c.front part rest (subst (IsRoute arcs sources terminal c.end) splits found_is) c.reaches
      (λ v on. is_member-right v c.owner_front (c.at ∷ c.front) (is_member-tail v c.at c.front on)) front_off
    where
      found_is : IsRoute arcs sources terminal c.end (c.front ++ c.at ∷ c.rest)
      found_is = let f = c.found in
          record { begins = f.begins; leads = f.leads; distinct = f.distinct; inner = λ v on other. (or_parts (target v) _ (f.inner v on other)).1 }

  -- ---- the three cases

  -- two extensions, of which the first ends at the old end again
  one_end_more : (m1 e m2 : ℕ) (part1 part2 : List ℕ) → is_member e ends ≡ false
      → Extended c.owner m1 part1 → Extended e m2 part2 → eqb m2 m1 ≡ false
      → ((v : ℕ) → is_member v part2 ≡ true → is_member v part1 ≡ false) → HasOneEndMore arcs sources target terminal ends
  one_end_more m1 e m2 part1 part2 new x1 x2 differ apart =
      let routes = with_route e (part2 ++ more.route m2) (with_route c.owner (part1 ++ more.route m1) more.route) in
      record {
        end = e;
        new = new;
        route = routes;
        routes = subst (λ a. AreRoutes arcs sources target terminal (with_one a e) routes) (with_one-returned ends c.owner family.rises c.owned)
            (two_extended more.routes terminal not_terminal kept c.owner m1 e m2 part1 part2 (IsRising-without_one ends c.owner family.rises)
            (record { inside = kept_grown }) (λ f m. family.goals f (kept_end c f m).0) x1 x2 differ apart);
      }

  -- a list that goes on after the part before a member
  regrouped : (v : ℕ) (xs before after others : List ℕ) → xs ≡ before ++ v ∷ after → xs ++ others ≡ before ++ v ∷ (after ++ others)
  regrouped v xs before after others splits = ap (λ l. l ++ others) splits ∙ append_assoc before (v ∷ after) others

  within : (u v : ℕ) (xs before after : List ℕ) → xs ≡ before ++ v ∷ after → is_member u before ≡ true → is_member u xs ≡ true
  within u v xs before after splits m = ap (is_member u) splits ∙ is_member-left u before (v ∷ after) m

  found_new : is_member c.end ends ≡ false
  found_new = c.avoids c.end (subst (λ z. is_member z (c.front ++ c.at ∷ c.rest) ≡ true) c.found.begins
      (first_of-member arcs sources (c.front ++ c.at ∷ c.rest) c.found.leads))

  -- the end that came lies on the part of the crossed route
  end_on_owner : SplitAt more.end c.owner_front → HasOneEndMore arcs sources target terminal ends
  end_on_owner s =
      let on = ap (is_member more.end) s.splits ∙ is_member-middle more.end s.before s.after in
      one_end_more more.end c.end c.at s.before c.front found_new
      (owner_extension more.end s.before (s.after ++ c.at ∷ c.owner_rest)
      (regrouped more.end c.owner_front s.before s.after (c.at ∷ c.owner_rest) s.splits)
      (λ v m. within v more.end c.owner_front s.before s.after s.splits m) s.first end_grown end_parts.1)
      (found_extension c.at c.front c.rest refl (λ v m. m) (parts_apart more.end on) at_grown at_leaves)
      (eqb-turned c.at more.end ∙ end_parts.0)
      (λ v m. false_from_ne_true _ (λ k. both_ways _ (parts_apart v (within v more.end c.owner_front s.before s.after s.splits k)) m))

  -- it lies on the part of the found route
  end_on_front : is_member more.end c.owner_front ≡ false → SplitAt more.end c.front → HasOneEndMore arcs sources target terminal ends
  end_on_front out s =
      one_end_more c.at c.end more.end c.owner_front s.before found_new
      (owner_extension c.at c.owner_front c.owner_rest refl (λ v m. m) out at_grown at_leaves)
      (found_extension more.end s.before (s.after ++ c.at ∷ c.rest)
      (regrouped more.end c.front s.before s.after (c.at ∷ c.rest) s.splits)
      (λ v m. within v more.end c.front s.before s.after s.splits m) s.first end_grown end_parts.1)
      end_parts.0
      (λ v m. false_from_ne_true _ (λ k. both_ways _ (parts_apart v k) (within v more.end c.front s.before s.after s.splits m)))

  -- it was a goal before
  end_elsewhere : is_member more.end c.owner_front ≡ false → is_member more.end c.front ≡ false
      → HasOneEndMore arcs sources target terminal ends
  end_elsewhere out off =
      one_end_more c.at more.end more.end c.owner_front [] new
      (owner_extension c.at c.owner_front c.owner_rest refl (λ v m. m) out at_grown at_leaves)
      (record {
        is = IsRoute-kept more.routes terminal not_terminal more.end end_grown;
        goal = (let goal = more.routes.goals more.end end_grown in
            without (target more.end) (terminal more.end) _ goal
            (is_member-append more.end c.owner_front (c.at ∷ c.front) ∙ or_from _ _ out (or_from _ _ end_parts.0 off)));
        from = end_grown;
        leaves = end_parts.1;
        clear = λ v f m. absurd (false≢true m);
      })
      end_parts.0 (λ v m. absurd (false≢true m))
    where
      without : (a b d : Bool) → (a || (b || d)) ≡ true → d ≡ false → (a || b) ≡ true
      without true b d h e = h
      without false true d h e = h
      without false false d h e = absurd (both_ways d e h)

      new : is_member more.end ends ≡ false
      new = false_from_ne_true _ (λ m. both_ways _ end_parts.1 (is_member-without_one more.end c.owner ends
          ∙ and_from (is_member more.end ends) _ m (not_from_false _
          (members_differ more.end c.owner c.owner_front out (owner_in_front family c)))))

  pub one_end_more_uncut : HasOneEndMore arcs sources target terminal ends
  one_end_more_uncut = elim (cases_Bool (is_member more.end c.owner_front)) [
    | inl on ↦ end_on_owner (split_at more.end c.owner_front on)
    | inr out ↦ elim (cases_Bool (is_member more.end c.front)) [
      | inl on ↦ end_on_front out (split_at more.end c.front on)
      | inr off ↦ end_elsewhere out off
    ]
  ]
