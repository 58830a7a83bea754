-- Where a search among all elements is stuck, its start cannot be added to the set that the parts make up: what it reached is spanned by the
-- parts, and would have to hold one element more.
use Rattle.mat_union.proofs.Common.{◌≡◌, ℕ, ◌<◌, ◌≤◌, Bool, true, false, ◌||◌, ◌&&◌, eqb, ltb, List, [], length, get_or, refl, sym, ap, ◌∙◌, subst, arith, eqb-true, false_from_ne_true, false≢true, family_union, all_below, is_member, AllBelow, intersection, minus, union, with_one, length-with_one}
use Rattle.mat_union.proofs.Common.{IsRising-family_union, filter_none, is_member-all_below, IsSet-nil, same_members, is_member-intersection, is_member-minus, is_member-union, is_member-with_one, IsRising-intersection, IsRising-nil, IsRising-union, IsRising-with_one, AllBelow-at, and_all}
use Rattle.mat_union.proofs.Common.{rank-maximal, AreGrowing, exchanges_with, IsReaching, law_at, ranks_bound, ranks_reached, union_only, part_at, union_test, AreMatroids, AreParts, MoveSearch}
use Rattle.mat_union.proofs.GrowingSteps.{spanned_grown}

none_in : (P : List ℕ) → intersection P [] ≡ []
unfolding intersection
none_in P = filter_none (λ x. false) P (λ y. refl)

module _ {n : ℕ} {tests : List (List ℕ → Bool)} {parts : List (List ℕ)} (laws : AreMatroids n tests) (are : AreParts tests parts) where
  -- no element is marked as spanned
  pub all_unspanned : AreGrowing n tests parts [] (all_below n)
  all_unspanned = record {
    are = are;
    set = IsSet-nil n;
    spans = λ i l. rank-maximal (law_at laws are i l) [] [] IsRising-nil (record { passes = (law_at laws are i l).empty; inside = record { inside = λ x h. h }; full = λ x h o. absurd (false≢true h) })
        ∙ sym (ap length (none_in (part_at parts i)));
    others = λ v. is_member-all_below v n ∙ sym (and_all (ltb v n));
  }

  -- a spanned element cannot be added
  pub spanned_refused : (spanned unspanned : List ℕ) → AreGrowing n tests parts spanned unspanned → (x : ℕ) → is_member x spanned ≡ true → is_member x (family_union parts) ≡ false
      → union_test n tests (with_one (family_union parts) x) ≡ false
  spanned_refused spanned unspanned g x x_in out = false_from_ne_true _ (λ ok.
      let S = family_union parts in
      let rs = IsRising-family_union parts in
      let u = union_only tests laws (with_one S x) ok in
      let bound = ranks_bound tests u.parts spanned laws u.are g.set.rising in
      let ranks = ranks_reached tests parts spanned laws g.are g.set.rising g.spans in
      let ri = IsRising-intersection S spanned rs in
      let same : intersection (with_one S x) spanned ≡ with_one (intersection S spanned) x = same_members _ _ (IsRising-intersection _ spanned (IsRising-with_one S x rs)) (IsRising-with_one _ x ri)
      (λ z. is_member-intersection z (with_one S x) spanned ∙ ap (λ b. b && is_member z spanned) (is_member-with_one z x S)
      ∙ sides (eqb z x) (is_member z S) (is_member z spanned) (λ e. ap (λ v. is_member v spanned) (eqb-true z x e) ∙ x_in)
      ∙ ap (λ b. eqb z x || b) (sym (is_member-intersection z S spanned)) ∙ sym (is_member-with_one z x (intersection S spanned))) in
      let more = length-with_one (intersection S spanned) x ri (is_member-intersection x S spanned ∙ ap (λ b. b && is_member x spanned) out) in
      let size = ap length (ap (λ X. intersection X spanned) u.together ∙ same) in
      let no : ⊥ = omega arith in
      no)
    where
      sides : (a b d : Bool) → (a ≡ true → d ≡ true) → ((a || b) && d) ≡ (a || (b && d))
      sides true b d f = f refl
      sides false b d f = refl

  pub stuck_refuses : (start : ℕ) (s : MoveSearch) → IsReaching n (length parts) (exchanges_with tests parts) (all_below n) start s → length s.queue.items ≤ s.head
      → is_member start (family_union parts) ≡ false → union_test n tests (with_one (family_union parts) start) ≡ false
  stuck_refuses start s reaching end out =
      let queue = s.queue.items in
      let spanned : List ℕ = union queue [] in
      let spanned_is : (v : ℕ) → is_member v spanned ≡ (is_member v [] || is_member v queue) = λ v. is_member-union v queue [] ∙ turned (is_member v queue) in
      let g = spanned_grown laws all_unspanned reaching end spanned (minus (all_below n) queue) queue refl (IsRising-union queue [] IsRising-nil) spanned_is (λ v. is_member-minus v (all_below n) queue) in
      spanned_refused spanned (minus (all_below n) queue) g start (spanned_is start ∙ reaching.so_far.first) out
    where
      turned : (b : Bool) → (b || false) ≡ (false || b)
      turned true = refl
      turned false = refl

-- ---- the elements of a set one after the other

pub next_below : (xs set : List ℕ) (n i : ℕ) → xs ≡ set → AllBelow n set → i < length xs → get_or xs i 0 < n
next_below xs set n i e b l = AllBelow-at n xs i (subst (AllBelow n) (sym e) b) l
