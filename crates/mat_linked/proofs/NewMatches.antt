-- Members that are gone are taken out of a matching, and new ones are matched beside the others: where the whole set can be matched, each part
-- of it can, and so each new member finds its set.
use Rattle.mat_linked.proofs.Common.{◌≡◌, ℕ, ◌+◌, ◌<◌, ◌≤◌, Bool, true, false, cond, List, [], ◌∷◌, length, map, get_or, replicate, take, suc, arith, Option, Some, None, inl, inr, refl, sym, ap, ◌∙◌, subst, cases_Bool, intersection, is_member, minus, union, with_one, AllBelow, IsRising, IsSubset}
use Rattle.mat_linked.proofs.Common.{minus_from, minus_parts, AllBelow-member, same_members, set_members, IsRising-intersection, IsRising-nil, intersection-right, entry_at, none_is_not_some, some_is_one, entry_without, AreMatchable, IsMatchedOrNone, IsMatching}
use Rattle.mat_linked.proofs.GrownSets.{all_more, in_next, is_new, new_beside_common, none_more, one_more, one_more_in_next}
use Rattle.mat_linked.proofs.MatchableSets.{AreMatchable-part, IsMatching-none}

-- ---- members that are gone

entry_at-without : (gone : List ℕ) (matched : List (Option ℕ)) (j : ℕ) → entry_at (map (entry_without gone) matched) j ≡ entry_without gone (entry_at matched j)
entry_at-without gone (entry ∷ matched) (suc j) = entry_at-without gone matched j
entry_at-without gone _ j = refl

-- an element that is left was there, and is not gone
was_there : (gone : List ℕ) (entry : Option ℕ) (x : ℕ) → entry_without gone entry ≡ Some x → (entry ≡ Some x) × (is_member x gone ≡ false)
was_there gone None x e = absurd (none_is_not_some x e)
was_there gone (Some y) x e = elim (cases_Bool (is_member y gone)) [
  | inl out ↦ absurd (none_is_not_some x (sym (ap (λ b. cond b None (Some y)) out) ∙ e))
  | inr left ↦ (let same = some_is_one y x (sym (ap (λ b. cond b None (Some y)) left) ∙ e) in
      (ap Some same, ap (λ z. is_member z gone) (sym same) ∙ left))
]

-- an element that is not gone is left
still_there : (gone : List ℕ) (entry : Option ℕ) (x : ℕ) → entry ≡ Some x → is_member x gone ≡ false → entry_without gone entry ≡ Some x
still_there gone entry x e left = ap (entry_without gone) e ∙ ap (λ b. cond b None (Some x)) left

pub IsMatching-without : (rows : List (List ℕ)) (X gone : List ℕ) (matched : List (Option ℕ)) → IsMatching rows X matched
    → IsMatching rows (minus X gone) (map (entry_without gone) matched)
IsMatching-without rows X gone matched t = record {
  held = λ j x e. t.held j x (was j x e).0;
  inside = λ j x e. minus_from X gone x (t.inside j x (was j x e).0) (was j x e).1;
  covered = λ x m. (let p = minus_parts X gone x m in
      let c = t.covered x p.0 in
      (c.0, entry_at-without gone matched c.0 ∙ still_there gone (entry_at matched c.0) x c.1 p.1));
  once = λ j k x e f. t.once j k x (was j x e).0 (was k x f).0;
}
  where
    was : (j x : ℕ) → entry_at (map (entry_without gone) matched) j ≡ Some x → (entry_at matched j ≡ Some x) × (is_member x gone ≡ false)
    was j x e = was_there gone (entry_at matched j) x (sym (entry_at-without gone matched j) ∙ e)

-- ---- members that are new

-- nothing is common to the empty set and another one
pub IsMatching-none_common : (rows : List (List ℕ)) (sets : ℕ) (empty : List (Option ℕ)) (none base : List ℕ) → none ≡ [] → empty ≡ replicate sets None
    → IsMatching rows (intersection none base) empty
IsMatching-none_common rows sets empty none base is e =
    rw e (subst (λ X. IsMatching rows X (replicate sets None)) (sym (ap (λ s. intersection s base) is ∙ nothing)) (IsMatching-none rows sets))
  where
    nothing : intersection [] base ≡ []
    nothing = same_members _ _ (IsRising-intersection [] base IsRising-nil) IsRising-nil (λ k. grind (arith, set_members))

-- the common members of two sets and the first i of some elements are matched
pub record AreMatchedBeside (rows : List (List ℕ)) (sets : ℕ) (base next more : List ℕ) (i : ℕ) (matched : List (Option ℕ)) : Type 0 where
  pub long : length matched ≡ sets
  pub matching : IsMatching rows (union (intersection base next) (take i more)) matched

module _ (rows : List (List ℕ)) (sets : ℕ) (base next more : List ℕ) (rises : IsRising base) (rises_next : IsRising next) (is : more ≡ minus next base) where
  abbrev common : List ℕ
  common = intersection base next

  holds : IsSubset common next
  holds = intersection-right base next

  rises_common : IsRising common
  rises_common = IsRising-intersection base next rises

  beside : more ≡ minus next common
  beside = is ∙ new_beside_common base next rises_next

  pub AreMatchedBeside-none : (matched : List (Option ℕ)) → length matched ≡ sets → IsMatching rows common matched
      → AreMatchedBeside rows sets base next more 0 matched
  AreMatchedBeside-none matched long t = record {
    long = long;
    matching = subst (λ X. IsMatching rows X matched) (none_more common next more holds rises_common rises_next beside) t;
  }

  pub AreMatchedBeside-all : (i : ℕ) (matched : List (Option ℕ)) → length more ≤ i → AreMatchedBeside rows sets base next more i matched
      → IsMatching rows next matched
  AreMatchedBeside-all i matched past r =
      subst (λ X. IsMatching rows X matched) (all_more common next more holds rises_common rises_next beside i past) r.matching

  module _ (i x : ℕ) (inside : i < length more) (at : x ≡ get_or more i 0) where
    pub new_below : AllBelow (length rows) next → x < length rows
    new_below below = AllBelow-member (length rows) next x below (in_next common next more holds rises_common rises_next beside i x inside at)

    abbrev so_far : List ℕ
    so_far = union common (take i more)

    pub AreMatchedBeside-more : (old new : List (Option ℕ)) (found : Bool) → AreMatchable rows sets next
        → AreMatchedBeside rows sets base next more i old
        → ((X : List ℕ) → is_member x X ≡ false → IsMatching rows X old → IsMatchedOrNone rows (with_one X x) new found)
        → length new ≡ length old → AreMatchedBeside rows sets base next more (i + 1) new
    AreMatchedBeside-more old new found whole r told long =
        by found (told so_far (is_new common next more holds rises_common rises_next beside i x inside at) r.matching)
      where
        by : (found : Bool) → IsMatchedOrNone rows (with_one so_far x) new found → AreMatchedBeside rows sets base next more (i + 1) new
        by true m = record {
          long = long ∙ r.long;
          matching = subst (λ X. IsMatching rows X new) (one_more common next more holds rises_common rises_next beside i x inside at) m;
        }
        by false none = absurd (none (subst (λ n. AreMatchable rows n (with_one so_far x)) (sym (long ∙ r.long))
            (AreMatchable-part rows sets (with_one so_far x) next
            (one_more_in_next common next more holds rises_common rises_next beside i x inside at).inside whole)))
