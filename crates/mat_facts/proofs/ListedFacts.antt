-- What stands in lists that are put together, and what holds of all that stands there.
use Rattle.mat_facts.proofs.Common.{◌≡◌, ◌+◌, ℕ, zero, suc, Bool, true, false, cond, List, [], ◌∷◌, None, Some, slice_get, refl, sym, subst, arith, All-append, All-cons, All-nil, Contains-append_left, Contains-append_right, same_Some, flat_map, Fact, sizes_facts}
use Rattle.std.specs.List.{All, Contains}

module _ {X : Type 0} where
  pub stands_later : (x y : X) (xs : List X) → Contains xs x → Contains (y ∷ xs) x
  stands_later x y xs h = let l = h.1 in (suc h.0, omega arith, h.2)

module _ {R X : Type 0} (f : R → List X) where
  -- what stands in the list of one item stands in that of all
  pub stands_in_all : (rs : List R) (k : ℕ) (r : R) (x : X) → slice_get rs k ≡ Some r → Contains (f r) x → Contains (flat_map f rs) x
  stands_in_all [] k r x at h = absurd (none at)
    where
      none : slice_get [] k ≡ Some r → ⊥
      none e = cc
  stands_in_all (s ∷ rs) zero r x at h = Contains-append_left (f s) (flat_map f rs) x (subst (λ q. Contains (f q) x) (sym (same_Some _ _ at)) h)
  stands_in_all (s ∷ rs) (suc k) r x at h = Contains-append_right (f s) (flat_map f rs) x (stands_in_all rs k r x at h)

  -- what holds of the items' lists holds of all
  pub all_in_all : (P : X → Type 0) (rs : List R) → ((k : ℕ) (r : R) → slice_get rs k ≡ Some r → All P (f r)) → All P (flat_map f rs)
  all_in_all P [] h = All-nil P
  all_in_all P (r ∷ rs) h = All-append P (f r) (flat_map f rs) (h 0 r refl) (all_in_all P rs (λ k s at. h (suc k) s at))

module _ {X : Type 0} (P : X → Type 0) where
  pub all_one : (x : X) → P x → All P (x ∷ [])
  all_one x a = All-cons P x [] a (All-nil P)

  pub all_two : (x y : X) → P x → P y → All P (x ∷ y ∷ [])
  all_two x y a b = All-cons P x (y ∷ []) a (all_one y b)

  pub all_three : (x y z : X) → P x → P y → P z → All P (x ∷ y ∷ z ∷ [])
  all_three x y z a b c = All-cons P x (y ∷ z ∷ []) a (all_two y z b c)

-- ---- the sizes that are told

module _ {R : Type 0} (told : ℕ → Bool) (f : R → List Fact) where
  -- the facts of a size that is told stand among all
  pub stands_in_told : (o : ℕ) (rs : List R) (k : ℕ) (r : R) (fact : Fact) → slice_get rs k ≡ Some r → told (o + k) ≡ true → Contains (f r) fact
      → Contains (sizes_facts told f o rs) fact
  stands_in_told o [] k r fact at is h = absurd (none at)
    where
      none : None ≡ Some r → ⊥
      none e = cc
  stands_in_told o (s ∷ rs) zero r fact at is h =
      let here : told o ≡ true = (let same : o + 0 ≡ o = omega arith in subst (λ k. told k ≡ true) same is) in
      rw here (Contains-append_left (f s) (sizes_facts told f (suc o) rs) fact (subst (λ q. Contains (f q) fact) (sym (same_Some _ _ at)) h))
  stands_in_told o (s ∷ rs) (suc k) r fact at is h =
      let later : told (suc o + k) ≡ true = (let same : o + suc k ≡ suc o + k = omega arith in subst (λ k. told k ≡ true) same is) in
      Contains-append_right (cond (told o) (f s) []) (sizes_facts told f (suc o) rs) fact (stands_in_told (suc o) rs k r fact at later h)

  -- what holds of the facts of each size holds of all that are told
  pub all_told : (H : Fact → Type 0) (o : ℕ) (rs : List R) → ((k : ℕ) (r : R) → slice_get rs k ≡ Some r → All H (f r)) → All H (sizes_facts told f o rs)
  all_told H o [] h = All-nil H
  all_told H o (r ∷ rs) h =
      All-append H (cond (told o) (f r) []) (sizes_facts told f (suc o) rs) (by (told o) (h 0 r refl))
      (all_told H (suc o) rs (λ k s at. h (suc k) s at))
    where
      by : (b : Bool) → All H (f r) → All H (cond b (f r) [])
      by true a = a
      by false a = All-nil H
