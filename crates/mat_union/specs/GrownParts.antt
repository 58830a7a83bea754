-- Parts that grow by one element at a time, and the elements that can no longer be placed (Schrijver, chapter 42).
use Rattle.std.specs.Prelude.{◌≡◌, ℕ, ◌<◌, Bool, true, false, not, ◌||◌, ◌&&◌, nat_lt, List, length, map, slice_index_or, All}
use Rattle.mat_sets.specs.Families.{family_union}
use Rattle.mat_sets.specs.Sets.{is_member, IsSet, intersection}
use Rattle.mat_laws.specs.Ranks.{rank}
use Rattle.mat_union.specs.Unions.{part_at, test_at, AreParts}

-- sound matroids on n elements
pub record AreSound {M : Type 0} (size : M → ℕ) (sound : M → Type 0) (n : ℕ) (matroids : List M) : Type 0 where
  pub each : All (λ m. sound m × (size m ≡ n)) matroids

-- what each matroid keeps of its part
pub record AreKept {M K : Type 0} (keeps : M → List ℕ → K → Type 0) (matroids : List M) (parts : List (List ℕ)) (kept : List K) : Type 0 where
  pub one_each : length kept ≡ length matroids
  pub each : (i : ℕ) (m : M) (k : K) → i < length matroids → keeps (slice_index_or matroids i m) (part_at parts i) (slice_index_or kept i k)

-- parts of a set, and what each matroid keeps of its part
pub record AreKeptParts {M K : Type 0} (indep : M → List ℕ → Bool) (keeps : M → List ℕ → K → Type 0) (matroids : List M) (set : List ℕ)
    (parts : List (List ℕ)) (kept : List K) : Type 0 where
  pub are : AreParts (map indep matroids) parts
  pub together : family_union parts ≡ set
  pub each : AreKept keeps matroids parts kept

-- parts, and a set that each of them spans: its members in the set are as many as the rank; `unspanned` holds the others below n
pub record AreGrowing (n : ℕ) (tests : List (List ℕ → Bool)) (parts : List (List ℕ)) (spanned unspanned : List ℕ) : Type 0 where
  pub are : AreParts tests parts
  pub set : IsSet n spanned
  pub spans : (i : ℕ) → i < length parts → rank (test_at tests i) spanned ≡ length (intersection (part_at parts i) spanned)
  pub others : (v : ℕ) → is_member v unspanned ≡ (nat_lt v n && not (is_member v spanned))

-- all in the parts and all spanned elements are done, and each element that is done is in a part or spanned
pub record AreDone (n : ℕ) (done : ℕ → Bool) (parts : List (List ℕ)) (spanned : List ℕ) : Type 0 where
  pub placed : (v : ℕ) → is_member v (family_union parts) ≡ true → done v ≡ true
  pub refused : (v : ℕ) → is_member v spanned ≡ true → done v ≡ true
  pub all : (v : ℕ) → v < n → done v ≡ true → (is_member v (family_union parts) || is_member v spanned) ≡ true

-- elements below n that are neither in a part nor spanned
pub record AreFresh (n : ℕ) (elements : List ℕ) (parts : List (List ℕ)) (spanned : List ℕ) : Type 0 where
  pub below : (x : ℕ) → is_member x elements ≡ true → x < n
  pub new : (x : ℕ) → is_member x elements ≡ true → is_member x (family_union parts) ≡ false
  pub unspanned : (x : ℕ) → is_member x elements ≡ true → is_member x spanned ≡ false
