-- A row has only elements of the set. At two disjoint parts, where each row has only elements of its part, a search for moves among all
-- elements has what it asks.
use Rattle.std.proofs.Common.{◌≡◌, ◌∷◌, ◌∙◌, ◌<◌, ℕ, [], refl, sym, suc, zero, true, false, Bool, List, length, slice_index_or, arith}
use Rattle.std.proofs.lemmas.Bool.{and_parts}
use Rattle.mat_sets.specs.Sets.{all_below, intersection, is_member, AllBelow, IsSubset}
use Rattle.mat_sets.proofs.DisjointSets.{apart_at}
use Rattle.mat_sets.proofs.Families.{family_union-gives}
use Rattle.mat_sets.proofs.Ground.{IsSet-all_below, IsSubset-all_below}
use Rattle.mat_laws.specs.declared.exchange.Exchange.{Exchange}
use Rattle.mat_laws.specs.Exchanges.{row_of}
use Rattle.mat_laws.specs.TightPaths.{row_in}
use Rattle.mat_laws.proofs.Rows.{row_of-trades}
use Rattle.mat_union.specs.MoveGraphs.{AreMovable}
use Rattle.mat_union.specs.PartListLaws.{AreDisjoint-index}
use Rattle.mat_union.specs.Unions.{part_at}

pub row_inside : (independent : List ℕ → Bool) (I : List ℕ) (x : ℕ) → IsSubset (row_of independent I x).with I
row_inside independent I x = record { inside = λ y h. (and_parts (is_member y I) _ (sym (row_of-trades independent I y x) ∙ h)).0 }

module _ (n : ℕ) (a b : List Exchange) (p q : List ℕ) (long-a : length a ≡ n) (long-b : length b ≡ n)
    (below-p : AllBelow n p) (below-q : AllBelow n q) (apart : intersection p q ≡ [])
    (inside-a : (x : ℕ) → IsSubset (row_in a x).with p) (inside-b : (x : ℕ) → IsSubset (row_in b x).with q) where
  long : (i : ℕ) → i < 2 → length (slice_index_or (a ∷ b ∷ []) i []) ≡ n
  long zero h = long-a
  long (suc zero) h = long-b
  long (suc (suc i)) h = absurd (omega arith)

  trades : (i x : ℕ) → i < 2 → IsSubset (row_in (slice_index_or (a ∷ b ∷ []) i []) x).with (part_at (p ∷ q ∷ []) i)
  trades zero x h = inside-a x
  trades (suc zero) x h = inside-b x
  trades (suc (suc i)) x h = absurd (omega arith)

  none_twice : (i j x : ℕ) → i < j → j < 2 → is_member x (part_at (p ∷ q ∷ []) i) ≡ true → is_member x (part_at (p ∷ q ∷ []) j) ≡ false
  none_twice zero (suc zero) x l h m = apart_at p q apart x m
  none_twice _ _ x l h m = absurd (omega arith)

  one_of : (i x : ℕ) → i < 2 → is_member x (part_at (p ∷ q ∷ []) i) ≡ true → is_member x (all_below n) ≡ true
  one_of zero x h m = (IsSubset-all_below n p below-p).inside x m
  one_of (suc zero) x h m = (IsSubset-all_below n q below-q).inside x m
  one_of (suc (suc i)) x h m = absurd (omega arith)

  pub two_parts : AreMovable n (a ∷ b ∷ []) (p ∷ q ∷ []) (all_below n)
  two_parts = record {
    one_each = refl;
    long = long;
    disjoint = AreDisjoint-index (p ∷ q ∷ []) none_twice;
    set = IsSet-all_below n;
    inside = record { inside = λ x h. let w = family_union-gives x (p ∷ q ∷ []) h in one_of w.0 x w.1 w.2 };
    trades = trades;
  }
