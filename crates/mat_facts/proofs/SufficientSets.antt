-- Facts suffice for unions, packings and coverings: what the rules allow bounds the ranks of their cuts.
use Rattle.mat_facts.proofs.Common.{◌≡◌, ◌<◌, ◌≤◌, ◌-◌, ◌+◌, ◌*◌, ℕ, Bool, true, ◌⊎◌, List, [], ◌∷◌, length, map, get_or, inl, inr, refl, ap, ◌∙◌, arith, false_from_ne_true, all_below, intersection, is_member, minus, Weight, intersection-subset, filter_none, IsRising-all_below, IsSet-nil}
use Rattle.mat_facts.proofs.Common.{IsSubset-refl, IsBase, IsMatroid, rank, IsMaximal-base, rank-maximal, IsBestUnion, level_at, test_at, AreParts, AreBases, IsCover, covering_is_least, loop_has_no_cover, packing_is_most, rank_none, Tree, is_independent, list, IsValid, Certificate, union_of}
use Rattle.mat_facts.proofs.Common.{LevelLine, AreFewestSets, AreMostBases, AllowsAtMost, Fact, allowed, at_most, full, in_parts, Holds, ShowsNoFewerSets, ShowsNoMoreBases, ShowsUnion}
use Rattle.std.specs.List.{All, Contains}
use Rattle.mat_union.proofs.LevelsShow.{right_is_best}
use Rattle.mat_facts.proofs.AllowedCounts.{level_cut, rank_at_most}
use Rattle.mat_facts.proofs.RulesOfProblems.{rules_are_matroids, some_rule}
use Rattle.mat_facts.proofs.SufficientBounds.{said}

-- ---- unions

none_in : (X : List ℕ) → length (intersection X []) ≡ 0
unfolding intersection
none_in X = ap length (filter_none (λ x. is_member x []) X (λ y. refl))

-- of no elements any rule allows at most any number
nothing_or : {n : ℕ} (cut : List ℕ) (rule : List ℕ → Bool) (c : ℕ) → (0 < length cut → AllowsAtMost n rule cut c) → AllowsAtMost n rule cut c
nothing_or {n} [] rule c h = record { set = IsSet-nil n; most = λ X ok. let none = none_in X in omega arith }
nothing_or (e ∷ cut) rule c h = h (omega arith)

pub union_shown : (w : List Weight) (matroids : List Tree) (n : ℕ) (printed : Weight) (parts : List (List ℕ)) (levels : List LevelLine) (facts : List Fact)
    → IsValid (list w matroids) → All (Holds (list w matroids) (union_of n printed parts levels)) facts → ShowsUnion (list w matroids) facts
    → AreParts (map is_independent matroids) parts × IsBestUnion (map is_independent matroids) w parts
union_shown w matroids n printed parts levels facts valid hold s =
    let problem = list w matroids in
    let answer = union_of n printed parts levels in
    let tests = map is_independent matroids in
    let laws = rules_are_matroids problem valid in
    let tell = said problem answer facts valid hold in
    let are : AreParts tests parts = (tell allowed s.says_allowed).1 in (
      are,
      right_is_best laws w refl parts s.levels (record {
        are = are;
        weights = s.falling;
        cuts = λ j l.
            let b = s.each j l in
            let cut = (level_at s.levels j).cut in
            level_cut (length w) tests w parts (level_at s.levels j).at cut (λ i. get_or b.most i 0) b.held laws are (some_rule problem valid) b.inside
            (λ i inside. nothing_or cut (test_at tests i) (get_or b.most i 0) (λ some. (tell (at_most i cut (get_or b.most i 0)) (b.says_most some i inside)).1))
            (tell (in_parts (level_at s.levels j).at b.held) b.says_held) b.enough;
      }),
    )

-- ---- of one matroid

-- a larger factor has a larger product
grown_product : (k a b : ℕ) → a ≤ b → k * a ≤ k * b
grown_product k a b h = let e : b ≡ a + (b - a) = omega arith in let f : k * b ≡ k * a + k * (b - a) = ap (λ c. k * c) e ∙ omega arith in omega arith

module _ (w : List Weight) (matroid : Tree) (answer : Certificate) (facts : List Fact) (valid : IsValid (list w (matroid ∷ [])))
    (hold : All (Holds (list w (matroid ∷ [])) answer) facts) where
  abbrev p : List ℕ → Bool
  p = is_independent matroid

  abbrev n : ℕ
  n = length w

  laws : IsMatroid n p
  laws = (rules_are_matroids (list w (matroid ∷ [])) valid).each 0 (omega arith)

  tell : (fact : Fact) → Contains facts fact → Holds (list w (matroid ∷ [])) answer fact
  tell = said (list w (matroid ∷ [])) answer facts valid hold

  few_in : (S : List ℕ) (c : ℕ) → Contains facts (at_most 0 S c) → rank p S ≤ c
  few_in S c at = rank_at_most laws S c (tell (at_most 0 S c) at).1

  pub none_allowed : Contains facts (at_most 0 (all_below n) 0) → (I : List ℕ) → p I ≡ true → I ≡ []
  none_allowed at I ok = let few = few_in (all_below n) 0 at in rank_none laws (omega arith) I ok

  pub no_more_bases : (bases : List (List ℕ)) → AreBases n p bases → ShowsNoMoreBases (list w (matroid ∷ [])) facts (length bases)
      → AreMostBases n p bases
  no_more_bases bases are s = record {
    are = are;
    most = packing_is_most laws bases s.cut (record { are = are; set = (tell (at_most 0 s.cut s.most) s.says_most).1.set; short = short });
  }
    where
      base : IsBase n p s.base
      base = (tell (full s.base) s.says_base).1

      short : length (minus (all_below n) s.cut) < (length bases + 1) * (rank p (all_below n) - rank p s.cut)
      short =
          let all = rank-maximal laws (all_below n) s.base (IsRising-all_below n) (IsMaximal-base laws s.base base) in
          let few = few_in s.cut s.most s.says_most in
          let more = grown_product (length bases + 1) (length s.base - s.most) (rank p (all_below n) - rank p s.cut) (omega arith) in
          omega (arith, s.short, more)

  pub no_fewer_sets : (sets : List (List ℕ)) → IsCover n p sets → (length sets ≡ 0) ⊎ ShowsNoFewerSets (list w (matroid ∷ [])) facts (length sets)
      → AreFewestSets n p sets
  no_fewer_sets sets is (inl none) = record { cover = is; fewest = λ others c. omega arith }
  no_fewer_sets sets is (inr s) = record {
    cover = is;
    fewest = covering_is_least laws sets s.cut (record { set = (tell (at_most 0 s.cut s.most) s.says_most).1.set; long = long });
  }
    where
      long : (length sets - 1) * rank p s.cut < length s.cut
      long =
          let few = few_in s.cut s.most s.says_most in
          let more = grown_product (length sets - 1) (rank p s.cut) s.most few in
          omega (arith, s.long, more)

  pub no_cover : (e : ℕ) → Contains facts (at_most 0 (e ∷ []) 0) → (sets : List (List ℕ)) → IsCover n p sets → ⊥
  no_cover e at = loop_has_no_cover laws e (few.set.below.0, false_from_ne_true _ dependent)
    where
      few : AllowsAtMost n p (e ∷ []) 0
      few = (tell (at_most 0 (e ∷ []) 0) at).1

      dependent : p (e ∷ []) ≡ true → ⊥
      dependent ok =
          let one = (laws.sets (e ∷ []) ok).rising in
          let most = few.most (e ∷ []) ok in
          let same = ap length (intersection-subset (e ∷ []) (e ∷ []) one (IsSubset-refl (e ∷ []))) in
          absurd (omega arith)
