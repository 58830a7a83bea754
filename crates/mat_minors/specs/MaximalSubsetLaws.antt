-- The test of a maximal independent subset holds exactly of those.
use Rattle.std.proofs.Common.{◌≡◌, ℕ, Bool, true, eqb, List, length, sym, ap, ◌∙◌}
use Rattle.std.proofs.lemmas.Bool.{and_parts, and_from, eq-eqb, both_ways, false_from_ne_true}
use Rattle.mat_sets.specs.Sets.{is_member, IsSubset, with_one, minus}
use Rattle.mat_sets.proofs.DisjointSets.{no_members, none_in, minus_parts, minus_from}
use Rattle.mat_sets.proofs.Members.{is_member-filter}
use Rattle.mat_laws.specs.Matroids.{IsMaximal}
use Rattle.mat_minors.specs.Minors.{addable_members, is_maximal}

-- what the test of a maximal independent subset says, both ways
pub is_maximal-gives : (p : List ℕ → Bool) (X I : List ℕ) → IsSubset I X → is_maximal p X I ≡ true → IsMaximal p X I
is_maximal-gives p X I s h =
    let tests = and_parts (p I) (eqb (length (addable_members p X I)) 0) h in
    record {
      passes = tests.0;
      inside = s;
      full = λ x m o. false_from_ne_true _ (λ adds. none_in (addable_members p X I) x tests.1
          (is_member-filter (λ y. p (with_one I y)) x (minus X I)
          ∙ and_from (is_member x (minus X I)) (p (with_one I x)) (minus_from X I x m o) adds));
    }

pub is_maximal-from : (p : List ℕ → Bool) (X I : List ℕ) → IsMaximal p X I → is_maximal p X I ≡ true
is_maximal-from p X I max =
    and_from (p I) (eqb (length (addable_members p X I)) 0) max.passes (eq-eqb _ 0 (ap length (no_members (addable_members p X I) (λ x m.
    let both = and_parts (is_member x (minus X I)) (p (with_one I x)) (sym (is_member-filter (λ y. p (with_one I y)) x (minus X I)) ∙ m) in
    let sides = minus_parts X I x both.0 in
    both_ways _ (max.full x sides.0 sides.1) both.1))))
