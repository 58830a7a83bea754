-- What paths that share no arc tell: an arc can be taken exactly where, over the other live arcs, m paths lead from the root to its head.
use Rattle.mat_branch.proofs.Common.{◌≡◌, ℕ, ◌+◌, ◌<◌, ◌≤◌, true, false, not, eqb, List, inl, inr, sym, ◌∙◌, subst, arith, and_from, and_left, and_parts, both_ways, cases_Bool, cases_eq, false≢true, true≢false, is_member, without_one, IsRising, IsSubset, below_member, is_member-without_one}
use Rattle.mat_branch.proofs.Common.{IsRising-without_one, member_from_some, some_from_member, length-subset, enters, entering, entering-same, is_member-entering, IsRising-entering, AreEntered, IsRefused, TellsSpare}
use Rattle.mat_flow.specs.ArcPaths.{AreArcPaths, IsArcCut}
use Rattle.mat_flow.proofs.ArcPathLaws.{paths_enter}

module _ (vertices root : ℕ) (ends : ℕ → ℕ × ℕ) where
  -- k paths to each vertex but the root
  pub AreEntered-paths : (live : List ℕ) (k : ℕ) → IsRising live
      → ((v : ℕ) → v < vertices → (v ≡ root → ⊥) → (paths : List (List ℕ)) × AreArcPaths ends live root v k paths)
      → AreEntered vertices root ends live k
  AreEntered-paths live k r each = record {
    each = λ cut free.
        let v = member_from_some cut free.some in
        let p = each v.0 (below_member free.set v.1) (λ e. both_ways _ free.free (subst (λ z. is_member z cut ≡ true) e v.1)) in
        paths_enter ends live root v.0 k cut p.0 r free.free v.1 p.1;
  }

  -- m paths to the head over the other live arcs
  pub spare-paths : (live : List ℕ) (m a : ℕ) (paths : List (List ℕ)) → IsRising live → AreEntered vertices root ends live m
      → AreArcPaths ends (without_one live a) root (ends a).1 m paths → AreEntered vertices root ends (without_one live a) m
  spare-paths live m a paths r entered p = record {
    each = λ cut free. elim (cases_Bool (is_member (ends a).1 cut)) [
      | inl here ↦ paths_enter ends (without_one live a) root (ends a).1 m cut paths (IsRising-without_one live a r) free.free here p
      | inr not_here ↦ omega (arith, entering-same ends live cut a r (and_left _ _ not_here), entered.each cut free)
    ];
  }

  -- a cut of the head from the root in the other live arcs
  pub refused-cut : (live : List ℕ) (m a : ℕ) (cut : List ℕ) → IsArcCut vertices ends (without_one live a) root (ends a).1 m cut
      → IsRefused vertices root ends live m a
  refused-cut live m a cut c = λ e.
      let most = e.each cut (record { set = c.set; some = some_from_member (ends a).1 cut c.holds; free = c.misses }) in
      let few = c.few in
      absurd (omega arith)

  -- what is refused stays so when there are fewer live arcs
  pub refused-less : (live : List ℕ) (m a b : ℕ) → IsRising live → IsRefused vertices root ends live m a
      → IsRefused vertices root ends (without_one live b) m a
  refused-less live m a b r out = λ e. out (record {
    each = λ cut free.
        let fewer : IsSubset (entering ends (without_one (without_one live b) a) cut) (entering ends (without_one live a) cut) = record {
          inside = λ x h.
              let p = and_parts (is_member x (without_one (without_one live b) a)) (enters ends cut x) (sym (is_member-entering ends x (without_one (without_one live b) a) cut) ∙ h) in
              let q = and_parts (is_member x (without_one live b)) (not (eqb x a)) (sym (is_member-without_one x a (without_one live b)) ∙ p.0) in
              let s = and_parts (is_member x live) (not (eqb x b)) (sym (is_member-without_one x b live) ∙ q.0) in
              is_member-entering ends x (without_one live a) cut ∙ and_from _ _ (is_member-without_one x a live ∙ and_from _ _ s.0 q.1) p.1;
        } in
        omega (
          arith,
          e.each cut free,
          length-subset _ _ (IsRising-entering ends (without_one (without_one live b) a) cut (IsRising-without_one _ a (IsRising-without_one live b r)))
              (IsRising-entering ends (without_one live a) cut (IsRising-without_one live a r)) fewer,
        );
  })

-- so many paths lead from the root to each of the first n vertices but the root itself
pub record AreServed (ends : ℕ → ℕ × ℕ) (live : List ℕ) (root k n : ℕ) : Type 0 where
  pub each : (v : ℕ) → v < n → (v ≡ root → ⊥) → (paths : List (List ℕ)) × AreArcPaths ends live root v k paths

pub AreServed-root : (ends : ℕ → ℕ × ℕ) (live : List ℕ) (root k n : ℕ) → n ≡ root → AreServed ends live root k n → AreServed ends live root k (n + 1)
AreServed-root ends live root k n e s = record { each = λ v l d. s.each v (omega (arith, d)) d }

pub AreServed-paths : (ends : ℕ → ℕ × ℕ) (live : List ℕ) (root k n : ℕ) (paths : List (List ℕ)) → AreArcPaths ends live root n k paths
    → AreServed ends live root k n → AreServed ends live root k (n + 1)
AreServed-paths ends live root k n paths p s = record {
  each = λ v l d. elim (cases_eq v n) [
    | inl e ↦ (paths, subst (λ w. AreArcPaths ends live root w k paths) (sym e) p)
    | inr other ↦ s.each v (omega arith) d
  ];
}

-- ---- what a search for paths tells of an arc

module _ (vertices root : ℕ) (ends : ℕ → ℕ × ℕ) (live : List ℕ) (m a : ℕ) (rest : List ℕ) (head : ℕ) (rest_is : rest ≡ without_one live a)
    (head_is : head ≡ (ends a).1) where
  pub TellsSpare-paths : (paths : List (List ℕ)) → IsRising live → AreEntered vertices root ends live m
      → AreArcPaths ends rest root head m paths → TellsSpare vertices root ends live m a true
  TellsSpare-paths paths r entered p = record {
    yes_means = λ e. spare-paths vertices root ends live m a paths r entered
        (subst (λ h. AreArcPaths ends (without_one live a) root h m paths) head_is (subst (λ l. AreArcPaths ends l root head m paths) rest_is p));
    no_means = λ e. absurd (true≢false e);
  }

  pub TellsSpare-cut : (cut : List ℕ) → IsArcCut vertices ends rest root head m cut → TellsSpare vertices root ends live m a false
  TellsSpare-cut cut c = record {
    yes_means = λ e. absurd (false≢true e);
    no_means = λ e. refused-cut vertices root ends live m a cut
        (subst (λ h. IsArcCut vertices ends (without_one live a) root h m cut) head_is (subst (λ l. IsArcCut vertices ends l root head m cut) rest_is c));
  }

pub AreEntered-served : (vertices root : ℕ) (ends : ℕ → ℕ × ℕ) (live : List ℕ) (k n : ℕ) → IsRising live → vertices ≤ n
    → AreServed ends live root k n → AreEntered vertices root ends live k
AreEntered-served vertices root ends live k n r l s = AreEntered-paths vertices root ends live k r (λ v below d. s.each v (omega arith) d)

-- no arc is needed where none has to enter
pub TellsSpare-none : (vertices root : ℕ) (ends : ℕ → ℕ × ℕ) (live : List ℕ) (m a : ℕ) → m ≡ 0 → TellsSpare vertices root ends live m a true
TellsSpare-none vertices root ends live m a e = record {
  yes_means = λ h. record { each = λ cut free. omega arith };
  no_means = λ h. absurd (true≢false h);
}
