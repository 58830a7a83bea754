-- Walks along arcs: joined end to end, and within a set of arcs (Schrijver, chapter 3).
use Rattle.mat_sets.proofs.Common.{List, [], inl, inr, refl, subst, sym, true, ℕ, ◌++◌, ◌∷◌, ◌≡◌, ◌∙◌, eqb, or_cases, false≢true, eqb-true, IsSubset, is_member}
use Rattle.mat_sets.specs.Graphs.{DirectedWalk, Reaches}
use Rattle.mat_sets.proofs.Members.{is_member-append}
use Rattle.mat_sets.proofs.Subsets.{IsSubset-trans}

pub DirectedWalk-append : (ends : ℕ → ℕ × ℕ) (arcs others : List ℕ) (v u w : ℕ) → DirectedWalk ends arcs v u
    → DirectedWalk ends others u w → DirectedWalk ends (arcs ++ others) v w
DirectedWalk-append ends [] others v u w a b = subst (λ z. DirectedWalk ends others z w) (sym a) b
DirectedWalk-append ends (e ∷ arcs) others v u w a b = (a.0, DirectedWalk-append ends arcs others (ends e).1 u w a.1 b)

pub Reaches-itself : (ends : ℕ → ℕ × ℕ) (arcs : List ℕ) (v : ℕ) → Reaches ends arcs v v
Reaches-itself ends arcs v = record { along = []; inside = record { inside = λ x m. absurd (false≢true m) }; walk = refl }

pub Reaches-arc : (ends : ℕ → ℕ × ℕ) (arcs : List ℕ) (e : ℕ) → is_member e arcs ≡ true → Reaches ends arcs (ends e).0 (ends e).1
Reaches-arc ends arcs e m = record {
  along = e ∷ [];
  inside = record { inside = λ x q. alone x q };
  walk = (refl, refl);
}
  where
    alone : (x : ℕ) → is_member x (e ∷ []) ≡ true → is_member x arcs ≡ true
    alone x q = elim (or_cases (eqb x e) (is_member x []) q) [ inl s ↦ subst (λ z. is_member z arcs ≡ true) (sym (eqb-true x e s)) m | inr n ↦ absurd (false≢true n) ]

pub Reaches-trans : (ends : ℕ → ℕ × ℕ) (arcs : List ℕ) (v u w : ℕ) → Reaches ends arcs v u → Reaches ends arcs u w → Reaches ends arcs v w
Reaches-trans ends arcs v u w a b = record {
  along = a.along ++ b.along;
  inside = record {
    inside = λ x m. elim (or_cases (is_member x a.along) (is_member x b.along) (sym (is_member-append x a.along b.along) ∙ m)) [
      | inl q ↦ a.inside.inside x q
      | inr q ↦ b.inside.inside x q
    ];
  };
  walk = DirectedWalk-append ends a.along b.along v u w a.walk b.walk;
}

-- more arcs reach as much
pub Reaches-subset : (ends : ℕ → ℕ × ℕ) (arcs others : List ℕ) (v w : ℕ) → IsSubset arcs others → Reaches ends arcs v w
    → Reaches ends others v w
Reaches-subset ends arcs others v w s a = record { along = a.along; inside = IsSubset-trans a.along arcs others a.inside s; walk = a.walk }
