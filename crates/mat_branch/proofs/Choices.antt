-- What the loops keep that look for an arc to take, and that grow an arborescence.
use Rattle.mat_branch.proofs.Common.{◌≡◌, ℕ, suc, ◌+◌, ◌<◌, true, false, List, [], ◌∷◌, length, get_or, eqb, inl, inr, refl, sym, ap, ◌∙◌, subst, arith, ◌⊎◌, both_ways, cases_eq, eqb-true, false≢true, or_cases, is_member, with_one, without_one, length-with_one, is_member-get_or, is_member-with_one}
use Rattle.mat_branch.proofs.Common.{place_of_member, AreRefused, Grows, IsGrown, IsRefused, IsTakable}
use Rattle.mat_branch.proofs.FlowTests.{refused-less}
use Rattle.mat_branch.proofs.GrowthSteps.{Grows-grown, Grows-take, Grows-takable}

-- an item of the live arcs is live
pub item_live : (live slice : List ℕ) (i : ℕ) → slice ≡ live → i < length slice → is_member (get_or slice i 0) live ≡ true
item_live live slice i e l = subst (λ s. is_member (get_or slice i 0) s ≡ true) e (is_member-get_or slice i (get_or slice i 0) l refl)

module _ (vertices root : ℕ) (ends : ℕ → ℕ × ℕ) (live reached : List ℕ) (m : ℕ) where
  -- none of the first i live arcs can be taken
  pub record IsScanned (i : ℕ) (refused : List ℕ) : Type 0 where
    pub passed : (j : ℕ) → j < i → IsTakable vertices root ends live reached m (get_or live j 0) → ⊥
    pub refused_each : AreRefused vertices root ends live m refused

  IsScanned-next : (i : ℕ) (refused more : List ℕ) → (IsTakable vertices root ends live reached m (get_or live i 0) → ⊥)
      → AreRefused vertices root ends live m more → IsScanned i refused → IsScanned (i + 1) more
  IsScanned-next i refused more out r s = record {
    passed = λ j l. elim (cases_eq j i) [
      | inl e ↦ subst (λ k. IsTakable vertices root ends live reached m (get_or live k 0) → ⊥) (sym e) out
      | inr d ↦ s.passed j (omega arith)
    ];
    refused_each = r;
  }

  -- the next arc does not lead from a reached vertex to another one, or is refused
  pub IsScanned-skip : (i : ℕ) (refused : List ℕ)
      → (is_member (ends (get_or live i 0)).0 reached ≡ false) ⊎ ((is_member (ends (get_or live i 0)).1 reached ≡ true) ⊎ (is_member (get_or live i 0) refused ≡ true))
      → IsScanned i refused → IsScanned (i + 1) refused
  IsScanned-skip i refused (inl out) s = IsScanned-next i refused refused (λ t. both_ways _ out t.tail) s.refused_each s
  IsScanned-skip i refused (inr (inl inside)) s = IsScanned-next i refused refused (λ t. both_ways _ t.head inside) s.refused_each s
  IsScanned-skip i refused (inr (inr no_use)) s = IsScanned-next i refused refused (λ t. s.refused_each.each _ no_use t.spare) s.refused_each s

  -- the next arc is refused
  pub IsScanned-refuse : (i : ℕ) (refused : List ℕ) → IsRefused vertices root ends live m (get_or live i 0) → IsScanned i refused
      → IsScanned (i + 1) (with_one refused (get_or live i 0))
  IsScanned-refuse i refused out s = IsScanned-next i refused (with_one refused (get_or live i 0)) (λ t. out t.spare) (record {
    each = λ a h. elim (or_cases (eqb a (get_or live i 0)) (is_member a refused) (sym (is_member-with_one a (get_or live i 0) refused) ∙ h)) [
      | inl same ↦ subst (IsRefused vertices root ends live m) (sym (eqb-true a _ same)) out
      | inr old ↦ s.refused_each.each a old
    ];
  }) s

  -- not all arcs are passed without one that can be taken
  pub IsScanned-end : (arcs : ℕ) (first tree refused : List ℕ) → ((a : ℕ) → a < arcs → (ends a).0 < vertices)
      → Grows vertices arcs root ends first m live reached tree → suc (length tree) < vertices → IsScanned (length live) refused → ⊥
  IsScanned-end arcs first tree refused tails g short s =
      let t = Grows-takable vertices arcs root ends first m live reached tree tails g short in
      let p = place_of_member t.0 live t.1.live_arc in
      s.passed p.0 p.1 (subst (IsTakable vertices root ends live reached m) (sym p.2) t.1)

module _ (vertices arcs root : ℕ) (ends : ℕ → ℕ × ℕ) (first : List ℕ) (m : ℕ) where
  -- so many vertices are reached, and some arcs are known to be refused
  pub record IsGrowing (n : ℕ) (live reached tree refused : List ℕ) : Type 0 where
    pub grows : Grows vertices arcs root ends first m live reached tree
    pub size : suc (length tree) ≡ n
    pub refused_each : AreRefused vertices root ends live m refused

  pub IsGrowing-start : (none reached tree refused : List ℕ) → none ≡ [] → reached ≡ with_one none root → tree ≡ [] → refused ≡ []
      → Grows vertices arcs root ends first m first (root ∷ []) [] → IsGrowing 1 first reached tree refused
  unfolding with_one
  IsGrowing-start none reached tree refused en er et ef g = record {
    grows = subst (λ t. Grows vertices arcs root ends first m first reached t) (sym et)
        (subst (λ r. Grows vertices arcs root ends first m first r []) (sym (er ∙ ap (λ s. with_one s root) en)) g);
    size = ap (λ t. suc (length t)) et;
    refused_each = record { each = λ a h. absurd (false≢true (sym (ap (is_member a) ef) ∙ h)) };
  }

  pub IsGrowing-take : (n : ℕ) (live reached tree refused more : List ℕ) (a : ℕ) → IsGrowing n live reached tree refused
      → IsTakable vertices root ends live reached m a → AreRefused vertices root ends live m more
      → IsGrowing (n + 1) (without_one live a) (with_one reached (ends a).1) (with_one tree a) more
  IsGrowing-take n live reached tree refused more a g t r =
      let next = Grows-take vertices arcs root ends first m live reached tree a g.grows t in
      record {
        grows = next;
        size = (let s = next.size in let o = g.grows.size in let l = length-with_one reached (ends a).1 g.grows.reached_set.rising t.head in
            let k = g.size in omega arith);
        refused_each = record { each = λ b h. refused-less vertices root ends live m b a g.grows.live_set.rising (r.each b h) };
      }

  pub IsGrowing-end : (n : ℕ) (live reached tree refused : List ℕ) → IsGrowing n live reached tree refused → n ≡ vertices
      → IsGrown vertices arcs root ends first m live tree
  IsGrowing-end n live reached tree refused g e = Grows-grown vertices arcs root ends first m live reached tree g.grows (g.size ∙ e)
