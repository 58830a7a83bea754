-- What a dual keeps of another set at the same base: a base that is disjoint from the other set serves it too, with the same columns.
use Rattle.mat_minors.proofs.Common.{◌≡◌, ℕ, Bool, true, false, not, ◌&&◌, cond, eqb, List, length, Option, None, Some, refl, sym, ap, subst, ◌∙◌, arith, and_from, and_parts, both_ways, eq-eqb, eqb-true, false_from_ne_true, is_member, intersection, apart_at, apart_from, IsDualKept, at_same_base}
use Rattle.std.specs.Option.{is_some}
use Rattle.std.proofs.lemmas.List.{nil_from_length}
use Rattle.std.proofs.lemmas.Option.{cond_some}
use Rattle.mat_sets.specs.Search.{IsNextFrom}
use Rattle.mat_minors.specs.declared.dual.DualKept.{DualKept}

-- what is kept of J at the base that is kept of another set
abbrev at_base : DualKept → List ℕ → DualKept
at_base kept J = record { set = J; base = kept.base; columns = kept.columns }

-- two sets are disjoint exactly if no shared member is found
apart_told : (B J : List ℕ) (found : Option ℕ) → IsNextFrom (λ x. is_member x B && is_member x J) 0 found
    → eqb (length (intersection B J)) 0 ≡ not (is_some found)
apart_told B J None none =
    eq-eqb _ 0 (ap length (apart_from B J (λ x m. false_from_ne_true _ (λ j.
    both_ways _ (none x (omega arith)) (and_from (is_member x B) _ m j)))))
apart_told B J (Some v) first = false_from_ne_true _ (λ h.
    let parts = and_parts (is_member v B) _ first.passes in
    both_ways _ (apart_at B J (nil_from_length _ (eqb-true _ 0 h)) v parts.0) parts.1)

-- a base that meets the next set does not serve it
pub base_meets : (kept : DualKept) (J bits : List ℕ) (found : Option ℕ)
    → IsNextFrom (λ x. is_member x kept.base && is_member x bits) 0 found → bits ≡ J → is_some found ≡ true → None ≡ at_same_base kept J
base_meets kept J bits found told same some =
    sym (ap (λ s. cond (eqb (length (intersection kept.base s)) 0) (Some (at_base kept J)) None) (sym same)
    ∙ ap (λ b. cond b (Some (at_base kept J)) None) (apart_told kept.base bits found told ∙ ap not some))

-- and one that is disjoint from it does, with the same columns
pub base_serves : (kept next : DualKept) (J bits : List ℕ) (found : Option ℕ)
    → IsNextFrom (λ x. is_member x kept.base && is_member x bits) 0 found → bits ≡ J → next.set ≡ J → next.base ≡ kept.base
    → next.columns ≡ kept.columns → is_some found ≡ false → Some next ≡ at_same_base kept J
base_serves kept next J bits found told same set base columns none =
    (λ i. Some (record { set = set i; base = base i; columns = columns i }))
    ∙ sym (ap (λ s. cond (eqb (length (intersection kept.base s)) 0) (Some (at_base kept J)) None) (sym same)
    ∙ ap (λ b. cond b (Some (at_base kept J)) None) (apart_told kept.base bits found told ∙ ap not none))

-- what is kept at the same base is right for the next set
pub kept_of_next : {n : ℕ} {p : List ℕ → Bool} (I J : List ℕ) (kept next : DualKept) → IsDualKept n p I kept.set kept.base kept.columns
    → Some next ≡ at_same_base kept J → IsDualKept n p J next.set next.base next.columns
kept_of_next {n} {p} I J kept next h same =
    let found = cond_some (eqb (length (intersection kept.base J)) 0) (at_base kept J) next (sym same) in
    subst (λ (k : DualKept). IsDualKept n p J k.set k.base k.columns) found.1 (record {
      marked = refl;
      is_base = h.is_base;
      disjoint = nil_from_length _ (eqb-true _ 0 found.0);
      columns_at = h.columns_at;
    })
