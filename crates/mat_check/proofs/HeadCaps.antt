-- At most one arc into each vertex and none into the root: the caps are the list that is made.
use Rattle.mat_check.proofs.Common.{◌≡◌, ◌≢◌, ℕ, ◌<◌, List, length, get_or, replicate, set, inl, inr, sym, ap, ◌∙◌, subst, arith, cases_eq, get_or-replicate, get_or-set_other, get_or-set_same, length-replicate, length-set, caps_by-at, length-caps_by, cap_at}
use Rattle.std.proofs.lemmas.Grind.{same_number_lists}
use Rattle.mat_count.specs.Labels.{caps_by}
use Rattle.mat_arbor.proofs.CommonSets.{cap_other, cap_root}

pub caps_by-root : (vertices root : ℕ) (ones : List ℕ) → root < vertices → ones ≡ replicate vertices 1
    → set ones root 0 ≡ caps_by vertices (cap_at root)
caps_by-root vertices root ones small is =
    same_number_lists (set ones root 0) (caps_by vertices (cap_at root)) (long ∙ sym (length-caps_by vertices (cap_at root))) (λ v l.
    at v (subst (λ m. v < m) long l))
  where
    whole : length ones ≡ vertices
    whole = ap length is ∙ length-replicate vertices 1

    long : length (set ones root 0) ≡ vertices
    long = length-set ones root 0 ∙ whole

    at : (v : ℕ) → v < vertices → get_or (set ones root 0) v 0 ≡ get_or (caps_by vertices (cap_at root)) v 0
    at v l = elim (cases_eq v root) [
      | inl e ↦ ap (λ z. get_or (set ones root 0) z 0) e ∙ get_or-set_same ones root 0 0 (omega (arith, whole))
          ∙ sym (caps_by-at vertices (cap_at root) v l ∙ cap_root root v e)
      | inr d ↦ get_or-set_other ones root v 0 0 d ∙ ap (λ xs. get_or xs v 0) is ∙ get_or-replicate vertices v 1 0 l
          ∙ sym (caps_by-at vertices (cap_at root) v l ∙ cap_other root v d)
    ]
