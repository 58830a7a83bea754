-- The loop that puts each told row at its element: a row that stands at an element is told of it, and the rows of the others stay empty.
use Rattle.mat_union.proofs.Common.{◌≡◌, ◌≢◌, ℕ, ◌+◌, ◌<◌, true, false, eqb, List, [], length, get_or, replicate, set, take, inl, inr, sym, ap, ◌∙◌, arith, both_ways, cases_eq, eq-eqb, eqb-true, false≢true, or_cases, or_parts, get_or-set_other, get_or-set_same, length-replicate, length-set, row_at}
use Rattle.mat_union.proofs.Common.{is_member, is_member-take_more, IsToldTable}
use Rattle.mat_union.proofs.EmptyParts.{part_at-empty}

pub empty_table : (n : ℕ) (queue : List ℕ) (told table : List (List ℕ)) → table ≡ replicate n [] → IsToldTable n 0 queue told table
empty_table n queue told table e = rw e (record {
  size = length-replicate n [];
  held = λ z h. absurd (false≢true h);
  empty = λ z h. part_at-empty n z;
})

module _ {n count : ℕ} {queue : List ℕ} {told table : List (List ℕ)} (t : IsToldTable n count queue told table) (l : count < length queue) where
  abbrev u : ℕ
  u = get_or queue count 0

  before : (z : ℕ) → is_member z (take (count + 1) queue) ≡ true → z ≢ u → is_member z (take count queue) ≡ true
  before z h d = elim (or_cases (is_member z (take count queue)) (eqb z u) (sym (is_member-take_more queue count z l) ∙ h)) [
    | inl a ↦ a
    | inr e ↦ absurd (d (eqb-true z u e))
  ]

  neither : (z : ℕ) → is_member z (take (count + 1) queue) ≡ false → (is_member z (take count queue) ≡ false) × (eqb z u ≡ false)
  neither z h = or_parts (is_member z (take count queue)) (eqb z u) (sym (is_member-take_more queue count z l) ∙ h)

  other : (z : ℕ) → eqb z u ≡ false → z ≢ u
  other z o = λ e. both_ways _ o (eq-eqb z u e)

  pub row_put : u < n → (row : List ℕ) → row ≡ row_at told count → IsToldTable n (count + 1) queue told (set table u row)
  row_put small row is = record {
    size = length-set table u row ∙ t.size;
    held = λ z h. elim (cases_eq z u) [
      | inl d ↦ (count, (omega arith), sym d, ap (row_at (set table u row)) d ∙ get_or-set_same table u row [] (let e = t.size in omega arith) ∙ is)
      | inr d ↦ (let w = t.held z (before z h d) in (w.0, (let k = w.1 in omega arith), w.2, get_or-set_other table u z row [] d ∙ w.3))
    ];
    empty = λ z h. (let o = neither z h in get_or-set_other table u z row [] (other z o.1) ∙ t.empty z o.0);
  }
