-- Parts of names that the elements of a set share: each is a part of the first member's name.
use Rattle.std.proofs.Common.{◌≡◌, ◌∙◌, ℕ, ◌<◌, ◌≤◌, ◌-◌, ◌+◌, true, List, [], take, drop, length, get_or, inl, inr, refl, ap, sym, subst, arith}
use Rattle.std.proofs.lemmas.Bool.{and_parts, cases_eq, ltb-true}
use Rattle.std.proofs.lemmas.Slice.Eq.{bytes_eq-Decides}
use Rattle.std.specs.Prelude.{nat_lt}
use Rattle.mat_sets.specs.Sets.{is_member}
use Rattle.mat_sets.proofs.Members.{is_member-get_or}
use Rattle.mat_sets.proofs.Search.{is_member-those_below}
use Rattle.mat_text.specs.Shared.{has_part, part_at, those_with, IsNameOfFirst, IsShared, SharesNone}
use Rattle.mat_text.specs.declared.shared.Side.{Side}
use Rattle.mat_text.specs.declared.shared.Side.TheVariants.{Front, Back}

-- a part that a name has is shorter than it, and stands at the side
pub part_of_name : (side : Side) (part name : List ℕ) → has_part side part name ≡ true → (length part < length name) × (part ≡ part_at side name (length part))
part_of_name Front part name h =
    let first = and_parts (nat_lt (length part) (length name)) _ h in
    let second = and_parts _ _ first.1 in
    (ltb-true _ _ first.0, (bytes_eq-Decides part (take (length part) name)).0 second.0)
part_of_name Back part name h =
    let first = and_parts (nat_lt (length part) (length name)) _ h in
    let second = and_parts _ _ first.1 in
    (ltb-true _ _ first.0, (bytes_eq-Decides part (drop (length name - length part) name)).0 second.0)

-- the first member's name has the part that exactly the members have
pub first_passes : (names : List (List ℕ)) (set : List ℕ) (side : Side) (part name : List ℕ) → IsNameOfFirst names set name → 0 < length set
    → set ≡ those_with names side part → has_part side part name ≡ true
first_passes names set side part name first members exactly =
    let x = get_or set 0 0 in
    let inside : is_member x set ≡ true = is_member-get_or set 0 x members refl in
    let passes = sym (is_member-those_below x (length names) (λ e. has_part side part (get_or names e []))) ∙ ap (is_member x) (sym exactly) ∙ inside in
    ap (has_part side part) first.same ∙ (and_parts _ _ passes).1

first_has : (names : List (List ℕ)) (set : List ℕ) (side : Side) (part name : List ℕ) → IsNameOfFirst names set name → IsShared names set side part
    → has_part side part name ≡ true
first_has names set side part name first shared = first_passes names set side part name first shared.members shared.exactly

-- none is shared where the first member has no name
pub nameless_first : (names : List (List ℕ)) (set : List ℕ) (side : Side) → length names ≤ get_or set 0 0 → SharesNone names set side
nameless_first names set side outside part shared =
    let x = get_or set 0 0 in
    let inside : is_member x set ≡ true = is_member-get_or set 0 x shared.members refl in
    let passes = sym (is_member-those_below x (length names) (λ e. has_part side part (get_or names e []))) ∙ ap (is_member x) (sym shared.exactly) ∙ inside in
    let below : x < length names = ltb-true x (length names) (and_parts _ _ passes).0 in
    absurd (omega arith)

-- so a shared part that has at least so many bytes has more, where the first member's part of so many bytes is not shared
pub more_bytes : (names : List (List ℕ)) (set : List ℕ) (side : Side) (part name : List ℕ) (count : ℕ) → IsNameOfFirst names set name
    → (set ≡ those_with names side (part_at side name count) → ⊥) → IsShared names set side part → count ≤ length part → count + 1 ≤ length part
more_bytes names set side part name count first not shared least = elim (cases_eq count (length part)) [
  | inl same ↦ absurd (not (subst (λ p. set ≡ those_with names side p)
      ((part_of_name side part name (first_has names set side part name first shared)).1 ∙ ap (part_at side name) (sym same)) shared.exactly))
  | inr other ↦ omega arith
]

-- and none is shared, where each shared part is as long as the name
pub shares_none : (names : List (List ℕ)) (set : List ℕ) (side : Side) (name : List ℕ) → IsNameOfFirst names set name
    → ((part : List ℕ) → IsShared names set side part → length name ≤ length part) → SharesNone names set side
shares_none names set side name first long part shared =
    let short = (part_of_name side part name (first_has names set side part name first shared)).0 in
    let least = long part shared in
    absurd (omega arith)
