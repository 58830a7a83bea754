-- Set lines: what is read is spelled so, and what is spelled so is read. The sets that were read before are a laminar family, and remain one
-- with each further set that none of them crosses.
use Rattle.mat_desc.proofs.Common.{◌≡◌, ℕ, zero, suc, ◌<◌, ◌≤◌, ◌^◌, false, List, [], ◌∷◌, ◌++◌, length, Ok, refl, sym, ap, subst, ◌∙◌, arith, codes, append_assoc, append-nil, All-nil, All-cons, All-head, All-tail, All-weaker, AllBelow, IsSet, Line, IsLaminar, IsLaminarFamily-nil}
use Rattle.mat_desc.proofs.Common.{IsLaminarFamily-more, IsLaminarFamily-free, most_sets, most_elements, Crossing, WordsLeft, LinesLeft, Naming, IsNaming, keyed_at, size_at, elements_at, nested_set_at, nested_sets_at, Lists, CappedLines, AreNestedSets, found-same, bind_found, refused_found, AreLeft}
use Rattle.std.specs.List.{All}
use Rattle.mat_count.specs.Laminar.{is_crossed, IsLaminarFamily}
use Rattle.mat_desc.proofs.CappedLineLaws.{listed_line, capped_at, capped_steps, capped_read, capped_again}
use Rattle.mat_desc.proofs.ElementLaws.{with_each}

-- a set line was read: none of the earlier sets crosses it
record IsNestedRead (naming : Naming) (n : ℕ) (earlier : List (List ℕ)) (p : LinesLeft) (cap : ℕ) (set : List ℕ)
    (q : LinesLeft) : Type 0 where
  xs : List ℕ
  lists : Lists xs set
  small : cap ≤ most_elements
  in_range : IsSet n set
  free : is_crossed earlier set ≡ false
  spelled : (rest : List Line) → AreLeft rest q → AreLeft (listed_line naming (codes "set") cap xs ∷ rest) p

-- the steps of a set line, and the test behind them
nested_steps : (naming : Naming) (n : ℕ) (earlier : List (List ℕ)) (p : LinesLeft) (line : WordsLeft × LinesLeft) (cap : ℕ × WordsLeft)
    (elements : List ℕ × List ℕ)
    → keyed_at (codes "set") p ≡ Ok line → size_at 0 most_elements line.0 ≡ Ok cap → elements_at naming n [] cap.1 ≡ Ok elements
    → is_crossed earlier elements.0 ≡ false
    → nested_set_at naming n earlier p ≡ Ok (cap.0, elements.0, line.1)
unfolding nested_set_at
nested_steps naming n earlier p line cap elements e f g free = rw (e, f, g, free) refl

nested_read : (naming : Naming) (n : ℕ) → IsNaming n naming → (earlier : List (List ℕ)) (p : LinesLeft) (cap : ℕ) (set : List ℕ)
    (q : LinesLeft)
    → nested_set_at naming n earlier p ≡ Ok (cap, set, q) → IsNestedRead naming n earlier p cap set q
unfolding nested_set_at
nested_read naming n named earlier p cap set q e =
    let line = bind_found (keyed_at (codes "set") p) _ (cap, set, q) e in
    let caps = bind_found (size_at 0 most_elements line.0.0) _ (cap, set, q) line.2 in
    let elements = bind_found (elements_at naming n [] caps.0.1) _ (cap, set, q) caps.2 in
    let test = refused_found (is_crossed earlier elements.0.0) (Crossing, p.line) _ (cap, set, q) elements.2 in
    let same = found-same (caps.0.0, elements.0.0, line.0.1) (cap, set, q) test.1 in
    let steps = capped_steps naming (codes "set") n [] p line.0 caps.0 elements.0 line.1 caps.1 elements.1 in
    let read = capped_read naming (codes "set") n named [] p caps.0.0 elements.0.0 elements.0.1 line.0.1 steps in
    let one : IsNestedRead naming n earlier p caps.0.0 elements.0.0 line.0.1 = record {
      xs = read.xs;
      lists = read.lists;
      small = read.small;
      in_range = read.in_range;
      free = test.0;
      spelled = read.spelled;
    } in
    subst (λ (r : ℕ × List ℕ × LinesLeft). IsNestedRead naming n earlier p r.0 r.1 r.2) same one

nested_again : (naming : Naming) (n : ℕ) → IsNaming n naming → (earlier : List (List ℕ)) (p : LinesLeft) (cap : ℕ) (set xs : List ℕ)
    (rest : List Line)
    → cap ≤ most_elements → IsSet n set → Lists xs set → is_crossed earlier set ≡ false
    → AreLeft (listed_line naming (codes "set") cap xs ∷ rest) p
    → (q : LinesLeft) × (nested_set_at naming n earlier p ≡ Ok (cap, set, q)) × AreLeft rest q
nested_again naming n named earlier p cap set xs rest small in_range lists free left =
    let whole = capped_again naming (codes "set") n named [] p cap set xs rest refl small in_range lists (λ x h. refl) left in
    (whole.0, judged (with_each [] xs) whole.0 whole.1, whole.2)
  where
    judged : (taken : List ℕ) (q : LinesLeft) → capped_at naming (codes "set") n [] p ≡ Ok (cap, set, taken, q)
        → nested_set_at naming n earlier p ≡ Ok (cap, set, q)
    judged taken q e =
        let line = bind_found (keyed_at (codes "set") p) _ (cap, set, taken, q) e in
        let caps = bind_found (size_at 0 most_elements line.0.0) _ (cap, set, taken, q) line.2 in
        let elements = bind_found (elements_at naming n [] caps.0.1) _ (cap, set, taken, q) caps.2 in
        let same = found-same (caps.0.0, elements.0.0, elements.0.1, line.0.1) (cap, set, taken, q) elements.2 in
        let here = ap (λ (r : ℕ × List ℕ × List ℕ × LinesLeft). is_crossed earlier r.1) same ∙ free in
        nested_steps naming n earlier p line.0 caps.0 elements.0 line.1 caps.1 elements.1 here ∙ ap
        (λ (r : ℕ × List ℕ × List ℕ × LinesLeft). Ok (r.0, r.1, r.3)) same

-- ---- all sets

-- set lines were read, and with the earlier sets, if those are a laminar family, they are one
pub record AreNestedSetsRead (naming : Naming) (n many : ℕ) (earlier : List (List ℕ)) (p : LinesLeft) (sets : List (List ℕ))
    (caps : List ℕ) (q : LinesLeft) : Type 0 where
  pub count : length sets ≡ many
  pub as_many : length caps ≡ length sets
  pub small : All (λ cap. cap ≤ most_elements) caps
  pub in_range : All (IsSet n) sets
  pub family : IsLaminarFamily earlier → IsLaminarFamily (earlier ++ sets)
  pub spelled : (rest : List Line) → AreLeft rest q → (lines : List Line) × CappedLines naming (codes "set") sets caps lines rest × AreLeft lines p

pub nested_sets_read : (naming : Naming) (n : ℕ) → IsNaming n naming → (many : ℕ) (earlier : List (List ℕ)) (p : LinesLeft)
    (sets : List (List ℕ)) (caps : List ℕ) (q : LinesLeft)
    → nested_sets_at naming n many earlier p ≡ Ok (sets, caps, q) → AreNestedSetsRead naming n many earlier p sets caps q
unfolding nested_sets_at
nested_sets_read naming n named zero earlier p sets caps q e =
    let same = found-same ([], [], p) (sets, caps, q) e in
    let none : AreNestedSetsRead naming n 0 earlier p [] [] p = record {
      count = refl;
      as_many = refl;
      small = All-nil (λ cap. cap ≤ most_elements);
      in_range = All-nil (IsSet n);
      family = subst IsLaminarFamily (sym (append-nil earlier));
      spelled = λ rest left. (rest, refl, left);
    } in
    subst (λ (r : List (List ℕ) × List ℕ × LinesLeft). AreNestedSetsRead naming n 0 earlier p r.0 r.1 r.2) same none
nested_sets_read naming n named (suc many) earlier p sets caps q e =
    let first = bind_found (nested_set_at naming n earlier p) _ (sets, caps, q) e in
    let others = bind_found (nested_sets_at naming n many (earlier ++ first.0.1 ∷ []) first.0.2) _ (sets, caps, q) first.2 in
    let same = found-same (first.0.1 ∷ others.0.0, first.0.0 ∷ others.0.1, others.0.2) (sets, caps, q) others.2 in
    let one = nested_read naming n named earlier p first.0.0 first.0.1 first.0.2 first.1 in
    let more = nested_sets_read naming n named many (earlier ++ first.0.1 ∷ []) first.0.2 others.0.0 others.0.1 others.0.2 others.1 in
    let all : AreNestedSetsRead naming n (suc many) earlier p (first.0.1 ∷ others.0.0) (first.0.0 ∷ others.0.1) others.0.2 = record {
      count = ap suc more.count;
      as_many = ap suc more.as_many;
      small = All-cons (λ cap. cap ≤ most_elements) first.0.0 others.0.1 one.small more.small;
      in_range = All-cons (IsSet n) first.0.1 others.0.0 one.in_range more.in_range;
      family = λ before. subst IsLaminarFamily (append_assoc earlier (first.0.1 ∷ []) others.0.0)
          (more.family (IsLaminarFamily-more earlier first.0.1 before one.free));
      spelled = λ rest left.
          let behind = more.spelled rest left in
          let here = listed_line naming (codes "set") first.0.0 one.xs in
          (here ∷ behind.0, (one.xs, behind.0, one.lists, refl, behind.1), one.spelled behind.0 behind.2);
    } in
    subst (λ (r : List (List ℕ) × List ℕ × LinesLeft). AreNestedSetsRead naming n (suc many) earlier p r.0 r.1 r.2) same all

pub nested_sets_again : (naming : Naming) (n : ℕ) → IsNaming n naming → (earlier : List (List ℕ)) (p : LinesLeft)
    (sets : List (List ℕ)) (caps : List ℕ) (lines rest : List Line)
    → All (λ cap. cap ≤ most_elements) caps → All (IsSet n) sets → IsLaminarFamily (earlier ++ sets)
    → CappedLines naming (codes "set") sets caps lines rest → AreLeft lines p
    → (q : LinesLeft) × (nested_sets_at naming n (length sets) earlier p ≡ Ok (sets, caps, q)) × AreLeft rest q
unfolding nested_sets_at
nested_sets_again naming n named earlier p [] [] lines rest small in_range family spelled left =
    (p, refl, subst (λ (ls : List Line). AreLeft ls p) spelled left)
nested_sets_again naming n named earlier p (set ∷ sets) (cap ∷ caps) lines rest small in_range family spelled left =
    let here = subst (λ (ls : List Line). AreLeft ls p) spelled.3 left in
    let free = IsLaminarFamily-free earlier set sets family in
    let first_small = All-head (λ cap. cap ≤ most_elements) cap caps small in
    let first_set = All-head (IsSet n) set sets in_range in
    let first = nested_again naming n named earlier p cap set spelled.0 spelled.1 first_small first_set spelled.2 free here in
    let later = subst IsLaminarFamily (sym (append_assoc earlier (set ∷ []) sets)) family in
    let others_small = All-tail (λ cap. cap ≤ most_elements) cap caps small in
    let others_sets = All-tail (IsSet n) set sets in_range in
    let others = nested_sets_again naming n named (earlier ++ set ∷ []) first.0 sets caps spelled.1 rest others_small others_sets later
    spelled.4 first.2 in
    (others.0, rw (first.1, others.1) refl, others.2)
nested_sets_again naming n named earlier p _ _ lines rest small in_range family spelled left = absurd spelled

-- ---- the sets of a laminar matroid

-- sets that are read meet the conditions of a laminar matroid
pub nested_sets_sound : (naming : Naming) (n : ℕ) → IsNaming n naming → (many : ℕ) (p : LinesLeft) (sets : List (List ℕ))
    (caps : List ℕ) (q : LinesLeft)
    → nested_sets_at naming n many [] p ≡ Ok (sets, caps, q) → IsLaminar n sets caps
nested_sets_sound naming n named many p sets caps q e =
    let read = nested_sets_read naming n named many [] p sets caps q e in
    record {
      capped = read.as_many;
      inside = All-weaker (IsSet n) (AllBelow n) (λ set is. is.below) sets read.in_range;
      family = read.family
          IsLaminarFamily-nil;
    }

-- they are as many as were asked for
pub nested_sets_few : (naming : Naming) (n : ℕ) → IsNaming n naming → (many : ℕ) (p : LinesLeft) (sets : List (List ℕ))
    (caps : List ℕ) (q : LinesLeft)
    → nested_sets_at naming n many [] p ≡ Ok (sets, caps, q) → many ≤ most_sets → length sets < 2 ^ 32
nested_sets_few naming n named many p sets caps q e few = let count = (nested_sets_read naming n named many [] p sets caps q e).count in omega arith

pub ruleset nested_building = (nested_sets_sound, nested_sets_few)

pub nested_sets_valid : (naming : Naming) (n many : ℕ) (p : LinesLeft) (sets : List (List ℕ)) (caps : List ℕ) (q : LinesLeft)
    → many ≤ most_sets → AreNestedSetsRead naming n many [] p sets caps q → AreNestedSets n sets caps
nested_sets_valid naming n many p sets caps q few read = record {
  few = omega (arith, read.count);
  as_many = read.as_many;
  caps_small = read.small;
  sets_inside = read.in_range;
  family = read.family IsLaminarFamily-nil;
}
