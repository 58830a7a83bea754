-- Class lines: what is read is spelled so, and what is spelled so is read.
use Rattle.mat_desc.proofs.Common.{◌≡◌, ℕ, zero, suc, ◌+◌, ◌≤◌, Bool, true, false, ◌||◌, List, [], ◌∷◌, length, Ok, refl, ap, subst, ◌∙◌, arith, codes, All-nil, All-cons, All-head, All-tail, All-weaker, is_member, AllBelow, IsSet, Line, most_sets, most_elements, LinesLeft, Naming, IsNaming}
use Rattle.mat_desc.proofs.Common.{class_at, classes_at, Lists, CappedLines, AreClasses, found-same, bind_found, AreLeft}
use Rattle.std.specs.List.{All}
use Rattle.mat_sets.specs.Families.{indicator, multiplicity, AreDisjoint}
use Rattle.mat_count.specs.Partitions.{IsPartition}
use Rattle.mat_desc.proofs.CappedLineLaws.{listed_line, IsCappedRead, capped_read, capped_again}
use Rattle.mat_desc.proofs.ElementLaws.{with_each, is_member-with_each}

-- a class line was read: its elements are fresh, and taken behind it
class_read : (naming : Naming) (n : ℕ) → IsNaming n naming → (taken : List ℕ) (p : LinesLeft) (cap : ℕ) (class left : List ℕ) (q : LinesLeft)
    → class_at naming n taken p ≡ Ok (cap, class, left, q)
    → IsCappedRead naming (codes "class") n taken p cap class left q
unfolding class_at
class_read naming n named taken p cap class left q e = capped_read naming (codes "class") n named taken p cap class left q e

class_again : (naming : Naming) (n : ℕ) → IsNaming n naming → (taken : List ℕ) (p : LinesLeft) (cap : ℕ) (class xs : List ℕ)
    (rest : List Line) → cap ≤ most_elements
    → IsSet n class → Lists xs class
    → ((x : ℕ) → is_member x class ≡ true → is_member x taken ≡ false) → AreLeft (listed_line naming (codes "class") cap xs ∷ rest) p
    → (q : LinesLeft) × (class_at naming n taken p ≡ Ok (cap, class, with_each taken xs, q)) × AreLeft rest q
unfolding class_at
class_again naming n named taken p cap class xs rest small set lists fresh left =
    capped_again naming (codes "class") n named taken p cap class xs rest refl small set lists fresh left

-- ---- all classes

apart_found : (a b c : Bool) (m : ℕ) → (a ≡ true → b ≡ false) → c ≡ (a || b) → m + indicator c ≤ 1
    → indicator a + m + indicator b ≤ 1
apart_found true true c m fresh left so_far = absurd (cc (fresh refl))
apart_found true false true m fresh left so_far = omega arith
apart_found true false false m fresh left so_far = absurd cc
apart_found false true true m fresh left so_far = omega arith
apart_found false true false m fresh left so_far = absurd cc
apart_found false false true m fresh left so_far = absurd cc
apart_found false false false m fresh left so_far = omega arith

apart_fresh : (a b : Bool) (m : ℕ) → indicator a + m + indicator b ≤ 1 → a ≡ true → b ≡ false
apart_fresh true true m h e = absurd (omega arith)
apart_fresh true false m h e = refl
apart_fresh false b m h e = absurd cc

apart_left : (a b c : Bool) (m : ℕ) → c ≡ (a || b) → indicator a + m + indicator b ≤ 1 → m + indicator c ≤ 1
apart_left true b true m left h = omega arith
apart_left true b false m left h = absurd cc
apart_left false b c m left h = rw left (omega arith)

-- class lines were read, no two of which share an element, nor any with those that were taken before
pub record AreClassesRead (naming : Naming) (n many : ℕ) (taken : List ℕ) (p : LinesLeft) (classes : List (List ℕ)) (caps : List ℕ)
    (q : LinesLeft) : Type 0 where
  pub count : length classes ≡ many
  pub as_many : length caps ≡ length classes
  pub small : All (λ cap. cap ≤ most_elements) caps
  pub sets : All (IsSet n) classes
  pub apart : (x : ℕ) → multiplicity x classes + indicator (is_member x taken) ≤ 1
  pub spelled : (rest : List Line) → AreLeft rest q → (lines : List Line) × CappedLines naming (codes "class") classes caps lines rest × AreLeft
      lines p

indicator_small : (b : Bool) → 0 + indicator b ≤ 1
indicator_small true = omega arith
indicator_small false = omega arith

pub classes_read : (naming : Naming) (n : ℕ) → IsNaming n naming → (many : ℕ) (taken : List ℕ) (p : LinesLeft)
    (classes : List (List ℕ)) (caps : List ℕ) (q : LinesLeft)
    → classes_at naming n many taken p ≡ Ok (classes, caps, q) → AreClassesRead naming n many taken p classes caps q
unfolding classes_at multiplicity
classes_read naming n named zero taken p classes caps q e =
    let same = found-same ([], [], p) (classes, caps, q) e in
    let none : AreClassesRead naming n 0 taken p [] [] p = record {
      count = refl;
      as_many = refl;
      small = All-nil (λ cap. cap ≤ most_elements);
      sets = All-nil (IsSet n);
      apart = λ x. indicator_small (is_member x taken);
      spelled = λ rest left. (rest, refl, left);
    } in
    subst (λ (r : List (List ℕ) × List ℕ × LinesLeft). AreClassesRead naming n 0 taken p r.0 r.1 r.2) same none
classes_read naming n named (suc many) taken p classes caps q e =
    let first = bind_found (class_at naming n taken p) _ (classes, caps, q) e in
    let others = bind_found (classes_at naming n many first.0.2 first.0.3) _ (classes, caps, q) first.2 in
    let same = found-same (first.0.1 ∷ others.0.0, first.0.0 ∷ others.0.1, others.0.2) (classes, caps, q) others.2 in
    let one = class_read naming n named taken p first.0.0 first.0.1 first.0.2 first.0.3 first.1 in
    let more = classes_read naming n named many first.0.2 first.0.3 others.0.0 others.0.1 others.0.2 others.1 in
    let all : AreClassesRead naming n (suc many) taken p (first.0.1 ∷ others.0.0) (first.0.0 ∷ others.0.1) others.0.2 = record {
      count = ap suc more.count;
      as_many = ap suc more.as_many;
      small = All-cons (λ cap. cap ≤ most_elements) first.0.0 others.0.1 one.small more.small;
      sets = All-cons (IsSet n) first.0.1 others.0.0 one.in_range more.sets;
      apart = λ x. apart_found (is_member x first.0.1) (is_member x taken) (is_member x first.0.2) (multiplicity x others.0.0) (one.fresh x)
          (one.taken_left x) (more.apart x);
      spelled = λ rest left.
          let behind = more.spelled rest left in
          let here = listed_line naming (codes "class") first.0.0 one.xs in
          (here ∷ behind.0, (one.xs, behind.0, one.lists, refl, behind.1), one.spelled behind.0 behind.2);
    } in
    subst (λ (r : List (List ℕ) × List ℕ × LinesLeft). AreClassesRead naming n (suc many) taken p r.0 r.1 r.2) same all

pub classes_again : (naming : Naming) (n : ℕ) → IsNaming n naming → (taken : List ℕ) (p : LinesLeft) (classes : List (List ℕ))
    (caps : List ℕ) (lines rest : List Line)
    → All (λ cap. cap ≤ most_elements) caps → All (IsSet n) classes
    → ((x : ℕ) → multiplicity x classes + indicator (is_member x taken) ≤ 1) → CappedLines naming (codes "class") classes caps lines rest
    → AreLeft lines p
    → (q : LinesLeft) × (classes_at naming n (length classes) taken p ≡ Ok (classes, caps, q)) × AreLeft rest q
unfolding classes_at multiplicity
classes_again naming n named taken p [] [] lines rest small sets apart spelled left = (p, refl, subst (λ (ls : List Line). AreLeft ls p) spelled left)
classes_again naming n named taken p (class ∷ classes) (cap ∷ caps) lines rest small sets apart spelled left =
    let xs = spelled.0 in
    let set = All-head (IsSet n) class classes sets in
    let fresh = λ (x : ℕ). apart_fresh (is_member x class) (is_member x taken) (multiplicity x classes) (apart x) in
    let here = subst (λ (ls : List Line). AreLeft ls p) spelled.3 left in
    let first = class_again naming n named taken p cap class xs spelled.1 (All-head (λ cap. cap ≤ most_elements) cap caps small) set
    spelled.2 fresh here in
    let taken_left = λ (x : ℕ). is_member-with_each x taken xs ∙ ap (λ (b : Bool). b || is_member x taken) (spelled.2.members x) in
    let later = λ (x : ℕ). apart_left (is_member x class) (is_member x taken) (is_member x (with_each taken xs)) (multiplicity x classes)
    (taken_left x) (apart x) in
    let others = classes_again naming n named (with_each taken xs) first.0 classes caps spelled.1 rest
    (All-tail (λ cap. cap ≤ most_elements) cap caps small) (All-tail (IsSet n) class classes sets) later spelled.4 first.2 in
    (others.0, rw (first.1, others.1) refl, others.2)
classes_again naming n named taken p _ _ lines rest small sets apart spelled left = absurd spelled

-- ---- the classes of a partition

once_only : (naming : Naming) (n many : ℕ) (p : LinesLeft) (classes : List (List ℕ)) (caps : List ℕ) (q : LinesLeft)
    → AreClassesRead naming n many [] p classes caps q → AreDisjoint classes
once_only naming n many p classes caps q read = record { once = λ x. omega (arith, read.apart x) }

-- classes that are read meet the conditions of a partition matroid
pub classes_sound : (naming : Naming) (n : ℕ) → IsNaming n naming → (many : ℕ) (p : LinesLeft) (classes : List (List ℕ)) (caps : List ℕ)
    (q : LinesLeft)
    → classes_at naming n many [] p ≡ Ok (classes, caps, q) → IsPartition n classes caps
classes_sound naming n named many p classes caps q e =
    let read = classes_read naming n named many [] p classes caps q e in
    record {
      capped = read.as_many;
      inside = All-weaker (IsSet n) (AllBelow n) (λ class set. set.below) classes read.sets;
      disjoint = once_only naming n many p classes caps q read;
    }

pub classes_valid : (naming : Naming) (n many : ℕ) (p : LinesLeft) (classes : List (List ℕ)) (caps : List ℕ) (q : LinesLeft)
    → many ≤ most_sets
    → AreClassesRead naming n many [] p classes caps q → AreClasses n classes caps
classes_valid naming n many p classes caps q few read = record {
  few = omega (arith, read.count);
  as_many = read.as_many;
  caps_small = read.small;
  sets = read.sets;
  disjoint = once_only naming n many p classes caps q read;
}
