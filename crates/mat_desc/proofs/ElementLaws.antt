-- Lists of elements: what is read is spelled so, and what is spelled so is read.
use Rattle.mat_desc.proofs.Common.{◌≡◌, ℕ, Bool, true, false, ◌||◌, eqb, List, [], ◌∷◌, Ok, refl, sym, ap, subst, ◌∙◌, inl, inr, cases_Bool, eq-eqb, eqb-true, or_parts, is_member, IsRising, AllBelow, IsSet, AreDistinct, with_one, AllBelow-member, AllBelow-from_members, IsSet-from, Repeated, Naming}
use Rattle.mat_desc.proofs.Common.{word_for, words_for, IsNaming, WordsLeft, member_at, elements_at, elements_from, Lists, found-same, bind_found, refused_found}
use Rattle.mat_sets.proofs.Members.{is_member-with_one, IsRising-with_one, IsRising-nil, same_members}
use Rattle.mat_sets.proofs.Truths.{or_none}
use Rattle.mat_desc.proofs.NotationLaws.{member_found, member_again}

-- the set with each of the items added
pub with_each : List ℕ → List ℕ → List ℕ
with_each set [] = set
with_each set (x ∷ xs) = with_each (with_one set x) xs

or_swap : (a b c : Bool) → (a || (b || c)) ≡ ((b || a) || c)
or_swap true true c = refl
or_swap true false c = refl
or_swap false true c = refl
or_swap false false c = refl

pub is_member-with_each : (k : ℕ) (set xs : List ℕ) → is_member k (with_each set xs) ≡ (is_member k xs || is_member k set)
unfolding with_each
is_member-with_each k set [] = refl
is_member-with_each k set (x ∷ xs) = is_member-with_each k (with_one set x) xs ∙ rw is_member-with_one
    (or_swap (is_member k xs) (eqb k x) (is_member k set))

pub IsRising-with_each : (set xs : List ℕ) → IsRising set → IsRising (with_each set xs)
unfolding with_each
IsRising-with_each set [] rising = rising
IsRising-with_each set (x ∷ xs) rising = IsRising-with_each (with_one set x) xs (IsRising-with_one set x rising)

-- words were read as elements, each once and none of them taken before
pub record AreElementsRead (naming : Naming) (n : ℕ) (taken set : List ℕ) (words : List (List ℕ)) (made left : List ℕ) : Type 0 where
  pub xs : List ℕ
  pub cut : words ≡ words_for naming xs
  pub distinct : AreDistinct xs
  pub below : AllBelow n xs
  pub fresh : (x : ℕ) → is_member x xs ≡ true → is_member x taken ≡ false
  pub set_made : made ≡ with_each set xs
  pub taken_left : left ≡ with_each taken xs

-- where no later item is x or is taken, and x is not taken
pub fresh_first : (x : ℕ) (xs taken : List ℕ) → is_member x taken ≡ false
    → ((y : ℕ) → is_member y xs ≡ true → is_member y (with_one taken x) ≡ false)
    → (is_member x xs ≡ false) × ((y : ℕ) → is_member y (x ∷ xs) ≡ true → is_member y taken ≡ false)
fresh_first x xs taken free later = (apart, each)
  where
    apart : is_member x xs ≡ false
    apart = elim (cases_Bool (is_member x xs)) [
      | inl stands ↦ let both = or_parts (eqb x x) (is_member x taken) (sym (is_member-with_one x x taken) ∙ later x stands) in absurd
          (cc (eq-eqb x x refl, both.0))
      | inr free ↦ free
    ]

    each : (y : ℕ) → is_member y (x ∷ xs) ≡ true → is_member y taken ≡ false
    each y stands = elim (cases_Bool (eqb y x)) [
      | inl same ↦ subst (λ (z : ℕ). is_member z taken ≡ false) (sym (eqb-true y x same)) free
      | inr other ↦ (or_parts (eqb y x) (is_member y taken) (sym (is_member-with_one y x taken) ∙ later y (rw other at stands))).1
    ]

-- where x and later items are not taken, and x is none of the later ones, these are not taken behind x
pub later_free : (x : ℕ) (xs taken : List ℕ) → is_member x xs ≡ false
    → ((y : ℕ) → is_member y (x ∷ xs) ≡ true → is_member y taken ≡ false)
    → (y : ℕ) → is_member y xs ≡ true → is_member y (with_one taken x) ≡ false
later_free x xs taken apart fresh y stands = elim (cases_Bool (eqb y x)) [
  | inl same ↦ let moved : is_member x xs ≡ true = subst (λ (z : ℕ). is_member z xs ≡ true) (eqb-true y x same) stands in absurd cc
  | inr other ↦ let free : is_member y taken ≡ false = fresh y (rw (other, stands) refl) in is_member-with_one y x taken ∙ rw (other, free) refl
]

pub elements_found : (naming : Naming) (n : ℕ) → IsNaming n naming → (line : ℕ) (taken set : List ℕ) (words : List (List ℕ))
    (made left : List ℕ)
    → elements_from naming n line taken set words ≡ Ok (made, left) → AreElementsRead naming n taken set words made left
unfolding elements_from with_each
elements_found naming n named line taken set [] made left e =
    let same = found-same (set, taken) (made, left) e in
    record {
      xs = [];
      cut = refl;
      distinct = tt;
      below = tt;
      fresh = λ x h. absurd cc;
      set_made = sym (ap (λ (p : List ℕ × List ℕ). p.0) same);
      taken_left = sym (ap (λ (p : List ℕ × List ℕ). p.1) same);
    }
elements_found naming n named line taken set (word ∷ words) made left e =
    let element = bind_found (member_at naming n (record { line = line; words = word ∷ words })) _ (made, left) e in
    let test = refused_found (is_member element.0.0 taken) (Repeated, line) _ (made, left) element.2 in
    let first = member_found naming n named (record { line = line; words = word ∷ words }) element.0.0 element.0.1 element.1 in
    let cut : word ∷ words ≡ word_for naming element.0.0 ∷ element.0.1.words = first.cut in
    let behind : words ≡ element.0.1.words = cc in
    let more = elements_found naming n named line (with_one taken element.0.0) (with_one set element.0.0) words made left test.1 in
    let parts = fresh_first element.0.0 more.xs taken test.0 more.fresh in
    record {
      xs = element.0.0 ∷ more.xs;
      cut = cut ∙ ap (λ (t : List (List ℕ)). word_for naming element.0.0 ∷ t) (sym behind ∙ more.cut);
      distinct = (parts.0, more.distinct);
      below = (first.most, more.below);
      fresh = parts.1;
      set_made = more.set_made;
      taken_left = more.taken_left;
    }

pub elements_again : (naming : Naming) (n : ℕ) → IsNaming n naming → (line : ℕ) (taken set xs : List ℕ) → AreDistinct xs → AllBelow n xs
    → ((x : ℕ) → is_member x xs ≡ true → is_member x taken ≡ false)
    → elements_from naming n line taken set (words_for naming xs) ≡ Ok (with_each set xs, with_each taken xs)
unfolding elements_from with_each
elements_again naming n named line taken set [] distinct below fresh = refl
elements_again naming n named line taken set (x ∷ xs) distinct below fresh =
    let free : is_member x taken ≡ false = fresh x (rw (eq-eqb x x refl) refl) in
    rw (member_again naming n named line x (words_for naming xs) below.0, free)
    (elements_again naming n named line (with_one taken x) (with_one set x) xs distinct.1 below.1 (later_free x xs taken distinct.0 fresh))

-- ---- the set that a list of elements makes

pub is_member-made : (k : ℕ) (xs : List ℕ) → is_member k (with_each [] xs) ≡ is_member k xs
is_member-made k xs = is_member-with_each k [] xs ∙ or_none (is_member k xs)

-- the members of the set that was made, and of what is taken behind it
pub members_made : (taken xs made : List ℕ) → made ≡ with_each [] xs → (x : ℕ) → is_member x made ≡ is_member x xs
members_made taken xs made e x = ap (is_member x) e ∙ is_member-made x xs

pub members_left : (taken xs made left : List ℕ) → made ≡ with_each [] xs → left ≡ with_each taken xs → (x : ℕ)
    → is_member x left ≡ (is_member x made || is_member x taken)
members_left taken xs made left e f x = ap (is_member x) f ∙ is_member-with_each x taken xs ∙ ap (λ (b : Bool). b || is_member x taken)
    (sym (members_made taken xs made e x))

-- distinct elements list the set that they make
pub Lists-made : (xs : List ℕ) → AreDistinct xs → Lists xs (with_each [] xs)
Lists-made xs distinct = record { distinct = distinct; members = λ x. sym (is_member-made x xs) }

pub IsSet-made : (n : ℕ) (xs : List ℕ) → AllBelow n xs → IsSet n (with_each [] xs)
IsSet-made n xs below = IsSet-from n (with_each [] xs) (IsRising-with_each [] xs IsRising-nil)
    (λ x h. AllBelow-member n xs x below (sym (is_member-made x xs) ∙ h))

-- elements that list a set make it
pub made-listed : (n : ℕ) (xs set : List ℕ) → IsSet n set → Lists xs set → with_each [] xs ≡ set
made-listed n xs set is_set lists = same_members (with_each [] xs) set (IsRising-with_each [] xs IsRising-nil) is_set.rising
    (λ k. is_member-made k xs ∙ lists.members k)

-- elements that were read list the set that they make
pub Lists-read : (naming : Naming) (n : ℕ) (taken : List ℕ) (words : List (List ℕ)) (set left : List ℕ)
    (read : AreElementsRead naming n taken [] words set left) → Lists read.xs set
Lists-read naming n taken words set left read = subst (λ (s : List ℕ). Lists read.xs s) (sym read.set_made) (Lists-made read.xs read.distinct)

pub IsSet-read : (naming : Naming) (n : ℕ) (taken : List ℕ) (words : List (List ℕ)) (set left : List ℕ)
    → AreElementsRead naming n taken [] words set left → IsSet n set
IsSet-read naming n taken words set left read = subst (λ (s : List ℕ). IsSet n s) (sym read.set_made) (IsSet-made n read.xs read.below)

-- elements that list a set are below the bound that it has
pub listed_below : (n : ℕ) (xs set : List ℕ) → IsSet n set → Lists xs set → AllBelow n xs
listed_below n xs set in_range lists = AllBelow-from_members n xs (λ k h. AllBelow-member n set k in_range.below (sym (lists.members k) ∙ h))

-- elements that list a set are read as that set
pub set_again : (naming : Naming) (n : ℕ) → IsNaming n naming → (line : ℕ) (taken set xs : List ℕ) → IsSet n set → Lists xs set
    → ((x : ℕ) → is_member x set ≡ true → is_member x taken ≡ false)
    → elements_from naming n line taken [] (words_for naming xs) ≡ Ok (set, with_each taken xs)
set_again naming n named line taken set xs in_range lists fresh =
    let below = listed_below n xs set in_range lists in
    elements_again naming n named line taken [] xs lists.distinct below (λ x h. fresh x (sym (lists.members x) ∙ h)) ∙ rw
    (made-listed n xs set in_range lists) refl

-- what was read is a set of elements
pub IsSet-elements : (naming : Naming) (n : ℕ) → IsNaming n naming → (w : WordsLeft) (set left : List ℕ)
    → elements_at naming n [] w ≡ Ok (set, left) → IsSet n set
IsSet-elements naming n named w set left e =
    IsSet-read naming n [] w.words set left (elements_found naming n named w.line [] [] w.words set left e)
