-- Attributes of different names, each of which is there or not, have different names.
use Rattle.mat_drawing.proofs.Common.{◌≡◌, ℕ, true, false, not, Option, Some, None, List, [], ◌∷◌, ◌++◌, map, refl, subst, sym, bytes_eq, and_from, and_parts, not-true, not_from_false, or_from, or_parts, attribute_names, attribute_of, attributes_of, are_distinct, is_among}

-- the names of attributes
abbrev names_of : List (List ℕ × List ℕ) → List (List ℕ)
names_of attributes = map (λ a. a.0) attributes

attribute_names_distinct : are_distinct attribute_names ≡ true
attribute_names_distinct = refl

absent_before : (name own : List ℕ) (value : Option (List ℕ)) (others : List (List ℕ × List ℕ)) → bytes_eq name own ≡ false → is_among name (names_of others) ≡ false
    → is_among name (names_of (attribute_of own value ++ others)) ≡ false
absent_before name own None others h k = k
absent_before name own (Some value) others h k = or_from (bytes_eq name own) (is_among name (names_of others)) h k

absent : (name : List ℕ) (choices : List (List ℕ × Option (List ℕ))) → is_among name (map (λ c. c.0) choices) ≡ false → is_among name (names_of (attributes_of choices)) ≡ false
absent name [] h = refl
absent name (c ∷ choices) h =
    let parts = or_parts (bytes_eq name c.0) (is_among name (map (λ d. d.0) choices)) h in
    absent_before name c.0 c.1 (attributes_of choices) parts.0 (absent name choices parts.1)

distinct_before : (own : List ℕ) (value : Option (List ℕ)) (others : List (List ℕ × List ℕ)) → is_among own (names_of others) ≡ false
    → are_distinct (names_of others) ≡ true → are_distinct (names_of (attribute_of own value ++ others)) ≡ true
distinct_before own None others h k = k
distinct_before own (Some value) others h k = and_from (not (is_among own (names_of others))) (are_distinct (names_of others)) (not_from_false (is_among own (names_of others)) h) k

distinct : (choices : List (List ℕ × Option (List ℕ))) → are_distinct (map (λ c. c.0) choices) ≡ true → are_distinct (names_of (attributes_of choices)) ≡ true
distinct [] h = refl
distinct (c ∷ choices) h =
    let others = map (λ d. d.0) choices in
    let parts = and_parts (not (is_among c.0 others)) (are_distinct others) h in
    distinct_before c.0 c.1 (attributes_of choices) (absent c.0 choices (not-true (is_among c.0 others) parts.0)) (distinct choices parts.1)

pub attributes_distinct : (choices : List (List ℕ × Option (List ℕ))) → map (λ c. c.0) choices ≡ attribute_names → are_distinct (map (λ a. a.0) (attributes_of choices)) ≡ true
attributes_distinct choices named = distinct choices (subst (λ names. are_distinct names ≡ true) (sym named) attribute_names_distinct)
