-- Well-formed markup is printable: names, entities and what stands around them are.
use Rattle.mat_drawing.proofs.Common.{◌≡◌, ℕ, Bool, true, false, ◌==◌, ◌&&◌, if◌then◌else◌, List, [], ◌∷◌, ◌++◌, codes, map, refl, sym, subst, ◌∙◌, arith, and_from, and_parts, list_all-append, entity, escaped, Markup, nothing, words, empty_element, element, beside, are_attributes, is_attribute}
use Rattle.mat_drawing.proofs.Common.{is_well_formed, opening, spelled, spelled_attribute, IsMarkup, are_distinct, is_letter, is_name, is_name_byte, is_text_byte}
use Rattle.std.specs.List.{flat_map, list_all}
use Rattle.std.proofs.lemmas.Bool.Decides.{nat_tests}

-- two texts beside one another
both : (first second : List ℕ) → list_all is_text_byte first ≡ true → list_all is_text_byte second ≡ true → list_all is_text_byte (first ++ second) ≡ true
both first second h k = list_all-append is_text_byte first second ∙ and_from (list_all is_text_byte first) (list_all is_text_byte second) h k

entity_by_tests : (b : ℕ) (p q r s : Bool) → is_text_byte b ≡ true
    → list_all is_text_byte (if p then codes "&amp;" else if q then codes "&lt;" else if r then codes "&gt;" else if s then codes "&quot;" else b ∷ []) ≡ true
entity_by_tests b false false false false h = and_from (is_text_byte b) true h refl
entity_by_tests b _ q r s h = refl

escaped_printable : (bytes : List ℕ) → list_all is_text_byte bytes ≡ true → list_all is_text_byte (escaped bytes) ≡ true
escaped_printable [] h = refl
escaped_printable (b ∷ bytes) h =
    let parts = and_parts (is_text_byte b) (list_all is_text_byte bytes) h in
    both (entity b) (escaped bytes) (entity_by_tests b (b == 38) (b == 60) (b == 62) (b == 34) parts.0) (escaped_printable bytes parts.1)

letter_printable : (b : ℕ) → is_letter b ≡ true → is_text_byte b ≡ true
letter_printable b h = grind (arith, nat_tests)

name_byte_printable : (b : ℕ) → is_name_byte b ≡ true → is_text_byte b ≡ true
name_byte_printable b h = grind (arith, nat_tests)

rest_printable : (bytes : List ℕ) → list_all is_name_byte bytes ≡ true → list_all is_text_byte bytes ≡ true
rest_printable [] h = refl
rest_printable (b ∷ bytes) h =
    let parts = and_parts (is_name_byte b) (list_all is_name_byte bytes) h in
    and_from (is_text_byte b) (list_all is_text_byte bytes) (name_byte_printable b parts.0) (rest_printable bytes parts.1)

name_printable : (name : List ℕ) → is_name name ≡ true → list_all is_text_byte name ≡ true
name_printable [] h = refl
name_printable (b ∷ bytes) h =
    let parts = and_parts (is_letter b) (list_all is_name_byte bytes) h in
    and_from (is_text_byte b) (list_all is_text_byte bytes) (letter_printable b parts.0) (rest_printable bytes parts.1)

attributes_printable : (attributes : List (List ℕ × List ℕ)) → list_all is_attribute attributes ≡ true → list_all is_text_byte (flat_map spelled_attribute attributes) ≡ true
attributes_printable [] h = refl
attributes_printable (a ∷ attributes) h =
    let parts = and_parts (is_attribute a) (list_all is_attribute attributes) h in
    let own = and_parts (is_name a.0) (list_all is_text_byte a.1) parts.0 in
    both (spelled_attribute a) (flat_map spelled_attribute attributes)
    (both (a.0 ++ codes "=\"" ++ escaped a.1) (codes "\"") (both (a.0 ++ codes "=\"") (escaped a.1) (both a.0 (codes "=\"") (name_printable a.0 own.0) refl) (escaped_printable a.1 own.1)) refl)
    (attributes_printable attributes parts.1)

opening_printable : (name : List ℕ) (attributes : List (List ℕ × List ℕ)) → (is_name name && are_attributes attributes) ≡ true → list_all is_text_byte (opening name attributes) ≡ true
opening_printable name attributes h =
    let parts = and_parts (is_name name) (are_attributes attributes) h in
    let own = and_parts (list_all is_attribute attributes) (are_distinct (map (λ a. a.0) attributes)) parts.1 in
    both name (flat_map spelled_attribute attributes) (name_printable name parts.0) (attributes_printable attributes own.0)

spelled_printable : (m : Markup) → is_well_formed m ≡ true → list_all is_text_byte (spelled m) ≡ true
spelled_printable nothing h = refl
spelled_printable (words w) h = escaped_printable w h
spelled_printable (empty_element name attributes) h = both (opening name attributes) (codes "/>") (opening_printable name attributes h) refl
spelled_printable (element name attributes inside) h =
    let parts = and_parts (is_name name && are_attributes attributes) (is_well_formed inside) h in
    let tag = and_parts (is_name name) (are_attributes attributes) parts.0 in
    let start = both (opening name attributes) (codes ">") (opening_printable name attributes parts.0) refl in
    let opened = opening name attributes ++ codes ">" in
    let filled = both (opened ++ spelled inside) (codes "</") (both opened (spelled inside) start (spelled_printable inside parts.1)) refl in
    both (opened ++ spelled inside ++ codes "</" ++ name) (codes ">") (both (opened ++ spelled inside ++ codes "</") name filled (name_printable name tag.0)) refl
spelled_printable (beside first second) h =
    let parts = and_parts (is_well_formed first) (is_well_formed second) h in
    both (spelled first) (spelled second) (spelled_printable first parts.0) (spelled_printable second parts.1)

pub markup_printable : (text : List ℕ) → IsMarkup text → list_all is_text_byte text ≡ true
markup_printable text m = subst (λ (t : List ℕ). list_all is_text_byte t ≡ true) (sym m.told) (spelled_printable m.tree m.well_formed)
