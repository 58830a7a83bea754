-- Each text that is made is spelled by a tree: the trees of its pieces, beside or within one another.
use Rattle.mat_drawing.proofs.Common.{◌≡◌, ℕ, Bool, true, false, ◌&&◌, if◌then◌else◌, Some, None, List, [], ◌∷◌, ◌++◌, codes, map, refl, ap, sym, subst, ◌∙◌, append_assoc, append-nil, and_from, flat_map-append, map-append, list_all-append, attribute_names, entity, escaped, nothing, words}
use Rattle.mat_drawing.proofs.Common.{empty_element, element, beside, are_attributes, attribute_of, attributes_of, is_attribute, is_well_formed, opening, spelled, spelled_attribute, AddsAttributes, AddsMarkup, IsElement, IsMarkup, are_distinct, is_name, printed, is_text_byte}
use Rattle.std.specs.List.{flat_map, list_all}
use Rattle.mat_drawing.proofs.Distinct.{attributes_distinct}

byte_by_test : (b : ℕ) (p : Bool) → is_text_byte b ≡ p → is_text_byte (if p then b else 63) ≡ true
byte_by_test b true e = e
byte_by_test b false e = refl

-- no byte is left that may not be printed
pub printed_words : (bytes : List ℕ) → list_all is_text_byte (map printed bytes) ≡ true
printed_words [] = refl
printed_words (b ∷ bytes) = and_from (is_text_byte (printed b)) (list_all is_text_byte (map printed bytes)) (byte_by_test b (is_text_byte b) refl) (printed_words bytes)

pub escaped_printed : (bytes : List ℕ) → flat_map (λ b. entity (printed b)) bytes ≡ escaped (map printed bytes)
escaped_printed [] = refl
escaped_printed (b ∷ bytes) = rw (escaped_printed bytes) refl

pub words_markup : (bytes text : List ℕ) → text ≡ escaped (map printed bytes) → IsMarkup text
words_markup bytes text e = record { tree = words (map printed bytes); well_formed = printed_words bytes; told = e }

pub nothing_markup : IsMarkup []
nothing_markup = record { tree = nothing; well_formed = refl; told = refl }

pub line_feed_markup : IsMarkup (10 ∷ [])
line_feed_markup = record { tree = words (10 ∷ []); well_formed = refl; told = refl }

pub beside_markup : (first second : List ℕ) → IsMarkup first → IsMarkup second → IsMarkup (first ++ second)
beside_markup first second m n = record {
  tree = beside m.tree n.tree;
  well_formed = and_from (is_well_formed m.tree) (is_well_formed n.tree) m.well_formed n.well_formed;
  told = rw m.told (rw n.told refl);
}

pub added_markup : (is_added : Bool) (old markup new : List ℕ) → IsMarkup old → IsMarkup markup → new ≡ (if is_added then old ++ markup else old) → IsMarkup new
added_markup true old markup new m n e = subst IsMarkup (sym e) (beside_markup old markup m n)
added_markup false old markup new m n e = subst IsMarkup (sym e) m

pub lines_markup : (lines text : List ℕ) → IsMarkup lines → text ≡ 10 ∷ lines → IsMarkup text
lines_markup lines text m e = subst IsMarkup (sym e) (beside_markup (10 ∷ []) lines line_feed_markup m)

pub attribute_added : (old new name value : List ℕ) → is_name name ≡ true
    → new ≡ ((((old ++ 32 ∷ []) ++ name) ++ codes "=\"") ++ escaped (map printed value)) ++ 34 ∷ [] → AddsAttributes (name ∷ []) old new
attribute_added old new name value h e =
    let parts = and_from (is_name name) (list_all is_text_byte (map printed value)) h (printed_words value) in
    record {
      choices = (name, Some (map printed value)) ∷ [];
      named = refl;
      well_formed = and_from (is_attribute (name, map printed value)) true parts refl;
      told = e ∙ simp append_assoc;
    }

pub none_added : (name text : List ℕ) → AddsAttributes (name ∷ []) text text
none_added name text = record { choices = (name, None) ∷ []; named = refl; well_formed = refl; told = simp append-nil }

pub more_added : {some others : List (List ℕ)} {first second third : List ℕ} → AddsAttributes some first second → AddsAttributes others second third
    → AddsAttributes (some ++ others) first third
more_added {some} {others} {first} {second} {third} f g =
    let both : attributes_of (f.choices ++ g.choices) ≡ attributes_of f.choices ++ attributes_of g.choices = flat_map-append (λ c. attribute_of c.0 c.1) f.choices g.choices in
    record {
      choices = f.choices ++ g.choices;
      named = map-append (λ c. c.0) f.choices g.choices ∙ rw f.named (rw g.named refl);
      well_formed = rw both (rw (list_all-append is_attribute (attributes_of f.choices) (attributes_of g.choices))
          (and_from (list_all is_attribute (attributes_of f.choices)) (list_all is_attribute (attributes_of g.choices)) f.well_formed g.well_formed));
      told = g.told ∙ (ap (λ (t : List ℕ). t ++ flat_map spelled_attribute (attributes_of g.choices)) f.told
          ∙ (append_assoc first _ _
          ∙ ap (λ (t : List ℕ). first ++ t) (sym (ap (flat_map spelled_attribute) both ∙ flat_map-append spelled_attribute (attributes_of f.choices) (attributes_of g.choices)))));
    }

-- what is known of the name and the attributes of an element
tag_well_formed : (name tag : List ℕ) → is_name name ≡ true → (a : AddsAttributes attribute_names (60 ∷ name) tag)
    → (is_name name && are_attributes (attributes_of a.choices)) ≡ true
tag_well_formed name tag h a =
    let own = attributes_of a.choices in
    let all = and_from (list_all is_attribute own) (are_distinct (map (λ b. b.0) own)) a.well_formed (attributes_distinct a.choices a.named) in
    and_from (is_name name) (are_attributes own) h all

pub empty_element_markup : (name tag text : List ℕ) → is_name name ≡ true → AddsAttributes attribute_names (60 ∷ name) tag → text ≡ tag ++ codes "/>" → IsMarkup text
empty_element_markup name tag text h a e = record {
  tree = empty_element name (attributes_of a.choices);
  well_formed = tag_well_formed name tag h a;
  told = e ∙ ap (λ (t : List ℕ). t ++ codes "/>") a.told;
}

element_told : (name tag inside opened within text : List ℕ) → tag ≡ opened → inside ≡ within → text ≡ ((((tag ++ 62 ∷ []) ++ inside) ++ codes "</") ++ name) ++ 62 ∷ []
    → text ≡ opened ++ codes ">" ++ within ++ codes "</" ++ name ++ codes ">"
element_told name tag inside opened within text e f g = g ∙ rw (e, f) (simp append_assoc)

pub element_spelled : (name tag inside text : List ℕ) → is_name name ≡ true → AddsAttributes attribute_names (60 ∷ name) tag → IsMarkup inside
    → text ≡ ((((tag ++ 62 ∷ []) ++ inside) ++ codes "</") ++ name) ++ 62 ∷ [] → IsElement name text
element_spelled name tag inside text h a m e = record {
  attributes = attributes_of a.choices;
  inside = m.tree;
  well_formed = and_from (is_name name && are_attributes (attributes_of a.choices)) (is_well_formed m.tree) (tag_well_formed name tag h a) m.well_formed;
  told = element_told name tag inside (opening name (attributes_of a.choices)) (spelled m.tree) text a.told m.told e;
}

pub element_markup : (name text : List ℕ) → IsElement name text → IsMarkup text
element_markup name text e = record { tree = element name e.attributes e.inside; well_formed = e.well_formed; told = e.told }

pub line_added : (old markup middle new : List ℕ) → IsMarkup markup → middle ≡ old ++ markup → new ≡ middle ++ 10 ∷ [] → AddsMarkup old new
line_added old markup middle new m e f = record {
  added = markup ++ 10 ∷ [];
  is_markup = beside_markup markup (10 ∷ []) m line_feed_markup;
  told = f ∙ rw e (simp append_assoc);
}

pub adds_nothing : (text : List ℕ) → AddsMarkup text text
adds_nothing text = record { added = []; is_markup = nothing_markup; told = simp append-nil }

pub adds_more : (first second third : List ℕ) → AddsMarkup first second → AddsMarkup second third → AddsMarkup first third
adds_more first second third f g = record {
  added = f.added ++ g.added;
  is_markup = beside_markup f.added g.added f.is_markup g.is_markup;
  told = g.told ∙ (ap (λ (t : List ℕ). t ++ g.added) f.told ∙ append_assoc first _ _);
}
