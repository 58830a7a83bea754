-- Markup and documents (Extensible Markup Language 1.0, sections 2.1, 2.4 and 3.1).
use Rattle.std.specs.Prelude.{◌≡◌, ℕ, ◌&&◌, Bool, true, Option, Some, None, List, [], ◌∷◌, ◌++◌, codes, map}
use Rattle.std.specs.List.{flat_map, list_all}
use Rattle.mat_drawing.specs.Escaping.{escaped}
use Rattle.mat_drawing.specs.Names.{are_distinct, is_name}
use Rattle.mat_text.specs.Texts.{is_text_byte}

-- markup as a tree: words, elements with their names and attributes, and pieces side by side
pub data Markup : Type 0 where
  nothing : Markup
  words : List ℕ → Markup
  -- an element with nothing in it: its name, and the name and the value of each attribute
  empty_element : List ℕ → List (List ℕ × List ℕ) → Markup
  -- an element with markup in it
  element : List ℕ → List (List ℕ × List ℕ) → Markup → Markup
  -- two pieces, one behind the other
  beside : Markup → Markup → Markup

-- an attribute as it stands behind a name: ` name="value"`
abbrev pub spelled_attribute : List ℕ × List ℕ → List ℕ
spelled_attribute a = 32 ∷ a.0 ++ codes "=\"" ++ escaped a.1 ++ codes "\""

-- a tag without its end: `<name` and the attributes
abbrev pub opening : List ℕ → List (List ℕ × List ℕ) → List ℕ
opening name attributes = 60 ∷ name ++ flat_map spelled_attribute attributes

-- the bytes of markup
abbrev pub spelled : Markup → List ℕ
spelled nothing = []
spelled (words w) = escaped w
spelled (empty_element name attributes) = opening name attributes ++ codes "/>"
spelled (element name attributes inside) = opening name attributes ++ codes ">" ++ spelled inside ++ codes "</" ++ name ++ codes ">"
spelled (beside first second) = spelled first ++ spelled second

-- whether the name of an attribute is one, and its value is printable
abbrev pub is_attribute : List ℕ × List ℕ → Bool
is_attribute a = is_name a.0 && list_all is_text_byte a.1

-- whether these are attributes, and no two have the same name (section 3.1, "Unique Att Spec")
abbrev pub are_attributes : List (List ℕ × List ℕ) → Bool
are_attributes attributes = list_all is_attribute attributes && are_distinct (map (λ a. a.0) attributes)

-- whether all names are names, the attributes of each element have different ones, and all words and values are printable
abbrev pub is_well_formed : Markup → Bool
is_well_formed nothing = true
is_well_formed (words w) = list_all is_text_byte w
is_well_formed (empty_element name attributes) = is_name name && are_attributes attributes
is_well_formed (element name attributes inside) = is_name name && are_attributes attributes && is_well_formed inside
is_well_formed (beside first second) = is_well_formed first && is_well_formed second

-- a text is well-formed markup: it is spelled by such a tree
pub record IsMarkup (text : List ℕ) : Type 0 where
  pub tree : Markup
  pub well_formed : is_well_formed tree ≡ true
  pub told : text ≡ spelled tree

-- the attribute of a name, where it has a value
abbrev pub attribute_of : List ℕ → Option (List ℕ) → List (List ℕ × List ℕ)
attribute_of name (Some value) = (name, value) ∷ []
attribute_of name None = []

-- the attributes of names, each where it has a value
abbrev pub attributes_of : List (List ℕ × Option (List ℕ)) → List (List ℕ × List ℕ)
attributes_of choices = flat_map (λ c. attribute_of c.0 c.1) choices

-- the new text is the old one with an attribute or none behind it for each of these names, in their order
pub record AddsAttributes (names : List (List ℕ)) (old new : List ℕ) : Type 0 where
  pub choices : List (List ℕ × Option (List ℕ))
  pub named : map (λ c. c.0) choices ≡ names
  pub well_formed : list_all is_attribute (attributes_of choices) ≡ true
  pub told : new ≡ old ++ flat_map spelled_attribute (attributes_of choices)

-- the new text is the old one with well-formed markup behind it
pub record AddsMarkup (old new : List ℕ) : Type 0 where
  pub added : List ℕ
  pub is_markup : IsMarkup added
  pub told : new ≡ old ++ added

-- a text is one element of this name, with well-formed markup in it
pub record IsElement (name text : List ℕ) : Type 0 where
  pub attributes : List (List ℕ × List ℕ)
  pub inside : Markup
  pub well_formed : is_well_formed (element name attributes inside) ≡ true
  pub told : text ≡ spelled (element name attributes inside)

-- a text is a document: one element of this name, and a line feed behind it
pub record IsDocument (name text : List ℕ) : Type 0 where
  pub root : List ℕ
  pub is_element : IsElement name root
  pub told : text ≡ root ++ 10 ∷ []

-- a text is a picture: a document whose element is `svg`
abbrev pub IsPicture : List ℕ → Type 0
IsPicture text = IsDocument (codes "svg") text
