-- The names of attributes, in the order in which they stand in an element.
use Rattle.std.specs.Prelude.{ℕ, List, [], ◌∷◌, ◌++◌, codes}

-- those that tell where an element is
abbrev pub place_names : List (List ℕ)
place_names =
    codes "xmlns" ∷ codes "x" ∷ codes "y" ∷ codes "width" ∷ codes "height" ∷ codes "viewBox" ∷ codes "cx" ∷ codes "cy" ∷ codes "r" ∷ codes "d" ∷ []

-- those of an arrow head
abbrev pub marker_names : List (List ℕ)
marker_names =
    codes "id" ∷ codes "markerUnits" ∷ codes "markerWidth" ∷ codes "markerHeight" ∷ codes "refX" ∷ codes "refY" ∷ codes "orient" ∷ []

-- those that tell how high letters are and where they stand
abbrev pub letter_names : List (List ℕ)
letter_names = codes "dy" ∷ codes "font-family" ∷ codes "font-size" ∷ codes "text-anchor" ∷ []

-- those that tell what fills an element, and the colour and the width of lines
abbrev pub colour_names : List (List ℕ)
colour_names = codes "fill" ∷ codes "fill-opacity" ∷ codes "stroke" ∷ codes "stroke-width" ∷ []

-- those that tell the dashes, the corners and the ends of lines
abbrev pub line_names : List (List ℕ)
line_names = codes "stroke-dasharray" ∷ codes "stroke-linejoin" ∷ codes "stroke-linecap" ∷ codes "marker-end" ∷ []

-- those of a look
abbrev pub look_names : List (List ℕ)
look_names = letter_names ++ colour_names ++ line_names ++ codes "font-weight" ∷ codes "transform" ∷ []

-- all
abbrev pub attribute_names : List (List ℕ)
attribute_names = place_names ++ marker_names ++ look_names
