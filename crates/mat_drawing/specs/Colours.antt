-- The numbered colours.
use Rattle.std.specs.Prelude.{ℕ, ◌+◌, ◌*◌, List, [], ◌∷◌}

-- a colour by its parts of red, green and blue, each from 0 to 255
abbrev pub rgb : ℕ → ℕ → ℕ → ℕ
rgb red green blue = (red * 256 + green) * 256 + blue

-- colours that most readers tell apart, those with the common kinds of colour blindness too (Okabe and Ito 2008)
abbrev pub numbered_colours : List ℕ
numbered_colours = rgb 0 114 178 ∷ rgb 213 94 0 ∷ rgb 0 158 115 ∷ rgb 204 121 167 ∷ rgb 230 159 0 ∷ rgb 86 180 233 ∷ rgb 0 0 0 ∷ []

-- the same, so pale that words on them can be read
abbrev pub pale_colours : List ℕ
pale_colours = rgb 204 227 240 ∷ rgb 247 223 204 ∷ rgb 204 236 227 ∷ rgb 245 228 237 ∷ rgb 250 236 204 ∷ rgb 221 240 251 ∷ rgb 221 221 221 ∷ []
