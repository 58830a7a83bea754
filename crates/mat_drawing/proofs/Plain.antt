-- Escaped words are plain: so is each entity, and each byte that has none.
use Rattle.mat_drawing.proofs.Common.{◌≡◌, ℕ, Bool, true, false, ◌==◌, List, [], ◌∷◌, if◌then◌else◌, codes, refl, list_all-append, entity, escaped, is_plain}
use Rattle.std.specs.List.{list_all}

byte_plain : (b : ℕ) (p q r s : Bool) → (b == 60) ≡ q → (b == 62) ≡ r → (b == 34) ≡ s
    → list_all is_plain (if p then codes "&amp;" else if q then codes "&lt;" else if r then codes "&gt;" else if s then codes "&quot;" else b ∷ []) ≡ true
byte_plain b false false false false e60 e62 e34 = rw e60 (rw e62 (rw e34 refl))
byte_plain b _ q r s _ _ _ = refl

entity_plain : (b : ℕ) → list_all is_plain (entity b) ≡ true
entity_plain b = byte_plain b (b == 38) (b == 60) (b == 62) (b == 34) refl refl refl

pub escaped_plain : (words : List ℕ) → list_all is_plain (escaped words) ≡ true
escaped_plain [] = refl
escaped_plain (b ∷ words) = rw (list_all-append is_plain (entity b) (escaped words)) (rw (entity_plain b) (escaped_plain words))
