-- Paragraphs of texts, and what a call adds to them.
use Rattle.std.specs.Prelude.{◌≡◌, ℕ, ◌≤◌, ◌++◌, List, ◌∷◌, [], All, Option, Some, IfSome, slice_get, string_bytes}
use Rattle.mat_text.specs.declared.text.Paragraph.{Paragraph}
use Rattle.mat_text.specs.declared.text.Text.{Text}

-- at most four spaces stand in front of each paragraph
abbrev pub AreShallow : List Paragraph → Type 0
AreShallow paragraphs = All (λ paragraph. paragraph.indentation ≤ 4) paragraphs

-- each paragraph of the old text stands at its place in the new one
abbrev pub KeepsParagraphs : Text → Text → Type 0
KeepsParagraphs old new = (k : ℕ) (p : Paragraph) → slice_get old.paragraphs.items k ≡ Some p → slice_get new.paragraphs.items k ≡ Some p

-- the new text has one paragraph more: it stands last, behind so many spaces, and has these words, where they are known
pub record AddsParagraph (indentation : ℕ) (words : Option (List ℕ)) (old new : Text) : Type 0 where
  pub paragraph : Paragraph
  pub last : new.paragraphs.items ≡ old.paragraphs.items ++ paragraph ∷ []
  pub indented : paragraph.indentation ≡ indentation
  pub told : IfSome words (λ bytes. string_bytes paragraph.words ≡ bytes)
