-- Texts that keep their paragraphs, and texts that have one paragraph more.
use Rattle.std.proofs.Common.{◌≡◌, ℕ, List, get_or, ap, ◌∙◌}
use Rattle.std.specs.Prelude.{Option, None, Result, Ok, Err, OnOk, slice_get}
use Rattle.mat_text.specs.Paragraphs.{AddsParagraph, AreShallow, KeepsParagraphs}
use Rattle.mat_text.specs.declared.text.Text.{Text}

pub kept_same : (old new : Text) → new.paragraphs.items ≡ old.paragraphs.items → KeepsParagraphs old new
kept_same old new e k p h = ap (λ xs. slice_get xs k) e ∙ h

-- one paragraph more, of whose words nothing is said
pub adds_any : {X E : Type 0} (r : Result X E) (k : ℕ) (words : Option (List ℕ)) (old new : Text) → OnOk r (AddsParagraph k words old new)
    → OnOk r (AddsParagraph k None old new)
adds_any (Ok x) k words old new a = record { paragraph = a.paragraph; last = a.last; indented = a.indented; told = tt }
adds_any (Err e) k words old new a = tt

pub all_shallow : (text : Text) → AreShallow text.paragraphs.items
all_shallow text = λ k d lt. (get_or text.paragraphs.items k d).shallow
