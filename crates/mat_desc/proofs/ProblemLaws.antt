-- What is known of a problem that was read.
use Rattle.mat_desc.proofs.Common.{◌≡◌, ◌<◌, ◌^◌, ℕ, true, List, [], ◌∷◌, Some, ◌⊎◌, inl, inr, Result, Ok, Err, IfOk, refl, sym, ap, subst, ◌∙◌, ◌↔◌, is_letter, ◌>>=◌, Gives, DescRefusal, Fault, IsValid, Spells, SpellsNamed, Instance, Notation, numbers, names, IsNaming, IsNotationFor, NamedInstance}
use Rattle.mat_desc.proofs.Common.{named_by, numbered, count_of_elements, count_of_vertices, WrittenInstance, written_of, read_of, named_of}
use Rattle.mat_words.specs.declared.refusal.Refusal.TheVariants as refusals
use Rattle.mat_desc.proofs.NumberedNames.{AreNames-numbered, length-numbered}
use Rattle.mat_desc.proofs.InstanceLaws.{description_found, read_found, read_again, named_found, named_again}
use Rattle.mat_desc.proofs.NamedCounts.{few_elements, few_vertices}

abbrev problem : Instance → Result Instance Fault
problem instance = Ok instance

abbrev no_problem : Fault → Result Instance Fault
no_problem fault = Err fault

-- a problem that is read is in range
pub written_valid : (text : List ℕ) (read : WrittenInstance) → written_of text ≡ Ok read → IsValid read.instance
written_valid text read e = (description_found text read e).0.valid

-- an answer that is as the reading gives
pub gives_found : {X : Type 0} (view : X → Instance) (text : List ℕ) (result : Result X DescRefusal) → Gives view result (read_of text)
    → IfOk result (λ x. Spells text (view x))
gives_found view text (Ok x) gives = read_found text (view x) gives
gives_found view text (Err refusal) gives = tt

pub gives_only : {X : Type 0} (view : X → Instance) (text : List ℕ) (result : Result X DescRefusal) → Gives view result (read_of text)
    → (instance : Instance) → Spells text instance → Gives view result (Ok instance)
gives_only view text (Ok x) gives instance spelled = sym (read_again text instance spelled) ∙ gives
gives_only view text (Err refusals.Memory) gives instance spelled = tt
gives_only view text (Err (refusals.Fault kind line)) gives instance spelled = sym (read_again text instance spelled) ∙ gives

pub gives_valid : {X : Type 0} (view : X → Instance) (text : List ℕ) (result : Result X DescRefusal) → Gives view result (read_of text)
    → IfOk result (λ x. IsValid (view x))
gives_valid view text (Ok x) gives = (read_found text (view x) gives).valid
gives_valid view text (Err refusal) gives = tt

-- ---- with names

-- a letter with each number below n names n numbers
pub IsNaming-numbered : (letter n : ℕ) → is_letter letter ≡ true → n < 2 ^ 32 → IsNaming n (Some (numbered (letter ∷ []) n))
IsNaming-numbered letter n good few = (AreNames-numbered letter n good few, length-numbered (letter ∷ []) n)

-- the names that notation make are those of the elements and of the vertices
named_by-notation : (notation : Notation) (instance : Instance) → IsValid instance → IsNotationFor instance notation
    → IsNotationFor (named_by notation instance).instance (names (named_by notation instance).elements (named_by notation instance).vertices)
named_by-notation numbers instance valid notated = (
  IsNaming-numbered 101 (count_of_elements instance) refl (few_elements instance valid),
  IsNaming-numbered 118 (count_of_vertices instance) refl (few_vertices instance valid),
)
named_by-notation (names elements vertices) instance valid notated = notated

-- a text that spells a problem with names has a name for each element and each vertex
pub spelled-notation : (text : List ℕ) (problem : NamedInstance) → SpellsNamed text problem
    → IsNotationFor problem.instance (names problem.elements problem.vertices)
spelled-notation text problem s = subst (λ (x : NamedInstance). IsNotationFor x.instance (names x.elements x.vertices)) (sym s.named)
    (named_by-notation s.spells.notation problem.instance s.spells.valid s.spells.notated)

-- an answer that is as the reading with names gives
pub named_gives_found : {X : Type 0} (view : X → NamedInstance) (text : List ℕ) (result : Result X DescRefusal)
    → Gives view result (named_of text) → IfOk result (λ x. SpellsNamed text (view x))
named_gives_found view text (Ok x) gives = named_found text (view x) gives
named_gives_found view text (Err refusal) gives = tt

pub named_gives_only : {X : Type 0} (view : X → NamedInstance) (text : List ℕ) (result : Result X DescRefusal)
    → Gives view result (named_of text) → (named : NamedInstance) → SpellsNamed text named → Gives view result (Ok named)
named_gives_only view text (Ok x) gives named spelled = sym (named_again text named spelled) ∙ gives
named_gives_only view text (Err refusals.Memory) gives named spelled = tt
named_gives_only view text (Err (refusals.Fault kind line)) gives named spelled = sym (named_again text named spelled) ∙ gives

pub named_gives_valid : {X : Type 0} (view : X → NamedInstance) (text : List ℕ) (result : Result X DescRefusal)
    → Gives view result (named_of text) → IfOk result (λ x. IsValid (view x).instance)
named_gives_valid view text (Ok x) gives = (named_found text (view x) gives).spells.valid
named_gives_valid view text (Err refusal) gives = tt

pub named_gives_notated : {X : Type 0} (view : X → NamedInstance) (text : List ℕ) (result : Result X DescRefusal)
    → Gives view result (named_of text)
    → IfOk result (λ x. IsNotationFor (view x).instance (names (view x).elements (view x).vertices))
named_gives_notated view text (Ok x) gives = spelled-notation text (view x) (named_found text (view x) gives)
named_gives_notated view text (Err refusal) gives = tt

-- ---- any text

same_problem : (first second : Instance) → problem first ≡ problem second → first ≡ second
same_problem first second e = cc

-- a reading without a fault, and one with it
abbrev seen : {A F : Type 0} → A → Result A F
seen x = Ok x

abbrev refused : {A F : Type 0} → F → Result A F
refused fault = Err fault

err-same : {A F : Type 0} (first second : F) → refused {A = A} first ≡ refused {A = A} second → first ≡ second
err-same first second e = cc

-- two views of a reading have the same faults
same_faults : {A B C F : Type 0} (reading : Result A F) (f : A → B) (g : A → C) (fault : F) → (reading >>= λ x. seen (f x)) ≡ refused fault
    → (reading >>= λ x. seen (g x)) ≡ refused fault
same_faults (Ok x) f g fault e = absurd cc
same_faults {A} {B} {C} {F} (Err first) f g fault e = ap (λ (y : F). refused {A = C} y) (err-same {A = B} first fault e)

pub one_problem : (text : List ℕ) (first second : Instance) → Spells text first → Spells text second → first ≡ second
one_problem text first second s t = same_problem first second (sym (read_again text first s) ∙ read_again text second t)

pub either : (text : List ℕ) → ((instance : Instance) × Spells text instance) ⊎ ((fault : Fault) × (read_of text ≡ Err fault))
either text = from (read_of text) refl
  where
    from : (r : Result Instance Fault) → read_of text ≡ r → ((instance : Instance) × Spells text instance) ⊎ ((fault : Fault)
        × (read_of text ≡ Err fault))
    from (Ok instance) e = inl (instance, read_found text instance e)
    from (Err fault) e = inr (fault, e)

pub never_both : (text : List ℕ) (instance : Instance) (fault : Fault) → Spells text instance → read_of text ≡ Err fault → ⊥
never_both text instance fault s e = apart (sym (read_again text instance s) ∙ e)
  where
    apart : problem instance ≡ no_problem fault → ⊥
    apart h = cc

pub one_fault : (text : List ℕ) (first second : Fault) → read_of text ≡ Err first → read_of text ≡ Err second → first ≡ second
one_fault text first second d e = err-same {A = Instance} first second (sym d ∙ e)

-- with names the faults are the same
pub same_fault : (text : List ℕ) (fault : Fault) → (named_of text ≡ Err fault) ↔ (read_of text ≡ Err fault)
same_fault text fault = (
  same_faults (written_of text) (λ read. named_by read.notation read.instance) (λ read. read.instance) fault,
  same_faults (written_of text) (λ read. read.instance) (λ read. named_by read.notation read.instance) fault,
)
