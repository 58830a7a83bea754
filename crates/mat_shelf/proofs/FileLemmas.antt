-- Files by name: a raised count changes neither what is held nor what is open, and lets no count fall.
use Rattle.std.proofs.Common.{◌≡◌, ℕ, zero, suc, ◌≤◌, ◌<◌, Bool, true, false, cond, List, [], ◌∷◌, length, get_or, set, Option, Some, None, refl, sym, ap, ◌∙◌, arith, inl, inr}
use Rattle.std.specs.Prelude.{position}
use Rattle.std.specs.List.{position_or_len}
use Rattle.std.proofs.lemmas.Grind.{common_steps}
use Rattle.std.proofs.lemmas.List.Sums.{fails_before_first}
use Rattle.std.proofs.lemmas.Bool.{cases_lt, cases_Bool}
use Rattle.std.proofs.lemmas.List.Quantifiers.{position-Some}
use Rattle.mat_shelf.specs.Faults.{Rose, next_count, last_count}
use Rattle.mat_shelf.specs.Files.{HaveDifferentNames, FileState, has_name, held_in, count_in, with_fault, files_with_fault, other_with_fault, open_at}

-- i is the place of the first file of this name
pub record IsPlaceOf (files : List FileState) (name : List ℕ) (i : ℕ) (f : FileState) : Type 0 where
  pub inside : i < length files
  pub named : has_name name (get_or files i f) ≡ true
  pub before : (k : ℕ) → k < i → has_name name (get_or files k f) ≡ false

later : (g f : FileState) (gs : List FileState) (name : List ℕ) (i : ℕ) → IsPlaceOf (g ∷ gs) name (suc i) f → IsPlaceOf gs name i f
later g f gs name i p = record { inside = omega (arith, p.inside); named = p.named; before = λ k lt. p.before (suc k) (omega (arith, lt)) }

pub files_with_fault-place : (files : List FileState) (name : List ℕ) (i : ℕ) (f : FileState) → IsPlaceOf files name i f → files_with_fault files name ≡ set files i (with_fault (get_or files i f))
files_with_fault-place [] name i f p = absurd (omega (arith, p.inside))
files_with_fault-place (g ∷ gs) name zero f p = rw p.named refl
files_with_fault-place (g ∷ gs) name (suc i) f p =
    let other : has_name name g ≡ false = p.before 0 (omega arith) in
    rw other (ap (λ (hs : List FileState). g ∷ hs) (files_with_fault-place gs name i f (later g f gs name i p)))

pub held_in-place : (files : List FileState) (name : List ℕ) (i : ℕ) (f : FileState) → IsPlaceOf files name i f → held_in files name ≡ Some (get_or files i f).bytes
held_in-place [] name i f p = absurd (omega (arith, p.inside))
held_in-place (g ∷ gs) name zero f p = rw p.named refl
held_in-place (g ∷ gs) name (suc i) f p =
    let other : has_name name g ≡ false = p.before 0 (omega arith) in
    rw other (held_in-place gs name i f (later g f gs name i p))

pub count_in-place : (files : List FileState) (other : ℕ) (name : List ℕ) (i : ℕ) (f : FileState) → IsPlaceOf files name i f → count_in files other name ≡ (get_or files i f).faults
count_in-place [] other name i f p = absurd (omega (arith, p.inside))
count_in-place (g ∷ gs) other name zero f p = rw p.named refl
count_in-place (g ∷ gs) other name (suc i) f p =
    let differs : has_name name g ≡ false = p.before 0 (omega arith) in
    rw differs (count_in-place gs other name i f (later g f gs name i p))

-- no file has this name
pub record IsMissing (files : List FileState) (name : List ℕ) (f : FileState) : Type 0 where
  pub differs : (k : ℕ) → k < length files → has_name name (get_or files k f) ≡ false

missing_later : (g f : FileState) (gs : List FileState) (name : List ℕ) → IsMissing (g ∷ gs) name f → IsMissing gs name f
missing_later g f gs name p = record { differs = λ k lt. p.differs (suc k) (omega (arith, lt)) }

pub files_with_fault-missing : (files : List FileState) (name : List ℕ) (f : FileState) → IsMissing files name f → files_with_fault files name ≡ files
files_with_fault-missing [] name f p = refl
files_with_fault-missing (g ∷ gs) name f p =
    let other : has_name name g ≡ false = p.differs 0 (omega arith) in
    rw other (ap (λ (hs : List FileState). g ∷ hs) (files_with_fault-missing gs name f (missing_later g f gs name p)))

pub held_in-missing : (files : List FileState) (name : List ℕ) (f : FileState) → IsMissing files name f → held_in files name ≡ None
held_in-missing [] name f p = refl
held_in-missing (g ∷ gs) name f p =
    let other : has_name name g ≡ false = p.differs 0 (omega arith) in
    rw other (held_in-missing gs name f (missing_later g f gs name p))

pub count_in-missing : (files : List FileState) (other : ℕ) (name : List ℕ) (f : FileState) → IsMissing files name f → count_in files other name ≡ other
count_in-missing [] other name f p = refl
count_in-missing (g ∷ gs) other name f p =
    let differs : has_name name g ≡ false = p.differs 0 (omega arith) in
    rw differs (count_in-missing gs other name f (missing_later g f gs name p))

pub place_from : (files : List FileState) (name : List ℕ) (i : ℕ) (f : FileState) → position (has_name name) files ≡ Some i → IsPlaceOf files name i f
place_from files name i f e =
    let p = position-Some (has_name name) files i f e in
    record { inside = p.0; named = p.1; before = p.2 }

pub missing_from : (files : List FileState) (name : List ℕ) (f : FileState) → position (has_name name) files ≡ None → IsMissing files name f
missing_from files name f e =
    let past : length files ≤ position_or_len (has_name name) files = grind (arith, common_steps) in
    record { differs = λ k lt. fails_before_first (has_name name) files k f (omega (arith, lt)) }

-- a raised count changes nothing that is held
pub held_in-files_with_fault : (files : List FileState) (m n : List ℕ) → held_in (files_with_fault files m) n ≡ held_in files n
held_in-files_with_fault [] m n = refl
held_in-files_with_fault (f ∷ fs) m n = elim (cases_Bool (has_name m f)) [
  | inl same ↦ rw same refl
  | inr other ↦ rw other (ap (λ (r : Option (List ℕ)). cond (has_name n f) (Some f.bytes) r) (held_in-files_with_fault fs m n))
]

-- a raised count leaves the file that is open
pub open_at-files_with_fault : (files : List FileState) (m : List ℕ) (place : Option ℕ) (from : ℕ) → open_at (files_with_fault files m) place from ≡ open_at files place from
open_at-files_with_fault files m None from = refl
open_at-files_with_fault [] m (Some i) from = refl
open_at-files_with_fault (f ∷ fs) m (Some zero) from = elim (cases_Bool (has_name m f)) [ inl same ↦ rw same refl | inr other ↦ rw other refl ]
open_at-files_with_fault (f ∷ fs) m (Some (suc i)) from = elim (cases_Bool (has_name m f)) [
  | inl same ↦ rw same refl
  | inr other ↦ rw other (open_at-files_with_fault fs m (Some i) from)
]

-- the count of the call's name is raised
pub count_in-raised : (files : List FileState) (other : ℕ) (m : List ℕ) → count_in (files_with_fault files m) (other_with_fault files other m) m ≡ next_count (count_in files other m)
count_in-raised [] other m = refl
count_in-raised (f ∷ fs) other m = elim (cases_Bool (has_name m f)) [
  | inl same ↦ rw same (rw same refl)
  | inr differs ↦ rw differs (rw differs (count_in-raised fs other m))
]

le_cond : (b : Bool) (x y u v : ℕ) → x ≤ u → y ≤ v → cond b x y ≤ cond b u v
le_cond true x y u v p q = p
le_cond false x y u v p q = q

-- no count falls
pub count_in-grows : (files : List FileState) (other : ℕ) (m n : List ℕ) → count_in files other m ≤ last_count → count_in files other n ≤ count_in (files_with_fault files m) (other_with_fault files other m) n
count_in-grows [] other m n fits = omega arith
count_in-grows (f ∷ fs) other m n fits = elim (cases_Bool (has_name m f)) [
  | inl same ↦
      let at : f.faults ≤ last_count = rw same at fits in
      rw same (le_cond (has_name n f) f.faults (count_in fs other n) (next_count f.faults) (count_in fs other n) (omega arith) (omega arith))
  | inr differs ↦
      let at : count_in fs other m ≤ last_count = rw differs at fits in
      rw differs (le_cond (has_name n f) f.faults (count_in fs other n) f.faults (count_in (files_with_fault fs m) (other_with_fault fs other m) n) (omega arith) (count_in-grows fs other m n at))
]

pub next_count-rose : (n : ℕ) → n ≤ last_count → Rose n (next_count n)
next_count-rose n fits = elim (cases_lt n last_count) [ inl lt ↦ inl (omega arith) | inr ge ↦ inr (omega arith) ]

pub count_in-rose : (files : List FileState) (other : ℕ) (m : List ℕ) → count_in files other m ≤ last_count → Rose (count_in files other m) (count_in (files_with_fault files m) (other_with_fault files other m) m)
count_in-rose files other m fits = rw (count_in-raised files other m) (next_count-rose (count_in files other m) fits)

-- what a count of the fault leaves, where f is the file of this name
pub record IsFaultOf (files : List FileState) (other : ℕ) (name : List ℕ) (i : ℕ) (f : FileState) : Type 0 where
  pub files_after : files_with_fault files name ≡ set files i (with_fault f)
  pub other_after : other_with_fault files other name ≡ other
  pub count : count_in files other name ≡ f.faults

pub fault_at : (files read : List FileState) (other : ℕ) (name : List ℕ) (place : Option ℕ) (i : ℕ) (f : FileState) → read ≡ files → place ≡ position (has_name name) read → place ≡ Some i → f ≡ get_or files i f → IsFaultOf files other name i f
fault_at files read other name place i f same found at is =
    let first = place_from files name i f (ap (λ (xs : List FileState). position (has_name name) xs) (sym same) ∙ sym found ∙ at) in
    record {
      files_after = files_with_fault-place files name i f first ∙ ap (λ (g : FileState). set files i (with_fault g)) (sym is);
      other_after = rw (held_in-place files name i f first) refl;
      count = count_in-place files other name i f first ∙ ap (λ (g : FileState). g.faults) (sym is);
    }

-- what a count of the fault leaves, where no file has this name
pub record IsFaultOfOther (files : List FileState) (other : ℕ) (name : List ℕ) : Type 0 where
  pub files_after : files_with_fault files name ≡ files
  pub other_after : other_with_fault files other name ≡ next_count other
  pub count : count_in files other name ≡ other

pub fault_of_other : (files read : List FileState) (other : ℕ) (name : List ℕ) (place : Option ℕ) → read ≡ files → place ≡ position (has_name name) read → place ≡ None → IsFaultOfOther files other name
fault_of_other files read other name place same found at =
    let f : FileState = record { name = []; bytes = []; faults = 0 } in
    let missing = missing_from files name f (ap (λ (xs : List FileState). position (has_name name) xs) (sym same) ∙ sym found ∙ at) in
    record {
      files_after = files_with_fault-missing files name f missing;
      other_after = rw (held_in-missing files name f missing) refl;
      count = count_in-missing files other name f missing;
    }

-- one file, or two files of different names, for callers that make a shelf
pub HaveDifferentNames-one : (files : List FileState) (f : FileState) → files ≡ f ∷ [] → HaveDifferentNames files
HaveDifferentNames-one files f e = rw e (refl, tt)
