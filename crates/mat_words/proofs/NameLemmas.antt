-- Words that are names, where a word stands among names, and names that one more is added to.
use Rattle.mat_words.proofs.Common.{◌≡◌, ◌≢◌, ℕ, zero, suc, ◌+◌, ◌<◌, ◌^◌, Bool, true, false, not, cond, ◌||◌, inl, inr, List, [], ◌∷◌, ◌++◌, length, get_or, Option, Some, None, Result, Ok, Err, is_some, if◌then◌else◌, refl, sym, ap, subst, ◌∙◌, arith, nat_le, nat_lt, false_from_ne_true, cases_lt}
use Rattle.mat_words.proofs.Common.{lt-ltb, le-ltb, le-leb, ltb-false, leb-true, and_from, and_parts, map-append, get_or_append_left, get_or_push, length_push, length-append, All-nil, All-push, All-head, All-tail, bytes_eq-Decides, is_word}
use Rattle.std.specs.Global.{Vec}
use Rattle.std.specs.List.{All, list_all, list_any, position, position_or_len}
use Rattle.std.specs.Option.{option_map}
use Rattle.std.specs.Result.{OnOk, OnErr}
use Rattle.std.specs.Str.{bytes_eq}
use Rattle.std.proofs.Math.Seq.{get_or-append_seam}
use Rattle.std.proofs.lemmas.Option.{none-some, same_Some}
use Rattle.indexmap.specs.IndexSet.{insert_key}
use Rattle.mat_words.specs.Names.{longest_name, is_name, name_index, is_among, with_name, bytes_of, AreDifferent, AreNames}

-- ---- the place of a word

-- a place behind one more name
later : (o : Option ℕ) (i : ℕ) → option_map suc o ≡ Some i → (k : ℕ) × (o ≡ Some k) × (suc k ≡ i)
later None i e = absurd (none-some i e)
later (Some k) i e = (k, refl, same_Some (suc k) i e)

-- at the place of a word stands that word
pub name_index-found : (names : List (List ℕ)) (word : List ℕ) (i : ℕ) → name_index names word ≡ Some i
    → (i < length names) × (get_or names i [] ≡ word)
name_index-found [] word i e = absurd (none-some i e)
name_index-found (name ∷ names) word i e = by (bytes_eq word name) refl e (name_index-found names word)
  where
    by : (b : Bool) → bytes_eq word name ≡ b → (if b then Some 0 else option_map suc (name_index names word)) ≡ Some i
        → ((k : ℕ) → name_index names word ≡ Some k → (k < length names) × (get_or names k [] ≡ word))
        → (i < length (name ∷ names)) × (get_or (name ∷ names) i [] ≡ word)
    by true same e rest =
        subst (λ k. (k < length (name ∷ names)) × (get_or (name ∷ names) k [] ≡ word)) (same_Some 0 i e)
        (omega arith, sym ((bytes_eq-Decides word name).0 same))
    by false other e rest =
        let place = later (name_index names word) i e in
        let there = rest place.0 place.1 in
        subst (λ k. (k < length (name ∷ names)) × (get_or (name ∷ names) k [] ≡ word)) place.2 (omega (arith, there.0), there.1)

-- a name of the list is among them
pub is_among-at : (names : List (List ℕ)) (i : ℕ) → i < length names → is_among names (get_or names i []) ≡ true
is_among-at [] i lt = absurd (omega arith)
is_among-at (name ∷ names) zero lt =
    ap (λ b. is_some (if b then Some 0 else option_map suc (name_index names name))) ((bytes_eq-Decides name name).1 refl)
is_among-at (name ∷ names) (suc i) lt =
    by (bytes_eq (get_or names i []) name) (name_index names (get_or names i [])) (is_among-at names i (omega arith))
  where
    by : (b : Bool) (o : Option ℕ) → is_some o ≡ true → is_some (if b then Some 0 else option_map suc o) ≡ true
    by true o some = refl
    by false (Some k) some = refl
    by false None some = some

-- no name is a word that isn't among them
pub is_among-missing : (names : List (List ℕ)) (word : List ℕ) (i : ℕ) → is_among names word ≡ false → i < length names
    → get_or names i [] ≢ word
is_among-missing names word i missing lt same =
    let there : is_among names word ≡ true = subst (λ w. is_among names w ≡ true) same (is_among-at names i lt) in
    absurd cc

-- where no name stands twice, each is found at its own place
pub name_index-at : (names : List (List ℕ)) (i : ℕ) → AreDifferent names → i < length names
    → name_index names (get_or names i []) ≡ Some i
name_index-at [] i different lt = absurd (omega arith)
name_index-at (name ∷ names) zero different lt =
    ap (λ b. if b then Some 0 else option_map suc (name_index names name)) ((bytes_eq-Decides name name).1 refl)
name_index-at (name ∷ names) (suc i) different lt =
    let word = get_or names i [] in
    let apart : bytes_eq word name ≡ false = false_from_ne_true (bytes_eq word name)
    (λ same. different 0 (suc i) (omega arith) lt (sym ((bytes_eq-Decides word name).0 same))) in
    let rest : name_index names word ≡ Some i =
    name_index-at names i (λ j k lt within. different (suc j) (suc k) (omega arith) (omega arith)) (omega arith) in
    ap (λ b. if b then Some 0 else option_map suc (name_index names word)) apart ∙ ap (option_map suc) rest

-- ---- names, and one more

-- no names
pub no_names : AreNames []
no_names = record {
  each = All-nil (λ name. is_name name ≡ true);
  different = λ i j before within. absurd (omega arith);
  few = omega arith;
}

-- a word that isn't among different names is none of them
different-push : (names : List (List ℕ)) (word : List ℕ) → AreDifferent names → is_among names word ≡ false
    → AreDifferent (names ++ word ∷ [])
different-push names word different missing i j before within same =
    let many : length (names ++ word ∷ []) ≡ length names + 1 = length_push names word in
    let here : get_or (names ++ word ∷ []) i [] ≡ get_or names i [] = get_or_append_left names (word ∷ []) [] i (omega arith) in
    elim (cases_lt j (length names)) [
      | inl lt ↦ different i j before lt (sym here ∙ same ∙ get_or_append_left names (word ∷ []) [] j lt)
      | inr le ↦
          let last : get_or (names ++ word ∷ []) j [] ≡ word = get_or_push names word [] j (omega arith) in
          is_among-missing names word i missing (omega arith) (sym here ∙ same ∙ last)
    ]

-- names with a name that isn't among them
pub names-push : (names : List (List ℕ)) (word : List ℕ) → AreNames names → is_name word ≡ true → is_among names word ≡ false
    → length names + 1 < 2 ^ 32 → AreNames (names ++ word ∷ [])
names-push names word lawful name missing few =
    let many : length (names ++ word ∷ []) ≡ length names + 1 = length_push names word in
    record {
      each = All-push (λ name. is_name name ≡ true) names word lawful.each name;
      different = different-push names word lawful.different missing;
      few = omega arith;
    }

-- names with a word that is added
pub with_name-names : (names : List (List ℕ)) (word : List ℕ) → AreNames names → is_name word ≡ true
    → length names + 1 < 2 ^ 32 → AreNames (with_name names word)
with_name-names names word lawful name few = by (is_among names word) refl
  where
    by : (b : Bool) → is_among names word ≡ b → AreNames (if b then names else names ++ word ∷ [])
    by true there = lawful
    by false missing = names-push names word lawful name missing few

-- a word of a few bytes is a name
pub is_name-short : (word : List ℕ) → is_word word ≡ true → nat_lt longest_name (length word) ≡ false → is_name word ≡ true
is_name-short word letters short =
    and_from (is_word word) (nat_le (length word) longest_name) letters
    (le-leb (length word) longest_name (ltb-false longest_name (length word) short))

-- and a name is such a word
pub is_name-parts : (word : List ℕ) → is_name word ≡ true → (is_word word ≡ true) × (nat_lt longest_name (length word) ≡ false)
is_name-parts word name =
    let parts = and_parts (is_word word) (nat_le (length word) longest_name) name in
    (parts.0, le-ltb longest_name (length word) (leb-true (length word) longest_name parts.1))

-- names are words
pub names_words : (names : List (List ℕ)) → All (λ name. is_name name ≡ true) names → list_all is_word names ≡ true
names_words [] each = refl
names_words (name ∷ names) each =
    let here = is_name-parts name (All-head (λ word. is_name word ≡ true) name names each) in
    and_from (is_word name) (list_all is_word names) here.0 (names_words names (All-tail (λ word. is_name word ≡ true) name names each))

-- so each of them is one
pub name_word : (names : List (List ℕ)) (i : ℕ) → All (λ name. is_name name ≡ true) names → i < length names
    → is_word (get_or names i []) ≡ true
name_word names i each lt = (is_name-parts (get_or names i []) (each i [] lt)).0

-- a name isn't among those in front of it
pub is_among-later : (names more : List (List ℕ)) (word : List ℕ) → AreDifferent (names ++ word ∷ more) → is_among names word ≡ false
is_among-later names more word different = by (name_index names word) refl
  where
    by : (o : Option ℕ) → name_index names word ≡ o → is_some o ≡ false
    by None place = refl
    by (Some i) place =
        let there = name_index-found names word i place in
        let many : length (names ++ word ∷ more) ≡ length names + suc (length more) = length-append names (word ∷ more) in
        let first : get_or (names ++ word ∷ more) i [] ≡ word = get_or_append_left names (word ∷ more) [] i there.0 ∙ there.1 in
        let later : get_or (names ++ word ∷ more) (length names) [] ≡ word = get_or-append_seam names word more [] in
        absurd (different i (length names) there.0 (omega arith) (first ∙ sym later))

-- ---- names as they are kept

-- whether two have the same bytes
abbrev pub have_same_bytes : Vec ℕ → Vec ℕ → Bool
have_same_bytes x y = bytes_eq x.items y.items

-- whether one of them is the word
kept_among : (word : List ℕ) (kept : List (Vec ℕ)) → list_any (λ name. bytes_eq word name.items) kept ≡ is_among (bytes_of kept) word
kept_among word [] = refl
kept_among word (name ∷ kept) = by (bytes_eq word name.items) (name_index (bytes_of kept) word) (kept_among word kept)
  where
    by : (b : Bool) (o : Option ℕ) → list_any (λ name. bytes_eq word name.items) kept ≡ is_some o
        → (b || list_any (λ name. bytes_eq word name.items) kept) ≡ is_some (if b then Some 0 else option_map suc o)
    by true o rest = refl
    by false None rest = rest
    by false (Some i) rest = rest

-- the place of the first that is the word
pub kept_place : (word : List ℕ) (kept : List (Vec ℕ)) → position (λ name. bytes_eq word name.items) kept ≡ name_index (bytes_of kept) word
kept_place word [] = refl
kept_place word (name ∷ kept) = by (bytes_eq word name.items) (kept_place word kept)
  where
    is_it : Vec ℕ → Bool
    is_it name = bytes_eq word name.items

    next : (p n : ℕ) → cond (nat_lt (1 + p) (suc n)) (Some (1 + p)) None ≡ option_map suc (cond (nat_lt p n) (Some p) None)
    next p n =
        elim (cases_lt p n) [
          | inl lt ↦ rw (lt-ltb p n lt, lt-ltb (1 + p) (suc n) (omega arith)) (ap Some (omega arith))
          | inr le ↦ rw (le-ltb p n le, le-ltb (1 + p) (suc n) (omega arith)) refl
        ]

    by : (b : Bool) → position is_it kept ≡ name_index (bytes_of kept) word
        → cond (nat_lt (cond (not b) (1 + position_or_len is_it kept) 0) (length (name ∷ kept)))
        (Some (cond (not b) (1 + position_or_len is_it kept) 0)) None
        ≡ (if b then Some 0 else option_map suc (name_index (bytes_of kept) word))
    by true rest = rw (lt-ltb 0 (suc (length kept)) (omega arith)) refl
    by false rest = next (position_or_len is_it kept) (length kept) ∙ ap (option_map suc) rest

-- the names after a word is inserted
pub kept_with : (kept : List (Vec ℕ)) (name : Vec ℕ) (word : List ℕ) → name.items ≡ word
    → bytes_of (insert_key have_same_bytes kept name) ≡ with_name (bytes_of kept) word
kept_with kept name word same = by (list_any (have_same_bytes name) kept) ∙ rw (kept_among name.items kept, same) refl
  where
    by : (b : Bool) → bytes_of (if b then kept else kept ++ name ∷ []) ≡ (if b then bytes_of kept else bytes_of kept ++ name.items ∷ [])
    by true = refl
    by false = map-append (λ name. name.items) kept (name ∷ [])

-- they are lawful after a name is inserted, or memory runs out
pub kept_lawful : {E : Type 0} (result : Result Bool E) (old new : List (Vec ℕ)) (name : Vec ℕ) (word : List ℕ) → name.items ≡ word
    → OnOk result (new ≡ insert_key have_same_bytes old name) → OnErr result (new ≡ old)
    → AreNames (bytes_of old) → is_name word ≡ true → length (bytes_of old) + 1 < 2 ^ 32 → AreNames (bytes_of new)
kept_lawful (Ok added) old new name word same inserted unchanged lawful good room =
    subst AreNames (sym (ap bytes_of inserted ∙ kept_with old name word same)) (with_name-names (bytes_of old) word lawful good room)
kept_lawful (Err refused) old new name word same inserted unchanged lawful good room =
    subst (λ kept. AreNames (bytes_of kept)) (sym unchanged) lawful
