-- Names of elements and of vertices: a list in which each stands once.
use Rattle.std.specs.Prelude.{ℕ, suc, ◌<◌, ◌^◌, ◌≡◌, ◌≢◌, Bool, true, ◌&&◌, nat_le, if◌then◌else◌}
use Rattle.std.specs.Prelude.{List, [], ◌∷◌, ◌++◌, map, length, get_or, Option, Some, None, is_some}
use Rattle.std.specs.Global.{Vec}
use Rattle.std.specs.List.{All}
use Rattle.std.specs.Option.{option_map}
use Rattle.std.specs.Str.{bytes_eq}
use Rattle.mat_words.specs.Words.{is_word}

-- how many bytes a name may have
abbrev pub longest_name : ℕ
longest_name = 32

-- whether it is a name: a word that isn't longer
abbrev pub is_name : List ℕ → Bool
is_name bytes = is_word bytes && nat_le (length bytes) longest_name

-- the place, counted from 0, of the first name that is this word
abbrev pub name_index : List (List ℕ) → List ℕ → Option ℕ
name_index [] word = None
name_index (name ∷ names) word = if bytes_eq word name then Some 0 else option_map suc (name_index names word)

-- whether the word is one of the names
abbrev pub is_among : List (List ℕ) → List ℕ → Bool
is_among names word = is_some (name_index names word)

-- the names after the word is added: it goes last, if it isn't one of them
abbrev pub with_name : List (List ℕ) → List ℕ → List (List ℕ)
with_name names word = if is_among names word then names else names ++ word ∷ []

-- no name stands twice
abbrev pub AreDifferent : List (List ℕ) → Type 0
AreDifferent names = (i j : ℕ) → i < j → j < length names → get_or names i [] ≢ get_or names j []

-- Each is a name, none stands twice, and there are fewer than 2^32.
pub record AreNames (names : List (List ℕ)) : Type 0 where
  pub each : All (λ name. is_name name ≡ true) names
  pub different : AreDifferent names
  pub few : length names < 2 ^ 32

-- the bytes of each
abbrev pub bytes_of : List (Vec ℕ) → List (List ℕ)
bytes_of names = map (λ name. name.items) names
