-- What a transversal matroid keeps of an independent set: a matching of it (Schrijver, chapter 39).
use Rattle.std.specs.Prelude.{◌≡◌, ℕ, List, length, is_none, Option}
use Rattle.mat_flow.specs.Leading.{AreLeading}
use Rattle.mat_flow.specs.LinkTables.{entry_at}
use Rattle.mat_linked.specs.Matchings.{is_held, AreIndices, IsMatching}
use Rattle.mat_linked.specs.declared.kept_matching.KeptMatching.{KeptMatching}

-- these are the indices from which a walk leads to one that is not matched, by arcs from an index to the sets that hold the element matched there
abbrev pub LeadToFree : (rows : List (List ℕ)) (matched : List (Option ℕ)) (leading : List ℕ) → Type 0
LeadToFree rows matched leading = AreLeading (length matched) (λ j. is_held rows (entry_at matched j)) (λ j. is_none (entry_at matched j)) leading

-- the table has an entry for each set, and matches each member of the base with a set that holds it, different members with different sets;
-- and nothing else is matched; beside it are the indices from which a walk leads to one that is not matched
pub record IsKeptMatching (count : ℕ) (family : List (List ℕ)) (base : List ℕ) (kept : KeptMatching) : Type 0 where
  pub long : length kept.matched.items ≡ length family
  pub matching : (rows : List (List ℕ)) → AreIndices count family rows → IsMatching rows base kept.matched.items
  pub leading : (rows : List (List ℕ)) → AreIndices count family rows → LeadToFree rows kept.matched.items kept.leading
