-- The frontier of Dijkstra's algorithm as a priority queue in buckets (Schrijver, chapter 7): of each 64 numbers one with the greatest key is at hand.
use Rattle.std.specs.Prelude.{◌≡◌, ℕ, ◌<◌, ◌≤◌, ◌*◌, true, List, length, Option, None, slice_index_or}
use Rattle.mat_sets.specs.Sets.{is_member}
use Rattle.mat_sets.specs.Weights.{weight_at}
use Rattle.mat_sets.specs.declared.weight.Weight.{Weight}
use Rattle.mat_exchange.specs.Growing.{IsHeaviestOrNone}
use Rattle.mat_exchange.specs.HeaviestMembers.{in_bucket}

-- a set, and a gain of each number: the frontier and its keys
pub record Frontier : Type 0 where
  pub members : List ℕ
  pub gains : List Weight

-- what is at hand of a bucket; none behind the last
abbrev pub top_at : List (Option ℕ) → ℕ → Option ℕ
top_at tops at = slice_index_or tops at None

-- the members have gains and buckets, and the top of each bucket is a member with the greatest gain of those in it, or none where it has none
pub record AreTops (members : List ℕ) (gains : List Weight) (tops : List (Option ℕ)) : Type 0 where
  pub below : (x : ℕ) → is_member x members ≡ true → x < length gains
  pub room : length gains ≤ 64 * length tops
  pub each : (at : ℕ) → IsHeaviestOrNone (in_bucket members at) (weight_at gains) (top_at tops at)
