-- A tree that grows from the root along arcs (Schrijver, chapter 6).
use Rattle.std.specs.Prelude.{◌≡◌, ℕ, suc, true, false, List, length}
use Rattle.mat_sets.specs.Graphs.{Reaches}
use Rattle.mat_sets.specs.Sets.{is_member, IsRising, IsSet}

-- the root reaches each vertex of R along a set of arcs into R that are one fewer than the vertices of R
pub record IsGrownTree (n : ℕ) (ends : ℕ → ℕ × ℕ) (root : ℕ) (R : List ℕ) : Type 0 where
  pub rises : IsRising R
  pub with_root : is_member root R ≡ true
  pub tree : List ℕ
  pub arcs : IsSet n tree
  pub size : suc (length tree) ≡ length R
  pub into : (a : ℕ) → is_member a tree ≡ true → is_member (ends a).1 R ≡ true
  pub reached : (v : ℕ) → is_member v R ≡ true → Reaches ends tree root v

-- the arc leads from a vertex of R to one outside
pub record Leaves (ends : ℕ → ℕ × ℕ) (R : List ℕ) (a : ℕ) : Type 0 where
  pub from : is_member (ends a).0 R ≡ true
  pub to : is_member (ends a).1 R ≡ false
