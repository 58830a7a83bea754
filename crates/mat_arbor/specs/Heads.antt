-- The sets of arcs of which at most one enters each vertex and none enters the root (Schrijver, chapter 52).
use Rattle.std.specs.Prelude.{◌≡◌, ◌≢◌, ℕ, Bool, true, ◌==◌, if◌then◌else◌, List}
use Rattle.mat_sets.specs.Sets.{is_member}
use Rattle.mat_count.specs.Labels.{is_labelled}

-- the head of an arc
abbrev pub head_of : (ℕ → ℕ × ℕ) → ℕ → ℕ
head_of ends a = (ends a).1

-- no arc may enter the root, and one may enter each other vertex
abbrev pub cap_at : ℕ → ℕ → ℕ
cap_at root v = if v == root then 0 else 1

-- the partition matroid with one class for each head, with the cap 1, and the cap 0 for the root
abbrev pub is_entering_once : ℕ → ℕ → (ℕ → ℕ × ℕ) → ℕ → List ℕ → Bool
is_entering_once n vertices ends root X = is_labelled n vertices (head_of ends) (cap_at root) X

-- the same in words
pub record EntersOnce (ends : ℕ → ℕ × ℕ) (root : ℕ) (X : List ℕ) : Type 0 where
  pub no_root : (a : ℕ) → is_member a X ≡ true → (ends a).1 ≢ root
  pub once : (a b : ℕ) → is_member a X ≡ true → is_member b X ≡ true → (ends a).1 ≡ (ends b).1 → a ≡ b
