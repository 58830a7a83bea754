-- Elements are put into a set by the members of a list, one member after the other: what was in it stays. Each member that cannot be added is put
-- itself, or the elements are put that cannot be added and can be exchanged for it.
use Rattle.mat_exchange.proofs.Common.{◌≡◌, ℕ, ◌+◌, ◌<◌, true, false, not, ◌&&◌, ◌||◌, eqb, take, List, [], length, get_or, inl, inr, refl, subst, sym, ap, ◌∙◌, both_ways, eqb-true, or_cases, or_left, or_right, is_member, with_one, is_member-take_more, Exchanges}
use Rattle.mat_exchange.proofs.NewMembers.{kept_member, new_member}

-- ---- the members of a list so far

none_before : (x : ℕ) → is_member x [] ≡ false
none_before x = refl

-- what holds of the members before a place and of the one at it holds of all up to it
up_to_next : (P : ℕ → Type 0) (members : List ℕ) (i : ℕ) → i < length members → ((y : ℕ) → is_member y (take i members) ≡ true → P y)
    → P (get_or members i 0) → (y : ℕ) → is_member y (take (i + 1) members) ≡ true → P y
up_to_next P members i within before here y m = elim (or_cases (is_member y (take i members)) (eqb y (get_or members i 0)) (sym (is_member-take_more members i y within) ∙ m)) [
  | inl old ↦ before y old
  | inr new ↦ subst P (sym (eqb-true y (get_or members i 0) new)) here
]

-- ---- the members themselves

pub record ArePut (exchanges : Exchanges) (elements before after : List ℕ) : Type 0 where
  pub holds : (x : ℕ) → is_member x before ≡ true → is_member x after ≡ true
  pub puts : (x : ℕ) → is_member x elements ≡ true → exchanges.adds x ≡ false → is_member x after ≡ true

pub ArePut-none : (exchanges : Exchanges) (set : List ℕ) → ArePut exchanges [] set set
ArePut-none exchanges set = record { holds = λ x m. m; puts = λ x m. absurd (both_ways (is_member x []) (none_before x) m) }

module _ (exchanges : Exchanges) (elements : List ℕ) (i : ℕ) (before so_far : List ℕ) (within : i < length elements)
    (put : ArePut exchanges (take i elements) before so_far) where
  -- the next one cannot be added
  pub ArePut-more : (after : List ℕ) → after ≡ with_one so_far (get_or elements i 0) → ArePut exchanges (take (i + 1) elements) before after
  ArePut-more after is = record {
    holds = λ x m. stays x (put.holds x m);
    puts = up_to_next (λ x. exchanges.adds x ≡ false → is_member x after ≡ true) elements i within (λ x old none. stays x (put.puts x old none))
        (λ none. ap (is_member (get_or elements i 0)) is ∙ new_member (get_or elements i 0) (get_or elements i 0) so_far refl);
  }
    where
      stays : (x : ℕ) → is_member x so_far ≡ true → is_member x after ≡ true
      stays x m = ap (is_member x) is ∙ kept_member (get_or elements i 0) x so_far m

  -- the next one can be added
  pub ArePut-passed : exchanges.adds (get_or elements i 0) ≡ true → ArePut exchanges (take (i + 1) elements) before so_far
  ArePut-passed adds = record {
    holds = put.holds;
    puts = up_to_next (λ x. exchanges.adds x ≡ false → is_member x so_far ≡ true) elements i within put.puts (λ none. absurd (both_ways _ none adds));
  }

-- ---- the columns of the members

pub record AreUnited (exchanges : Exchanges) (members before after : List ℕ) : Type 0 where
  pub holds : (x : ℕ) → is_member x before ≡ true → is_member x after ≡ true
  pub columns : (y x : ℕ) → is_member y members ≡ true → exchanges.adds x ≡ false → exchanges.trades y x ≡ true → is_member x after ≡ true

pub AreUnited-none : (exchanges : Exchanges) (set : List ℕ) → AreUnited exchanges [] set set
AreUnited-none exchanges set = record { holds = λ x m. m; columns = λ y x m. absurd (both_ways (is_member y []) (none_before y) m) }

pub AreUnited-more : (exchanges : Exchanges) (members : List ℕ) (i : ℕ) (before so_far after column : List ℕ) → i < length members
    → AreUnited exchanges (take i members) before so_far
    → ((x : ℕ) → is_member x after ≡ (is_member x so_far || is_member x column))
    → ((x : ℕ) → is_member x column ≡ (not (exchanges.adds x) && exchanges.trades (get_or members i 0) x))
    → AreUnited exchanges (take (i + 1) members) before after
AreUnited-more exchanges members i before so_far after column within united put tells = record {
  holds = λ x m. stays x (united.holds x m);
  columns = λ y x m none. up_to_next (λ z. exchanges.trades z x ≡ true → is_member x after ≡ true) members i within
      (λ z old trades. stays x (united.columns z x old none trades))
      (λ trades. put x ∙ or_right (is_member x so_far) (is_member x column)
      (tells x ∙ ap (λ b. not b && exchanges.trades (get_or members i 0) x) none ∙ trades)) y m;
}
  where
    stays : (x : ℕ) → is_member x so_far ≡ true → is_member x after ≡ true
    stays x m = put x ∙ or_left (is_member x so_far) (is_member x column) m
