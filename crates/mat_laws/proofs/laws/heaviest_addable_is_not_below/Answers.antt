use Rattle.mat_laws.proofs.Common.{◌≡◌, ℕ, true, ◌<◌, ◌≺◌, Weight, at_most_not, not_at_most, Exchanges, exchanges_at, is_heaviest_addable}
use Rattle.mat_laws.proofs.TightArcs.{addable_gives, addable_from, heaviest_addable_gives, heaviest_addable_from}
use Rattle.mat_laws.proofs.laws.heaviest_addable_is_not_below.Goals as goal

-- no element that can be added is heavier
abbrev NoneIsHeavier : ℕ → Exchanges → (ℕ → Weight) → ℕ → Type 0
NoneIsHeavier n a w x = (e : ℕ) → e < n → a.adds e ≡ true → ¬ (w x ≺ w e)

none_heavier : (n : ℕ) (a : Exchanges) (w : ℕ → Weight) (x : ℕ) → is_heaviest_addable n a w x ≡ true → NoneIsHeavier n a w x
none_heavier n a w x top e l k = at_most_not (w e) (w x) ((heaviest_addable_gives n a w x top).most e l k)

from_none_heavier : (n : ℕ) (a : Exchanges) (w : ℕ → Weight) (x : ℕ) → a.adds x ≡ true → NoneIsHeavier n a w x
    → is_heaviest_addable n a w x ≡ true
from_none_heavier n a w x k none = heaviest_addable_from n a w x k (λ e l m. not_at_most (w e) (w x) (none e l m))

pub returns : goal.returns
returns c = record {
  exchanges = λ n a w x. (
    λ top. ((heaviest_addable_gives n a w x top).adds, none_heavier n a w x top),
    λ both. from_none_heavier n a w x both.0 both.1,
  );
  at_a_set = λ n p I w x.
      let a = exchanges_at p I in (
        λ top.
            let s = addable_gives p I x (heaviest_addable_gives n a w x top).adds in
            (s.outside, s.passes, λ e l o k. none_heavier n a w x top e l (addable_from p I e o k)),
        λ all. from_none_heavier n a w x (addable_from p I x all.0 all.1) (λ e l k.
            let s = addable_gives p I e k in all.2 e l s.outside s.passes),
      );
}
