-- Greedy runs by counters: an element enters where no listed set that holds it is full, and is then counted in each of them; so the numbers
-- stay those of the members, and a full set never gets one more.
use Rattle.mat_count.proofs.Common.{◌≡◌, ℕ, ◌+◌, ◌<◌, ◌≤◌, true, false, not, List, [], length, get_or, replicate, sym, ap, ◌∙◌, subst, arith, and_parts, not-false, is_member, IsSet, with_one, intersection, is_set, indicator, IsSet-length, with_one-member, IsSet-from_test, IsRunning, IsRunning-start}
use Rattle.mat_count.proofs.Common.{is_within_caps, is_counted, IsLaminarFamily, counted_laws, CountsMembers}
use Rattle.mat_count.proofs.ClassRows.{counted-with_one}
use Rattle.mat_count.proofs.ClassTables.{CountsMembers-none, length-intersection}
use Rattle.mat_count.proofs.RunSteps.{run-passed, run-repeated, run-entered}

-- the set has come over the first i elements of the order, and the numbers are those of its members
pub record IsCounting (n : ℕ) (sets : List (List ℕ)) (caps order : List ℕ) (i : ℕ) (set numbers : List ℕ) : Type 0 where
  pub run : IsRunning (is_counted n sets caps) order i set
  pub counts : CountsMembers sets set numbers

pub IsCounting-start : (n : ℕ) (sets : List (List ℕ)) (caps order set numbers : List ℕ) (m : ℕ) → IsLaminarFamily sets → set ≡ []
    → numbers ≡ replicate m 0 → m ≡ length sets → IsCounting n sets caps order 0 set numbers
IsCounting-start n sets caps order set numbers m family none made same = record {
  run = IsRunning-start (is_counted n sets caps) order set (counted_laws n sets caps family).empty none;
  counts = subst (λ s. CountsMembers sets s numbers) (sym none) (CountsMembers-none sets numbers m made same);
}

module _ {n : ℕ} {sets : List (List ℕ)} {caps order set numbers : List ℕ} {i : ℕ} (c : IsCounting n sets caps order i set numbers) where
  pub ranges : IsSet n set
  ranges = IsSet-from_test n set (and_parts (is_set n set) (is_within_caps sets caps set) c.run.passes).0

  -- an element that stands in the set already, or that does not fit
  pub IsCounting-passed : (x : ℕ) (after : List ℕ) → i < length order → x ≡ get_or order i 0
      → (is_member x set ≡ false → is_counted n sets caps (with_one set x) ≡ false) → after ≡ set
      → IsCounting n sets caps order (i + 1) after numbers
  IsCounting-passed x after inside at refused is = record {
    run = run-passed c.run x after inside at refused is;
    counts = subst (λ s. CountsMembers sets s numbers) (sym is) c.counts;
  }

  -- an element that stands in the set already is put in again
  pub IsCounting-repeated : (x : ℕ) (after : List ℕ) → i < length order → x ≡ get_or order i 0
      → not (is_member x set) ≡ false → after ≡ with_one set x → IsCounting n sets caps order (i + 1) after numbers
  IsCounting-repeated x after inside at old is = let member = not-false (is_member x set) old in record {
    run = run-repeated c.run x after inside at ranges.rising member is;
    counts = subst (λ s. CountsMembers sets s numbers) (sym (is ∙ with_one-member set x ranges.rising member)) c.counts;
  }

  -- so too if nothing is done with it
  pub IsCounting-kept : (x : ℕ) (after : List ℕ) → i < length order → x ≡ get_or order i 0
      → not (is_member x set) ≡ false → after ≡ set → IsCounting n sets caps order (i + 1) after numbers
  IsCounting-kept x after inside at old is =
      IsCounting-repeated x after inside at old (is ∙ sym (with_one-member set x ranges.rising (not-false (is_member x set) old)))

  -- an element that fits, and is counted where it stands
  pub IsCounting-entered : (x : ℕ) (after numbers' : List ℕ) → i < length order → x ≡ get_or order i 0
      → is_member x set ≡ false → is_counted n sets caps (with_one set x) ≡ true → after ≡ with_one set x
      → length numbers' ≡ length numbers
      → ((k : ℕ) → k < length numbers → get_or numbers' k 0 ≡ get_or numbers k 0 + indicator (is_member x (get_or sets k [])))
      → IsCounting n sets caps order (i + 1) after numbers'
  IsCounting-entered x after numbers' inside at new fits is long more = record {
    run = run-entered c.run x after inside at new fits is;
    counts = record {
      long = long ∙ c.counts.long;
      at = λ k l.
          let same = c.counts.long in
          let now = more k (omega arith) in
          let was = c.counts.at k l in
          let one = counted-with_one (get_or sets k []) set x ranges.rising new in
          let written = ap (λ s. length (intersection s (get_or sets k []))) is in
          omega arith;
    };
  }

  -- no number is above how many elements there are
  pub counter-small : (k : ℕ) → k < length numbers → get_or numbers k 0 ≤ n
  counter-small k l =
      let same = c.counts.long in
      omega (arith, IsSet-length n set ranges, c.counts.at k (omega arith), length-intersection set (get_or sets k []))
