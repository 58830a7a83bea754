-- The loop that puts the unreached elements among these into the queue: those that are no longer unreached were taken.
use Rattle.mat_union.proofs.Common.{◌≡◌, ℕ, suc, ◌+◌, ◌<◌, ◌≤◌, Bool, true, false, not, ◌||◌, ◌&&◌, cond, eqb, List, [], ◌∷◌, ◌++◌, length, refl, sym, ap, ◌∙◌, inl, inr, arith, length-append, append_assoc, append-nil, and_parts, cases_Bool, eq-eqb, eqb-true, false≢true, IsFirstFrom, is_member}
use Rattle.mat_union.proofs.Common.{without_one, is_member-push, is_member-without_one, and_not_gives, AreTaken}

-- a list without one of its members is shorter
pub without-no_longer : (a : List ℕ) (x : ℕ) → length (without_one a x) ≤ length a
unfolding without_one
without-no_longer [] x = omega arith
without-no_longer (y ∷ a) x = by (eqb y x) (without-no_longer a x)
  where
    by : (b : Bool) → length (without_one a x) ≤ length a → length (cond (not b) (y ∷ without_one a x) (without_one a x)) ≤ suc (length a)
    by true h = omega arith
    by false h = omega arith

pub without-shorter : (a : List ℕ) (x : ℕ) → is_member x a ≡ true → length (without_one a x) < length a
unfolding without_one
without-shorter [] x h = absurd (false≢true h)
without-shorter (y ∷ a) x h = by (eqb x y) (eqb y x) refl refl (without-no_longer a x) (λ m. without-shorter a x m)
  where
    by : (b c : Bool) → eqb x y ≡ b → eqb y x ≡ c → length (without_one a x) ≤ length a → (is_member x a ≡ true → length (without_one a x) < length a)
        → length (cond (not c) (y ∷ without_one a x) (without_one a x)) < suc (length a)
    by b true e f l s = omega arith
    by true false e f l s = absurd (false≢true (sym f ∙ ap (λ z. eqb y z) (eqb-true x y e) ∙ eq-eqb y y refl))
    by false false e f l s = (let g = s (rw e at h) in omega arith)

-- what was taken so far
pub record AreTakenSo (pushes unreached queue rest more : List ℕ) : Type 0 where
  pub found : List ℕ
  pub behind : more ≡ queue ++ found
  pub found_is : (v : ℕ) → is_member v found ≡ (is_member v unreached && not (is_member v rest))
  pub inside : (v : ℕ) → is_member v rest ≡ true → is_member v unreached ≡ true
  pub took : (v : ℕ) → is_member v unreached ≡ true → is_member v rest ≡ false → is_member v pushes ≡ true
  pub fuel : length more + length rest ≤ length queue + length unreached

pub taken_none : (pushes unreached queue : List ℕ) → AreTakenSo pushes unreached queue unreached queue
taken_none pushes unreached queue = record {
  found = [];
  behind = sym (append-nil queue);
  found_is = λ v. neither (is_member v unreached);
  inside = λ v h. h;
  took = λ v h o. absurd (false≢true (sym o ∙ h));
  fuel = omega arith;
}
  where
    neither : (a : Bool) → false ≡ (a && not a)
    neither true = refl
    neither false = refl

module _ {pushes unreached queue rest more : List ℕ} (t : AreTakenSo pushes unreached queue rest more) where
  pub taken_more : (v : ℕ) → IsFirstFrom (λ x. is_member x rest && is_member x pushes) 0 v
      → AreTakenSo pushes unreached queue (without_one rest v) (more ++ v ∷ [])
  taken_more v f =
      let both = and_parts (is_member v rest) (is_member v pushes) f.passes in
      record {
        found = t.found ++ v ∷ [];
        behind = ap (λ l. l ++ v ∷ []) t.behind ∙ append_assoc queue t.found (v ∷ []);
        found_is = λ z. is_member-push z v t.found ∙ ap (λ b. b || eqb z v) (t.found_is z)
            ∙ new (is_member z unreached) (is_member z rest) (eqb z v) (λ e. ap (λ y. is_member y unreached) (eqb-true z v e) ∙ t.inside v both.0)
            ∙ ap (λ b. is_member z unreached && not b) (sym (is_member-without_one z v rest));
        inside = λ z h. t.inside z (and_parts (is_member z rest) (not (eqb z v)) (sym (is_member-without_one z v rest) ∙ h)).0;
        took = λ z h o. elim (cases_Bool (is_member z rest)) [
          | inl a ↦ ap (λ y. is_member y pushes) (eqb-true z v (and_not_gives (is_member z rest) (eqb z v) a (sym (is_member-without_one z v rest) ∙ o))) ∙ both.1
          | inr a ↦ t.took z h a
        ];
        fuel = (let l = length-append more (v ∷ []) in let s = without-shorter rest v both.0 in let g = t.fuel in omega arith);
      }
    where
      new : (u r e : Bool) → (e ≡ true → u ≡ true) → ((u && not r) || e) ≡ (u && not (r && not e))
      new u r true h = let k = h refl in grind arith
      new true true false h = refl
      new true false false h = refl
      new false r false h = refl

  pub taken_all : ((v : ℕ) → 0 ≤ v → (is_member v rest && is_member v pushes) ≡ false) → AreTaken pushes unreached queue rest more
  taken_all none = record {
    found = t.found;
    behind = t.behind;
    found_is = λ v. t.found_is v ∙ took (is_member v unreached) (is_member v rest) (is_member v pushes) (t.took v) (none v (omega arith));
    rest_is = λ v. rests (is_member v unreached) (is_member v rest) (is_member v pushes) (t.inside v) (t.took v) (none v (omega arith));
    fuel = t.fuel;
  }
    where
      took : (u r p : Bool) → (u ≡ true → r ≡ false → p ≡ true) → (r && p) ≡ false → (u && not r) ≡ (u && p)
      took true true p f n = sym n
      took true false p f n = sym (f refl refl)
      took false r p f n = refl

      rests : (u r p : Bool) → (r ≡ true → u ≡ true) → (u ≡ true → r ≡ false → p ≡ true) → (r && p) ≡ false → r ≡ (u && not p)
      rests true true p g f n = sym (ap not n)
      rests true false p g f n = sym (ap not (f refl refl))
      rests false true p g f n = absurd (false≢true (g refl))
      rests false false p g f n = refl
