-- The loop that adds elements one after the other: what is done is what was done before and those that came; the others are still new.
use Rattle.mat_union.proofs.Common.{◌≡◌, ℕ, ◌+◌, ◌<◌, ◌≤◌, Bool, true, false, not, ◌||◌, eqb, ltb, List, length, get_or, take, refl, sym, ap, ◌∙◌, and_from, both_ways, false_from_ne_true, lt-ltb, not_from_false, or_from, or_left, or_right, or_parts, take_all, family_union, is_member, IsRising}
use Rattle.mat_union.proofs.Common.{IsSubset, is_member-get_or, is_member-take_more, is_member-take_next, IsSubset-trans, and_not_gives, or_none, or_assoc, AreDone, AreFresh, AreGrowing}

pub done_ext : {n : ℕ} {parts : List (List ℕ)} {spanned : List ℕ} (done other : ℕ → Bool) → ((v : ℕ) → done v ≡ other v) → AreDone n done parts spanned → AreDone n other parts spanned
done_ext done other same d = record {
  placed = λ v h. sym (same v) ∙ d.placed v h;
  refused = λ v h. sym (same v) ∙ d.refused v h;
  all = λ v l h. d.all v l (same v ∙ h);
}

-- after the first i of these elements came
pub record AreComing (n : ℕ) (elements : List ℕ) (i : ℕ) (start : List (List ℕ)) (start_spanned : List ℕ) (parts : List (List ℕ)) (spanned : List ℕ) : Type 0 where
  pub done : (done : ℕ → Bool) → AreDone n done start start_spanned → AreDone n (λ v. done v || is_member v (take i elements)) parts spanned
  pub holds : IsSubset (family_union start) (family_union parts)
  pub new : (x : ℕ) → is_member x elements ≡ true → is_member x (take i elements) ≡ false → (is_member x (family_union parts) ≡ false) × (is_member x spanned ≡ false)

pub coming_none : {n : ℕ} {elements : List ℕ} {parts : List (List ℕ)} {spanned : List ℕ} → AreFresh n elements parts spanned → AreComing n elements 0 parts spanned parts spanned
coming_none {n} {elements} f = record {
  done = λ done d. done_ext done (λ v. done v || is_member v (take 0 elements)) (λ v. sym (or_none (done v))) d;
  holds = record { inside = λ x h. h };
  new = λ x h o. (f.new x h, f.unspanned x h);
}

module _ {n : ℕ} {elements : List ℕ} {i : ℕ} {start : List (List ℕ)} {start_spanned : List ℕ} {parts : List (List ℕ)} {spanned : List ℕ} (c : AreComing n elements i start start_spanned parts spanned) (r : IsRising elements) (l : i < length elements) where
  abbrev x : ℕ
  x = get_or elements i 0

  x_in : is_member x elements ≡ true
  x_in = is_member-get_or elements i x l refl

  pub next_new : (is_member x (family_union parts) ≡ false) × (is_member x spanned ≡ false)
  next_new = c.new x x_in (is_member-take_next elements i r l)

  pub coming_more : (parts' : List (List ℕ)) (spanned' : List ℕ) → ((done : ℕ → Bool) → AreDone n done parts spanned → AreDone n (λ v. done v || eqb v x) parts' spanned')
      → IsSubset (family_union parts) (family_union parts') → AreComing n elements (i + 1) start start_spanned parts' spanned'
  coming_more parts' spanned' more holds =
      let own : AreDone n (λ v. (is_member v (family_union parts) || is_member v spanned) || eqb v x) parts' spanned' = more (λ v. is_member v (family_union parts) || is_member v spanned) (record {
        placed = λ v h. or_left (is_member v (family_union parts)) (is_member v spanned) h;
        refused = λ v h. or_right (is_member v (family_union parts)) (is_member v spanned) h;
        all = λ v k h. h;
      }) in
      record {
        done = λ done d. done_ext (λ v. (done v || is_member v (take i elements)) || eqb v x) (λ v. done v || is_member v (take (i + 1) elements))
            (λ v. sym (or_assoc (done v) (is_member v (take i elements)) (eqb v x)) ∙ ap (λ b. done v || b) (sym (is_member-take_more elements i v l))) (more (λ v. done v || is_member v (take i elements)) (c.done done d));
        holds = IsSubset-trans (family_union start) (family_union parts) (family_union parts') c.holds holds;
        new = λ z h o.
            (let apart = or_parts (is_member z (take i elements)) (eqb z x) (sym (is_member-take_more elements i z l) ∙ o) in
            let old = c.new z h apart.0 in
            let not_own : ((is_member z (family_union parts) || is_member z spanned) || eqb z x) ≡ false = or_from _ (eqb z x) (or_from (is_member z (family_union parts)) (is_member z spanned) old.0 old.1) apart.1 in
            (false_from_ne_true _ (λ k. both_ways _ not_own (own.placed z k)), false_from_ne_true _ (λ k. both_ways _ not_own (own.refused z k))));
      }

-- below n, what is not among the spanned elements is among the unspanned ones
pub is_unspanned : {n : ℕ} {tests : List (List ℕ → Bool)} {parts : List (List ℕ)} {spanned unspanned : List ℕ} → AreGrowing n tests parts spanned unspanned → (v : ℕ) → v < n → is_member v spanned ≡ false → is_member v unspanned ≡ true
is_unspanned {n} {tests} {parts} {spanned} g v l o = g.others v ∙ and_from (ltb v n) (not (is_member v spanned)) (lt-ltb v n l) (not_from_false (is_member v spanned) o)

-- and what is not among the unspanned ones is among the spanned ones
pub is_spanned : {n : ℕ} {tests : List (List ℕ → Bool)} {parts : List (List ℕ)} {spanned unspanned : List ℕ} → AreGrowing n tests parts spanned unspanned → (v : ℕ) → v < n → is_member v unspanned ≡ false → is_member v spanned ≡ true
is_spanned {n} {tests} {parts} {spanned} g v l o = and_not_gives (ltb v n) (is_member v spanned) (lt-ltb v n l) (sym (g.others v) ∙ o)

pub coming_end : {n : ℕ} {elements : List ℕ} {i : ℕ} {start : List (List ℕ)} {start_spanned : List ℕ} {parts : List (List ℕ)} {spanned : List ℕ} → AreComing n elements i start start_spanned parts spanned → length elements ≤ i
    → (done : ℕ → Bool) → AreDone n done start start_spanned → AreDone n (λ v. done v || is_member v elements) parts spanned
coming_end {n} {elements} {i} c l done d = done_ext (λ v. done v || is_member v (take i elements)) (λ v. done v || is_member v elements) (λ v. ap (λ xs. done v || is_member v xs) (take_all i elements l)) (c.done done d)
