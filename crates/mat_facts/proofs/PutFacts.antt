-- Facts that are put behind others, one after the other.
use Rattle.mat_facts.proofs.Common.{◌≡◌, ◌<◌, ◌+◌, ◌∙◌, ℕ, zero, suc, Bool, List, [], ◌∷◌, ◌++◌, length, get_or, refl, sym, ap, subst, arith, cond, flat_map, slice_get, all_below, minus, rank, last_rung, PlainRung, PricedRung, Weight, weight_at, Fact, allowed, at_most, few_above, shared, falling_terms, costs_facts, cut_facts, ladder_facts, last_facts, level_most_facts, rung_facts, size_facts, sizes_facts, whole_facts}
use Rattle.std.proofs.Common.{append_assoc, take}

-- the facts of a size, one by one
pub three_facts : (M N O P : List Fact) (first second : List Weight) (set : List ℕ)
    → N ≡ M ++ shared (first ∷ second ∷ []) ∷ [] → O ≡ N ++ few_above 0 first (falling_terms (weight_at first) set) ∷ []
    → P ≡ O ++ few_above 1 second (falling_terms (weight_at second) set) ∷ []
    → P ≡ M ++ size_facts (first ∷ second ∷ []) set
three_facts M N O P first second set e f g =
    let one = shared (first ∷ second ∷ []) in
    let two = few_above 0 first (falling_terms (weight_at first) set) in
    let three = few_above 1 second (falling_terms (weight_at second) set) in
    g ∙ ap (λ xs. xs ++ three ∷ []) (f ∙ ap (λ xs. xs ++ two ∷ []) e)
    ∙ ap (λ xs. xs ++ three ∷ []) (append_assoc M (one ∷ []) (two ∷ [])) ∙ append_assoc M (one ∷ two ∷ []) (three ∷ [])

-- the same of whole weights
pub two_facts : (M N O : List Fact) (w : List Weight) (set : List ℕ)
    → N ≡ M ++ shared (w ∷ []) ∷ [] → O ≡ N ++ few_above 0 w (falling_terms (weight_at w) set) ∷ []
    → O ≡ M ++ size_facts (w ∷ []) set
two_facts M N O w set e f =
    let one = shared (w ∷ []) in
    let two = few_above 0 w (falling_terms (weight_at w) set) in
    f ∙ ap (λ xs. xs ++ two ∷ []) e ∙ append_assoc M (one ∷ []) (two ∷ [])

-- ---- the sizes that are told, one after the other

nothing_behind : (xs : List Fact) → xs ++ [] ≡ xs
nothing_behind [] = refl
nothing_behind (x ∷ xs) = ap (λ ys. x ∷ ys) (nothing_behind xs)

module _ {R : Type 0} (told : ℕ → Bool) (f : R → List Fact) where
  sizes_more : (o : ℕ) (rs : List R) (k : ℕ) (d : R) → k < length rs
      → sizes_facts told f o (take (k + 1) rs) ≡ sizes_facts told f o (take k rs) ++ cond (told (o + k)) (f (get_or rs k d)) []
  sizes_more o [] k d l = absurd (omega arith)
  sizes_more o (r ∷ rs) zero d l =
      let same : o ≡ o + 0 = omega arith in
      nothing_behind (cond (told o) (f r) []) ∙ ap (λ j. cond (told j) (f r) []) same
  sizes_more o (r ∷ rs) (suc k) d l =
      let before = sizes_more (suc o) rs k d (omega arith) in
      let same : suc o + k ≡ o + suc k = omega arith in
      let moved = subst (λ j. sizes_facts told f (suc o) (take (k + 1) rs) ≡ sizes_facts told f (suc o) (take k rs) ++ cond (told j) (f (get_or rs k d)) [])
      same before in
      let one : suc k + 1 ≡ suc (k + 1) = omega arith in
      ap (λ j. sizes_facts told f o (take j (r ∷ rs))) one ∙ ap (λ xs. cond (told o) (f r) [] ++ xs) moved
      ∙ sym (append_assoc (cond (told o) (f r) []) (sizes_facts told f (suc o) (take k rs)) (cond (told (o + suc k)) (f (get_or rs k d)) []))

  -- one more size, which is told or not
  pub sizes_next : (M N O : List Fact) (rs : List R) (k : ℕ) (r : R) (here : Bool) → k < length rs → here ≡ told k → r ≡ get_or rs k r
      → N ≡ M ++ sizes_facts told f 0 (take k rs) → O ≡ N ++ cond here (f r) [] → O ≡ M ++ sizes_facts told f 0 (take (k + 1) rs)
  sizes_next M N O rs k r here l is item before after =
      let same : 0 + k ≡ k = omega arith in
      let more = sizes_more 0 rs k r l ∙ ap (λ j. sizes_facts told f 0 (take k rs) ++ cond (told j) (f (get_or rs k r)) []) same
      ∙ ap (λ b. sizes_facts told f 0 (take k rs) ++ cond b (f (get_or rs k r)) []) (sym is)
      ∙ ap (λ z. sizes_facts told f 0 (take k rs) ++ cond here (f z) []) (sym item) in
      after ∙ ap (λ xs. xs ++ cond here (f r) []) before ∙ append_assoc M (sizes_facts told f 0 (take k rs)) (cond here (f r) [])
      ∙ ap (λ xs. M ++ xs) (sym more)

-- ---- what each of some rules allows, and levels

-- one fact and then others
pub one_first : (M N O : List Fact) (one : Fact) (others : List Fact) → N ≡ M ++ one ∷ [] → O ≡ N ++ others → O ≡ M ++ one ∷ others
one_first M N O one others e f = f ∙ ap (λ xs. xs ++ others) e ∙ append_assoc M (one ∷ []) others

most_more : (cut : List ℕ) (o : ℕ) (tests : List (List ℕ → Bool)) (k : ℕ) (d : List ℕ → Bool) → k < length tests
    → level_most_facts o (take (k + 1) tests) cut
    ≡ level_most_facts o (take k tests) cut ++ at_most (o + k) cut (rank (get_or tests k d) cut) ∷ []
most_more cut o [] k d l = absurd (omega arith)
most_more cut o (test ∷ tests) zero d l =
    let same : o ≡ o + 0 = omega arith in
    ap (λ j. at_most j cut (rank test cut) ∷ []) same
most_more cut o (test ∷ tests) (suc k) d l =
    let before = most_more cut (suc o) tests k d (omega arith) in
    let same : suc o + k ≡ o + suc k = omega arith in
    let one : suc k + 1 ≡ suc (k + 1) = omega arith in
    ap (λ j. level_most_facts o (take j (test ∷ tests)) cut) one
    ∙ ap (λ xs. at_most o cut (rank test cut) ∷ xs) (before
    ∙ ap (λ j. level_most_facts (suc o) (take k tests) cut ++ at_most j cut (rank (get_or tests k d) cut) ∷ []) same)

-- one more rule allows few
pub most_told : (M N O : List Fact) (cut : List ℕ) (tests : List (List ℕ → Bool)) (k : ℕ) (test : List ℕ → Bool) → k < length tests
    → get_or tests k test ≡ test → N ≡ M ++ level_most_facts 0 (take k tests) cut → O ≡ N ++ at_most k cut (rank test cut) ∷ []
    → O ≡ M ++ level_most_facts 0 (take (k + 1) tests) cut
most_told M N O cut tests k test l is before here =
    let same : 0 + k ≡ k = omega arith in
    let new = at_most k cut (rank test cut) ∷ [] in
    let more = most_more cut 0 tests k test l
    ∙ ap (λ j. level_most_facts 0 (take k tests) cut ++ at_most j cut (rank (get_or tests k test) cut) ∷ []) same
    ∙ ap (λ t. level_most_facts 0 (take k tests) cut ++ at_most k cut (rank t cut) ∷ []) is in
    here ∙ ap (λ xs. xs ++ new) before ∙ append_assoc M (level_most_facts 0 (take k tests) cut) new ∙ ap (λ xs. M ++ xs) (sym more)

module _ {R : Type 0} (f : R → List Fact) where
  each_more : (rs : List R) (k : ℕ) (d : R) → k < length rs → flat_map f (take (k + 1) rs) ≡ flat_map f (take k rs) ++ f (get_or rs k d)
  each_more [] k d l = absurd (omega arith)
  each_more (r ∷ rs) zero d l = nothing_behind (f r)
  each_more (r ∷ rs) (suc k) d l =
      let one : suc k + 1 ≡ suc (k + 1) = omega arith in
      ap (λ j. flat_map f (take j (r ∷ rs))) one ∙ ap (λ xs. f r ++ xs) (each_more rs k d (omega arith))
      ∙ sym (append_assoc (f r) (flat_map f (take k rs)) (f (get_or rs k d)))

  -- the facts of one more
  pub each_told : (M N O : List Fact) (rs : List R) (k : ℕ) (r : R) → k < length rs
      → r ≡ get_or rs k r → N ≡ M ++ flat_map f (take k rs) → O ≡ N ++ f r → O ≡ M ++ flat_map f (take (k + 1) rs)
  each_told M N O rs k r l item before here =
      here ∙ ap (λ xs. xs ++ f r) before ∙ append_assoc M (flat_map f (take k rs)) (f r)
      ∙ ap (λ xs. M ++ xs) (ap (λ z. flat_map f (take k rs) ++ f z) item ∙ sym (each_more rs k r l))

-- ---- whole reasons

-- a cut
pub cut_told : (M N O : List Fact) (n : ℕ) (p q : List ℕ → Bool) (cut rest : List ℕ) → rest ≡ minus (all_below n) cut
    → N ≡ M ++ at_most 0 rest (rank p rest) ∷ [] → O ≡ N ++ at_most 1 cut (rank q cut) ∷ [] → O ≡ M ++ cut_facts n p q cut
cut_told M N O n p q cut rest same e f =
    let one = at_most 0 rest (rank p rest) in
    let two = at_most 1 cut (rank q cut) in
    f ∙ ap (λ xs. xs ++ two ∷ []) e ∙ append_assoc M (one ∷ []) (two ∷ []) ∙ ap (λ xs. M ++ at_most 0 xs (rank p xs) ∷ two ∷ []) same

-- a ladder
pub whole_ladder : (told : ℕ → Bool) (n : ℕ) (p q : List ℕ → Bool) (rungs : List PricedRung) (cut : List ℕ) (L M N O : List Fact)
    → L ≡ [] → M ≡ L ++ allowed ∷ [] → N ≡ M ++ sizes_facts told rung_facts 0 rungs → O ≡ N ++ cut_facts n p q cut
    → O ≡ ladder_facts told n p q rungs cut
whole_ladder told n p q rungs cut L M N O d e f g =
    g ∙ ap (λ xs. xs ++ cut_facts n p q cut) (f ∙ ap (λ xs. xs ++ sizes_facts told rung_facts 0 rungs) (e ∙ ap (λ xs. xs ++ allowed ∷ []) d))

-- the sets of one matroid
pub whole_rungs : (told : ℕ → Bool) (w : List Weight) (rungs : List PlainRung) (L M N O : List Fact)
    → L ≡ [] → M ≡ L ++ allowed ∷ [] → N ≡ M ++ sizes_facts told (whole_facts w) 0 rungs
    → O ≡ N ++ last_facts (slice_get rungs (last_rung rungs))
    → O ≡ allowed ∷ sizes_facts told (whole_facts w) 0 rungs ++ last_facts (slice_get rungs (last_rung rungs))
whole_rungs told w rungs L M N O d e f g =
    g ∙ ap (λ xs. xs ++ last_facts (slice_get rungs (last_rung rungs)))
    (f ∙ ap (λ xs. xs ++ sizes_facts told (whole_facts w) 0 rungs) (e ∙ ap (λ xs. xs ++ allowed ∷ []) d))

-- an arborescence
pub whole_arborescence : (first second costs : List Weight) (tree : List ℕ) (L M N O : List Fact)
    → L ≡ [] → M ≡ L ++ allowed ∷ [] → N ≡ M ++ size_facts (first ∷ second ∷ []) tree → O ≡ N ++ costs_facts costs
    → O ≡ allowed ∷ size_facts (first ∷ second ∷ []) tree ++ costs_facts costs
whole_arborescence first second costs tree L M N O d e f g =
    g ∙ ap (λ xs. xs ++ costs_facts costs) (f ∙ ap (λ xs. xs ++ size_facts (first ∷ second ∷ []) tree) (e ∙ ap (λ xs. xs ++ allowed ∷ []) d))
