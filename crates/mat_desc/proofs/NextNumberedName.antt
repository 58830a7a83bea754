-- The next of numbered names isn't among those before it, so it goes behind them.
use Rattle.mat_desc.proofs.Common.{◌≡◌, ℕ, ◌+◌, ◌<◌, false, [], ◌∷◌, ◌++◌, pos, Option, Some, None, is_some, if◌then◌else◌, refl, sym, ap, ◌∙◌, arith, map-all_below_more, numeral, name_index, is_among, with_name, name_index-found, numbered}
use Rattle.mat_desc.proofs.NumberedNames.{numeral-same, length-numbered, get_or-numbered}

same_numeral : (letter x y : ℕ) → letter ∷ numeral (pos x) ≡ letter ∷ numeral (pos y) → numeral (pos x) ≡ numeral (pos y)
same_numeral letter x y e = cc

-- the next name isn't among those before it
pub next-missing : (letter i : ℕ) → is_among (numbered (letter ∷ []) i) (letter ∷ numeral (pos i)) ≡ false
next-missing letter i = by (name_index (numbered (letter ∷ []) i) (letter ∷ numeral (pos i))) refl
  where
    by : (o : Option ℕ) → name_index (numbered (letter ∷ []) i) (letter ∷ numeral (pos i)) ≡ o → is_some o ≡ false
    by None e = refl
    by (Some k) e =
        let found = name_index-found (numbered (letter ∷ []) i) (letter ∷ numeral (pos i)) k e in
        let before : k < i = omega (arith, found.0, length-numbered (letter ∷ []) i) in
        let same : k ≡ i = numeral-same k i (same_numeral letter k i (sym (get_or-numbered letter i k before) ∙ found.1)) in
        absurd (omega (arith, same, before))

-- so it goes behind them
pub next-numbered : (letter i : ℕ) → with_name (numbered (letter ∷ []) i) (letter ∷ numeral (pos i)) ≡ numbered (letter ∷ []) (i + 1)
next-numbered letter i =
    ap (λ b. if b then numbered (letter ∷ []) i else numbered (letter ∷ []) i ++ (letter ∷ numeral (pos i)) ∷ []) (next-missing letter i)
    ∙ sym (map-all_below_more (λ x. (letter ∷ []) ++ numeral (pos x)) i)
