use Rattle.mat_desc.proofs.Common.{◌≡◌, ℕ, List, [], ◌∷◌, ◌++◌, ◌<◌, ◌^◌, length, map, pos, ap, subst, ◌∙◌, rules, arith, ints, codes, numeral, listing_line, text_of, naming}
use mir.Val.{to_z}
use mir.Syntax.{w128}
use Rattle.mat_desc.proofs.Writing.{both_written}
use Rattle.mat_desc.proofs.write.matroids.put_transversal.Goals as goal

-- a length keeps its value as a number with a sign
kept_length : (n : ℕ) → n < 2 ^ 64 → to_z w128 n ≡ pos n
kept_length n few = grind (arith, ints)

pub returns : goal.returns
returns c =
    let old = c.args.out.now.items in
    let lines = λ (sets : List (List ℕ)). map (listing_line (naming c.args.names) (codes "set")) sets in
    let family = c.as_slice-family.result.now in
    let few : length family < 2 ^ 64 = search rules in
    let header = subst (λ count. c.put_numbers_line.new.out.items ≡ old ++ text_of ((codes "transversal" ∷ numeral count ∷ []) ∷ []))
    (kept_length (length family) few) c.in_ok-put_numbers_line.ensures.ok in
    both_written old c.put_numbers_line.new.out.items c.put_family_lines.new.out.items
    ((codes "transversal" ∷ numeral (pos (length family)) ∷ []) ∷ []) (lines family)
    header c.in_ok-put_family_lines.ensures
    ∙ ap (λ (sets : List (List ℕ)). old ++ text_of ((codes "transversal" ∷ numeral (pos (length sets)) ∷ []) ∷ lines sets))
    (c.as_slice-family.ensures.items ∙ c.family.ensures)
