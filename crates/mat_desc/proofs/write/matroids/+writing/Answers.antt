-- A union is written as its line with the number of its matroids, and then their lines one after the other; names are there for the matroids
-- within where they are there for the whole.
use Rattle.mat_desc.proofs.Common.{◌≡◌, ℕ, ◌<◌, ◌^◌, List, [], ◌∷◌, ◌++◌, length, map, get_or, pos, ap, subst, sym, ◌∙◌, rules, arith, All, codes, ints, length-map, Line, text_of, numeral, tree_of, the_lemmas, matroid_lines, IsValidTree, naming}
use Rattle.std.specs.List.{flat_map}
use Rattle.std.proofs.lemmas.List.Folds.{flat_map-map}
use mir.Val.{to_z}
use mir.Syntax.{w128}
use Rattle.mat_any.proofs.JoinedMatroids.{node}
use Rattle.mat_desc.proofs.NamedParts.{where_named, part_valid, parts_valid}
use Rattle.mat_desc.proofs.UnionLines.{union_lines}
use Rattle.mat_desc.proofs.Writing.{both_written, items_written}
use Rattle.mat_desc.proofs.write.matroids.+writing.Goals as goal

-- a length keeps its value as a number with a sign
kept_length : (n : ℕ) → n < 2 ^ 64 → to_z w128 n ≡ pos n
kept_length n few = grind (arith, ints)

pub put_matroid-put_matroids-requires : goal.put_matroid-put_matroids-requires
put_matroid-put_matroids-requires t c =
    let m = c.args.matroid.now in
    let ms = c.deref-in-Union.result.now in
    let is = node m c.in-Union.parts ms c.in-Union.is c.deref-in-Union.ensures.value in
    let named = where_named (naming c.args.names) (λ n. IsValidTree n (tree_of m)) (λ n. All (IsValidTree n) (map tree_of ms))
    (λ n valid. parts_valid n (map tree_of ms) (subst (IsValidTree n) is valid).2) c.requires in
    (search (rules, the_lemmas), named)

pub put_matroids-put_matroid-requires : goal.put_matroids-put_matroid-requires
put_matroids-put_matroid-requires t c =
    let ms = c.args.matroids.now in
    let i = c.loop-matroid.matroid-index in
    let m = c.matroid-item.result in
    let inside : i < length ms = search rules in
    let at : get_or ms i m ≡ m = search rules in
    let named = where_named (naming c.args.names) (λ n. All (IsValidTree n) (map tree_of ms)) (λ n. IsValidTree n (tree_of m))
    (λ n valid. part_valid n ms i m inside at valid) c.requires in
    (search (rules, the_lemmas), named)

pub put_matroid-returns-in_ok-put_matroids-in-Union : goal.put_matroid-returns-in_ok-put_matroids-in-Union
put_matroid-returns-in_ok-put_matroids-in-Union t c =
    let lines_of = matroid_lines (naming c.args.names) in
    let old = c.args.out.now.items in
    let n = c.len.result in
    let ms = c.deref-in-Union.result.now in
    let same = c.deref-in-Union.ensures.value in
    let few : n < 2 ^ 64 = search rules in
    let long : n ≡ length c.in-Union.parts.items = omega (arith, c.len.ensures, c.in-Union.parts.ok) in
    let count : n ≡ length (map tree_of ms) = long ∙ sym (ap length same) ∙ sym (length-map ms tree_of) in
    let lines = λ (k : ℕ). (codes "union" ∷ numeral (pos k) ∷ []) ∷ flat_map lines_of (map tree_of ms) in
    let header = subst (λ k. c.put_numbers_line-in-Union.new.out.items ≡ old ++ text_of ((codes "union" ∷ numeral k ∷ []) ∷ []))
    (kept_length n few) c.in_ok-put_numbers_line-in-Union.ensures.ok in
    both_written old c.put_numbers_line-in-Union.new.out.items c.put_matroids.new.out.items
    ((codes "union" ∷ numeral (pos n) ∷ []) ∷ []) (flat_map lines_of (map tree_of ms)) header c.in_ok-put_matroids-in-Union.ensures
    ∙ ap (λ (ls : List Line). old ++ text_of ls)
    (ap lines count ∙ sym (union_lines (naming c.args.names) (map tree_of ms))
    ∙ sym (ap lines_of (node c.args.matroid.now c.in-Union.parts ms c.in-Union.is same)))

pub put_matroids-returns : goal.put_matroids-returns
put_matroids-returns t c =
    let lines_of = matroid_lines (naming c.args.names) in
    items_written (λ m. lines_of (tree_of m)) c.args.out.now.items c.args.matroids.now c.loop-matroid.matroid-index
    c.loop-matroid.out.items (omega arith) c.loop-matroid.invariant
    ∙ ap (λ (ls : List Line). c.args.out.now.items ++ text_of ls) (sym (flat_map-map lines_of tree_of c.args.matroids.now))
