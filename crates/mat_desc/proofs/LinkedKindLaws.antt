-- Transversal matroids and gammoids: what is read behind the keyword is spelled so, and what is spelled so is read.
use Rattle.mat_desc.proofs.Common.{◌≡◌, ℕ, ◌≤◌, List, [], ◌∷◌, ◌++◌, length, map, pos, None, Ok, refl, ap, subst, ◌∙◌, arith, codes, numeral, numerals, Line, Tree, transversal, gammoid, Naming, IsNaming, most_sets, most_arcs, most_vertices, WordsLeft, LinesLeft, repeat_at, size_at, ended_at}
use Rattle.mat_desc.proofs.Common.{set_line_at, transversal_at, targets_at, ends_line_at, gammoid_at, IsPairBelow, IsValidTree, Lists, FamilyLines, ends_line, found-same, bind_found, size_again, AreLeft, items_found, items_again}
use Rattle.mat_desc.specs.declared.read.keywords.Keyword.TheVariants as keywords
use Rattle.mat_desc.proofs.Told.{count_line, ended_found, ended_again, size_found}
use Rattle.mat_desc.proofs.ItemLaws.{ends_line_found, ends_line_again}
use Rattle.mat_desc.proofs.SetLineLaws.{set_line_found, set_line_again, family_found, family_again}
use Rattle.mat_desc.proofs.TargetLaws.{targets_found, targets_again}
use Rattle.mat_desc.proofs.KindLaws.{IsKindRead}

-- ---- transversal matroids

pub transversal_found : (naming : Naming) (room n : ℕ) → IsNaming n naming → (words : WordsLeft) (lines : LinesLeft) (tree : Tree) (q : LinesLeft)
    → transversal_at naming n words lines ≡ Ok (tree, q) → IsKindRead naming room n keywords.Transversal words lines tree q
unfolding transversal_at
transversal_found naming room n named words lines tree q e =
    let many = bind_found (size_at 0 most_sets words) _ (tree, q) e in
    let end = bind_found (ended_at many.0.1) _ (tree, q) many.2 in
    let family = bind_found (repeat_at (set_line_at naming (codes "set") n) many.0.0 lines) _ (tree, q) end.2 in
    let same = found-same (transversal n family.0.0, family.0.1) (tree, q) family.2 in
    let number = size_found 0 most_sets words many.0.0 many.0.1 many.1 in
    let last = ended_found many.0.1 end.0 end.1 in
    let read = family_found naming n named many.0.0 lines family.0.0 family.0.1 family.1 in
    let line : words.words ≡ numeral (pos (length family.0.0)) ∷ [] =
    count_line many.0.0 (length family.0.0) words.words many.0.1.words number.cut last read.count in
    let few : length family.0.0 ≤ most_sets = omega (arith, read.count, number.most) in
    let one : IsKindRead naming room n keywords.Transversal words lines (transversal n family.0.0) family.0.1 = record {
      valid = ((refl, few, read.in_range), omega arith);
      spelled = λ rest left.
          let behind = read.spelled rest left in
          (behind.0, behind.2, (behind.0, ap (λ (t : Line). (codes "transversal" ∷ t) ∷ behind.0) line, behind.1));
    } in
    subst (λ (r : Tree × LinesLeft). IsKindRead naming room n keywords.Transversal words lines r.0 r.1) same one

pub transversal_again : (naming : Naming) (n : ℕ) → IsNaming n naming → (line m : ℕ) (family : List (List ℕ)) (p : LinesLeft) (lines rest : List Line)
    → IsValidTree n (transversal m family)
    → FamilyLines naming family lines rest → AreLeft lines p
    → (q : LinesLeft) × (transversal_at naming n (record { line = line; words = numeral (pos (length family)) ∷ [] }) p
    ≡ Ok (transversal m family, q)) × AreLeft rest q
unfolding transversal_at
transversal_again naming n named line m family p lines rest valid spelled left =
    let many = size_again 0 most_sets line (length family) [] (omega arith) (omega (arith, valid.1)) in
    let read = family_again naming n named p family lines rest valid.2 spelled left in
    (read.0, rw (many, ended_again line, read.1, valid.0) refl, read.2)

-- ---- gammoids

pub gammoid_found : (naming : Naming) (room n : ℕ) (words : WordsLeft) (lines : LinesLeft) (tree : Tree) (q : LinesLeft)
    → gammoid_at n words lines ≡ Ok (tree, q)
    → IsKindRead naming room n keywords.Gammoid words lines tree q
unfolding gammoid_at
gammoid_found naming room n words lines tree q e =
    let vertices = bind_found (size_at 1 most_vertices words) _ (tree, q) e in
    let v = vertices.0.0 in
    let many = bind_found (size_at 0 most_arcs vertices.0.1) _ (tree, q) vertices.2 in
    let end = bind_found (ended_at many.0.1) _ (tree, q) many.2 in
    let sources = bind_found (set_line_at None (codes "sources") v lines) _ (tree, q) end.2 in
    let targets = bind_found (targets_at v n sources.0.1) _ (tree, q) sources.2 in
    let arcs = bind_found (repeat_at (ends_line_at None (codes "arc") v) many.0.0 targets.0.1) _ (tree, q) targets.2 in
    let same = found-same (gammoid v arcs.0.0 sources.0.0 targets.0.0, arcs.0.1) (tree, q) arcs.2 in
    let first = size_found 1 most_vertices words v vertices.0.1 vertices.1 in
    let second = size_found 0 most_arcs vertices.0.1 many.0.0 many.0.1 many.1 in
    let last = ended_found many.0.1 end.0 end.1 in
    let starts = set_line_found None (codes "sources") v tt lines sources.0.0 sources.0.1 sources.1 in
    let ends = targets_found v n sources.0.1 targets.0.0 targets.0.1 targets.1 in
    let read = items_found (ends_line_at None (codes "arc") v) (ends_line None (codes "arc")) (IsPairBelow v v)
    (ends_line_found None (codes "arc") v tt)
    many.0.0 targets.0.1 arcs.0.0 arcs.0.1 arcs.1 in
    let line : words.words ≡ numeral (pos v) ∷ numeral (pos (length arcs.0.0)) ∷ [] = first.cut ∙ rw (second.cut, last, read.count) refl in
    let one : IsKindRead naming room n keywords.Gammoid words lines (gammoid v arcs.0.0 sources.0.0 targets.0.0) arcs.0.1 = record {
      valid = (
        (
          ends.count,
          first.least,
          omega (arith, first.most),
          omega (arith, read.count, second.most),
          read.each,
          starts.in_range,
          ends.below,
          ends.distinct,
        ),
        omega arith,
      );
      spelled = λ rest left.
          let behind = (codes "targets" ∷ numerals targets.0.0) ∷ (map (ends_line None (codes "arc")) arcs.0.0 ++ rest) in
          let more = (codes "sources" ∷ numerals starts.xs) ∷ behind in
          let header = ap (λ (t : Line). (codes "gammoid" ∷ t) ∷ more) line in
          (more, starts.spelled behind (ends.spelled _ (read.spelled rest left)), (starts.xs, starts.lists, header));
    } in
    subst (λ (r : Tree × LinesLeft). IsKindRead naming room n keywords.Gammoid words lines r.0 r.1) same one

pub gammoid_again : (n line vertices : ℕ) (arcs : List (ℕ × ℕ)) (sources targets xs : List ℕ) (p : LinesLeft) (rest : List Line)
    → IsValidTree n (gammoid vertices arcs sources targets) → Lists xs sources
    → AreLeft ((codes "sources" ∷ numerals xs) ∷ (codes "targets" ∷ numerals targets) ∷ (map (ends_line None (codes "arc")) arcs ++ rest)) p
    → (q : LinesLeft) × (gammoid_at n (record { line = line; words = numeral (pos vertices) ∷ numeral (pos (length arcs)) ∷ [] }) p
    ≡ Ok (gammoid vertices arcs sources targets, q)) × AreLeft rest q
unfolding gammoid_at
gammoid_again n line vertices arcs sources targets xs p rest valid lists left =
    let arc_lines = map (ends_line None (codes "arc")) arcs ++ rest in
    let number = size_again 1 most_vertices line vertices (numeral (pos (length arcs)) ∷ []) valid.1 (omega (arith, valid.2)) in
    let many = size_again 0 most_arcs line (length arcs) [] (omega arith) (omega (arith, valid.3)) in
    let starts = set_line_again None (codes "sources") vertices tt refl p sources xs ((codes "targets" ∷ numerals targets) ∷ arc_lines) valid.5
    lists left in
    let ends = targets_again vertices n starts.0 targets arc_lines valid.0 valid.6 valid.7 starts.2 in
    let arc_again = ends_line_again None (codes "arc") vertices tt refl in
    let read = items_again (ends_line_at None (codes "arc") vertices) (ends_line None (codes "arc")) (IsPairBelow vertices vertices) arc_again ends.0
    arcs rest valid.4 ends.2 in
    (read.0, rw (number, many, ended_again line, starts.1, ends.1, read.1) refl, read.2)
