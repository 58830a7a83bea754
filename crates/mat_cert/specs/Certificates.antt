-- Certificates as plain data, their ranges, and the one text of each.
use Rattle.std.specs.Prelude.{◌≡◌, ℕ, suc, ◌+◌, ◌-◌, ◌*◌, ◌<◌, ◌≤◌, ◌^◌, Bool, true, false, nat_lt, List, [], ◌∷◌}
use Rattle.std.specs.Prelude.{◌++◌, length, map, codes, pos, All, Option, Some, None, slice_get}
use Rattle.mat_sets.specs.Sets.{IsSet}
use Rattle.mat_sets.specs.declared.weight.Weight.{Weight}
use Rattle.mat_sets.specs.Weights.{IsWeightWithin}
use Rattle.mat_words.specs.Numbers.{numeral, numerals}
use Rattle.mat_words.specs.Weights.{weight_word}
use Rattle.mat_words.specs.Lines.{Line, text_of}
use Rattle.mat_words.specs.Writing.{end_line, members_line, weights_line}
use Rattle.mat_cert.specs.Limits.{most_colours, most_rows, most_columns}
use Rattle.mat_sets.specs.Limits.{most_vertices, most_elements, largest_number, most_matroids, most_trees}
use Rattle.mat_cert.specs.Limits.{most_levels}
use Rattle.mat_cert.specs.declared.answer.LevelLine.{LevelLine}
use Rattle.mat_cert.specs.declared.answer.PlainRung.{PlainRung}
use Rattle.mat_cert.specs.declared.answer.PricedRung.{PricedRung}

-- an answer as plain data, by its variant: the number of elements first, and then the other fields in their order
pub data Certificate : Type 0 where
  intersect : ℕ → List PricedRung → List ℕ → Certificate
  best : ℕ → List PlainRung → Certificate
  union_of : ℕ → Weight → List (List ℕ) → List LevelLine → Certificate
  pack_any : ℕ → Certificate
  pack : ℕ → List (List ℕ) → List ℕ → Certificate
  cover_never : ℕ → ℕ → Certificate
  cover : ℕ → List (List ℕ) → Option (List ℕ) → Certificate
  trees : ℕ → List (List ℕ) → Certificate
  trees_none : ℕ → ℕ → ℕ → List (List ℕ) → Certificate
  arbor : ℕ → Weight → List ℕ → List Weight → List Weight → Certificate
  unreached : ℕ → ℕ → List ℕ → Certificate
  disjoint : ℕ → List (List ℕ) → Certificate
  disjoint_none : ℕ → ℕ → ℕ → List ℕ → Certificate
  rainbow : ℕ → ℕ → ℕ → List PricedRung → List ℕ → Option (List ℕ) → Certificate
  assign : ℕ → ℕ → ℕ → List PricedRung → List ℕ → Certificate

-- ---- the text

-- the first line of rung k
abbrev pub rung_line : ℕ → Weight → Line
rung_line k weight = codes "rung" ∷ numeral (pos k) ∷ weight_word weight ∷ []

-- the two lines of rung k without a split
abbrev pub plain_rung_lines : ℕ → PlainRung → List Line
plain_rung_lines k rung = rung_line k rung.weight ∷ members_line (codes "set") rung.set ∷ []

-- the four lines of rung k with a split
abbrev pub priced_rung_lines : ℕ → PricedRung → List Line
priced_rung_lines k rung =
    rung_line k rung.weight ∷ members_line (codes "set") rung.set
    ∷ weights_line (codes "first") rung.first ∷ weights_line (codes "second") rung.second ∷ []

-- the lines of the rungs, of which the first is rung k
abbrev pub rungs_lines : {R : Type 0} → (ℕ → R → List Line) → ℕ → List R → List Line
rungs_lines lines_of_rung k [] = []
rungs_lines lines_of_rung k (rung ∷ rungs) = lines_of_rung k rung ++ rungs_lines lines_of_rung (suc k) rungs

-- the number of the last rung
abbrev pub last_rung : {R : Type 0} → List R → ℕ
last_rung rungs = length rungs - 1

-- the line of a level
abbrev pub level_line : LevelLine → Line
level_line level = codes "level" ∷ weight_word level.at ∷ numerals level.cut

-- sets, each on a line of this keyword
abbrev pub sets_lines : List ℕ → List (List ℕ) → List Line
sets_lines keyword sets = map (members_line keyword) sets

-- a set on a line of this keyword, where there is one
abbrev pub option_lines : List ℕ → Option (List ℕ) → List Line
option_lines keyword None = []
option_lines keyword (Some set) = members_line keyword set ∷ []

-- the first line, which names the version
abbrev pub version_line : Line
version_line = codes "certificate" ∷ codes "1" ∷ []

-- the header of a command, with these words behind it
abbrev pub header_line : List ℕ → Line → Line
header_line command words = codes "answer" ∷ command ∷ words

-- the header of a ladder of this command on n elements with rungs 0 to k
abbrev pub ladder_header : List ℕ → ℕ → ℕ → Line
ladder_header command n k = header_line command (numerals (n ∷ k ∷ []))

-- the lines of a certificate
abbrev pub certificate_lines : Certificate → List Line
certificate_lines (intersect n rungs cut) =
    version_line ∷ ladder_header (codes "intersect") n (last_rung rungs) ∷ rungs_lines priced_rung_lines 0 rungs
    ++ members_line (codes "cut") cut ∷ end_line ∷ []
certificate_lines (best n rungs) =
    version_line ∷ ladder_header (codes "best") n (last_rung rungs) ∷ rungs_lines plain_rung_lines 0 rungs ++ end_line ∷ []
certificate_lines (union_of n weight parts levels) =
    version_line ∷ header_line (codes "union") (numerals (n ∷ length parts ∷ length levels ∷ []) ++ weight_word weight ∷ [])
    ∷ sets_lines (codes "part") parts ++ (map level_line levels ++ end_line ∷ [])
certificate_lines (pack_any n) = version_line ∷ header_line (codes "pack") (numeral (pos n) ∷ codes "any" ∷ []) ∷ end_line ∷ []
certificate_lines (pack n bases cut) =
    version_line ∷ header_line (codes "pack") (numerals (n ∷ length bases ∷ [])) ∷ sets_lines (codes "base") bases
    ++ members_line (codes "cut") cut ∷ end_line ∷ []
certificate_lines (cover_never n loop_at) =
    version_line ∷ header_line (codes "cover") (numeral (pos n) ∷ codes "never" ∷ numeral (pos loop_at) ∷ []) ∷ end_line ∷ []
certificate_lines (cover n sets cut) =
    version_line ∷ header_line (codes "cover") (numerals (n ∷ length sets ∷ [])) ∷ sets_lines (codes "part") sets
    ++ (option_lines (codes "cut") cut ++ end_line ∷ [])
certificate_lines (trees n sets) =
    version_line ∷ header_line (codes "trees") (numerals (n ∷ length sets ∷ [])) ∷ sets_lines (codes "tree") sets ++ end_line ∷ []
certificate_lines (trees_none n k vertices classes) =
    version_line ∷ header_line (codes "trees") (numerals (n ∷ k ∷ []) ++ codes "none" ∷ numerals (vertices ∷ length classes ∷ []))
    ∷ sets_lines (codes "class") classes ++ end_line ∷ []
certificate_lines (arbor n cost arcs first second) =
    version_line ∷ header_line (codes "arborescence") (numeral (pos n) ∷ codes "tree" ∷ weight_word cost ∷ [])
    ∷ members_line (codes "set") arcs ∷ weights_line (codes "first") first ∷ weights_line (codes "second") second ∷ end_line ∷ []
certificate_lines (unreached n vertices set) =
    version_line ∷ header_line (codes "arborescence") (numeral (pos n) ∷ codes "unreached" ∷ numeral (pos vertices) ∷ [])
    ∷ members_line (codes "vertices") set ∷ end_line ∷ []
certificate_lines (disjoint n sets) =
    version_line ∷ header_line (codes "disjoint") (numerals (n ∷ length sets ∷ [])) ∷ sets_lines (codes "tree") sets ++ end_line ∷ []
certificate_lines (disjoint_none n k vertices set) =
    version_line ∷ header_line (codes "disjoint") (numerals (n ∷ k ∷ []) ++ codes "none" ∷ numeral (pos vertices) ∷ [])
    ∷ members_line (codes "vertices") set ∷ end_line ∷ []
certificate_lines (rainbow n vertices colours rungs cut missing) =
    version_line ∷ header_line (codes "rainbow") (numerals (n ∷ last_rung rungs ∷ vertices ∷ colours ∷ []))
    ∷ rungs_lines priced_rung_lines 0 rungs ++ members_line (codes "cut") cut ∷ (option_lines (codes "colours") missing ++ end_line ∷ [])
certificate_lines (assign n rows columns rungs cut) =
    version_line ∷ header_line (codes "assign") (numerals (n ∷ last_rung rungs ∷ rows ∷ columns ∷ []))
    ∷ rungs_lines priced_rung_lines 0 rungs ++ members_line (codes "cut") cut ∷ end_line ∷ []

-- the one text of a certificate
unfoldable pub certificate_text : Certificate → List ℕ
certificate_text certificate = text_of (certificate_lines certificate)

-- ---- the ranges

-- a weight that a certificate may hold as that of a set or in a split
abbrev pub IsCertificateWeight : Weight → Type 0
IsCertificateWeight w = IsWeightWithin largest_number w

-- the weight and the set of rung k of a certificate on n elements are in range
pub record IsRangedRung (n k : ℕ) (weight : Weight) (set : List ℕ) : Type 0 where
  pub weight_in_range : IsCertificateWeight weight
  pub set_in_range : IsSet n set
  pub size : length set ≡ k

-- one part of a split of n weights is in range
pub record IsRangedPart (n : ℕ) (part : List Weight) : Type 0 where
  pub size : length part ≡ n
  pub weights : All IsCertificateWeight part

-- rung k of a `best` certificate on n elements is in range
abbrev pub IsRangedPlainRung : ℕ → ℕ → PlainRung → Type 0
IsRangedPlainRung n k rung = IsRangedRung n k rung.weight rung.set

-- rung k of a certificate on n elements is in range, and so are both parts of its split
abbrev pub IsRangedPricedRung : ℕ → ℕ → PricedRung → Type 0
IsRangedPricedRung n k rung = IsRangedRung n k rung.weight rung.set × IsRangedPart n rung.first × IsRangedPart n rung.second

-- the rungs 0 to K, with K at most n, on at most 500 elements, are in range: there are K + 1 of them
pub record AreRangedRungs {R : Type 0} (IsRangedAt : ℕ → R → Type 0) (n : ℕ) (rungs : List R) : Type 0 where
  pub few : n ≤ most_elements
  pub some : 0 < length rungs
  pub no_more : length rungs ≤ n + 1
  pub each : (k : ℕ) (rung : R) → slice_get rungs k ≡ Some rung → IsRangedAt k rung

-- a ladder of common independent sets of two matroids on n elements, with its cut, is in range
abbrev pub IsRangedLadder : ℕ → List PricedRung → List ℕ → Type 0
IsRangedLadder n rungs cut = AreRangedRungs (IsRangedPricedRung n) n rungs × IsSet n cut

-- at least `least` and at most `most` sets on n elements
pub record AreRangedSets (n least most : ℕ) (sets : List (List ℕ)) : Type 0 where
  pub enough : least ≤ length sets
  pub no_more : length sets ≤ most
  pub each : All (IsSet n) sets

-- a set on n elements that is there exactly where it is needed
abbrev pub IsRangedOption : ℕ → Bool → Option (List ℕ) → Type 0
IsRangedOption n needed None = needed ≡ false
IsRangedOption n needed (Some set) = (needed ≡ true) × IsSet n set

-- the weight and the cut of a level on n elements are in range
pub record IsRangedLevel (n : ℕ) (level : LevelLine) : Type 0 where
  pub weight_in_range : IsCertificateWeight level.at
  pub set_in_range : IsSet n level.cut

-- the parts, their weight and the levels of a union on n elements are in range
pub record IsRangedUnion (n : ℕ) (weight : Weight) (parts : List (List ℕ)) (levels : List LevelLine) : Type 0 where
  pub few : n ≤ most_elements
  pub weight_in_range : IsCertificateWeight weight
  pub parts_in_range : AreRangedSets n 1 most_matroids parts
  pub few_levels : length levels ≤ most_levels
  pub levels_in_range : All (IsRangedLevel n) levels

-- at most n bases on n elements, and a cut, are in range
pub record IsRangedPacking (n : ℕ) (bases : List (List ℕ)) (cut : List ℕ) : Type 0 where
  pub few : n ≤ most_elements
  pub bases_in_range : AreRangedSets n 0 n bases
  pub cut_in_range : IsSet n cut

-- at most n sets that cover n elements are in range, and so is the cut, which is there exactly where there is at least one set
pub record IsRangedCover (n : ℕ) (sets : List (List ℕ)) (cut : Option (List ℕ)) : Type 0 where
  pub few : n ≤ most_elements
  pub sets_in_range : AreRangedSets n 0 n sets
  pub cut_in_range : IsRangedOption n (nat_lt 0 (length sets)) cut

-- from 1 to 64 trees on n edges or arcs are in range
pub record AreRangedTrees (n : ℕ) (sets : List (List ℕ)) : Type 0 where
  pub few : n ≤ most_elements
  pub sets_in_range : AreRangedSets n 1 most_trees sets

-- the number of vertices is from 1 to 500
pub record IsVertexCount (vertices : ℕ) : Type 0 where
  pub some : 1 ≤ vertices
  pub few : vertices ≤ most_vertices

-- where k disjoint trees do not exist: k is from 1 to 64, and the numbers of edges or arcs and of vertices are in range
pub record AreRangedNone (n k vertices : ℕ) : Type 0 where
  pub few : n ≤ most_elements
  pub some_trees : 1 ≤ k
  pub few_trees : k ≤ most_trees
  pub vertices_in_range : IsVertexCount vertices

-- an arborescence of n arcs is in range, and so are its cost and both parts of its split
pub record IsRangedArborescence (n : ℕ) (cost : Weight) (arcs : List ℕ) (first second : List Weight) : Type 0 where
  pub few : n ≤ most_elements
  pub cost_in_range : IsCertificateWeight cost
  pub arcs_in_range : IsSet n arcs
  pub first_in_range : IsRangedPart n first
  pub second_in_range : IsRangedPart n second

-- a set of vertices that are not reached along n arcs is in range
pub record IsRangedUnreached (n vertices : ℕ) (set : List ℕ) : Type 0 where
  pub few : n ≤ most_elements
  pub vertices_in_range : IsVertexCount vertices
  pub set_in_range : IsSet vertices set

-- whether a largest forest of k edges spans no tree on these vertices
abbrev pub is_short_of_tree : ℕ → ℕ → Bool
is_short_of_tree k vertices = nat_lt k (vertices - 1)

-- a ladder of forests of different colours is in range, and so are the missing colours, which are there exactly where the last forest is no
-- spanning tree
pub record IsRangedRainbow (n vertices colours : ℕ) (rungs : List PricedRung) (cut : List ℕ) (missing : Option (List ℕ)) : Type 0 where
  pub ladder_in_range : IsRangedLadder n rungs cut
  pub vertices_in_range : IsVertexCount vertices
  pub few_colours : colours ≤ most_colours
  pub missing_in_range : IsRangedOption colours (is_short_of_tree (last_rung rungs) vertices) missing

-- a ladder of assignments in a table of these rows and columns is in range
pub record IsRangedAssignment (n rows columns : ℕ) (rungs : List PricedRung) (cut : List ℕ) : Type 0 where
  pub ladder_in_range : IsRangedLadder n rungs cut
  pub few_rows : rows ≤ most_rows
  pub few_columns : columns ≤ most_columns

-- the numbers and lists of a certificate are within the ranges of the format
abbrev pub IsRanged : Certificate → Type 0
IsRanged (intersect n rungs cut) = AreRangedRungs (IsRangedPricedRung n) n rungs × IsSet n cut
IsRanged (best n rungs) = AreRangedRungs (IsRangedPlainRung n) n rungs
IsRanged (union_of n weight parts levels) = IsRangedUnion n weight parts levels
IsRanged (pack_any n) = n ≤ most_elements
IsRanged (pack n bases cut) = IsRangedPacking n bases cut
IsRanged (cover_never n loop_at) = (n ≤ most_elements) × (loop_at < n)
IsRanged (cover n sets cut) = IsRangedCover n sets cut
IsRanged (trees n sets) = AreRangedTrees n sets
IsRanged (trees_none n k vertices classes) = AreRangedNone n k vertices × AreRangedSets vertices 1 vertices classes
IsRanged (arbor n cost arcs first second) = IsRangedArborescence n cost arcs first second
IsRanged (unreached n vertices set) = IsRangedUnreached n vertices set
IsRanged (disjoint n sets) = AreRangedTrees n sets
IsRanged (disjoint_none n k vertices set) = AreRangedNone n k vertices × IsSet vertices set
IsRanged (rainbow n vertices colours rungs cut missing) = IsRangedRainbow n vertices colours rungs cut missing
IsRanged (assign n rows columns rungs cut) = IsRangedAssignment n rows columns rungs cut

-- ---- what the program prints

-- a weight that the program may print: its numbers are from -3 * 10^20 to 3 * 10^20, and the bound on a split of 500 elements is smaller
abbrev pub IsPrintedWeight : Weight → Type 0
IsPrintedWeight w = IsWeightWithin (3 * 10 ^ 20) w

-- each weight of the rung is one that the program may print
pub record IsPrintedRung (rung : PricedRung) : Type 0 where
  pub weight : IsPrintedWeight rung.weight
  pub first : All IsPrintedWeight rung.first
  pub second : All IsPrintedWeight rung.second

-- each weight of the certificate is one that the program may print
abbrev pub IsPrinted : Certificate → Type 0
IsPrinted (intersect n rungs cut) = All IsPrintedRung rungs
IsPrinted (best n rungs) = All (λ rung. IsPrintedWeight rung.weight) rungs
IsPrinted (union_of n weight parts levels) = IsPrintedWeight weight × All (λ level. IsPrintedWeight level.at) levels
IsPrinted (arbor n cost arcs first second) = IsPrintedWeight cost × All IsPrintedWeight first × All IsPrintedWeight second
IsPrinted (rainbow n vertices colours rungs cut missing) = All IsPrintedRung rungs
IsPrinted (assign n rows columns rungs cut) = All IsPrintedRung rungs
IsPrinted certificate = Unit {0}
