-- Queries: the forms of the problems that they are about, the ranges of their numbers, and their answers.
use Rattle.std.specs.Coded.{×_prop, Unit-prop, le_prop}
use Rattle.std.specs.Prelude.{◌≡◌, ◌≤◌, Bool, length}
use Rattle.mat_sets.specs.Limits.{most_trees}
use Rattle.mat_problem.specs.Instances.{Instance}
use Rattle.mat_cert.specs.Certificates as certificates
use Rattle.mat_cert.specs.Certificates.{Certificate}
use Rattle.mat_check.specs.Fitting.{is_pair, is_list, is_single, is_graph, is_rooted, is_coloured, is_table}
use Rattle.mat_solve.specs.declared.query.Query.{Query}
use Rattle.mat_solve.specs.declared.query.Query.TheVariants.{Best, Intersect, Union, Pack, Cover, Trees, Arborescence, Disjoint, Rainbow, Assign}

-- whether the form of the problem is that of the query
abbrev pub has_form : Query → Instance → Bool
has_form Best = is_single
has_form Intersect = is_pair
has_form Union = is_list
has_form Pack = is_single
has_form Cover = is_single
has_form (Trees k) = is_graph
has_form Arborescence = is_rooted
has_form (Disjoint k) = is_rooted
has_form Rainbow = is_coloured
has_form Assign = is_table

-- a number of trees that is asked for is from 1 to 64
abbrev pub IsQueryInRange : Query → Type 0
IsQueryInRange (Trees k) = (1 ≤ k) × (k ≤ most_trees)
IsQueryInRange (Disjoint k) = (1 ≤ k) × (k ≤ most_trees)
IsQueryInRange query = Unit {0}

-- the answer is one to the query: with as many trees as it asks for, or none of so many
abbrev pub IsAnswerOf : Query → Certificate → Type 0
IsAnswerOf Best (certificates.best n rungs) = Unit {0}
IsAnswerOf Intersect (certificates.intersect n rungs cut) = Unit {0}
IsAnswerOf Union (certificates.union_of n weight parts levels) = Unit {0}
IsAnswerOf Pack (certificates.pack_any n) = Unit {0}
IsAnswerOf Pack (certificates.pack n bases cut) = Unit {0}
IsAnswerOf Cover (certificates.cover_never n loop_at) = Unit {0}
IsAnswerOf Cover (certificates.cover n sets cut) = Unit {0}
IsAnswerOf (Trees k) (certificates.trees n sets) = length sets ≡ k
IsAnswerOf (Trees k) (certificates.trees_none n asked vertices classes) = asked ≡ k
IsAnswerOf Arborescence (certificates.arbor n cost arcs first second) = Unit {0}
IsAnswerOf Arborescence (certificates.unreached n vertices set) = Unit {0}
IsAnswerOf (Disjoint k) (certificates.disjoint n sets) = length sets ≡ k
IsAnswerOf (Disjoint k) (certificates.disjoint_none n asked vertices set) = asked ≡ k
IsAnswerOf Rainbow (certificates.rainbow n vertices colours rungs cut missing) = Unit {0}
IsAnswerOf Assign (certificates.assign n rows columns rungs cut) = Unit {0}
IsAnswerOf query certificate = ⊥

-- there is at most one proof that the number of trees is in range
pub IsQueryInRange-prop : (query : Query) → IsProp (IsQueryInRange query)
IsQueryInRange-prop Best = Unit-prop
IsQueryInRange-prop Intersect = Unit-prop
IsQueryInRange-prop Union = Unit-prop
IsQueryInRange-prop Pack = Unit-prop
IsQueryInRange-prop Cover = Unit-prop
IsQueryInRange-prop (Trees k) = ×_prop le_prop le_prop
IsQueryInRange-prop Arborescence = Unit-prop
IsQueryInRange-prop (Disjoint k) = ×_prop le_prop le_prop
IsQueryInRange-prop Rainbow = Unit-prop
IsQueryInRange-prop Assign = Unit-prop
