-- The option gives a command its number of workers, and changes nothing of what it asks for.
use Rattle.mat_command.proofs.Common.{◌≡◌, ℕ, Bool, true, false, List, [], ◌∷◌, Option, Some, None, pos, refl, arith, IfSome, bytes_eq, codes, option_map, if◌then◌else◌}
use Rattle.std.proofs.lemmas.Int.{ints}
use Rattle.mat_sets.specs.Limits.{most_elements, most_trees}
use Rattle.mat_work.specs.Workers.{AreWorkers, most_workers}
use Rattle.mat_words.specs.Numbers.{numeral}
use Rattle.mat_words.proofs.NumberLemmas.{number_again}
use Rattle.mat_gen.specs.declared.kind.SampleKind.{SampleKind}
use Rattle.mat_solve.specs.declared.query.Query.{Query}
use Rattle.mat_command.specs.CommandLines.{Task, about, sample, batch, convert, solve, check, by_workers, ◌>>=◌, query_for, query_of_trees, kind_in}
use Rattle.mat_command.specs.CommandLines.{number_up_to, request_for, with_number, sample_for, task_for}
use Rattle.mat_command.specs.CommandLines.{takes_workers, begins_with_option, command_line, asked_by}

-- a number from 1 to 16 is read as it is spelled
workers_again : (n : ℕ) → AreWorkers n → number_up_to most_workers (numeral (pos n)) ≡ Some n
workers_again n are = rw (number_again (pos 1) (pos most_workers) (pos n) (omega (arith, ints, are.0)) (omega (arith, ints, are.1))) refl

-- ---- every command but `show`, `cuts`, `convert`, `witness` and `verify` takes the option

if_takes : (test : Bool) (task : Task) (rest : Option Task) → takes_workers task ≡ true → IfSome rest (λ t. takes_workers t ≡ true)
    → IfSome (if test then Some task else rest) (λ t. takes_workers t ≡ true)
if_takes true task rest h k = h
if_takes false task rest h k = k

solving_takes : (file : List ℕ) (found : Option Query)
    → IfSome (option_map (about file) (option_map solve found)) (λ t. takes_workers t ≡ true)
solving_takes file None = tt
solving_takes file (Some query) = refl

number_takes : (file : List ℕ) (number : Option ℕ) (found : ℕ → Option Query)
    → IfSome (number >>= λ k. option_map (λ query. about file (solve query)) (found k)) (λ t. takes_workers t ≡ true)
number_takes file None found = tt
number_takes file (Some k) found = from (found k)
  where
    from : (found : Option Query) → IfSome (option_map (λ query. about file (solve query)) found) (λ t. takes_workers t ≡ true)
    from None = tt
    from (Some query) = refl

sample_takes : (kind : Option SampleKind) (size seed : Option ℕ)
    → IfSome (kind >>= λ k. size >>= λ n. option_map (sample k n) seed) (λ t. takes_workers t ≡ true)
sample_takes (Some kind) (Some size) (Some seed) = refl
sample_takes kind size seed = tt

named_takes : (test : Bool) (rest : Option Task) → IfSome rest (λ t. takes_workers t ≡ true)
    → IfSome (if test then rest else None) (λ t. takes_workers t ≡ true)
named_takes true rest h = h
named_takes false rest h = tt

all_take : (command : List ℕ) (arguments : List (List ℕ)) → bytes_eq command (codes "show") ≡ false
    → bytes_eq command (codes "cuts") ≡ false → bytes_eq command (codes "convert") ≡ false
    → bytes_eq command (codes "witness") ≡ false → bytes_eq command (codes "verify") ≡ false
    → IfSome (task_for command arguments) (λ task. takes_workers task ≡ true)
all_take command (file ∷ []) other apart same unwitnessed unverified =
    if_takes (bytes_eq command (codes "batch")) (batch file)
    (if bytes_eq command (codes "convert") then Some (convert file) else option_map (about file) (request_for command)) refl
    (rw (other, apart, same) (solving_takes file (query_for command)))
all_take command (first ∷ second ∷ []) other apart same unwitnessed unverified =
    if_takes (bytes_eq command (codes "check")) (about first (check second)) (with_number command first second) refl
    (number_takes second (number_up_to most_trees first) (query_of_trees command))
all_take command (first ∷ second ∷ third ∷ []) other apart same unwitnessed unverified =
    rw unwitnessed (named_takes (bytes_eq command (codes "sample")) (sample_for first second third)
    (sample_takes (kind_in first) (number_up_to most_elements second) (number_up_to 2147483646 third)))
all_take command (first ∷ second ∷ third ∷ fourth ∷ []) other apart same unwitnessed unverified = rw unverified tt
all_take command _ other apart same unwitnessed unverified = tt

with_workers : (n : ℕ) (o : Option Task) → IfSome o (λ task. takes_workers task ≡ true)
    → (o >>= λ task. if takes_workers task then Some (by_workers n task) else None)
    ≡ option_map (by_workers n) (option_map (λ line. line.task) (option_map (by_workers 1) o))
with_workers n None take = refl
with_workers n (Some task) take = rw take refl

pub same_task : (command : List ℕ) (arguments : List (List ℕ)) (n : ℕ) → AreWorkers n
    → bytes_eq command (codes "show") ≡ false → bytes_eq command (codes "cuts") ≡ false
    → bytes_eq command (codes "convert") ≡ false → bytes_eq command (codes "witness") ≡ false
    → bytes_eq command (codes "verify") ≡ false → begins_with_option arguments ≡ false
    → command_line (command ∷ codes "--workers" ∷ numeral (pos n) ∷ arguments)
    ≡ option_map (by_workers n) (asked_by (command ∷ arguments))
unfolding command_line
same_task command arguments n are other apart same unwitnessed unverified plain =
    rw (workers_again n are, plain) (with_workers n (task_for command arguments) (all_take command arguments other apart same unwitnessed unverified))
