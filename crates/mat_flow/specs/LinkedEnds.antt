-- What a table of disjoint paths holds: to which ends they lead (Schrijver, chapters 9 and 16).
use Rattle.std.specs.Prelude.{ℕ, List, Option}
use Rattle.mat_flow.specs.Digraphs.{reversed_arcs}
use Rattle.mat_flow.specs.LinkTables.{residual_arc, residual_goal, HasEnds}
use Rattle.mat_flow.specs.Seeking.{live_in, IsRoom, IsShut}
use Rattle.mat_flow.specs.Trails.{IsReversed}
use Rattle.mat_flow.specs.declared.linker.Linker.{Linker}
use Rattle.mat_flow.specs.declared.link_table.LinkTable.{LinkTable}

-- the table holds disjoint paths from the sources, one to each of these ends
abbrev pub IsLinkedTo : (vertices : ℕ) (arcs : List (ℕ × ℕ)) (sources ends : List ℕ) (links : LinkTable) → Type 0
IsLinkedTo vertices arcs sources ends links = HasEnds vertices arcs sources ends links.before.items

-- the same of a table of the vertex after each vertex; and of the vertices to which no search may come any more none is a goal of the residual
-- graph that is read from the ends, and no arc of it leads from them to another vertex
pub record IsLinker (vertices : ℕ) (arcs : List (ℕ × ℕ)) (sources ends : List ℕ) (linker : Linker) : Type 0 where
  pub before : List (Option ℕ)
  pub table : HasEnds vertices arcs sources ends before
  pub turned : IsReversed before linker.after.items
  pub fits : IsRoom vertices linker.room
  pub shut : IsShut vertices (residual_arc (reversed_arcs arcs) linker.after.items) (residual_goal sources linker.after.items) (live_in linker.room)
