-- What contracts see of demands.
use Rattle.mat_any.specs.Trees.{Tree}
use Rattle.mat_witness.specs.Shown.{Demand}
use Rattle.mat_witness.specs.declared.demands.Demand.{Demand as Asked}

-- what is demanded in a matroid, as plain data
abbrev pub demand_for : Tree → Asked → Demand
demand_for tree asked = record { tree = tree; set = asked.set; most = asked.most }
