use Rattle.mat_desc.proofs.Common.{refl, sym, coloured_at}
use Rattle.mat_desc.proofs.Columns.{edges-zip, colours-zip, weights-zip}
use Rattle.mat_desc.proofs.read.forms.coloured.Goals as goal

pub returns : goal.returns
unfolding coloured_at
returns c =
    let items = c.in_ok-items.items in
    let read = c.in_ok-items.ensures in
    rw (
      c.in_ok-vertices.ensures.value,
      c.in_ok-many.ensures.value,
      c.in_ok-colours.ensures.value,
      c.in_ok-ended.ensures,
      c.in_ok-notation.ensures.value,
      sym c.vertex_names-names.ensures,
      read.value,
      edges-zip items.edges items.colour_of.items items.weights read.coloured read.as_many,
      colours-zip items.edges items.colour_of.items items.weights read.coloured read.as_many,
      weights-zip items.edges items.colour_of.items items.weights read.coloured read.as_many,
    ) refl
