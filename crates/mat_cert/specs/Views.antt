-- What an answer says, as plain data.
use Rattle.mat_cert.specs.Certificates.{Certificate, intersect, best, union_of, pack_any, pack, cover_never, cover, trees, trees_none}
use Rattle.mat_cert.specs.Certificates.{arbor, unreached, disjoint, disjoint_none, rainbow, assign}
use Rattle.mat_cert.specs.declared.answer.Answer.{Answer}
use Rattle.mat_cert.specs.declared.answer.Answer.TheVariants as answers

-- the certificate that an answer is
abbrev pub certificate_of : Answer → Certificate
certificate_of (answers.Intersect count rungs cut) = intersect count rungs.items cut
certificate_of (answers.Best count rungs) = best count rungs.items
certificate_of (answers.UnionOf count weight parts levels) = union_of count weight parts levels.items
certificate_of (answers.PackAny count) = pack_any count
certificate_of (answers.Pack count bases cut) = pack count bases cut
certificate_of (answers.CoverNever count loop_at) = cover_never count loop_at
certificate_of (answers.Cover count sets cut) = cover count sets cut
certificate_of (answers.Trees count forests) = trees count forests
certificate_of (answers.TreesNone count k vertices classes) = trees_none count k vertices classes
certificate_of (answers.Arbor count cost arcs first second) = arbor count cost arcs first second
certificate_of (answers.Unreached count vertices set) = unreached count vertices set
certificate_of (answers.Disjoint count forests) = disjoint count forests
certificate_of (answers.DisjointNone count k vertices set) = disjoint_none count k vertices set
certificate_of (answers.Rainbow count vertices colours rungs cut missing) = rainbow count vertices colours rungs.items cut missing
certificate_of (answers.Assign count rows columns rungs cut) = assign count rows columns rungs.items cut
