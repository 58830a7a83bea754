-- What a picture is.
use Rattle.std.specs.Prelude.{ℕ, List}
use Rattle.mat_cert.specs.Certificates.{Certificate}
use Rattle.mat_desc.specs.Notations.{NamedInstance}
use Rattle.mat_drawing.specs.Markup.{IsPicture}
use Rattle.mat_text.specs.Texts.{IsPrintable}

-- one element `svg` of well-formed markup, in printable lines, whatever the problem and the answer are
abbrev pub is_picture : NamedInstance → Certificate → List ℕ → Type 0
is_picture problem answer text = IsPicture text × IsPrintable text
