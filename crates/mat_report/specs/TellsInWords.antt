-- What a text in words is.
use Rattle.std.specs.Prelude.{ℕ, List}
use Rattle.mat_cert.specs.Certificates.{Certificate}
use Rattle.mat_desc.specs.Notations.{NamedInstance}
use Rattle.mat_text.specs.Texts.{IsPrintable}

-- a text of printable lines, whatever the problem and the answer are
abbrev pub tells_in_words : NamedInstance → Certificate → List ℕ → Type 0
tells_in_words problem answer text = IsPrintable text
