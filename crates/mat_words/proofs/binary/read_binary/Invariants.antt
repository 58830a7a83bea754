use Rattle.mat_words.proofs.BinaryLaws.{IsReadSoFar}
use Rattle.mat_words.proofs.binary.read_binary.Given as goal

-- the word up to the byte is read
abbrev pub invariant-loop-byte : goal.invariant-loop-byte
invariant-loop-byte l = IsReadSoFar l.word l.byte-index l.value
