-- Pieces that are appended one after the other, for callers that put a text piece by piece.
use Rattle.std.proofs.Common.{◌≡◌, ℕ, ◌+◌, ◌<◌, List, [], ◌++◌, length, take, drop, Option, Some, None, sym, ap, subst, ◌∙◌, append_assoc, arith}
use Rattle.std.proofs.lemmas.List.{append-nil, take-append-drop, length-drop, length-append}
use Rattle.std.proofs.Math.Seq.{take-add}
use Rattle.mat_shelf.specs.Writing.{Appended, AppendedPrefix, AppendedProperPrefix}

some_same : (x y : List ℕ) → Some x ≡ Some y → x ≡ y
some_same x y e = cc

-- two pieces after one another are one piece
pub Appended-then : (a : Option (List ℕ)) (x : List ℕ) (b : Option (List ℕ)) (y : List ℕ) (c : Option (List ℕ)) → Appended a x b → Appended b y c → Appended a (x ++ y) c
Appended-then a x b y None p q = tt
Appended-then a x None y (Some v) p (w, e, f) = absurd cc
Appended-then a x (Some u) y (Some v) p (w, e, f) =
    let same : u ≡ w = some_same u w e in
    (p.0, p.1, f ∙ ap (λ (t : List ℕ). t ++ y) (sym same ∙ p.2) ∙ append_assoc p.0 x y)

-- the first i bytes of a text, and then the next k
pub Appended-take : (a b c : Option (List ℕ)) (text : List ℕ) (i k : ℕ) → Appended a (take i text) b → Appended b (take k (drop i text)) c → Appended a (take (i + k) text) c
Appended-take a b c text i k p q =
    subst (λ (t : List ℕ). Appended a t c) (sym (take-add i k text)) (Appended-then a (take i text) b (take k (drop i text)) c p q)

-- the whole of a text is a front of it
pub AppendedPrefix-whole : (a b : Option (List ℕ)) (text : List ℕ) → Appended a text b → AppendedPrefix a text b
AppendedPrefix-whole a b text p = (text, [], sym (append-nil text), p)

-- a proper prefix is a prefix
pub AppendedPrefix-proper : (a b : Option (List ℕ)) (text : List ℕ) → AppendedProperPrefix a text b → AppendedPrefix a text b
AppendedPrefix-proper a b text p = (p.front, p.rest, p.whole, p.appended)

-- the first i bytes of a longer text are not the whole of it
pub AppendedProperPrefix-take : (a b : Option (List ℕ)) (text : List ℕ) (i : ℕ) → i < length text → Appended a (take i text) b
    → AppendedProperPrefix a text b
AppendedProperPrefix-take a b text i lt p = record {
  front = take i text;
  rest = drop i text;
  whole = sym (take-append-drop i text);
  unwritten = omega (arith, length-drop i text, lt);
  appended = p;
}

-- a piece, and then a proper prefix of what follows it
pub AppendedProperPrefix-then : (a b c : Option (List ℕ)) (x y : List ℕ) → Appended a x b → AppendedProperPrefix b y c
    → AppendedProperPrefix a (x ++ y) c
AppendedProperPrefix-then a b c x y p q = record {
  front = x ++ q.front;
  rest = q.rest;
  whole = ap (λ (t : List ℕ). x ++ t) q.whole ∙ sym (append_assoc x q.front q.rest);
  unwritten = q.unwritten;
  appended = Appended-then a x b q.front c p q.appended;
}

-- a proper prefix of a text is a proper prefix of what the text begins
pub AppendedProperPrefix-append : (a b : Option (List ℕ)) (x y : List ℕ) → AppendedProperPrefix a x b → AppendedProperPrefix a (x ++ y) b
AppendedProperPrefix-append a b x y p = record {
  front = p.front;
  rest = p.rest ++ y;
  whole = ap (λ (t : List ℕ). t ++ y) p.whole ∙ append_assoc p.front p.rest y;
  unwritten = omega (arith, length-append p.rest y, p.unwritten);
  appended = p.appended;
}
