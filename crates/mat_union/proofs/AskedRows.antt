-- The row of an element at a part answers what a search asks for.
use Rattle.mat_union.proofs.Common.{◌≡◌, ℕ, ◌<◌, Bool, List, length, get_or, map, refl, sym, ap, ◌∙◌, subst, arith, is_member, AllBelow, Exchange, row_of, Exchanges, AllBelow-from_members, is_member-get_or, IsReady, exchanges_with, element_asked, IsAnswered, IsReaching, part_at, test_at, AreParts}
use Rattle.mat_union.proofs.Common.{MoveSearch, row_of-adds, row_of-trades}
use Rattle.mat_union.proofs.SoundMatroids.{parts_count, test_is}

pub row_answers : (tests : List (List ℕ → Bool)) (parts : List (List ℕ)) (s : MoveSearch) (test : List ℕ → Bool) (part : List ℕ) (x q : ℕ) (row : Exchange)
    → x ≡ element_asked s → q ≡ s.part → test_at tests q ≡ test → part ≡ part_at parts q → row ≡ row_of test part x → IsAnswered (exchanges_with tests parts) s row
row_answers tests parts s test part x q row xe qe te pe re = record {
  adds = ap (λ (r : Exchange). r.addable) is ∙ row_of-adds (test_at tests s.part) (part_at parts s.part) (element_asked s);
  trades = λ v. ap (λ (r : Exchange). is_member v r.with) is ∙ row_of-trades (test_at tests s.part) (part_at parts s.part) v (element_asked s);
}
  where
    named : (t t' : List ℕ → Bool) (p p' : List ℕ) (y y' : ℕ) → t ≡ t' → p ≡ p' → y ≡ y' → row_of t p y ≡ row_of t' p' y'
    named t t' p p' y y' a b c = rw (a, b, c) refl

    is : row ≡ row_of (test_at tests s.part) (part_at parts s.part) (element_asked s)
    is = re ∙ named test (test_at tests s.part) part (part_at parts s.part) x (element_asked s) (sym te ∙ ap (test_at tests) qe) (pe ∙ ap (part_at parts) qe) xe

-- so does the row in the matroid at the place that the search asks for
pub row_told : {M : Type 0} (indep : M → List ℕ → Bool) (matroids : List M) (parts : List (List ℕ)) → AreParts (map indep matroids) parts → (s : MoveSearch) (m : M) (row : Exchange)
    → {part : List ℕ} {x q : ℕ} → s.part < length parts → x ≡ element_asked s → q ≡ s.part → m ≡ get_or matroids q m → part ≡ part_at parts q → row ≡ row_of (indep m) part x
    → IsAnswered (exchanges_with (map indep matroids) parts) s row
row_told indep matroids parts are s m row {part} {x} {q} here xe qe me pe re =
    let e = parts_count indep matroids parts are in
    let l : q < length matroids = subst (λ k. k < length matroids) (sym qe) (omega arith) in
    row_answers (map indep matroids) parts s (indep m) part x q row xe qe (test_is indep matroids q m l me) pe re

pub asked_below : {n m : ℕ} {exchanges : ℕ → Exchanges} {among : List ℕ} {start : ℕ} {s : MoveSearch} → IsReaching n m exchanges among start s → s.head < length s.queue.items → element_asked s < n
asked_below {n} {m} {exchanges} {among} {start} {s} r l = r.so_far.below (element_asked s) (is_member-get_or s.queue.items s.head (element_asked s) l refl)

-- a search between two questions can be asked for moves
pub reaching_is_ready : {n m : ℕ} {exchanges : ℕ → Exchanges} {among : List ℕ} {start : ℕ} {s : MoveSearch} → IsReaching n m exchanges among start s → IsReady s
reaching_is_ready {n} {m} {exchanges} {among} {start} {s} r = record {
  told = (let a = r.so_far.long in let b = r.so_far.told_some in omega arith);
  below = subst (λ k. AllBelow k s.queue.items) (sym r.size) (AllBelow-from_members n s.queue.items r.so_far.below);
  asked = λ e. (r.enters e).0;
}
