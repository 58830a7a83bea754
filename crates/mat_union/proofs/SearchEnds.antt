-- The exchanges of an element at parts of a set, by a search from it among all elements that is at its end. What it reached is the reached
-- set: where it can enter, the element can be added; and where it is stuck, the members that it reached are those whose place it takes.
use Rattle.mat_union.proofs.Common.{◌≡◌, ℕ, ◌<◌, ◌≤◌, Bool, true, false, eqb, List, length, inl, inr, refl, sym, ap, ◌∙◌, cases_Bool, eq-eqb, eqb-true, lt-ltb, take_all, family_union, all_below, is_member, intersection, with_one, IsReachedSet, below_member, is_member-all_below, is_member-get_or}
use Rattle.mat_union.proofs.Common.{reached_by_induction, reached_set_exists, some_below_from, some_below_gives, same_truth, Exchange, row_of, Exchanges, exchanged, IsEnded, can_push, exchanges_with, element_asked, part_set, exchanges_reached, none_enters, trade_gives, union_test, MoveSearch}
use Rattle.mat_union.proofs.StuckParts.{stuck_refuses}
use Rattle.mat_union.proofs.UnionRows.{added_row, refused_row}

module _ {n : ℕ} {tests : List (List ℕ → Bool)} {parts : List (List ℕ)} {x : ℕ} {s : MoveSearch} (e : IsEnded n tests parts (all_below n) x s) where
  abbrev S : List ℕ
  S = family_union parts

  abbrev swaps : ℕ → Exchanges
  swaps = exchanges_with tests parts

  abbrev push : ℕ → ℕ → Bool
  push = can_push (length parts) swaps

  small : x < n
  small = e.reaching.so_far.below x e.reaching.so_far.first

  push_below : (u v : ℕ) → push u v ≡ true → v < n
  push_below u v h = let w = some_below_gives (length parts) (λ q. (swaps q).trades v u) h in below_member (part_set e.laws e.are w.0 w.1) (trade_gives tests parts w.0 v u w.2).0

  module _ (reach : List ℕ) (r : IsReachedSet n push (λ v. eqb v x) reach) where
    queue_reached : (v : ℕ) → is_member v s.queue.items ≡ true → is_member v reach ≡ true
    queue_reached = e.reaching.so_far.least (λ v. is_member v reach) (r.starts x small (eq-eqb x x refl)) (λ u v h t p. r.closed u v h (push_below u v p) p)

    reached_queue : length s.queue.items ≤ s.head → (v : ℕ) → is_member v reach ≡ true → is_member v s.queue.items ≡ true
    reached_queue end = reached_by_induction reach (λ v. is_member v s.queue.items) r (λ v l f. ap (λ z. is_member z s.queue.items) (eqb-true v x f) ∙ e.reaching.so_far.first)
        (λ u v h l f a. e.reaching.so_far.left v (is_member-all_below v n ∙ lt-ltb v n l) (e.reaching.so_far.closed u v (ap (is_member u) (take_all s.head s.queue.items end) ∙ f) a))

  entered_adds : s.entered ≡ true → union_test n tests (with_one S x) ≡ true
  entered_adds entered = elim (cases_Bool (union_test n tests (with_one S x))) [
    | inl a ↦ a
    | inr full ↦ (let r = reached_set_exists n push (λ v. eqb v x) in
        absurd (none_enters tests e.laws parts e.are x small e.fresh r.0 r.1 full (element_asked s)
        (queue_reached r.0 r.1 (element_asked s) (is_member-get_or s.queue.items s.head (element_asked s) (e.reaching.enters entered).0 refl))
        (some_below_from (length parts) s.part (λ i. (swaps i).adds (element_asked s)) e.reaching.here (e.reaching.enters entered).1)))
  ]

  pub entered_row : s.entered ≡ true → (I : List ℕ) → S ≡ I → (row : Exchange) → row.addable ≡ true → row.with ≡ I → row ≡ row_of (union_test n tests) I x
  entered_row entered I same row a w = added_row tests e.laws parts e.are x small e.fresh (entered_adds entered) row a (w ∙ sym same) ∙ ap (λ J. row_of (union_test n tests) J x) same

  module _ (stuck : s.entered ≡ false) (reached : List ℕ) (told : (v : ℕ) → is_member v reached ≡ is_member v s.queue.items) where
    refused : union_test n tests (with_one S x) ≡ false
    refused = stuck_refuses e.laws e.are x s e.reaching (e.end stuck) e.fresh

    exchanges_told : (y : ℕ) → is_member y S ≡ true → is_member y reached ≡ exchanged (union_test n tests) S x y
    exchanges_told y h =
        let r = reached_set_exists n push (λ v. eqb v x) in
        told y ∙ same_truth (is_member y s.queue.items) (is_member y r.0) (queue_reached r.0 r.1 y) (reached_queue r.0 r.1 (e.end stuck) y)
        ∙ sym (exchanges_reached tests e.laws parts e.are x small e.fresh r.0 r.1 refused y h)

    pub stuck_row : (I : List ℕ) → S ≡ I → (row : Exchange) → row.addable ≡ false → row.with ≡ intersection I reached → row ≡ row_of (union_test n tests) I x
    stuck_row I same row a w = refused_row tests e.laws parts e.are x small e.fresh refused reached exchanges_told row a (w ∙ ap (λ J. intersection J reached) (sym same))
        ∙ ap (λ J. row_of (union_test n tests) J x) same
