-- Steps of the loops that read rows and parts.
use Rattle.mat_union.proofs.Common.{◌≡◌, ℕ, ◌+◌, ◌<◌, ◌≤◌, Bool, true, false, ◌||◌, eqb, List, [], ◌∷◌, ◌++◌, length, get_or, take, refl, sym, ap, ◌∙◌, inl, inr, arith, length-append, cases_eq, both_ways, false_from_ne_true, get_or_default, get_or_append_left, family_union, is_member, with_one}
use Rattle.mat_union.proofs.Common.{family_union-gives, family_union-from, is_member-with_one, some_below-more, is_member-take_more, or_commute, Exchange, row_in, part_at, can_push, exchanges_of, IsPushTable}
use Rattle.std.proofs.Math.Seq.{get_or-append_seam}

pub adds_at : (rows : List (List Exchange)) (row : List Exchange) (x : Exchange) (i u : ℕ) (b : Bool) → row ≡ get_or rows i row → i < length rows → x ≡ row_in row u → x.addable ≡ b
    → (exchanges_of rows i).adds u ≡ b
adds_at rows row x i u b at l is h = ap (λ r. (row_in r u).addable) (sym (at ∙ get_or_default rows i row [] l)) ∙ ap (λ e. e.addable) (sym is) ∙ h

pub trades_at : (rows : List (List Exchange)) (row : List Exchange) (x : Exchange) (i u v : ℕ) → row ≡ get_or rows i row → i < length rows → x ≡ row_in row u
    → (exchanges_of rows i).trades v u ≡ is_member v x.with
trades_at rows row x i u v at l is = ap (λ r. is_member v (row_in r u).with) (sym (at ∙ get_or_default rows i row [] l)) ∙ ap (λ e. is_member v e.with) (sym is)

pub stands_at : (parts : List (List ℕ)) (i v : ℕ) (part : List ℕ) → i < length parts → part ≡ part_at parts i → true ≡ is_member v part → true ≡ is_member v (family_union parts)
stands_at parts i v part l at h = sym (family_union-from v parts i l (ap (is_member v) (sym at) ∙ sym h))

pub stands_more : (parts : List (List ℕ)) (i v : ℕ) (part : List ℕ) → part ≡ part_at parts i → is_member v part ≡ false
    → ((q : ℕ) → q < i → is_member v (part_at parts q) ≡ false) → (q : ℕ) → q < i + 1 → is_member v (part_at parts q) ≡ false
stands_more parts i v part at h before q l = elim (cases_eq q i) [
  | inl e ↦ ap (λ j. is_member v (part_at parts j)) e ∙ ap (is_member v) (sym at) ∙ h
  | inr d ↦ before q (omega arith)
]

pub stands_nowhere : (parts : List (List ℕ)) (i v : ℕ) → length parts ≤ i → ((q : ℕ) → q < i → is_member v (part_at parts q) ≡ false) → false ≡ is_member v (family_union parts)
stands_nowhere parts i v l none = sym (false_from_ne_true _ (λ m. let w = family_union-gives v parts m in let h = w.1 in both_ways _ (none w.0 (omega arith)) w.2))

pub insert_more : (set set' items : List ℕ) (i : ℕ) (start : List ℕ) → i < length items → ((v : ℕ) → is_member v set ≡ (is_member v start || is_member v (take i items)))
    → set' ≡ with_one set (get_or items i 0) → (v : ℕ) → is_member v set' ≡ (is_member v start || is_member v (take (i + 1) items))
insert_more set set' items i start l before is v =
    ap (is_member v) is ∙ is_member-with_one v (get_or items i 0) set ∙ ap (λ b. eqb v (get_or items i 0) || b) (before v)
    ∙ turn (eqb v (get_or items i 0)) (is_member v start) (is_member v (take i items)) ∙ ap (λ b. is_member v start || b) (sym (is_member-take_more items i v l))
  where
    turn : (a b c : Bool) → (a || (b || c)) ≡ (b || (c || a))
    turn true true c = refl
    turn true false true = refl
    turn true false false = refl
    turn false true c = refl
    turn false false true = refl
    turn false false false = refl

pub insert_none : (items : List ℕ) (b : Bool) (v : ℕ) → b ≡ (b || is_member v (take 0 items))
insert_none items true v = refl
insert_none [] false v = refl
insert_none (x ∷ items) false v = refl

pub pushed_more : (rows : List (List Exchange)) (row : List Exchange) (x : Exchange) (i u : ℕ) (set set' items : List ℕ) → row ≡ get_or rows i row → i < length rows → x ≡ row_in row u
    → ((v : ℕ) → is_member v set ≡ can_push i (exchanges_of rows) u v) → items ≡ x.with → ((v : ℕ) → is_member v set' ≡ (is_member v set || is_member v items))
    → (v : ℕ) → is_member v set' ≡ can_push (i + 1) (exchanges_of rows) u v
pushed_more rows row x i u set set' items at l is before items_is more v =
    more v ∙ or_commute (is_member v set) (is_member v items) ∙ both (is_member v items) ((exchanges_of rows i).trades v u) (is_member v set) (can_push i (exchanges_of rows) u v)
    (ap (is_member v) items_is ∙ sym (trades_at rows row x i u v at l is)) (before v) ∙ sym (some_below-more i (λ q. (exchanges_of rows q).trades v u))
  where
    both : (a b c d : Bool) → a ≡ b → c ≡ d → (a || c) ≡ (b || d)
    both a b c d f g = cc

pub table_more : (rows : List (List Exchange)) (n : ℕ) (table : List (List ℕ)) (row : List ℕ) → IsPushTable rows n table
    → ((v : ℕ) → is_member v row ≡ can_push (length rows) (exchanges_of rows) n v) → IsPushTable rows (n + 1) (table ++ row ∷ [])
table_more rows n table row t told =
    let len = length-append table (row ∷ []) in
    let l = t.long in
    record {
      long = omega arith;
      arcs = λ u v h. elim (cases_eq u n) [
        | inl e ↦ at_end u v e
        | inr d ↦ ap (is_member v) (get_or_append_left table (row ∷ []) [] u (omega arith)) ∙ t.arcs u v (omega arith)
      ];
    }
  where
    at_end : (u v : ℕ) → u ≡ n → is_member v (get_or (table ++ row ∷ []) u []) ≡ can_push (length rows) (exchanges_of rows) u v
    at_end u v e =
        let q : u ≡ length table = e ∙ sym t.long in
        ap (λ k. is_member v (get_or (table ++ row ∷ []) k [])) q ∙ ap (is_member v) (get_or-append_seam table row [] []) ∙ told v ∙ ap (λ k. can_push (length rows) (exchanges_of rows) k v) (sym e)

pub table_none : (rows : List (List Exchange)) → IsPushTable rows 0 []
table_none rows = record { long = refl; arcs = λ u v l. absurd (omega arith) }
