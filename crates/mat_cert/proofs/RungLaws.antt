-- Rungs: what is read is spelled so, and what is spelled so is read.
use Rattle.mat_cert.proofs.Common.{◌≡◌, ℕ, zero, suc, ◌+◌, List, [], ◌∷◌, ◌++◌, length, Result, Ok, Some, slice_get, refl, sym, ap, subst, arith, append_assoc, codes, Line, members_line, weights_line, LinesLeft, ◌>>=◌, PlainRung, PricedRung, IsRangedPlainRung, IsRangedPricedRung, plain_rung_lines}
use Rattle.mat_cert.proofs.Common.{priced_rung_lines, rungs_lines, Fault, counted_set_at, part_at, rung_at, plain_rung_at, priced_rung_at, rungs_at, found-same, bind_found, AreLeft}
use Rattle.mat_cert.proofs.LineLaws.{IsRead, IsReadAgain, counted_set_found, counted_set_again, part_found, part_again, rung_found, rung_again}

pub plain_rung_found : (n k : ℕ) (p : LinesLeft) (rung : PlainRung) (q : LinesLeft) → plain_rung_at n k p ≡ Ok (rung, q)
    → IsRead (IsRangedPlainRung n k rung) (plain_rung_lines k rung) p q
unfolding plain_rung_at
plain_rung_found n k p rung q e =
    let weight = bind_found (rung_at k p)
    (λ weight. counted_set_at n k weight.1 >>= λ set. Ok (record { weight = weight.0; set = set.0 }, set.1)) (rung, q) e in
    let set = bind_found (counted_set_at n k weight.0.1) (λ set. Ok (record { weight = weight.0.0; set = set.0 }, set.1)) (rung, q) weight.2 in
    let head = rung_found k p weight.0.0 weight.0.1 weight.1 in
    let members = counted_set_found n k weight.0.1 set.0.0 set.0.1 set.1 in
    let one : PlainRung = record { weight = weight.0.0; set = set.0.0 } in
    subst (λ (r : PlainRung × LinesLeft). IsRead (IsRangedPlainRung n k r.0) (plain_rung_lines k r.0) p r.1)
    (found-same (one, set.0.1) (rung, q) set.2) (record {
      in_range = record { weight_in_range = head.in_range; set_in_range = members.in_range.0; size = members.in_range.1 };
      spelled = λ rest left. head.spelled (members_line (codes "set") set.0.0 ∷ rest) (members.spelled rest left);
    })

pub plain_rung_again : (n k : ℕ) (p : LinesLeft) (rung : PlainRung) (rest : List Line) → IsRangedPlainRung n k rung
    → AreLeft (plain_rung_lines k rung ++ rest) p → IsReadAgain (plain_rung_at n k p) rung rest
unfolding plain_rung_at
plain_rung_again n k p rung rest ranged left =
    let head = rung_again k p rung.weight (members_line (codes "set") rung.set ∷ rest) ranged.weight_in_range left in
    let members = counted_set_again n k head.0 rung.set rest ranged.set_in_range ranged.size head.2 in
    (members.0, rw (head.1, members.1) refl, members.2)

pub priced_rung_found : (n k : ℕ) (p : LinesLeft) (rung : PricedRung) (q : LinesLeft) → priced_rung_at n k p ≡ Ok (rung, q)
    → IsRead (IsRangedPricedRung n k rung) (priced_rung_lines k rung) p q
unfolding priced_rung_at
priced_rung_found n k p rung q e =
    let weight = bind_found (rung_at k p)
    (λ weight. counted_set_at n k weight.1 >>= λ set. part_at (codes "first") n set.1 >>= λ first. part_at (codes "second") n first.1
    >>= λ second. Ok (record { weight = weight.0; set = set.0; first = first.0; second = second.0 }, second.1)) (rung, q) e in
    let set = bind_found (counted_set_at n k weight.0.1)
    (λ set. part_at (codes "first") n set.1 >>= λ first. part_at (codes "second") n first.1
    >>= λ second. Ok (record { weight = weight.0.0; set = set.0; first = first.0; second = second.0 }, second.1)) (rung, q) weight.2 in
    let first = bind_found (part_at (codes "first") n set.0.1)
    (λ first. part_at (codes "second") n first.1 >>= λ second. Ok
    (record { weight = weight.0.0; set = set.0.0; first = first.0; second = second.0 }, second.1)) (rung, q) set.2 in
    let second = bind_found (part_at (codes "second") n first.0.1)
    (λ second. Ok (record { weight = weight.0.0; set = set.0.0; first = first.0.0; second = second.0 }, second.1)) (rung, q) first.2 in
    let head = rung_found k p weight.0.0 weight.0.1 weight.1 in
    let members = counted_set_found n k weight.0.1 set.0.0 set.0.1 set.1 in
    let one = part_found (codes "first") n set.0.1 first.0.0 first.0.1 first.1 in
    let two = part_found (codes "second") n first.0.1 second.0.0 second.0.1 second.1 in
    let made : PricedRung = record { weight = weight.0.0; set = set.0.0; first = first.0.0; second = second.0.0 } in
    subst (λ (r : PricedRung × LinesLeft). IsRead (IsRangedPricedRung n k r.0) (priced_rung_lines k r.0) p r.1)
    (found-same (made, second.0.1) (rung, q) second.2) (record {
      in_range = (
        record { weight_in_range = head.in_range; set_in_range = members.in_range.0; size = members.in_range.1 },
        one.in_range,
        two.in_range,
      );
      spelled = λ rest left.
          head.spelled (members_line (codes "set") set.0.0 ∷ weights_line (codes "first") first.0.0 ∷ weights_line (codes "second")
          second.0.0 ∷ rest)
          (members.spelled (weights_line (codes "first") first.0.0 ∷ weights_line (codes "second") second.0.0 ∷ rest)
          (one.spelled (weights_line (codes "second") second.0.0 ∷ rest) (two.spelled rest left)));
    })

pub priced_rung_again : (n k : ℕ) (p : LinesLeft) (rung : PricedRung) (rest : List Line) → IsRangedPricedRung n k rung
    → AreLeft (priced_rung_lines k rung ++ rest) p → IsReadAgain (priced_rung_at n k p) rung rest
unfolding priced_rung_at
priced_rung_again n k p rung rest ranged left =
    let second = weights_line (codes "second") rung.second ∷ rest in
    let first = weights_line (codes "first") rung.first ∷ second in
    let head = rung_again k p rung.weight (members_line (codes "set") rung.set ∷ first) ranged.0.weight_in_range left in
    let members = counted_set_again n k head.0 rung.set first ranged.0.set_in_range ranged.0.size head.2 in
    let one = part_again (codes "first") n members.0 rung.first second refl ranged.1 members.2 in
    let two = part_again (codes "second") n one.0 rung.second rest refl ranged.2 one.2 in
    (two.0, rw (head.1, members.1, one.1, two.1) refl, two.2)

-- ---- rungs in a row

-- as many rungs from rung k on were read
pub record AreRungsRead {R : Type 0} (lines_of_rung : ℕ → R → List Line) (IsRangedAt : ℕ → R → Type 0) (k many : ℕ) (p : LinesLeft)
    (rungs : List R) (q : LinesLeft) : Type 0 where
  pub count : length rungs ≡ many
  pub each : (i : ℕ) (rung : R) → slice_get rungs i ≡ Some rung → IsRangedAt (k + i) rung
  pub spelled : (rest : List Line) → AreLeft rest q → AreLeft (rungs_lines lines_of_rung k rungs ++ rest) p

pub rungs_found : {R : Type 0} (reader : ℕ → LinesLeft → Result (R × LinesLeft) Fault) (lines_of_rung : ℕ → R → List Line)
    (IsRangedAt : ℕ → R → Type 0)
    → ((k : ℕ) (p : LinesLeft) (rung : R) (q : LinesLeft) → reader k p ≡ Ok (rung, q) → IsRead (IsRangedAt k rung) (lines_of_rung k rung) p q)
    → (k many : ℕ) (p : LinesLeft) (rungs : List R) (q : LinesLeft) → rungs_at reader k many p ≡ Ok (rungs, q)
    → AreRungsRead lines_of_rung IsRangedAt k many p rungs q
unfolding rungs_at
rungs_found {R} reader lines_of_rung IsRangedAt one k zero p rungs q e =
    subst (λ (r : List R × LinesLeft). AreRungsRead lines_of_rung IsRangedAt k 0 p r.0 r.1) (found-same ([], p) (rungs, q) e)
    (record { count = refl; each = λ i rung at. absurd cc; spelled = λ rest left. left })
rungs_found {R} reader lines_of_rung IsRangedAt one k (suc many) p rungs q e =
    let first = bind_found (reader k p) (λ first. rungs_at reader (suc k) many first.1 >>= λ others. Ok (first.0 ∷ others.0, others.1))
    (rungs, q) e in
    let others = bind_found (rungs_at reader (suc k) many first.0.1) (λ others. Ok (first.0.0 ∷ others.0, others.1)) (rungs, q) first.2 in
    let here = one k p first.0.0 first.0.1 first.1 in
    let more = rungs_found reader lines_of_rung IsRangedAt one (suc k) many first.0.1 others.0.0 others.0.1 others.1 in
    subst (λ (r : List R × LinesLeft). AreRungsRead lines_of_rung IsRangedAt k (suc many) p r.0 r.1)
    (found-same (first.0.0 ∷ others.0.0, others.0.1) (rungs, q) others.2) (record {
      count = ap suc more.count;
      each = each_of k first.0.0 others.0.0 here.in_range more.each;
      spelled = λ rest left.
          subst (λ (ls : List Line). AreLeft ls p)
          (sym (append_assoc (lines_of_rung k first.0.0) (rungs_lines lines_of_rung (suc k) others.0.0) rest))
          (here.spelled (rungs_lines lines_of_rung (suc k) others.0.0 ++ rest) (more.spelled rest left));
    })
  where
    each_of : (k : ℕ) (rung : R) (rungs : List R) → IsRangedAt k rung
        → ((i : ℕ) (other : R) → slice_get rungs i ≡ Some other → IsRangedAt (suc k + i) other)
        → (i : ℕ) (other : R) → slice_get (rung ∷ rungs) i ≡ Some other → IsRangedAt (k + i) other
    each_of k rung rungs ranged others zero other at =
        let same : rung ≡ other = cc in
        let place : k ≡ k + 0 = omega arith in
        subst (λ (j : ℕ). IsRangedAt j other) place (subst (λ (r : R). IsRangedAt k r) same ranged)
    each_of k rung rungs ranged others (suc i) other at =
        let place : suc k + i ≡ k + suc i = omega arith in
        subst (λ (j : ℕ). IsRangedAt j other) place (others i other at)

pub rungs_again : {R : Type 0} (reader : ℕ → LinesLeft → Result (R × LinesLeft) Fault) (lines_of_rung : ℕ → R → List Line)
    (IsRangedAt : ℕ → R → Type 0)
    → ((k : ℕ) (p : LinesLeft) (rung : R) (rest : List Line) → IsRangedAt k rung → AreLeft (lines_of_rung k rung ++ rest) p
    → IsReadAgain (reader k p) rung rest)
    → (k : ℕ) (p : LinesLeft) (rungs : List R) (rest : List Line)
    → ((i : ℕ) (rung : R) → slice_get rungs i ≡ Some rung → IsRangedAt (k + i) rung)
    → AreLeft (rungs_lines lines_of_rung k rungs ++ rest) p
    → IsReadAgain (rungs_at reader k (length rungs) p) rungs rest
unfolding rungs_at
rungs_again reader lines_of_rung IsRangedAt one k p [] rest each left = (p, refl, left)
rungs_again {R} reader lines_of_rung IsRangedAt one k p (rung ∷ rungs) rest each left =
    let others_lines = rungs_lines lines_of_rung (suc k) rungs in
    let front : AreLeft (lines_of_rung k rung ++ (others_lines ++ rest)) p = subst (λ (ls : List Line). AreLeft ls p)
    (append_assoc (lines_of_rung k rung) others_lines rest) left in
    let place : k + 0 ≡ k = omega arith in
    let here : IsRangedAt k rung = subst (λ (j : ℕ). IsRangedAt j rung) place (each 0 rung refl) in
    let first = one k p rung (others_lines ++ rest) here front in
    let behind : (i : ℕ) (other : R) → slice_get rungs i ≡ Some other → IsRangedAt (suc k + i) other = λ i other at.
    let same : k + suc i ≡ suc k + i = omega arith in
    subst (λ (j : ℕ). IsRangedAt j other) same (each (suc i) other at) in
    let others = rungs_again reader lines_of_rung IsRangedAt one (suc k) first.0 rungs rest behind first.2 in
    (others.0, rw (first.1, others.1) refl, others.2)
