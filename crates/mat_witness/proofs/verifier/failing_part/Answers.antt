-- The rung stands in the ladder and so is in range; once its weights are told to be as many as the elements, its set and its halves fit the problem,
-- as the tests of the parts require.
use Rattle.mat_witness.proofs.Common.{◌≡◌, ℕ, true, eqb, ltb, List, length, get_or, refl, sym, ◌∙◌, subst, and_parts, eqb-true, ltb-true, slice_get_read, IsSet, Weight, IsRangedLadder, IsRangedPricedRung, PricedRung, is_priced}
use Rattle.mat_witness.proofs.verifier.failing_part.Goals as goal

-- the rung is in range
rung_in_range : {n : ℕ} {rungs : List PricedRung} {cut : List ℕ} {k : ℕ} {rung : PricedRung} → IsRangedLadder n rungs cut
    → ltb k (length rungs) ≡ true → rung ≡ get_or rungs k rung → IsRangedPricedRung n k rung
rung_in_range {n} {rungs} {cut} {k} {rung} ranged has at =
    ranged.0.each k rung (slice_get_read rungs (length rungs) k rung refl (ltb-true k (length rungs) has) at)

-- and with its elements as many as the weights, it fits the problem
record IsFitting (w : List Weight) (k : ℕ) (rung : PricedRung) : Type 0 where
  set : IsSet (length w) rung.set
  size : length rung.set ≡ k
  first : length rung.first ≡ length w
  second : length rung.second ≡ length w

rung_fits : {w : List Weight} {n k : ℕ} {rung : PricedRung} → IsRangedPricedRung n k rung → is_priced w n rung ≡ true → IsFitting w k rung
rung_fits {w} {n} {k} {rung} ranged priced =
    let same = eqb-true n (length w) (and_parts (eqb n (length w)) _ priced).0 in
    record {
      set = subst (λ m. IsSet m rung.set) same ranged.0.set_in_range;
      size = ranged.0.size;
      first = ranged.1.size ∙ same;
      second = ranged.2.size ∙ same;
    }

pub is_priced-requires-clause-set : goal.is_priced-requires-clause-set
is_priced-requires-clause-set c =
    (rung_in_range c.requires.ranged c.requires.rung c.index-rungs-k.is).0.set_in_range

pub is_priced-requires-clause-first : goal.is_priced-requires-clause-first
is_priced-requires-clause-first c =
    (rung_in_range c.requires.ranged c.requires.rung c.index-rungs-k.is).1

pub is_priced-requires-clause-second : goal.is_priced-requires-clause-second
is_priced-requires-clause-second c =
    (rung_in_range c.requires.ranged c.requires.rung c.index-rungs-k.is).2

pub shows_common_set-requires-clause-first_set : goal.shows_common_set-requires-clause-first_set
shows_common_set-requires-clause-first_set c =
    rw c.requires.sound.1 (rung_fits (rung_in_range c.requires.ranged c.requires.rung c.index-rungs-k.is)
    (sym c.is_priced.ensures ∙ c.if-not-is_priced.false)).set

pub shows_common_set-requires-clause-second_set : goal.shows_common_set-requires-clause-second_set
shows_common_set-requires-clause-second_set c =
    rw c.requires.sound.3 (rung_fits (rung_in_range c.requires.ranged c.requires.rung c.index-rungs-k.is)
    (sym c.is_priced.ensures ∙ c.if-not-is_priced.false)).set

pub shows_common_set-requires-clause-first_part : goal.shows_common_set-requires-clause-first_part
shows_common_set-requires-clause-first_part c =
    rw (c.requires.sound.1, (rung_in_range c.requires.ranged c.requires.rung c.index-rungs-k.is).0.size)
    c.requires.witness.first_part

pub shows_common_set-requires-clause-second_part : goal.shows_common_set-requires-clause-second_part
shows_common_set-requires-clause-second_part c =
    rw (c.requires.sound.3, (rung_in_range c.requires.ranged c.requires.rung c.index-rungs-k.is).0.size)
    c.requires.witness.second_part

pub failing_bounds-requires-clause-first_half : goal.failing_bounds-requires-clause-first_half
failing_bounds-requires-clause-first_half c =
    rw c.requires.sound.1 (rung_fits (rung_in_range c.requires.ranged c.requires.rung c.index-rungs-k.is)
    (sym c.is_priced.ensures ∙ c.if-not-is_priced.false)).first

pub failing_bounds-requires-clause-second_half : goal.failing_bounds-requires-clause-second_half
failing_bounds-requires-clause-second_half c =
    rw c.requires.sound.1 (rung_fits (rung_in_range c.requires.ranged c.requires.rung c.index-rungs-k.is)
    (sym c.is_priced.ensures ∙ c.if-not-is_priced.false)).second
