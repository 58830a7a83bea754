use Rattle.mat_exchange.proofs.Common.{◌≡◌, ◌*◌, ◌+◌, ◌<◌, None, get_or, length, arith, rules, ◌∙◌, get_or_default, bits_of, weight_at, cleared-less, is_member-at, in_bucket}
use Rattle.mat_exchange.proofs.HeaviestMembers.{bucket_after, bucket_before, bucket_bit, bucket_parts, bucket_past, heaviest_to_all, heaviest_to_below}
use Rattle.mat_exchange.proofs.WordSearches.{IsWordSearched-none, IsWordSearched-more, IsWordSearched-all, lowest_passes}
use Rattle.mat_exchange.proofs.heaviest_members.heaviest_in_bucket.Goals as goal

pub returns-then-at-words : goal.returns-then-at-words
returns-then-at-words c = λ x. bucket_past c.args.words.now c.args.at x (omega arith)

pub loop-rest-init : goal.loop-rest-init
loop-rest-init c =
    let words = c.args.words.now in
    let at = c.args.at in
    let word = get_or words at 0 in
    let inside : at < length words = omega arith in
    let read : word ≡ get_or words at word = get_or_default words at 0 word inside in
    IsWordSearched-none (in_bucket (bits_of words) at) (weight_at c.args.weights.now) (at * 64) word None
    (λ i small. bucket_bit (bits_of words) at i small ∙ is_member-at words at word i inside read small) (λ x l. bucket_before (bits_of words) at x l)

pub loop-rest-smaller : goal.loop-rest-smaller
loop-rest-smaller c = cleared-less c.loop-rest.rest (omega arith) (search rules)

pub heavier-heaviest-requires-clause-below : goal.heavier-heaviest-requires-clause-below
heavier-heaviest-requires-clause-below c =
    c.requires.below _ (bucket_parts (bits_of c.args.words.now) c.args.at _
    (lowest_passes _ _ _ c.loop-rest.rest _ (omega arith) (search rules) c.loop-rest.invariant)).0

pub heavier-heaviest-requires-clause-heaviest : goal.heavier-heaviest-requires-clause-heaviest
heavier-heaviest-requires-clause-heaviest c =
    heaviest_to_below _ _ _ _ _ (λ x k. c.requires.below x (bucket_parts (bits_of c.args.words.now) c.args.at x k).0) c.loop-rest.invariant.found

pub loop-rest-preserved : goal.loop-rest-preserved
loop-rest-preserved c =
    rw c.heavier-heaviest.ensures (IsWordSearched-more _ _ _ c.loop-rest.rest _ (omega arith) (search rules) c.loop-rest.invariant)

pub returns : goal.returns
returns c =
    let at = c.args.at in
    heaviest_to_all (in_bucket (bits_of c.args.words.now) at) (weight_at c.args.weights.now) (at * 64 + 64) _
    (λ x le. bucket_after (bits_of c.args.words.now) at x le) (IsWordSearched-all _ _ _ c.loop-rest.rest _ c.loop-rest-test.false c.loop-rest.invariant)
