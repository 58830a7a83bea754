use Rattle.mat_desc.proofs.Common.{◌≡◌, ◌<◌, true, List, ℕ, [], ◌∷◌, ◌++◌, length, pos, sym, ap, subst, ◌∙◌, rules, arith, map-all_below_none, is_name, with_name, numeral, numbered}
use Rattle.mat_desc.proofs.NextNumberedName.{next-numbered}
use Rattle.mat_desc.proofs.NumberedNames.{is_name-numbered, length-numbered}
use Rattle.mat_desc.proofs.named.numbered_names.Goals as goal

pub add-requires-clause-name : goal.add-requires-clause-name
add-requires-clause-name c =
    let inside : c.loop-i.i < c.args.count = search rules in
    let word : c.deref.result.now ≡ c.args.letter ∷ numeral (pos c.loop-i.i) = search rules in
    subst (λ w. is_name w ≡ true) (sym word)
    (is_name-numbered c.args.letter c.loop-i.i c.requires.letter (omega (arith, inside, c.requires.few)))

pub add-requires-clause-room : goal.add-requires-clause-room
add-requires-clause-room c =
    let inside : c.loop-i.i < c.args.count = search rules in
    omega (arith, inside, c.requires.few, ap length c.loop-i.invariant, length-numbered (c.args.letter ∷ []) c.loop-i.i)

pub loop-i-init : goal.loop-i-init
loop-i-init c = c.new-names.ensures ∙ sym (map-all_below_none (λ x. (c.args.letter ∷ []) ++ numeral (pos x)))

pub loop-i-preserved : goal.loop-i-preserved
loop-i-preserved c =
    let word : c.deref.result.now ≡ c.args.letter ∷ numeral (pos c.loop-i.i) = search rules in
    c.in_ok-add.ensures.names ∙ ap (λ (names : List (List ℕ)). with_name names c.deref.result.now) c.loop-i.invariant
    ∙ ap (λ (w : List ℕ). with_name (numbered (c.args.letter ∷ []) c.loop-i.i) w) word ∙ next-numbered c.args.letter c.loop-i.i
