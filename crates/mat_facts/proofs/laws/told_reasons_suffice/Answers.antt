use Rattle.mat_facts.proofs.RightGraphReasons.{says_none_gains}
use Rattle.mat_facts.proofs.RightLadderReasons.{no_tree_shown}
use Rattle.mat_facts.proofs.RightReasons.{heaviest_rung_shown, right_gives_rungs, told_size_bounded, told_sizes_are}
use Rattle.mat_facts.proofs.laws.told_reasons_suffice.Goals as goal

pub returns : goal.returns
returns c = record {
  told = told_sizes_are;
  size = told_size_bounded;
  best = heaviest_rung_shown;
  largest = λ told problem answer valid right some. (right_gives_rungs told problem answer valid right some).rungs.larger;
  reach = λ told vertices root arcs costs n cost tree first second valid right none.
      says_none_gains vertices root arcs costs n cost tree first second valid right none told;
  rainbow = λ told vertices colours edges colour_of w n v c rungs cut missing right short.
      no_tree_shown told vertices colours edges colour_of w n v c rungs cut missing right short;
}
