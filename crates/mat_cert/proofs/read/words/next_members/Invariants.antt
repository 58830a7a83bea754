use Rattle.mat_cert.proofs.Common.{◌≡◌, length, AllBelow, parts_left, words_left, members_from}
use Rattle.mat_cert.proofs.MemberLists.{with_members}
use Rattle.mat_cert.proofs.read.words.next_members.Given as goal

-- what is still read behind the members so far is what is read in all, and those so far are below the least that may follow
abbrev pub invariant-loop-rest : goal.invariant-loop-rest
invariant-loop-rest l = record {
  reads : with_members l.set (members_from l.bound l.rest.line l.least (parts_left l.rest.left)) ≡ members_from l.bound l.fn.words.line 0
      (words_left l.fn.words).words;
  below : AllBelow l.least l.set;
}

abbrev pub decreases-loop-rest : goal.decreases-loop-rest
decreases-loop-rest l = length (parts_left l.rest.left)
