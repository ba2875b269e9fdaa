use Rattle.std.proofs.Common.{◌<◌, length}
use Rattle.accounts.proofs.PlanLemmas.{HasPlanned}
use Rattle.accounts.proofs.line.plan_words.Given as goal

abbrev pub invariant-loop-word : goal.invariant-loop-word
invariant-loop-word l = record {
  planned : HasPlanned l.initial.words l.words l.plan;
  some : 0 < length l.initial.words;
}

abbrev pub decreases-loop-word : goal.decreases-loop-word
decreases-loop-word l = length l.words
