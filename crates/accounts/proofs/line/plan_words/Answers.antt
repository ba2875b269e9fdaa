use Rattle.std.proofs.Common.{sym, ◌∙◌}
use Rattle.std.proofs.lemmas.Bool.{not-true, not-false}
use Rattle.arc_data.specs.Words.{has_word}
use Rattle.accounts.proofs.PlanLemmas.{planned-clash, planned-more}
use Rattle.accounts.proofs.line.plan_words.Goals as goal

pub returns-then-not-add : goal.returns-then-not-add
returns-then-not-add c =
    let p = c.in_ok-planned.planned in
    let stands = not-false (has_word p.word c.loop-word.plan) (sym c.add.ensures.fresh ∙ c.if-not-add.true) in
    planned-clash _ _ _ c.loop-word.invariant.planned c.in-Some.word.now c.next.new.self c.in-Some.ensures p c.in_ok-planned.ensures stands

pub loop-word-preserved : goal.loop-word-preserved
loop-word-preserved c =
    let p = c.in_ok-planned.planned in
    let fresh = not-true (has_word p.word c.loop-word.plan) (sym c.add.ensures.fresh ∙ c.if-not-add.false) in
    let more = planned-more _ _ _ c.loop-word.invariant.planned c.in-Some.word.now c.next.new.self c.in-Some.ensures p c.in_ok-planned.ensures fresh in
    record { planned = rw c.if-not-add.ensures.added more; some = c.loop-word.invariant.some }
