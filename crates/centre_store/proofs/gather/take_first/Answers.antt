use Rattle.std.proofs.Common.{◌≡◌, List, [], ◌∷◌, ◌++◌, take, ap, subst, sym, ◌∙◌}
use Rattle.centre_core.specs.declared.ready.Done.{Done}
use Rattle.centre_store.specs.Calls.{Submission}
use Rattle.centre_store.specs.Gathered.{AreTakenUp, ShowsOfEnd}
use Rattle.centre_store.specs.Groups.{IsBatch}
use Rattle.centre_store.proofs.Batches.{batch_rest}
use Rattle.centre_store.proofs.Gathered.{taken_behind}
use Rattle.centre_store.proofs.gather.take_first.Goals as goal

pub invariant_of-batch-in-Ok-enter : goal.invariant_of-batch-in-Ok-enter
invariant_of-batch-in-Ok-enter g c =
    subst IsBatch (sym c.pop_front.ensures.rest) (batch_rest 1 c.batch.inside.calls.items c.batch.invariant)

pub returns-in-Ok-enter-clause-taken : goal.returns-in-Ok-enter-clause-taken
returns-in-Ok-enter-clause-taken g c =
    let one : List Done = (record { caller = c.args.caller; at = c.in-Ok-enter.done.at; reply = c.in-Ok-enter.done.reply }) ∷ [] in
    let first : take 1 c.args.batch.now ≡ c.in-Some.call ∷ [] = ap (take 1) (sym c.batch.view_is ∙ c.in-Some.ensures.items) in
    let behind : c.push_reserved.new.self.items ≡ c.args.dones.now ++ one =
    c.push_reserved.ensures.items ∙ ap (λ (l : List Done). l ++ one) (c.reserve.ensures.items ∙ c.dones.view_is) in
    subst (λ (calls : List Submission). AreTakenUp c.args.caller calls c.args.centre.now c.enter.new.centre c.args.bodies.now c.enter.new.bodies
    c.args.dones.now c.push_reserved.new.self.items)
    (sym first)
    (taken_behind c.args.caller (c.in-Some.call ∷ []) c.args.centre.now c.enter.new.centre c.args.bodies.now c.enter.new.bodies c.args.dones.now one
    c.push_reserved.new.self.items (c.in-Ok-enter.ensures.taken c.args.caller) behind)

pub returns-in-Err-clause-cause : goal.returns-in-Err-clause-cause
returns-in-Err-clause-cause g c =
    let left : c.push_front_reserved.new.self.items ≡ c.in-Some.call ∷ c.pop_front.new.self.items =
    c.push_front_reserved.ensures.items ∙ ap (λ (x : Submission). x ∷ c.pop_front.new.self.items) c.in-Err.ensures.back in
    subst (λ (l : List Submission). ShowsOfEnd c.enter.new.journal c.enter.new.centre c.enter.new.bodies l c.in-Err.field-0.end)
    (sym left) (c.in-Err.ensures.cause c.pop_front.new.self.items)
