use Rattle.std.proofs.Common.{List, [], sym, ap, ◌∙◌, subst}
use Rattle.arc_data.specs.declared.event.Event.{Event}
use Rattle.centre_rules.specs.Answers.{answer_over}
use Rattle.arc_data.specs.declared.incident.Incident.{Incident}
use Rattle.centre_rules.specs.Desks.{on_show, on_list}
use Rattle.centre_rules.specs.Standing.{standing_of}
use Rattle.centre_core.specs.Kept.{IsAdopted}
use Rattle.centre_core.specs.contracts.centre.Centre.{the_view}
use Rattle.centre_core.proofs.Ordered.{of_table, asked, ok_more}
use Rattle.centre_core.proofs.centre.Centre.reply.Goals as goal

pub returns-in-Adopt : goal.returns-in-Adopt
returns-in-Adopt c =
    let read = subst (λ (e : Event). IsAdopted e c.args.setup.now) c.in-Adopt.is c.requires.adopted in
    λ plain. c.on_adopt.ensures c.args.self.now.sum _ c.args.at read ∙ ap (λ (e : Event). answer_over c.args.self.now.sum [] e c.args.at) (sym c.in-Adopt.is)

pub returns-in-Claim : goal.returns-in-Claim
returns-in-Claim c = λ plain. c.on_claim.ensures ∙ ap (λ (e : Event). answer_over c.args.self.now.sum [] e c.args.at) (sym c.in-Claim.is)

pub returns-in-Next : goal.returns-in-Next
returns-in-Next c = λ plain. c.on_next.ensures ∙ ap (λ (e : Event). answer_over c.args.self.now.sum [] e c.args.at) (sym c.in-Next.is)

pub returns-in-Release : goal.returns-in-Release
returns-in-Release c = λ plain. c.on_release.ensures ∙ ap (λ (e : Event). answer_over c.args.self.now.sum [] e c.args.at) (sym c.in-Release.is)

pub returns-in-Close : goal.returns-in-Close
returns-in-Close c = λ plain. c.on_close.ensures c.in-Close.code ∙ ap (λ (e : Event). answer_over c.args.self.now.sum [] e c.args.at) (sym c.in-Close.is)

pub returns-in-Show : goal.returns-in-Show
returns-in-Show c = λ plain.
    let of = λ (is : List Incident). on_show c.in-Show.number (standing_of c.lapse.result c.args.at is) in
    asked c.args.self.now.sum c.show.result (on_show c.in-Show.number) c.args.at c.lapse.result c.lapse.ensures
    (of_table (the_view c.self.inside) c.args.self.now c.show.result of c.self.view_is (c.show.ensures ∙ ap of c.table.ensures.incidents))
    ∙ ap (λ (e : Event). answer_over c.args.self.now.sum [] e c.args.at) (sym c.in-Show.is)

pub returns-in-List : goal.returns-in-List
returns-in-List c =
    let of = λ (is : List Incident). on_list (standing_of c.lapse-in-List.result c.args.at is) in
    ok_more c.list.result _ _ (λ r is plain.
    asked c.args.self.now.sum r on_list c.args.at c.lapse-in-List.result c.lapse-in-List.ensures
    (of_table (the_view c.self.inside) c.args.self.now r of c.self.view_is (is ∙ ap of c.table-in-List.ensures.incidents))
    ∙ ap (λ (e : Event). answer_over c.args.self.now.sum [] e c.args.at) (sym c.in-List.is)) c.list.ensures
