-- What a session submits is not unknown to its hall.
use Rattle.std.proofs.Common.{◌≡◌, ◌∷◌, ℕ, List, Bool, true, Option, Some, None, sym, ◌∙◌, ap, subst}
use Rattle.std.specs.Prelude.{◌&&◌, if◌then◌else◌, Result, Ok, Err, IfErr}
use Rattle.arc_data.specs.declared.event.Event.{Event}
use Rattle.arc_data.specs.declared.event.Event.TheVariants.{Message as Sent, Beat as Heartbeat}
use Rattle.arc_data.specs.declared.reply.Reply.{Reply}
use Rattle.arc_data.specs.declared.reply.Reply.TheVariants.{Heard, Unknown}
use Rattle.alarm_rules.specs.Setups.{Setup, meaning}
use Rattle.alarm_rules.specs.Signals.{has_signals}
use Rattle.arc_io.specs.Seen.{PortSeen}
use Rattle.centre_core.specs.Halls.{HallSeen, IsKept, TookEvent}
use Rattle.centre_rules.specs.Summary.{Summary}
use Rattle.centre_rules.specs.Marks.{Mark, force}
use Rattle.centre_rules.specs.History.{Entry, is_recorded, marks, marks_of, onto}
use Rattle.centre_rules.specs.Answers.{answer_over, if_known, knows_account, repeat_of, taken_or}
use Rattle.line_session.specs.Replies.{IsKnownEvent, Reported, Reports}
use Rattle.line_session.specs.declared.line_end.LineEnd.{LineEnd}
use Rattle.line_session.specs.declared.line_end.LineEnd.TheVariants.{InputEnded, ReadFault, WriteFault, Spent, Stopped}
use Rattle.line_session.specs.declared.report.Report.{Report}

taken_known : (first : Option ℕ) → taken_or first ≡ Unknown → ⊥
taken_known None is = cc
taken_known (Some at) is = cc

both_true : (a b : Bool) → a ≡ true → b ≡ true → (a && b) ≡ true
both_true a b x y = ap (λ c. c && b) x ∙ y

-- an event that the setup in force knows is not answered Unknown
pub answers_known : (b : Summary) (ms : List Mark) (setup : Setup) (event : Event) (at : ℕ) → force b ms ≡ Some setup → IsKnownEvent setup event → answer_over b ms event at ≡ Unknown → ⊥
answers_known b ms setup (Sent m via) at forced known is =
    let account = ap (λ (o : Option Setup). knows_account o m.account) forced ∙ known.account in
    let told = both_true (knows_account (force b ms) m.account) (has_signals m.token m.content) account known.content in
    taken_known (repeat_of b ms m at) (sym (ap (λ c. if_known c (taken_or (repeat_of b ms m at))) told) ∙ is)
answers_known b ms setup (Heartbeat account) at forced known is =
    let told = ap (λ (o : Option Setup). knows_account o account) forced ∙ known in
    let heard : Heard ≡ Unknown = sym (ap (λ c. if_known c Heard) told) ∙ is in
    cc
answers_known b ms setup other at forced known is = absurd known

-- nor is the entry that a hall makes of it
pub entry_known : (b : Summary) (h : List Entry) {hall hall' : HallSeen} (event : Event) (reading : ℕ) (t : TookEvent b hall hall' h event reading) → IsKept hall hall' → IsKnownEvent (meaning hall.text) event
    → force b (marks b (t.entry ∷ t.goes.before)) ≡ Some (meaning hall'.text) → t.entry.reply ≡ Unknown → ⊥
entry_known b h {hall} {hall'} event reading t kept known forced is =
    let e = t.entry in
    let ms = marks b t.goes.before in
    let before = subst (λ (r : Reply). force b (if is_recorded r then onto (marks_of b ms e.event e.at r) ms else ms) ≡ Some (meaning hall'.text)) is forced in
    answers_known b ms (meaning hall.text) event e.at (before ∙ ap (λ (text : List ℕ). Some (meaning text)) kept.text) known
    (sym (t.goes.legal.0.reply ∙ ap (λ (v : Event). answer_over b ms v e.at) t.of) ∙ is)

-- what was taken, by its end
pub reports : (end : Result (Unit {0}) LineEnd) (b : Summary) (h : List Entry) (hall hall' : HallSeen) (r : Report) (p p' : PortSeen) → IfErr end (λ e. e ≡ WriteFault) → Reported end b h hall hall' r p p' → Reports end b h hall hall' r p p'
reports (Ok tt) b h hall hall' r p p' ends told = told
reports (Err WriteFault) b h hall hall' r p p' ends told = told
reports (Err InputEnded) b h hall hall' r p p' ends told = absurd (cc)
reports (Err ReadFault) b h hall hall' r p p' ends told = absurd (cc)
reports (Err Spent) b h hall hall' r p p' ends told = absurd (cc)
reports (Err (Stopped stop)) b h hall hall' r p p' ends told = absurd (cc)
