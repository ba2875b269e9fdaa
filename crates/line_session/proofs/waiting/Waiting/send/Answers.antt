use Rattle.std.proofs.Common.{◌≡◌, ◌∙◌, ◌+◌, length}
use Rattle.std.specs.Prelude.{Bool, true, false, IsTrue}
use Rattle.std.proofs.lemmas.List.Elements.{All-rest}
use Rattle.alarm_rules.specs.Setups.{meaning}
use Rattle.line_session.specs.Dues.{IsDueUnder, acks_in}
use Rattle.line_session.proofs.Sending.{left_after, left_same, sent_next}
use Rattle.line_session.proofs.waiting.Waiting.send.Goals as goal
use Rattle.line_session.proofs.waiting.Waiting.send.Goals.{then-is_ack, else-is_ack}

clash : (b : Bool) → IsTrue b → b ≡ false → ⊥
clash true h is = absurd (cc)
clash false h is = absurd (cc)

pub loop-due-preserved : goal.loop-due-preserved
loop-due-preserved g c =
    let old = c.loop-due.invariant in
    let due = c.in-Some.due in
    let took = c.in-Some.ensures.some in
    let acks : c.loop-due.left ≡ length (acks_in due) + c.if-is_ack.left =
    elim c.if-is_ack.branch as (λ _. c.loop-due.left ≡ length (acks_in due) + c.if-is_ack.left) [
      | then-is_ack w ↦ left_after due c.loop-due.left c.if-is_ack.left (c.is_ack.ensures.0 w.if-is_ack.true) w.left-is (took.1 (c.is_ack.ensures.0 w.if-is_ack.true))
      | else-is_ack w ↦ left_same due c.loop-due.left c.if-is_ack.left (λ ack. clash c.is_ack.result (c.is_ack.ensures.1 ack) w.if-is_ack.false) w.left-is
    ] in
    record {
      sent = sent_next due c.next_within.new.self.dues.items c.if-is_ack.left (g.P.Ends.seen c.send_due.new.port) old.sent took.0 acks c.in_ok-send_due.ensures.sent;
      dues = All-rest (IsDueUnder (meaning (g.H.Hall.seen c.args.hall.now).text)) due c.next_within.new.self.dues.items c.loop-due.self.dues.items took.0 old.dues;
      calls = c.in-Some.ensures.calls ∙ old.calls;
    }
