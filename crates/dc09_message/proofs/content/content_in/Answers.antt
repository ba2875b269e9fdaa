use Rattle.std.proofs.Common.{◌+◌, ◌-◌, ◌≤◌, ℕ, length, drop, sym, ◌∙◌, ap, arith, length-drop}
use Rattle.std.proofs.lemmas.List.{length-take}
use Rattle.dc09_message.specs.Contents.{content_in}
use Rattle.dc09_message.specs.declared.kind.MessageKind.{MessageKind}
use Rattle.dc09_message.proofs.ContentLemmas.{content_none, content_unfit, content_beat, content_no_data, content_data, data_shorter, inside_shorter}
use Rattle.dc09_message.proofs.content.content_in.Goals as goal

pub returns-in_err-found-clause-value : goal.returns-in_err-found-clause-value
returns-in_err-found-clause-value c = rw c.from_residual.ensures (content_none c.args.kind c.args.header.now c.args.bytes.now c.in_err-found.ensures)

pub returns-then-not-fits_tail-clause-value : goal.returns-then-not-fits_tail-clause-value
returns-then-not-fits_tail-clause-value c =
    let b = c.in_ok-found.found in
    content_unfit c.args.kind c.args.header.now c.args.bytes.now (b.first.now, b.inside.now, b.tail.now) c.in_ok-found.ensures (sym c.fits_tail.ensures ∙ c.if-not-fits_tail.true)

pub returns-in_err-contents-in-Report-clause-value : goal.returns-in_err-contents-in-Report-clause-value
returns-in_err-contents-in-Report-clause-value c =
    let b = c.in_ok-found.found in
    rw c.from_residual-in_err-contents-in-Report.ensures
    (
    ap (λ (k : MessageKind). content_in k c.args.header.now c.args.bytes.now) c.in-Report.is
    ∙ content_no_data c.in-Report.token c.args.header.now c.args.bytes.now (b.first.now, b.inside.now, b.tail.now) c.in_ok-found.ensures (sym c.fits_tail.ensures ∙ c.if-not-fits_tail.false) c.in_err-contents-in-Report.ensures
    )

pub overflow_sub-result : goal.overflow_sub-result
overflow_sub-result c = data_shorter c.in-Report.token c.args.header.now c.in_ok-found.found.first.now c.in_ok-contents-in-Report.contents.now c.in_ok-contents-in-Report.ensures

pub returns-in-Heartbeat-clause-value : goal.returns-in-Heartbeat-clause-value
returns-in-Heartbeat-clause-value c =
    let b = c.in_ok-found.found in
    ap (λ (k : MessageKind). content_in k c.args.header.now c.args.bytes.now) c.in-Heartbeat.is
    ∙ content_beat c.args.header.now c.args.bytes.now (b.first.now, b.inside.now, b.tail.now) c.in_ok-found.ensures (sym c.fits_tail.ensures ∙ c.if-not-fits_tail.false)

pub returns-in_ok-contents-in-Report-clause-value : goal.returns-in_ok-contents-in-Report-clause-value
returns-in_ok-contents-in-Report-clause-value c =
    let b = c.in_ok-found.found in
    ap (λ (k : MessageKind). content_in k c.args.header.now c.args.bytes.now) c.in-Report.is
    ∙ content_data c.in-Report.token c.args.header.now c.args.bytes.now (b.first.now, b.inside.now, b.tail.now) c.in_ok-contents-in-Report.contents.now c.in_ok-found.ensures (sym c.fits_tail.ensures ∙ c.if-not-fits_tail.false) c.in_ok-contents-in-Report.ensures

pub returns-in_ok-contents-in-Report-clause-short : goal.returns-in_ok-contents-in-Report-clause-short
returns-in_ok-contents-in-Report-clause-short c =
    let b = c.in_ok-found.found in
    let n : ℕ = length b.first.now - length c.in_ok-contents-in-Report.contents.now in
    let short : length b.inside.now + 1 ≤ length c.args.bytes.now = inside_shorter c.args.bytes.now (b.first.now, b.inside.now, b.tail.now) c.in_ok-found.ensures in
    omega (arith, short, length-take (length b.inside.now - n) (drop n b.inside.now), length-drop n b.inside.now)
