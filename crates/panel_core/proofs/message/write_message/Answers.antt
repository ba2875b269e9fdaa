use Rattle.std.proofs.Common.{◌≡◌, ◌∙◌, ◌++◌, List, ℕ, sym, ap, drop}
use Rattle.dc09_frame.proofs.FrameLaws.{behind_nine}
use Rattle.dc09_frame.specs.Frames.{frame_of}
use Rattle.panel_rules.specs.Panels.{sequence, token_bytes}
use Rattle.panel_core.proofs.Bodies.{built, message, message_is, message_is_body}
use Rattle.panel_core.proofs.message.write_message.Goals as goal

pub end_frame-requires : goal.end_frame-requires
end_frame-requires c =
    let is = built c.begin_frame.new.self c.quoted_token.result.now (token_bytes c.args.report.now.token) (sequence c.args.number) c.args.line.now c.args.account.now c.args.report.now.content c.append.new.self c.append_fields.new.out c.append-2.new.self c.append-3.new.self c.append-4.new.self c.append-5.new.self c.append-6.new.self c.quoted_token.ensures c.append.ensures c.append_fields.ensures c.append-2.ensures (c.append-3.ensures ∙ ap (λ a. c.append-2.new.self ++ a) c.bytes.ensures.value) c.append-4.ensures (c.append-5.ensures ∙ ap (λ a. c.append-4.new.self ++ a) c.bytes-2.ensures) c.append-6.ensures in
    let body = ap (drop 9) is ∙ behind_nine c.begin_frame.new.self (message (token_bytes c.args.report.now.token) (sequence c.args.number) c.args.line.now c.args.account.now c.args.report.now.content) c.begin_frame.ensures in
    rw body (message_is_body c.args.account.now c.args.line.now c.args.number c.args.report.now c.requires.account c.requires.line c.requires.report)

pub returns : goal.returns
returns c =
    let is = built c.begin_frame.new.self c.quoted_token.result.now (token_bytes c.args.report.now.token) (sequence c.args.number) c.args.line.now c.args.account.now c.args.report.now.content c.append.new.self c.append_fields.new.out c.append-2.new.self c.append-3.new.self c.append-4.new.self c.append-5.new.self c.append-6.new.self c.quoted_token.ensures c.append.ensures c.append_fields.ensures c.append-2.ensures (c.append-3.ensures ∙ ap (λ a. c.append-2.new.self ++ a) c.bytes.ensures.value) c.append-4.ensures (c.append-5.ensures ∙ ap (λ a. c.append-4.new.self ++ a) c.bytes-2.ensures) c.append-6.ensures in
    let body = ap (drop 9) is ∙ behind_nine c.begin_frame.new.self (message (token_bytes c.args.report.now.token) (sequence c.args.number) c.args.line.now c.args.account.now c.args.report.now.content) c.begin_frame.ensures in
    c.end_frame.ensures ∙ ap frame_of (body ∙ sym (message_is c.args.account.now c.args.line.now c.args.number c.args.report.now))
