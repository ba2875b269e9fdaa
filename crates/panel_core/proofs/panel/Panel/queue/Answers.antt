use Rattle.std.proofs.Common.{◌≡◌, ◌∙◌, ◌+◌, [], ◌∷◌, Bool, true, false, length, sym, ap, arith, length-append}
use Rattle.panel_rules.specs.declared.Queued.TheVariants.{Taken}
use Rattle.panel_rules.specs.Panels.{is_bad, marks}
use Rattle.panel_core.proofs.Calls.{queued_full, queued_taken, stands_taken, stays_full}
use Rattle.panel_core.proofs.panel.Panel.queue.Goals as goal

pub returns-then-is_full-clause-told : goal.returns-then-is_full-clause-told
returns-then-is_full-clause-told c = λ s h k. sym (queued_full s (marks s h) c.args.self.now k c.args.token c.args.content (ap (is_bad c.args.token) (sym c.bytes.ensures) ∙ sym c.is_bad.ensures ∙ c.if-is_bad.false) (sym c.is_full.ensures ∙ c.if-is_full.true))

pub returns-then-is_full-clause-stands : goal.returns-then-is_full-clause-stands
returns-then-is_full-clause-stands c = λ s h k. stays_full s (marks s h) c.args.self.now k c.args.token c.args.content (queued_full s (marks s h) c.args.self.now k c.args.token c.args.content (ap (is_bad c.args.token) (sym c.bytes.ensures) ∙ sym c.is_bad.ensures ∙ c.if-is_bad.false) (sym c.is_full.ensures ∙ c.if-is_full.true))

pub returns-clause-told : goal.returns-clause-told
returns-clause-told c = λ s h k.
    let good = ap (is_bad c.args.token) (sym c.bytes.ensures) ∙ sym c.is_bad.ensures ∙ c.if-is_bad.false in
    let size : length c.push.new.self.acked ≡ c.args.self.now.sent + length c.args.self.now.waiting + 1 = ap (λ p. length p.acked) c.in_ok-push.ensures.pushed ∙ omega (arith, length-append c.args.self.now.acked (false ∷ []), c.in_ok-push.ensures.counted) in
    ap Taken (c.taken.ensures.value ∙ size) ∙ sym (queued_taken s (marks s h) c.args.self.now k c.args.token c.args.content good (sym c.is_full.ensures ∙ c.if-is_full.false))

pub returns-clause-stands : goal.returns-clause-stands
returns-clause-stands c = λ s h k.
    let good = ap (is_bad c.args.token) (sym c.bytes.ensures) ∙ sym c.is_bad.ensures ∙ c.if-is_bad.false in
    let told = queued_taken s (marks s h) c.args.self.now k c.args.token c.args.content good (sym c.is_full.ensures ∙ c.if-is_full.false) in
    rw c.in_ok-push.ensures.pushed (stands_taken s (marks s h) c.args.self.now k c.args.token c.args.content (c.args.self.now.sent + length c.args.self.now.waiting + 1) told)
