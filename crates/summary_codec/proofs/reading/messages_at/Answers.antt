-- One message after another, each put into the window as the newest.
use Rattle.std.proofs.Common.{◌≡◌, ◌+◌, ◌≤◌, ◌∷◌, ◌++◌, [], List, length, ap, ◌∙◌, sym, subst, arith}
use Rattle.std.specs.Prelude.{reverse}
use Rattle.std.proofs.lemmas.List.{take_all, reverse-append}
use Rattle.arc_data.specs.declared.event.Past.{Past}
use Rattle.summary_codec.specs.Reading.{past_at}
use Rattle.summary_codec.proofs.Times.{GoesOn, goes_more, goes_none, goes_end}
use Rattle.summary_codec.proofs.reading.messages_at.Goals as goal

pub returns-in-Ok-None : goal.returns-in-Ok-None
returns-in-Ok-None c =
    let w = c.loop.invariant in
    goes_none (past_at c.args.account.now) c.args.count c.loop.counter c.args.bytes.now (reverse c.loop.window) c.loop.rest.now w.read (rw c.in-Ok-None.field-0-is at c.in-Ok-None.ensures) c.loop-test.true

pub loop-preserved : goal.loop-preserved
loop-preserved c =
    let w = c.loop.invariant in
    let old = c.loop.window in
    let x = c.in-Ok-Some.found.0 in
    let few : length (x ∷ old) ≤ 32 = omega (arith, c.requires) in
    let put : c.push.new.self ≡ x ∷ old = c.push.ensures ∙ take_all 32 (x ∷ old) few in
    let turned : reverse c.push.new.self ≡ reverse old ++ x ∷ [] = ap reverse put ∙ reverse-append (x ∷ []) old in
    record {
      count = omega arith;
      long = ap length put ∙ omega arith;
      read = subst (λ (l : List Past). GoesOn (past_at c.args.account.now) c.args.count (c.loop.counter + 1) c.args.bytes.now l c.in-Ok-Some.found.1.now) (sym turned)
          (goes_more (past_at c.args.account.now) c.args.count c.loop.counter c.args.bytes.now (reverse old) x c.loop.rest.now c.in-Ok-Some.found.1.now w.read (rw c.in-Ok-Some.field-0-is at c.in-Ok-Some.ensures));
    }

pub returns : goal.returns
returns c =
    let w = c.loop.invariant in
    goes_end (past_at c.args.account.now) c.args.count c.loop.counter c.args.bytes.now (reverse c.loop.window) c.loop.rest.now w.read w.count c.loop-test.false
