use Rattle.std.proofs.Common.{[], ◌≤◌, ℕ, List, length, Option, Ok, Err, sym, ap, subst, ◌∙◌}
use Rattle.std.specs.Prelude.{IfSome}
use Rattle.std.specs.Io.KnownBytes.{prepend_known}
use Rattle.arc_io.proofs.KnownMore.{prepend_none}
use Rattle.disk_journal.specs.Faults.{IsShown}
use Rattle.arc_book.specs.Compiled.{IsCompiled}
use Rattle.arc_book.specs.Tapes.{ahead, IsReadTo}
use Rattle.arc_book.specs.declared.status.Status.TheVariants.{Done, ReadFault, Journal, Memory}
use Rattle.arc_book.proofs.Walks.{walked_on}
use Rattle.arc_book.proofs.Books.{fresh_compiled, refused_compiled, unread_compiled, unkept_compiled}
use Rattle.arc_book.proofs.compile.compile.Goals as goal

pub returns-in-Ok-Fresh-clause-compiled : goal.returns-in-Ok-Fresh-clause-compiled
returns-in-Ok-Fresh-clause-compiled g c =
    let s = g.S.Ends.seen c.args.source.now in
    let s' = g.S.Ends.seen c.open.new.source in
    let k = g.K.Ends.seen c.args.sink.now in
    let all = ap (λ (u : List ℕ). prepend_known u s.left) c.requires.fresh ∙ sym (prepend_none s.left) in
    subst (IsCompiled c.args.options.now Done s.left s s' k k) (sym c.requires.empty)
    (fresh_compiled c.args.options.now s.left s s' k (subst (λ (o : Option (List ℕ)). IfSome o (λ bytes. length bytes ≤ 17)) all (c.in-Ok-Fresh.ensures.fresh c.in-Ok-Fresh.field-0-is)) c.open.ensures.others)

pub returns-in-Ok-Refused-clause-compiled : goal.returns-in-Ok-Refused-clause-compiled
returns-in-Ok-Refused-clause-compiled g c =
    let s = g.S.Ends.seen c.args.source.now in
    let s' = g.S.Ends.seen c.open.new.source in
    let k = g.K.Ends.seen c.args.sink.now in
    let all = ap (λ (u : List ℕ). prepend_known u s.left) c.requires.fresh ∙ sym (prepend_none s.left) in
    let fault = c.in-Ok-Refused.fault in
    let shown = c.in-Ok-Refused.ensures.refused fault (ap Ok c.in-Ok-Refused.field-0-is) in
    subst (IsCompiled c.args.options.now (Journal fault) s.left s s' k k) (sym c.requires.empty)
    (refused_compiled c.args.options.now s.left s s' k fault shown.0 (subst (λ (o : Option (List ℕ)). IfSome o (IsShown fault)) all shown.1) c.open.ensures.others)

pub returns-in-Err-Failed-clause-compiled : goal.returns-in-Err-Failed-clause-compiled
returns-in-Err-Failed-clause-compiled g c =
    let s = g.S.Ends.seen c.args.source.now in
    let s' = g.S.Ends.seen c.open.new.source in
    let k = g.K.Ends.seen c.args.sink.now in
    subst (IsCompiled c.args.options.now ReadFault s.left s s' k k) (sym c.requires.empty)
    (unread_compiled c.args.options.now s.left s s' k (c.in-Err-Failed.ensures.failed (ap Err c.in-Err-Failed.field-0-is)) c.open.ensures.others)

pub returns-in-Err-Memory-clause-compiled : goal.returns-in-Err-Memory-clause-compiled
returns-in-Err-Memory-clause-compiled g c =
    let s = g.S.Ends.seen c.args.source.now in
    let s' = g.S.Ends.seen c.open.new.source in
    let k = g.K.Ends.seen c.args.sink.now in
    subst (IsCompiled c.args.options.now Memory s.left s s' k k) (sym c.requires.empty) (unkept_compiled c.args.options.now s.left s s' k c.open.ensures.others)

pub returns-in-Ok-Journal-clause-compiled : goal.returns-in-Ok-Journal-clause-compiled
returns-in-Ok-Journal-clause-compiled g c =
    let s = g.S.Ends.seen c.args.source.now in
    let t = g.S.Ends.seen c.open.new.source in
    let s' = g.S.Ends.seen c.walk.new.source in
    let k = g.K.Ends.seen c.args.sink.now in
    let k' = g.K.Ends.seen c.walk.new.sink in
    let tape = c.open.new.self in
    let all = ap (λ (u : List ℕ). prepend_known u s.left) c.requires.fresh ∙ sym (prepend_none s.left) in
    let version = c.in-Ok-Journal.version in
    let read = (c.in-Ok-Journal.ensures.journal version (ap Ok c.in-Ok-Journal.field-0-is)).1 in
    walked_on c.args.options.now c.walk.result s.left s t s' k k' c.walk.new.page c.open.ensures.others c.open.ensures.later
    (c.walk.ensures.compiled s.left (subst (λ (o : Option (List ℕ)). IsReadTo version o [] tape.gate tape.at (ahead tape.intake t.left)) all read))
