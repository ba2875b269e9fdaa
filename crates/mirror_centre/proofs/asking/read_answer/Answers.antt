use Rattle.std.proofs.Common.{[], subst}
use Rattle.mirror_centre.specs.Following.{ReadsMore, ReadsNone}
use Rattle.mirror_centre.proofs.Turns.{err_more, none_behind}
use Rattle.mirror_centre.proofs.asking.read_answer.Goals as goal

pub returns-in-66-clause-none : goal.returns-in-66-clause-none
returns-in-66-clause-none g c =
    let p = g.P.Ends.seen c.args.port.now in
    let q = g.P.Ends.seen c.read_behind.new.port in
    let r = g.P.Ends.seen c.read_count.new.port in
    let read : ReadsMore c.args.taken [] c.in_ok-letter.letter.items 1 p q =
    subst (λ l. ReadsMore c.args.taken l c.in_ok-letter.letter.items 1 p q) c.new.ensures.items c.in_ok-letter.ensures.read in
    err_more (λ end. ReadsNone end c.args.after c.args.taken c.in_ok-letter.letter.items q r) (λ end. ReadsNone end c.args.after c.args.taken [] p r)
    c.read_count.result
    (λ end none. none_behind end c.args.after c.args.taken c.in_ok-letter.letter.items p q r read c.read_behind.ensures.later none)
    c.read_count.ensures.none

pub returns-in-82-clause-none : goal.returns-in-82-clause-none
returns-in-82-clause-none g c =
    let p = g.P.Ends.seen c.args.port.now in
    let q = g.P.Ends.seen c.read_behind.new.port in
    let r = g.P.Ends.seen c.read_record.new.port in
    let read : ReadsMore c.args.taken [] c.in_ok-letter.letter.items 1 p q =
    subst (λ l. ReadsMore c.args.taken l c.in_ok-letter.letter.items 1 p q) c.new.ensures.items c.in_ok-letter.ensures.read in
    err_more (λ end. ReadsNone end c.args.after c.args.taken c.in_ok-letter.letter.items q r) (λ end. ReadsNone end c.args.after c.args.taken [] p r)
    c.read_record.result
    (λ end none. none_behind end c.args.after c.args.taken c.in_ok-letter.letter.items p q r read c.read_behind.ensures.later none)
    c.read_record.ensures.none
