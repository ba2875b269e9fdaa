use Rattle.std.proofs.Common.{◌≡◌, ℕ, List, drop, arith, inl, inr}
use Rattle.std.specs.Int.{from_be_bytes, w32}
use Rattle.std.specs.Io.KnownBytes.{prepend_known}
use Rattle.arc_io.specs.Seen.{PortSeen}
use Rattle.mirror_centre.specs.Following.{ReadsAnswer, ReadsMore, ReadsNone}
use Rattle.mirror_centre.proofs.Turns.{err_more, length_from, length_strange, none_behind_head, ok_more, record_read}
use Rattle.mirror_centre.proofs.asking.read_record.Goals as goal

pub returns-then-length-eq0-clause-none : goal.returns-then-length-eq0-clause-none
returns-then-length-eq0-clause-none g c =
    let p = g.P.Ends.seen c.args.port.now in
    let q = g.P.Ends.seen c.read_behind.new.port in
    let front : List ℕ = c.in_ok-front.front.items in
    let number : c.size_in-length.result ≡ from_be_bytes w32 (drop 9 front) =
    length_from c.size_in-length.result c.deref.result.now front c.deref.ensures.value c.size_in-length.ensures.number in
    length_strange c.args.taken c.args.after c.args.letter.items front p q c.requires.letter c.in_ok-front.ensures.read c.size_in-length.result number
    (elim c.then-length-eq0.either [
      | inl none ↦ inl none
      | inr over ↦ inr over.1
    ])

pub returns-clause-read : goal.returns-clause-read
returns-clause-read g c =
    let p = g.P.Ends.seen c.args.port.now in
    let q = g.P.Ends.seen c.read_behind.new.port in
    let r = g.P.Ends.seen c.read_behind-2.new.port in
    let front : List ℕ = c.in_ok-front.front.items in
    let n : ℕ = c.size_in-length.result in
    let number : n ≡ from_be_bytes w32 (drop 9 front) =
    length_from c.size_in-length.result c.deref.result.now front c.deref.ensures.value c.size_in-length.ensures.number in
    ok_more (λ message. ReadsMore c.args.taken front message.items n q r)
    (λ message. (o : PortSeen) → o.left ≡ prepend_known c.args.letter.items p.left → ReadsAnswer c.args.taken message.items o r)
    c.read_behind-2.result
    (λ message read. record_read c.args.taken c.args.after c.args.letter.items front p q c.requires.letter c.in_ok-front.ensures.read n message.items r number
    (omega (arith, c.if-length-eq0.false)) (omega (arith, c.if-length-gt-MOST.false)) read)
    c.read_behind-2.ensures.read

pub returns-clause-none : goal.returns-clause-none
returns-clause-none g c =
    let p = g.P.Ends.seen c.args.port.now in
    let q = g.P.Ends.seen c.read_behind.new.port in
    let r = g.P.Ends.seen c.read_behind-2.new.port in
    let front : List ℕ = c.in_ok-front.front.items in
    err_more (λ end. ReadsNone end c.args.after c.args.taken front q r) (λ end. ReadsNone end c.args.after c.args.taken c.args.letter.items p r)
    c.read_behind-2.result
    (λ end none. none_behind_head c.args.taken c.args.after c.args.letter.items front p q c.requires.letter c.in_ok-front.ensures.read end r c.read_behind.ensures.later none)
    c.read_behind-2.ensures.none
