use Rattle.std.proofs.Common.{◌≡◌, ℕ, List, sym, subst, arith}
use Rattle.std.specs.Int.{from_be_bytes, w64}
use Rattle.mirror_centre.specs.Feeding.{IsReadAlone, ReadsNone}
use Rattle.mirror_centre.proofs.Asks.{alone_within, ask_by, high_by, none_within}
use Rattle.mirror_centre.proofs.feed.read_ask.Goals as goal

pub returns-in-Err-clause-none : goal.returns-in-Err-clause-none
returns-in-Err-clause-none g c =
    subst (λ e. ReadsNone e c.args.answered (g.P.Ends.seen c.args.port.now) (g.P.Ends.seen c.read_next.new.port)) (sym c.end_within.ensures)
    (none_within c.in-Err.short c.args.answered (g.P.Ends.seen c.args.port.now) (g.P.Ends.seen c.read_letter.new.port) (g.P.Ends.seen c.read_next.new.port)
    c.in_ok-read_letter.ensures.letter c.read_letter.ensures.later c.in-Err.ensures.short)

pub returns-in-Err-clause-stop : goal.returns-in-Err-clause-stop
returns-in-Err-clause-stop g c = subst IsReadAlone (sym c.end_within.ensures) (alone_within c.in-Err.short c.args.answered)

pub returns-then-number-lt-NUMBERS-clause-asked : goal.returns-then-number-lt-NUMBERS-clause-asked
returns-then-number-lt-NUMBERS-clause-asked g c =
    let number : c.number_in-number.result ≡ from_be_bytes w64 c.in-Ok.bytes.items =
    subst (λ (l : List ℕ). c.number_in-number.result ≡ from_be_bytes w64 l) c.deref.ensures.value c.number_in-number.ensures.number in
    ask_by c.in-Ok.bytes.items c.args.answered (g.P.Ends.seen c.args.port.now) (g.P.Ends.seen c.read_letter.new.port) (g.P.Ends.seen c.read_next.new.port)
    c.in_ok-read_letter.ensures.letter c.in-Ok.ensures.read c.number_in-number.result number (omega (arith, c.if-number-lt-NUMBERS.true))

pub returns-clause-none : goal.returns-clause-none
returns-clause-none g c =
    let number : c.number_in-number.result ≡ from_be_bytes w64 c.in-Ok.bytes.items =
    subst (λ (l : List ℕ). c.number_in-number.result ≡ from_be_bytes w64 l) c.deref.ensures.value c.number_in-number.ensures.number in
    high_by c.in-Ok.bytes.items c.args.answered (g.P.Ends.seen c.args.port.now) (g.P.Ends.seen c.read_letter.new.port) (g.P.Ends.seen c.read_next.new.port)
    c.in_ok-read_letter.ensures.letter c.in-Ok.ensures.read c.number_in-number.result number (omega (arith, c.if-number-lt-NUMBERS.false))
