use Rattle.std.proofs.Common.{take, get_or, ◌<◌, length, refl, ap, ◌∙◌, sym, arith}
use Rattle.std.specs.Io.KnownBytes.{append_known}
use Rattle.arc_io.proofs.KnownMore.{known_both}
use Rattle.arc_script.specs.Pages.{spaced}
use Rattle.arc_script.proofs.Spaced.{spaced_byte, spaced_next}
use Rattle.arc_script.proofs.replies.put_piece.Goals as goal

pub returns-clause-all : goal.returns-clause-all
returns-clause-all g c =
    let bytes = c.args.bytes.now in
    let n = c.plain_count-count.result in
    let b = get_or bytes n 0 in
    let known = (g.K.Ends.seen c.args.out.now).written in
    let inside : n < length bytes = omega (arith, c.plain_count-count.ensures.within, c.if-count-bytes.false) in
    c.in_ok-put_byte.ensures.all ∙ ap (λ k. append_known k (spaced_byte b)) c.in_ok-put.ensures.taken
    ∙ ap (λ l. append_known (append_known known l) (spaced_byte b)) (sym c.plain_count-count.ensures.plain)
    ∙ known_both known (spaced (take n bytes)) (spaced_byte b) ∙ ap (append_known known) (spaced_next bytes n b inside refl)
