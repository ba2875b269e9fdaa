use Rattle.std.proofs.Common.{take, drop, ap, ◌∙◌, arith}
use Rattle.std.specs.Io.KnownBytes.{append_known}
use Rattle.std.proofs.lemmas.List.{take_rest}
use Rattle.arc_io.proofs.KnownMore.{known_both}
use Rattle.arc_script.specs.Pages.{spaced}
use Rattle.arc_script.proofs.Spaced.{only_both, spaced_more}
use Rattle.arc_script.proofs.replies.put_spaced.Goals as goal

pub loop-at-preserved : goal.loop-at-preserved
loop-at-preserved g c =
    let frames = c.args.frames.now in
    let i = c.loop-at.at in
    let n = c.in_ok-at.field-0 in
    let known = (g.K.Ends.seen c.args.out.now).written in
    let put = c.in_ok-at.ensures in
    record {
      within = omega (arith, put.within);
      put = put.all ∙ ap (λ l. append_known (g.K.Ends.seen c.loop-at.out).written (spaced (take n l))) (take_rest frames i)
          ∙ ap (λ k. append_known k (spaced (take n (drop i frames)))) c.loop-at.invariant.put
          ∙ known_both known (spaced (take i frames)) (spaced (take n (drop i frames))) ∙ ap (append_known known) (spaced_more frames i n);
      only = only_both c.loop-at.invariant.only put.only;
    }
