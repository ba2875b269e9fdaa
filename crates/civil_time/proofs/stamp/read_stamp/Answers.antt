use Rattle.std.proofs.Common.{◌≡◌, true, ◌∙◌, sym}
use Rattle.std.proofs.lemmas.Slice.Eq.{slice_eq-Decides}
use Rattle.std.proofs.lemmas.Bool.Decides.{Decides-eqb}
use Rattle.civil_time.proofs.StampLemmas.{stamp_time-complete, stamp_time-none}
use Rattle.civil_time.proofs.stamp.read_stamp.Goals as goal

pub returns-in_err-moment-clause-value : goal.returns-in_err-moment-clause-value
returns-in_err-moment-clause-value c =
    c.from_residual.ensures ∙ sym (stamp_time-none c.args.bytes.now (λ t moment is. cc (c.in_err-moment.ensures.only t moment is)))

pub returns-then-eq-clause-value : goal.returns-then-eq-clause-value
returns-then-eq-clause-value c =
    let decides = slice_eq-Decides Decides-eqb _ _ _ c.eq.ensures in
    let same = decides.0 c.if-eq.true in
    sym (stamp_time-complete c.in_ok-moment.moment c.args.bytes.now (record { moment = c.in_ok-moment.ensures.moment; text = sym same ∙ c.as_slice.ensures ∙ c.stamp_of.ensures }))

pub returns-else-eq-clause-value : goal.returns-else-eq-clause-value
returns-else-eq-clause-value c =
    let decides = slice_eq-Decides Decides-eqb _ _ _ c.eq.ensures in
    sym (stamp_time-none c.args.bytes.now (λ t moment is.
    let only : c.in_ok-moment.moment ≡ t = cc (c.in_ok-moment.ensures.only t moment is) in
    let same : c.eq.result ≡ true = decides.1 (c.as_slice.ensures ∙ c.stamp_of.ensures ∙ rw only (sym is)) in
    cc (same, c.if-eq.false)))
