-- The rows were opened at moments.
use Rattle.std.proofs.Common.{List, sym, subst}
use Rattle.std.specs.Prelude.{IfSome}
use Rattle.std.specs.List.{find}
use Rattle.std.specs.Str.{bytes_eq}
use Rattle.arc_data.specs.Moments.{IsMoment}
use Rattle.centre_rules.specs.Summary.{AccountRow, row_or}
use Rattle.centre_core.proofs.Decoded.{opened_rows}
use Rattle.centre_core.proofs.decoding.accounts_of.Goals as goal

pub of-requires : goal.of-requires
of-requires c account =
    let start = c.in_ok-rows.rows.start in
    subst (λ (l : List AccountRow). IfSome (row_or (find (λ (r : AccountRow). bytes_eq r.account account) l) account start).opening (λ o. IsMoment o.at)) (sym c.in_ok-rows.ensures.rows)
    (opened_rows c.args.head.now.last start c.args.rows.items account c.requires.moment c.requires.fine.each)
