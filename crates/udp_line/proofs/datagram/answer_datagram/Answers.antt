use Rattle.std.proofs.Common.{ℕ, List, ◌∙◌, subst}
use Rattle.session_rules.specs.Sessions.{answered}
use Rattle.udp_line.specs.Datagrams.{SendsText}
use Rattle.udp_line.proofs.Lettered.{ends_by, sends_by}
use Rattle.udp_line.proofs.datagram.answer_datagram.Goals as goal

pub returns-in-Ok-clause-answered : goal.returns-in-Ok-clause-answered
returns-in-Ok-clause-answered g c b h s =
    let fed = c.in-Ok.ensures.fed b h s in
    let q = g.M.Ends.seen c.fill.new.mail in
    let r = g.M.Ends.seen c.send.new.mail in
    record {
      end = answered;
      fed = q;
      session = fed.session;
      only = c.send.ensures.only.rest;
      sends = subst (λ (text : List ℕ). SendsText c.send.result answered text q r) (c.deref.ensures.value ∙ fed.written)
          (sends_by c.send.result c.deref.result.now q r c.send.ensures.sent c.send.ensures.fault);
    }

pub returns-in-Ok-clause-ends : goal.returns-in-Ok-clause-ends
returns-in-Ok-clause-ends g c = ends_by c.send.result c.send.ensures.ends
