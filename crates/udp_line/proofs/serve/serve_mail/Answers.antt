use Rattle.std.proofs.Common.{◌≡◌, ◌+◌, ◌∷◌, ◌++◌, [], ℕ, List, take, length, Option, Err, refl, sym, ◌∙◌, ap, subst, arith, length-append}
use Rattle.arc_doors.specs.Mails.{TakesMail}
use Rattle.arc_io.specs.Seen.{PortSeen}
use Rattle.session_rules.proofs.Keeping.{kept_more, kept_self}
use Rattle.udp_line.specs.Datagrams.{EndsDatagram}
use Rattle.udp_line.specs.declared.mail_end.MailEnd.{MailEnd}
use Rattle.udp_line.proofs.Mailed.{last_ended, serves_none, serves_on, serves_last, takes_none, takes_more}
use Rattle.udp_line.proofs.serve.serve_mail.Goals as goal

pub datagrams-init : goal.datagrams-init
datagrams-init g c = record {
  kept = kept_self (g.H.Hall.seen c.args.hall.now) c.requires;
  done = record {
    given = [];
    taken = takes_none (g.M.Ends.seen c.args.mail.now).datagrams;
    count = refl;
    reads = omega arith;
    writes = omega arith;
    session = λ b h s. serves_none b h (g.H.Hall.seen c.args.hall.now) (g.M.Ends.seen c.args.mail.now) s (g.met.H.Hall.legal c.args.hall.now b h s);
  };
}

pub datagrams-preserved : goal.datagrams-preserved
datagrams-preserved g c =
    let old = c.datagrams.invariant in
    let told = rw c.in-Ok-Some.field-0-is at c.in-Ok-Some.ensures.told in
    let only = c.in_default.ensures.only in
    let bytes : List ℕ = take c.in-Ok-Some.size c.receive.new.buf in
    let p = g.M.Ends.seen c.args.mail.now in
    let q = g.M.Ends.seen c.datagrams.mail in
    let r = g.M.Ends.seen c.answer_datagram.new.mail in
    record {
      kept = kept_more old.kept c.in_default.ensures.kept;
      done = record {
        given = old.done.given ++ bytes ∷ [];
        taken = takes_more old.done.given bytes p.datagrams q.datagrams r.datagrams old.done.taken
            (subst (λ (o : Option (List (List ℕ))). TakesMail (bytes ∷ []) q.datagrams o) (sym (ap (λ (x : PortSeen). x.datagrams) only.rest)) told.mail);
        count = length-append old.done.given (bytes ∷ []) ∙ ap (λ n. n + 1) old.done.count;
        reads = omega (arith, old.done.reads, told.cause.later, ap (λ (x : PortSeen). x.read_faults) only.rest);
        writes = omega (arith, old.done.writes, ap (λ (x : PortSeen). x.write_faults) told.rest, only.later);
        session = λ b h s.
            let first = old.done.session b h s in
            serves_on b h bytes old.kept (g.met.M.Mailbox.no_stream c.args.mail.now) (g.met.M.Mailbox.no_stream c.answer_datagram.new.mail) told.rest first
            (c.in_default.ensures.answered b first.history first.holds);
      };
    }

pub returns-in-Err-answer_datagram-clause-mail : goal.returns-in-Err-answer_datagram-clause-mail
returns-in-Err-answer_datagram-clause-mail g c =
    let old = c.datagrams.invariant in
    let told = rw c.in-Ok-Some.field-0-is at c.in-Ok-Some.ensures.told in
    let only = c.in-Err-answer_datagram.ensures.only in
    let end = c.in-Err-answer_datagram.end in
    let bytes : List ℕ = take c.in-Ok-Some.size c.receive.new.buf in
    let p = g.M.Ends.seen c.args.mail.now in
    let q = g.M.Ends.seen c.datagrams.mail in
    let r = g.M.Ends.seen c.answer_datagram.new.mail in
    let given = old.done.given ++ bytes ∷ [] in
    let count : length given ≡ c.datagrams.counter + 1 = length-append old.done.given (bytes ∷ []) ∙ ap (λ n. n + 1) old.done.count in
    let from : (g.M.Ends.seen c.receive.new.self).write_faults ≡ q.write_faults = ap (λ (x : PortSeen). x.write_faults) told.rest in (
      given,
      record {
        taken = takes_more old.done.given bytes p.datagrams q.datagrams r.datagrams old.done.taken
            (subst (λ (o : Option (List (List ℕ))). TakesMail (bytes ∷ []) q.datagrams o) (sym (ap (λ (x : PortSeen). x.datagrams) only.rest)) told.mail);
        cause = last_ended end c.args.count (length given) p r c.in-Err-answer_datagram.ensures.ends (omega (arith, count, c.datagrams-test.true))
            (λ is. let rose = c.in-Err-answer_datagram.ensures.rose (ap Err is) in omega (arith, old.done.writes, from, rose));
      },
      λ b h s.
          let first = old.done.session b h s in
          serves_last b h bytes old.kept (g.met.M.Mailbox.no_stream c.args.mail.now) (g.met.M.Mailbox.no_stream c.answer_datagram.new.mail) told.rest end first
          (c.in-Err-answer_datagram.ensures.answered b first.history first.holds),
    )

pub returns-in-Err-answer_datagram-clause-read : goal.returns-in-Err-answer_datagram-clause-read
returns-in-Err-answer_datagram-clause-read g c is = absurd (subst (λ (e : MailEnd). EndsDatagram (Err e)) is c.in-Err-answer_datagram.ensures.ends)
