use Rattle.std.proofs.Common.{[], sym, subst}
use Rattle.alarm_rules.specs.Setups.{meaning, key_of}
use Rattle.arc_data.specs.Digits.{capitals}
use Rattle.dc09_frame.specs.Frames.{frame_of}
use Rattle.dc09_frame.specs.Headers.{echo_body}
use Rattle.dc09_frame.specs.declared.header.Echo.TheVariants.{Ack}
use Rattle.arc_io.specs.Seen.{PortSeen}
use Rattle.arc_io.specs.Told.{Puts}
use Rattle.arc_io.proofs.Adding.{noise_none}
use Rattle.line_session.proofs.Turned.{plain_ack}
use Rattle.line_session.proofs.reply.acknowledge.Goals as goal

pub returns-then-not-header-clause-sent : goal.returns-then-not-header-clause-sent
returns-then-not-header-clause-sent g c =
    let h = c.args.header.now in
    record {
      taken = [];
      reply = frame_of (echo_body Ack h);
      ack = plain_ack h.sealed (key_of (meaning (g.H.Hall.seen c.args.hall.now).text) (capitals h.account)) h c.args.reading c.if-not-header.true;
      put = subst (λ (p : PortSeen). Puts p (g.P.Ends.seen c.send.new.port) c.send.result (frame_of (echo_body Ack h))) (sym (noise_none (g.P.Ends.seen c.args.port.now)))
          (subst (Puts _ _ c.send.result) c.write_echo.ensures.frame c.send.ensures.told);
    }
