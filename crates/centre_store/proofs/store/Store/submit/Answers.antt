use Rattle.centre_core.proofs.Applied.{text_stays}
use Rattle.centre_store.proofs.store.Store.submit.Goals as goal

pub returns-clause-done : goal.returns-clause-done
returns-clause-done g c b h w = c.in_ok-done.ensures.done b h c.args.caller w

pub returns-clause-text : goal.returns-clause-text
returns-clause-text g c =
    text_stays c.args.self.now.state c.enter.new.self.state (record { caller = 0; event = c.args.event; at = c.in_ok-done.done.at; reply = c.in_ok-done.done.reply })
    c.requires.submitted c.in_ok-done.ensures.grows

pub returns-clause-submits : goal.returns-clause-submits
returns-clause-submits g c up few = record {
  formed = c.requires.formed;
  moment = c.requires.clock;
  few = few;
  any_moment = λ b h w. c.enter.ensures.any_moment b h w up;
  met = λ b h w. c.enter.ensures.met b h w up;
  unrecorded = c.enter.ensures.unrecorded;
}

pub returns-in_err-done-clause-submits : goal.returns-in_err-done-clause-submits
returns-in_err-done-clause-submits g c up few = record {
  formed = c.requires.formed;
  moment = c.requires.clock;
  few = few;
  any_moment = λ b h w. c.enter.ensures.any_moment b h w up;
  met = λ b h w. c.enter.ensures.met b h w up;
  unrecorded = c.enter.ensures.unrecorded;
}

pub returns-clause-enters : goal.returns-clause-enters
returns-clause-enters g c up = record {
  submits = returns-clause-submits g c up c.in_ok-done.ensures.few;
  at = c.in_ok-done.done.at;
  reply = c.in_ok-done.done.reply;
  takes = λ b h w. c.in_ok-done.ensures.done b h 0 w;
  up = λ f.
      let e = c.in_ok-done.ensures.down.0 f in
      cc;
}
