use Rattle.std.proofs.Common.{refl, ◌∙◌, arith}
use Rattle.centre_store.specs.Followings.{ShowsOfReplay}
use Rattle.mirror_centre.proofs.Turns.{followed_by, so_more, so_none}
use Rattle.mirror_centre.proofs.asking.follow.Goals as goal

pub answers-init : goal.answers-init
answers-init g c = record {
  few = omega arith;
  count = omega arith;
  not_ended = c.requires.not_ended;
  so = λ b h s. (h, s, so_none b h (g.P.Ends.seen c.args.port.now));
  at_open = refl;
  limits = refl;
  later = omega arith;
}

pub answers-preserved : goal.answers-preserved
answers-preserved g c =
    let seen = g.D.Disk.seen in
    let old = c.answers.invariant in
    let e = c.in-Ok.ensures in
    let p = g.P.Ends.seen c.args.port.now in
    let q = g.P.Ends.seen c.answers.port in
    let r = g.P.Ends.seen c.take_one.new.port in
    record {
      few = e.few;
      count = omega (arith, e.some, old.count);
      not_ended = e.not_ended;
      so = λ b h s.
          let went = old.so b h s in
          let t = e.turn b went.0 went.1 in
          (t.history, t.stands, so_more seen b h went.0 c.take_one.new.mirror c.answers.after c.answers.taken c.in-Ok.size p q r went.2 t);
      at_open = e.at_open ∙ old.at_open;
      limits = e.limits ∙ old.limits;
      later = omega (arith, e.later, old.later);
    }

pub returns-in-Err : goal.returns-in-Err
returns-in-Err g c =
    let seen = g.D.Disk.seen in
    let old = c.answers.invariant in
    let e = c.in-Err.ensures in
    let p = g.P.Ends.seen c.args.port.now in
    let q = g.P.Ends.seen c.answers.port in
    let r = g.P.Ends.seen c.take_one.new.port in
    record {
      followed = λ b h s.
          let went = old.so b h s in
          let n = e.none b went.0 went.1 in
          (went.0, n.0, followed_by (λ body stop. ShowsOfReplay seen c.take_one.new.mirror body stop) c.in-Err.end b h went.0 c.answers.after c.answers.taken p q r went.2 n.1);
      at_open = e.at_open ∙ old.at_open;
      limits = e.limits ∙ old.limits;
      later = omega (arith, e.later, old.later);
    }
