use Rattle.std.proofs.Common.{◌≡◌, ◌∙◌, inl, inr, refl, ap, rules}
use Rattle.std.specs.Prelude.{Some, Err, IsErr}
use Rattle.arc_data.specs.declared.event.Event.TheVariants.{Adopt, Start}
use Rattle.arc_io.proofs.Moments.{joined}
use Rattle.centre_rules.specs.Summary.{Summary}
use Rattle.centre_store.specs.Begins.{adopted_after, StandsWithin}
use Rattle.centre_store.proofs.Begun.{within_start, start_tells, started_stands, start_next, cause_of, on_err}
use Rattle.centre_store.proofs.Ordered.{order_on, order_past, before_on}
use Rattle.centre_store.proofs.store.Store.begin.Goals as goal

pub returns-in_err-enter-clause-any_moment : goal.returns-in_err-enter-clause-any_moment
returns-in_err-enter-clause-any_moment g c b h w up =
    joined (g.D.Disk.seen c.args.self.now.journal.disk) (g.D.Disk.seen c.adopt.new.self.journal.disk) (g.D.Disk.seen c.enter.new.self.journal.disk)
    (StandsWithin b h c.args.setup c.args.clock) _ (c.adopt.ensures.any_moment b h w up)
    (c.enter.ensures.any_moment b (adopted_after b h c.args.setup c.args.clock) (c.in_ok-adopt.ensures.adopted b h w)
    (λ f.
    let e = c.in_ok-adopt.ensures.down.0 f in
    cc))
    (λ x e. within_start b h c.args.setup c.args.clock x e)

pub returns-clause-any_moment : goal.returns-clause-any_moment
returns-clause-any_moment g c b h w up =
    joined (g.D.Disk.seen c.args.self.now.journal.disk) (g.D.Disk.seen c.adopt.new.self.journal.disk) (g.D.Disk.seen c.enter.new.self.journal.disk)
    (StandsWithin b h c.args.setup c.args.clock) _ (c.adopt.ensures.any_moment b h w up)
    (c.enter.ensures.any_moment b (adopted_after b h c.args.setup c.args.clock) (c.in_ok-adopt.ensures.adopted b h w)
    (λ f.
    let e = c.in_ok-adopt.ensures.down.0 f in
    cc))
    (λ x e. within_start b h c.args.setup c.args.clock x e)

pub returns-clause-begun : goal.returns-clause-begun
returns-clause-begun g c b h w =
    started_stands g.D.Disk.seen b c.enter.new.self (adopted_after b h c.args.setup c.args.clock) c.args.clock
    c.in_ok-enter.field-0.at c.in_ok-enter.field-0.reply
    (c.in_ok-enter.ensures.done b (adopted_after b h c.args.setup c.args.clock) 0 (c.in_ok-adopt.ensures.adopted b h w))

pub returns-in_err-enter-clause-cause : goal.returns-in_err-enter-clause-cause
returns-in_err-enter-clause-cause g c =
    let result = c.from_residual-in_err-enter.result in
    let on : result ≡ Err c.in_err-enter.field-0.0 = search rules in
    let text : c.enter.new.self.state.sum.text ≡ Some c.args.setup =
    ap (λ (s : Summary). s.text) c.in_err-enter.ensures.sum ∙ c.in_ok-adopt.ensures.text in
    cause_of g.D.Disk.seen c.enter.new.self c.args.setup c.args.clock Start result c.in_err-enter.field-0.0 on
    (start_next c.enter.new.self.state.sum.text c.args.setup text) c.in_err-enter.ensures.cause

pub returns-in_err-enter-clause-order : goal.returns-in_err-enter-clause-order
returns-in_err-enter-clause-order g c up =
    let result = c.from_residual-in_err-enter.result in
    let on : result ≡ Err c.in_err-enter.field-0.0 = search rules in
    record {
      adopt = λ other.
          let o = c.in_ok-adopt.ensures.order other in
          order_past g.D.Disk.seen c.args.self.now (Adopt c.args.setup) c.args.clock _ result c.in_ok-adopt.field-0 refl o.worn o.full;
      start = inr (record {
        between = c.adopt.new.self;
        adopted = record {
          stands = c.in_ok-adopt.ensures.adopted;
          same = c.adopt.ensures.in_force;
          written = c.in_ok-adopt.ensures.written;
          limits = c.adopt.ensures.limits;
          up = λ f.
              let e = c.in_ok-adopt.ensures.down.0 f in
              cc;
        };
        order = order_on g.D.Disk.seen c.adopt.new.self Start c.args.clock _ result c.in_err-enter.field-0.0 refl on
            c.in_err-enter.ensures.worn c.in_err-enter.ensures.full;
        before = before_on c.adopt.new.self c.enter.new.self result c.in_err-enter.field-0.0 on
            c.in_err-enter.ensures.entries c.in_err-enter.ensures.sum c.in_err-enter.ensures.unwritten;
      });
    }

pub returns-clause-order : goal.returns-clause-order
returns-clause-order g c up = record {
  adopt = λ other.
      let o = c.in_ok-adopt.ensures.order other in
      order_past g.D.Disk.seen c.args.self.now (Adopt c.args.setup) c.args.clock _ _ c.in_ok-adopt.field-0 refl o.worn o.full;
  start = inr (record {
    between = c.adopt.new.self;
    adopted = record {
      stands = c.in_ok-adopt.ensures.adopted;
      same = c.adopt.ensures.in_force;
      written = c.in_ok-adopt.ensures.written;
      limits = c.adopt.ensures.limits;
      up = λ f.
          let e = c.in_ok-adopt.ensures.down.0 f in
          cc;
    };
    order = order_past g.D.Disk.seen c.adopt.new.self Start c.args.clock _ _ c.in_ok-enter.field-0 refl c.in_ok-enter.ensures.worn
        c.in_ok-enter.ensures.full;
    before = record { entries = tt; sum = tt; unwritten = tt };
  });
}

pub returns-in_err-adopt-clause-stop : goal.returns-in_err-adopt-clause-stop
returns-in_err-adopt-clause-stop g c = on_err c.from_residual.result (λ b h w. inl (c.in_err-adopt.ensures.stop b h w))

pub returns-in_err-enter-clause-stop : goal.returns-in_err-enter-clause-stop
returns-in_err-enter-clause-stop g c =
    on_err c.from_residual-in_err-enter.result
    (λ b h w. inr (c.in_err-enter.ensures.stop b (adopted_after b h c.args.setup c.args.clock) (c.in_ok-adopt.ensures.adopted b h w)))

pub returns-in_err-enter-clause-met : goal.returns-in_err-enter-clause-met
returns-in_err-enter-clause-met g c b h w up =
    start_tells g.D.Disk.seen b c.enter.new.self.journal.disk h c.args.setup c.args.clock
    (c.enter.ensures.met b (adopted_after b h c.args.setup c.args.clock) (c.in_ok-adopt.ensures.adopted b h w)
    (λ f.
    let e = c.in_ok-adopt.ensures.down.0 f in
    cc))

pub returns-clause-met : goal.returns-clause-met
returns-clause-met g c b h w up =
    start_tells g.D.Disk.seen b c.enter.new.self.journal.disk h c.args.setup c.args.clock
    (c.enter.ensures.met b (adopted_after b h c.args.setup c.args.clock) (c.in_ok-adopt.ensures.adopted b h w)
    (λ f.
    let e = c.in_ok-adopt.ensures.down.0 f in
    cc))

pub returns-in_err-adopt-clause-order : goal.returns-in_err-adopt-clause-order
returns-in_err-adopt-clause-order g c up =
    let result = c.from_residual.result in
    let on : result ≡ Err c.in_err-adopt.field-0.0 = search rules in
    let stopped : IsErr result = search rules in
    record {
      adopt = λ other.
          let o = c.in_err-adopt.ensures.order other in
          order_on g.D.Disk.seen c.args.self.now (Adopt c.args.setup) c.args.clock _ result c.in_err-adopt.field-0.0 refl on o.worn o.full;
      start = inl (record {
        other = c.in_err-adopt.ensures.adopts refl up;
        stopped = stopped;
        stands = c.in_err-adopt.ensures.stop;
        before = before_on c.args.self.now c.adopt.new.self result c.in_err-adopt.field-0.0 on
            c.in_err-adopt.ensures.before.entries c.in_err-adopt.ensures.before.sum c.in_err-adopt.ensures.before.unwritten;
      });
    }
