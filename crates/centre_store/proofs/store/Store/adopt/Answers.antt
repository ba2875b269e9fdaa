use Rattle.std.proofs.Common.{◌≡◌, ◌∙◌, List, ℕ, rules, refl, ap, subst, sym}
use Rattle.std.specs.Prelude.{false, Err, IsOk}
use Rattle.arc_data.specs.declared.event.Event.TheVariants.{Adopt}
use Rattle.alarm_rules.specs.Setups.{setup_of}
use Rattle.centre_rules.specs.Summary.{Summary}
use Rattle.centre_store.specs.Begins.{is_in_force}
use Rattle.centre_store.specs.Bodies.{need_of}
use Rattle.centre_store.specs.Given.{summed_size}
use Rattle.centre_store.specs.Orders.{StopsInOrder}
use Rattle.centre_store.specs.Writes.{IsWrittenOn}
use Rattle.centre_store.proofs.Begun.{still_within, still_tells, adopt_within, adopt_tells, adopt_recorded, adopted_stands, known_force, adopt_next, cause_of}
use Rattle.centre_store.proofs.Ordered.{order_on, before_on}
use Rattle.centre_store.proofs.store.Store.adopt.Goals as goal

pub returns-in_err-enter-clause-cause : goal.returns-in_err-enter-clause-cause
returns-in_err-enter-clause-cause g c =
    let same : c.in-Ok.text ≡ c.args.setup.now = c.in-Ok.ensures ∙ c.text-bytes.ensures.value in
    let is : is_in_force c.args.self.now.state.sum.text c.args.setup.now ≡ false = sym c.has_in_force.ensures ∙ c.if-has_in_force.false in
    let other : is_in_force c.enter.new.self.state.sum.text c.args.setup.now ≡ false =
    ap (λ (s : Summary). is_in_force s.text c.args.setup.now) c.in_err-enter.ensures.sum ∙ is in
    let result = c.from_residual-in_err-enter.result in
    let on : result ≡ Err c.in_err-enter.field-0.0 = search rules in
    cause_of g.D.Disk.seen c.enter.new.self c.args.setup.now c.args.clock (Adopt c.in-Ok.text) result c.in_err-enter.field-0.0 on
    (adopt_next c.enter.new.self.state.sum.text c.args.setup.now other ∙ ap Adopt (sym same)) c.in_err-enter.ensures.cause

pub returns-then-has_in_force-clause-any_moment : goal.returns-then-has_in_force-clause-any_moment
returns-then-has_in_force-clause-any_moment g c b h w up =
    still_within g.D.Disk.seen b c.args.self.now h c.args.setup.now c.args.clock
    g.met.D.Disk.only_now up w

pub returns-in_err-check_count-clause-any_moment :
    goal.returns-in_err-check_count-clause-any_moment
returns-in_err-check_count-clause-any_moment g c b h w up =
    still_within g.D.Disk.seen b c.args.self.now h c.args.setup.now c.args.clock
    g.met.D.Disk.only_now up w

pub returns-in_default-clause-any_moment : goal.returns-in_default-clause-any_moment
returns-in_default-clause-any_moment g c b h w up =
    still_within g.D.Disk.seen b c.args.self.now h c.args.setup.now c.args.clock
    g.met.D.Disk.only_now up w

pub returns-in_err-enter-clause-any_moment : goal.returns-in_err-enter-clause-any_moment
returns-in_err-enter-clause-any_moment g c b h w up =
    let same : c.in-Ok.text ≡ c.args.setup.now = c.in-Ok.ensures ∙ c.text-bytes.ensures.value in
    let is : is_in_force c.args.self.now.state.sum.text c.args.setup.now ≡ false = sym c.has_in_force.ensures ∙ c.if-has_in_force.false in
    adopt_within g.D.Disk.seen b c.args.self.now c.enter.new.self.journal.disk h
    c.args.setup.now c.in-Ok.text c.args.clock same is w (c.enter.ensures.any_moment b h w up)

pub returns-clause-any_moment : goal.returns-clause-any_moment
returns-clause-any_moment g c b h w up =
    let same : c.in-Ok.text ≡ c.args.setup.now = c.in-Ok.ensures ∙ c.text-bytes.ensures.value in
    let is : is_in_force c.args.self.now.state.sum.text c.args.setup.now ≡ false = sym c.has_in_force.ensures ∙ c.if-has_in_force.false in
    adopt_within g.D.Disk.seen b c.args.self.now c.enter.new.self.journal.disk h
    c.args.setup.now c.in-Ok.text c.args.clock same is w (c.enter.ensures.any_moment b h w up)

pub returns-clause-adopted : goal.returns-clause-adopted
returns-clause-adopted g c b h w =
    let same : c.in-Ok.text ≡ c.args.setup.now = c.in-Ok.ensures ∙ c.text-bytes.ensures.value in
    let valid : IsOk (setup_of c.args.setup.now) = subst (λ (t : List ℕ). IsOk (setup_of t)) c.text-bytes.ensures.value c.text-bytes.ensures.valid in
    let is : is_in_force c.args.self.now.state.sum.text c.args.setup.now ≡ false = sym c.has_in_force.ensures ∙ c.if-has_in_force.false in
    adopted_stands g.D.Disk.seen b c.enter.new.self h c.args.setup.now c.in-Ok.text c.args.clock
    c.in_ok-enter.field-0.at c.in_ok-enter.field-0.reply same valid
    (known_force b c.args.self.now.state h c.args.setup.now false w.centre is) (c.in_ok-enter.ensures.done b h 0 w)

pub returns-in_err-enter-clause-before : goal.returns-in_err-enter-clause-before
returns-in_err-enter-clause-before g c =
    let result = c.from_residual-in_err-enter.result in
    let on : result ≡ Err c.in_err-enter.field-0.0 = search rules in
    before_on c.args.self.now c.enter.new.self result c.in_err-enter.field-0.0 on
    c.in_err-enter.ensures.entries c.in_err-enter.ensures.sum c.in_err-enter.ensures.unwritten

pub returns-then-has_in_force-clause-met : goal.returns-then-has_in_force-clause-met
returns-then-has_in_force-clause-met g c b h w up = still_tells g.D.Disk.seen b c.args.self.now h c.args.setup.now c.args.clock up w

pub returns-in_err-check_count-clause-met : goal.returns-in_err-check_count-clause-met
returns-in_err-check_count-clause-met g c b h w up = still_tells g.D.Disk.seen b c.args.self.now h c.args.setup.now c.args.clock up w

pub returns-in_default-clause-met : goal.returns-in_default-clause-met
returns-in_default-clause-met g c b h w up = still_tells g.D.Disk.seen b c.args.self.now h c.args.setup.now c.args.clock up w

pub returns-in_err-enter-clause-met : goal.returns-in_err-enter-clause-met
returns-in_err-enter-clause-met g c b h w up =
    let same : c.in-Ok.text ≡ c.args.setup.now = c.in-Ok.ensures ∙ c.text-bytes.ensures.value in
    let is : is_in_force c.args.self.now.state.sum.text c.args.setup.now ≡ false = sym c.has_in_force.ensures ∙ c.if-has_in_force.false in
    adopt_tells g.D.Disk.seen b c.args.self.now c.enter.new.self.journal.disk h
    c.args.setup.now c.in-Ok.text c.args.clock same is w (c.enter.ensures.met b h w up)

pub returns-clause-met : goal.returns-clause-met
returns-clause-met g c b h w up =
    let same : c.in-Ok.text ≡ c.args.setup.now = c.in-Ok.ensures ∙ c.text-bytes.ensures.value in
    let is : is_in_force c.args.self.now.state.sum.text c.args.setup.now ≡ false = sym c.has_in_force.ensures ∙ c.if-has_in_force.false in
    adopt_tells g.D.Disk.seen b c.args.self.now c.enter.new.self.journal.disk h
    c.args.setup.now c.in-Ok.text c.args.clock same is w (c.enter.ensures.met b h w up)

pub returns-clause-written : goal.returns-clause-written
returns-clause-written g c other b h w =
    let same : c.in-Ok.text ≡ c.args.setup.now = c.in-Ok.ensures ∙ c.text-bytes.ensures.value in
    let valid : IsOk (setup_of c.args.setup.now) = subst (λ (t : List ℕ). IsOk (setup_of t)) c.text-bytes.ensures.value c.text-bytes.ensures.valid in
    let recorded = adopt_recorded g.D.Disk.seen b c.enter.new.self h c.args.setup.now c.in-Ok.text c.args.clock
    c.in_ok-enter.field-0.at c.in_ok-enter.field-0.reply same valid (c.in_ok-enter.ensures.done b h 0 w) in
    subst (λ (t : List ℕ). IsWrittenOn c.args.self.now.journal c.enter.new.self.journal (summed_size b h) (need_of (Adopt t))) same
    (c.in_ok-enter.ensures.written b h w recorded)

pub returns-in_err-enter-clause-order : goal.returns-in_err-enter-clause-order
returns-in_err-enter-clause-order g c other =
    let same : c.in-Ok.text ≡ c.args.setup.now = c.in-Ok.ensures ∙ c.text-bytes.ensures.value in
    let result = c.from_residual-in_err-enter.result in
    let on : result ≡ Err c.in_err-enter.field-0.0 = search rules in
    subst (λ (t : List ℕ). StopsInOrder g.D.Disk.seen c.args.self.now (Adopt t) c.args.clock result) same
    (order_on g.D.Disk.seen c.args.self.now (Adopt c.in-Ok.text) c.args.clock _ result c.in_err-enter.field-0.0 refl on
    c.in_err-enter.ensures.worn c.in_err-enter.ensures.full)
