use Rattle.std.proofs.Common.{◌≡◌, ◌∙◌, ◌+◌, sym, ap, subst, arith}
use Rattle.std.specs.Prelude.{IfSome, IsOk}
use Rattle.alarm_rules.specs.Setups.{setup_of}
use Rattle.centre_core.specs.Taken.{IsFoundFor, sum_of}
use Rattle.arc_data.specs.declared.event.Event.{Event}
use Rattle.centre_rules.specs.State.{State}
use Rattle.centre_core.specs.Kept.{MayRecord, Records}
use Rattle.centre_core.specs.contracts.centre.Centre.{the_view}
use Rattle.centre_core.proofs.Kept.{may_take, no_adopt, records_adopted, records_taken, valid_adopted, counts_up, counts_taken}
use Rattle.centre_core.proofs.centre.Centre.record.Goals as goal

pub returns-in-Adopt : goal.returns-in-Adopt
returns-in-Adopt c =
    let s = c.args.self.now in
    let may = subst (λ (e : Event). MayRecord s e c.args.at c.args.reply.now c.args.setup c.args.carried.now) c.in-Adopt.is c.requires.may in
    let t : State =
    the_view (record c.self.inside { recorded = c.self.inside.recorded + 1; last = c.args.at; accounts = c.adopt.new.self; queued = c.adopt-in-Adopt.new.self }) in
    let text = c.adopt.ensures.text ∙ sym c.in-Some.is in
    let sum : sum_of c.args.at (c.self.inside.recorded + 1) c.adopt.new.self.text c.adopt.new.self.rows c.adopt-in-Adopt.new.self
    ≡ sum_of c.args.at (c.self.inside.recorded + 1) c.args.setup c.self.inside.accounts.rows c.adopt-in-Adopt.new.self =
    λ i. sum_of c.args.at (c.self.inside.recorded + 1) (text i) (c.adopt.ensures.rows i) c.adopt-in-Adopt.new.self in
    subst (λ (e : Event). Records s t e c.args.at c.args.reply.now) (sym c.in-Adopt.is)
    (records_adopted s t c.in-Adopt.text c.args.at c.args.reply.now c.args.setup c.args.carried.now c.self.inside.accounts.rows c.self.inside.queued c.adopt-in-Adopt.new.self c.self.inside.last c.self.inside.recorded c.self.inside.accounts.text
    may (c.adopt-in-Adopt.ensures.marked c.in-Adopt.text) (ap (λ (x : State). x.sum) (sym c.self.view_is)) (ap (λ (x : State). x.entries) c.self.view_is) sum)

pub invariant_of-self : goal.invariant_of-self
invariant_of-self c =
    let may = subst (λ (e : Event). MayRecord c.args.self.now e c.args.at c.args.reply.now c.args.setup c.args.carried.now) c.in-Adopt.is c.requires.may in
    record {
      few = omega (arith, c.requires.may.count, ap (λ (x : State). x.entries) c.self.view_is, ap (λ (x : State). x.sum.recorded) c.self.view_is);
      bound = c.self.invariant.bound;
      moment = c.requires.may.moment;
      valid = subst (λ o. IfSome o (λ x. IsOk (setup_of x))) (c.in-Some.is ∙ sym c.adopt.ensures.text) (valid_adopted c.args.setup c.in-Adopt.text may.setup);
      counts = counts_up c.self.inside.recorded c.adopt-in-Adopt.new.self.opened c.adopt-in-Adopt.new.self.incidents (c.adopt-in-Adopt.ensures.few _ c.self.invariant.counts);
      acts = c.adopt-in-Adopt.ensures.room c.self.invariant.acts;
    }

pub mark-requires : goal.mark-requires
mark-requires c = record {
  other = no_adopt c.args.event c.in_default.not-Adopt;
  found = subst (λ (x : State). IsFoundFor c.args.event c.args.found x.sum.text x.sum.rows) (sym c.self.view_is) c.requires.found;
  may = may_take c.args.self.now c.args.event c.args.at c.args.reply.now c.args.setup c.args.carried.now c.self.inside.accounts.rows c.self.inside.queued c.self.inside.entries c.self.inside.last c.self.inside.recorded c.self.inside.accounts.text
      c.requires.may (ap (λ (x : State). x.sum) (sym c.self.view_is)) (ap (λ (x : State). x.rooms) (sym c.self.view_is)) c.self.invariant;
}

pub invariant_of-self-2 : goal.invariant_of-self-2
invariant_of-self-2 c =
    record {
      few = omega (arith, c.requires.may.count, ap (λ (x : State). x.entries) c.self.view_is, ap (λ (x : State). x.sum.recorded) c.self.view_is);
      bound = c.self.invariant.bound;
      moment = c.requires.may.moment;
      valid = subst (λ o. IfSome o (λ x. IsOk (setup_of x))) (sym c.mark.ensures.text) c.self.invariant.valid;
      counts = counts_taken c.self.inside.recorded c.mark.new.table.opened c.mark.new.table.incidents (c.mark.ensures.taken.few _ c.self.invariant.counts);
      acts = c.mark.ensures.taken.acts c.self.invariant.acts;
    }

pub returns : goal.returns
returns c =
    records_taken c.args.self.now _ c.args.event c.args.at c.args.reply.now c.args.setup c.args.carried.now c.self.inside.accounts.rows c.mark.new.accounts.rows c.self.inside.queued c.mark.new.table c.self.inside.last c.self.inside.recorded c.self.inside.accounts.text
    c.requires.may (ap (λ (x : State). x.sum) (sym c.self.view_is)) (ap (λ (x : State). x.entries) c.self.view_is)
    (ap (λ o. sum_of c.args.at (c.self.inside.recorded + 1) o c.mark.new.accounts.rows c.mark.new.table) c.mark.ensures.text) c.mark.ensures.taken
