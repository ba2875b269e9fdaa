use Rattle.std.proofs.Common.{◌≡◌, List, ℕ, inl, inr, length, ap, subst, sym, ◌∙◌, arith}
use Rattle.std.proofs.lemmas.Bool.{false≢true}
use Rattle.arc_data.specs.declared.event.Event.{Event}
use Rattle.centre_core.proofs.Applied.{not_quiet}
use Rattle.disk_journal.specs.Records.{MayHave}
use Rattle.disk_journal.specs.declared.journal.Limits.{Limits}
use Rattle.arc_data.specs.WellFormed.{IsWellFormed}
use Rattle.centre_rules.specs.History.{IsMoment}
use Rattle.event_codec.specs.Spelling.{IsKept, spelling}
use Rattle.centre_store.proofs.Bodies.{body_size}
use Rattle.centre_store.proofs.Gathered.{room_pushed}
use Rattle.centre_store.proofs.gather.lay.Goals as goal

pub returns-in-Ok-push_vec-clause-room : goal.returns-in-Ok-push_vec-clause-room
returns-in-Ok-push_vec-clause-room g c =
    let body : List ℕ = c.encode.new.out.items in
    let event = c.args.ready.now.event in
    let at = c.args.ready.now.at in
    let is : body ≡ spelling event at =
    c.in-Ok.ensures.spelled ∙ ap (λ (x : Event). spelling x c.at.result) c.event.ensures ∙ ap (spelling event) c.at.ensures.at in
    let limits = c.limits.ensures in
    room_pushed c.args.journal.now c.reserve.new.self c.args.bodies.now c.push_vec.new.self body _ c.reserve.ensures.same c.requires.room
    (subst (λ (l : List ℕ). MayHave (length l)) (sym is) (body_size event at c.requires.formed))
    c.in-Ok-push_vec.ensures
    (omega (arith, c.need_of.ensures, c.len.ensures))
    c.in-Ok-reserve.ensures.room
    (λ over. false≢true (c.if-are_over.ensures.1 (elim over [
      | inl bytes ↦ inl (omega (arith, bytes, c.used.ensures, ap (λ (x : Limits). x.bytes) limits))
      | inr records ↦ inr (omega (arith, records, c.records.ensures, c.count.ensures, ap (λ (x : Limits). x.records) limits))
    ])))

pub encode-requires : goal.encode-requires
encode-requires g c = record {
  kept = subst IsKept (sym c.event.ensures) (c.requires.kept (not_quiet _ _ c.quiet.ensures c.if-quiet.false));
  well_formed = subst IsWellFormed (sym c.event.ensures) c.requires.formed;
  moment = c.at.ensures.moment;
}

pub returns-in-Ok-push_vec-clause-spelled : goal.returns-in-Ok-push_vec-clause-spelled
returns-in-Ok-push_vec-clause-spelled g c recorded = record {
  kept = c.requires.kept recorded;
  well_formed = c.requires.formed;
  moment = subst IsMoment c.at.ensures.at c.at.ensures.moment;
}
