use Rattle.std.proofs.Common.{◌≡◌, ◌⊎◌, List, [], ◌∷◌, ◌++◌, length, drop, Some, None, Ok, inl, inr, arith, refl, sym, ap, subst, ◌∙◌}
use Rattle.centre_rules.specs.History.{Entry}
use Rattle.centre_rules.specs.Summary.{Summary}
use Rattle.centre_core.proofs.Applied.{text_stays}
use Rattle.centre_core.specs.declared.ready.Done.{Done}
use Rattle.centre_store.specs.Calls.{Submission}
use Rattle.centre_core.specs.declared.hall.Stop.TheVariants.{Memory, Full}
use Rattle.centre_store.specs.Bodies.{need_of}
use Rattle.centre_store.specs.Given.{summed_size}
use Rattle.centre_store.specs.Groups.{IsBatch, IsFullStop}
use Rattle.centre_store.specs.Stores.{StoreStands, IsDown}
use Rattle.centre_store.proofs.Batches.{batch_rest}
use Rattle.centre_store.proofs.Filled.{no_bodies, none_written, alone_written, full_alone, stop_then, never_empty, if_some}
use Rattle.centre_store.proofs.Ordered.{never_stopped}
use Rattle.centre_store.proofs.Together.{none_together, first_dones, first_stands, first_together, first_to_record, first_may}
use Rattle.centre_store.proofs.Together.{none_by, one_by, none_dones, none_with, none_off, shows_some, group_shows, never_none, then_down, up_of, other_stop}
use Rattle.centre_store.proofs.store.Store.submit_first.Goals as goal

-- There was no memory.

pub returns-in_default-clause-together : goal.returns-in_default-clause-together
returns-in_default-clause-together g c b h w =
    none_together g.D.Disk.seen g.met.D.Disk.only_now b h c.args.self.now c.args.self.now refl c.requires.up w c.args.caller c.args.batch.now
    c.args.batch.now refl
    (length c.stopped.result.done) c.stopped.result.stop (ap length c.stopped.ensures.done)

-- It has its entry.

pub invariant_of-batch : goal.invariant_of-batch
invariant_of-batch g c = subst IsBatch (sym c.pop_front.ensures.rest) (batch_rest 1 c.batch.inside.calls.items c.batch.invariant)

pub returns-in-Ok-enter_alone-clause-done : goal.returns-in-Ok-enter_alone-clause-done
returns-in-Ok-enter_alone-clause-done g c up b h w =
    let made : Done = record { caller = c.args.caller; at = c.in-Ok-enter_alone.made.at; reply = c.in-Ok-enter_alone.made.reply } in
    let are : c.push_reserved.new.self.items ≡ made ∷ [] =
    c.push_reserved.ensures.items ∙ ap (λ (l : List Done). l ++ made ∷ []) (c.reserve.ensures.items ∙ c.done.view_is ∙ c.new-done.ensures) in
    first_dones g.D.Disk.seen c.args.caller b h c.in-Some.first c.args.batch.now c.pop_front.new.self.items (sym c.batch.view_is ∙ c.in-Some.ensures.items)
    c.enter_alone.new.self c.push_reserved.new.self.items c.in-Ok-enter_alone.made.at c.in-Ok-enter_alone.made.reply are
    (c.in-Ok-enter_alone.ensures.done b h c.args.caller w)

pub returns-in-Ok-enter_alone-clause-stands : goal.returns-in-Ok-enter_alone-clause-stands
returns-in-Ok-enter_alone-clause-stands g c up b h w =
    let made : Done = record { caller = c.args.caller; at = c.in-Ok-enter_alone.made.at; reply = c.in-Ok-enter_alone.made.reply } in
    let are : c.push_reserved.new.self.items ≡ made ∷ [] =
    c.push_reserved.ensures.items ∙ ap (λ (l : List Done). l ++ made ∷ []) (c.reserve.ensures.items ∙ c.done.view_is ∙ c.new-done.ensures) in
    first_stands g.D.Disk.seen c.args.caller b h c.in-Some.first c.args.batch.now c.pop_front.new.self.items (sym c.batch.view_is ∙ c.in-Some.ensures.items)
    c.enter_alone.new.self (length c.push_reserved.new.self.items) c.in-Ok-enter_alone.made.at c.in-Ok-enter_alone.made.reply (ap length are)
    (c.in-Ok-enter_alone.ensures.done b h c.args.caller w)

pub returns-in-Ok-enter_alone-clause-by : goal.returns-in-Ok-enter_alone-clause-by
returns-in-Ok-enter_alone-clause-by g c =
    one_by c.args.caller c.push_reserved.new.self.items c.in-Ok-enter_alone.made.at c.in-Ok-enter_alone.made.reply
    (c.push_reserved.ensures.items
    ∙ ap (λ (l : List Done). l ++ record { caller = c.args.caller; at = c.in-Ok-enter_alone.made.at; reply = c.in-Ok-enter_alone.made.reply } ∷ [])
    (c.reserve.ensures.items ∙ c.done.view_is ∙ c.new-done.ensures))

pub returns-in-Ok-enter_alone-clause-written : goal.returns-in-Ok-enter_alone-clause-written
returns-in-Ok-enter_alone-clause-written g c up b h w =
    let made : Done = record { caller = c.args.caller; at = c.in-Ok-enter_alone.made.at; reply = c.in-Ok-enter_alone.made.reply } in
    let are : c.push_reserved.new.self.items ≡ made ∷ [] =
    c.push_reserved.ensures.items ∙ ap (λ (l : List Done). l ++ made ∷ []) (c.reserve.ensures.items ∙ c.done.view_is ∙ c.new-done.ensures) in
    alone_written g.D.Disk.seen c.args.self.now c.enter_alone.new.self c.args.caller b h c.in-Some.first c.args.batch.now c.pop_front.new.self.items
    (length c.push_reserved.new.self.items) (sym c.batch.view_is ∙ c.in-Some.ensures.items) (ap length are) c.requires.first
    (c.in-Ok-enter_alone.ensures.written b h w)
    (λ over. never_stopped (Ok c.in-Ok-enter_alone.made) c.in-Ok-enter_alone.made refl (c.in-Ok-enter_alone.ensures.full b h w over))

pub returns-in-Ok-enter_alone-clause-together : goal.returns-in-Ok-enter_alone-clause-together
returns-in-Ok-enter_alone-clause-together g c b h w =
    let made : Done = record { caller = c.args.caller; at = c.in-Ok-enter_alone.made.at; reply = c.in-Ok-enter_alone.made.reply } in
    let are : c.push_reserved.new.self.items ≡ made ∷ [] =
    c.push_reserved.ensures.items ∙ ap (λ (l : List Done). l ++ made ∷ []) (c.reserve.ensures.items ∙ c.done.view_is ∙ c.new-done.ensures) in
    let split : c.args.batch.now ≡ c.in-Some.first ∷ c.pop_front.new.self.items = sym c.batch.view_is ∙ c.in-Some.ensures.items in
    first_together g.D.Disk.seen c.args.caller b h c.in-Some.first c.args.batch.now c.pop_front.new.self.items split c.args.self.now c.enter_alone.new.self
    (first_to_record g.D.Disk.seen c.args.caller b h c.in-Some.first c.args.batch.now c.pop_front.new.self.items split c.args.self.now c.requires.first w)
    (c.in-Ok-enter_alone.ensures.spelled b h w) (c.enter_alone.ensures.any_moment b h w) (c.enter_alone.ensures.met b h w)
    c.pop_front.new.self.items refl (length c.push_reserved.new.self.items) None (λ _. ap length are)

pub returns-in-Ok-enter_alone-clause-text : goal.returns-in-Ok-enter_alone-clause-text
returns-in-Ok-enter_alone-clause-text g c =
    text_stays c.args.self.now.state c.enter_alone.new.self.state
    (record { caller = 0; event = c.in-Some.first.event; at = c.in-Ok-enter_alone.made.at; reply = c.in-Ok-enter_alone.made.reply })
    (first_may c.batch.inside.calls.items c.pop_front.new.self.items c.in-Some.first c.batch.invariant c.in-Some.ensures.items).submitted
    c.in-Ok-enter_alone.ensures.grows

-- The disk failed.

pub invariant_of-batch-in-Down : goal.invariant_of-batch-in-Down
invariant_of-batch-in-Down g c = subst IsBatch (sym c.pop_front.ensures.rest) (batch_rest 1 c.batch.inside.calls.items c.batch.invariant)

pub returns-in-Down-clause-cut : goal.returns-in-Down-clause-cut
returns-in-Down-clause-cut g c down = (1, c.pop_front.ensures.rest ∙ ap (drop 1) c.batch.view_is)

pub returns-in-Down-clause-together : goal.returns-in-Down-clause-together
returns-in-Down-clause-together g c b h w =
    let split : c.args.batch.now ≡ c.in-Some.first ∷ c.pop_front.new.self.items = sym c.batch.view_is ∙ c.in-Some.ensures.items in
    let down : IsDown c.in-Err.stop = subst IsDown (sym c.in-Down.is) tt in
    first_together g.D.Disk.seen c.args.caller b h c.in-Some.first c.args.batch.now c.pop_front.new.self.items split c.args.self.now c.enter_alone.new.self
    (first_to_record g.D.Disk.seen c.args.caller b h c.in-Some.first c.args.batch.now c.pop_front.new.self.items split c.args.self.now c.requires.first w)
    (c.in-Err.ensures.torn down b h w) (c.enter_alone.ensures.any_moment b h w) (c.enter_alone.ensures.met b h w)
    c.pop_front.new.self.items refl (length c.stopped-in-Down.result.done) c.stopped-in-Down.result.stop
    (λ up. absurd (up (then_down c.stopped-in-Down.result.stop c.in-Err.stop c.stopped-in-Down.ensures.stop down)))

-- Another stop.

pub returns : goal.returns
returns g c =
    let old = c.args.self.now in
    let new = c.enter_alone.new.self in
    let calls = c.args.batch.now in
    let rest = c.pop_front.new.self.items in
    let left = c.push_front_reserved.new.self.items in
    let stop = c.in-Err.stop in
    let done = c.stopped-in_default-stop.result.done in
    let none : done ≡ [] = c.stopped-in_default-stop.ensures.done in
    let count : length done ≡ 0 = ap length none in
    let stop_is : c.stopped-in_default-stop.result.stop ≡ Some stop = c.stopped-in_default-stop.ensures.stop in
    let up : IsDown stop → ⊥ = up_of stop c.in_default-stop.not-Down in
    let back : c.in-Err.first ≡ c.in-Some.first = c.in-Err.ensures.back in
    let split : left ≡ c.in-Some.first ∷ rest = c.push_front_reserved.ensures.items ∙ ap (λ (x : Submission). x ∷ rest) back in
    let same : left ≡ calls = split ∙ sym c.in-Some.ensures.items ∙ c.batch.view_is in
    record {
      done = λ _ b h w. none_dones c.args.caller b h calls done none;
      stands = λ _ b h w. none_with (λ (x : List Entry). StoreStands g.D.Disk.seen b new x) c.args.caller b h calls (length done) count (c.in-Err.ensures.stop b h w);
      within = omega (arith, count);
      off = λ _. none_off calls left (length done) count same;
      entries = λ _. omega (arith, c.in-Err.ensures.entries, count);
      none = λ _. none;
      by = none_by c.args.caller done none;
      cut = λ _. (0, same);
      cause = shows_some g.D.Disk.seen new left c.stopped-in_default-stop.result.stop stop stop_is
          (group_shows g.D.Disk.seen new stop c.in-Some.first rest left split c.in-Err.ensures.cause);
      written = λ _ b h w.
          inl (none_written old.journal new.journal _ (no_bodies c.args.caller b h calls (length done) count) (c.in-Err.ensures.unwritten up));
      full = full_alone g.D.Disk.seen old c.in-Some.first calls rest c.stopped-in_default-stop.result.stop (sym c.batch.view_is ∙ c.in-Some.ensures.items)
          (λ b h w over. stop_then c.stopped-in_default-stop.result.stop stop Memory (Full (summed_size b h) (need_of c.in-Some.first.event) 0) stop_is
          (c.in-Err.ensures.full b h w over));
      first = if_some (λ s. IsFullStop s → done ≡ []) c.stopped-in_default-stop.result.stop stop stop_is (λ _. none);
      stopped = if_some (λ s. IsDown s ⊎ (left ≡ [] → ⊥)) c.stopped-in_default-stop.result.stop stop stop_is
          (inr (never_empty left c.in-Some.first rest split));
      one = λ last. absurd (never_none c.stopped-in_default-stop.result.stop stop stop_is last);
      down = other_stop g.D.Disk.seen new c.stopped-in_default-stop.result.stop stop stop_is up c.in-Err.ensures.down;
      together = λ b h w. none_together g.D.Disk.seen g.met.D.Disk.only_now b h old new (c.in-Err.ensures.unwritten up) c.requires.up w c.args.caller calls
          left same (length done) c.stopped-in_default-stop.result.stop count;
      tells = c.enter_alone.ensures.tells;
      at_open = c.enter_alone.ensures.at_open;
      limits = c.enter_alone.ensures.limits;
      text = ap (λ (x : Summary). x.text) c.in-Err.ensures.sum;
      later = c.enter_alone.ensures.later;
    }
