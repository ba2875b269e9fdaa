use Rattle.std.proofs.Common.{◌≡◌, List, ℕ, sym, ap, ◌∙◌}
use Rattle.arc_io.specs.Areas.{part}
use Rattle.arc_io.specs.KeptCalls.{content_after}
use Rattle.arc_io.specs.declared.disk.Area.{Area}
use Rattle.arc_io.specs.declared.disk.Area.TheVariants.{A, B}
use Rattle.arc_io.proofs.Deeds.{content-sync, crash_sync, elapses}
use Rattle.arc_io.proofs.memory.disk.MemDiskDisk.sync.Goals as goal

pub invariant_of-self-in-Ok : goal.invariant_of-self-in-Ok
invariant_of-self-in-Ok c =
    let d = c.args.self.now in
    record {
      a_is = d.a_is ∙ sym (content-sync A c.args.area d.first_a.items d.past.items c.is_to_fail.new.calls) ∙ ap (content_after A d.first_a.items) (sym c.in-Ok.ensures);
      b_is = d.b_is ∙ sym (content-sync B c.args.area d.first_b.items d.past.items c.is_to_fail.new.calls) ∙ ap (content_after B d.first_b.items) (sym c.in-Ok.ensures);
    }

-- what stands in the area is what its calls made
same_part : (area : Area) (a b x y : List ℕ) → a ≡ x → b ≡ y → part area (record { a = x; b = y }) ≡ part area (record { a = a; b = b })
same_part A a b x y one two = sym one
same_part B a b x y one two = sym two

pub returns-in-Ok-clause-durable : goal.returns-in-Ok-clause-durable
returns-in-Ok-clause-durable c x left =
    let d = c.args.self.now in
    (crash_sync d.first_a.items d.first_b.items d.past.items c.keep_sync.new.past.items c.args.area c.is_to_fail.new.calls c.in-Ok.ensures x left).1
    ∙ same_part c.args.area d.a.items d.b.items _ _ d.a_is d.b_is

pub returns-in-Ok-clause-crash : goal.returns-in-Ok-clause-crash
returns-in-Ok-clause-crash c x left =
    let d = c.args.self.now in
    (crash_sync d.first_a.items d.first_b.items d.past.items c.keep_sync.new.past.items c.args.area c.is_to_fail.new.calls c.in-Ok.ensures x left).0

pub returns-in-Ok-clause-time : goal.returns-in-Ok-clause-time
returns-in-Ok-clause-time c =
    let d = c.args.self.now in
    elapses d.first_a.items d.first_b.items d.past.items c.keep_sync.new.past.items _ c.in-Ok.ensures _ _ _ _
