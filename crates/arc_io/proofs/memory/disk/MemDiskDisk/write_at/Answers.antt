use Rattle.std.proofs.Common.{◌≡◌, ◌≤◌, List, ℕ, length, sym, ap, subst, ◌∙◌}
use Rattle.arc_io.specs.Areas.{part}
use Rattle.arc_io.specs.KeptCalls.{content_after, written_in}
use Rattle.arc_io.specs.declared.disk.Area.{Area}
use Rattle.arc_io.specs.declared.disk.Area.TheVariants.{A, B}
use Rattle.arc_io.proofs.Deeds.{content-write, crash_write, elapses}
use Rattle.arc_io.proofs.memory.disk.MemDiskDisk.write_at.Goals as goal

pub invariant_of-self-in-Ok : goal.invariant_of-self-in-Ok
invariant_of-self-in-Ok c =
    let d = c.args.self.now in
    let area = c.args.area in
    let at = c.args.at in
    let call = c.is_to_fail.new.calls in
    let kept = c.in-Ok.ensures.0 in
    let same_a : written_in A area at c.args.bytes.now d.a.items ≡ written_in A area at kept.0.items (content_after A d.first_a.items d.past.items) =
    ap (λ (l : List ℕ). written_in A area at l d.a.items) (sym kept.1) ∙ ap (written_in A area at kept.0.items) d.a_is in
    let same_b : written_in B area at c.args.bytes.now d.b.items ≡ written_in B area at kept.0.items (content_after B d.first_b.items d.past.items) =
    ap (λ (l : List ℕ). written_in B area at l d.b.items) (sym kept.1) ∙ ap (written_in B area at kept.0.items) d.b_is in
    record {
      a_is = c.in-Ok.ensures.1 ∙ same_a ∙ sym (content-write A area d.first_a.items d.past.items call at kept.0) ∙ ap (content_after A d.first_a.items) (sym kept.2);
      b_is = c.in-Ok.ensures.2 ∙ same_b ∙ sym (content-write B area d.first_b.items d.past.items call at kept.0) ∙ ap (content_after B d.first_b.items) (sym kept.2);
    }

-- the place is within what the calls made
within : (area : Area) (at : ℕ) (a b x y : List ℕ) → a ≡ x → b ≡ y → at ≤ length (part area (record { a = a; b = b })) → at ≤ length (part area (record { a = x; b = y }))
within A at a b x y one two le = subst (λ (l : List ℕ). at ≤ length l) one le
within B at a b x y one two le = subst (λ (l : List ℕ). at ≤ length l) two le

pub returns-in-Ok-clause-crash : goal.returns-in-Ok-clause-crash
returns-in-Ok-clause-crash c =
    let d = c.args.self.now in
    let kept = c.in-Ok.ensures.0 in
    crash_write d.first_a.items d.first_b.items d.past.items c.keep_write-kept.new.past.items c.args.area c.is_to_fail.new.calls c.args.at (length c.args.bytes.now) kept.0
    (ap length kept.1) kept.2 (within c.args.area c.args.at d.a.items d.b.items _ _ d.a_is d.b_is c.requires.place)

pub returns-in-Ok-clause-time : goal.returns-in-Ok-clause-time
returns-in-Ok-clause-time c =
    let d = c.args.self.now in
    elapses d.first_a.items d.first_b.items d.past.items c.keep_write-kept.new.past.items _ c.in-Ok.ensures.0.2 _ _ _ _
