use Rattle.std.proofs.Common.{◌≡◌, ◌+◌, ◌++◌, ◌∷◌, [], ℕ, List, take, length, sym, ap, ◌∙◌, subst, arith}
use Rattle.std.proofs.lemmas.List.{take_more, length-take}
use Rattle.arc_io.specs.KeptCalls.{filled_after}
use Rattle.arc_io.specs.Replays.{replayed_from}
use Rattle.arc_io.specs.declared.memory.disk_kept.Fill.{Fill}
use Rattle.arc_io.specs.declared.memory.disk_kept.Kept.{Kept}
use Rattle.arc_io.specs.declared.disk.Area.{Area}
use Rattle.arc_io.proofs.Replaying.{synced_now, synced_before}
use Rattle.arc_io.proofs.memory.disk_stop.synced_until.Goals as goal
use Rattle.arc_io.proofs.memory.disk_stop.synced_until.Goals.{then-syncs, else-syncs}

-- the image of the calls so far, where the first n of them are whole
abbrev IsSplit : Area → ℕ → List Kept → Type 0
IsSplit area n past = (fill : Fill) (first : List ℕ) → filled_after area fill first first past ≡ replayed_from area fill first n past

pub loop-i-preserved : goal.loop-i-preserved
loop-i-preserved c =
    let i = c.loop-i.i in
    let past = c.args.past.now in
    let k = c.index-past-i.result in
    let inv = c.loop-i.invariant in
    let more : take (i + 1) past ≡ take i past ++ k ∷ [] = take_more past i k c.loop-i-test.true ∙ ap (λ x. take i past ++ x ∷ []) (sym c.index-past-i.is) in
    let long : length (take i past) ≡ i = omega (arith, length-take i past, c.loop-i-test.true) in
    elim c.if-syncs.branch [
      | then-syncs w ↦ record {
        within = omega (arith, w.synced-is);
        image = subst (IsSplit c.args.area c.if-syncs.synced) (sym more)
            (λ fill first. synced_now c.args.area fill first (take i past) k c.if-syncs.synced (omega (arith, w.synced-is, long)) (sym c.syncs.ensures ∙ w.if-syncs.true));
      }
      | else-syncs w ↦ record {
        within = omega (arith, w.synced-is, inv.within);
        image = subst (IsSplit c.args.area c.if-syncs.synced) (sym more)
            (subst (λ (n : ℕ). IsSplit c.args.area n (take i past ++ k ∷ [])) (sym w.synced-is)
            (λ fill first. synced_before c.args.area fill first (take i past) k c.loop-i.synced (omega (arith, long, inv.within)) (sym c.syncs.ensures ∙ w.if-syncs.false) (inv.image fill first)));
      }
    ]
