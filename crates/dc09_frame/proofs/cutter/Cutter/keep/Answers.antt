use Rattle.std.proofs.Common.{◌≡◌, ◌+◌, ◌-◌, ◌++◌, ℕ, List, length, take, sym, ◌∙◌, ap, arith, length-take}
use Rattle.std.proofs.lemmas.Slice.{take-put_mid}
use borrow.Rule.Slice.PartMut.{put_mid}
use Rattle.dc09_frame.specs.Cutting.{Within, CutterValue}
use Rattle.dc09_frame.specs.Holding.{kept_in}
use Rattle.dc09_frame.proofs.BodyLaws.{held_more}
use Rattle.dc09_frame.proofs.CutterLaws.{within_after, beyond_after, elsewhere_after}
use Rattle.dc09_frame.proofs.cutter.Cutter.keep.Goals as goal

pub returns-then-run-self : goal.returns-then-run-self
returns-then-run-self c stream fed =
    let inside = c.self.inside in
    let held : Within (take inside.len inside.bytes) ≡ c.args.self.now.kept = sym (ap (λ piece. kept_in piece inside.len inside.bytes) c.in-Open.is) ∙ ap (λ (v : CutterValue). v.kept) c.self.view_is in
    beyond_after stream c.args.run.now (take inside.len inside.bytes) c.requires (held ∙ fed) (omega (arith, length-take inside.len inside.bytes))

pub returns-else-run-self : goal.returns-else-run-self
returns-else-run-self c stream fed =
    let inside = c.self.inside in
    let held : Within (take inside.len inside.bytes) ≡ c.args.self.now.kept = sym (ap (λ piece. kept_in piece inside.len inside.bytes) c.in-Open.is) ∙ ap (λ (v : CutterValue). v.kept) c.self.view_is in
    let end : ℕ = inside.len + length c.args.run.now in
    let field : List ℕ = put_mid inside.len (end - inside.len) inside.bytes c.copy_from_slice.new.self in
    let put : take end field ≡ take inside.len inside.bytes ++ c.args.run.now =
    take-put_mid inside.len (end - inside.len) inside.bytes c.copy_from_slice.new.self end (omega (arith, ap length c.copy_from_slice.ensures.after)) (omega arith) ∙ ap (λ l. take inside.len inside.bytes ++ l) c.copy_from_slice.ensures.after in
    rw c.in-Open.is (within_after stream c.args.run.now (take inside.len inside.bytes) (take end field) c.requires (held ∙ fed) put (omega (arith, length-take end field)))

pub returns-in_default : goal.returns-in_default
returns-in_default c stream fed =
    let inside = c.self.inside in
    let held : kept_in inside.piece inside.len inside.bytes ≡ c.args.self.now.kept = ap (λ (v : CutterValue). v.kept) c.self.view_is in
    sym held ∙ elsewhere_after stream c.args.run.now inside.bytes inside.piece inside.len c.requires c.in_default.not-Open (held ∙ fed)

pub invariant_of-self-else-run-self : goal.invariant_of-self-else-run-self
invariant_of-self-else-run-self c =
    let inside = c.self.inside in
    let end : ℕ = inside.len + length c.args.run.now in
    let field : List ℕ = put_mid inside.len (end - inside.len) inside.bytes c.copy_from_slice.new.self in
    let put : take end field ≡ take inside.len inside.bytes ++ c.args.run.now =
    take-put_mid inside.len (end - inside.len) inside.bytes c.copy_from_slice.new.self end (omega (arith, ap length c.copy_from_slice.ensures.after)) (omega arith) ∙ ap (λ l. take inside.len inside.bytes ++ l) c.copy_from_slice.ensures.after in
    held_more inside.len end inside.bytes field c.args.run.now c.self.invariant put (omega arith) c.requires
