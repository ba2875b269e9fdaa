use Rattle.std.proofs.Common.{◌≡◌, ◌+◌, ◌<◌, ◌≤◌, ℕ, [], ◌∷◌, ◌++◌, length, Option, subst, sym, ap, ◌∙◌, arith}
use Rattle.std.specs.Prelude.{IfSome, Some, None, Vec}
use Rattle.std.specs.declared.alloc.Global.{Global}
use Rattle.std.proofs.lemmas.Result.{err_from_is_err_and}
use Rattle.arc_io.specs.Areas.{Areas, part}
use Rattle.arc_io.specs.declared.disk.Area.{Area}
use Rattle.arc_io.proofs.Moments.{quiet_then}
use Rattle.disk_journal.specs.Records.{size}
use Rattle.disk_journal.specs.Reading.{IsRecord, IsBrokenAt, Shows}
use Rattle.disk_journal.proofs.Gates.{size-more}
use Rattle.disk_journal.proofs.Pieces.{ReadTo, read_more, read_all, read_broken}
use Rattle.disk_journal.proofs.open.read_records.Goals as goal

-- a record that was read by a later call, said of what the disk told at first
at_first : (area : Area) (o m : Option Areas) (at : ℕ) (found wanted : Option (Vec ℕ Global)) → m ≡ o → found ≡ wanted → IfSome m (λ s. IsRecord (part area s) at found) → IfSome o (λ s. IsRecord (part area s) at wanted)
at_first area o m at found wanted same is read =
    subst (λ (w : Option (Vec ℕ Global)). IfSome o (λ s. IsRecord (part area s) at w)) is (subst (λ (p : Option Areas). IfSome p (λ s. IsRecord (part area s) at found)) same read)

pub returns-in_err-body-clause-shown : goal.returns-in_err-body-clause-shown
returns-in_err-body-clause-shown g c =
    let p = err_from_is_err_and c.from_residual.result c.from_residual.ensures.1 in
    let inv = c.loop-bodies.invariant in
    rw (p.1, p.2) (read_broken c.args.version c.args.area (g.D.Disk.seen c.args.disk.now).told c.args.len c.loop-bodies.at c.loop-bodies.bodies c.in_err-body.field-0.0 c.requires.known c.requires.len c.requires.long inv.used inv.read
    (subst (λ (o : Option Areas). IfSome o (λ s. IsBrokenAt c.in_err-body.field-0.0 (part c.args.area s) c.loop-bodies.at)) inv.quiet.same c.in_err-body.ensures.shown))

pub loop-bodies-preserved : goal.loop-bodies-preserved
loop-bodies-preserved g c =
    let inv = c.loop-bodies.invariant in
    let o = (g.D.Disk.seen c.args.disk.now).told in
    let body = c.in-Some.body in
    let at = c.loop-bodies.at in
    let next = at + (5 + c.len.result) in
    let long : c.len.result ≡ length body.items = omega (arith, c.len.ensures) in
    let room : (1 ≤ length body.items) × (at + 5 + length body.items < c.args.len) =
    subst (λ (w : Option (Vec ℕ Global)). IfSome w (λ b. (1 ≤ length b.items) × (at + 5 + length b.items < c.args.len))) c.in-Some.is c.in_ok-body.ensures.room in
    let more : c.push_vec.new.self ≡ c.loop-bodies.bodies ++ body.items ∷ [] = c.in-Ok.ensures in
    record {
      before = omega (arith, inv.before, c.read_record.ensures.later);
      met_none = c.in_ok-body.ensures.met_none ∙ inv.met_none;
      within = omega (arith, room.1, long);
      used = omega (arith, inv.used, long, ap size more, size-more c.loop-bodies.bodies body.items);
      read = subst (ReadTo c.args.version c.args.area o next) (sym more) (read_more c.args.version c.args.area o at next c.loop-bodies.bodies body inv.used (ap (λ n. at + (5 + n)) long) inv.read
          (at_first c.args.area o (g.D.Disk.seen c.loop-bodies.disk).told at c.in_ok-body.field-0 (Some body) inv.quiet.same c.in-Some.is c.in_ok-body.ensures.bytes));
      piece = subst (λ (told : Option Areas). Shows c.args.area told c.read_record.new.window) (sym c.read_record.ensures.quiet.same) c.in_ok-body.ensures.piece;
      quiet = quiet_then (g.D.Disk.seen c.args.disk.now) (g.D.Disk.seen c.loop-bodies.disk) (g.D.Disk.seen c.read_record.new.disk) inv.quiet c.read_record.ensures.quiet;
    }

pub returns-clause-bytes : goal.returns-clause-bytes
returns-clause-bytes g c =
    let inv = c.loop-bodies.invariant in
    let o = (g.D.Disk.seen c.args.disk.now).told in
    read_all c.args.version c.args.area o c.loop-bodies.at c.loop-bodies.bodies c.requires.known inv.read
    (at_first c.args.area o (g.D.Disk.seen c.loop-bodies.disk).told c.loop-bodies.at c.in_ok-body.field-0 None inv.quiet.same c.in_default.is c.in_ok-body.ensures.bytes)
