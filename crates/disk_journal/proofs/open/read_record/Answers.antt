use Rattle.std.proofs.Common.{◌≡◌, ◌≤◌, get_or, ◌+◌, ℕ, true, List, length, take, drop, Option, subst, ◌∙◌, arith}
use Rattle.std.specs.Prelude.{IfSome}
use Rattle.std.specs.Vec.{with_items}
use Rattle.std.specs.Int.{to_be_bytes, w32}
use Rattle.std.proofs.lemmas.List.{with_items_is}
use Rattle.arc_io.specs.Areas.{Areas, part}
use Rattle.arc_io.specs.declared.disk.Area.{Area}
use Rattle.disk_journal.specs.Records.{most_at}
use Rattle.disk_journal.specs.Reading.{IsFilled, IsGate}
use Rattle.disk_journal.proofs.Pieces.{whole}
use Rattle.disk_journal.proofs.open.read_record.Goals as goal

-- what a later call read, said of what the disk told at first, where it was found to be so
at_first : {A : Type 0} (area : Area) (P : List ℕ → A → Type 0) (o m : Option Areas) (x y : A) → m ≡ o → x ≡ y → IfSome m (λ s. P (part area s) x) → IfSome o (λ s. P (part area s) y)
at_first {A = A} area P o m x y same is read =
    subst (λ (z : A). IfSome o (λ s. P (part area s) z)) is (subst (λ (p : Option Areas). IfSome p (λ s. P (part area s) x)) same read)

pub returns-clause-bytes : goal.returns-clause-bytes
returns-clause-bytes g c =
    let o = (g.D.Disk.seen c.args.disk.now).told in
    let at = c.args.at in
    let n = c.in_ok-size.size in
    let buf = c.fill.new.buf in
    let gated = c.is_open.ensures.quiet.same in
    let sized = c.read_size.ensures.quiet.same ∙ gated in
    let gate = at_first c.args.area (λ bytes open_gate. IsGate bytes at open_gate) o o c.in_ok-is_open.field-0 true (λ _. o) c.if-not-branch.false c.in_ok-is_open.ensures.gate in
    let size = at_first c.args.area (λ bytes k. take 4 (drop (at + 1) bytes) ≡ to_be_bytes w32 k) o (g.D.Disk.seen c.is_open.new.disk).told n n gated (λ _. n) c.in_ok-size.ensures.size in
    let most = at_first c.args.area (λ bytes k. k ≤ most_at at (get_or bytes (at + 5) 0)) o (g.D.Disk.seen c.is_open.new.disk).told n n gated (λ _. n) c.in_ok-size.ensures.no_more in
    let body = at_first c.args.area (λ bytes k. IsFilled bytes (at + 5) buf) o (g.D.Disk.seen c.read_size.new.disk).told n n sized (λ _. n) c.in_ok-fill.ensures.bytes in
    let long : length buf ≡ n = omega (arith, c.fill.auto.buf, c.deref_mut.ensures.len, c.in-Ok.ensures.len) in
    whole c.args.area o buf (with_items c.in-Ok.body buf) c.args.len at n c.requires.len gate size most c.in_ok-size.ensures.room.0 body long
    (with_items_is c.in-Ok.body buf (omega (arith, long, c.in-Ok.ensures.len))) c.in_ok-size.ensures.room.1
