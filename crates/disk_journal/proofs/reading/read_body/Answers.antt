use Rattle.std.proofs.Common.{◌≡◌, ◌≤◌, ◌+◌, [], ℕ, List, length, get_or, subst, sym, arith}
use Rattle.std.specs.Prelude.{IfSome}
use Rattle.std.proofs.lemmas.List.{with_items_is}
use Rattle.arc_io.specs.Areas.{part}
use Rattle.disk_journal.specs.Reading.{IsFilled}
use Rattle.disk_journal.proofs.Again.{body_within, body_read, gate_within, told_then, told_first}
use Rattle.disk_journal.proofs.reading.read_body.Goals as goal

pub size_at-requires-clause-within : goal.size_at-requires-clause-within
size_at-requires-clause-within g c =
    let w = c.requires.stands in
    gate_within c.args.area (g.D.Disk.seen c.args.disk.now).told w.0 w.1 w.2 w.3 c.args.at w.4

pub read-requires-clause-within : goal.read-requires-clause-within
read-requires-clause-within g c =
    let w = c.requires.stands in
    let o = (g.D.Disk.seen c.args.disk.now).told in
    let m = (g.D.Disk.seen c.size_at.new.disk).told in
    let n = c.in_ok-size.size in
    let at = c.saturating_add.result in
    let long : length c.deref_mut.result.now ≡ n = omega (arith, c.deref_mut.ensures.len, c.in-Ok.ensures.len) in
    told_then (λ s. at + length c.deref_mut.result.now ≤ length (part c.args.area s)) o m c.size_at.ensures.quiet.same
    (subst (λ k. IfSome o (λ s. at + k ≤ length (part c.args.area s))) (sym long)
    (body_within c.args.area o w.0 w.1 w.2 w.3 c.args.at n at w.4 c.in_ok-size.ensures.size (λ few. omega (arith, few, c.saturating_add.ensures))))

pub returns-clause-body : goal.returns-clause-body
returns-clause-body g c version summary bodies i here =
    let o = (g.D.Disk.seen c.args.disk.now).told in
    let m = (g.D.Disk.seen c.size_at.new.disk).told in
    let n = c.in_ok-size.size in
    let at = c.saturating_add.result in
    let buf = c.read.new.buf in
    let long : length buf ≡ n = omega (arith, c.read.auto.buf, c.deref_mut.ensures.len, c.in-Ok.ensures.len) in
    let read = told_first (λ s. IsFilled (part c.args.area s) at buf) o m c.size_at.ensures.quiet.same c.in_ok-read.ensures.bytes in
    subst (λ (l : List ℕ). IfSome o (λ _. l ≡ get_or bodies i [])) (sym (with_items_is c.in-Ok.body buf (omega (arith, long, c.in-Ok.ensures.len))))
    (body_read c.args.area o version summary bodies i c.args.at n at buf here c.in_ok-size.ensures.size (λ few. omega (arith, few, c.saturating_add.ensures)) long read)
