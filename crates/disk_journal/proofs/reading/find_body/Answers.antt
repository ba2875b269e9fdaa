use Rattle.std.proofs.Common.{◌≡◌, [], ℕ, List, Option, get_or, subst, arith}
use Rattle.std.specs.Prelude.{IfSome}
use Rattle.arc_io.specs.Areas.{Areas}
use Rattle.arc_io.specs.declared.disk.Area.{Area}
use Rattle.disk_journal.specs.Again.{HasRecordAt}
use Rattle.disk_journal.proofs.Again.{read_on}
use Rattle.disk_journal.proofs.reading.find_body.Goals as goal

-- a body that was read behind the walk, said of what the disk told at first
at_first : (area : Area) (o m : Option Areas) (version : ℕ) (summary : Option (List ℕ)) (bodies : List (List ℕ)) (i at : ℕ) (body : List ℕ) → m ≡ o
    → (HasRecordAt m area version summary bodies i at → IfSome m (λ _. body ≡ get_or bodies i []))
    → HasRecordAt o area version summary bodies i at → IfSome o (λ _. body ≡ get_or bodies i [])
at_first area o m version summary bodies i at body same =
    subst (λ (p : Option Areas). HasRecordAt p area version summary bodies i at → IfSome p (λ _. body ≡ get_or bodies i [])) same

pub returns-clause-body : goal.returns-clause-body
returns-clause-body g c version summary bodies below here =
    at_first c.args.area (g.D.Disk.seen c.args.disk.now).told (g.D.Disk.seen c.walk.new.disk).told version summary bodies c.args.i c.in_ok-at.at c.in_ok-body.body.items c.walk.ensures.quiet.same
    (c.in_ok-body.ensures.body version summary bodies c.args.i) (c.in_ok-at.ensures.found version summary bodies below here)

pub returns-clause-behind : goal.returns-clause-behind
returns-clause-behind g c version summary bodies below here =
    let o = (g.D.Disk.seen c.args.disk.now).told in
    let there = c.in_ok-at.ensures.found version summary bodies below here in
    read_on c.args.area o version summary bodies c.args.i c.in_ok-at.at c.in_ok-body.body.items c.saturating_add.result there
    (at_first c.args.area o (g.D.Disk.seen c.walk.new.disk).told version summary bodies c.args.i c.in_ok-at.at c.in_ok-body.body.items c.walk.ensures.quiet.same
    (c.in_ok-body.ensures.body version summary bodies c.args.i) there)
    (λ few. omega (arith, few, c.saturating_add.ensures, c.len.ensures))
