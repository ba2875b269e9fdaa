use Rattle.std.proofs.Common.{refl, arith, length-drop}
use Rattle.disk_journal.specs.Reading.{IsPiece}
use Rattle.disk_journal.proofs.Windows.{more_told}
use Rattle.disk_journal.proofs.window.Window.fill.Goals as goal

pub returns-clause-bytes : goal.returns-clause-bytes
returns-clause-bytes g c =
    let w = c.args.self.now in
    let front = c.give-given.new.buf in
    let n = c.give-given.result in
    more_told c.args.area (g.D.Disk.seen c.args.disk.now).told c.args.at n _ _ front c.fill_rest.new.buf (λ bytes. IsPiece bytes w.at w.count w.room.items)
    c.requires.piece c.give-given.ensures.given refl c.in_ok-fill_rest.ensures.bytes (omega (arith, length-drop n front))
