use Rattle.std.proofs.Common.{arith}
use Rattle.disk_journal.proofs.Again.{size_read}
use Rattle.disk_journal.proofs.reading.size_at.Goals as goal

pub returns-clause-size : goal.returns-clause-size
returns-clause-size g c =
    size_read c.args.area (g.D.Disk.seen c.args.disk.now).told c.read.new.buf c.copy_from_slice.new.self c.args.at c.from_be_bytes.result c.in_ok-read.ensures.bytes (omega (arith, c.read.auto.buf)) c.copy_from_slice.ensures.after
    c.from_be_bytes.ensures
