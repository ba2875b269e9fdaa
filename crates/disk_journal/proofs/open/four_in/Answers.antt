use Rattle.std.proofs.lemmas.Nat.{be_bytes_4}
use Rattle.disk_journal.proofs.open.four_in.Goals as goal

pub returns-clause-back : goal.returns-clause-back
returns-clause-back c = be_bytes_4 c.args.size.now _ c.told-size c.fits-size c.from_be_bytes.ensures
