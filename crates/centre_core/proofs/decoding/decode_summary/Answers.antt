-- What was read, and the centre of it.
use Rattle.centre_core.proofs.Decoded.{no_text, no_summary}
use Rattle.centre_core.proofs.decoding.decode_summary.Goals as goal

pub returns-in-Ok-None : goal.returns-in-Ok-None
returns-in-Ok-None c = no_text c.args.version c.args.bytes.now (rw c.in-Ok-None.field-0-is at c.in-Ok-None.ensures)

pub returns-in-Ok-None-centre_of : goal.returns-in-Ok-None-centre_of
returns-in-Ok-None-centre_of c =
    no_summary c.args.version c.args.bytes.now c.in-Ok-Some.read (rw c.in-Ok-Some.field-0-is at c.in-Ok-Some.ensures)
    (rw c.in-Ok-None-centre_of.field-0-is at c.in-Ok-None-centre_of.ensures)
