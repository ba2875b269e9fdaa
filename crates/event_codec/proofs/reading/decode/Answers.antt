use Rattle.std.proofs.Common.{arith}
use Rattle.event_codec.proofs.Events.{found_is_spelled, spelled_is_found}
use Rattle.event_codec.proofs.reading.decode.Goals as goal

pub returns-clause-found : goal.returns-clause-found
returns-clause-found c = found_is_spelled c.args.version c.whole.result c.args.bytes.now (λ i. omega (arith, c.type_inv.bytes i)) c.whole.ensures

pub returns-clause-only : goal.returns-clause-only
returns-clause-only c = λ event at spelled is. spelled_is_found c.args.version c.whole.result c.args.bytes.now event at c.whole.ensures spelled is
