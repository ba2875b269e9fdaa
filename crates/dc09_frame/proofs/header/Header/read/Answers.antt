use Rattle.std.proofs.Common.{ap, ◌∙◌}
use Rattle.dc09_frame.specs.Headers.{header_at}
use Rattle.dc09_frame.proofs.HeaderLaws.{is_read, header_again}
use Rattle.dc09_frame.proofs.header.Header.read.Goals as goal

pub returns-clause-found : goal.returns-clause-found
returns-clause-found c = is_read c.args.body.now c.header_at.result c.header_at.ensures

pub returns-clause-only : goal.returns-clause-only
returns-clause-only c h rest fits is = c.header_at.ensures ∙ ap header_at is ∙ header_again h rest fits
