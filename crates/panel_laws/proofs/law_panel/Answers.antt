use Rattle.panel_laws.proofs.Worlds.{read}
use Rattle.panel_laws.proofs.law_panel.Goals as goal

pub returns-clause-read : goal.returns-clause-read
returns-clause-read c w is copy there =
    read w c.law_spelled_is_read.ensures c.law_written_content_is_read.ensures is copy there
