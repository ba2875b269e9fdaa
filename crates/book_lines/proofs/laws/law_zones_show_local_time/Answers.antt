use Rattle.book_lines.proofs.LocalLemmas.{zone_shown}
use Rattle.book_lines.proofs.laws.law_zones_show_local_time.Goals as goal

pub returns : goal.returns
returns c = zone_shown
