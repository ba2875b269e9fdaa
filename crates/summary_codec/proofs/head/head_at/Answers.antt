-- One part behind another.
use Rattle.summary_codec.proofs.head.head_at.Goals as goal

pub returns : goal.returns
returns c = record {
  behind_tag = c.in_ok-rest.rest.now;
  behind_generation = c.in_ok-generation.rest.now;
  behind_last = c.in_ok-last.rest.now;
  behind_recorded = c.in_ok-recorded.rest.now;
  behind_opened = c.in_ok-opened.rest.now;
  behind_start = c.in_ok-start.rest.now;
  tag = c.in_ok-rest.ensures;
  generation = c.in_ok-generation.ensures;
  last = c.in_ok-last.ensures;
  recorded = c.in_ok-recorded.ensures;
  opened = c.in_ok-opened.ensures;
  start = c.in_ok-start.ensures;
  text = c.in_ok-text.ensures;
}
