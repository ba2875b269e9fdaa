-- A summary that a mark changed in place tells what the mark tells over it.
use Rattle.std.proofs.Common.{◌≡◌, ◌+◌, List, [], ◌∷◌, true, sym, ap, ◌∙◌}
use Rattle.centre_rules.specs.Summary.{Summary}
use Rattle.centre_rules.specs.Marks.{Mark}
use Rattle.centre_rules.specs.Tables.{opened_after, table_after}
use Rattle.centre_rules.specs.History.{Entry, is_recorded, marks_of, onto}
use Rattle.centre_rules.specs.State.{Same, State, Grows, IsMarked}
use Rattle.centre_rules.proofs.Sames.{same_trans, same_step}
use Rattle.centre_rules.proofs.Steps.{incidents_begin, incidents_step, opened_step}

pub marked_same : (m : Mark) (s t : Summary) → IsMarked m s t → Same t [] s (m ∷ [])
marked_same m s t w = record {
  text = w.text;
  start = w.start;
  opened = w.opened ∙ sym (opened_step s m [] ∙ ap (opened_after m s.opened) (incidents_begin s));
  incidents = incidents_begin t ∙ w.incidents ∙ sym (incidents_step s m [] ∙ ap (table_after m s.opened) (incidents_begin s));
  rows = w.rows;
  heard = w.heard;
  failed = w.failed;
  opening = w.opening;
  recent = w.recent;
}

-- one mark more, after others
pub marked_more : (m : Mark) (s t u : Summary) (ms : List Mark) → Same t [] s ms → IsMarked m t u → Same u [] s (m ∷ ms)
marked_more m s t u ms v w = same_trans (marked_same m t u w) (same_step m v)

-- A state grows by a recorded entry whose marks its summary took in.
pub recorded_grows : (s t : State) (e : Entry) → is_recorded e.reply ≡ true → t.entries ≡ s.entries + 1
    → t.sum.recorded ≡ s.sum.recorded + 1 → t.sum.last ≡ e.at
    → Same t.sum [] s.sum (onto (marks_of s.sum [] e.event e.at e.reply) []) → Grows s t e
recorded_grows s t e q entries recorded last same = record {
  entries = entries;
  recorded = rw q recorded;
  last = rw q last;
  same = rw q same;
}
