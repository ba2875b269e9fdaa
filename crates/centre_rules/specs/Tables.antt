-- The open incidents in place: what a mark makes of a table of them.
use Rattle.std.specs.Prelude.{ℕ, ◌+◌, List, [], ◌∷◌, ◌++◌, not, if◌then◌else◌, map}
use Rattle.std.specs.List.{filter}
use Rattle.centre_rules.specs.Marks.{Mark, Carries, Closes}
use Rattle.centre_rules.specs.Cases.{Incident, has_number, opens, fresh, signals_at, restored_at, holder_at, touched_at, acts_at}

-- what a mark makes of an open incident
abbrev pub touched_by : Mark → Incident → Incident
touched_by m i = record i {
  signals = signals_at i m i.signals;
  restored = restored_at i m i.restored;
  holder = holder_at i m i.holder;
  touched = touched_at i m i.holder i.touched;
  acts = acts_at i m i.acts;
}

-- how many were opened, after the mark
abbrev pub opened_after : Mark → ℕ → List Incident → ℕ
opened_after (Carries x) opened is = if opens x is then opened + 1 else opened
opened_after m opened is = opened

-- with the one that the mark opens
abbrev pub with_opened : Mark → ℕ → List Incident → List Incident
with_opened (Carries x) opened is = if opens x is then is ++ fresh (opened + 1) x ∷ [] else is
with_opened m opened is = is

-- without the one that it closes
abbrev pub without_closed : Mark → List Incident → List Incident
without_closed (Closes number) is = filter (λ i. not (has_number number i)) is
without_closed m is = is

-- those that are open after the mark
abbrev pub table_after : Mark → ℕ → List Incident → List Incident
table_after m opened is = without_closed m (map (touched_by m) (with_opened m opened is))

-- how many were opened, and which are open, after these marks, the oldest first
abbrev pub opened_marked : List Mark → ℕ → List Incident → ℕ
opened_marked [] opened is = opened
opened_marked (m ∷ ms) opened is = opened_marked ms (opened_after m opened is) (table_after m opened is)

abbrev pub table_marked : List Mark → ℕ → List Incident → List Incident
table_marked [] opened is = is
table_marked (m ∷ ms) opened is = table_marked ms (opened_after m opened is) (table_after m opened is)
