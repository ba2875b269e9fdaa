-- What a journal has of a history: the bodies of its recorded entries, in each of two versions.
use Rattle.std.specs.Prelude.{ℕ, ◌+◌, List, [], ◌∷◌, map, reverse, length}
use Rattle.std.specs.List.{AllByRecursion}
use Rattle.arc_data.specs.declared.event.Event.{Event}
use Rattle.centre_rules.specs.History.{Entry, recorded}
use Rattle.event_codec.specs.Spelling.{spelling_in, spelling, IsNamedIn}

-- the one spelling in a version of an entry's event, at its moment
abbrev pub body_in : ℕ → Entry → List ℕ
body_in version e = spelling_in version e.event e.at

-- the bodies of the recorded entries, the oldest first
unfoldable pub bodies_in : ℕ → List Entry → List (List ℕ)
bodies_in version h = reverse (map (body_in version) (recorded h))

-- each message came by a line that the version tells: in the first by the one of the one name
abbrev pub AreNamedIn : ℕ → List Entry → Type 0
AreNamedIn version h = AllByRecursion (λ e. IsNamedIn version e.event) h

-- how many bytes the record of an event takes: a gate, the four bytes of the length, and the body, which has as many at each moment
abbrev pub need_of : Event → ℕ
need_of event = 5 + length (spelling event 0)
