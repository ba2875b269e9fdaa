-- The views of seats, and what each kind of step makes of them.
use Rattle.std.specs.Prelude.{◌≡◌, ◌≤◌, ◌+◌, ℕ, max, List, [], ◌++◌, length, true, false, Some, None}
use Rattle.line_gate.specs.Entries.{Entry, Extends, made_by, longer}
use Rattle.line_gate.specs.declared.view.View.{View}

-- a view that knows nothing: what is left of a seat that another took in
abbrev pub nobody : View
nobody = record {
  book = false;
  number = None;
  count = 0;
  seen = [];
  made = [];
  told = 0;
  named = [];
  had = [];
  got = [];
  got_count = 0;
  got_told = 0;
}

-- the book at the start; the first number to give is 1
abbrev pub first_view : View
first_view = record nobody { book = true; count = 1 }

-- Splits.

abbrev pub note_of : View → View
note_of v = record nobody { count = v.count; seen = v.seen; told = v.told }

-- the book that has given its next number away
abbrev pub counting : View → View
counting v = record v { count = v.count + 1 }

-- the pass that got this number; what it has seen it keeps as old, so that the next load tells that no entry bears its number
abbrev pub pass_of : View → View
pass_of v = record nobody { number = Some v.count; count = v.count + 1; seen = v.seen; told = v.told; got = v.seen }

abbrev pub naming : List Entry → View → View
naming es v = record v { named = es }

abbrev pub named_note : List Entry → View → View
named_note es v = record nobody { count = v.count; seen = v.seen; told = v.told; named = es }

-- Joins: what the first view becomes. The second is spent.

abbrev pub learned : View → View → View
learned v w = record v { count = max v.count w.count; seen = longer v.seen w.seen; told = max v.told w.told; had = v.seen; got = w.seen }

abbrev pub taking : View → View → View
taking v w = record v { named = w.named }

abbrev pub shown : View → View → View
shown v w = record v { got = w.seen; got_count = w.count; got_told = w.told }

-- the book, given back the note of a list of which nothing was appended, names nothing
abbrev pub withdrawn : View → View → View
withdrawn v w = record v { named = [] }

-- Steps on a word.

-- what was kept of the last join is let go
abbrev pub settled : View → View
settled v = record v { had = []; got = []; got_count = 0; got_told = 0 }

-- the pass has seen what either of the joined views had, and none of the entries that it saw anew are its own
pub record Looked (v w : View) : Type 0 where
  pub now : w ≡ settled v
  pub had : Extends v.had v.seen
  pub got : Extends v.got v.seen
  pub own : (n : ℕ) → v.number ≡ Some n → made_by n v.had ≡ v.made → made_by n v.seen ≡ v.made

-- the book knows all that it was shown
pub record Checked (v w : View) : Type 0 where
  pub now : w ≡ settled v
  pub seen : Extends v.got v.seen
  pub count : v.got_count ≤ v.count
  pub told : v.got_told ≤ v.told

-- the pass has seen and made these entries, and names nothing
abbrev pub appended : List Entry → View → View
appended es v = record v { seen = es ++ v.seen; made = es ++ v.made; named = [] }

-- they are the first ones of the list that it named, as many as were added to the word
abbrev pub Appended : ℕ → View → View → Type 0
Appended n v w = (es : List Entry) → Extends es v.named → length es ≡ n → w ≡ appended es v

-- the book has seen what it was shown, and names nothing
abbrev pub caught : View → View
caught v = record v { seen = v.got; named = []; had = []; got = []; got_count = 0; got_told = 0 }

abbrev pub Caught : View → View → Type 0
Caught v w = w ≡ caught v

abbrev pub told_of : ℕ → View → View
told_of k v = record v { told = k }

abbrev pub IsTold : ℕ → View → View → Type 0
IsTold k v w = w ≡ told_of k v

-- the pass has been told the number found, which is no less than what it was told before
abbrev pub HasRead : View → ℕ → View → Type 0
HasRead v n w = (w ≡ told_of n v) × (v.told ≤ n)
