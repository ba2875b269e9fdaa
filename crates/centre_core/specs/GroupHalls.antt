-- What a call with events that are submitted together leaves of a hall.
use Rattle.std.specs.Prelude.{◌≡◌, ◌++◌, ℕ, List, ◌∷◌, reverse}
use Rattle.arc_data.specs.declared.event.Event.{Event}
use Rattle.centre_rules.specs.Summary.{Summary}
use Rattle.centre_rules.specs.History.{Entry, Extends}
use Rattle.centre_rules.specs.Answers.{IsLegal}
use Rattle.centre_core.specs.Batches.{with_all, dones_of, entries_by}
use Rattle.centre_core.specs.Halls.{HallSeen, DiskGoesOn}
use Rattle.centre_core.specs.declared.batch.Submission.{Submission}
use Rattle.centre_core.specs.declared.hall.Stop.{Stop}
use Rattle.centre_core.specs.declared.hall.Stop.TheVariants.{Memory, Down, Full, Worn}
use Rattle.centre_core.specs.declared.ready.Done.{Done}

-- From h on, the hall stands for a history that ends with the entries of these, all of them, in order, behind others. before is that
-- history without them: each has the moment and the reply of one thread there.
pub record GoesOnWith (b : Summary) (hall hall' : HallSeen) (h : List Entry) (calls : List Submission) (dones : List Done) : Type 0 where
  pub before : List Entry
  pub extends : Extends h before
  pub told : dones ≡ dones_of hall.caller b before calls
  pub holds : hall'.stands b (with_all hall.caller b before calls)
  pub legal : IsLegal b (with_all hall.caller b before calls)
  pub own : hall'.own (with_all hall.caller b before calls) ≡ reverse (entries_by hall.caller b before calls) ++ hall.own h
  pub disk : DiskGoesOn b hall hall' h (with_all hall.caller b before calls)

-- the hall shows the stop, whatever was submitted
abbrev pub ShowsAny : HallSeen → Stop → Type 0
ShowsAny hall stop = (event : Event) (clock : ℕ) → hall.shows stop event clock

-- the hall shows the stop of the first of these
pub record ShowsFirst (hall : HallSeen) (stop : Stop) (left : List Submission) : Type 0 where
  pub call : Submission
  pub later : List Submission
  pub first : left ≡ call ∷ later
  pub shown : hall.shows stop call.event call.clock

-- what the hall shows after a stop with these left: Full is of the first one
abbrev pub ShowsLeft : HallSeen → Stop → List Submission → Type 0
ShowsLeft hall Memory left = ShowsAny hall Memory
ShowsLeft hall (Down at_open now) left = ShowsAny hall (Down at_open now)
ShowsLeft hall (Full used need records) left = ShowsFirst hall (Full used need records) left
ShowsLeft hall (Worn count) left = ShowsAny hall (Worn count)
