-- What feeding bytes to a line does.
use Rattle.std.specs.Prelude.{◌≡◌, ◌+◌, ℕ, List, [], IfSome, length}
use Rattle.std.specs.List.{slice_get}
use Rattle.arc_io.specs.Disks.{DiskSeen}
use Rattle.centre_core.specs.declared.hall.Stop.{Stop}
use Rattle.centre_core.specs.declared.hall.Stop.TheVariants.{Memory}
use Rattle.centre_rules.specs.History.{Entry}
use Rattle.centre_store.specs.Stores.{Stored, HasFailed, StoreStands}
use Rattle.line_session.specs.Lines.{LineValue, TookStream}
use Rattle.line_session.specs.Turns.{Turn, line_turns}
use Rattle.line_session.specs.declared.line_end.LineEnd.{LineEnd}
use Rattle.line_session.specs.declared.line_end.LineEnd.TheVariants.{Stopped}
use Rattle.session_rules.specs.Turns.{entries_of, text_of}
use Rattle.arc_script.specs.Causes.{HasShown, IsOfFrame, IsSentFor}
use Rattle.arc_script.specs.Names.{line_name}
use Rattle.arc_script.specs.Standing.{IsReadable, LeavesOn}
use Rattle.arc_script.specs.Steps.{Place, FeedsLine}
use Rattle.arc_script.specs.Tallies.{is_repeat, count_of, GrowsBy}
use Rattle.arc_script.specs.declared.script_end.Tally.{Tally}

-- the line at this place, which has the name of its number, took this stream
abbrev pub TookAt : List ℕ → List LineValue → ℕ → Type 0
TookAt stream lines place = IfSome (slice_get lines place) (TookStream (line_name (place + 1)) stream)

-- each line was made anew, under its name
abbrev pub AreNew : List LineValue → Type 0
AreNew lines = (place : ℕ) → TookAt [] lines place

-- the frames that were fed and the repeats among their replies are counted
pub record CountsFed (sent : ℕ) (turns : List Turn) (t t' : Tally) : Type 0 where
  pub frames : GrowsBy sent t.sent t'.sent
  pub repeats : GrowsBy (count_of is_repeat (entries_of line_turns turns)) t.repeats t'.repeats
  pub rest : t' ≡ record t { sent = t'.sent; repeats = t'.repeats }

-- each frame has its turn, the replies were written, and the disk has not failed
pub record HasFed {D : Type 0} (seen : D → DiskSeen) (place : Place) (line : ℕ) (bytes : List ℕ) (h : List Entry) (t t' : Tally)
    (written : List ℕ) (old s : Stored D) : Type 0 where
  pub turns : List Turn
  pub history : List Entry
  pub fed : FeedsLine place line bytes h history turns []
  pub stands : StoreStands seen place.base s history
  pub readable : IsReadable place.base history
  pub left : LeavesOn seen place.base old s h history
  pub up : HasFailed seen s → ⊥
  pub written_is : written ≡ text_of line_turns turns
  pub counts : CountsFed (length turns) turns t t'

-- the stop for which a line ended; the other ends that it has on a page are for want of memory
abbrev pub stop_in : LineEnd → Stop
stop_in (Stopped stop) = stop
stop_in end = Memory

-- A frame was stopped: those before it have their turns. The store showed the stop for its event.
pub record FeedStops {D : Type 0} (seen : D → DiskSeen) (place : Place) (clock line : ℕ) (bytes : List ℕ) (h : List Entry) (t t' : Tally)
    (stop : Stop) (old s : Stored D) : Type 0 where
  pub turns : List Turn
  pub more : List (List ℕ)
  pub history : List Entry
  pub sent : ℕ
  pub fed : FeedsLine place line bytes h history turns more
  pub stands : StoreStands seen place.base s history
  pub readable : IsReadable place.base history
  pub left : LeavesOn seen place.base old s h history
  pub cause : HasShown seen place.base s history stop clock (IsOfFrame place.setup clock line more)
  pub sent_is : IsSentFor stop (length turns) sent
  pub counts : CountsFed sent turns t t'
