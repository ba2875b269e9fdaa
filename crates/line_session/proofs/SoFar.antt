-- What a line session over a port has done between two reads.
use Rattle.std.proofs.Common.{◌≡◌, ℕ, List, [], false}
use Rattle.arc_io.specs.Seen.{PortSeen}
use Rattle.centre_core.specs.Halls.{HallSeen}
use Rattle.centre_rules.specs.Summary.{Summary}
use Rattle.centre_rules.specs.History.{Entry}
use Rattle.dc09_frame.specs.Frames.{bodies}
use Rattle.session_rules.specs.Sessions.{Change, Ending, answered, changed}
use Rattle.session_rules.proofs.Inputs.{ReadSoFar, nothing_read}
use Rattle.line_session.specs.Lines.{LineValue, TookStream}

-- This stream was read and served on a line of this name, whose frames are taken one after another or together.
pub record SoFar (Serves : List ℕ → Ending → Summary → List (List ℕ) → List Entry → Change → Type 0) (name : List ℕ) (state : LineValue)
    (hall hall' : HallSeen) (p p' : PortSeen) : Type 0 where
  pub stream : List ℕ
  pub took : TookStream name stream state
  pub input : ReadSoFar stream p p'
  pub session : (b : Summary) (h : List Entry) → hall.stands b h → Serves name answered b (bodies stream) h (changed hall hall' p p')

-- nothing was
pub begun : {Serves : List ℕ → Ending → Summary → List (List ℕ) → List Entry → Change → Type 0} {name : List ℕ} {state : LineValue} {hall : HallSeen} {p : PortSeen}
    → TookStream name [] state → p.ended ≡ false → ((b : Summary) (h : List Entry) → hall.stands b h → Serves name answered b [] h (changed hall hall p p)) → SoFar Serves name state hall hall p p
begun {Serves} {name} {state} {hall} {p} took not_ended session = record { stream = []; took = took; input = nothing_read p not_ended; session = session }
