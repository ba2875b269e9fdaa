-- What asking a hall does, and printing its reply.
use Rattle.std.specs.Prelude.{◌≡◌, ℕ, List, Result, Ok, Err}
use Rattle.arc_data.specs.declared.event.Event.{Event}
use Rattle.arc_io.specs.Seen.{PortSeen}
use Rattle.arc_io.specs.Told.{Puts, after_reading}
use Rattle.centre_core.specs.Halls.{HallSeen, TookEvent, LeftEvent}
use Rattle.centre_core.specs.declared.hall.Stop.{Stop}
use Rattle.centre_rules.specs.Summary.{Summary}
use Rattle.centre_rules.specs.History.{Entry}
use Rattle.desk_wire.specs.Replies.{line_of}
use Rattle.desk_session.specs.declared.desk_end.DeskEnd.{DeskEnd}
use Rattle.desk_session.specs.declared.desk_end.DeskEnd.TheVariants.{Quit, InputEnded, ReadFault, WriteFault, Spent, Stopped}

-- the hall took the event at a reading, and then the line of its reply was printed
pub record Asked (end : Result (Unit {0}) DeskEnd) (b : Summary) (h : List Entry) (hall hall' : HallSeen) (event : Event) (p p' : PortSeen)
    : Type 0 where
  pub reading : ℕ
  pub took : TookEvent b hall hall' h event reading
  pub put : Puts (after_reading reading p) p' end (line_of took.entry.reply)

-- the hall stopped for the event at a reading, and nothing was printed
pub record Left (stop : Stop) (b : Summary) (h : List Entry) (hall hall' : HallSeen) (event : Event) (p p' : PortSeen) : Type 0 where
  pub reading : ℕ
  pub left : LeftEvent stop b hall hall' h event reading
  pub unsaid : p' ≡ after_reading reading p

-- what asking did, by its end
abbrev pub Asks : Result (Unit {0}) DeskEnd → Summary → List Entry → HallSeen → HallSeen → Event → PortSeen → PortSeen → Type 0
Asks (Ok done) b h hall hall' event p p' = Asked (Ok tt) b h hall hall' event p p'
Asks (Err WriteFault) b h hall hall' event p p' = Asked (Err WriteFault) b h hall hall' event p p'
Asks (Err (Stopped stop)) b h hall hall' event p p' = Left stop b h hall hall' event p p'
Asks (Err Quit) b h hall hall' event p p' = ⊥
Asks (Err InputEnded) b h hall hall' event p p' = ⊥
Asks (Err ReadFault) b h hall hall' event p p' = ⊥
Asks (Err Spent) b h hall hall' event p p' = ⊥

-- what asking can come to
abbrev pub IsAsked : Result (Unit {0}) DeskEnd → Type 0
IsAsked (Ok done) = Unit {0}
IsAsked (Err Quit) = ⊥
IsAsked (Err InputEnded) = ⊥
IsAsked (Err ReadFault) = ⊥
IsAsked (Err WriteFault) = Unit {0}
IsAsked (Err Spent) = ⊥
IsAsked (Err (Stopped stop)) = Unit {0}

-- how printing went: a `quit` is answered
abbrev pub said_as : Result (Unit {0}) DeskEnd → Result (Unit {0}) DeskEnd
said_as (Ok done) = Ok tt
said_as (Err Quit) = Ok tt
said_as (Err InputEnded) = Err InputEnded
said_as (Err ReadFault) = Err ReadFault
said_as (Err WriteFault) = Err WriteFault
said_as (Err Spent) = Err Spent
said_as (Err (Stopped stop)) = Err (Stopped stop)

-- what saying something without asking can come to
abbrev pub IsSaid : Result (Unit {0}) DeskEnd → Type 0
IsSaid (Ok done) = Unit {0}
IsSaid (Err Quit) = Unit {0}
IsSaid (Err InputEnded) = ⊥
IsSaid (Err ReadFault) = ⊥
IsSaid (Err WriteFault) = Unit {0}
IsSaid (Err Spent) = ⊥
IsSaid (Err (Stopped stop)) = ⊥
