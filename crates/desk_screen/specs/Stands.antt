-- What a screen knows of its sitting, and one turn of it.
use Rattle.std.specs.Prelude.{◌≡◌, ℕ, List, true, Option, Some, None, if◌then◌else◌}
use Rattle.arc_data.specs.declared.listing.View.{View}
use Rattle.desk_wire.specs.declared.command.Command.{Command}
use Rattle.desk_screen.specs.Asking.{may_ask, key_asks}
use Rattle.desk_screen.specs.Bell.{quiet, muted}
use Rattle.desk_screen.specs.Inputs.{Input, Key, Answer, Second, Made, Lost, Turn, Sitting, news}
use Rattle.desk_screen.specs.Orders.{typed_of, way, wish, is_connected, user, undone, list_owed, show_owed}
use Rattle.desk_screen.specs.Owning.{is_held_by, own, own_after, own_number, same_number, untold_number, worked_on}
use Rattle.desk_screen.specs.declared.own.Own.{Own}
use Rattle.desk_screen.specs.Plain.{answered, answered_after}
use Rattle.desk_screen.specs.Proper.{IsProper}
use Rattle.desk_screen.specs.Series.{next_in, series, series_after}
use Rattle.desk_screen.specs.Steps.{IsSession, IsTyped, IsWatch}
use Rattle.desk_screen.specs.Typing.{last_key, name, typed}
use Rattle.desk_screen.specs.Watching.{clock, queue, silence, total}
use Rattle.desk_screen.specs.Whole.{HasNoPin, HasOneCause, IsSentOnce}
use Rattle.desk_screen.specs.declared.reaction.Reaction.{Reaction}
use Rattle.desk_screen.specs.declared.screen.Screen.{Screen}

-- what came, and what the screen did
abbrev pub turn : Input → Reaction → Turn
turn i r = record { input = i; asked = r.asked; sent = r.sent; rung = r.rung }

-- the command that an input asks for, behind which this is the own incident: a key's, or the next one of a series
abbrev pub asked_at : Input → Screen → Option Own → Option Command
asked_at (Key key) old own =
    if may_ask old.session.connected old.session.way old.session.wish
    then key_asks old.session.user old.own old.keyboard.last old.keyboard.typed old.keyboard.name key
    else None
asked_at (Answer line) old own =
    if may_ask old.session.connected old.session.way old.session.wish
    then next_in (news (Answer line) old.session.way) own old.series
    else None
asked_at Second old own = None
asked_at Made old own = None
asked_at Lost old own = None

-- one turn of a screen
pub record IsTurn (i : Input) (r : Reaction) (old new : Screen) : Type 0 where
  pub asked : r.asked ≡ asked_at i old new.own
  pub session : IsSession i (news i old.session.way) r (untold_number new.own) old.session new.session
  pub own : new.own ≡ own_after i (news i old.session.way) (worked_on old.session.way) old.session.user old.own
  pub watch : IsWatch i (news i old.session.way) r old.session.user old.watch new.watch
  pub typed :
      IsTyped i (news i old.session.way) (same_number (own_number old.own) (own_number new.own)) old.session.user
      old.keyboard new.keyboard
  pub answered : new.answered ≡ answered_after i old.session.way old.answered
  pub series :
      new.series ≡ series_after i (news i old.session.way) (typed_of old.session.way) r.asked old.session.wish new.own old.series

-- What stands as the own incident of somebody who is logged in, as the desk showed it, was shown as held by him.
abbrev pub Owns : Option (List ℕ) → Option Own → Type 0
Owns user own =
    (name : List ℕ) (o : Own) (view : View)
    → user ≡ Some name → own ≡ Some o → o.view ≡ Some view → is_held_by (Some name) view.holder ≡ true

-- The screen shows what is so of the sitting, and each turn of the sitting was as it has to be.
pub record StandsFor (screen : Screen) (s : Sitting) : Type 0 where
  pub proper : IsProper s
  pub once : IsSentOnce s
  pub cause : HasOneCause s
  pub pin : HasNoPin s
  pub owns : Owns (user s) (own s)
  pub connected : screen.session.connected ≡ is_connected s
  pub user : screen.session.user ≡ user s
  pub way : screen.session.way ≡ way s
  pub wish : screen.session.wish ≡ wish s
  pub undone : screen.session.undone ≡ undone s
  pub show : screen.session.show_owed ≡ show_owed s
  pub list : screen.session.list_owed ≡ list_owed s
  pub silence : screen.session.silence ≡ silence s
  pub own : screen.own ≡ own s
  pub queue : screen.watch.queue ≡ queue s
  pub total : screen.watch.total ≡ total s
  pub clock : screen.watch.clock ≡ clock s
  pub quiet : screen.watch.quiet ≡ quiet s
  pub muted : screen.watch.muted ≡ muted s
  pub last : screen.keyboard.last ≡ last_key s
  pub typed : screen.keyboard.typed ≡ typed s
  pub name : screen.keyboard.name ≡ name s
  pub answered : screen.answered ≡ answered s
  pub series : screen.series ≡ series s
