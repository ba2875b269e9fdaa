-- What becomes of the parts of a screen in one turn.
use Rattle.std.specs.Prelude.{◌≡◌, ℕ, List, Bool, Option, None, if◌then◌else◌}
use Rattle.desk_screen.specs.Bell.{rings, quiet_after, muted_after}
use Rattle.desk_said.specs.declared.said.Said.{Said}
use Rattle.desk_screen.specs.Inputs.{Input}
use Rattle.desk_screen.specs.Orders.{way_left, way_sent, wish_asked, wish_left, connected_after, user_after, undone_asked, undone_lost}
use Rattle.desk_screen.specs.Orders.{list_paid, owed_after, show_paid, due_order}
use Rattle.desk_screen.specs.Typing.{last_after, name_after, typed_after}
use Rattle.desk_screen.specs.Watching.{clock_after, queue_told, silence_after, total_told}
use Rattle.desk_screen.specs.declared.keyboard.Keyboard.{Keyboard}
use Rattle.desk_screen.specs.declared.reaction.Reaction.{Reaction}
use Rattle.desk_screen.specs.declared.session.Session.{Session}
use Rattle.desk_screen.specs.declared.watch.Watch.{Watch}

-- the session with the desk behind a turn
pub record IsSession (i : Input) (said : Said) (r : Reaction) (own : Option ℕ) (old new : Session) : Type 0 where
  pub connected : new.connected ≡ connected_after i old.connected
  pub user : new.user ≡ user_after i said old.user
  pub way : new.way ≡ way_sent r.sent (way_left i old.way)
  pub wish : new.wish ≡ wish_left r.sent (wish_asked i r.asked old.wish)
  pub undone : new.undone ≡ undone_asked r.asked (undone_lost i old.way old.wish old.undone)
  pub show : new.show_owed ≡ show_paid r.sent (owed_after i old.way old.show_owed)
  pub list : new.list_owed ≡ list_paid r.sent (owed_after i old.way old.list_owed)
  pub silence : new.silence ≡ silence_after i old.silence
  pub sent :
      r.sent ≡ due_order new.connected (way_left i old.way) (wish_asked i r.asked old.wish) new.user
      (if owed_after i old.way old.show_owed then own else None) (owed_after i old.way old.list_owed)

-- what is watched behind a turn
pub record IsWatch (i : Input) (said : Said) (r : Reaction) (user : Option (List ℕ)) (old new : Watch) : Type 0 where
  pub queue : new.queue ≡ queue_told said old.clock old.queue
  pub total : new.total ≡ total_told said old.total
  pub clock : new.clock ≡ clock_after i old.clock
  pub rung : r.rung ≡ rings i said old.queue old.quiet old.muted
  pub quiet : new.quiet ≡ (if r.rung then 0 else quiet_after i old.quiet)
  pub muted : new.muted ≡ muted_after i user old.muted

-- what was typed behind a turn, after which the same incident is the operator's own, or another one
pub record IsTyped (i : Input) (said : Said) (same : Bool) (user : Option (List ℕ)) (old new : Keyboard) : Type 0 where
  pub last : new.last ≡ last_after i said same old.last
  pub typed : new.typed ≡ typed_after i said user old.name old.typed
  pub name : new.name ≡ name_after i user old.typed old.name
