-- One turn more of a sitting.
use Rattle.std.proofs.Common.{◌≡◌, ℕ, ◌∷◌, Bool, true, false, cond, Option, Some, None, refl, sym, ap, ◌∙◌, inl, inr}
use Rattle.desk_wire.specs.declared.command.Command.{Command}
use Rattle.desk_wire.specs.declared.command.Command.TheVariants.{Act, Close}
use Rattle.desk_screen.specs.Asking.{may_ask, key_asks}
use Rattle.desk_screen.specs.Bell.{rings, quiet, quiet_after, muted, muted_after}
use Rattle.desk_screen.specs.Inputs.{Input, Key, Answer, Second, Made, Lost, Sitting, news}
use Rattle.desk_screen.specs.Orders.{way, way_left, way_sent, wish, wish_asked, wish_left, is_connected, connected_after, user, user_after}
use Rattle.desk_screen.specs.Orders.{undone, undone_asked, undone_lost, list_owed, list_paid, owed_after, show_owed, show_paid, typed_of}
use Rattle.desk_screen.specs.Owning.{own, own_after, own_number, same_number, worked_on}
use Rattle.desk_screen.specs.Plain.{answered, answered_after}
use Rattle.desk_screen.specs.Proper.{IsAllowed, IsKeyed}
use Rattle.desk_screen.specs.Series.{next_in, series, series_after}
use Rattle.desk_screen.specs.Stands.{IsTurn, StandsFor, asked_at, turn}
use Rattle.desk_screen.specs.Typing.{last_key, last_after, name, name_after, typed, typed_after}
use Rattle.desk_screen.specs.Watching.{clock, clock_after, queue, queue_told, silence, silence_after, total, total_told}
use Rattle.desk_screen.specs.declared.reaction.Reaction.{Reaction}
use Rattle.desk_screen.specs.declared.screen.Screen.{Screen}
use Rattle.desk_screen.proofs.Asked.{asks_is}
use Rattle.desk_screen.proofs.Causes.{one_cause}
use Rattle.desk_screen.proofs.Confirmed.{asked_confirmed}
use Rattle.desk_screen.proofs.Owns.{owns_after}
use Rattle.desk_screen.proofs.Goes.{next_is}
use Rattle.desk_screen.proofs.Told.{asked_told}
use Rattle.desk_screen.proofs.Whole.{has_no_pin, sent_once}
use Rattle.desk_screen.proofs.Sends.{connected_is, due_connected, due_alone, due_typed, fresh, wished, free_is, prompt}

two : {A B C : Type 0} {a a' : A} {b b' : B} (f : A → B → C) → a ≡ a' → b ≡ b' → f a b ≡ f a' b'
two {A} {B} {C} {a} {a'} {b} {b'} f p q = ap (λ x. f x b) p ∙ ap (f a') q

three : {A B C D : Type 0} {a a' : A} {b b' : B} {c c' : C} (f : A → B → C → D) → a ≡ a' → b ≡ b' → c ≡ c' → f a b c ≡ f a' b' c'
three {A} {B} {C} {D} {a} {a'} {b} {b'} {c} {c'} f p q r = ap (λ x. f x b c) p ∙ two (f a') q r

four : {A B C D E : Type 0} {a a' : A} {b b' : B} {c c' : C} {d d' : D} (f : A → B → C → D → E) → a ≡ a' → b ≡ b' → c ≡ c' → d ≡ d' → f a b c d ≡ f a' b' c' d'
four {A} {B} {C} {D} {E} {a} {a'} {b} {b'} {c} {c'} {d} {d'} f p q r t = ap (λ x. f x b c d) p ∙ three (f a') q r t

five : {A B C D E F : Type 0} {a a' : A} {b b' : B} {c c' : C} {d d' : D} {e e' : E} (f : A → B → C → D → E → F) → a ≡ a' → b ≡ b' → c ≡ c' → d ≡ d' → e ≡ e'
    → f a b c d e ≡ f a' b' c' d' e'
five {A} {B} {C} {D} {E} {F} {a} {a'} {b} {b'} {c} {c'} {d} {d'} {e} {e'} f p q r t u = ap (λ x. f x b c d e) p ∙ four (f a') q r t u

-- what a key asks of a screen is what it asks of the sitting
asks_of : (old : Screen) (s : Sitting) (key : ℕ) → StandsFor old s
    → key_asks old.session.user old.own old.keyboard.last old.keyboard.typed old.keyboard.name key ≡ key_asks (user s) (own s) (last_key s) (typed s) (name s) key
asks_of old s key h = five (λ u o l t n. key_asks u o l t n key) h.user h.own h.last h.typed h.name

asked_may : (may : Bool) (asks : Option Command) (c : Command) → cond may asks None ≡ Some c → (may ≡ true) × (asks ≡ Some c)
asked_may true asks c is = (refl, is)
asked_may false asks c is = absurd cc

record Asked (s : Sitting) (i : Input) (r : Reaction) (c : Command) : Type 0 where
  by : IsKeyed s (turn i r) c
  free : (typed_of (way s) ≡ None) × (wish s ≡ None)
  joined : is_connected s ≡ true

-- the own incident behind a turn
owned_is : (i : Input) (r : Reaction) (old new : Screen) (s : Sitting) → IsTurn i r old new → StandsFor old s
    → new.own ≡ own_after i (news i (way s)) (worked_on (way s)) (user s) (own s)
owned_is i r old new s t h = t.own ∙ three (λ w u o. own_after i (news i w) (worked_on w) u o) h.way h.user h.own

own_is : (i : Input) (r : Reaction) (old new : Screen) (s : Sitting) → IsTurn i r old new → StandsFor old s → new.own ≡ own (turn i r ∷ s)
unfolding own
own_is i r old new s t h = owned_is i r old new s t h

asked_is : (i : Input) (r : Reaction) (old new : Screen) (s : Sitting) (c : Command) → StandsFor old s → new.own ≡ own (turn i r ∷ s)
    → asked_at i old new.own ≡ Some c → Asked s i r c
asked_is (Key key) r old new s c h owned is =
    let m = asked_may (may_ask old.session.connected old.session.way old.session.wish)
    (key_asks old.session.user old.own old.keyboard.last old.keyboard.typed old.keyboard.name key) c is in
    let f = free_is old.session.connected old.session.way old.session.wish m.0 in
    record {
      by = inl (key, refl, asks_is (user s) (own s) (last_key s) (typed s) (name s) key c (sym (asks_of old s key h) ∙ m.1));
      free = (ap typed_of (sym h.way) ∙ f.0, sym h.wish ∙ f.1);
      joined = sym h.connected ∙ connected_is old.session.connected old.session.way old.session.wish m.0;
    }
asked_is (Answer line) r old new s c h owned is =
    let m = asked_may (may_ask old.session.connected old.session.way old.session.wish)
    (next_in (news (Answer line) old.session.way) new.own old.series) c is in
    let f = free_is old.session.connected old.session.way old.session.wish m.0 in
    record {
      by = inr (next_is s (turn (Answer line) r) c (series s) h.proper refl
          (sym (three (λ w o x. next_in (news (Answer line) w) o x) h.way owned h.series) ∙ m.1));
      free = (ap typed_of (sym h.way) ∙ f.0, sym h.wish ∙ f.1);
      joined = sym h.connected ∙ connected_is old.session.connected old.session.way old.session.wish m.0;
    }
asked_is Second r old new s c h owned is = absurd cc
asked_is Made r old new s c h owned is = absurd cc
asked_is Lost r old new s c h owned is = absurd cc

allowed : (i : Input) (r : Reaction) (old new : Screen) (s : Sitting) → IsTurn i r old new → StandsFor old s → IsAllowed s (turn i r)
allowed i r old new s t h = let asked = λ (c : Command) (is : r.asked ≡ Some c). asked_is i r old new s c h (own_is i r old new s t h) (sym t.asked ∙ is) in record {
  over = λ order is. ap (connected_after i) (sym h.connected) ∙ sym t.session.connected ∙ due_connected _ _ _ _ _ _ order (sym t.session.sent ∙ is);
  alone = λ order is. ap (way_left i) (sym h.way) ∙ due_alone _ _ _ _ _ _ order (sym t.session.sent ∙ is);
  wished = λ c is. wished i r.asked (wish s) c (ap (wish_asked i r.asked) (sym h.wish) ∙ due_typed _ _ _ _ _ _ c (sym t.session.sent ∙ is));
  keyed = λ c is. (asked c is).by;
  told = λ number step outcome is. asked_told s (turn i r) number step outcome (asked (Act number step outcome) is).by;
  confirmed = λ number code is. asked_confirmed s (turn i r) number code (asked (Close number code) is).by;
  fresh = λ c is. fresh i r.asked old.session.wish c (due_typed _ _ _ _ _ _ c (sym t.session.sent ∙ is));
  prompt = λ c is answer. t.session.sent
      ∙ prompt i new.session.connected old.session.connected old.session.way r.asked old.session.wish _ _ _ c answer t.session.connected
      (h.connected ∙ (asked c is).joined) is;
  joined = λ c is. (asked c is).joined;
  one = λ c is. (asked c is).free;
  bell = t.watch.rung ∙ four (λ w q n m. rings i (news i w) q n m) h.way h.queue h.quiet h.muted;
}

-- A screen that stands for a sitting stands for it with one turn more.
pub goes_on : (i : Input) (r : Reaction) (old new : Screen) (s : Sitting) → IsTurn i r old new → StandsFor old s → StandsFor new (turn i r ∷ s)
unfolding is_connected user way wish undone show_owed list_owed silence own queue total clock quiet muted last_key typed name answered series
goes_on i r old new s t h = let owned = owned_is i r old new s t h in record {
  proper = (allowed i r old new s t h, h.proper);
  once = sent_once (turn i r ∷ s) (allowed i r old new s t h, h.proper);
  cause = one_cause (turn i r) s (allowed i r old new s t h) h.proper h.cause;
  pin = has_no_pin (turn i r ∷ s);
  connected = t.session.connected ∙ ap (connected_after i) h.connected;
  user = t.session.user ∙ two (λ w u. user_after i (news i w) u) h.way h.user;
  way = t.session.way ∙ ap (λ w. way_sent r.sent (way_left i w)) h.way;
  wish = t.session.wish ∙ ap (λ w. wish_left r.sent (wish_asked i r.asked w)) h.wish;
  undone = t.session.undone ∙ three (λ w x u. undone_asked r.asked (undone_lost i w x u)) h.way h.wish h.undone;
  show = t.session.show ∙ two (λ w o. show_paid r.sent (owed_after i w o)) h.way h.show;
  list = t.session.list ∙ two (λ w o. list_paid r.sent (owed_after i w o)) h.way h.list;
  silence = t.session.silence ∙ ap (silence_after i) h.silence;
  own = owned;
  owns = owns_after i (news i (way s)) (worked_on (way s)) (user s) (own s) h.owns;
  queue = t.watch.queue ∙ three (λ w c q. queue_told (news i w) c q) h.way h.clock h.queue;
  total = t.watch.total ∙ two (λ w n. total_told (news i w) n) h.way h.total;
  clock = t.watch.clock ∙ ap (clock_after i) h.clock;
  quiet = t.watch.quiet ∙ ap (λ q. cond (r.rung) 0 (quiet_after i q)) h.quiet;
  muted = t.watch.muted ∙ two (muted_after i) h.user h.muted;
  last = t.typed.last ∙ four (λ w o p l. last_after i (news i w) (same_number (own_number o) (own_number p)) l) h.way h.own owned h.last;
  typed = t.typed.typed ∙ four (λ w u n x. typed_after i (news i w) u n x) h.way h.user h.name h.typed;
  name = t.typed.name ∙ three (name_after i) h.user h.typed h.name;
  answered = t.answered ∙ two (answered_after i) h.way h.answered;
  series = t.series ∙ four (λ w x o y. series_after i (news i w) (typed_of w) r.asked x o y) h.way h.wish owned h.series;
}
