-- What the marks of an ideal list tell: the setup in force, and the messages.
use Rattle.std.proofs.Common.{◌≡◌, ℕ, List, [], ◌∷◌, ◌++◌, true, false, cond, map, refl, ap, ◌∙◌}
use Rattle.std.specs.Prelude.{Option, Some, None}
use Rattle.std.specs.List.{AllByRecursion}
use Rattle.std.specs.Str.{bytes_eq}
use Rattle.arc_data.specs.declared.event.Event.{Event}
use Rattle.arc_data.specs.declared.event.Event.TheVariants.{Message as Sent, Tick, Claim, Next, Act as Do, Release, Close}
use Rattle.arc_data.specs.declared.event.Message.{Message}
use Rattle.arc_data.specs.declared.reply.Reply.{Reply}
use Rattle.arc_data.specs.declared.reply.Reply.TheVariants.{Claimed, Recorded, Released, Closed}
use Rattle.arc_data.specs.declared.step.Acted.{Acted}
use Rattle.centre_rules.specs.Summary.{Past, nothing}
use Rattle.centre_rules.specs.Carrying.{sent, raised}
use Rattle.centre_rules.specs.Marks.{Mark, Sends, Carries, Carried, text, messages}
use Rattle.centre_rules.specs.History.{is_recorded, acted_by, claim_marks, act_marks, release_marks, close_marks, marks, marks_of, onto}
use Rattle.centre_rules.proofs.Standing.{is_adopt, text_marked}
use Rattle.centre_laws.specs.Schedules.{Schedule, Item, entries, beginning}
use Rattle.centre_laws.specs.Spacing.{message_in}

-- the messages of an account, with one more where the event is one
abbrev pub past_upon : List ℕ → ℕ → Option Message → List Past → List Past
past_upon account at None ps = ps
past_upon account at (Some m) ps = cond (bytes_eq m.account account) (record { message = m; at = at } ∷ ps) ps

-- the messages of an account in an ideal list, without marks
abbrev pub pasts : List ℕ → List Item → List Past
pasts account [] = []
pasts account (i ∷ w) = past_upon account i.entry.at (message_in i.entry.event) (pasts account w)

-- an item behind the first two: it is recorded, and it is no Adopt
pub record IsLater (i : Item) : Type 0 where
  pub recorded : is_recorded i.entry.reply ≡ true
  pub adopts : is_adopt i.entry.event ≡ false

-- the list is that of the beginning, with later items
pub record IsOver (x : Schedule) (w : List Item) : Type 0 where
  pub later : List Item
  pub is : w ≡ later ++ beginning x
  pub each : AllByRecursion IsLater later

-- text_stays, by the later items
text_later : (x : Schedule) (w : List Item) → AllByRecursion IsLater w
    → text nothing (marks nothing (entries (w ++ beginning x))) ≡ Some x.text
text_later x [] all = refl
text_later x (i ∷ w) all =
    text_marked nothing i.entry (marks nothing (entries (w ++ beginning x))) all.0.adopts ∙ text_later x w all.1

-- the setup in force is that of the schedule
pub text_stays : (x : Schedule) (w : List Item) → IsOver x w → text nothing (marks nothing (entries w)) ≡ Some x.text
text_stays x w over = ap (λ v. text nothing (marks nothing (entries v))) over.is ∙ text_later x over.later over.each

-- Messages. Signals, and what operators do, are none.

messages_carried : (account : List ℕ) (xs : List Carried) (ms : List Mark)
    → messages nothing (onto (map Carries xs) ms) account ≡ messages nothing ms account
messages_carried account [] ms = refl
messages_carried account (x ∷ xs) ms = messages_carried account xs (Carries x ∷ ms)

messages_claim : (account o : List ℕ) (at : ℕ) (r : Reply) (ms : List Mark)
    → messages nothing (onto (claim_marks o at r) ms) account ≡ messages nothing ms account
messages_claim account o at (Claimed n class a) ms = refl
messages_claim account o at r ms = refl

messages_act : (account : List ℕ) (a : Acted) (r : Reply) (ms : List Mark)
    → messages nothing (onto (act_marks a r) ms) account ≡ messages nothing ms account
messages_act account a (Recorded n left) ms = refl
messages_act account a r ms = refl

messages_release : (account : List ℕ) (r : Reply) (ms : List Mark)
    → messages nothing (onto (release_marks r) ms) account ≡ messages nothing ms account
messages_release account (Released n) ms = refl
messages_release account r ms = refl

messages_close : (account : List ℕ) (r : Reply) (ms : List Mark)
    → messages nothing (onto (close_marks r) ms) account ≡ messages nothing ms account
messages_close account (Closed n) ms = refl
messages_close account r ms = refl

-- an event adds to the messages where it is one
messages_upon : (account : List ℕ) (e : Event) (at : ℕ) (r : Reply) (ms : List Mark)
    → messages nothing (onto (marks_of nothing ms e at r) ms) account ≡ past_upon account at (message_in e) (messages nothing ms account)
messages_upon account (Sent m via) at r ms = messages_carried account (sent nothing ms m via at) (Sends m at ∷ ms)
messages_upon account Tick at r ms = messages_carried account (raised nothing ms at) ms
messages_upon account (Claim o n) at r ms = messages_claim account o at r ms
messages_upon account (Next o) at r ms = messages_claim account o at r ms
messages_upon account (Do o n step outcome) at r ms = messages_act account (acted_by o step outcome at) r ms
messages_upon account (Release o n) at r ms = messages_release account r ms
messages_upon account (Close o n code) at r ms = messages_close account r ms
messages_upon account other at r ms = refl

-- messages_are, by the later items
messages_later : (x : Schedule) (account : List ℕ) (w : List Item) → AllByRecursion IsLater w
    → messages nothing (marks nothing (entries (w ++ beginning x))) account ≡ pasts account (w ++ beginning x)
messages_later x account [] all = refl
messages_later x account (i ∷ w) all =
    let ms = marks nothing (entries (w ++ beginning x)) in
    rw all.0.recorded (messages_upon account i.entry.event i.entry.at i.entry.reply ms
    ∙ ap (past_upon account i.entry.at (message_in i.entry.event)) (messages_later x account w all.1))

-- the messages that the marks tell are those of the list
pub messages_are : (x : Schedule) (account : List ℕ) (w : List Item) → IsOver x w
    → messages nothing (marks nothing (entries w)) account ≡ pasts account w
messages_are x account w over = rw over.is (messages_later x account over.later over.each)
