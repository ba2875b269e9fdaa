-- What a delivery is told over an ideal list: a repeat where its number stands, and otherwise that its message is taken.
use Rattle.std.proofs.Common.{◌≡◌, ℕ, List, [], true, refl, sym, ap, ◌∙◌, subst, true≢false, take}
use Rattle.std.specs.Prelude.{Option, Some, None, Result, Ok, Err, is_some}
use Rattle.std.specs.List.{find}
use Rattle.std.specs.Option.{option_map}
use Rattle.std.specs.Result.{result_ok, result_unwrap_or}
use Rattle.arc_data.specs.declared.event.Event.TheVariants.{Message as Sent}
use Rattle.arc_data.specs.declared.event.Message.{Message}
use Rattle.arc_data.specs.declared.reply.Reply.{Reply}
use Rattle.arc_data.specs.declared.setup_fault.SetupFault.{SetupFault}
use Rattle.alarm_rules.specs.Setups.{Setup, setup_of, has_account}
use Rattle.centre_rules.specs.Summary.{Past, nothing}
use Rattle.centre_rules.specs.Answers.{answer, knows_account, taken_or, repeats}
use Rattle.centre_laws.specs.Schedules.{Step, Schedule, Item, entries, stands, IsPanels}
use Rattle.centre_laws.specs.Spacing.{message_in, IsSpaced}
use Rattle.centre_laws.specs.Sendings.{IsRepeat, IsTold}
use Rattle.centre_laws.proofs.Lists.{all_at, place_of}
use Rattle.centre_laws.proofs.Upon.{IsOver, pasts, text_stays, messages_are}
use Rattle.centre_laws.proofs.Recent.{no_repeat, has_repeat}
use Rattle.centre_laws.proofs.Shape.{IsTraced, AreTraced}

-- an account of the setup is known once the setup is in force
known : (r : Result Setup SetupFault) (account : List ℕ) → has_account (result_unwrap_or r (record { accounts = []; plans = []; operators = []; lapse = None })) account ≡ true
    → knows_account (result_ok r) account ≡ true
known (Ok setup) account has = has
known (Err fault) account has = absurd (true≢false (sym has))

-- the reply to a message, by what was found
abbrev pub reply_by : Option Past → Reply
reply_by o = taken_or (option_map (λ p. p.at) o)

-- what is found is told as a repeat
found_is_told : (o : Option Past) → is_some o ≡ true → IsRepeat (reply_by o)
found_is_told None some = absurd (true≢false (sym some))
found_is_told (Some p) some = (p.at, refl)

-- the answer to a panel's message, by the messages of the list
answer_is : (x : Schedule) (w : List Item) (m : Message) (via : List ℕ) (at : ℕ) → IsOver x w → IsPanels x.text m
    → answer nothing (entries w) (Sent m via) at ≡ reply_by (find (repeats m at) (take 32 (pasts m.account w)))
answer_is x w m via at over of =
    rw (text_stays x w over, known (setup_of x.text) m.account of.account, of.signals, messages_are x m.account w over) refl

-- where the number stands, the message itself is found
told_again : (ss : List Step) (w : List Item) (n : ℕ) (m : Message) (at : ℕ) → AreTraced ss w → IsSpaced n m at ss w → stands n w ≡ true
    → is_some (find (repeats m at) (take 32 (pasts m.account w))) ≡ true
told_again ss w n m at traced spaced stood =
    let a = place_of n w stood in
    let near = spaced.again a.later a.before a.item a.split a.number in
    let own = all_at (IsTraced ss) a.before a.item a.later (subst (AreTraced ss) a.split traced) n m a.number spaced.same in
    rw a.split (has_repeat 32 m at a.item a.before a.later (ap message_in own.event) near.young near.few)

-- what a spaced delivery is told
pub told : (x : Schedule) (ss : List Step) (w : List Item) (n : ℕ) (m : Message) (via : List ℕ) (at : ℕ) → IsOver x w → AreTraced ss w → IsPanels x.text m
    → IsSpaced n m at ss w → IsTold (stands n w) (answer nothing (entries w) (Sent m via) at)
told x ss w n m via at over traced of spaced = let is = answer_is x w m via at over of in record {
  again = λ stood. subst IsRepeat (sym is) (found_is_told _ (told_again ss w n m at traced spaced stood));
  first = λ none. is ∙ ap reply_by (no_repeat 32 m at w (spaced.fresh none));
}
