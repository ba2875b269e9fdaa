-- What is known of the marks that a legal entry leaves: they are of its moment, and of what its event and its reply say.
use Rattle.std.proofs.Common.{◌≡◌, ℕ, List, [], ◌∷◌, ◌++◌, map, Bool, true, false, cond, Option, Some, None, refl, sym, ap, ◌∙◌, arith}
use Rattle.std.specs.Prelude.{◌&&◌, IsOk, is_ok, unwrap_or, option_and_then}
use Rattle.std.specs.Result.{result_ok}
use Rattle.std.specs.List.{filter, flat_map}
use Rattle.std.specs.Str.{bytes_eq}
use Rattle.std.specs.Option.{option_map_or}
use Rattle.std.proofs.lemmas.Bool.{false≢true}
use Rattle.arc_data.specs.WellFormed.{IsWellFormed, IsMessage, IsSent, IsText}
use Rattle.arc_data.specs.declared.event.Event.{Event}
use Rattle.arc_data.specs.declared.event.Event.TheVariants.{Adopt, Start, Message as Sent, Beat, Tick, Claim, Next, Act as Do, Release, Close, Show, List as Rows}
use Rattle.arc_data.specs.declared.event.Message.{Message}
use Rattle.arc_data.specs.declared.reply.Reply.{Reply}
use Rattle.arc_data.specs.declared.reply.Reply.TheVariants.{Adopted, Claimed, Recorded, Released, Closed, HeldBy, Expected, NotYours, NotOpen, BusyWith, NoneWaiting}
use Rattle.arc_data.specs.declared.signal.Class.{Class}
use Rattle.arc_data.specs.declared.signal.Class.TheVariants.{CommFail, Irregular, LateClose}
use Rattle.arc_data.specs.declared.signal.Signal.{Signal}
use Rattle.arc_data.specs.declared.step.Acted.{Acted}
use Rattle.arc_data.specs.declared.step.Step.{Step}
use Rattle.arc_data.specs.Digits.{is_name}
use Rattle.arc_data.specs.Steps.{same_step, is_step, fits}
use Rattle.alarm_rules.specs.Plans.{expected_step, left}
use Rattle.centre_rules.proofs.Tables.{numbered_number}
use Rattle.alarm_rules.specs.Setups.{Setup, Account, account_of, setup_of}
use Rattle.alarm_rules.specs.Signals.{signals, has_signals}
use Rattle.centre_rules.specs.Summary.{Summary}
use Rattle.centre_rules.specs.Marks.{Mark, Adopts, Starts, Sends, Hears, Carries, Claims, Acts, Releases, Closes, Carried, text, force}
use Rattle.centre_rules.specs.Cases.{Incident}
use Rattle.centre_rules.specs.Standing.{standing}
use Rattle.centre_rules.specs.Carrying.{carried, carried_sent, own_signal, if_in_force, is_irregular, sent, raised, raised_where, is_silent, is_late}
use Rattle.centre_rules.specs.Desks.{numbered, held_by, best, claim_unless, claim_from, on_claim, on_next, holds, act_when, on_act, if_held, claimed}
use Rattle.centre_rules.specs.History.{is_recorded, claim_marks, act_marks, release_marks, close_marks, marks_of, acted_by}
use Rattle.centre_rules.specs.Answers.{if_known, knows_account, knows_operator, taken_or, repeat_of, answer_over}
use Rattle.summary_rules.specs.Lists.{Every}
use Rattle.summary_rules.specs.Fields.{Given, IsAccount, IsTextUpTo}
use Rattle.summary_rules.proofs.Everies.{every_append, every_map, every_filter}
use Rattle.summary_rules.proofs.SetupMeaning.{IsGoodAccount, IsGoodSetup, setup_good}
use Rattle.summary_rules.proofs.PlanSteps.{AreGoodSteps, steps_good}
use Rattle.summary_rules.proofs.SignalCodes.{codes_of}
use Rattle.summary_rules.proofs.LineNames.{line_short}

-- a setup text that comes into force
pub record IsAdopted (text : List ℕ) : Type 0 where
  pub setup : IsOk (setup_of text)
  pub formed : IsText text

-- a message that is recorded at this moment
pub record IsSentAt (at : ℕ) (m : Message) (moment : ℕ) : Type 0 where
  pub moment_is : moment ≡ at
  pub message : IsMessage m
  pub signals : has_signals m.token m.content ≡ true

-- an account that is heard at this moment
pub record IsHeardAt (at : ℕ) (account : List ℕ) (moment : ℕ) : Type 0 where
  pub moment_is : moment ≡ at
  pub account_ok : IsAccount account

-- a signal at this moment: of an account, with a short code, by a line or none, and with the steps of a plan
pub record IsCarriedAt (at : ℕ) (x : Carried) : Type 0 where
  pub moment_is : x.at ≡ at
  pub account_ok : IsAccount x.account
  pub code : IsTextUpTo 32 x.signal.code
  pub via : IsTextUpTo 16 x.via
  pub good_steps : AreGoodSteps x.steps

-- a claim at this moment, of an operator that holds none of these as they stand
pub record IsClaimedAt (at : ℕ) (operator : List ℕ) (moment : ℕ) (is : List Incident) : Type 0 where
  pub moment_is : moment ≡ at
  pub name : is_name operator ≡ true
  pub none : held_by operator is ≡ None

-- an act of a step, with an outcome that fits it, by somebody with a name
pub record IsGoodAct (acted : Acted) : Type 0 where
  pub known : is_step acted.step ≡ true
  pub outcome : fits acted.step acted.outcome ≡ true
  pub name : is_name acted.operator ≡ true

-- an act at this moment, of the step that is expected next of an open incident, by who holds it as it stands
pub record IsActedAt (at number : ℕ) (acted : Acted) (is : List Incident) : Type 0 where
  pub moment_is : acted.at ≡ at
  pub incident : Incident
  pub found : numbered number is ≡ Some incident
  pub held : holds acted.operator incident ≡ true
  pub awaited : Step
  pub expected : expected_step incident.steps incident.acts ≡ Some awaited
  pub same : same_step acted.step awaited ≡ true
  pub good : IsGoodAct acted

-- what is known of a mark of an entry of this moment, where these incidents are open before it, as they stand then
abbrev pub IsFine : List Incident → ℕ → Mark → Type 0
IsFine is at (Adopts text) = IsAdopted text
IsFine is at (Starts moment) = moment ≡ at
IsFine is at (Sends m moment) = IsSentAt at m moment
IsFine is at (Hears account moment) = IsHeardAt at account moment
IsFine is at (Carries x) = IsCarriedAt at x
IsFine is at (Claims operator number moment) = IsClaimedAt at operator moment is
IsFine is at (Acts number acted) = IsActedAt at number acted is
IsFine is at (Releases number) = Unit {0}
IsFine is at (Closes number) = Unit {0}

-- of each of these marks, put upon others in turn
abbrev pub AreFine : Summary → List Mark → ℕ → List Mark → Type 0
AreFine s ms at [] = Unit {0}
AreFine s ms at (x ∷ xs) = IsFine (standing s ms at) at x × AreFine s (x ∷ ms) at xs

-- Signals.

carried_fine : (s : Summary) (ms : List Mark) (at : ℕ) (xs : List Carried) → Every (IsCarriedAt at) xs → AreFine s ms at (map Carries xs)
carried_fine s ms at [] w = tt
carried_fine s ms at (x ∷ xs) w = (w.0, carried_fine s (Carries x ∷ ms) at xs w.1)

force_good : (o : Option (List ℕ)) → Given IsGoodSetup (option_and_then (λ text. result_ok (setup_of text)) o)
force_good None = tt
force_good (Some text) = setup_good text

under_any : (at : ℕ) (o : Option Setup) (f : Setup → List Carried) → Given IsGoodSetup o → ((setup : Setup) → IsGoodSetup setup → Every (IsCarriedAt at) (f setup))
    → Every (IsCarriedAt at) (if_in_force o f)
under_any at None f w g = tt
under_any at (Some setup) f w g = g setup w

carried_good : (setup : Setup) (account : List ℕ) (at : ℕ) (by_tick : Bool) (via : List ℕ) (x : Signal) → IsGoodSetup setup → IsAccount account → IsTextUpTo 16 via
    → IsTextUpTo 32 x.code → IsCarriedAt at (carried setup account at by_tick via x)
carried_good setup account at by_tick via x w ok line code =
    record { moment_is = refl; account_ok = ok; code = code; via = line; good_steps = steps_good setup account x.class at w }

-- the code of a signal that no panel sent
dash : (class : Class) → IsTextUpTo 32 (own_signal class).code
dash class = record { size = omega arith; bytes = (omega arith, tt) }

-- no line
no_line : IsTextUpTo 16 []
no_line = record { size = omega arith; bytes = tt }

irregular_at : (at : ℕ) (b : Bool) (x y : Carried) → IsCarriedAt at x → IsCarriedAt at y → Every (IsCarriedAt at) (x ∷ cond b (y ∷ []) [])
irregular_at at true x y v w = (v, (w, tt))
irregular_at at false x y v w = (v, tt)

every_flat_of : {A B : Type 0} (P : A → Type 0) (Q : B → Type 0) (f : A → List B) → ((x : A) → P x → Every Q (f x)) → (xs : List A) → Every P xs → Every Q (flat_map f xs)
every_flat_of P Q f g [] w = tt
every_flat_of P Q f g (x ∷ xs) w = every_append Q (f x) (flat_map f xs) (g x w.0) (every_flat_of P Q f g xs w.1)

sent_at : (s : Summary) (ms : List Mark) (m : Message) (via : List ℕ) (at : ℕ) → IsSent m via → Every (IsCarriedAt at) (sent s ms m via at)
sent_at s ms m via at formed =
    let ok = formed.message.account in
    under_any at (force s ms) (λ setup. flat_map (carried_sent setup m.account via at) (unwrap_or (signals m.token m.content) [])) (force_good (text s ms))
    (λ setup w. every_flat_of (λ (x : Signal). IsTextUpTo 32 x.code) (IsCarriedAt at) (carried_sent setup m.account via at)
    (λ x code. irregular_at at (is_irregular (account_of setup m.account) x.kind at) (carried setup m.account at false via x) (carried setup m.account at false [] (own_signal Irregular))
    (carried_good setup m.account at false via x w ok (line_short via formed.line_name) code) (carried_good setup m.account at false [] (own_signal Irregular) w ok no_line (dash Irregular)))
    (unwrap_or (signals m.token m.content) []) (codes_of m.token m.content formed.message.bytes))

raised_where_at : (test : Account → Bool) (class : Class) (at : ℕ) (setup : Setup) → IsGoodSetup setup → Every (IsCarriedAt at) (raised_where test class at setup)
raised_where_at test class at setup w =
    every_map IsGoodAccount (IsCarriedAt at) (λ (a : Account). carried setup a.number at true [] (own_signal class))
    (λ a v. carried_good setup a.number at true [] (own_signal class) w v.number no_line (dash class)) (filter test setup.accounts) (every_filter IsGoodAccount test setup.accounts w.accounts)

raised_at : (s : Summary) (ms : List Mark) (at : ℕ) → Every (IsCarriedAt at) (raised s ms at)
raised_at s ms at =
    under_any at (force s ms) (λ setup. raised_where (is_silent s ms at) CommFail at setup ++ raised_where (is_late s ms at) LateClose at setup) (force_good (text s ms))
    (λ setup w. every_append (IsCarriedAt at) (raised_where (is_silent s ms at) CommFail at setup) (raised_where (is_late s ms at) LateClose at setup)
    (raised_where_at (is_silent s ms at) CommFail at setup w) (raised_where_at (is_late s ms at) LateClose at setup w))

-- Replies.

known : (b : Bool) (r answer : Reply) → r ≡ if_known b answer → is_recorded r ≡ true → b ≡ true
known true r answer e recorded = refl
known false r answer e recorded = absurd (false≢true (sym (ap is_recorded e) ∙ recorded))

second : (b c : Bool) → (b && c) ≡ true → c ≡ true
second true c e = e
second false c e = absurd (false≢true e)

-- an operator whose claim is answered so holds none

claims : Reply → Bool
claims (Claimed number class account) = true
claims r = false

by_known : (b : Bool) (r : Reply) → claims (if_known b r) ≡ true → claims r ≡ true
unfolding claims
by_known true r c = c
by_known false r c = absurd (false≢true c)

by_mine : (mine : Option Incident) (i : Incident) → claims (claim_unless mine i) ≡ true → mine ≡ None
unfolding claims
by_mine None i c = refl
by_mine (Some j) i c = absurd (false≢true c)

by_same : (operator x : List ℕ) (is : List Incident) (i : Incident) (b : Bool) → claims (cond b (claim_unless (held_by operator is) i) (HeldBy x)) ≡ true → held_by operator is ≡ None
unfolding claims
by_same operator x is i true c = by_mine (held_by operator is) i c
by_same operator x is i false c = absurd (false≢true c)

by_holder : (operator : List ℕ) (is : List Incident) (i : Incident) (h : Option (List ℕ)) → claims (claim_from operator is i h) ≡ true → held_by operator is ≡ None
by_holder operator is i None c = by_mine (held_by operator is) i c
by_holder operator is i (Some x) c = by_same operator x is i (bytes_eq x operator) c

by_found : (operator : List ℕ) (is : List Incident) (number : ℕ) (found : Option Incident) → claims (option_map_or (λ (i : Incident). claim_from operator is i i.holder) found (NotOpen number)) ≡ true → held_by operator is ≡ None
unfolding claims
by_found operator is number None c = absurd (false≢true c)
by_found operator is number (Some i) c = by_holder operator is i i.holder c

by_next : (mine waiting : Option Incident) → claims (option_map_or (λ (j : Incident). BusyWith j.number) mine (option_map_or claimed waiting NoneWaiting)) ≡ true → mine ≡ None
unfolding claims
by_next None waiting c = refl
by_next (Some j) waiting c = absurd (false≢true c)

claim_fine : (s : Summary) (ms : List Mark) (at : ℕ) (operator : List ℕ) (r : Reply) → is_name operator ≡ true → (claims r ≡ true → held_by operator (standing s ms at) ≡ None) → AreFine s ms at (claim_marks operator at r)
unfolding claims
claim_fine s ms at operator (Claimed number class account) named none = (record { moment_is = refl; name = named; none = none refl }, tt)
claim_fine s ms at operator r named none = tt

-- an act that is answered so is of the step that is expected

-- the number of the incident that the reply names
acts_on : Reply → Option ℕ
acts_on (Recorded number left) = Some number
acts_on r = None

act_known : (b : Bool) (r : Reply) (n : ℕ) → acts_on (if_known b r) ≡ Some n → acts_on r ≡ Some n
unfolding acts_on
act_known true r n c = c
act_known false r n c = absurd (cc)

act_same : (at number n : ℕ) (acted : Acted) (is : List Incident) (i : Incident) (s : Step) (b : Bool) → IsGoodAct acted → acted.at ≡ at → numbered number is ≡ Some i
    → holds acted.operator i ≡ true → expected_step i.steps i.acts ≡ Some s → same_step acted.step s ≡ b
    → acts_on (cond b (Recorded i.number (left i.steps (i.acts ++ acted ∷ []))) (Expected (Some s))) ≡ Some n → IsActedAt at n acted is
unfolding acts_on
act_same at number n acted is i s true good moment found held expected same c =
    let equal : i.number ≡ n = cc in
    record {
      moment_is = moment;
      incident = i;
      found = ap (λ k. numbered k is) (sym equal ∙ numbered_number number is i found) ∙ found;
      held = held;
      awaited = s;
      expected = expected;
      same = same;
      good = good;
    }
act_same at number n acted is i s false good moment found held expected same c = absurd (cc)

act_expected : (at number n : ℕ) (acted : Acted) (is : List Incident) (i : Incident) (o : Option Step) → IsGoodAct acted → acted.at ≡ at → numbered number is ≡ Some i
    → holds acted.operator i ≡ true → expected_step i.steps i.acts ≡ o → acts_on (act_when acted i o) ≡ Some n → IsActedAt at n acted is
unfolding acts_on
act_expected at number n acted is i None good moment found held expected c = absurd (cc)
act_expected at number n acted is i (Some s) good moment found held expected c =
    act_same at number n acted is i s (same_step acted.step s) good moment found held expected refl c

act_held : (at number n : ℕ) (acted : Acted) (is : List Incident) (i : Incident) (b : Bool) → IsGoodAct acted → acted.at ≡ at → numbered number is ≡ Some i
    → holds acted.operator i ≡ b → acts_on (cond b (act_when acted i (expected_step i.steps i.acts)) (NotYours number)) ≡ Some n → IsActedAt at n acted is
unfolding acts_on
act_held at number n acted is i true good moment found held c = act_expected at number n acted is i (expected_step i.steps i.acts) good moment found held refl c
act_held at number n acted is i false good moment found held c = absurd (cc)

act_found : (at number n : ℕ) (acted : Acted) (is : List Incident) (f : Option Incident) → IsGoodAct acted → acted.at ≡ at → numbered number is ≡ f
    → acts_on (if_held acted.operator number f (λ i. act_when acted i (expected_step i.steps i.acts))) ≡ Some n → IsActedAt at n acted is
unfolding acts_on
act_found at number n acted is None good moment found c = absurd (cc)
act_found at number n acted is (Some i) good moment found c = act_held at number n acted is i (holds acted.operator i) good moment found refl c

act_fine : (s : Summary) (ms : List Mark) (at : ℕ) (acted : Acted) (r : Reply) → ((n : ℕ) → acts_on r ≡ Some n → IsActedAt at n acted (standing s ms at)) → AreFine s ms at (act_marks acted r)
unfolding acts_on
act_fine s ms at acted (Recorded number left) f = (f number refl, tt)
act_fine s ms at acted r f = tt

release_fine : (s : Summary) (ms : List Mark) (at : ℕ) (r : Reply) → AreFine s ms at (release_marks r)
release_fine s ms at (Released number) = (tt, tt)
release_fine s ms at r = tt

close_fine : (s : Summary) (ms : List Mark) (at : ℕ) (r : Reply) → AreFine s ms at (close_marks r)
close_fine s ms at (Closed number) = (tt, tt)
close_fine s ms at r = tt

-- the marks of a recorded entry
pub fine_marks : (s : Summary) (ms : List Mark) (e : Event) (at : ℕ) (r : Reply) → IsWellFormed e → r ≡ answer_over s ms e at → is_recorded r ≡ true
    → AreFine s ms at (marks_of s ms e at r)
fine_marks s ms (Adopt text) at r formed is recorded = (record { setup = known (is_ok (setup_of text)) r Adopted is recorded; formed = formed }, tt)
fine_marks s ms Start at r formed is recorded = (refl, tt)
fine_marks s ms (Sent m via) at r formed is recorded =
    let both = known (knows_account (force s ms) m.account && has_signals m.token m.content) r (taken_or (repeat_of s ms m at)) is recorded in (
      record { moment_is = refl; message = formed.message; signals = second (knows_account (force s ms) m.account) (has_signals m.token m.content) both },
      carried_fine s (Sends m at ∷ ms) at (sent s ms m via at) (sent_at s ms m via at formed),
    )
fine_marks s ms (Beat account) at r formed is recorded = (record { moment_is = refl; account_ok = formed }, tt)
fine_marks s ms Tick at r formed is recorded = carried_fine s ms at (raised s ms at) (raised_at s ms at)
fine_marks s ms (Claim operator number) at r formed is recorded =
    claim_fine s ms at operator r formed.operator_name (λ c. by_found operator (standing s ms at) number (numbered number (standing s ms at))
    (by_known (knows_operator (force s ms) operator) (on_claim operator number (standing s ms at)) (sym (ap claims is) ∙ c)))
fine_marks s ms (Next operator) at r formed is recorded =
    claim_fine s ms at operator r formed (λ c. by_next (held_by operator (standing s ms at)) (best (standing s ms at))
    (by_known (knows_operator (force s ms) operator) (on_next operator (standing s ms at)) (sym (ap claims is) ∙ c)))
fine_marks s ms (Do operator number step outcome) at r formed is recorded =
    act_fine s ms at (acted_by operator step outcome at) r
    (λ n c. act_found at number n (acted_by operator step outcome at) (standing s ms at) (numbered number (standing s ms at))
    (record { known = formed.known_step; outcome = formed.outcome_fits; name = formed.order.operator_name }) refl refl
    (act_known (knows_operator (force s ms) operator) (on_act (acted_by operator step outcome at) number (standing s ms at)) n (sym (ap acts_on is) ∙ c)))
fine_marks s ms (Release operator number) at r formed is recorded = release_fine s ms at r
fine_marks s ms (Close operator number code) at r formed is recorded = close_fine s ms at r
fine_marks s ms (Show number) at r formed is recorded = tt
fine_marks s ms Rows at r formed is recorded = tt
