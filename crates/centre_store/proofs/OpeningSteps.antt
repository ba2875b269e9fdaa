-- What one more body does to a centre that stands for the past of those before it.
use Rattle.std.proofs.Common.{◌≡◌, ◌≤◌, ◌<◌, ◌+◌, ◌^◌, ℕ, List, [], ◌∷◌, ◌++◌, length, Bool, true, false, Option, Some, None, sym, ap, ◌∙◌, subst, arith}
use Rattle.std.specs.Prelude.{◌↔◌, IfSome, IsSome, IsTrue}
use Rattle.arc_data.specs.declared.event.Event.{Event}
use Rattle.arc_data.specs.declared.reply.Reply.{Reply}
use Rattle.centre_rules.specs.Summary.{Summary}
use Rattle.centre_rules.specs.History.{Entry, is_recorded, last, moment_after}
use Rattle.centre_rules.specs.Answers.{IsNext, answer}
use Rattle.centre_rules.specs.State.{State, StandsFor}
use Rattle.event_codec.specs.Spelling.{spelling_in, HasSpellingIn}
use Rattle.centre_store.specs.Bodies.{body_in}
use Rattle.centre_store.specs.Pasts.{IsPast, IsReplayed}
use Rattle.centre_store.proofs.PastSteps.{past_more, past_less}
use Rattle.centre_store.proofs.PastOnce.{some_is, same_ends}

pub never_none : {A : Type 0} (o : Option A) → o ≡ None → IsSome o → ⊥
never_none None is some = absurd (cc)
never_none (Some x) is some = absurd (cc)

-- what was found, said of what it is made of
pub found_is : (o : Option (Event × ℕ)) (event e : Event) (at a : ℕ) → o ≡ Some (event, at) → IfSome o (λ x. (x.0 ≡ e) × (x.1 ≡ a)) → (event ≡ e) × (at ≡ a)
found_is o event e at a is found = rw is at found

pub found_spelled : (version : ℕ) (o : Option (Event × ℕ)) (event : Event) (at : ℕ) (bytes : List ℕ) → o ≡ Some (event, at)
    → IfSome o (λ x. HasSpellingIn version x.0 x.1 × (bytes ≡ spelling_in version x.0 x.1)) → HasSpellingIn version event at × (bytes ≡ spelling_in version event at)
found_spelled version o event at bytes is found = rw is at found

pub retold : (version : ℕ) (event other : Event) (at then : ℕ) (bytes : List ℕ) → other ≡ event → then ≡ at
    → HasSpellingIn version event at × (bytes ≡ spelling_in version event at) → HasSpellingIn version other then × (bytes ≡ spelling_in version other then)
retold version event other at then bytes same same_at spelled = rw (same, same_at) spelled

-- what is said of whatever was found
pub found_so : {A : Type 0} (P : A → Type 0) (o : Option A) (x : A) → o ≡ Some x → IfSome o P → P x
found_so P None x is found = absurd (cc)
found_so P (Some y) x is found = subst P (some_is y x is) found

-- the last body is that of the newest entry
pub last_body : (version : ℕ) (base : Summary) (front : List (List ℕ)) (body : List ℕ) (e : Entry) (past : List Entry) → IsPast version base (front ++ body ∷ []) (e ∷ past)
    → body ≡ body_in version e
last_body version base front body e past p =
    let a = past_less version base (front ++ body ∷ []) e past p in
    (same_ends front a.front body (body_in version e) a.split).bodies

-- which has a spelling in the version
pub last_spelled : (version : ℕ) (base : Summary) (bodies : List (List ℕ)) (e : Entry) (past : List Entry) → IsPast version base bodies (e ∷ past)
    → HasSpellingIn version e.event e.at
last_spelled version base bodies e past p = record { spelled = p.kept.0.spelled; named = p.named.0 }

-- where an entry goes on, its event at its moment is answered at just this moment, and recorded
pub record GoesOn (at made : ℕ) (reply : Reply) : Type 0 where
  pub moment : made ≡ at
  pub recorded : is_recorded reply ≡ true

pub goes_on_from : (base : Summary) (h : List Entry) (e : Entry) (event : Event) (at made : ℕ) (reply : Reply) → IsNext base h e → is_recorded e.reply ≡ true
    → (event ≡ e.event) × (at ≡ e.at) → made ≡ moment_after base h at → reply ≡ answer base h event made → GoesOn at made reply
goes_on_from base h e event at made reply next recorded same is_made is_reply =
    let late : last base h ≤ e.at = next.late in
    let moment : made ≡ at = is_made ∙ (omega (arith, late, same.1)) in
    let there : made ≡ e.at = moment ∙ same.1 in
    let replied : reply ≡ e.reply = is_reply ∙ (λ i. answer base h (same.0 i) (there i)) ∙ sym next.reply in
    record { moment = moment; recorded = ap is_recorded replied ∙ recorded }

pub goes_on : (version : ℕ) (base : Summary) (front : List (List ℕ)) (body : List ℕ) (past : List Entry) (e : Entry) (event : Event) (at made : ℕ) (reply : Reply)
    → IsPast version base (front ++ body ∷ []) (e ∷ past) → (event ≡ e.event) × (at ≡ e.at) → made ≡ moment_after base past at → reply ≡ answer base past event made → GoesOn at made reply
goes_on version base front body past e event at made reply p same is_made is_reply =
    goes_on_from base past e event at made reply p.legal.0 p.kept.0.recorded same is_made is_reply

-- what a test of two facts tells
pub is_taken : (b : Bool) (P Q : Type 0) → (IsTrue b ↔ (P × Q)) → b ≡ true → P × Q
is_taken b P Q tells is = tells.0 is

pub is_refused : (b : Bool) (P Q : Type 0) → (IsTrue b ↔ (P × Q)) → b ≡ false → P × Q → ⊥
is_refused b P Q tells is both = let yes : b ≡ true = tells.1 both in absurd (cc (sym is ∙ yes))

-- the entry that was worked out goes on from the past
pub next_more : (version : ℕ) (base : Summary) (front : List (List ℕ)) (body : List ℕ) (e : Entry) (s : State) (past : List Entry) (clock : ℕ) → IsPast version base front past
    → StandsFor base s past → s.entries < 2 ^ 48 → e.caller ≡ 0 → is_recorded e.reply ≡ true → HasSpellingIn version e.event e.at × (body ≡ body_in version e)
    → e.at ≡ moment_after base past clock → e.reply ≡ answer base past e.event e.at → IsPast version base (front ++ body ∷ []) (e ∷ past)
next_more version base front body e s past clock p stands few caller recorded spelled moment replied =
    let count : s.entries ≡ base.recorded + length past = stands.entries in
    let late : last base past ≤ e.at = omega (arith, moment) in
    let short : base.recorded + length past < 2 ^ 48 = omega arith in
    past_more version base front past e body p (record { event = spelled.0.spelled.well_formed; reply = replied; late = late })
    (record { caller = caller; recorded = recorded; spelled = spelled.0.spelled }) spelled.0.named short spelled.1

-- and with it the centre is that of one body more
pub replayed_more : (version : ℕ) (base : Summary) (front : List (List ℕ)) (body : List ℕ) (e : Entry) (old new : State) (r : IsReplayed version base front old)
    → IsPast version base (front ++ body ∷ []) (e ∷ r.past) → StandsFor base new (e ∷ r.past) → IsReplayed version base (front ++ body ∷ []) new
replayed_more version base front body e old new r past stands = record { past = e ∷ r.past; is_past = past; stands = stands }
