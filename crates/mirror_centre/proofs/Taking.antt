-- What a mirror makes of a message.
use Rattle.std.proofs.Common.{◌≡◌, ◌+◌, ℕ, Bool, true, false, List, [], drop, Option, Some, None, inl, inr, refl, sym, ap, subst, ◌∙◌}
use Rattle.std.specs.Prelude.{if◌then◌else◌, nat_eq, nat_le, MatchOption}
use Rattle.std.proofs.lemmas.Bool.{eqb-true, eq-eqb}
use Rattle.event_codec.proofs.Readers.{IsBytes}
use Rattle.mirror_centre.specs.Messages.{Answer, Record, End, Summed, IsAnswer, IsNoAnswer}
use Rattle.mirror_centre.specs.Sayings.{made_of, read_in}
use Rattle.mirror_centre.specs.Takings.{passed_by, IsNextRecord, IsPassed}
use Rattle.mirror_centre.specs.declared.messages.Said.{Said}
use Rattle.mirror_centre.specs.declared.messages.Said.TheVariants as said
use Rattle.mirror_centre.specs.declared.mirror.Took.{Took}
use Rattle.mirror_centre.specs.declared.mirror.Took.TheVariants.{Old, Behind, Strange}
use Rattle.mirror_centre.proofs.Readings.{IsReadOf, is_read, one_answer}

-- what is so of a message by what is made of it
abbrev pub IsMade : ℕ → List ℕ → Option Took → Type 0
IsMade have message took = MatchOption took (IsNextRecord have message (drop 13 message)) (λ t. IsPassed have message t)

made_record : (have number : ℕ) (message : List ℕ) (v : Bool) → nat_eq number (have + 1) ≡ v → IsAnswer message (Record number (drop 13 message))
    → IsMade have message (if v then None else Some Old)
made_record have number message true test is =
    subst (λ (n : ℕ). IsAnswer message (Record n (drop 13 message))) (eqb-true number (have + 1) test) is
made_record have number message false test is =
    inr (Record number (drop 13 message), is, ap (λ (v : Bool). if v then None else Some Old) test)

made_count : (have count : ℕ) (message : List ℕ) (v : Bool) → nat_le count have ≡ v → IsAnswer message (Summed count)
    → IsMade have message (if v then Some Old else Some (Behind have count))
made_count have count message true test is = inr (Summed count, is, ap (λ (v : Bool). if v then Some Old else Some (Behind have count)) test)
made_count have count message false test is = inr (Summed count, is, ap (λ (v : Bool). if v then Some Old else Some (Behind have count)) test)

made_said : (have : ℕ) (message : List ℕ) (o : Option Said) → IsReadOf message o → IsMade have message (made_of have o)
made_said have message None none = inl (none, refl)
made_said have message (Some (said.Record number)) is = made_record have number message (nat_eq number (have + 1)) refl is
made_said have message (Some said.End) is = inr (End, is, refl)
made_said have message (Some (said.Summed count)) is = made_count have count message (nat_le count have) refl is

pub made : (have : ℕ) (message : List ℕ) (took : Option Took) → IsBytes message → took ≡ made_of have (read_in message) → IsMade have message took
made have message took fits is =
    subst (λ (t : Option Took). IsMade have message t) (sym is) (made_said have message (read_in message) (is_read message fits))

-- A message that is passed is not the next record.

next_none : (have : ℕ) (body : List ℕ) → passed_by have (Record (have + 1) body) ≡ None
next_none have body = ap (λ (v : Bool). if v then None else Some Old) (eq-eqb (have + 1) (have + 1) refl)

none_some : {A : Type 0} (x : A) → None ≡ Some x → ⊥
none_some x is = cc

pub not_next : (have : ℕ) (message : List ℕ) (took : Took) (body : List ℕ) → IsPassed have message took → IsNextRecord have message body → ⊥
not_next have message took body (inl (none, strange)) next = none (Record (have + 1) body) next
not_next have message took body (inr (a, is, passed)) next =
    none_some took (sym (next_none have body) ∙ ap (passed_by have) (one_answer message (Record (have + 1) body) a next is) ∙ passed)

pub not_none : (have : ℕ) (message : List ℕ) (took : Took) → IsPassed have message took → IsNoAnswer message → took ≡ Strange
not_none have message took (inl (none, strange)) garbled = strange
not_none have message took (inr (a, is, passed)) garbled = absurd (garbled a is)

pub passed_is : (have : ℕ) (message : List ℕ) (took : Took) (a : Answer) → IsPassed have message took → IsAnswer message a → passed_by have a ≡ Some took
passed_is have message took a (inl (none, strange)) is = absurd (none a is)
passed_is have message took a (inr (c, other, passed)) is = ap (passed_by have) (one_answer message a c is other) ∙ passed

pub next_is : (have : ℕ) (message body : List ℕ) (a : Answer) → IsNextRecord have message body → IsAnswer message a → passed_by have a ≡ None
next_is have message body a next is = ap (passed_by have) (one_answer message a (Record (have + 1) body) is next) ∙ next_none have body

body_of : Answer → List ℕ
body_of (Record number body) = body
body_of End = []
body_of (Summed count) = []

pub one_body : (have : ℕ) (message body other : List ℕ) → IsNextRecord have message body → IsNextRecord have message other → body ≡ other
unfolding body_of
one_body have message body other one two = ap body_of (one_answer message (Record (have + 1) body) (Record (have + 1) other) one two)
