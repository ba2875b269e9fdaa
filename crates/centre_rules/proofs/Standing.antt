-- What an entry leaves as it was.
use Rattle.std.proofs.Common.{◌≡◌, ℕ, List, [], ◌∷◌, map, Bool, true, false, cond, refl, sym, ap}
use Rattle.std.specs.Prelude.{option_and_then}
use Rattle.std.specs.Result.{result_ok}
use Rattle.std.proofs.lemmas.Bool.{false≢true}
use Rattle.arc_data.specs.declared.event.Event.{Event}
use Rattle.arc_data.specs.declared.event.Event.TheVariants.{Adopt, Message as Sent, Tick, Claim, Next, Act as Do, Release, Close}
use Rattle.arc_data.specs.declared.reply.Reply.{Reply}
use Rattle.arc_data.specs.declared.reply.Reply.TheVariants.{Claimed, Recorded, Released, Closed}
use Rattle.arc_data.specs.declared.step.Acted.{Acted}
use Rattle.alarm_rules.specs.Setups.{setup_of}
use Rattle.centre_rules.specs.Summary.{Summary}
use Rattle.centre_rules.specs.Marks.{Mark, Sends, Carries, Carried, text, force}
use Rattle.centre_rules.specs.Carrying.{sent, raised}
use Rattle.centre_rules.specs.History.{Entry, is_recorded, acted_by, claim_marks, act_marks, release_marks, close_marks, marks_of, onto, marked}

abbrev pub is_adopt : Event → Bool
is_adopt (Adopt text) = true
is_adopt event = false

text_carried : (s : Summary) (xs : List Carried) (ms : List Mark) → text s (onto (map Carries xs) ms) ≡ text s ms
text_carried s [] ms = refl
text_carried s (x ∷ xs) ms = text_carried s xs (Carries x ∷ ms)

text_claim : (s : Summary) (ms : List Mark) (o : List ℕ) (at : ℕ) (r : Reply) → text s (onto (claim_marks o at r) ms) ≡ text s ms
text_claim s ms o at (Claimed n class account) = refl
text_claim s ms o at r = refl

text_act : (s : Summary) (ms : List Mark) (a : Acted) (r : Reply) → text s (onto (act_marks a r) ms) ≡ text s ms
text_act s ms a (Recorded n left) = refl
text_act s ms a r = refl

text_release : (s : Summary) (ms : List Mark) (r : Reply) → text s (onto (release_marks r) ms) ≡ text s ms
text_release s ms (Released n) = refl
text_release s ms r = refl

text_close : (s : Summary) (ms : List Mark) (r : Reply) → text s (onto (close_marks r) ms) ≡ text s ms
text_close s ms (Closed n) = refl
text_close s ms r = refl

text_onto : (s : Summary) (ms : List Mark) (e : Event) (at : ℕ) (r : Reply) → is_adopt e ≡ false → text s (onto (marks_of s ms e at r) ms) ≡ text s ms
text_onto s ms (Adopt text) at r other = absurd (false≢true (sym other))
text_onto s ms (Sent m via) at r other = text_carried s (sent s ms m via at) (Sends m at ∷ ms)
text_onto s ms Tick at r other = text_carried s (raised s ms at) ms
text_onto s ms (Claim o n) at r other = text_claim s ms o at r
text_onto s ms (Next o) at r other = text_claim s ms o at r
text_onto s ms (Do o n step outcome) at r other = text_act s ms (acted_by o step outcome at) r
text_onto s ms (Release o n) at r other = text_release s ms r
text_onto s ms (Close o n code) at r other = text_close s ms r
text_onto s ms e at r other = refl

text_if : (s : Summary) (xs ms : List Mark) (b : Bool) → text s (onto xs ms) ≡ text s ms → text s (cond b (onto xs ms) ms) ≡ text s ms
text_if s xs ms true e = e
text_if s xs ms false e = refl

-- what is no Adopt leaves the setup text in force
pub text_marked : (s : Summary) (e : Entry) (ms : List Mark) → is_adopt e.event ≡ false → text s (marked s e ms) ≡ text s ms
text_marked s e ms other = text_if s (marks_of s ms e.event e.at e.reply) ms (is_recorded e.reply) (text_onto s ms e.event e.at e.reply other)

pub force_marked : (s : Summary) (e : Entry) (ms : List Mark) → is_adopt e.event ≡ false → force s (marked s e ms) ≡ force s ms
force_marked s e ms other = ap (option_and_then (λ t. result_ok (setup_of t))) (text_marked s e ms other)
