-- No spelling of an event begins as the body of a summary.
use Rattle.std.proofs.Common.{◌≡◌, ℕ, List, [], ◌∷◌, ◌++◌, Bool, true, false, Option, Some, None, refl, sym, subst, arith}
use Rattle.arc_data.specs.declared.event.Event.{Event}
use Rattle.arc_data.specs.declared.event.Event.TheVariants.{Adopt, Start, Message as Sent, Beat, Tick}
use Rattle.arc_data.specs.declared.event.Event.TheVariants.{Claim, Next, Act, Release, Close, Show, List as Rows}
use Rattle.centre_rules.specs.History.{Entry, is_recorded}
use Rattle.disk_journal.specs.Standing.{IsDistinct}
use Rattle.event_codec.specs.Spelling.{spelling_in, tag}
use Rattle.centre_store.specs.Bodies.{bodies_in}
use Rattle.centre_store.proofs.Bodies.{bodies_more, bodies_same}
use Rattle.centre_store.proofs.PastSteps.{no_bodies}

tag_other : (event : Event) → tag event ≡ 11 → ⊥
tag_other (Adopt text) is = omega (arith, is)
tag_other Start is = omega (arith, is)
tag_other (Sent message via) is = omega (arith, is)
tag_other (Beat account) is = omega (arith, is)
tag_other Tick is = omega (arith, is)
tag_other (Claim operator number) is = omega (arith, is)
tag_other (Next operator) is = omega (arith, is)
tag_other (Act operator number step outcome) is = omega (arith, is)
tag_other (Release operator number) is = omega (arith, is)
tag_other (Close operator number code) is = omega (arith, is)
tag_other (Show number) is = omega (arith, is)
tag_other Rows is = omega (arith, is)

-- behind other bodies
pub distinct_more : (version : ℕ) (summary : Option (List ℕ)) (bodies : List (List ℕ)) (event : Event) (at : ℕ) → IsDistinct summary bodies
    → IsDistinct summary (bodies ++ spelling_in version event at ∷ [])
distinct_more version None [] event at distinct = tag_other event
distinct_more version None (body ∷ bodies) event at distinct = distinct
distinct_more version (Some body) bodies event at distinct = distinct

distinct_step : (version : ℕ) (e : Entry) (h : List Entry) (t : Bool) → is_recorded e.reply ≡ t → IsDistinct None (bodies_in version h)
    → IsDistinct None (bodies_in version (e ∷ h))
distinct_step version e h true is before =
    subst (IsDistinct None) (sym (bodies_more version e h is)) (distinct_more version None (bodies_in version h) e.event e.at before)
distinct_step version e h false is before = subst (IsDistinct None) (sym (bodies_same version e h is)) before

none_distinct : IsDistinct None []
none_distinct is = omega (arith, is)

-- those of a history
pub distinct_bodies : (version : ℕ) (h : List Entry) → IsDistinct None (bodies_in version h)
distinct_bodies version [] = subst (IsDistinct None) (sym (no_bodies version)) none_distinct
distinct_bodies version (e ∷ h) = distinct_step version e h (is_recorded e.reply) refl (distinct_bodies version h)
