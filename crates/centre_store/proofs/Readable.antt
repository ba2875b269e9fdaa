-- A disk goes on telling what it holds, and what is recorded can be read again.
use Rattle.std.proofs.Common.{◌≡◌, ◌∷◌, ℕ, List, [], Bool, true, false, cond, Option, Some, None, refl, sym, ap, subst, ◌∙◌, arith}
use Rattle.arc_data.specs.WellFormed.{IsWellFormed}
use Rattle.arc_data.specs.declared.event.Event.TheVariants.{Adopt, Start}
use Rattle.arc_data.specs.declared.reply.Reply.TheVariants.{Adopted, Started}
use Rattle.arc_io.specs.Areas.{Areas}
use Rattle.arc_io.specs.Disks.{DiskSeen}
use Rattle.arc_io.specs.Crashes.{Becomes}
use Rattle.centre_rules.specs.Answers.{answer, IsLegal}
use Rattle.centre_rules.specs.History.{Entry, IsMoment, is_recorded, last, marks, moment_after, recorded}
use Rattle.centre_rules.specs.Marks.{text}
use Rattle.centre_rules.specs.Summary.{Summary}
use Rattle.centre_store.proofs.Bodies.{kept_event}
use Rattle.centre_store.specs.Begins.{is_in_force, adopted_after, begun_after}
use Rattle.centre_store.specs.Pasts.{IsKept, AreKept}
use Rattle.disk_journal.specs.OtherArea.{SparesOther}
use Rattle.disk_journal.specs.Standing.{IsOtherSame}
use Rattle.centre_store.specs.StoreHalls.{IsReadable, is_told}

pub becomes_told : (x y : Option Areas) (R : Areas → Areas → Type 0) → Becomes x y R → is_told y ≡ is_told x
becomes_told None None R is = refl
becomes_told None (Some t) R is = absurd is
becomes_told (Some s) None R is = absurd is
becomes_told (Some s) (Some t) R is = refl

pub spared_tells : {old new : DiskSeen} → SparesOther old new → is_told new.told ≡ is_told old.told
spared_tells {old} {new} spared = becomes_told old.told new.told IsOtherSame spared.same

last_step : (base : Summary) (e : Entry) (h : List Entry) (t : Bool) → is_recorded e.reply ≡ t → AreKept (cond t (e ∷ recorded h) (recorded h))
    → (AreKept (recorded h) → IsMoment (last base h)) → IsMoment (cond t e.at (last base h))
last_step base e h true is kept before = kept.0.spelled.moment
last_step base e h false is kept before = before kept

-- the moment of the last recorded entry
pub last_moment : (base : Summary) (h : List Entry) → IsReadable base h → IsMoment (last base h)
last_moment base [] kept = kept.0
last_moment base (e ∷ h) kept = last_step base e h (is_recorded e.reply) refl kept.1 (λ before. last_moment base h (kept.0, before))

pub moment_fits : (base : Summary) (h : List Entry) (clock : ℕ) → IsMoment clock → IsReadable base h → IsMoment (moment_after base h clock)
moment_fits base h clock fits kept = let before = last_moment base h kept in omega (arith, fits, before)

readable_step : (e : Entry) (h : List Entry) (t : Bool) → is_recorded e.reply ≡ t → (is_recorded e.reply ≡ true → IsKept e) → AreKept (recorded h)
    → AreKept (cond t (e ∷ recorded h) (recorded h))
readable_step e h true is one kept = (one is, kept)
readable_step e h false is one kept = kept

-- one entry more
pub readable_more : (base : Summary) (h : List Entry) (e : Entry) (clock : ℕ) → e.caller ≡ 0 → IsWellFormed e.event → IsMoment clock → e.at ≡ moment_after base h clock
    → e.reply ≡ answer base h e.event e.at → IsReadable base h → IsReadable base (e ∷ h)
readable_more base h e clock caller formed fits at reply kept = (
  kept.0,
  readable_step e h (is_recorded e.reply) refl (λ is. record {
    caller = caller;
    recorded = is;
    spelled = record {
      kept = kept_event base h e.event e.at (ap is_recorded (sym reply) ∙ is);
      well_formed = formed;
      moment = subst IsMoment (sym at) (moment_fits base h clock fits kept);
    };
  }) kept.1,
)

-- and the beginning of a run
pub readable_begun : (base : Summary) (h : List Entry) (setup : List ℕ) (clock : ℕ) → IsMoment clock → IsLegal base (begun_after base h setup clock)
    → IsReadable base h → IsReadable base (begun_after base h setup clock)
readable_begun base h setup clock fits legal kept =
    readable_more base (adopted_after base h setup clock) (record { caller = 0; event = Start; at = moment_after base (adopted_after base h setup clock) clock; reply = Started })
    clock refl legal.0.event fits refl legal.0.reply (adopted (is_in_force (text base (marks base h)) setup) legal.1) where
      adopt : Entry
      adopt = record { caller = 0; event = Adopt setup; at = moment_after base h clock; reply = Adopted }

      adopted : (t : Bool) → IsLegal base (cond t h (adopt ∷ h)) → IsReadable base (cond t h (adopt ∷ h))
      adopted true legal = kept
      adopted false legal = readable_more base h adopt clock refl legal.0.event fits refl legal.0.reply kept
