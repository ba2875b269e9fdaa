-- What a step makes of the store of a centre: it stands for a history that has all that was recorded.
use Rattle.std.proofs.Common.{◌≡◌, ℕ, List, [], ◌∷◌, Bool, true, false, inl, inr, refl, sym, ap, ◌∙◌, arith}
use Rattle.std.specs.Prelude.{is_ok, if◌then◌else◌}
use Rattle.alarm_rules.specs.Setups.{setup_of}
use Rattle.arc_data.specs.declared.event.Event.{Event}
use Rattle.arc_data.specs.declared.event.Event.TheVariants.{Start}
use Rattle.arc_data.specs.declared.reply.Reply.TheVariants.{Adopted}
use Rattle.arc_io.specs.Areas.{Areas}
use Rattle.arc_io.specs.Disks.{DiskSeen}
use Rattle.centre_rules.specs.Answers.{if_known}
use Rattle.centre_rules.specs.History.{Entry, Extends, IsMoment, marks, recorded}
use Rattle.centre_rules.specs.Marks.{text}
use Rattle.centre_rules.specs.Summary.{Summary}
use Rattle.centre_store.proofs.Begun.{adopted_entry, started_entry}
use Rattle.centre_store.proofs.Entered.{held}
use Rattle.centre_store.proofs.Holding.{recorded_there}
use Rattle.centre_store.proofs.Readable.{last_moment, readable_more}
use Rattle.centre_store.proofs.Recorded.{recorded_once}
use Rattle.centre_store.proofs.Remains.{cut, enters, left_is, left_still, reopens, stand_recorded}
use Rattle.centre_store.specs.Begins.{adopted_after, begun_after, is_in_force, StandsWithin}
use Rattle.centre_store.specs.Calls.{entry_after}
use Rattle.centre_store.specs.Given.{StandFor, StandForIn, HasRecorded}
use Rattle.centre_store.specs.Lives.{World, Open, Left, IsLeft, IsBehind, IsBehindBegin, IsBehindNone}
use Rattle.centre_store.specs.Stores.{Stored, HasFailed, StoreStands}
use Rattle.disk_journal.proofs.Steps.{file_at}
use Rattle.mirror_centre.specs.Answers.{Reads}
use Rattle.mirror_centre.specs.Mirroring.{IsBehindReading, IsReopened, IsSetupText, IsStopped, StandsIn}
use Rattle.mirror_centre.proofs.Parts.{IsFit, fit_front, fit_more, fit_recorded, more_recorded, no_more}

-- it stands for a history with all that another one has recorded
pub record HasGrown {D : Type 0} (seen : D → DiskSeen) (b : Summary) (h : List Entry) (w : World D) : Type 0 where
  pub now : List Entry
  pub fit : IsFit b now
  pub up : StandsIn seen b w now
  pub more : Extends (recorded h) (recorded now)

-- the history after the Adopt, where there is one, and after the Start
adopted_fit : (b : Summary) (h : List Entry) (setup : List ℕ) (clock : ℕ) (v : Bool) → IsSetupText setup → IsMoment clock → IsFit b h
    → IsFit b (if v then h else adopted_entry b h setup clock ∷ h)
adopted_fit b h setup clock true valid moment fit = fit
adopted_fit b h setup clock false valid moment fit =
    let e : Entry = adopted_entry b h setup clock in
    let reply : Adopted ≡ if_known (is_ok (setup_of setup)) Adopted = ap (λ (t : Bool). if_known t Adopted) (sym valid.1) in
    record {
      given = fit.given;
      legal = (record { event = valid.0; reply = reply; late = omega arith }, fit.legal);
      readable = readable_more b h e clock refl valid.0 moment refl reply fit.readable;
    }

begun_fit : (b : Summary) (h : List Entry) (setup : List ℕ) (clock : ℕ) → IsSetupText setup → IsMoment clock → IsFit b h → IsFit b (begun_after b h setup clock)
begun_fit b h setup clock valid moment fit =
    fit_more b (adopted_after b h setup clock) Start clock tt moment (adopted_fit b h setup clock (is_in_force (text b (marks b h)) setup) valid moment fit)

either_more : (h : List Entry) (e f : Entry) (v : Bool) → Extends h (f ∷ (if v then h else e ∷ h))
either_more h e f true = (f ∷ [], refl)
either_more h e f false = (f ∷ e ∷ [], refl)

begun_more : (b : Summary) (h : List Entry) (setup : List ℕ) (clock : ℕ) → Extends h (begun_after b h setup clock)
begun_more b h setup clock =
    either_more h (adopted_entry b h setup clock) (started_entry b (adopted_after b h setup clock) clock) (is_in_force (text b (marks b h)) setup)

module _ {D : Type 0} (seen : D → DiskSeen) (only_now : (d : D) (c : Areas) → (seen d).left_since (seen d).moment c → (seen d).may_leave c) (b : Summary) where
  -- the areas that are left stand for a history that begins with h
  left_with : (h k : List Entry) (c : Areas) → IsFit b k → Extends h k → StandForIn 2 b k c → HasGrown seen b h (Left c)
  left_with h k c fit more stands = record { now = k; fit = fit; up = (2, stands); more = more_recorded h k more }

  module _ (old : Stored D) (h : List Entry) (fit : IsFit b h) (stands : StoreStands seen b old h) (up : HasFailed seen old → ⊥) where
    -- an event
    pub submits : (e : Event) (clock : ℕ) (acknowledged : Bool) (w : World D) → IsBehind seen old e clock acknowledged w → HasGrown seen b h w
    submits e clock acknowledged (Open s) made = record {
      now = entry_after b h e clock ∷ h;
      fit = fit_more b h e clock made.submits.formed made.submits.moment fit;
      up = (enters seen only_now b old s h e clock stands made, made.up);
      more = more_recorded h (entry_after b h e clock ∷ h) (entry_after b h e clock ∷ [], refl);
    }
    submits e clock true (Left c) (s, made, left) =
        let k : List Entry = entry_after b h e clock ∷ h in
        left_with h k c (fit_more b h e clock made.submits.formed made.submits.moment fit) (entry_after b h e clock ∷ [], refl)
        (left_still seen only_now b s k made.up (enters seen only_now b old s h e clock stands made) c left)
    submits e clock false (Left c) (s, call, left) =
        elim (cut seen only_now b old s h e clock up stands call c left) as (λ _. HasGrown seen b h (Left c)) [
          | inl had ↦ left_with h h c fit (no_more h) had
          | inr has ↦ left_with h (entry_after b h e clock ∷ h) c (fit_more b h e clock call.formed call.moment fit) (entry_after b h e clock ∷ [], refl) has
        ]

    -- a run
    pub begins : (setup : List ℕ) (clock : ℕ) (w : World D) → IsSetupText setup → IsBehindBegin seen old setup clock w → HasGrown seen b h w
    begins setup clock (Open s) valid has = record {
      now = begun_after b h setup clock;
      fit = begun_fit b h setup clock valid has.begins.moment fit;
      up = (has.begun b h stands, has.up);
      more = more_recorded h (begun_after b h setup clock) (begun_more b h setup clock);
    }
    begins setup clock (Left c) valid (s, call, left) =
        let within : StandsWithin b h setup clock c =
        left_is seen only_now b old s c (StandsWithin b h setup clock) (call.any_moment b h stands up) (call.met b h stands up) left in
        left_with h within.so_far c (fit_front b within.so_far (begun_after b h setup clock) within.to_begun (begun_fit b h setup clock valid call.moment fit))
        within.from_h within.stands

    -- a call that enters nothing
    pub keeps : (w : World D) → IsBehindNone seen old w → HasGrown seen b h w
    keeps (Open s) (all, still_up) = record { now = h; fit = fit; up = (all.stands b h stands, still_up); more = no_more (recorded h) }
    keeps (Left c) (s, all, left) =
        left_with h h c fit (no_more h) (left_is seen only_now b old s c (StandForIn 2 b h) (all.any_moment b h stands) (all.met b h stands).area left)

    -- a stop between two calls
    pub stops : (w : World D) → IsStopped seen old w → HasGrown seen b h w
    stops (Open s) is = absurd is
    stops (Left c) left = left_with h h c fit (no_more h) (left_still seen only_now b old h up stands c left)

    there : HasRecorded (seen old.journal.disk) b h
    there = recorded_there seen old.journal b h (held seen b old h up stands)

    -- a crash in a call that writes nothing
    pub quiet_left : (s : Stored D) (c : Areas) → Reads seen old s → IsLeft seen old s c → StandForIn 2 b h c
    quiet_left s c reads (inl left) = there.images c (reads.quiet.any_moment.each c left)
    quiet_left s c reads (inr told) = file_at (StandForIn 2 b h) (seen old.journal.disk).told c (sym reads.quiet.same ∙ told) there.area

    -- a call that reads a record
    pub reading : (w : World D) → IsBehindReading seen old w → HasGrown seen b h w
    reading (Open s) (reads, still_up) = record { now = h; fit = fit; up = (reads.stands b h stands, still_up); more = no_more (recorded h) }
    reading (Left c) (s, reads, left) = left_with h h c fit (no_more h) (quiet_left s c reads left)

  -- an opening
  pub opens_again : (areas : Areas) (h : List Entry) (w : World D) → IsFit b h → StandFor b h areas → IsReopened seen areas w → HasGrown seen b h w
  opens_again areas h (Left c) fit stand is = absurd is
  opens_again areas h (Open s) fit (version, stand) r =
      let k : List Entry = recorded h in
      let whole : IsFit b k = fit_recorded b h fit in
      record {
        now = k;
        fit = whole;
        up = (
          reopens seen only_now b k areas s fit.given whole.legal (last_moment b k whole.readable) (recorded_once h) (version, stand_recorded version b h areas stand) r,
          r.up,
        );
        more = ([], recorded_once h);
      }
