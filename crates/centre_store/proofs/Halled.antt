-- What a call of a store is for a hall.
use Rattle.std.specs.Prelude.{Result, Ok, Err, IfOk, IfErr, OnErr}
use Rattle.std.proofs.Common.{◌≡◌, ℕ, List, [], ◌∷◌, refl, sym, ap, subst, ◌∙◌}
use Rattle.arc_data.specs.WellFormed.{IsWellFormed}
use Rattle.arc_data.specs.declared.event.Event.{Event}
use Rattle.arc_io.specs.Areas.{Areas}
use Rattle.arc_io.specs.Disks.{DiskSeen}
use Rattle.arc_io.specs.Crashes.{LeavesOnly}
use Rattle.centre_rules.specs.Summary.{Summary}
use Rattle.centre_rules.specs.History.{Entry, IsMoment, moment_after}
use Rattle.centre_rules.specs.Answers.{IsLegal, answer}
use Rattle.centre_core.specs.Halls.{Fixed, GoesOn, LeftEvent}
use Rattle.centre_core.specs.Setting.{IsSetting}
use Rattle.centre_core.specs.declared.hall.Stop.{Stop}
use Rattle.centre_core.specs.declared.hall.Stop.TheVariants.{Down}
use Rattle.centre_core.specs.declared.ready.Done.{Done}
use Rattle.disk_journal.specs.declared.journal.Limits.{Limits}
use Rattle.event_codec.specs.Spelling.{spelling}
use Rattle.centre_store.specs.Calls.{entry_after}
use Rattle.centre_store.specs.Given.{StandForEither, HasEither}
use Rattle.centre_store.specs.Orders.{IsDownWhereFailed}
use Rattle.centre_store.specs.Stores.{Stored, HasFailed, IsSameJournal, IsToRecord, LeavesJournal, StoreStands, Shows, Takes}
use Rattle.centre_store.specs.StoreHalls.{IsStoreFor, is_told, fixed_of, store_seen}
use Rattle.centre_store.proofs.Leaving.{Leaves, leaves_more, leaves_stopped}
use Rattle.centre_store.proofs.Readable.{readable_more}

module _ {D : Type 0} (seen : D → DiskSeen) (old new : Stored D) where
  -- what no call changes
  pub fixed_stays : new.at_open ≡ old.at_open → new.journal.limits ≡ old.journal.limits → is_told (seen new.journal.disk).told ≡ is_told (seen old.journal.disk).told
      → fixed_of seen new ≡ fixed_of seen old
  fixed_stays at_open limits tells = λ i. record {
    at_open = at_open i;
    bytes = ap (λ (l : Limits). l.bytes) limits i;
    records = ap (λ (l : Limits). l.records) limits i;
    tells = tells i;
  }

-- of halls that keep it

pub at_open_stays : {f g : Fixed} → f ≡ g → f.at_open ≡ g.at_open
at_open_stays {f} {g} same = ap (λ (x : Fixed). x.at_open) same

abbrev limits_in : Fixed → Limits
limits_in f = record { bytes = f.bytes; records = f.records }

pub limits_stay : {f g : Fixed} → f ≡ g → limits_in f ≡ limits_in g
limits_stay {f} {g} same = ap limits_in same

pub tells_stays : {f g : Fixed} → f ≡ g → f.tells ≡ g.tells
tells_stays {f} {g} same = ap (λ (x : Fixed). x.tells) same

no_stop : (d : Done) (r : Result Done Stop) → r ≡ Ok d → (s : Stop) → r ≡ Err s → ⊥
no_stop d r is s other = cc

-- A call with an event, by what it leaves whatever it answers.
module _ {D : Type 0} (seen : D → DiskSeen) (only_now : (d : D) (c : Areas) → (seen d).left_since (seen d).moment c → (seen d).may_leave c)
    (old new : Stored D) (clock : ℕ) (event : Event) (formed : IsWellFormed event) (fits : IsMoment clock)
    (text : new.state.sum.text ≡ old.state.sum.text) (opened : new.at_open ≡ old.at_open) (already : HasFailed seen old → new ≡ old)
    (unrecorded : (b : Summary) (h : List Entry) → StoreStands seen b old h → (IsToRecord b h event clock → ⊥) → IsSameJournal old.journal new.journal)
    (any_moment : (b : Summary) (h : List Entry) → StoreStands seen b old h → (HasFailed seen old → ⊥)
    → LeavesOnly (seen old.journal.disk) (seen new.journal.disk) (StandForEither b h (spelling event (moment_after b h clock)))) where
  pub goes_on : (r : Result Done Stop)
      → IfOk r (λ d. (b : Summary) (h : List Entry) → StoreStands seen b old h
      → Takes seen b new h clock (record { caller = 0; event = event; at = d.at; reply = d.reply }))
      → IfOk r (λ d. d.caller ≡ 0) → IsDownWhereFailed seen new r
      → IfOk r (λ d. (b : Summary) (h : List Entry) → IsStoreFor seen b old h
      → GoesOn b (store_seen seen old) (store_seen seen new) h clock
      (record { caller = d.caller; event = event; at = d.at; reply = d.reply }))
  goes_on (Err s) done by down = tt
  goes_on (Ok d) done by down = λ b h w.
      let takes = done b h w.stands in
      let failed : HasFailed seen new → ⊥ = λ f. no_stop d (Ok d) refl (Down new.at_open (seen new.journal.disk).faults) (down.0 f) in
      let reply = takes.reply ∙ ap (answer b h event) takes.at in
      let made : entry_after b h event clock ≡ record { caller = d.caller; event = event; at = d.at; reply = d.reply } =
      λ i. record { caller = sym by i; event = event; at = sym takes.at i; reply = sym reply i } in
      let is : record { caller = 0; event = event; at = d.at; reply = d.reply } ≡ record { caller = d.caller; event = event; at = d.at; reply = d.reply } =
      λ i. record { caller = sym by i; event = event; at = d.at; reply = d.reply } in
      record {
        before = h;
        extends = ([], refl);
        holds = record {
          stands = subst (λ (e : Entry). StoreStands seen b new (e ∷ h)) is takes.stands;
          setting = subst IsSetting (sym text) w.setting;
        };
        legal = subst (λ (e : Entry). IsLegal b (e ∷ h)) is takes.stands.centre.legal;
        at = takes.at;
        own = refl;
        disk = record {
          reads = readable_more b h (record { caller = d.caller; event = event; at = d.at; reply = d.reply }) clock by formed fits takes.at takes.reply;
          leaves = λ readable t k was.
              subst (λ (e : Entry). Leaves seen only_now b t k new (e ∷ h)) made
              (leaves_more seen only_now b t k old new h event clock w.stands opened (unrecorded b h w.stands) (any_moment b h w.stands) was
              (λ f. failed (subst (λ (s : Stored D). HasFailed seen s) (sym (already f)) f)));
        };
        up = failed;
      }

  pub waits : (r : Result Done Stop)
      → OnErr r ((b : Summary) (h : List Entry) → StoreStands seen b old h → StoreStands seen b new h)
      → IfErr r (λ s. Shows seen new s event clock) → LeavesJournal old.journal new.journal r
      → ((b : Summary) (h : List Entry) → StoreStands seen b old h → (HasFailed seen old → ⊥)
      → HasEither (seen new.journal.disk) b h (spelling event (moment_after b h clock)))
      → IfErr r (λ s. (b : Summary) (h : List Entry) → IsStoreFor seen b old h
      → LeftEvent s b (store_seen seen old) (store_seen seen new) h event clock)
  waits (Ok d) stays shown unwritten met = tt
  waits (Err s) stays shown unwritten met = λ b h w.
      let stands = stays b h w.stands in
      record {
        waits = record {
          now = h;
          extends = ([], refl);
          holds = record { stands = stands; setting = subst IsSetting (sym text) w.setting };
          legal = stands.centre.legal;
          own = refl;
          disk = record {
            reads = λ r. r;
            leaves = λ readable t k was.
                leaves_stopped seen only_now b t k old new h event clock w.stands opened (unrecorded b h w.stands) (any_moment b h w.stands) was formed fits
                readable already s shown unwritten;
          };
        };
        cause = record { shown = shown; torn = λ up. met b h w.stands up };
      }
