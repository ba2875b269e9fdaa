-- What a store that lives through a schedule is behind it: each crash has kept what was acknowledged, and the store stands for the ideal list.
use Rattle.std.proofs.Common.{◌≡◌, List, true, subst, arith}
use Rattle.std.specs.Prelude.{is_ok}
use Rattle.alarm_rules.specs.Setups.{setup_of}
use Rattle.arc_io.specs.Areas.{Areas}
use Rattle.arc_io.specs.Disks.{DiskSeen}
use Rattle.centre_laws.specs.Repeats.{QuietChangesNothing, TellsTheSame}
use Rattle.centre_laws.specs.Schedules.{Schedule, IsSchedule, Each, history}
use Rattle.centre_laws.specs.Sendings.{RestartsLoseNothing}
use Rattle.centre_laws.specs.Spacing.{IsWellSpaced}
use Rattle.centre_rules.specs.History.{Entry}
use Rattle.centre_rules.specs.Summary.{nothing}
use Rattle.centre_store.specs.Lives.{World, Open, Left, Lives, IsStepButKept, IsIdealWorld, LivesIdeally}
use Rattle.centre_store.specs.Stores.{StoreStands}
use Rattle.centre_store.proofs.Lived.{IsGood, ideal, lived, rest_fit, rest_ideal, rest_opens, rest_stands, rest}
use Rattle.centre_store.proofs.Recorded.{opens_recorded, can_two}

module _ {D : Type 0} (seen : D → DiskSeen) (only_now : (d : D) (c : Areas) → (seen d).left_since (seen d).moment c → (seen d).may_leave c)
    (quiet : QuietChangesNothing) (restarts : RestartsLoseNothing) (x : Schedule) (setup : is_ok (setup_of x.text) ≡ true) where
  world : (w : World D) → IsWellSpaced x → IsGood seen x x.steps w → IsIdealWorld seen x w
  world (Open s) spaced good = good.so.0
  world (Left areas) spaced good =
      let left : List Entry = rest seen only_now quiet x setup x.steps areas spaced good in
      let fit = rest_fit seen only_now quiet x setup x.steps areas spaced good in
      record {
        kept = good.so.kept;
        keeps = good.so.keeps;
        can_open = opens_recorded 2 nothing left areas fit.legal fit.readable.1 (omega (arith, fit.few)) (can_two nothing left)
            (rest_stands seen only_now quiet x setup x.steps areas spaced good);
        opens = λ s r. subst (λ (l : List Entry). StoreStands seen nothing s l) (rest_ideal seen only_now quiet x setup x.steps areas spaced good)
            (rest_opens seen only_now quiet x setup x.steps areas spaced good s r);
      }

  pub lives_ideally : Each (IsStepButKept x) x.steps → IsWellSpaced x → (w : World D) → Lives seen x x.steps w → LivesIdeally seen x w
  lives_ideally asked spaced w life =
      let good : IsGood seen x x.steps w = lived seen only_now quiet x setup x.steps w asked spaced life in
      let schedule : IsSchedule x = record { setup = setup; steps = good.steps } in
      record {
        schedule = schedule;
        once = restarts x schedule spaced;
        tells = subst (λ (l : List Entry). TellsTheSame nothing (history x) l) (ideal seen only_now quiet x setup x.steps good.steps spaced)
            (quiet nothing (history x)).quiet;
        world = world w spaced good;
      }
