use Rattle.std.proofs.Common.{[], Option, List, ℕ, ap, refl, subst, sym, arith}
use Rattle.std.specs.Prelude.{unwrap_or}
use Rattle.centre_core.specs.Setting.{IsSetting}
use Rattle.centre_store.proofs.Halled.{fixed_stays, goes_on, waits}
use Rattle.centre_store.proofs.hall.StoreHall.submit.Goals as goal

pub returns-clause-kept : goal.returns-clause-kept
returns-clause-kept g c =
    let met = c.submit.ensures in
    record {
      ready = subst IsSetting (sym met.text) c.requires.ready;
      text = ap (λ (t : Option (List ℕ)). unwrap_or t []) met.text;
      caller = refl;
      fixed = fixed_stays g.D.Disk.seen c.args.self.now c.submit.new.self met.at_open met.limits met.tells;
      count = omega arith;
      told = met.later;
    }

pub returns-clause-done : goal.returns-clause-done
returns-clause-done g c =
    let met = c.submit.ensures in
    goes_on g.D.Disk.seen g.met.D.Disk.only_now c.args.self.now c.submit.new.self c.args.clock c.args.event c.requires.formed c.requires.clock
    met.text met.at_open met.already met.unrecorded met.any_moment c.submit.result met.done met.by met.down

pub returns-clause-stop : goal.returns-clause-stop
returns-clause-stop g c =
    let met = c.submit.ensures in
    waits g.D.Disk.seen g.met.D.Disk.only_now c.args.self.now c.submit.new.self c.args.clock c.args.event c.requires.formed c.requires.clock
    met.text met.at_open met.already met.unrecorded met.any_moment c.submit.result met.stop met.cause met.unwritten met.met
