use Rattle.std.proofs.Common.{◌≤◌, ℕ, [], refl, sym, subst, ap, ◌∙◌}
use Rattle.std.specs.Option.{unwrap_or}
use Rattle.arc_io.specs.Seen.{PortSeen}
use Rattle.arc_io.specs.Told.{after_reading}
use Rattle.arc_script.proofs.GivenSummaries.{given_moment}
use Rattle.arc_script.proofs.Reopening.{kept_recorded}
use Rattle.centre_core.specs.Setting.{IsSetting}
use Rattle.centre_rules.specs.History.{recorded}
use Rattle.centre_store.proofs.Readable.{readable_begun}
use Rattle.centre_store.specs.Begins.{begun_after}
use Rattle.centre_store.specs.Pasts.{AreKept}
use Rattle.arc_server.proofs.Begun.{unbegun}
use Rattle.arc_server.proofs.Over.{over_is}
use Rattle.arc_server.proofs.begin.begin_over.Goals as goal

pub returns-in-Ok-clause-begun : goal.returns-in-Ok-clause-begun
returns-in-Ok-clause-begun g c r q' base past port counted read begins stands =
    let e = c.in-Ok.ensures in
    let first = c.begin.new.self in
    let since : c.args.before ≤ first.at_open = subst (λ (n : ℕ). c.args.before ≤ n) (sym e.at_open) c.requires.before in
    let begun = e.begun base past stands in
    let kept : AreKept (recorded past) = subst AreKept (sym (kept_recorded past begins.is_past.kept)) begins.is_past.kept in (
      record {
        asked = record {
          setup = record { text = c.args.setup; read = read; is = c.requires.setting };
          base = base;
          past = past;
          begins = begins;
          clock = c.now-clock.result;
          told = c.now-clock.ensures.told ∙ ap (λ (p : PortSeen). after_reading c.now-clock.result p) (sym port);
        };
        first = first;
        history = begun_after base past c.args.setup c.now-clock.result;
        is = refl;
        stands = record { stands = begun; setting = subst (λ t. IsSetting t) (sym e.text) c.requires.setting };
        readable = readable_begun base past c.args.setup c.now-clock.result c.now-clock.ensures.bound begun.centre.legal
            (given_moment base begins.given, kept);
        under = ap (λ t. unwrap_or t []) e.text;
        up = λ failed. let told = e.down.0 failed in cc;
        later = subst (λ (n : ℕ). n ≤ first.at_open) counted since;
      },
      refl,
    )

pub returns-in-Ok-clause-ready : goal.returns-in-Ok-clause-ready
returns-in-Ok-clause-ready g c = subst (λ t. IsSetting t) (sym c.in-Ok.ensures.text) c.requires.setting

pub returns-in-Err-clause-stopped : goal.returns-in-Err-clause-stopped
returns-in-Err-clause-stopped g c r q' base past port counted read begins stands =
    let e = c.in-Err.ensures in
    let last = c.begin.new.self in
    let since : c.args.before ≤ last.at_open = subst (λ (n : ℕ). c.args.before ≤ n) (sym e.at_open) c.requires.before in
    unbegun
    (record {
      setup = record { text = c.args.setup; read = read; is = c.requires.setting };
      base = base;
      past = past;
      begins = begins;
      clock = c.now-clock.result;
      told = c.now-clock.ensures.told ∙ ap (λ (p : PortSeen). after_reading c.now-clock.result p) (sym port);
    })
    last c.in-Err.stop (e.stop base past stands) e.cause (e.limits ∙ c.requires.limits) (subst (λ (n : ℕ). n ≤ last.at_open) counted since)
    c.close-disk.ensures (over_is c.status_over-status.result c.status_over-status.ensures.over counted c.faults.ensures c.status_of_stop.ensures.made)
