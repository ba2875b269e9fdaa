-- The deadline at the account's place is set; or it has none.
use Rattle.std.proofs.Common.{◌≡◌, ◌∙◌, sym, ap, subst}
use Rattle.std.specs.Prelude.{IfSome, Option, slice_get, slice_set}
use Rattle.accounts.specs.Accounts.{defined}
use Rattle.alarm_rules.specs.Setups.{meaning}
use Rattle.known_accounts.specs.Rows.{Tells, row_in}
use Rattle.known_accounts.specs.Supervised.{silence_of}
use Rattle.known_accounts.proofs.Renewed.{renewed_in, lacking_in, silence_kept, own_number, no_place}
use Rattle.known_accounts.proofs.deadlines.Deadlines.renew_silence.Goals as goal

pub returns-in-Some-place-clause-silence : goal.returns-in-Some-place-clause-silence
returns-in-Some-place-clause-silence c account v w there tells others are =
    let place = c.in-Some-place.place in
    let a = defined c.account.result.now in
    let own : a.number ≡ account = own_number account c.args.place c.args.setup.now c.in-Some.setup place a there c.in-Some.is c.in-Some-place.is c.account.ensures.value in
    let told = subst (λ n. Tells (row_in w n) c.args.known) (sym own) tells in
    renewed_in (silence_of v) (silence_of w) account (silence_kept account v w others) c.args.setup.now c.in-Some.setup place
    a c.args.self.now.silence c.set.new.watch c.in-Some.is c.requires.valid c.account.ensures.value
    (rw c.account.ensures.value own) (c.set.ensures ∙ ap (slice_set c.args.self.now.silence place) (c.silence-deadline.ensures (row_in w _) told)) are

pub returns-in_default-place-clause-silence : goal.returns-in_default-place-clause-silence
returns-in_default-place-clause-silence c account v w there tells others are =
    lacking_in (silence_of v) (silence_of w) account (silence_kept account v w others) c.args.setup.now c.in-Some.setup
    c.args.self.now.silence c.in-Some.is (no_place account c.args.place c.args.setup.now c.in-Some.setup there c.in-Some.is c.in_default-place.is) are
