-- An account of no zone, or one that is new, or stands already, or is one too many.
use Rattle.std.proofs.Common.{inr, ◌∷◌, ◌++◌, [], refl, ap, ◌∙◌, arith}
use Rattle.std.specs.Prelude.{not}
use Rattle.accounts.proofs.TakenLemmas.{account-nowhere, account-same, account-many, account-faultless, account-taken}
use Rattle.accounts.proofs.table.Table.take_account.Goals as goal

pub returns-then-is_none : goal.returns-then-is_none
returns-then-is_none c =
    let none = c.is_none.ensures ∙ ap not c.if-is_none.true in
    rw c.bad_zone.ensures (inr (λ lines stands. account-nowhere lines c.args.number c.args.self.now stands c.args.account none))

pub returns-in-Some : goal.returns-in-Some
returns-in-Some c =
    let zone = c.is_none.ensures ∙ ap not c.if-is_none.false in
    rw c.two_same.ensures (inr (λ lines stands.
    account-same lines c.args.number c.args.self.now stands c.args.account c.in-Some.same.now zone c.in-Some.ensures))

pub returns-then-count-ge-ACCOUNT_LIMIT : goal.returns-then-count-ge-ACCOUNT_LIMIT
returns-then-count-ge-ACCOUNT_LIMIT c =
    let zone = c.is_none.ensures ∙ ap not c.if-is_none.false in
    rw c.too_many.ensures (inr (λ lines stands.
    account-many lines c.args.number c.args.self.now stands c.args.account zone c.in_default.ensures (omega arith)))

pub returns-in-Ok : goal.returns-in-Ok
returns-in-Ok c =
    let zone = c.is_none.ensures ∙ ap not c.if-is_none.false in
    λ lines stands. (
      account-faultless lines c.args.number c.args.self.now stands c.args.account zone c.in_default.ensures (omega arith),
      account-taken lines c.args.number c.args.self.now stands c.args.account _ c.in_default.ensures
          (c.in-Ok.ensures ∙ ap (λ entry. c.args.self.now.accounts ++ entry ∷ []) c.new-entry.ensures) refl refl refl,
    )
