-- The pair is new, and its window was empty.
use Rattle.std.proofs.Common.{◌≡◌, ◌∙◌, ◌++◌, ◌∷◌, [], List, ℕ, None, false, ap}
use Rattle.std.specs.Str.{bytes_eq}
use Rattle.indexmap.proofs.CallerLemmas.{insert_entry-new}
use Rattle.indexmap.specs.IndexMap.{get}
use Rattle.centre_rules.specs.Summary.{Past}
use Rattle.known_accounts.specs.declared.row.Row.{Row}
use Rattle.known_accounts.specs.Rows.{blank}
use Rattle.known_accounts.proofs.Found.{last_empty}
use Rattle.known_accounts.proofs.Written.{none_of}
use Rattle.known_accounts.proofs.account_rows.make_row.Goals as goal

pub returns-clause-entries : goal.returns-clause-entries
returns-clause-entries c =
    let rows = c.args.rows.now in
    let account = c.args.account.now in
    let start = c.args.start in
    let absent : get bytes_eq rows account ≡ None = none_of _ c.requires.none in
    let row : Row = record { heard = start; failed = false; opening = None; window = c.in-Some.window } in
    let empty : c.in-Some.window ≡ [] = last_empty c.pop.new.self.items c.in-Some.window (rw (← c.in-Some.ensures.items) c.requires.empty) in
    c.in-Ok.ensures.entries ∙ insert_entry-new bytes_eq rows account row absent
    ∙ ap (λ (l : List Past). rows.entries ++ (account, record (blank start) { window = l }) ∷ []) empty
