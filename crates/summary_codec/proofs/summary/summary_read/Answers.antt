-- The head, the rows and the incidents, and nothing behind them.
use Rattle.std.proofs.Common.{ℕ, List, map, length, eqb, sym, ap, ◌∙◌, arith}
use Rattle.std.proofs.lemmas.Bool.{false≢true, eqb-true}
use Rattle.std.proofs.lemmas.List.{nil_from_length}
use Rattle.summary_codec.specs.Parts.{row_of_read}
use Rattle.summary_codec.proofs.ReadWhole.{none_is, no_rows, no_incidents, no_end, all_is}
use Rattle.summary_codec.proofs.summary.summary_read.Goals as goal

pub returns-in_default : goal.returns-in_default
returns-in_default c = none_is c.args.version c.args.bytes.now (c.in_default.ensures c.args.version)

pub returns-in-Ok-None : goal.returns-in-Ok-None
returns-in-Ok-None c = no_rows c.args.version c.args.bytes.now c.in-Some.head c.in-Some.ensures (rw c.in-Ok-None.field-0-is at c.in-Ok-None.ensures)

pub returns-in-Ok-None-incidents_at : goal.returns-in-Ok-None-incidents_at
returns-in-Ok-None-incidents_at c =
    no_incidents c.args.version c.args.bytes.now c.in-Some.head (map row_of_read c.in-Ok-Some.found.0.items) c.in-Ok-Some.found.1.now c.in-Some.ensures
    (rw c.in-Ok-Some.field-0-is at c.in-Ok-Some.ensures) (rw c.in-Ok-None-incidents_at.field-0-is at c.in-Ok-None-incidents_at.ensures)

pub returns-then-not-is_empty : goal.returns-then-not-is_empty
returns-then-not-is_empty c =
    no_end c.args.version c.args.bytes.now c.in-Some.head (map row_of_read c.in-Ok-Some.found.0.items) c.in-Ok-Some.found.1.now c.in-Ok-Some-incidents_at.found.0.items
    c.in-Ok-Some-incidents_at.found.1.now c.in-Some.ensures (rw c.in-Ok-Some.field-0-is at c.in-Ok-Some.ensures)
    (rw c.in-Ok-Some-incidents_at.field-0-is at c.in-Ok-Some-incidents_at.ensures)
    (λ none. false≢true (c.if-not-is_empty.ensures ∙ ap (λ (l : List ℕ). eqb (length l) 0) none))

pub returns : goal.returns
returns c =
    let end = c.in-Ok-Some-incidents_at.found.1.now in
    all_is c.args.version c.args.bytes.now (record { head = c.in-Some.head; rows = c.in-Ok-Some.found.0; incidents = c.in-Ok-Some-incidents_at.found.0 }) c.in-Ok-Some.found.1.now end
    (λ i. omega (arith, c.type_inv.bytes i)) c.in-Some.ensures (rw c.in-Ok-Some.field-0-is at c.in-Ok-Some.ensures)
    (rw c.in-Ok-Some-incidents_at.field-0-is at c.in-Ok-Some-incidents_at.ensures)
    (nil_from_length end (eqb-true (length end) 0 (sym c.if-not-is_empty.ensures)))
