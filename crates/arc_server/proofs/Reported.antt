-- The report of a store, and its summary, are those of the history for which it stands.
use Rattle.std.proofs.Common.{◌≡◌, ◌++◌, ℕ, List, codes, decimal, length, sym, subst, ap, ◌∙◌}
use Rattle.std.specs.Prelude.{Result, Option, option_and_then}
use Rattle.std.specs.Result.{result_ok}
use Rattle.alarm_rules.specs.Setups.{setup_of}
use Rattle.arc_data.specs.declared.incident.Incident.{Incident}
use Rattle.arc_io.specs.Seen.{PortSeen}
use Rattle.arc_io.specs.Told.{Puts}
use Rattle.arc_report.specs.Reports.{report_of, table_of}
use Rattle.desk_wire.specs.Replies.{ended}
use Rattle.centre_rules.specs.Cases.{incidents}
use Rattle.centre_rules.specs.Standing.{standing_of, last_standing}
use Rattle.centre_rules.specs.Summary.{Summary}
use Rattle.centre_rules.specs.Sums.{summary_of}
use Rattle.centre_rules.specs.History.{Entry, marks}
use Rattle.centre_rules.specs.State.{State, StandsFor}
use Rattle.centre_rules.proofs.Steps.{incidents_begin}
use Rattle.arc_server.specs.ServeRuns.{summary_line}

open_after : (s : State) (base : Summary) (h : List Entry) → StandsFor base s h → s.sum.incidents ≡ incidents base (marks base h)
open_after s base h stands = sym (incidents_begin s.sum) ∙ stands.same.incidents

-- after how many seconds a hold lapses by the setup of a text, if ever
abbrev lapse_by : Option (List ℕ) → Option ℕ
lapse_by text = option_and_then (λ setup. setup.lapse) (option_and_then (λ t. result_ok (setup_of t)) text)

-- as the open incidents stand at the last moment
stand_after : (s : State) (base : Summary) (h : List Entry) → StandsFor base s h → last_standing s.sum ≡ last_standing (summary_of base h)
stand_after s base h stands =
    ap (λ (text : Option (List ℕ)). standing_of (lapse_by text) s.sum.last s.sum.incidents) stands.same.text
    ∙ ap (λ (at : ℕ). standing_of (lapse_by (summary_of base h).text) at s.sum.incidents) stands.last
    ∙ ap (standing_of (lapse_by (summary_of base h).text) (summary_of base h).last) (open_after s base h stands)

report_is : (s : State) (base : Summary) (past : List Entry) → StandsFor base s past → report_of s.sum ≡ report_of (summary_of base past)
report_is s base past stands =
    ap (λ (r : ℕ). (codes "recorded " ++ ended (decimal r)) ++ table_of (last_standing s.sum)) stands.recorded
    ∙ ap (λ (is : List Incident). (codes "recorded " ++ ended (decimal (summary_of base past).recorded)) ++ table_of is) (stand_after s base past stands)

abbrev line_of : ℕ → List Incident → List ℕ
line_of r is = (codes "recorded " ++ decimal r) ++ ((codes ", open " ++ decimal (length is)) ++ codes "\n")

line_is : (s : State) (base : Summary) (h : List Entry) → StandsFor base s h → summary_line s.sum ≡ summary_line (summary_of base h)
line_is s base h stands =
    ap (λ (r : ℕ). line_of r s.sum.incidents) stands.recorded
    ∙ ap (λ (is : List Incident). line_of (summary_of base h).recorded is) (open_after s base h stands)

-- what was put of the one is what was put of the other
pub puts_report : {T E : Type 0} {p p' : PortSeen} {result : Result T E} (s : State) (base : Summary) (past : List Entry) → StandsFor base s past
    → Puts p p' result (report_of s.sum) → Puts p p' result (report_of (summary_of base past))
puts_report {T} {E} {p} {p'} {result} s base past stands puts = subst (λ (l : List ℕ). Puts p p' result l) (report_is s base past stands) puts

pub puts_line : {T E : Type 0} {p p' : PortSeen} {result : Result T E} (s : State) (base : Summary) (h : List Entry) → StandsFor base s h
    → Puts p p' result (summary_line s.sum) → Puts p p' result (summary_line (summary_of base h))
puts_line {T} {E} {p} {p'} {result} s base h stands puts = subst (λ (l : List ℕ). Puts p p' result l) (line_is s base h stands) puts
