-- Each part of what was read is fine, and the centre keeps all of it.
use Rattle.std.proofs.Common.{◌≡◌, ◌∙◌, ℕ, Option, map, sym, ap, subst}
use Rattle.std.specs.Prelude.{IsOk}
use Rattle.std.specs.Option.{option_map}
use Rattle.std.proofs.lemmas.Bool.{false≢true}
use Rattle.alarm_rules.specs.Setups.{setup_of}
use Rattle.summary_rules.specs.Fields.{Given, IsIncident}
use Rattle.summary_rules.specs.Lists.{Every}
use Rattle.summary_rules.specs.Conditions.{AreNamedIn, IsSummary}
use Rattle.summary_codec.specs.declared.head.Head.{Head}
use Rattle.summary_codec.specs.declared.summary.ReadSummary.{ReadSummary}
use Rattle.summary_codec.specs.Parts.{row_of_read, summary_of_read}
use Rattle.centre_core.specs.Decoding.{AreRowsFine, AreIncidentsFine, AreAllApart}
use Rattle.centre_core.specs.Taken.{sum_of}
use Rattle.centre_core.proofs.Decoded.{of_parts, head_of, rows_of, incidents_of, apart_of, centre_fine}
use Rattle.centre_core.proofs.decoding.centre_of.Goals as goal

abbrev IsWhole : ℕ → ReadSummary → Type 0
IsWhole version r = IsSummary version r.head.generation (summary_of_read r)

pub returns-then-not-are_parts : goal.returns-then-not-are_parts
returns-then-not-are_parts c = λ w.
    let q : ReadSummary = record { head = c.parts-rows.result.0; rows = c.parts-rows.result.1; incidents = c.parts-rows.result.2 } in
    let same : q ≡ c.args.read = λ i. record { head = c.parts-rows.ensures.head i; rows = c.parts-rows.ensures.rows i; incidents = c.parts-rows.ensures.incidents i } in
    let whole = subst (IsWhole c.args.version) (sym same) w in
    false≢true (sym c.if-not-are_parts.true ∙ c.are_parts.ensures.only (record {
      head = head_of c.args.version q whole;
      rows_are = subst (AreRowsFine q.head.last) (sym c.deref.ensures.value) (rows_of c.args.version q whole);
      incidents = subst (AreIncidentsFine q.head) (sym c.deref-2.ensures.value) (incidents_of c.args.version q whole);
    }))

pub returns-in_default-2 : goal.returns-in_default-2
returns-in_default-2 c = λ w.
    let q : ReadSummary = record { head = c.parts-rows.result.0; rows = c.parts-rows.result.1; incidents = c.parts-rows.result.2 } in
    let same : q ≡ c.args.read = λ i. record { head = c.parts-rows.ensures.head i; rows = c.parts-rows.ensures.rows i; incidents = c.parts-rows.ensures.incidents i } in
    let text : c.in-Some.accounts.text ≡ option_map (λ t. t.now) q.head.text = rw c.in-Some.is at c.in_ok-accounts.ensures.kept in
    let not_apart : AreAllApart c.lapse_by-lapse.result q.head.last q.incidents.items → ⊥ = rw c.in_default-2.is at c.in_ok-queued.ensures.apart in
    not_apart (subst (λ (l : Option ℕ). AreAllApart l q.head.last q.incidents.items) (sym (c.lapse_by-lapse.ensures (summary_of_read q) (sym text)))
    (apart_of c.args.version q (subst (IsWhole c.args.version) (sym same) w)))

pub invariant_of-result : goal.invariant_of-result
invariant_of-result c =
    let q : ReadSummary = record { head = c.parts-rows.result.0; rows = c.parts-rows.result.1; incidents = c.parts-rows.result.2 } in
    let same : q ≡ c.args.read = λ i. record { head = c.parts-rows.ensures.head i; rows = c.parts-rows.ensures.rows i; incidents = c.parts-rows.ensures.incidents i } in
    let kept : c.in-Some-2.queued.incidents ≡ q.incidents.items = rw c.in-Some-2.is at c.in_ok-queued.ensures.incidents in
    let fine : AreIncidentsFine q.head q.incidents.items = subst (AreIncidentsFine q.head) c.deref-2.ensures.value (c.are_parts.ensures.fine c.if-not-are_parts.false).incidents in
    let fields : Every IsIncident q.incidents.items = subst (λ (r : ReadSummary). Every IsIncident r.incidents.items) (sym same) c.requires.fields.incidents in
    centre_fine c.args.version q.head c.in-Some.accounts.text c.in-Some-2.queued (c.are_parts.ensures.fine c.if-not-are_parts.false).head
    (subst (Given (λ x. IsOk (setup_of x))) (sym (rw c.in-Some.is at c.in_ok-accounts.ensures.kept)) (rw c.in-Some.is at c.in_ok-accounts.ensures.text))
    (subst (AreIncidentsFine q.head) (sym kept) fine) (subst (Every IsIncident) (sym kept) fields) (rw c.in-Some-2.is at c.in_ok-queued.ensures.opened)

pub returns : goal.returns
returns c =
    let q : ReadSummary = record { head = c.parts-rows.result.0; rows = c.parts-rows.result.1; incidents = c.parts-rows.result.2 } in
    let same : q ≡ c.args.read = λ i. record { head = c.parts-rows.ensures.head i; rows = c.parts-rows.ensures.rows i; incidents = c.parts-rows.ensures.incidents i } in
    let text : c.in-Some.accounts.text ≡ option_map (λ t. t.now) q.head.text = rw c.in-Some.is at c.in_ok-accounts.ensures.kept in
    let start : c.in-Some.accounts.rows.start ≡ q.head.start = rw c.in-Some.is at c.in_ok-accounts.ensures.start in
    let rows : c.in-Some.accounts.rows.rows ≡ map row_of_read q.rows.items = rw c.in-Some.is at c.in_ok-accounts.ensures.rows in
    let opened : c.in-Some-2.queued.opened ≡ q.head.opened = rw c.in-Some-2.is at c.in_ok-queued.ensures.opened in
    let incidents : c.in-Some-2.queued.incidents ≡ q.incidents.items = rw c.in-Some-2.is at c.in_ok-queued.ensures.incidents in
    let sum : sum_of q.head.last q.head.recorded c.in-Some.accounts.text c.in-Some.accounts.rows c.in-Some-2.queued ≡ summary_of_read q =
    λ i. record { last = q.head.last; recorded = q.head.recorded; opened = opened i; start = start i; text = text i; rows = rows i; incidents = incidents i } in
    record {
      besides = subst (IsWhole c.args.version) same (of_parts c.args.version q (c.are_parts.ensures.fine c.if-not-are_parts.false).head
          (subst (AreRowsFine q.head.last) c.deref.ensures.value (c.are_parts.ensures.fine c.if-not-are_parts.false).rows_are)
          (subst (AreIncidentsFine q.head) c.deref-2.ensures.value (c.are_parts.ensures.fine c.if-not-are_parts.false).incidents)
          (rw c.in-Some.is at c.in_ok-accounts.ensures.text)
          (subst (λ (l : Option ℕ). AreAllApart l q.head.last q.incidents.items) (c.lapse_by-lapse.ensures (summary_of_read q) (sym text))
          (rw c.in-Some-2.is at c.in_ok-queued.ensures.apart))
          (subst (λ (r : ReadSummary). AreNamedIn c.args.version r.incidents.items) (sym same) c.requires.names));
      entries = ap (λ (h : Head). h.recorded) c.parts-rows.ensures.head;
      sum = sum ∙ ap summary_of_read same;
    }
