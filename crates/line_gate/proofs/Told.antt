-- The entries of events that were submitted together, as their caller was told of them.
use Rattle.std.proofs.Common.{◌≡◌, ℕ, ◌+◌, ◌≤◌, List, [], ◌∷◌, ◌++◌, length, take, refl, sym, ap, ◌∙◌, subst, arith, length-append, append_assoc}
use Rattle.std.specs.Prelude.{All, map, reverse}
use Rattle.std.proofs.lemmas.List.{reverse-append}
use Rattle.std.proofs.lemmas.List.Elements.{All-nil, All-head, All-tail, All-append, All-cons, All-push}
use Rattle.arc_io.specs.Disks.{DiskSeen}
use Rattle.centre_rules.specs.Summary.{Summary}
use Rattle.centre_rules.specs.Answers.{answer}
use Rattle.centre_rules.specs.History.{moment_after}
use Rattle.centre_core.specs.Batches.{MayBeSubmitted, entry_by, with_all, done_of, dones_of, entries_by}
use Rattle.centre_core.specs.Runs.{IsSubmitted}
use Rattle.centre_core.specs.declared.batch.Submission.{Submission}
use Rattle.centre_core.specs.declared.ready.Done.{Done}
use Rattle.centre_store.specs.Stores.{Stored, StoreStands}
use Rattle.line_gate.specs.Entries.{Entry, AreBy}
use Rattle.line_gate.specs.Groups.{told_entry, told_entries, clocks_of}
use Rattle.line_gate.specs.Passes.{IsAnswer, AreAnswers}
use Rattle.line_gate.specs.Terms.{Terms, AreSubmitted}
use Rattle.line_gate.specs.UnderLock.{StandsSince}

-- Over each history, the entries are built from the events and what was told alone.
pub told_all : (caller : ℕ) (b : Summary) (h : List Entry) (calls : List Submission)
    → with_all caller b h calls ≡ told_entries calls (dones_of caller b h calls) ++ h
told_all caller b h [] = refl
told_all caller b h (call ∷ later) =
    let e = entry_by caller b h call in
    told_all caller b (e ∷ h) later ∙ sym (append_assoc (told_entries later (dones_of caller b (e ∷ h) later)) (e ∷ []) h)

-- there are as many as it was told of
pub told_length : (calls : List Submission) (dones : List Done) → length calls ≡ length dones → length (told_entries calls dones) ≡ length dones
told_length [] [] e = refl
told_length [] (d ∷ dones) e = absurd (omega arith)
told_length (call ∷ calls) [] e = absurd (omega arith)
told_length (call ∷ calls) (d ∷ dones) e = omega (arith, length-append (told_entries calls dones) (told_entry call d ∷ []), told_length calls dones (omega arith))

by_push : (n : ℕ) (es : List Entry) (e : Entry) → AreBy n es → e.caller ≡ n → AreBy n (es ++ e ∷ [])
by_push n [] e by is = (is, tt)
by_push n (first ∷ es) e by is = (by.0, by_push n es e by.1 is)

-- they are the caller's
pub told_by : (n : ℕ) (calls : List Submission) (dones : List Done) → All (λ d. d.caller ≡ n) dones → AreBy n (told_entries calls dones)
told_by n [] dones by = tt
told_by n (call ∷ calls) [] by = tt
told_by n (call ∷ calls) (d ∷ dones) by =
    let P : Done → Type 0 = λ d. d.caller ≡ n in
    by_push n (told_entries calls dones) (told_entry call d) (told_by n calls dones (All-tail P d dones by)) (All-head P d dones by)

-- and of events that callers submit
pub told_submitted : (calls : List Submission) (dones : List Done) → All MayBeSubmitted calls → AreSubmitted (told_entries calls dones)
told_submitted [] dones may = All-nil (λ (e : Entry). IsSubmitted e.event)
told_submitted (call ∷ calls) [] may = All-nil (λ (e : Entry). IsSubmitted e.event)
told_submitted (call ∷ calls) (d ∷ dones) may =
    All-push (λ (e : Entry). IsSubmitted e.event) (told_entries calls dones) (told_entry call d)
    (told_submitted calls dones (All-tail MayBeSubmitted call calls may)) (All-head MayBeSubmitted call calls may).submitted

-- what is told of a caller's events bears its number
pub dones_by : (caller : ℕ) (b : Summary) (h : List Entry) (calls : List Submission) → All (λ d. d.caller ≡ caller) (dones_of caller b h calls)
dones_by caller b h [] = All-nil (λ (d : Done). d.caller ≡ caller)
dones_by caller b h (call ∷ later) =
    let e = entry_by caller b h call in
    All-cons (λ (d : Done). d.caller ≡ caller) (done_of e) (dones_of caller b (e ∷ h) later) refl (dones_by caller b (e ∷ h) later)

-- a store that stood for what the book has seen stands for that with these
pub told_since : {D : Type 0} (seen : D → DiskSeen) (t : Terms) (n : ℕ) (since : List Entry) (s now : Stored D) (calls : List Submission) (dones : List Done)
    → StandsSince seen t since s → length calls ≡ length dones
    → ((b : Summary) (h : List Entry) → StoreStands seen b s h → dones ≡ dones_of n b h calls)
    → ((b : Summary) (h : List Entry) → StoreStands seen b s h → StoreStands seen b now (with_all n b h calls))
    → now.state.entries ≡ s.state.entries + length dones
    → StandsSince seen t (told_entries calls dones ++ since) now
told_since seen t n since s now calls dones w long told stands entries = record {
  stands = λ b base from.
      let h : List Entry = since ++ base in
      let held = w.stands b base from in
      let now_is : with_all n b h calls ≡ (told_entries calls dones ++ since) ++ base =
      told_all n b h calls ∙ ap (λ (ds : List Done). told_entries calls ds ++ h) (sym (told b h held)) ∙ sym (append_assoc (told_entries calls dones) since base) in
      subst (StoreStands seen b now) now_is (stands b h held);
  entries = omega (arith, entries, w.entries, told_length calls dones long, length-append (told_entries calls dones) since);
}

-- Their moments and replies.

-- the one that was answered first stands last
answers_push : (t : Terms) (before : List Entry) (cs : List ℕ) (clock : ℕ) (es : List Entry) (e : Entry)
    → IsAnswer t before clock e → AreAnswers t (e ∷ before) cs es → AreAnswers t before (cs ++ clock ∷ []) (es ++ e ∷ [])
answers_push t before [] clock [] e one later = (one, tt)
answers_push t before [] clock (x ∷ es) e one later = absurd later
answers_push t before (c ∷ cs) clock [] e one later = absurd later
answers_push t before (c ∷ cs) clock (x ∷ es) e one later =
    (subst (λ (l : List Entry). IsAnswer t l c x) (sym (append_assoc es (e ∷ []) before)) later.0, answers_push t before cs clock es e one later.1)

pub clocks_first : (call : Submission) (calls : List Submission) → clocks_of (call ∷ calls) ≡ clocks_of calls ++ call.clock ∷ []
clocks_first call calls = reverse-append (call.clock ∷ []) (map (λ (call : Submission). call.clock) calls)

-- the first one of what was told
done_is : (d e : Done) (ds es : List Done) → d ∷ ds ≡ e ∷ es → d ≡ e
done_is d e ds es same = cc

dones_are : (d e : Done) (ds es : List Done) → d ∷ ds ≡ e ∷ es → ds ≡ es
dones_are d e ds es same = cc

-- the answers of one thread, over each base
pub told_answers : (t : Terms) (n : ℕ) (before : List Entry) (calls : List Submission) (dones : List Done) → length calls ≡ length dones
    → ((b : Summary) (base : List Entry) → t.stood b base → dones ≡ dones_of n b (before ++ base) calls)
    → AreAnswers t before (clocks_of calls) (told_entries calls dones)
told_answers t n before [] [] long told = tt
told_answers t n before [] (d ∷ dones) long told = absurd (omega arith)
told_answers t n before (call ∷ calls) [] long told = absurd (omega arith)
told_answers t n before (call ∷ calls) (d ∷ dones) long told =
    let e : Entry = told_entry call d in
    let first : (b : Summary) (base : List Entry) → t.stood b base → d ≡ done_of (entry_by n b (before ++ base) call) =
    λ b base from. done_is d _ dones _ (told b base from) in
    let entry : (b : Summary) (base : List Entry) → t.stood b base → e ≡ entry_by n b (before ++ base) call =
    λ b base from. ap (told_entry call) (first b base from) in
    let one : IsAnswer t before call.clock e = record {
      at = λ b base from. ap (λ (x : Entry). x.at) (entry b base from);
      reply = λ b base from. ap (λ (x : Entry). x.reply) (entry b base from) ∙ ap (λ (at : ℕ). answer b (before ++ base) call.event at) (sym (ap (λ (x : Entry). x.at) (entry b base from)));
    } in
    let further : (b : Summary) (base : List Entry) → t.stood b base → dones ≡ dones_of n b ((e ∷ before) ++ base) calls =
    λ b base from. dones_are d _ dones _ (told b base from) ∙ ap (λ (x : Entry). dones_of n b (x ∷ (before ++ base)) calls) (sym (entry b base from)) in
    subst (λ (cs : List ℕ). AreAnswers t before cs (told_entries (call ∷ calls) (d ∷ dones))) (sym (clocks_first call calls))
    (answers_push t before (clocks_of calls) call.clock (told_entries calls dones) e one (told_answers t n (e ∷ before) calls dones (omega arith) further))
