-- What a call of the gate with a batch tells of the hall over it.
use Rattle.std.proofs.Common.{◌≡◌, ℕ, List, [], ◌∷◌, ◌++◌, length, refl, sym, ap, ◌∙◌, subst, arith, length-append, append_assoc}
use Rattle.std.specs.Prelude.{All, reverse}
use Rattle.std.proofs.lemmas.List.{reverse-append}
use Rattle.std.proofs.lemmas.List.Elements.{All-head, All-tail}
use Rattle.centre_rules.specs.Summary.{Summary}
use Rattle.centre_rules.specs.Answers.{answer}
use Rattle.centre_core.specs.Batches.{entry_by, with_all, done_of, dones_of, entries_by}
use Rattle.centre_core.specs.GroupHalls.{GoesOnWith}
use Rattle.centre_core.specs.declared.batch.Submission.{Submission}
use Rattle.centre_core.specs.declared.ready.Done.{Done}
use Rattle.line_gate.specs.AtGates.{AtSeen, gate_seen, at_legal}
use Rattle.line_gate.specs.Entries.{Entry}
use Rattle.line_gate.specs.Groups.{told_entry, told_entries, clocks_of, MakesTold}
use Rattle.line_gate.specs.Passes.{PassSeen, IsPass, IsAnswer, AreAnswers}
use Rattle.line_gate.specs.Terms.{Terms}
use Rattle.line_gate.proofs.AtHalls.{own_at, later}
use Rattle.line_gate.proofs.Told.{told_all, told_length, clocks_first}

-- the entries, the first one first, turned round
told_reversed : (n : ℕ) (b : Summary) (h : List Entry) (calls : List Submission) → told_entries calls (dones_of n b h calls) ≡ reverse (entries_by n b h calls)
told_reversed n b h [] = refl
told_reversed n b h (call ∷ later) =
    let e = entry_by n b h call in
    ap (λ (l : List Entry). l ++ e ∷ []) (told_reversed n b (e ∷ h) later) ∙ sym (reverse-append (e ∷ []) (entries_by n b (e ∷ h) later))

-- the one that was answered first stands last
answers_first : (t : Terms) (before : List Entry) (cs : List ℕ) (clock : ℕ) (es : List Entry) (e : Entry) → length cs ≡ length es
    → AreAnswers t before (cs ++ clock ∷ []) (es ++ e ∷ []) → IsAnswer t before clock e × AreAnswers t (e ∷ before) cs es
answers_first t before [] clock [] e long all = all
answers_first t before [] clock (x ∷ es) e long all = absurd (omega arith)
answers_first t before (c ∷ cs) clock [] e long all = absurd (omega arith)
answers_first t before (c ∷ cs) clock (x ∷ es) e long all =
    let later = answers_first t before cs clock es e (omega arith) all.1 in
    (later.0, (subst (λ (l : List Entry). IsAnswer t l c x) (append_assoc es (e ∷ []) before) all.0, later.1))

clocks_length : (calls : List Submission) → length (clocks_of calls) ≡ length calls
clocks_length [] = refl
clocks_length (call ∷ calls) = omega (arith, ap length (clocks_first call calls), length-append (clocks_of calls) (call.clock ∷ []), clocks_length calls)

done_same : (d e : Done) → d.caller ≡ e.caller → d.at ≡ e.at → d.reply ≡ e.reply → d ≡ e
done_same d e caller at reply = λ i. record { caller = caller i; at = at i; reply = reply i }

-- what was told is what one thread is told of them, over each base
told_back : (t : Terms) (n : ℕ) (before : List Entry) (calls : List Submission) (dones : List Done) → length calls ≡ length dones
    → All (λ d. d.caller ≡ n) dones → AreAnswers t before (clocks_of calls) (told_entries calls dones)
    → (b : Summary) (base : List Entry) → t.stood b base → dones ≡ dones_of n b (before ++ base) calls
told_back t n before [] [] long by all b base from = refl
told_back t n before [] (d ∷ dones) long by all b base from = absurd (omega arith)
told_back t n before (call ∷ calls) [] long by all b base from = absurd (omega arith)
told_back t n before (call ∷ calls) (d ∷ dones) long by all b base from =
    let P : Done → Type 0 = λ d. d.caller ≡ n in
    let e : Entry = told_entry call d in
    let h : List Entry = before ++ base in
    let es : List Entry = told_entries calls dones in
    let same : length (clocks_of calls) ≡ length es = omega (arith, clocks_length calls, told_length calls dones (omega arith)) in
    let both = answers_first t before (clocks_of calls) call.clock es e same
    (subst (λ (cs : List ℕ). AreAnswers t before cs (es ++ e ∷ [])) (clocks_first call calls) all) in
    let at = both.0.at b base from in
    let first : d ≡ done_of (entry_by n b h call) =
    done_same d (done_of (entry_by n b h call)) (All-head P d dones by) at
    (both.0.reply b base from ∙ ap (λ (at : ℕ). answer b h call.event at) at) in
    let entry : e ≡ entry_by n b h call = ap (told_entry call) first in
    let further = told_back t n (e ∷ before) calls dones (omega arith) (All-tail P d dones by) both.1 b base from
    ∙ ap (λ (x : Entry). dones_of n b (x ∷ h) calls) entry in
    ap (λ (x : Done). x ∷ dones) first ∙ ap (λ (l : List Done). done_of (entry_by n b h call) ∷ l) further

-- the hall goes on with them
pub goes_on_with : (t : Terms) (p q : PassSeen) (calls : List Submission) (dones : List Done) → MakesTold t p q calls dones
    → All (λ d. d.caller ≡ p.number) dones → length calls ≡ length dones → IsPass t q
    → (b : Summary) (h : List Entry) → AtSeen t p b h → GoesOnWith b (gate_seen t p) (gate_seen t q) h calls dones
goes_on_with t p q calls dones m by long pass b h w =
    let n : ℕ = p.number in
    let before : List Entry = m.before ++ w.base in
    let told = told_back t n m.before calls dones long by m.answers b w.base w.from in
    let now : List Entry = with_all n b before calls in
    let seen : now ≡ q.since ++ w.base =
    told_all n b before calls ∙ ap (λ (ds : List Done). told_entries calls ds ++ before) (sym told)
    ∙ sym (append_assoc (told_entries calls dones) m.before w.base) ∙ sym (ap (λ (l : List Entry). l ++ w.base) m.since) in
    let at : AtSeen t q b now = record { base = w.base; from = w.from; seen = seen; pass = pass } in
    let made : told_entries calls dones ≡ reverse (entries_by n b before calls) =
    ap (λ (ds : List Done). told_entries calls ds) told ∙ told_reversed n b before calls in record {
      before = before;
      extends = later t p b h m.before w m.extends;
      told = told;
      holds = at;
      legal = at_legal t q b now at;
      own = own_at t q b now at ∙ m.made ∙ ap (λ (l : List Entry). l ++ p.made) made
          ∙ ap (λ (l : List Entry). reverse (entries_by n b before calls) ++ l) (sym (own_at t p b h w));
      disk = record { reads = λ r. r; leaves = λ r t k left. left };
    }
