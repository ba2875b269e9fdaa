-- The kinds of join keep the rule. Each leaves the second seat spent.
use Rattle.std.proofs.Common.{◌≡◌, ◌≢◌, ◌⊎◌, ℕ, List, [], true, false, refl, sym, ◌∙◌, subst, inl, ⊎_elim, arith}
use Rattle.std.proofs.lemmas.Bool.{true≢false, false≢true}
use Rattle.atomic_table.specs.Table.{Joins}
use Rattle.line_gate.specs.Entries.{Entry, longer}
use Rattle.line_gate.specs.declared.view.View.{View}
use Rattle.line_gate.specs.Views.{nobody, learned, taking, shown, withdrawn}
use Rattle.line_gate.specs.Rule.{Core, Fits, IsWhole, Keeps}
use Rattle.line_gate.proofs.Histories.{extends_self, longer_of, longer_within}
use Rattle.line_gate.proofs.Places.{each_join, other_at}
use Rattle.line_gate.proofs.Splits.{moved, one_book, core_naming, book_naming, spent_fits}

longer_whole : (c : Core) (a b : List Entry) → (longer a b ≡ a) ⊎ (longer a b ≡ b) → IsWhole c a → IsWhole c b → IsWhole c (longer a b)
longer_whole c a b either x y = ⊎_elim (λ (e : longer a b ≡ a). subst (IsWhole c) (sym e) x) (λ (e : longer a b ≡ b). subst (IsWhole c) (sym e) y) either

-- A pass takes in a pass or a note that names nothing: it has then seen the longer of both histories, and keeps both as old ones.
pub learns : (id : ℕ) (v : View) (other : ℕ) (w : View) → v.book ≡ false → v.named ≡ [] → Joins Keeps id v other w (learned v w) nobody
learns id v other w is_pass free s h at apart there =
    let c = h.core in
    let f = h.each id v at in
    let g = h.each other w (other_at s.views id other (learned v w) w apart there) in record {
      core = c;
      words = h.words;
      known = h.known;
      free = h.free;
      each = each_join (Fits c) (Fits c) s.views id other (learned v w) nobody apart h.each (λ j u _ _ t. t) (record {
        now = (
          longer_within v.seen w.seen c.log f.now.0 g.now.0,
          longer_whole c v.seen w.seen (longer_of v.seen w.seen c.log f.now.0 g.now.0).either f.now.1 g.now.1,
          let t = f.now.2 in let r = g.now.2 in omega arith,
          let t = f.now.3 in let r = g.now.3 in omega arith,
        );
        shown = (g.now.0, g.now.1, f.shown.2, f.shown.3);
        had = f.now.0;
        number = λ n e. let i = f.number n e in record { below = let t = i.below in omega arith; owner = i.owner; made = i.made };
        book = λ is. absurd (false≢true (sym is_pass ∙ is));
        names = λ is some_named. absurd (some_named free);
      }) (spent_fits c other);
    }

-- A pass that has seen as much takes in the note that names entries, and is then the one that may append of them.
pub takes : (id : ℕ) (v : View) (other : ℕ) (w : View) → v.book ≡ false → v.named ≡ [] → w.book ≡ false → w.named ≢ [] → v.seen ≡ w.seen → Joins Keeps id v other w (taking v w) nobody
takes id v other w is_pass free is_note names same s h at apart there =
    let c = h.core in
    let f = h.each id v at in
    let g = h.each other w (other_at s.views id other (taking v w) w apart there) in
    let namer = g.names is_note names in
    let d = core_naming c c.next id in
    let others : (j : ℕ) (u : View) → j ≢ id → j ≢ other → Fits c j u → Fits d j u = λ j u _ not_other t. moved c d j u (extends_self c.log) (omega arith) (omega arith) (λ h _ t. t)
    (λ n _ i. record { below = i.below; owner = i.owner; made = i.made })
    (λ is i. record { keeper = i.keeper; seen = i.seen; named = i.named; told = i.told; count = i.count })
    (λ is some_named i. absurd (not_other (i.namer ∙ sym namer.namer)))
    t in record {
      core = d;
      words = h.words;
      known = h.known;
      free = h.free;
      each = each_join (Fits c) (Fits d) s.views id other (taking v w) nobody apart h.each others (record {
        now = f.now;
        shown = f.shown;
        had = f.had;
        number = λ n e. let i = f.number n e in record { below = i.below; owner = i.owner; made = i.made };
        book = λ is. absurd (false≢true (sym is_pass ∙ is));
        names = λ is some_named. record { namer = refl; named = namer.named; seen = same ∙ namer.seen; all = namer.all };
      }) (spent_fits d other);
    }

-- The book is shown a note, or a pass that names nothing: it keeps its own, and what the other knows as old.
pub shows : (id : ℕ) (v : View) (other : ℕ) (w : View) → v.book ≡ true → Joins Keeps id v other w (shown v w) nobody
shows id v other w is_book s h at apart there =
    let c = h.core in
    let f = h.each id v at in
    let b = f.book is_book in
    let g = h.each other w (other_at s.views id other (shown v w) w apart there) in record {
      core = c;
      words = h.words;
      known = h.known;
      free = h.free;
      each = each_join (Fits c) (Fits c) s.views id other (shown v w) nobody apart h.each (λ j u _ _ t. t) (record {
        now = f.now;
        shown = g.now;
        had = f.had;
        number = λ n e. let i = f.number n e in record { below = i.below; owner = i.owner; made = i.made };
        book = λ is. record { keeper = b.keeper; seen = b.seen; named = b.named; told = b.told; count = b.count };
        names = λ is _. absurd (true≢false (sym is_book ∙ is));
      }) (spent_fits c other);
    }

-- The book takes the note back that names entries, of which none was appended: they are withdrawn.
pub withdraws : (id : ℕ) (v : View) (other : ℕ) (w : View) → v.book ≡ true → w.book ≡ false → w.named ≢ [] → Joins Keeps id v other w (withdrawn v w) nobody
withdraws id v other w is_book is_note names s h at apart there =
    let c = h.core in
    let f = h.each id v at in
    let b = f.book is_book in
    let g = h.each other w (other_at s.views id other (withdrawn v w) w apart there) in
    let namer = g.names is_note names in
    let d = core_naming c [] c.namer in
    let others : (j : ℕ) (u : View) → j ≢ id → j ≢ other → Fits c j u → Fits d j u = λ j u not_id not_other t. moved c d j u (extends_self c.log) (omega arith) (omega arith) (λ h _ k. k)
    (λ n _ i. record { below = i.below; owner = i.owner; made = i.made })
    (λ is i. one_book c id j v u b i not_id)
    (λ is some_named i. absurd (not_other (i.namer ∙ sym namer.namer)))
    t in record {
      core = d;
      words = h.words;
      known = inl namer.all;
      free = h.free;
      each = each_join (Fits c) (Fits d) s.views id other (withdrawn v w) nobody apart h.each others (book_naming c id v [] c.namer is_book f) (spent_fits d other);
    }
