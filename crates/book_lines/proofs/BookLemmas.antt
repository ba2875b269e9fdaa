-- A book with one record more, and books that go on from one another.
use Rattle.std.proofs.Common.{◌≡◌, ◌≤◌, ◌<◌, ◌+◌, ℕ, List, [], ◌∷◌, ◌++◌, length, Bool, true, false, cond, ◌&&◌, refl, sym, ap, ◌∙◌, arith, append_assoc, append-nil}
use Rattle.std.specs.List.{filter, flat_map}
use Rattle.std.proofs.lemmas.Bool.{le-leb, lt-leb, leb-true, leb-false}
use Rattle.std.specs.Prelude.{nat_le}
use Rattle.std.proofs.lemmas.Grind.{flat_map-append}
use Rattle.std.proofs.lemmas.List.Elements.{filter-append}
use Rattle.centre_rules.specs.History.{Entry}
use Rattle.centre_rules.specs.Summary.{Summary}
use Rattle.book_lines.specs.Books.{Record, book_of, carried_of, entry_line, is_chosen, line_if, line_told, open_after, records}
use Rattle.book_lines.specs.Choices.{is_of_account, is_of_incident, is_of_operator}
use Rattle.book_lines.specs.GoOn.{whole, ending, beginning}
use Rattle.book_lines.specs.declared.options.Options.{Options}

pub book_none : (o : Options) (base : Summary) → book_of o base [] ≡ []
unfolding book_of records
book_none o base = refl

-- the line of one record alone
one_line : (p : Record → Bool) (f : Record → List ℕ) (r : Record) → flat_map f (filter p (r ∷ [])) ≡ line_if (p r) (f r)
one_line p f r = one (p r)
  where
    one : (b : Bool) → flat_map f (cond b (r ∷ []) []) ≡ line_if b (f r)
    one true = append-nil (f r)
    one false = refl

more_lines : (p : Record → Bool) (f : Record → List ℕ) (rs : List Record) (r : Record)
    → flat_map f (filter p (rs ++ r ∷ [])) ≡ flat_map f (filter p rs) ++ line_if (p r) (f r)
more_lines p f rs r =
    ap (flat_map f) (filter-append p rs (r ∷ [])) ∙ flat_map-append f (filter p rs) (filter p (r ∷ [])) ∙ ap (λ l. flat_map f (filter p rs) ++ l) (one_line p f r)

pub book_more : (o : Options) (base : Summary) (h : List Entry) (e : Entry) → book_of o base (e ∷ h) ≡ book_of o base h ++ entry_line o base h e
unfolding book_of records
book_more o base h e = more_lines (is_chosen o base) (line_told o base) (records h) (record { before = h; entry = e })

-- the line of an entry, where it is within the places or not, and all else that is asked for holds or not
line_by : Options → Summary → Record → Bool → Bool → List ℕ
line_by o base r since until =
    line_if
    (since && until && is_of_account o.account (open_after base r.before) (carried_of base r) r.entry.event r.entry.reply
    && is_of_operator o.operator r.entry.event
    && is_of_incident o.incident (open_after base r.before) (open_after base (r.entry ∷ r.before)) (carried_of base r) r.entry.event r.entry.reply)
    (line_told o base r)

out_since : (o : Options) (base : Summary) (r : Record) (until : Bool) → line_by o base r false until ≡ []
unfolding line_by
out_since o base r until = refl

out_until : (o : Options) (base : Summary) (r : Record) → line_by o base r true false ≡ []
unfolding line_by
out_until o base r = refl

whole_line : (o : Options) (base : Summary) (h : List Entry) (e : Entry) → entry_line (whole o) base h e ≡ line_by o base (record { before = h; entry = e }) true true
unfolding line_by
whole_line o base h e = refl

ending_line : (o : Options) (base : Summary) (n : ℕ) (h : List Entry) (e : Entry) (b : Bool) → nat_le (base.recorded + length h + 1) n ≡ b
    → entry_line (ending n o) base h e ≡ line_by o base (record { before = h; entry = e }) true b
unfolding line_by
ending_line o base n h e b is = ap (line_by o base (record { before = h; entry = e }) true) is

beginning_line : (o : Options) (base : Summary) (n : ℕ) (h : List Entry) (e : Entry) (b : Bool) → nat_le n (base.recorded + length h + 1) ≡ b
    → entry_line (beginning n o) base h e ≡ line_by o base (record { before = h; entry = e }) b true
unfolding line_by
beginning_line o base n h e b is = ap (λ (c : Bool). line_by o base (record { before = h; entry = e }) c true) is

-- up to the record all is in the first book
all_early : (o : Options) (base : Summary) (n : ℕ) (h : List Entry) → base.recorded + length h ≤ n → book_of (ending n o) base h ≡ book_of (whole o) base h
all_early o base n [] le = book_none (ending n o) base ∙ sym (book_none (whole o) base)
all_early o base n (e ∷ h) le =
    let within : nat_le (base.recorded + length h + 1) n ≡ true = le-leb (base.recorded + length h + 1) n (omega (arith, le)) in
    book_more (ending n o) base h e
    ∙ ap (λ (l : List ℕ). book_of (ending n o) base h ++ l) (ending_line o base n h e true within ∙ sym (whole_line o base h e))
    ∙ ap (λ (l : List ℕ). l ++ entry_line (whole o) base h e) (all_early o base n h (omega (arith, le)))
    ∙ sym (book_more (whole o) base h e)

-- and nothing in the second one
none_early : (o : Options) (base : Summary) (n : ℕ) (h : List Entry) → base.recorded + length h ≤ n → book_of (beginning (n + 1) o) base h ≡ []
none_early o base n [] le = book_none (beginning (n + 1) o) base
none_early o base n (e ∷ h) le =
    let before : nat_le (n + 1) (base.recorded + length h + 1) ≡ false = lt-leb (n + 1) (base.recorded + length h + 1) (omega (arith, le)) in
    book_more (beginning (n + 1) o) base h e
    ∙ ap (λ (l : List ℕ). book_of (beginning (n + 1) o) base h ++ l) (beginning_line o base (n + 1) h e false before ∙ out_since o base (record { before = h; entry = e }) true)
    ∙ append-nil (book_of (beginning (n + 1) o) base h) ∙ none_early o base n h (omega (arith, le))

-- where the entry is behind the record, its line is in the second book alone
late : (o : Options) (base : Summary) (n : ℕ) (h : List Entry) (e : Entry) → n < base.recorded + length h + 1 → book_of (ending n o) base h ++ book_of (beginning (n + 1) o) base h ≡ book_of (whole o) base h
    → book_of (ending n o) base (e ∷ h) ++ book_of (beginning (n + 1) o) base (e ∷ h) ≡ book_of (whole o) base (e ∷ h)
late o base n h e lt before =
    let r : Record = record { before = h; entry = e } in
    let out : nat_le (base.recorded + length h + 1) n ≡ false = lt-leb (base.recorded + length h + 1) n lt in
    let behind : nat_le (n + 1) (base.recorded + length h + 1) ≡ true = le-leb (n + 1) (base.recorded + length h + 1) (omega (arith, lt)) in
    ap (λ (l : List ℕ). l ++ book_of (beginning (n + 1) o) base (e ∷ h))
    (book_more (ending n o) base h e ∙ ap (λ (l : List ℕ). book_of (ending n o) base h ++ l) (ending_line o base n h e false out ∙ out_until o base r) ∙ append-nil (book_of (ending n o) base h))
    ∙ ap (λ (l : List ℕ). book_of (ending n o) base h ++ l)
    (book_more (beginning (n + 1) o) base h e
    ∙ ap (λ (l : List ℕ). book_of (beginning (n + 1) o) base h ++ l) (beginning_line o base (n + 1) h e true behind ∙ sym (whole_line o base h e)))
    ∙ sym (append_assoc (book_of (ending n o) base h) (book_of (beginning (n + 1) o) base h) (entry_line (whole o) base h e))
    ∙ ap (λ (l : List ℕ). l ++ entry_line (whole o) base h e) before
    ∙ sym (book_more (whole o) base h e)

-- where it is not, nothing is in the second one
early : (o : Options) (base : Summary) (n : ℕ) (h : List Entry) → base.recorded + length h ≤ n → book_of (ending n o) base h ++ book_of (beginning (n + 1) o) base h ≡ book_of (whole o) base h
early o base n h le =
    ap (λ (l : List ℕ). book_of (ending n o) base h ++ l) (none_early o base n h le) ∙ append-nil (book_of (ending n o) base h) ∙ all_early o base n h le

by_test : (o : Options) (base : Summary) (n : ℕ) (h : List Entry) (e : Entry) (b : Bool) → nat_le (base.recorded + length h + 1) n ≡ b
    → book_of (ending n o) base h ++ book_of (beginning (n + 1) o) base h ≡ book_of (whole o) base h
    → book_of (ending n o) base (e ∷ h) ++ book_of (beginning (n + 1) o) base (e ∷ h) ≡ book_of (whole o) base (e ∷ h)
by_test o base n h e true is before = let le : base.recorded + length h + 1 ≤ n = leb-true (base.recorded + length h + 1) n is in early o base n (e ∷ h) (omega (arith, le))
by_test o base n h e false is before = late o base n h e (leb-false (base.recorded + length h + 1) n is) before

pub goes_on : (o : Options) (base : Summary) (n : ℕ) (h : List Entry) → book_of (ending n o) base h ++ book_of (beginning (n + 1) o) base h ≡ book_of (whole o) base h
goes_on o base n [] =
    ap (λ (l : List ℕ). l ++ book_of (beginning (n + 1) o) base []) (book_none (ending n o) base) ∙ book_none (beginning (n + 1) o) base
    ∙ sym (book_none (whole o) base)
goes_on o base n (e ∷ h) = by_test o base n h e (nat_le (base.recorded + length h + 1) n) refl (goes_on o base n h)
