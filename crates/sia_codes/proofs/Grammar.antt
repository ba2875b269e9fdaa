-- What is read as items is spelled by the rules, and what is spelled so is read.
use Rattle.std.proofs.Common.{◌≡◌, ℕ, suc, ◌+◌, ◌<◌, ◌≤◌, List, [], ◌∷◌, ◌++◌, length, take, drop, Bool, true, false, cond, eqb, Option, Some, None, refl, sym, ◌∙◌, ap, subst, arith, inl, inr, append_assoc, length-append}
use Prim.Native.Nat.{zero}
use Rattle.std.specs.Prelude.{option_and_then, ◌⊎◌, ◌&&◌, ◌||◌}
use Rattle.std.specs.List.{before_first, take_while}
use Rattle.std.proofs.Math.Seq.{drop-append_seam}
use Rattle.std.proofs.lemmas.Bool.{and_parts, eqb-true}
use Rattle.std.proofs.lemmas.Bool.Decides.{nat_tests}
use Rattle.arc_data.specs.Digits.{is_capital_hex}
use Rattle.alarm_rules.specs.SiaCodes.{Item, Modifier, Event, is_lower, is_upper, is_modifier_byte, is_slash, item_bytes, item_at, address_at, event_of, after_slash, item_before, items_from, items_below, items_of, after_letter}
use Rattle.alarm_rules.specs.SiaGrammar.{begins, is_no_slash, IsItem, MaySlash, AreItems, IsSiaData, ReadIsSpelled, SpelledIsRead}
use Rattle.sia_codes.proofs.Runs.{all_front, front_ends, front_whole, front_again, first_ends, first_whole, first_fits, first_again}

some_is : {A : Type 0} (x y : A) → Some x ≡ Some y → x ≡ y
some_is x y e = cc

-- One item.

abbrev Begins : List ℕ → Item → Type 0
Begins text item = (rest : List ℕ) × (text ≡ item_bytes item ++ rest) × IsItem item rest

modifier_begins : (a b : ℕ) (rest : List ℕ) → (is_lower a && is_lower b) ≡ true → Begins (a ∷ b ∷ rest) (Modifier (a ∷ b ∷ []) (take_while is_modifier_byte rest))
modifier_begins a b rest is = (
  drop (length (take_while is_modifier_byte rest)) rest,
  ap (λ xs. a ∷ b ∷ xs) (front_whole is_modifier_byte rest),
  record {
    letters_are = is;
    run_is = all_front is_modifier_byte rest;
    run_ends = front_ends is_modifier_byte rest;
  },
)

event_begins : (a b : ℕ) (rest : List ℕ) → (is_upper a && is_upper b) ≡ true → Begins (a ∷ b ∷ rest) (event_of (a ∷ b ∷ []) rest)
event_begins a b rest is =
    let address : List ℕ = address_at rest in
    let behind : List ℕ = drop (length address) rest in
    let free : List ℕ = before_first is_slash behind in
    let end : List ℕ = drop (length free) behind in
    let split : behind ≡ free ++ end = front_whole is_no_slash behind in
    let whole : rest ≡ address ++ free ++ end = first_whole is_capital_hex 8 rest ∙ ap (λ xs. address ++ xs) split ∙ sym (append_assoc address free end) in (
      end,
      ap (λ xs. a ∷ b ∷ xs) whole,
      record {
        code_is = is;
        address_is = all_front is_capital_hex (take 8 rest);
        address_fits = first_fits is_capital_hex 8 rest;
        address_ends = subst (λ (xs : List ℕ). (length address ≡ 8) ⊎ (begins is_capital_hex xs ≡ false)) split (first_ends is_capital_hex 8 rest);
        free_is = all_front is_no_slash behind;
        free_ends = front_ends is_no_slash behind;
      },
    )

item_begins_by : (a b : ℕ) (rest : List ℕ) (item : Item) (lower upper : Bool) → (is_lower a && is_lower b) ≡ lower → (is_upper a && is_upper b) ≡ upper
    → cond lower (Some (Modifier (a ∷ b ∷ []) (take_while is_modifier_byte rest))) (cond upper (Some (event_of (a ∷ b ∷ []) rest)) None) ≡ Some item → Begins (a ∷ b ∷ rest) item
item_begins_by a b rest item true upper is_low is_up is = subst (λ (i : Item). Begins (a ∷ b ∷ rest) i) (some_is (Modifier (a ∷ b ∷ []) (take_while is_modifier_byte rest)) item is) (modifier_begins a b rest is_low)
item_begins_by a b rest item false true is_low is_up is = subst (λ (i : Item). Begins (a ∷ b ∷ rest) i) (some_is (event_of (a ∷ b ∷ []) rest) item is) (event_begins a b rest is_up)
item_begins_by a b rest item false false is_low is_up is = absurd cc

item_begins : (text : List ℕ) (item : Item) → item_at text ≡ Some item → Begins text item
unfolding item_at
item_begins [] item is = absurd cc
item_begins (a ∷ []) item is = absurd cc
item_begins (a ∷ b ∷ rest) item is = item_begins_by a b rest item (is_lower a && is_lower b) (is_upper a && is_upper b) refl refl is

-- All items.

slash_by : (b : ℕ) (rest : List ℕ) (t : Bool) → is_slash b ≡ t → MaySlash (b ∷ rest) (cond t rest (b ∷ rest))
slash_by b rest true is = let same : b ≡ 47 = eqb-true b 47 is in inr (ap (λ n. n ∷ rest) same)
slash_by b rest false is = inl refl

slash_may : (text : List ℕ) → MaySlash text (after_slash text)
slash_may [] = inl refl
slash_may (b ∷ rest) = slash_by b rest (is_slash b) refl

abbrev Reads : (List ℕ → Option (List Item)) → Type 0
Reads f = (rest : List ℕ) (later : List Item) → f rest ≡ Some later → AreItems later rest

items_later : (f : List ℕ → Option (List Item)) → Reads f → (text x : List ℕ) (items : List Item) (item : Item) (later : Option (List Item)) → MaySlash text x → item_at x ≡ Some item
    → f (drop (length (item_bytes item)) x) ≡ later → item_before item later ≡ Some items → AreItems items text
items_later f reads text x items item None may found read is = absurd cc
items_later f reads text x items item (Some later) may found read is =
    let parts = item_begins x item found in
    let behind : drop (length (item_bytes item)) x ≡ parts.0 = ap (λ xs. drop (length (item_bytes item)) xs) parts.1 ∙ drop-append_seam (item_bytes item) parts.0 in
    let more : AreItems later parts.0 = reads parts.0 later (ap f (sym behind) ∙ read) in
    subst (λ (found_items : List Item). AreItems found_items text) (some_is (item ∷ later) items is) (parts.0, subst (λ (xs : List ℕ). MaySlash text xs) parts.1 may, parts.2, more)

items_item : (f : List ℕ → Option (List Item)) → Reads f → (text x : List ℕ) (items : List Item) (o : Option Item) → MaySlash text x → item_at x ≡ o
    → option_and_then (λ item. item_before item (f (drop (length (item_bytes item)) x))) o ≡ Some items → AreItems items text
items_item f reads text x items None may found is = absurd cc
items_item f reads text x items (Some item) may found is = items_later f reads text x items item (f (drop (length (item_bytes item)) x)) may found refl is

items_by : (f : List ℕ → Option (List Item)) → Reads f → (text x : List ℕ) (items : List Item) → MaySlash text x → items_from f x ≡ Some items → AreItems items text
items_by f reads text [] items may is = let none : List Item = [] in subst (λ (found_items : List Item). AreItems found_items text) (some_is none items is) may
items_by f reads text (b ∷ x) items may is = items_item f reads text (b ∷ x) items (item_at (b ∷ x)) may refl is

read_are_items : (n : ℕ) (text : List ℕ) (items : List Item) → items_below n text ≡ Some items → AreItems items text
unfolding items_below
read_are_items zero text items is = absurd cc
read_are_items (suc n) text items is = items_by (items_below n) (λ rest later e. read_are_items n rest later e) text (after_slash text) items (slash_may text) is

letter_by : (b : ℕ) (rest : List ℕ) (items : List Item) (n o : Bool) → eqb b 78 ≡ n → eqb b 79 ≡ o → option_and_then items_of (cond (n || o) (Some rest) None) ≡ Some items → IsSiaData items (b ∷ rest)
letter_by b rest items true o is_n is_o is = (rest, inl (ap (λ m. m ∷ rest) (eqb-true b 78 is_n)), read_are_items (length rest + 1) rest items is)
letter_by b rest items false true is_n is_o is = (rest, inr (ap (λ m. m ∷ rest) (eqb-true b 79 is_o)), read_are_items (length rest + 1) rest items is)
letter_by b rest items false false is_n is_o is = absurd cc

pub read_is_spelled : ReadIsSpelled
read_is_spelled [] items is = absurd cc
read_is_spelled (b ∷ rest) items is = letter_by b rest items (eqb b 78) (eqb b 79) refl refl is

-- And back.

not_lower : (b : ℕ) → is_upper b ≡ true → is_lower b ≡ false
not_lower b upper = grind (arith, nat_tests)

lower_no_slash : (b : ℕ) → is_lower b ≡ true → is_slash b ≡ false
lower_no_slash b lower = grind (arith, nat_tests)

upper_no_slash : (b : ℕ) → is_upper b ≡ true → is_slash b ≡ false
upper_no_slash b upper = grind (arith, nat_tests)

event_is : (code text address behind free : List ℕ) → address_at text ≡ address → drop (length address) text ≡ behind → before_first is_slash behind ≡ free → event_of code text ≡ Event code address free
event_is code text address behind free is_address is_behind is_free =
    let after : drop (length (address_at text)) text ≡ behind = ap (λ xs. drop (length xs) text) is_address ∙ is_behind in
    ap (λ xs. Event code xs (before_first is_slash (drop (length (address_at text)) text))) is_address ∙ ap (λ xs. Event code address xs) (ap (λ xs. before_first is_slash xs) after ∙ is_free)

item_again : (item : Item) (rest : List ℕ) → IsItem item rest → item_at (item_bytes item ++ rest) ≡ Some item
unfolding item_at
item_again (Modifier [] run) rest is = absurd (let h = is.letters_are in cc)
item_again (Modifier (a ∷ []) run) rest is = absurd (let h = is.letters_are in cc)
item_again (Modifier (a ∷ b ∷ []) run) rest is =
    let h = and_parts (is_lower a) (is_lower b) is.letters_are in
    rw (h.0, h.1) (ap (λ xs. Some (Modifier (a ∷ b ∷ []) xs)) (front_again is_modifier_byte run rest is.run_is is.run_ends))
item_again (Modifier (a ∷ b ∷ c ∷ letters) run) rest is = absurd (let h = is.letters_are in cc)
item_again (Event [] address free) rest is = absurd (let h = is.code_is in cc)
item_again (Event (a ∷ []) address free) rest is = absurd (let h = is.code_is in cc)
item_again (Event (a ∷ b ∷ []) address free) rest is =
    let h = and_parts (is_upper a) (is_upper b) is.code_is in
    let tail : List ℕ = address ++ free ++ rest in
    let found : address_at tail ≡ address = ap address_at (append_assoc address free rest) ∙ first_again is_capital_hex 8 address (free ++ rest) is.address_is is.address_fits is.address_ends in
    let behind : drop (length address) tail ≡ free ++ rest = ap (λ xs. drop (length address) xs) (append_assoc address free rest) ∙ drop-append_seam address (free ++ rest) in
    let text : before_first is_slash (free ++ rest) ≡ free = front_again is_no_slash free rest is.free_is is.free_ends in
    rw (not_lower a h.0, h.0, h.1) (ap (λ (i : Item). Some i) (event_is (a ∷ b ∷ []) tail address (free ++ rest) free found behind text))
item_again (Event (a ∷ b ∷ c ∷ code) address free) rest is = absurd (let h = is.code_is in cc)

item_at_slash : (item : Item) (rest : List ℕ) → IsItem item rest → after_slash (item_bytes item ++ rest) ≡ item_bytes item ++ rest
item_at_slash (Modifier [] run) rest is = absurd (let h = is.letters_are in cc)
item_at_slash (Modifier (a ∷ []) run) rest is = absurd (let h = is.letters_are in cc)
item_at_slash (Modifier (a ∷ b ∷ []) run) rest is =
    let h = and_parts (is_lower a) (is_lower b) is.letters_are in
    rw (lower_no_slash a h.0) refl
item_at_slash (Modifier (a ∷ b ∷ c ∷ letters) run) rest is = absurd (let h = is.letters_are in cc)
item_at_slash (Event [] address free) rest is = absurd (let h = is.code_is in cc)
item_at_slash (Event (a ∷ []) address free) rest is = absurd (let h = is.code_is in cc)
item_at_slash (Event (a ∷ b ∷ []) address free) rest is =
    let h = and_parts (is_upper a) (is_upper b) is.code_is in
    rw (upper_no_slash a h.0) refl
item_at_slash (Event (a ∷ b ∷ c ∷ code) address free) rest is = absurd (let h = is.code_is in cc)

item_some : (item : Item) (rest : List ℕ) → IsItem item rest → 0 < length (item_bytes item)
item_some (Modifier [] run) rest is = absurd (let h = is.letters_are in cc)
item_some (Modifier (a ∷ letters) run) rest is = omega arith
item_some (Event [] address free) rest is = absurd (let h = is.code_is in cc)
item_some (Event (a ∷ code) address free) rest is = omega arith

slash_taken : (item : Item) (text rest : List ℕ) → IsItem item rest → MaySlash text (item_bytes item ++ rest) → after_slash text ≡ item_bytes item ++ rest
slash_taken item text rest is (inl same) = ap after_slash same ∙ item_at_slash item rest is
slash_taken item text rest is (inr slash) = ap after_slash slash

nothing_left : (text : List ℕ) → MaySlash text [] → after_slash text ≡ []
nothing_left text (inl same) = ap after_slash same
nothing_left text (inr slash) = ap after_slash slash

slash_length : (text rest : List ℕ) → MaySlash text rest → length rest ≤ length text
slash_length text rest (inl same) = omega (arith, ap length same)
slash_length text rest (inr slash) = omega (arith, ap length slash)

no_more : (items : List Item) (text : List ℕ) → AreItems items text → length items ≤ length text
no_more [] text are = omega arith
no_more (item ∷ items) text are =
    let less = no_more items are.0 are.3 in
    let some = item_some item are.0 are.2 in
    let within = slash_length text (item_bytes item ++ are.0) are.1 in
    omega (arith, length-append (item_bytes item) are.0)

items_from-some : (f : List ℕ → Option (List Item)) (x : List ℕ) → 0 < length x → items_from f x ≡ option_and_then (λ item. item_before item (f (drop (length (item_bytes item)) x))) (item_at x)
items_from-some f [] some = absurd (omega arith)
items_from-some f (b ∷ x) some = refl

items_again : (n : ℕ) (items : List Item) (text : List ℕ) → length items < n → AreItems items text → items_below n text ≡ Some items
unfolding items_below
items_again zero items text less are = absurd (omega arith)
items_again (suc n) [] text less are = rw (nothing_left text are) refl
items_again (suc n) (item ∷ items) text less are =
    let front : List ℕ = item_bytes item ++ are.0 in
    let start : after_slash text ≡ front = slash_taken item text are.0 are.2 are.1 in
    let some : 0 < length front = omega (arith, length-append (item_bytes item) are.0, item_some item are.0 are.2) in
    let found : item_at front ≡ Some item = item_again item are.0 are.2 in
    let behind : drop (length (item_bytes item)) front ≡ are.0 = drop-append_seam (item_bytes item) are.0 in
    let more : items_below n are.0 ≡ Some items = items_again n items are.0 (omega arith) are.3 in
    ap (items_from (items_below n)) start
    ∙ items_from-some (items_below n) front some
    ∙ ap (option_and_then (λ i. item_before i (items_below n (drop (length (item_bytes i)) front)))) found
    ∙ ap (item_before item) (ap (items_below n) behind ∙ more)

letter_again : (rest text : List ℕ) → (text ≡ 78 ∷ rest) ⊎ (text ≡ 79 ∷ rest) → after_letter text ≡ Some rest
letter_again rest text (inl n) = ap after_letter n
letter_again rest text (inr o) = ap after_letter o

pub spelled_is_read : SpelledIsRead
spelled_is_read text items is =
    ap (option_and_then items_of) (letter_again is.0 text is.1)
    ∙ items_again (length is.0 + 1) items is.0 (omega (arith, no_more items is.0 is.2)) is.2
