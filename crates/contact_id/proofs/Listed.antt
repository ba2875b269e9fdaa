-- Codes that no row lists.
use Rattle.std.proofs.Common.{◌≡◌, ℕ, List, [], ◌∷◌, Bool, true, false, None, refl}
use Rattle.std.specs.List.{list_all, list_any, find}
use Rattle.std.specs.Str.{bytes_eq}
use Rattle.std.proofs.lemmas.Bool.{and_parts}
use Rattle.std.proofs.lemmas.Slice.Eq.{bytes_eq-Decides}
use Rattle.arc_data.specs.Digits.{is_digit}
use Rattle.arc_data.specs.declared.signal.Class.{Class}
use Rattle.arc_data.specs.declared.signal.Class.TheVariants.{Unlisted}
use Rattle.alarm_rules.specs.ContactId.{contact_id_table, contact_id_class}

-- each text is of decimal digits
abbrev are_digits : List (List ℕ) → Bool
are_digits texts = list_all (list_all is_digit) texts

table_of_digits : list_all (λ (row : Class × List (List ℕ)). are_digits row.1) contact_id_table ≡ true
unfolding contact_id_table
table_of_digits = refl

not_this : (code text : List ℕ) (t : Bool) → bytes_eq code text ≡ t → list_all is_digit text ≡ true → list_all is_digit code ≡ false → t ≡ false
not_this code text false same digits letters = refl
not_this code text true same digits letters =
    let is : code ≡ text = (bytes_eq-Decides code text).0 same in
    let all : list_all is_digit code ≡ true = rw is digits in cc

in_no_row : (code : List ℕ) (texts : List (List ℕ)) → list_all is_digit code ≡ false → are_digits texts ≡ true → list_any (bytes_eq code) texts ≡ false
in_no_row code [] letters all = refl
in_no_row code (text ∷ texts) letters all =
    let parts = and_parts (list_all is_digit text) (are_digits texts) all in
    rw (not_this code text (bytes_eq code text) refl parts.0 letters) (in_no_row code texts letters parts.1)

found_nowhere : (code : List ℕ) (rows : List (Class × List (List ℕ))) → list_all is_digit code ≡ false → list_all (λ (row : Class × List (List ℕ)). are_digits row.1) rows ≡ true → find (λ (row : Class × List (List ℕ)). list_any (bytes_eq code) row.1) rows ≡ None
found_nowhere code [] letters all = refl
found_nowhere code (row ∷ rows) letters all =
    let parts = and_parts (are_digits row.1) (list_all (λ (row : Class × List (List ℕ)). are_digits row.1) rows) all in
    rw (in_no_row code row.1 letters parts.0) (found_nowhere code rows letters parts.1)

-- a code with letters is not listed
pub contact_id_class-letters : (code : List ℕ) → list_all is_digit code ≡ false → contact_id_class code ≡ Unlisted
unfolding contact_id_class
contact_id_class-letters code letters = rw (found_nowhere code contact_id_table letters table_of_digits) refl
