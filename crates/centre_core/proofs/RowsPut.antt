-- Rows in order, put one behind another: none is of an account that has one.
use Rattle.std.proofs.Common.{◌≡◌, ℕ, List, [], ◌∷◌, map, Bool, true, false, cond, Some, refl, ap, ◌∙◌}
use Rattle.std.specs.Prelude.{is_some}
use Rattle.std.specs.Cmp.{unsigned_ties}
use Rattle.std.specs.Cmp.Lexicographic.{slice_cmp, lists_ties}
use Rattle.std.specs.List.{find}
use Rattle.std.specs.Ordering.{nat_cmp, is_lt, is_eq}
use Rattle.std.specs.Str.{bytes_eq}
use Rattle.std.specs.declared.cmp.Ordering.{Ordering}
use Rattle.std.specs.declared.cmp.Ordering.TheVariants.{Less, Equal, Greater}
use Rattle.std.proofs.lemmas.Bool.{false≢true}
use Rattle.std.proofs.lemmas.Cmp.{nat_list_cmp_total}
use Rattle.centre_rules.specs.Marks.{has_row}
use Rattle.centre_rules.specs.Summary.{AccountRow}
use Rattle.summary_rules.specs.Lists.{Every}
use Rattle.summary_codec.specs.declared.reading.ReadRow.{ReadRow}
use Rattle.summary_codec.specs.Parts.{row_of_read}
use Rattle.centre_core.specs.Decoding.{IsReadBefore}

less_apart : (o : Ordering) → is_lt o ≡ true → is_eq o ≡ false
less_apart Less e = refl
less_apart Equal e = absurd (false≢true e)
less_apart Greater e = refl

is_less : (o : Ordering) → is_lt o ≡ true → o ≡ Less
is_less Less e = refl
is_less Equal e = absurd (false≢true e)
is_less Greater e = absurd (false≢true e)

before_apart : (a b : List ℕ) → is_lt (slice_cmp nat_cmp a b) ≡ true → bytes_eq a b ≡ false
before_apart a b e = lists_ties nat_cmp unsigned_ties a b ∙ less_apart (slice_cmp nat_cmp a b) e

pub before_both : (x y z : ReadRow) → IsReadBefore x y → IsReadBefore y z → IsReadBefore x z
before_both x y z p q = ap is_lt (nat_list_cmp_total.trans x.account y.account z.account (is_less (slice_cmp nat_cmp x.account y.account) p) (is_less (slice_cmp nat_cmp y.account z.account) q))

pub no_row : (xs : List ReadRow) (x : ReadRow) → Every (λ y. IsReadBefore y x) xs → has_row (map row_of_read xs) x.account ≡ false
no_row [] x w = refl
no_row (y ∷ xs) x w =
    ap (λ (b : Bool). is_some (cond b (Some (row_of_read y)) (find (λ (r : AccountRow). bytes_eq r.account x.account) (map row_of_read xs)))) (before_apart y.account x.account w.0)
    ∙ no_row xs x w.1
