-- Rows of a list of incidents told apart.
use Rattle.std.specs.Prelude.{◌≡◌, List, Bool, true, false, ◌&&◌, nat_eq}
use Rattle.std.specs.Cmp.{IsEquivalence, on_equiv, nat_eq_equiv}
use Rattle.std.specs.Cmp.Lexicographic.{pointwise, options_equiv}
use Rattle.std.specs.Option.{option_eq}
use Rattle.std.specs.Str.{bytes_eq}
use Rattle.std.proofs.Common.{◌∙◌, ap, refl}
use Rattle.std.proofs.lemmas.Bool.{false≢true}
use Rattle.std.proofs.lemmas.Cmp.{nat_list_eq_equiv, lists_equiv}
use Rattle.arc_data.specs.Classes.{same_class, same_class_equiv}
use Rattle.arc_data.specs.declared.listing.Row.{Row}

-- whether two rows are the same
abbrev pub same_row : Row → Row → Bool
same_row a b =
    nat_eq a.number b.number && (same_class a.class b.class && (bytes_eq a.account b.account && option_eq bytes_eq a.holder b.holder))

both_first : (b c : Bool) → (b && c) ≡ true → b ≡ true
both_first true c e = refl
both_first false c e = absurd (false≢true e)

both_second : (b c : Bool) → (b && c) ≡ true → c ≡ true
both_second true c e = e
both_second false c e = absurd (false≢true e)

-- two equivalences together are one
both_equiv : {K : Type 0} {E F : K → K → Bool} → IsEquivalence E → IsEquivalence F → IsEquivalence (λ x y. E x y && F x y)
both_equiv {K} {E} {F} e f = record {
  refl = λ x. ap (λ (b : Bool). b && F x x) (e.refl x) ∙ f.refl x;
  symm = λ x y. ap (λ (b : Bool). b && F x y) (e.symm x y) ∙ ap (λ (b : Bool). E y x && b) (f.symm x y);
  congr = λ x y z h.
      ap (λ (b : Bool). b && F x z) (e.congr x y z (both_first (E x y) (F x y) h))
      ∙ ap (λ (b : Bool). E y z && b) (f.congr x y z (both_second (E x y) (F x y) h));
}

pub same_row_equiv : IsEquivalence same_row
same_row_equiv =
    both_equiv (on_equiv (λ (r : Row). r.number) nat_eq_equiv)
    (both_equiv (on_equiv (λ (r : Row). r.class) same_class_equiv)
    (both_equiv (on_equiv (λ (r : Row). r.account) nat_list_eq_equiv)
    (on_equiv (λ (r : Row). r.holder) (options_equiv nat_list_eq_equiv))))

-- whether two lists of rows are the same
abbrev pub same_rows : List Row → List Row → Bool
same_rows a b = pointwise same_row a b

pub same_rows_equiv : IsEquivalence same_rows
same_rows_equiv = lists_equiv same_row_equiv
