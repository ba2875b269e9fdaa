-- What a map tells after a change, said of an account and a class.
use Rattle.std.proofs.Common.{◌≡◌, ℕ, List, cond, ap, ◌∙◌, Option}
use Rattle.std.specs.Prelude.{Result, Ok, Err, OnOk, IsOk, ◌&&◌}
use Rattle.std.specs.Map.{lookup}
use Rattle.std.specs.Str.{bytes_eq}
use Rattle.std.proofs.lemmas.Bool.{false≢true}
use Rattle.arc_data.specs.Classes.{same_class}
use Rattle.arc_data.specs.declared.signal.Class.{Class}
use Rattle.incidents.specs.declared.index.Key.{Key}
use Rattle.incidents.specs.Index.{IndexValue, key_of, same_key, number_in}

pub when_ok : {T E : Type 0} (r : Result T E) (P : Type 0) → OnOk r P → IsOk r → P
when_ok (Ok x) P p ok = p
when_ok (Err x) P p ok = absurd (false≢true ok)

pub told : (key : Key) (account : List ℕ) (class : Class) (x : List ℕ) (d : Class) (w after : Option ℕ) (entries : List (Key × ℕ)) (spare : ℕ) (old : IndexValue) → key ≡ key_of account class → record { entries = entries; spare = spare } ≡ old → after ≡ cond (same_key key (key_of x d)) w (lookup (same_key (key_of x d)) entries) → after ≡ cond (bytes_eq account x && same_class class d) w (number_in old x d)
told key account class x d w after entries spare old k v e =
    e ∙ ap (λ (q : Key). cond (same_key q (key_of x d)) w (lookup (same_key (key_of x d)) entries)) k
    ∙ ap (λ (i : IndexValue). cond (same_key (key_of account class) (key_of x d)) w (number_in i x d)) v
