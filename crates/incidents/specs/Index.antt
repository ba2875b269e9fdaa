-- Which number the open incident of an account and a class has.
use Rattle.std.specs.Prelude.{◌≡◌, ℕ, List, Option, Bool, ◌&&◌, nat_eq, if◌then◌else◌}
use Rattle.std.specs.Map.{lookup}
use Rattle.std.specs.Str.{bytes_eq}
use Rattle.arc_data.specs.Classes.{class_place, same_class}
use Rattle.arc_data.specs.declared.signal.Class.{Class}
use Rattle.incidents.specs.declared.index.Key.{Key}

-- numbers by their keys, and for how many more there is memory
pub record IndexValue : Type 0 where
  pub entries : List (Key × ℕ)
  pub spare : ℕ

abbrev pub key_of : List ℕ → Class → Key
key_of account class = record { account = account; class = class_place class }

abbrev pub same_key : Key → Key → Bool
same_key a b = bytes_eq a.account b.account && nat_eq a.class b.class

-- the number of an account and a class, where it has one
abbrev pub number_in : IndexValue → List ℕ → Class → Option ℕ
number_in index account class = lookup (same_key (key_of account class)) index.entries

-- the new index tells this of one account and class, and otherwise what the old one told
abbrev pub Tells : List ℕ → Class → Option ℕ → IndexValue → IndexValue → Type 0
Tells account class told old new =
    (x : List ℕ) (c : Class) → number_in new x c ≡ (if bytes_eq account x && same_class class c then told else number_in old x c)

-- both tell the same
abbrev pub TellsAlike : IndexValue → IndexValue → Type 0
TellsAlike old new = (x : List ℕ) (c : Class) → number_in new x c ≡ number_in old x c
