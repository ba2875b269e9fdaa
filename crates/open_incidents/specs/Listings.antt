-- Rows in the order of priority and number.
use Rattle.std.specs.Prelude.{◌==◌, ◌&&◌, ◌||◌, Bool, List, [], ◌∷◌, if◌then◌else◌, nat_lt}
use Rattle.arc_data.specs.Classes.{priority_of}
use Rattle.arc_data.specs.declared.listing.Row.{Row}

abbrev pub comes_before : Row → Row → Bool
comes_before i j =
    nat_lt (priority_of i.class) (priority_of j.class)
    || ((priority_of i.class == priority_of j.class) && nat_lt i.number j.number)

-- before the first row that comes after it
abbrev pub put_in : Row → List Row → List Row
put_in r [] = r ∷ []
put_in r (x ∷ xs) = if comes_before r x then r ∷ x ∷ xs else x ∷ put_in r xs
