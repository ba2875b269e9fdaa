-- What a file of sites says.
use Rattle.std.specs.Prelude.{ℕ, ◌==◌, List, [], ◌++◌, Option, Some, None, nat_eq, drop, length, codes, decimal}
use Rattle.std.specs.Borrow.{Bor}
use Rattle.std.specs.List.{find, slice_split, starts_with}
use Rattle.std.specs.Option.{option_map}

-- the lines of a text
abbrev pub lines_of : List ℕ → List (List ℕ)
lines_of text = slice_split (λ b. b == 10) text

-- those of what is left of its bytes, where anything is
abbrev pub lines_left : Option (Bor (List ℕ)) → List (List ℕ)
lines_left None = []
lines_left (Some rest) = lines_of rest.now

-- the first line that begins with these bytes
abbrev pub line_with : List ℕ → List (List ℕ) → Option (List ℕ)
line_with front lines = find (λ line. starts_with nat_eq line front) lines

-- what stands behind these bytes there
abbrev pub behind : List ℕ → List ℕ → Option (List ℕ)
behind text front = option_map (λ line. drop (length front) line) (line_with front (lines_of text))

-- the site of an account: of the first line `site ACCOUNT TEXT`
unfoldable pub site_of : List ℕ → List ℕ → Option (List ℕ)
site_of text account = behind text (codes "site " ++ account ++ codes " ")

-- the name and the number of a keyholder: of the first line `keyholder ACCOUNT N NAME PHONE`
unfoldable pub holder_of : List ℕ → List ℕ → ℕ → Option (List ℕ)
holder_of text account number = behind text (codes "keyholder " ++ account ++ codes " " ++ decimal number ++ codes " ")
