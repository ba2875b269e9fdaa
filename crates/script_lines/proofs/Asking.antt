-- What the lines of a script ask for, by their letters.
use Rattle.std.proofs.Common.{◌≡◌, ℕ, ◌<◌, ◌≤◌, ◌^◌, List, ◌∷◌, ◌++◌, length, true, false, eqb, refl, sym, ap, subst, ◌∙◌, arith}
use Rattle.std.specs.Prelude.{decimal, codes, None}
use Rattle.std.proofs.lemmas.Bool.{eq-eqb}
use Rattle.std.proofs.lemmas.Fmt.{decimal_injective}
use Rattle.dc09_frame.specs.Frames.{IsBody}
use Rattle.script_lines.specs.Lines.{Asked, Time, Feed, Message, Command, Reopen, spelling, numbered, IsNumber, AreDigits, Asks}
use Rattle.script_lines.specs.Reading.{IsReadAs}
use Rattle.script_lines.proofs.Spellings.{same_numbered}

-- what begins with one letter does not begin with another
other_letter : (b c : ℕ) (s t : List ℕ) → eqb b c ≡ false → b ∷ s ≡ c ∷ t → ⊥
other_letter b c s t apart same =
    let alike : b ≡ c = cc in
    let equal : eqb b c ≡ true = eq-eqb b c alike in
    absurd (let bad = sym apart ∙ equal in cc)

behind : (b c d : ℕ) (s t : List ℕ) → b ∷ c ∷ s ≡ b ∷ d ∷ t → s ≡ t
behind b c d s t same = cc

-- two things that are spelled alike

same_time : (line : List ℕ) (m n : ℕ) → m < 253_402_300_800 → n < 253_402_300_800 → line ≡ spelling (Time m) → line ≡ spelling (Time n) → m ≡ n
same_time line m n one two first second =
    let same : decimal m ≡ decimal n = behind 84 32 32 _ _ (sym first ∙ second) in
    decimal_injective m n (omega (arith, one)) (omega (arith, two)) same

within : (most n : ℕ) → most ≤ 16 → IsNumber most n → n < 2 ^ 64
within most n few is = omega (arith, few, is.high)

fed : (line : List ℕ) (m n : ℕ) (s t : List ℕ) → Asks line (Feed m s) → Asks line (Feed n t) → Feed m s ≡ Feed n t
fed line m n s t one two =
    let alike : numbered m s ≡ numbered n t = behind 76 32 32 _ _ (sym one.spelled ∙ two.spelled) in
    let parts = same_numbered m n s t (within 16 m (omega arith) one.ranges.0) (within 16 n (omega arith) two.ranges.0) alike in
    ap (λ k. Feed k s) parts.0 ∙ ap (Feed n) parts.1

sent : (line : List ℕ) (m n : ℕ) (s t : List ℕ) → Asks line (Message m s) → Asks line (Message n t) → Message m s ≡ Message n t
sent line m n s t one two =
    let alike : numbered m s ≡ numbered n t = behind 77 32 32 _ _ (sym one.spelled ∙ two.spelled) in
    let parts = same_numbered m n s t (within 16 m (omega arith) one.ranges.0) (within 16 n (omega arith) two.ranges.0) alike in
    ap (λ k. Message k s) parts.0 ∙ ap (Message n) parts.1

typed : (line : List ℕ) (m n : ℕ) (s t : List ℕ) → Asks line (Command m s) → Asks line (Command n t) → Command m s ≡ Command n t
typed line m n s t one two =
    let alike : numbered m s ≡ numbered n t = behind 68 32 32 _ _ (sym one.spelled ∙ two.spelled) in
    let parts = same_numbered m n s t (within 8 m (omega arith) one.ranges.0) (within 8 n (omega arith) two.ranges.0) alike in
    ap (λ k. Command k s) parts.0 ∙ ap (Command n) parts.1

pub one_meaning : (line : List ℕ) (a other : Asked) → Asks line a → Asks line other → a ≡ other
one_meaning line (Time m) (Time n) one two = ap Time (same_time line m n one.ranges two.ranges one.spelled two.spelled)
one_meaning line (Time m) (Feed n t) one two = absurd (other_letter 84 76 _ _ refl (sym one.spelled ∙ two.spelled))
one_meaning line (Time m) (Message n t) one two = absurd (other_letter 84 77 _ _ refl (sym one.spelled ∙ two.spelled))
one_meaning line (Time m) (Command n t) one two = absurd (other_letter 84 68 _ _ refl (sym one.spelled ∙ two.spelled))
one_meaning line (Time m) Reopen one two = absurd (other_letter 84 88 _ _ refl (sym one.spelled ∙ two.spelled))
one_meaning line (Feed m s) (Feed n t) one two = fed line m n s t one two
one_meaning line (Feed m s) (Time n) one two = absurd (other_letter 76 84 _ _ refl (sym one.spelled ∙ two.spelled))
one_meaning line (Feed m s) (Message n t) one two = absurd (other_letter 76 77 _ _ refl (sym one.spelled ∙ two.spelled))
one_meaning line (Feed m s) (Command n t) one two = absurd (other_letter 76 68 _ _ refl (sym one.spelled ∙ two.spelled))
one_meaning line (Feed m s) Reopen one two = absurd (other_letter 76 88 _ _ refl (sym one.spelled ∙ two.spelled))
one_meaning line (Message m s) (Message n t) one two = sent line m n s t one two
one_meaning line (Message m s) (Time n) one two = absurd (other_letter 77 84 _ _ refl (sym one.spelled ∙ two.spelled))
one_meaning line (Message m s) (Feed n t) one two = absurd (other_letter 77 76 _ _ refl (sym one.spelled ∙ two.spelled))
one_meaning line (Message m s) (Command n t) one two = absurd (other_letter 77 68 _ _ refl (sym one.spelled ∙ two.spelled))
one_meaning line (Message m s) Reopen one two = absurd (other_letter 77 88 _ _ refl (sym one.spelled ∙ two.spelled))
one_meaning line (Command m s) (Command n t) one two = typed line m n s t one two
one_meaning line (Command m s) (Time n) one two = absurd (other_letter 68 84 _ _ refl (sym one.spelled ∙ two.spelled))
one_meaning line (Command m s) (Feed n t) one two = absurd (other_letter 68 76 _ _ refl (sym one.spelled ∙ two.spelled))
one_meaning line (Command m s) (Message n t) one two = absurd (other_letter 68 77 _ _ refl (sym one.spelled ∙ two.spelled))
one_meaning line (Command m s) Reopen one two = absurd (other_letter 68 88 _ _ refl (sym one.spelled ∙ two.spelled))
one_meaning line Reopen Reopen one two = refl
one_meaning line Reopen (Time n) one two = absurd (other_letter 88 84 _ _ refl (sym one.spelled ∙ two.spelled))
one_meaning line Reopen (Feed n t) one two = absurd (other_letter 88 76 _ _ refl (sym one.spelled ∙ two.spelled))
one_meaning line Reopen (Message n t) one two = absurd (other_letter 88 77 _ _ refl (sym one.spelled ∙ two.spelled))
one_meaning line Reopen (Command n t) one two = absurd (other_letter 88 68 _ _ refl (sym one.spelled ∙ two.spelled))

-- A line of which one part is out of its range asks for nothing.

pub no_time : (rest : List ℕ) (m : ℕ) → rest ≡ decimal m → m < 2 ^ 64 → (m < 253_402_300_800 → ⊥) → IsReadAs (codes "T " ++ rest) None
no_time rest m is small late (Time n) asks =
    let same : rest ≡ decimal n = behind 84 32 32 _ _ asks.spelled in
    let number : n ≡ m = decimal_injective n m (omega (arith, asks.ranges)) small (sym same ∙ is) in
    late (subst (λ k. k < 253_402_300_800) number asks.ranges)
no_time rest m is small late (Feed n t) asks = absurd (other_letter 84 76 _ _ refl asks.spelled)
no_time rest m is small late (Message n t) asks = absurd (other_letter 84 77 _ _ refl asks.spelled)
no_time rest m is small late (Command n t) asks = absurd (other_letter 84 68 _ _ refl asks.spelled)
no_time rest m is small late Reopen asks = absurd (other_letter 84 88 _ _ refl asks.spelled)

pub no_feed : (rest : List ℕ) (m : ℕ) (s : List ℕ) → rest ≡ numbered m s → IsNumber 16 m → (AreDigits s → ⊥) → IsReadAs (codes "L " ++ rest) None
no_feed rest m s is number bad (Feed n t) asks =
    let same : rest ≡ numbered n t = behind 76 32 32 _ _ asks.spelled in
    let parts = same_numbered n m t s (within 16 n (omega arith) asks.ranges.0) (within 16 m (omega arith) number) (sym same ∙ is) in
    bad (subst (λ l. AreDigits l) parts.1 asks.ranges.1)
no_feed rest m s is number bad (Time n) asks = absurd (other_letter 76 84 _ _ refl asks.spelled)
no_feed rest m s is number bad (Message n t) asks = absurd (other_letter 76 77 _ _ refl asks.spelled)
no_feed rest m s is number bad (Command n t) asks = absurd (other_letter 76 68 _ _ refl asks.spelled)
no_feed rest m s is number bad Reopen asks = absurd (other_letter 76 88 _ _ refl asks.spelled)

pub no_message : (rest : List ℕ) (m : ℕ) (s : List ℕ) → rest ≡ numbered m s → IsNumber 16 m → (IsBody s → ⊥) → IsReadAs (codes "M " ++ rest) None
no_message rest m s is number bad (Message n t) asks =
    let same : rest ≡ numbered n t = behind 77 32 32 _ _ asks.spelled in
    let parts = same_numbered n m t s (within 16 n (omega arith) asks.ranges.0) (within 16 m (omega arith) number) (sym same ∙ is) in
    bad (subst (λ l. IsBody l) parts.1 asks.ranges.1)
no_message rest m s is number bad (Time n) asks = absurd (other_letter 77 84 _ _ refl asks.spelled)
no_message rest m s is number bad (Feed n t) asks = absurd (other_letter 77 76 _ _ refl asks.spelled)
no_message rest m s is number bad (Command n t) asks = absurd (other_letter 77 68 _ _ refl asks.spelled)
no_message rest m s is number bad Reopen asks = absurd (other_letter 77 88 _ _ refl asks.spelled)

pub no_command : (rest : List ℕ) (m : ℕ) (s : List ℕ) → rest ≡ numbered m s → IsNumber 8 m → (length s ≤ 1000 → ⊥) → IsReadAs (codes "D " ++ rest) None
no_command rest m s is number bad (Command n t) asks =
    let same : rest ≡ numbered n t = behind 68 32 32 _ _ asks.spelled in
    let parts = same_numbered n m t s (within 8 n (omega arith) asks.ranges.0) (within 8 m (omega arith) number) (sym same ∙ is) in
    bad (subst (λ l. length l ≤ 1000) parts.1 asks.ranges.1)
no_command rest m s is number bad (Time n) asks = absurd (other_letter 68 84 _ _ refl asks.spelled)
no_command rest m s is number bad (Feed n t) asks = absurd (other_letter 68 76 _ _ refl asks.spelled)
no_command rest m s is number bad (Message n t) asks = absurd (other_letter 68 77 _ _ refl asks.spelled)
no_command rest m s is number bad Reopen asks = absurd (other_letter 68 88 _ _ refl asks.spelled)
