-- What is so of a whole sitting.
use Rattle.std.specs.Prelude.{◌≡◌, ◌⊎◌, ℕ, List, [], ◌∷◌, Option, Some, None, codes}
use Rattle.std.specs.List.{cons_option, filter_map}
use Rattle.std.specs.Option.{option_map}
use Rattle.desk_wire.specs.declared.command.Command.{Command}
use Rattle.desk_wire.specs.declared.command.Command.TheVariants.{Login, Act}
use Rattle.desk_screen.specs.Inputs.{Input, Key, Answer, Second, Made, Lost, Sitting}
use Rattle.desk_screen.specs.Orders.{typed_of, undone, way}
use Rattle.desk_screen.specs.Plain.{answered}
use Rattle.desk_screen.specs.Series.{kind_of, outcome_in}
use Rattle.desk_screen.specs.declared.series.Kind.{Kind}

-- what the operator's keys asked for, and what was sent for him, the newest first
abbrev pub asked_in : Sitting → List Command
asked_in s = filter_map (λ t. t.asked) s

abbrev pub sent_in : Sitting → List Command
sent_in s = filter_map (λ t. typed_of t.sent) s

-- the second list is the first one with some left out
abbrev pub IsPartOf : {A : Type 0} → List A → List A → Type 0
IsPartOf {A} [] [] = Unit {0}
IsPartOf {A} [] (a ∷ part) = ⊥
IsPartOf {A} (b ∷ whole) [] = Unit {0}
IsPartOf {A} (b ∷ whole) (a ∷ part) = ((b ≡ a) × IsPartOf whole part) ⊎ IsPartOf whole (a ∷ part)

-- What was sent for the operator is what his keys asked for, in their order, some of it left out: so nothing is sent twice for one key.
abbrev pub IsSentOnce : Sitting → Type 0
IsSentOnce s = IsPartOf (asked_in s) (sent_in s)

-- the newest key, in its connection
abbrev pub key_after : Input → Option ℕ → Option ℕ
key_after (Key key) before = Some key
key_after (Answer line) before = before
key_after Second before = before
key_after Made before = None
key_after Lost before = None

unfoldable pub newest_key : Sitting → Option ℕ
newest_key [] = None
newest_key (t ∷ s) = key_after t.input (newest_key s)

-- the commands that were asked for since that key, the newest first
abbrev pub since : Input → List Command → List Command
since (Key key) before = []
since (Answer line) before = before
since Second before = before
since Made before = []
since Lost before = []

unfoldable pub asked_since : Sitting → List Command
asked_since [] = []
asked_since (t ∷ s) = cons_option t.asked (since t.input (asked_since s))

-- acts for this incident, each for a step of a series of this kind with its outcome there
abbrev pub IsActIn : ℕ → Kind → Command → Type 0
IsActIn number kind (Act incident step outcome) = (incident ≡ number) × (outcome_in kind step ≡ Some outcome)
IsActIn number kind other = ⊥

abbrev pub AreActsIn : ℕ → Kind → List Command → Type 0
AreActsIn number kind [] = Unit {0}
AreActsIn number kind (c ∷ cs) = IsActIn number kind c × AreActsIn number kind cs

-- What one key may cause: one command at most, or, where it is the key of a series, acts of that kind for one incident.
abbrev pub IsCausedBy : Option ℕ → List Command → Type 0
IsCausedBy key [] = Unit {0}
IsCausedBy None (c ∷ cs) = ⊥
IsCausedBy (Some key) (c ∷ []) = Unit {0}
IsCausedBy (Some key) (c ∷ d ∷ cs) = (number : ℕ) × (kind : Kind) × (kind_of key ≡ Some kind) × AreActsIn number kind (c ∷ d ∷ cs)

-- At each moment of a sitting, what was asked for since the newest key is what that key may cause. Without a key in the connection nothing
-- was asked for.
abbrev pub HasOneCause : Sitting → Type 0
HasOneCause [] = Unit {0}
HasOneCause (t ∷ s) = IsCausedBy (newest_key (t ∷ s)) (asked_since (t ∷ s)) × HasOneCause s

-- in place of the digits of a PIN stand four stars
abbrev pub IsMasked : Option Command → Type 0
IsMasked command = (who pin : List ℕ) → command ≡ Some (Login who pin) → pin ≡ codes "****"

-- A login stands without the digits of its PIN wherever it may be shown: on the way, as not done, and beside its answer.
abbrev pub HasNoPin : Sitting → Type 0
HasNoPin s = IsMasked (typed_of (way s)) × IsMasked (undone s) × IsMasked (option_map (λ deed. deed.command) (answered s))
