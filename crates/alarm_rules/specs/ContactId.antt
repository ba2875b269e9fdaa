-- Contact ID data (DC-05).
use Rattle.std.specs.Prelude.{ℕ, List, [], ◌∷◌, Bool, false, ◌&&◌, ◌||◌, ◌==◌, if◌then◌else◌, Option, Some, None, codes}
use Rattle.std.specs.Prelude.{slice_index, slice_range}
use Rattle.std.specs.List.{find, list_any}
use Rattle.std.specs.Option.{option_map_or}
use Rattle.std.specs.Str.{bytes_eq}
use Rattle.arc_data.specs.Digits.{is_hex}
use Rattle.arc_data.specs.declared.signal.Class.{Class}
use Rattle.arc_data.specs.declared.signal.Class.TheVariants.{Fire, Medical, Panic, Gas, Burglary, Tamper, Environment, CommFail}
use Rattle.arc_data.specs.declared.signal.Class.TheVariants.{Trouble, LateClose, Unlisted, Test, OpenClose, Bypass, Cancel}
use Rattle.arc_data.specs.declared.signal.Class.TheVariants.{Program}
use Rattle.arc_data.specs.declared.signal.Kind.{Kind}
use Rattle.arc_data.specs.declared.signal.Kind.TheVariants.{New, Again, Restore, Opening, Closing, LogOnly}
use Rattle.arc_data.specs.declared.signal.Signal.{Signal}

-- a qualifier: 1 new event or opening, 3 restore or closing, 6 still present
abbrev pub is_qualifier : ℕ → Bool
is_qualifier b = (b == 49) || (b == 51) || (b == 54)

-- Eleven bytes: a qualifier, three hexadecimal digits (the code), a space, two hexadecimal digits (the group), a space,
-- three hexadecimal digits (the zone or user).
abbrev pub is_contact_id : List ℕ → Bool
is_contact_id (q ∷ c1 ∷ c2 ∷ c3 ∷ s1 ∷ g1 ∷ g2 ∷ s2 ∷ z1 ∷ z2 ∷ z3 ∷ []) =
    is_qualifier q && is_hex c1 && is_hex c2 && is_hex c3 && (s1 == 32) && is_hex g1 && is_hex g2 && (s2 == 32)
    && is_hex z1 && is_hex z2 && is_hex z3
is_contact_id other = false

-- The codes of each class. This assignment is the project's own.
unfoldable pub contact_id_table : List (Class × List (List ℕ))
contact_id_table =
    (Medical, codes "100" ∷ codes "101" ∷ codes "102" ∷ [])
    ∷ (
      Fire,
      codes "110" ∷ codes "111" ∷ codes "112" ∷ codes "113" ∷ codes "114" ∷ codes "115" ∷ codes "116" ∷ codes "117"
          ∷ codes "118" ∷ [],
    )
    ∷ (Panic, codes "120" ∷ codes "121" ∷ codes "122" ∷ codes "123" ∷ [])
    ∷ (
      Burglary,
      codes "130" ∷ codes "131" ∷ codes "132" ∷ codes "133" ∷ codes "134" ∷ codes "135" ∷ codes "136"
          ∷ codes "138" ∷ codes "139" ∷ codes "140" ∷ [],
    )
    ∷ (Tamper, codes "137" ∷ codes "144" ∷ codes "145" ∷ codes "383" ∷ [])
    ∷ (Gas, codes "151" ∷ codes "162" ∷ [])
    ∷ (Environment, codes "150" ∷ codes "154" ∷ codes "158" ∷ codes "159" ∷ [])
    ∷ (CommFail, codes "350" ∷ codes "354" ∷ [])
    ∷ (Trouble, codes "301" ∷ codes "302" ∷ codes "305" ∷ codes "344" ∷ codes "373" ∷ codes "380" ∷ codes "381" ∷ codes "384" ∷ [])
    ∷ (OpenClose, codes "400" ∷ codes "401" ∷ codes "402" ∷ codes "403" ∷ codes "407" ∷ codes "408" ∷ codes "409" ∷ codes "441" ∷ [])
    ∷ (LateClose, codes "454" ∷ [])
    ∷ (Cancel, codes "406" ∷ [])
    ∷ (Bypass, codes "570" ∷ [])
    ∷ (Test, codes "601" ∷ codes "602" ∷ codes "607" ∷ [])
    ∷ (Program, codes "627" ∷ codes "628" ∷ [])
    ∷ []

-- the class that lists the code; a code that none lists is Unlisted
unfoldable pub contact_id_class : List ℕ → Class
contact_id_class code = option_map_or (λ row. row.0) (find (λ row. list_any (bytes_eq code) row.1) contact_id_table) Unlisted

-- the kind that stands in the column of the qualifier: 1, 3 or 6
abbrev pub by_qualifier : Kind → Kind → Kind → ℕ → Kind
by_qualifier one three six q = if q == 49 then one else if q == 51 then three else six

-- the kind of a signal
abbrev pub contact_id_kind : Class → ℕ → Kind
contact_id_kind Unlisted q = New
contact_id_kind OpenClose q = by_qualifier Opening Closing LogOnly q
contact_id_kind Cancel q = LogOnly
contact_id_kind Bypass q = LogOnly
contact_id_kind Test q = LogOnly
contact_id_kind Program q = LogOnly
contact_id_kind other q = by_qualifier New Restore Again q

-- the signal of a qualifier and a code
abbrev pub signal_of_code : ℕ → List ℕ → Signal
signal_of_code q code = record { class = contact_id_class code; kind = contact_id_kind (contact_id_class code) q; code = code }

-- the signal of Contact ID data
unfoldable pub contact_id_signal : List ℕ → Option Signal
contact_id_signal text = if is_contact_id text then Some (signal_of_code (slice_index text 0) (slice_range text 1 4)) else None
