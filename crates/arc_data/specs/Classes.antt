-- Classes of signals: their places, their priorities and their names.
use Rattle.std.specs.Prelude.{ℕ, Bool, List, nat_eq, codes}
use Rattle.std.specs.Cmp.{IsEquivalence, on_equiv, nat_eq_equiv}
use Rattle.arc_data.specs.declared.signal.Class.{Class}
use Rattle.arc_data.specs.declared.signal.Class.TheVariants.{Fire, Medical, Panic, Gas, Burglary, Tamper, Environment, CommFail}
use Rattle.arc_data.specs.declared.signal.Class.TheVariants.{Trouble, Irregular, LateClose, Unlisted, Test, OpenClose, Bypass}
use Rattle.arc_data.specs.declared.signal.Class.TheVariants.{Cancel, Program}

-- 1 is the most urgent, 4 the least; 0 is none: signals of these classes open no incident
abbrev pub priority_of : Class → ℕ
priority_of Fire = 1
priority_of Medical = 1
priority_of Panic = 1
priority_of Gas = 2
priority_of Burglary = 2
priority_of Tamper = 3
priority_of Environment = 3
priority_of CommFail = 3
priority_of Trouble = 4
priority_of Irregular = 4
priority_of LateClose = 4
priority_of Unlisted = 4
priority_of other = 0

-- its name in a setup text and at a desk
abbrev pub name_of : Class → List ℕ
name_of Fire = codes "fire"
name_of Medical = codes "medical"
name_of Panic = codes "panic"
name_of Gas = codes "gas"
name_of Burglary = codes "burglary"
name_of Tamper = codes "tamper"
name_of Environment = codes "environment"
name_of CommFail = codes "commfail"
name_of Trouble = codes "trouble"
name_of Irregular = codes "irregular"
name_of LateClose = codes "lateclose"
name_of Unlisted = codes "unlisted"
name_of Test = codes "test"
name_of OpenClose = codes "openclose"
name_of Bypass = codes "bypass"
name_of Cancel = codes "cancel"
name_of Program = codes "program"

-- its place among the classes
abbrev pub class_place : Class → ℕ
class_place Fire = 0
class_place Medical = 1
class_place Panic = 2
class_place Gas = 3
class_place Burglary = 4
class_place Tamper = 5
class_place Environment = 6
class_place CommFail = 7
class_place Trouble = 8
class_place Irregular = 9
class_place LateClose = 10
class_place Unlisted = 11
class_place Test = 12
class_place OpenClose = 13
class_place Bypass = 14
class_place Cancel = 15
class_place Program = 16

-- whether two classes are the same
abbrev pub same_class : Class → Class → Bool
same_class a b = nat_eq (class_place a) (class_place b)

pub same_class_equiv : IsEquivalence same_class
same_class_equiv = on_equiv class_place nat_eq_equiv
