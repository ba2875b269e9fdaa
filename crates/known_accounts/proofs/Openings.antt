-- Accounts are opened at moments.
use Rattle.std.proofs.Common.{ℕ, List, Bool, true, false, cond, sym, subst, Option, Some, None}
use Rattle.std.specs.Prelude.{IfSome}
use Rattle.std.specs.Option.{option_map}
use Rattle.std.specs.Str.{bytes_eq}
use Rattle.arc_data.specs.declared.incident.Opened.{Opened}
use Rattle.arc_data.specs.declared.signal.Class.TheVariants.{LateClose}
use Rattle.arc_data.specs.declared.signal.Kind.{Kind}
use Rattle.arc_data.specs.declared.signal.Kind.TheVariants.{Opening, Closing}
use Rattle.known_accounts.specs.Rows.{RowsValue, row_in, Marked}
use Rattle.centre_rules.specs.Marks.{Mark, Carries, opening_at, opening_by, is_raised, now_late}
use Rattle.centre_rules.specs.History.{IsMoment}
use Rattle.known_accounts.specs.Supervised.{AreOpenedAtMoments}

abbrev IsTimely : Option Opened → Type 0
IsTimely o = IfSome o (λ x. IsMoment x.at)

-- its signal, where it is of one, came at a moment
abbrev pub IsMarkedTimely : Mark → Type 0
IsMarkedTimely (Carries x) = IsMoment x.at
IsMarkedTimely m = Unit {0}

late_timely : (late : Bool) (before : Option Opened) → IsTimely before → IsTimely (cond late (option_map now_late before) before)
late_timely true None h = tt
late_timely true (Some o) h = h
late_timely false before h = h

by_timely : (kind : Kind) (at : ℕ) (late : Bool) (before : Option Opened) → IsMoment at → IsTimely before → IsTimely (opening_by kind at late before)
by_timely Opening at late before m h = m
by_timely Closing at late before m h = tt
by_timely kind at late before m h = late_timely late before h

if_timely : (b : Bool) (x y : Option Opened) → IsTimely x → IsTimely y → IsTimely (cond b x y)
if_timely true x y f g = f
if_timely false x y f g = g

mark_timely : (account : List ℕ) (m : Mark) (before : Option Opened) → IsMarkedTimely m → IsTimely before → IsTimely (opening_at account m before)
mark_timely account (Carries x) before m h =
    if_timely (bytes_eq x.account account) (opening_by x.signal.kind x.at (is_raised account LateClose x) before) before
    (by_timely x.signal.kind x.at (is_raised account LateClose x) before m h) h
mark_timely account mark before m h = h

-- after a mark as before it
pub openings_marked : (m : Mark) (v w : RowsValue) → Marked m v w → IsMarkedTimely m → AreOpenedAtMoments v → AreOpenedAtMoments w
openings_marked m v w marked timely h account =
    subst IsTimely (sym (marked.opening account)) (mark_timely account m (row_in v account).opening timely (h account))
