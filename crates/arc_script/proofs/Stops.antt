-- Results that are stops.
use Rattle.std.proofs.Common.{◌≡◌, Result, Ok, Err, OnErr, IfErr, ap, sym, subst}
use Rattle.centre_core.specs.declared.hall.Stop.{Stop}
use Rattle.centre_core.specs.declared.hall.Stop.TheVariants.{Memory}

abbrev stop_in : {A : Type 0} → Result A Stop → Stop
stop_in (Ok done) = Memory
stop_in (Err stop) = stop

-- what holds of each stop
pub of_each : {A : Type 0} (r : Result A Stop) (P : Stop → Type 0) → ((s : Stop) → P s) → IfErr r P
of_each (Ok done) P all = tt
of_each (Err stop) P all = all stop

-- what holds of the only one
pub of_memory : {A : Type 0} (r : Result A Stop) (P : Stop → Type 0) → OnErr r (r ≡ Err Memory) → P Memory → IfErr r P
of_memory (Ok done) P is holds = tt
of_memory (Err stop) P is holds = subst P (sym (ap stop_in is)) holds
