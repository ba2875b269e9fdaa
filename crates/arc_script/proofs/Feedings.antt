-- What feeding bytes or a frame answers, by the results of its two calls.
use Rattle.std.proofs.Common.{◌≡◌, ◌⊎◌, ◌<◌, ◌≤◌, ◌-◌, ◌++◌, ℕ, List, [], ◌∷◌, Some, Result, Ok, Err, OnOk, IfErr, IfOk, inl, inr, length, refl, sym, subst}
use Rattle.std.specs.Prelude.{IsOk}
use Rattle.std.specs.Io.KnownBytes.{append_known}
use Rattle.std.proofs.lemmas.Bool.{false≢true}
use Rattle.alarm_rules.specs.Setups.{meaning}
use Rattle.arc_data.specs.Digits.{bytes_spelled}
use Rattle.arc_data.specs.Moments.{IsMoment}
use Rattle.arc_io.specs.Disks.{DiskSeen}
use Rattle.arc_io.specs.Memory.{sink_bytes}
use Rattle.arc_io.specs.Seen.{PortSeen}
use Rattle.centre_core.specs.declared.hall.Stop.{Stop}
use Rattle.centre_core.specs.declared.hall.Stop.TheVariants.{Memory}
use Rattle.centre_rules.specs.History.{Entry}
use Rattle.centre_rules.specs.Summary.{Summary}
use Rattle.centre_store.specs.Stores.{HasFailed, Stored, StoreStands}
use Rattle.dc09_frame.specs.Frames.{IsBody, frame_of}
use Rattle.desk_session.specs.Desks as Desk
use Rattle.line_session.specs.Lines as Line
use Rattle.script_lines.specs.Lines.{Asked, Feed, Message}
use Rattle.session_rules.specs.Inputs.{input_limit}
use Rattle.arc_script.specs.Carrying.{Carried, Halted, HaveTakenWith, IsNext}
use Rattle.arc_script.specs.Causes.{HasShown, IsOfFrame, IsSentFor}
use Rattle.arc_script.specs.Fed.{clock_of, line_fed}
use Rattle.arc_script.specs.Feeding.{FeedStops, HasFed, TookAt}
use Rattle.arc_script.specs.Pages.{head_of, replied}
use Rattle.arc_script.specs.Standing.{IsReadable}
use Rattle.arc_script.specs.Steps.{placed, FeedsUntil, Feeds}
use Rattle.arc_script.specs.declared.page.Page.{Page}
use Rattle.arc_script.specs.declared.script_end.Tally.{Tally}
use Rattle.arc_script.proofs.Carries.{carried, feed_short, finished, halted_at, message_short, took_before}

-- what is known of a line that is next and feeds these bytes
pub record IsFeed (setup : List ℕ) (moment line : ℕ) (asked : Asked) (bytes : List ℕ) (lines : List Line.LineValue) (desks : List Desk.DeskValue)
    : Type 0 where
  pub at : IsMoment moment
  pub low : 1 ≤ line
  pub set : (before : List Asked) (count : ℕ) → IsNext (meaning setup) moment count before asked lines desks → clock_of before ≡ Some moment
  pub short : (before : List Asked) (count : ℕ) → IsNext (meaning setup) moment count before asked lines desks
      → length (line_fed line before ++ bytes) < input_limit

pub feed_is : (setup : List ℕ) (moment line : ℕ) (digits : List ℕ) (lines : List Line.LineValue) (desks : List Desk.DeskValue) → IsMoment moment
    → 1 ≤ line → IsFeed setup moment line (Feed line digits) (bytes_spelled digits) lines desks
feed_is setup moment line digits lines desks at low = record {
  at = at;
  low = low;
  set = λ before count next. next.set;
  short = λ before count next. feed_short (meaning setup) moment count line before digits lines desks next;
}

pub message_is : (setup : List ℕ) (moment line : ℕ) (body : List ℕ) (lines : List Line.LineValue) (desks : List Desk.DeskValue) → IsMoment moment
    → 1 ≤ line → IsBody body → IsFeed setup moment line (Message line body) (frame_of body) lines desks
message_is setup moment line body lines desks at low fits = record {
  at = at;
  low = low;
  set = λ before count next. next.set;
  short = λ before count next. message_short (meaning setup) moment count line before body lines desks fits next;
}

pub fed_ok : {D : Type 0} (seen : D → DiskSeen) (s s' : Stored D) (setup : List ℕ)
    (moment letter line : ℕ) (asked : Asked) (given bytes : List ℕ) (lines : List Line.LineValue) (desks : List Desk.DeskValue) (t t' : Tally)
    (p p' : PortSeen) (r : Result (Unit {0}) Stop) (frames : Result Page Stop) → given ≡ bytes → IsFeed setup moment line asked bytes lines desks
    → OnOk r (IsOk frames)
    → OnOk r (IfOk frames (λ f. p'.written ≡ append_known p.written (head_of letter line ++ replied (sink_bytes f.port.sink) ++ 10 ∷ [])))
    → IfOk frames (λ f. (base : Summary) (before : List Asked) (h : List Entry) → clock_of before ≡ Some moment
    → TookAt (line_fed line before) lines (line - 1) → length (line_fed line before ++ given) < input_limit → StoreStands seen base s h → IsReadable base h → (HasFailed seen s → ⊥)
    → HasFed seen (placed base setup before) line given h t t' (sink_bytes f.port.sink) s s')
    → OnOk r ((base : Summary) (before : List Asked) (count number : ℕ) (h : List Entry) → IsNext (meaning setup) moment count before asked lines desks
    → StoreStands seen base s h → IsReadable base h → (HasFailed seen s → ⊥)
    → Carried seen base s h (λ x k. Feeds (placed base setup before) letter line bytes h x k) number asked t t' p p' s')
fed_ok seen s s' setup moment letter line asked given bytes lines desks t t' p p' (Ok done) (Ok page) same is ok put fed =
    λ base before count number h next stands readable up.
    let stream = line_fed line before in
    let took = took_before (meaning setup) moment count line before asked lines desks is.low next in
    let short = subst (λ (l : List ℕ). length (stream ++ l) < input_limit) (sym same) (is.short before count next) in
    let has = subst (λ (l : List ℕ). HasFed seen (placed base setup before) line l h t t' (sink_bytes page.port.sink) s s') same
    (fed base before h (is.set before count next) took short stands readable up) in
    carried seen s s' base setup moment number letter line asked before bytes h t t' p p' (sink_bytes page.port.sink) is.at
    (is.set before count next) has put
fed_ok seen s s' setup moment letter line asked given bytes lines desks t t' p p' (Ok done) (Err stop) same is ok put fed = absurd (false≢true ok)
fed_ok seen s s' setup moment letter line asked given bytes lines desks t t' p p' (Err stop) frames same is ok put fed = tt

-- where all was fed, memory was wanted
memory_of : (page : Page) (stop : Stop) (frames : Result Page Stop) → frames ≡ Ok page → (IsOk frames × (stop ≡ Memory)) ⊎ (frames ≡ Err stop) → stop ≡ Memory
memory_of page stop frames at (inl is) = is.1
memory_of page stop frames at (inr same) = absurd cc

-- else it was stopped for that
stop_of : (stop other : Stop) (frames : Result Page Stop) → frames ≡ Err other → (IsOk frames × (stop ≡ Memory)) ⊎ (frames ≡ Err stop) → other ≡ stop
stop_of stop other frames at (inl is) = absurd (false≢true (subst (λ (r : Result Page Stop). IsOk r) at is.0))
stop_of stop other frames at (inr same) = cc

pub fed_stops : {D : Type 0} (seen : D → DiskSeen) (s s' : Stored D) (setup : List ℕ)
    (moment letter line : ℕ) (asked : Asked) (given bytes : List ℕ) (lines : List Line.LineValue) (desks : List Desk.DeskValue) (t t' : Tally)
    (r : Result (Unit {0}) Stop) (frames : Result Page Stop) → given ≡ bytes → IsFeed setup moment line asked bytes lines desks
    → IfErr r (λ stop. (IsOk frames × (stop ≡ Memory)) ⊎ (frames ≡ Err stop))
    → IfOk frames (λ f. (base : Summary) (before : List Asked) (h : List Entry) → clock_of before ≡ Some moment
    → TookAt (line_fed line before) lines (line - 1) → length (line_fed line before ++ given) < input_limit → StoreStands seen base s h → IsReadable base h → (HasFailed seen s → ⊥)
    → HasFed seen (placed base setup before) line given h t t' (sink_bytes f.port.sink) s s')
    → IfErr frames (λ stop. (base : Summary) (before : List Asked) (h : List Entry) → clock_of before ≡ Some moment
    → TookAt (line_fed line before) lines (line - 1) → length (line_fed line before ++ given) < input_limit → StoreStands seen base s h → IsReadable base h → (HasFailed seen s → ⊥)
    → FeedStops seen (placed base setup before) moment line given h t t' stop s s')
    → IfErr r (λ stop. (base : Summary) (before : List Asked) (count : ℕ) (h : List Entry) → IsNext (meaning setup) moment count before asked lines desks
    → StoreStands seen base s h → IsReadable base h → (HasFailed seen s → ⊥)
    → Halted seen base s h (λ x k. (waiting : List (List ℕ)) × HasShown seen base s' x stop moment (IsOfFrame setup moment line waiting)
    × (FeedsUntil (placed base setup before) line bytes waiting (IsSentFor stop) h x k
    ⊎ ((stop ≡ Memory) × Feeds (placed base setup before) letter line bytes h x k))) t t' s')
fed_stops seen s s' setup moment letter line asked given bytes lines desks t t' (Ok done) frames same is stops fed stopped = tt
fed_stops seen s s' setup moment letter line asked given bytes lines desks t t' (Err stop) (Ok page) same is stops fed stopped =
    λ base before count h next stands readable up.
    let stream = line_fed line before in
    let took = took_before (meaning setup) moment count line before asked lines desks is.low next in
    let short = subst (λ (l : List ℕ). length (stream ++ l) < input_limit) (sym same) (is.short before count next) in
    let has = subst (λ (l : List ℕ). HasFed seen (placed base setup before) line l h t t' (sink_bytes page.port.sink) s s') same
    (fed base before h (is.set before count next) took short stands readable up) in
    finished seen s s' base setup moment letter line asked before bytes h t t' (sink_bytes page.port.sink) stop
    (memory_of page stop (Ok page) refl stops) (is.set before count next) has
fed_stops seen s s' setup moment letter line asked given bytes lines desks t t' (Err stop) (Err other) same is stops fed stopped =
    λ base before count h next stands readable up.
    let stream = line_fed line before in
    let took = took_before (meaning setup) moment count line before asked lines desks is.low next in
    let short = subst (λ (l : List ℕ). length (stream ++ l) < input_limit) (sym same) (is.short before count next) in
    let has = subst (λ (l : List ℕ). FeedStops seen (placed base setup before) moment line l h t t' other s s') same
    (stopped base before h (is.set before count next) took short stands readable up) in
    halted_at seen s s' base setup moment letter line asked before bytes h t t' stop (is.set before count next)
    (subst (λ (k : Stop). FeedStops seen (placed base setup before) moment line bytes h t t' k s s') (stop_of stop other (Err other) refl stops) has)

-- where all was fed, the lines and desks took it
pub took_ok : (setup : List ℕ) (moment line : ℕ) (asked : Asked) (given bytes : List ℕ) (lines lines' : List Line.LineValue)
    (desks : List Desk.DeskValue) (r : Result (Unit {0}) Stop) (frames : Result Page Stop) → given ≡ bytes
    → IsFeed setup moment line asked bytes lines desks → OnOk r (IsOk frames)
    → OnOk frames ((stream : List ℕ) → TookAt stream lines (line - 1) → length (stream ++ given) < input_limit → TookAt (stream ++ given) lines' (line - 1))
    → ((before : List Asked) (count : ℕ) → IsNext (meaning setup) moment count before asked lines desks → TookAt (line_fed line before ++ bytes) lines' (line - 1)
    → HaveTakenWith (meaning setup) count before asked lines' desks)
    → OnOk r ((before : List Asked) (count : ℕ) → IsNext (meaning setup) moment count before asked lines desks
    → HaveTakenWith (meaning setup) count before asked lines' desks)
took_ok setup moment line asked given bytes lines lines' desks (Ok done) (Ok page) same is ok took behind =
    λ before count next.
    let stream = line_fed line before in
    let there = took_before (meaning setup) moment count line before asked lines desks is.low next in
    let short = subst (λ (l : List ℕ). length (stream ++ l) < input_limit) (sym same) (is.short before count next) in
    behind before count next (subst (λ (l : List ℕ). TookAt (stream ++ l) lines' (line - 1)) same (took stream there short))
took_ok setup moment line asked given bytes lines lines' desks (Ok done) (Err stop) same is ok took behind = absurd (false≢true ok)
took_ok setup moment line asked given bytes lines lines' desks (Err stop) frames same is ok took behind = tt
