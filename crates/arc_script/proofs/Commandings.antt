-- What giving a command to a desk answers, by what the desk answered.
use Rattle.std.proofs.Common.{◌≡◌, ◌≢◌, ◌<◌, ◌≤◌, ◌-◌, ◌+◌, ◌++◌, ℕ, List, [], ◌∷◌, true, false, Option, Some, None, Result, Ok, Err, length, ap, sym, subst, ◌∙◌, arith}
use Rattle.std.specs.Prelude.{IfSome, unwrap_or}
use Rattle.std.specs.Io.KnownBytes.{append_known}
use Rattle.std.specs.List.{slice_get}
use Rattle.std.proofs.lemmas.List.{length-append}
use Rattle.alarm_rules.specs.Setups.{Setup, meaning}
use Rattle.arc_io.specs.Disks.{DiskSeen}
use Rattle.arc_io.specs.Memory.{clock_list, noise_list}
use Rattle.arc_io.specs.Seen.{PortSeen}
use Rattle.arc_io.specs.Told.{OnlyWrites}
use Rattle.arc_text.specs.Lines.{ended_lines}
use Rattle.centre_core.specs.Setting.{IsSetting, text_of}
use Rattle.centre_core.specs.declared.hall.Stop.{Stop}
use Rattle.centre_core.specs.declared.hall.Stop.TheVariants.{Memory}
use Rattle.centre_rules.specs.History.{Entry}
use Rattle.centre_rules.specs.Summary.{Summary}
use Rattle.centre_store.specs.StoreHalls.{IsStoreFor, store_seen}
use Rattle.arc_script.specs.Standing.{IsReadable}
use Rattle.centre_store.specs.Stores.{HasFailed, Stored, StoreStands}
use Rattle.desk_session.specs.Desks as Desk
use Rattle.desk_session.specs.Events.{acts_over, command_in, event_of, quits}
use Rattle.desk_session.specs.declared.desk_end.DeskEnd.{DeskEnd}
use Rattle.desk_session.specs.declared.desk_end.DeskEnd.TheVariants.{Quit, Stopped, WriteFault}
use Rattle.line_session.proofs.Ported.{all_in_limit}
use Rattle.line_session.specs.Lines as Line
use Rattle.script_lines.specs.Lines.{Asked, Command, spelling}
use Rattle.session_rules.specs.Inputs.{in_limit, input_limit}
use Rattle.arc_script.specs.Carrying.{Carried, Halted, HasRead, HaveTakenWith, IsNext, ReadAt}
use Rattle.arc_script.specs.Causes.{HasShown}
use Rattle.arc_script.specs.Fed.{desk_read}
use Rattle.arc_script.specs.PageWords.{page_seen}
use Rattle.arc_script.specs.Pages.{blank, head_of}
use Rattle.arc_script.specs.Steps.{placed, Commands}
use Rattle.arc_script.specs.declared.page.Page.{Page}
use Rattle.arc_script.specs.declared.script_end.Tally.{Tally}
use Rattle.arc_script.proofs.Commanded.{ends_as, is_quit_as, says, says_quit, stops, unsaid, EndsAs}
use Rattle.arc_script.proofs.Desked.{command_short, commanded, halted_before, read_new, read_on, text_unbroken, unsaid_all, CameSoFar, Closings}
use Rattle.arc_script.proofs.FedCounts.{page_tells}
use Rattle.arc_script.proofs.Feeds.{PageTells}
use Rattle.arc_script.proofs.Taken.{read_after, read_next}

-- what the code gave to a desk, over a page on which the head of the line was put
pub record IsGiven {D : Type 0} (seen : D → DiskSeen) (s s' : Stored D) (setup : List ℕ)
    (desk : ℕ) (text : List ℕ) (desks : List Desk.DeskValue) (was now : Desk.DeskValue) (p : PortSeen) (page page' : Page) (given : List ℕ)
    (r : Result (Unit {0}) DeskEnd) : Type 0 where
  pub low : 1 ≤ desk
  pub there : slice_get desks (desk - 1) ≡ Some was
  pub set : s.state.sum.text ≡ Some setup
  pub setting : IsSetting s.state.sum.text
  pub only : OnlyWrites p (page_seen page)
  pub head : (page_seen page).written ≡ append_known p.written (head_of 68 desk ++ 32 ∷ [])
  pub line : given ≡ text ++ 13 ∷ 10 ∷ []
  pub one : length (clock_list page'.port.clock) ≡ 1
  pub silent : noise_list page'.port.noise ≡ []
  pub taken : (stream : List ℕ) → Desk.TookStream (meaning (text_of s.state)) stream was → Desk.IsTaken r (meaning (text_of s.state)) stream given now
  pub served : (base : Summary) (stream : List ℕ) (h : List Entry) → Desk.TookStream (meaning (text_of s.state)) stream was
      → IsStoreFor seen base s h
      → Desk.ServesBytes r stream (in_limit stream given) base h (store_seen seen s) (store_seen seen s')
      (page_seen page) (page_seen page')

-- what the desk had read, and what it did
pub record HasServed {D : Type 0} (seen : D → DiskSeen) (s s' : Stored D) (base : Summary) (setup : List ℕ)
    (clock count desk : ℕ) (before : List Asked) (text : List ℕ) (h : List Entry) (was : Desk.DeskValue) (p p' : PortSeen)
    (r : Result (Unit {0}) DeskEnd) : Type 0 where
  pub has : HasRead (meaning setup) count (desk_read desk before) was
  pub ends : EndsAs has.stream text
  pub none : quits (ended_lines has.stream) ≡ false
  pub serves : Desk.ServesLines r (ended_lines has.stream) (ended_lines (has.stream ++ (text ++ 13 ∷ 10 ∷ []))) base h
      (store_seen seen s) (store_seen seen s') p p'
  pub page : PageTells clock p p'

had_read : (setup : Setup) (clock count desk : ℕ) (before : List Asked) (text : List ℕ) (lines : List Line.LineValue) (desks : List Desk.DeskValue)
    (was : Desk.DeskValue) → 1 ≤ desk → slice_get desks (desk - 1) ≡ Some was → IsNext setup clock count before (Command desk text) lines desks
    → HasRead setup count (desk_read desk before) was
had_read setup clock count desk before text lines desks was low there next =
    let same : desk - 1 + 1 ≡ desk = omega (arith, low) in
    let at = subst (λ (n : ℕ). ReadAt setup count (desk_read n before) desks (desk - 1)) same (next.taken.read (desk - 1)) in
    subst (λ (o : Option Desk.DeskValue). IfSome o (HasRead setup count (desk_read desk before))) there at

text_is : {D : Type 0} (s : Stored D) (setup : List ℕ) → s.state.sum.text ≡ Some setup → text_of s.state ≡ setup
text_is s setup set = ap (λ (o : Option (List ℕ)). unwrap_or o []) set

whole_given : (stream text given : List ℕ) → given ≡ text ++ 13 ∷ 10 ∷ [] → length (stream ++ (text ++ 13 ∷ 10 ∷ [])) < input_limit
    → in_limit stream given ≡ text ++ 13 ∷ 10 ∷ []
whole_given stream text given line short =
    let bytes = text ++ 13 ∷ 10 ∷ [] in
    let long = length-append stream bytes in
    let fits : length bytes ≤ input_limit - length stream = omega (arith, long, short) in
    ap (in_limit stream) line ∙ all_in_limit stream bytes fits

pub has_served : {D : Type 0} (seen : D → DiskSeen) (s s' : Stored D) (base : Summary) (setup : List ℕ)
    (clock count desk : ℕ) (before : List Asked) (text : List ℕ) (h : List Entry) (lines : List Line.LineValue) (desks : List Desk.DeskValue)
    (was now : Desk.DeskValue) (p : PortSeen) (page page' : Page) (given : List ℕ) (r : Result (Unit {0}) DeskEnd)
    → IsGiven seen s s' setup desk text desks was now p page page' given r
    → IsNext (meaning setup) clock count before (Command desk text) lines desks → p ≡ blank clock
    → StoreStands seen base s h → IsReadable base h
    → HasServed seen s s' base setup clock count desk before text h was (page_seen page) (page_seen page') r
has_served seen s s' base setup clock count desk before text h lines desks was now p page page' given r g next empty stands readable =
    let has = had_read (meaning setup) clock count desk before text lines desks was g.low g.there next in
    let same = text_is s setup g.set in
    let took = subst (λ (t : List ℕ). Desk.TookStream (meaning t) has.stream was) (sym same) has.took in
    let short = command_short (meaning setup) clock count desk before text has.stream lines desks next has.few in
    let serves = g.served base has.stream h took (record { stands = stands; setting = g.setting }) in
    let whole = whole_given has.stream text given g.line short in
    record {
      has = has;
      ends = ends_as has.stream text (text_unbroken desk text next.unbroken) has.none;
      none = has.took.taken.goes_on;
      serves = subst (λ (l : List ℕ). Desk.ServesLines r (ended_lines has.stream) (ended_lines (has.stream ++ l)) base h
          (store_seen seen s) (store_seen seen s') (page_seen page) (page_seen page')) whole serves;
      page = page_tells clock page page'
          (ap (λ (q : PortSeen). q.readings) g.only.rest ∙ ap (λ (q : PortSeen). q.readings) empty)
          (ap (λ (q : PortSeen). q.noise) g.only.rest ∙ ap (λ (q : PortSeen). q.noise) empty) g.one g.silent;
    }

-- The desk goes on, or the line was a `quit`.

pub goes_on : {D : Type 0} (seen : D → DiskSeen) (s s' : Stored D) (base : Summary) (setup : List ℕ)
    (desk : ℕ) (text : List ℕ) (lines : List Line.LineValue) (desks : List Desk.DeskValue) (was now : Desk.DeskValue) (t t' : Tally) (p : PortSeen)
    (page page' : Page) (given : List ℕ) → IsGiven seen s s' setup desk text desks was now p page page' given (Ok tt)
    → Closings s.state s'.state t t'
    → (before : List Asked) (clock count number : ℕ) (h : List Entry) → IsNext (meaning setup) clock count before (Command desk text) lines desks
    → p ≡ blank clock → StoreStands seen base s h → IsReadable base h → (HasFailed seen s → ⊥)
    → Carried seen base s h (λ x k. Commands (placed base setup before) desk text h x k) number (Command desk text) t t' p (page_seen page') s'
goes_on seen s s' base setup desk text lines desks was now t t' p page page' given g closings before clock count number h next empty stands readable up =
    let w = has_served seen s s' base setup clock count desk before text h lines desks was now p page page' given (Ok tt) g next empty stands readable in
    let said = says seen s s' base setup clock w.has.stream text h (page_seen page) (page_seen page') (text_is s setup g.set) readable up w.page w.ends w.none w.serves in
    commanded seen s s' base setup clock number desk before text (ended_lines w.has.stream) h t t' p (page_seen page) (page_seen page')
    next.set w.has.ended stands said g.head closings

pub quits_on : {D : Type 0} (seen : D → DiskSeen) (s s' : Stored D) (base : Summary) (setup : List ℕ)
    (desk : ℕ) (text : List ℕ) (lines : List Line.LineValue) (desks : List Desk.DeskValue) (was now : Desk.DeskValue) (t t' : Tally) (p : PortSeen)
    (page page' : Page) (given : List ℕ) → IsGiven seen s s' setup desk text desks was now p page page' given (Err Quit)
    → Closings s.state s'.state t t'
    → (before : List Asked) (clock count number : ℕ) (h : List Entry) → IsNext (meaning setup) clock count before (Command desk text) lines desks
    → p ≡ blank clock → StoreStands seen base s h → IsReadable base h → (HasFailed seen s → ⊥)
    → Carried seen base s h (λ x k. Commands (placed base setup before) desk text h x k) number (Command desk text) t t' p (page_seen page') s'
quits_on seen s s' base setup desk text lines desks was now t t' p page page' given g closings before clock count number h next empty stands readable up =
    let w = has_served seen s s' base setup clock count desk before text h lines desks was now p page page' given (Err Quit) g next empty stands readable in
    let said = says_quit seen s s' base setup clock w.has.stream text h (page_seen page) (page_seen page') (text_is s setup g.set) readable up w.page w.ends w.none w.serves in
    commanded seen s s' base setup clock number desk before text (ended_lines w.has.stream) h t t' p (page_seen page) (page_seen page')
    next.set w.has.ended stands said g.head closings

-- the store stopped for the command
pub stops_at : {D : Type 0} (seen : D → DiskSeen) (s s' : Stored D) (base : Summary) (setup : List ℕ)
    (desk : ℕ) (text : List ℕ) (lines : List Line.LineValue) (desks : List Desk.DeskValue) (was now : Desk.DeskValue) (t t' : Tally) (p : PortSeen)
    (page page' : Page) (given : List ℕ) (stop : Stop)
    → IsGiven seen s s' setup desk text desks was now p page page' given (Err (Stopped stop)) → Closings s.state s'.state t t'
    → (before : List Asked) (clock count : ℕ) (h : List Entry) → IsNext (meaning setup) clock count before (Command desk text) lines desks
    → p ≡ blank clock → StoreStands seen base s h → IsReadable base h → (HasFailed seen s → ⊥)
    → Halted seen base s h (λ x k. CameSoFar base seen s' setup clock desk before text h stop x k) t t' s'
stops_at seen s s' base setup desk text lines desks was now t t' p page page' given stop g closings before clock count h next empty stands readable up =
    let w = has_served seen s s' base setup clock count desk before text h lines desks was now p page page' given (Err (Stopped stop)) g next empty stands readable in
    let stopped = stops seen s s' base setup clock w.has.stream text h (page_seen page) (page_seen page') stop (text_is s setup g.set) readable up w.page w.ends w.none w.serves in
    let cause = subst (λ (ls : List (List ℕ)). HasShown seen base s' h stop clock
    (λ event. event_of (acts_over (meaning setup) None ls) (command_in text) ≡ Some event)) w.has.ended stopped.cause in
    halted_before seen s s' base setup clock desk before text h t t' stop stands stopped.stands readable stopped.left cause closings

-- A write failed, or nothing like that can be.
pub fails_at : {D : Type 0} (seen : D → DiskSeen) (s s' : Stored D) (base : Summary) (setup : List ℕ)
    (desk : ℕ) (text : List ℕ) (lines : List Line.LineValue) (desks : List Desk.DeskValue) (was now : Desk.DeskValue) (t t' : Tally) (p : PortSeen)
    (page page' : Page) (given : List ℕ) → IsGiven seen s s' setup desk text desks was now p page page' given (Err WriteFault)
    → Closings s.state s'.state t t'
    → (before : List Asked) (clock count : ℕ) (h : List Entry) → IsNext (meaning setup) clock count before (Command desk text) lines desks
    → p ≡ blank clock → StoreStands seen base s h → IsReadable base h → (HasFailed seen s → ⊥)
    → Halted seen base s h (λ x k. CameSoFar base seen s' setup clock desk before text h Memory x k) t t' s'
fails_at seen s s' base setup desk text lines desks was now t t' p page page' given g closings before clock count h next empty stands readable up =
    let w = has_served seen s s' base setup clock count desk before text h lines desks was now p page page' given (Err WriteFault) g next empty stands readable in
    let answers = unsaid seen s s' base setup clock w.has.stream text h (page_seen page) (page_seen page') (text_is s setup g.set) readable up w.page w.ends w.none w.serves in
    unsaid_all seen s s' base setup clock desk before text (ended_lines w.has.stream) h t t' next.set w.has.ended stands answers closings

-- What the desks took.

read_there : (setup : Setup) (count : ℕ) (read : List (List ℕ)) (desks : List Desk.DeskValue) (place : ℕ) (now : Desk.DeskValue)
    → slice_get desks place ≡ Some now → HasRead setup count read now → ReadAt setup count read desks place
read_there setup count read desks place now there has = subst (λ (o : Option Desk.DeskValue). IfSome o (HasRead setup count read)) (sym there) has

pub took_on : {D : Type 0} (seen : D → DiskSeen) (s s' : Stored D) (setup : List ℕ)
    (desk : ℕ) (text : List ℕ) (lines : List Line.LineValue) (desks desks' : List Desk.DeskValue) (was now : Desk.DeskValue) (p : PortSeen)
    (page page' : Page) (given : List ℕ) → IsGiven seen s s' setup desk text desks was now p page page' given (Ok tt)
    → slice_get desks' (desk - 1) ≡ Some now → ((k : ℕ) → k ≢ desk - 1 → slice_get desks' k ≡ slice_get desks k)
    → (before : List Asked) (clock count : ℕ) → IsNext (meaning setup) clock count before (Command desk text) lines desks
    → HaveTakenWith (meaning setup) count before (Command desk text) lines desks'
took_on seen s s' setup desk text lines desks desks' was now p page page' given g there others before clock count next =
    let has = had_read (meaning setup) clock count desk before text lines desks was g.low g.there next in
    let same = text_is s setup g.set in
    let took = g.taken has.stream (subst (λ (t : List ℕ). Desk.TookStream (meaning t) has.stream was) (sym same) has.took) in
    let ends = ends_as has.stream text (text_unbroken desk text next.unbroken) has.none in
    let on = subst (λ (t : List ℕ). Desk.TookStream (meaning t) (has.stream ++ (text ++ 13 ∷ 10 ∷ [])) now) same
    (subst (λ (l : List ℕ). Desk.TookStream (meaning (text_of s.state)) (has.stream ++ l) now) g.line took) in
    read_after (meaning setup) count (length (spelling (Command desk text))) desk text before lines desks desks' g.low next.taken
    (read_there (meaning setup) (count + length (spelling (Command desk text))) (read_next text (desk_read desk before)) desks' (desk - 1) now there
    (read_on (meaning setup) count desk text has.stream (desk_read desk before) was now has ends has.ended has.few on has.took.taken.goes_on))
    others

pub took_quit : {D : Type 0} (seen : D → DiskSeen) (s s' : Stored D) (setup : List ℕ)
    (desk : ℕ) (text : List ℕ) (lines : List Line.LineValue) (desks desks' : List Desk.DeskValue) (was now new : Desk.DeskValue) (p : PortSeen)
    (page page' : Page) (given : List ℕ) → IsGiven seen s s' setup desk text desks was now p page page' given (Err Quit)
    → ((k : Setup) → Desk.TookStream k [] new)
    → slice_get desks' (desk - 1) ≡ Some new → ((k : ℕ) → k ≢ desk - 1 → slice_get desks' k ≡ slice_get desks k)
    → (before : List Asked) (clock count : ℕ) → IsNext (meaning setup) clock count before (Command desk text) lines desks
    → HaveTakenWith (meaning setup) count before (Command desk text) lines desks'
took_quit seen s s' setup desk text lines desks desks' was now new p page page' given g fresh there others before clock count next =
    let has = had_read (meaning setup) clock count desk before text lines desks was g.low g.there next in
    let same = text_is s setup g.set in
    let took = g.taken has.stream (subst (λ (t : List ℕ). Desk.TookStream (meaning t) has.stream was) (sym same) has.took) in
    let ends = ends_as has.stream text (text_unbroken desk text next.unbroken) has.none in
    let short = command_short (meaning setup) clock count desk before text has.stream lines desks next has.few in
    let whole = whole_given has.stream text given g.line short in
    let quit = is_quit_as has.stream text true ends has.took.taken.goes_on (ap (λ (l : List ℕ). quits (ended_lines (has.stream ++ l))) (sym whole) ∙ took) in
    read_after (meaning setup) count (length (spelling (Command desk text))) desk text before lines desks desks' g.low next.taken
    (read_there (meaning setup) (count + length (spelling (Command desk text))) (read_next text (desk_read desk before)) desks' (desk - 1) new there
    (read_new (meaning setup) (count + length (spelling (Command desk text))) text (desk_read desk before) new quit (fresh (meaning setup))))
    others
