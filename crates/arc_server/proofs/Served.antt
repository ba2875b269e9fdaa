-- What a run shows that began and served all callers.
use Rattle.std.proofs.Common.{◌≡◌, ◌≤◌, ◌++◌, ℕ, List, [], Bool, true, false, Result, Ok, Err, IfOk, OnErr, refl, sym, subst, ap, ◌∙◌}
use Rattle.std.proofs.lemmas.Bool.{true≢false}
use Rattle.std.proofs.lemmas.List.Elements.{All-nil}
use Rattle.arc_data.specs.declared.blob.Memory.{Memory}
use Rattle.arc_io.specs.Causes.{Rose}
use Rattle.arc_io.specs.Disks.{DiskSeen}
use Rattle.arc_io.specs.Seen.{PortSeen}
use Rattle.arc_serving.specs.Seen.{StationSeen, CameSeen}
use Rattle.arc_serving.specs.Serving.{ServesWhole, ServesAt, AtSomeGate, GoesOnFrom, GoesOnAt, IsKeptOf, all_ended}
use Rattle.arc_serving.specs.declared.station.Crew.{Crew}
use Rattle.centre_rules.specs.Summary.{Summary}
use Rattle.centre_rules.specs.History.{Entry}
use Rattle.centre_store.specs.Stores.{Stored, StoreStands}
use Rattle.line_gate.specs.Blanks.{terms_of}
use Rattle.line_gate.specs.Entries.{Extends}
use Rattle.line_gate.specs.Passes.{PassSeen}
use Rattle.line_gate.specs.Terms.{Terms}
use Rattle.line_gate.specs.declared.closed.GroupClosed.{GroupClosed}
use Rattle.line_gate.specs.declared.closed.GroupClosed.TheVariants.{Whole, Broken}
use Rattle.arc_server.specs.Areas.{shipped}
use Rattle.arc_server.specs.Beginnings.{HasBegun}
use Rattle.arc_server.specs.Handed.{Handed}
use Rattle.arc_server.specs.ServeRuns.{ServesAll, HasServed, GathersBroken, EndsServing}
use Rattle.arc_server.specs.declared.status.Status.{Status}
use Rattle.arc_server.specs.declared.status.Status.TheVariants.{DiskFault}
use Rattle.arc_server.proofs.Kept.{leaves_store, rose_from}
use Rattle.arc_server.proofs.Reported.{puts_line}

-- where the callers ran, at a gate of this name
serves_ran : {D : Type 0} {seen : D → DiskSeen} (groups : Bool) (t : Terms) (came : CameSeen) (last : Stored D) (crew : Crew)
    (status : Status) {r r' : Handed D} {p : PortSeen} {around around' : StationSeen}
    → (begun : HasBegun seen r r'.setup p) → (s : ServesWhole seen t crew around around' came last)
    → t.stood begun.asked.base begun.history
    → HasServed seen groups begun.first crew (around, around') (Ok came) last (all_ended s.all.ran)
    → last.journal.limits ≡ shipped → r'.disk ≡ last.journal.disk → last.at_open ≡ begun.first.at_open
    → EndsServing (seen r.disk).faults p r'.port (seen r'.disk).faults last.state.sum (Ok came) status
    → ServesAll seen groups crew status r r' around around'
serves_ran {D} {seen} groups t came last crew status {r} {r'} {p} {around} {around'} begun s stood served limits handed opened e =
    let base : Summary = begun.asked.base in
    let entry : ℕ = (seen r.disk).faults in
    let all = s.stands base begun.history stood in
    let since : entry ≤ last.at_open = subst (λ (n : ℕ). entry ≤ n) (sym opened) begun.later in record {
      p = p;
      begun = begun;
      last = last;
      came = Ok came;
      passes = all_ended s.all.ran;
      served = served;
      stands = all;
      leaves = leaves_store last all.from.stands limits since handed;
      written = e.written;
      puts = puts_line last.state base all.from.history all.from.stands.centre e.puts;
      status_is = e.status_is;
    }

-- where all were refused memory before the first began
serves_none : {D : Type 0} {seen : D → DiskSeen} (groups : Bool) (none : Memory) (last : Stored D) (crew : Crew)
    (status : Status) {r r' : Handed D} {p : PortSeen} {around around' : StationSeen}
    → (begun : HasBegun seen r r'.setup p) → GoesOnFrom seen begun.asked.base begun.history last
    → HasServed seen groups begun.first crew (around, around') (Err none) last []
    → last.journal.limits ≡ shipped → r'.disk ≡ last.journal.disk → last.at_open ≡ begun.first.at_open
    → EndsServing (seen r.disk).faults p r'.port (seen r'.disk).faults last.state.sum (Err none) status
    → ServesAll seen groups crew status r r' around around'
serves_none {D} {seen} groups none last crew status {r} {r'} {p} {around} {around'} begun from served limits handed opened e =
    let base : Summary = begun.asked.base in
    let entry : ℕ = (seen r.disk).faults in
    let since : entry ≤ last.at_open = subst (λ (n : ℕ). entry ≤ n) (sym opened) begun.later in record {
      p = p;
      begun = begun;
      last = last;
      came = Err none;
      passes = [];
      served = served;
      stands = record { from = from; all_seen = All-nil (λ (p : PassSeen). Extends (p.since ++ begun.history) from.history) };
      leaves = leaves_store last from.stands limits since handed;
      written = e.written;
      puts = puts_line last.state base from.history from.stands.centre e.puts;
      status_is = e.status_is;
    }

-- What is said of a call that served callers of this store at a gate without groups.
pub record Served {D : Type 0} (seen : D → DiskSeen)
    (store : Stored D) (crew : Crew) (around around' : StationSeen) (came : Result CameSeen Memory) (last : Stored D) : Type 0 where
  pub served : IfOk came (λ came. AtSomeGate seen false store (λ t. ServesWhole seen t crew around around' came last))
  pub refused : OnErr came ((b : Summary) (h : List Entry) → StoreStands seen b store h → GoesOnFrom seen b h last)
  pub untouched : OnErr came (around' ≡ around)
  pub at_open : last.at_open ≡ store.at_open

-- and at one with groups
pub record Gathered {D : Type 0} (seen : D → DiskSeen)
    (store : Stored D) (crew : Crew) (around around' : StationSeen) (came : Result CameSeen Memory) (closed : GroupClosed D) : Type 0 where
  pub served : IfOk came (λ came. AtSomeGate seen true store (λ t. ServesAt seen t crew around around' came closed))
  pub refused : OnErr came ((b : Summary) (h : List Entry) → StoreStands seen b store h → GoesOnAt seen b h closed)
  pub untouched : OnErr came (around' ≡ around)
  pub kept : IsKeptOf store closed

-- by whether the callers ran, from the store with which the run began
serves_first : {D : Type 0} {seen : D → DiskSeen} (came : Result CameSeen Memory) (last : Stored D) (crew : Crew) (status : Status)
    {r r' : Handed D} {p : PortSeen} {around around' : StationSeen}
    → (begun : HasBegun seen r r'.setup p) → Served seen begun.first crew around around' came last
    → last.journal.limits ≡ shipped → r'.disk ≡ last.journal.disk
    → EndsServing (seen r.disk).faults p r'.port (seen r'.disk).faults last.state.sum came status
    → ServesAll seen false crew status r r' around around'
serves_first {D} {seen} (Ok came) last crew status {r} {r'} {p} {around} {around'} begun s limits handed e =
    let served = s.served in
    let stood : StoreStands seen begun.asked.base served.gate.store begun.history =
    subst (λ (s : Stored D). StoreStands seen begun.asked.base s begun.history) (sym served.from_is) begun.stands.stands in
    serves_ran false (terms_of false seen served.gate) came last crew status begun served.serves stood
    (served, refl, λ is failed. true≢false (sym is)) limits handed s.at_open e
serves_first {D} {seen} (Err none) last crew status {r} {r'} {p} {around} {around'} begun s limits handed e =
    serves_none false none last crew status begun (s.refused begun.asked.base begun.history begun.stands.stands) (s.untouched, refl) limits handed
    s.at_open e

pub serves_all : {D : Type 0} {seen : D → DiskSeen} (came : Result CameSeen Memory) (store last : Stored D) (crew : Crew) (status : Status)
    {r r' : Handed D} {p : PortSeen} {around around' : StationSeen}
    → (begun : HasBegun seen r r'.setup p) → begun.first ≡ store → Served seen store crew around around' came last
    → last.journal.limits ≡ shipped → r'.disk ≡ last.journal.disk
    → EndsServing (seen r.disk).faults p r'.port (seen r'.disk).faults last.state.sum came status
    → ServesAll seen false crew status r r' around around'
serves_all {D} {seen} came store last crew status {r} {r'} {p} {around} {around'} begun is s limits handed e =
    serves_first came last crew status begun
    (subst (λ (first : Stored D). Served seen first crew around around' came last) (sym is) s) limits handed e

-- and at a gate with groups that gave the store whole
gathers_whole : {D : Type 0} {seen : D → DiskSeen} (came : Result CameSeen Memory) (last : Stored D) (crew : Crew) (status : Status)
    {r r' : Handed D} {p : PortSeen} {around around' : StationSeen}
    → (begun : HasBegun seen r r'.setup p) → Gathered seen begun.first crew around around' came (Whole last)
    → begun.first.journal.limits ≡ shipped → r'.disk ≡ last.journal.disk
    → EndsServing (seen r.disk).faults p r'.port (seen r'.disk).faults last.state.sum came status
    → ServesAll seen true crew status r r' around around'
gathers_whole {D} {seen} (Ok came) last crew status {r} {r'} {p} {around} {around'} begun s limits handed e =
    let served = s.served in
    let stood : StoreStands seen begun.asked.base served.gate.store begun.history =
    subst (λ (s : Stored D). StoreStands seen begun.asked.base s begun.history) (sym served.from_is) begun.stands.stands in
    let whole : AtSomeGate seen true begun.first (λ t. ServesWhole seen t crew around around' came last) =
    record { gate = served.gate; from_is = served.from_is; serves = served.serves.0 } in
    serves_ran true (terms_of true seen served.gate) came last crew status begun served.serves.0 stood (whole, refl, λ is. served.serves.1)
    (s.kept.1 ∙ limits) handed
    s.kept.0 e
gathers_whole {D} {seen} (Err none) last crew status {r} {r'} {p} {around} {around'} begun s limits handed e =
    serves_none true none last crew status begun (s.refused begun.asked.base begun.history begun.stands.stands) (s.untouched, refl)
    (s.kept.1 ∙ limits) handed s.kept.0 e

-- what is said of a call stands of the store with which the run began, and of what closing it gave
gathered_first : {D : Type 0} {seen : D → DiskSeen} (came : Result CameSeen Memory) (first store : Stored D) (crew : Crew)
    (closed given : GroupClosed D) (around around' : StationSeen) → first ≡ store → closed ≡ given
    → Gathered seen store crew around around' came closed → Gathered seen first crew around around' came given
gathered_first {D} {seen} came first store crew closed given around around' begins is s =
    subst (λ (k : GroupClosed D). Gathered seen first crew around around' came k) is
    (subst (λ (one : Stored D). Gathered seen one crew around around' came closed) (sym begins) s)

pub gathered_whole : {D : Type 0} {seen : D → DiskSeen} (came : Result CameSeen Memory) (store last : Stored D) (crew : Crew) (status : Status)
    (closed : GroupClosed D) {r r' : Handed D} {p : PortSeen} {around around' : StationSeen}
    → closed ≡ Whole last → (begun : HasBegun seen r r'.setup p) → begun.first ≡ store
    → Gathered seen store crew around around' came closed → store.journal.limits ≡ shipped → r'.disk ≡ last.journal.disk
    → EndsServing (seen r.disk).faults p r'.port (seen r'.disk).faults last.state.sum came status
    → ServesAll seen true crew status r r' around around'
gathered_whole {D} {seen} came store last crew status closed {r} {r'} {p} {around} {around'} is begun begins s limits handed e =
    gathers_whole came last crew status begun (gathered_first came begun.first store crew closed (Whole last) around around' begins is s)
    (ap (λ (first : Stored D). first.journal.limits) begins ∙ limits) handed e

-- The disk of such a gate, which came back alone, failed by these counts.
broken_shows : {D : Type 0} {seen : D → DiskSeen} (came : Result CameSeen Memory) (first : Stored D) (crew : Crew) (around around' : StationSeen)
    (disk : D) (at_open now : ℕ) (b : Summary) (h : List Entry) → StoreStands seen b first h
    → Gathered seen first crew around around' came (Broken disk at_open now) → (now ≡ (seen disk).faults) × Rose at_open now
broken_shows {D} {seen} (Ok came) first crew around around' disk at_open now b h stood s = (s.served.serves.0, s.served.serves.2)
broken_shows {D} {seen} (Err none) first crew around around' disk at_open now b h stood s = s.refused b h stood

-- and at one with groups whose disk came back alone
gathers_broken : {D : Type 0} {seen : D → DiskSeen} (came : Result CameSeen Memory) (crew : Crew) (status : Status)
    (at_open now : ℕ) {r r' : Handed D} {around around' : StationSeen}
    → (begun : HasBegun seen r r'.setup r'.port) → Gathered seen begun.first crew around around' came (Broken r'.disk at_open now)
    → status ≡ DiskFault (seen r.disk).faults (seen r'.disk).faults
    → GathersBroken seen crew status r r' around around'
gathers_broken {D} {seen} came crew status at_open now {r} {r'} {around} {around'} begun s is =
    let first = begun.first in
    let end : ℕ = (seen r'.disk).faults in
    let counts : (now ≡ end) × Rose at_open now =
    broken_shows came first crew around around' r'.disk at_open now begun.asked.base begun.history begun.stands.stands s in
    let closed : Broken r'.disk at_open now ≡ Broken r'.disk first.at_open end =
    ap (λ (n : ℕ). Broken r'.disk n now) s.kept ∙ ap (λ (n : ℕ). Broken r'.disk first.at_open n) counts.0 in
    let rose : Rose first.at_open end = subst (λ (n : ℕ). Rose first.at_open n) counts.0 (subst (λ (n : ℕ). Rose n now) s.kept counts.1) in record {
      begun = begun;
      came = came;
      served = subst (λ (k : GroupClosed D). IfOk came (λ w. AtSomeGate seen true first (λ t. ServesAt seen t crew around around' w k))) closed s.served;
      untouched = s.untouched;
      rose = rose_from (seen r.disk).faults first.at_open end begun.later rose;
      status_is = is;
    }

pub gathered_broken : {D : Type 0} {seen : D → DiskSeen} (came : Result CameSeen Memory) (store : Stored D) (crew : Crew) (status : Status)
    (at_open now : ℕ) (closed : GroupClosed D) {r r' : Handed D} {around around' : StationSeen}
    → closed ≡ Broken r'.disk at_open now → (begun : HasBegun seen r r'.setup r'.port) → begun.first ≡ store
    → Gathered seen store crew around around' came closed
    → status ≡ DiskFault (seen r.disk).faults (seen r'.disk).faults
    → GathersBroken seen crew status r r' around around'
gathered_broken {D} {seen} came store crew status at_open now closed {r} {r'} {around} {around'} is begun begins s status_is =
    gathers_broken came crew status at_open now begun
    (gathered_first came begun.first store crew closed (Broken r'.disk at_open now) around around' begins is s) status_is
