-- What is so of a hall's disk and a history, from one history to another.
use Rattle.std.proofs.Common.{List}
use Rattle.centre_rules.specs.Summary.{Summary}
use Rattle.centre_rules.specs.History.{Entry}
use Rattle.centre_core.specs.Halls.{HallSeen, DiskGoesOn}

-- without a call
pub disk_stays : {b : Summary} {hall : HallSeen} {h : List Entry} → DiskGoesOn b hall hall h h
disk_stays {b} {hall} {h} = record { reads = λ r. r; leaves = λ r t k left. left }

-- behind some calls, and then behind others
pub disk_then : {b : Summary} {hall mid last : HallSeen} {h x y : List Entry} → DiskGoesOn b hall mid h x → DiskGoesOn b mid last x y
    → DiskGoesOn b hall last h y
disk_then {b} {hall} {mid} {last} {h} {x} {y} one two = record {
  reads = λ r. two.reads (one.reads r);
  leaves = λ r t k left. two.leaves (one.reads r) t k (one.leaves r t k left);
}
