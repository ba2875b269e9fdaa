-- How a script begins over a store that was opened, and what is told where it is not read.
use Rattle.std.proofs.Common.{◌≡◌, ◌-◌, ℕ, [], length, refl, sym, ap, ◌∙◌, arith}
use Rattle.arc_io.proofs.KnownMore.{known_none}
use Rattle.arc_io.specs.Disks.{DiskSeen}
use Rattle.arc_io.specs.Seen.{PortSeen}
use Rattle.centre_rules.specs.Summary.{Summary}
use Rattle.centre_store.specs.Given.{HoldsRecorded}
use Rattle.centre_store.specs.Stores.{Stored}
use Rattle.arc_script.specs.Begun.{Begun}
use Rattle.arc_script.specs.Between.{IsStoreSoFar}
use Rattle.arc_script.specs.Ends.{IsUnread}
use Rattle.arc_script.specs.declared.script_end.Tally.{Tally}
use Rattle.arc_script.proofs.Ended.{recorded_in, tally_is}
use Rattle.arc_script.proofs.Left.{left_there}

-- what is told of a centre with which nothing was done, or so many incidents were opened
abbrev pub untouched : Summary → ℕ → Tally
untouched sum opened = record {
  sent = 0;
  repeats = 0;
  recorded = sum.recorded;
  opened = opened;
  closed = 0;
  total = length sum.incidents;
}

-- memory was wanted before it was read
pub unread : {D : Type 0} (seen : D → DiskSeen) (b : Begun D) (s : Stored D) (p : PortSeen) (disk : D) (tally : Tally)
    → IsStoreSoFar seen b b.base b.past s → HoldsRecorded seen s.journal b.base b.past → p ≡ b.port → disk ≡ s.journal.disk
    → tally ≡ untouched s.state.sum 0 → IsUnread seen b p disk tally
unread seen b s p disk tally store held same is tally_as =
    let none : 0 ≡ s.state.sum.opened - s.state.sum.opened = omega arith in (
      same,
      (
        record { front = []; behind = []; steps = []; history = b.past; split = refl; of = tt; are = refl },
        record {
          none_behind = refl;
          left = record {
            output = ap (λ (q : PortSeen). q.written) same ∙ sym (known_none b.port.written);
            area = recorded_in seen b.base s b.past disk held is;
            counts = tally_is b.base s b.past b.past [] (untouched s.state.sum 0) tally s.state.sum.opened store.stands.centre.same.opened
                (record { sent = refl; repeats = refl; closed = refl }) store.stands.centre (tally_as ∙ ap (untouched s.state.sum) none);
            any_moment = left_there seen b b.base b.past s store disk is;
          };
        },
      ),
    )
