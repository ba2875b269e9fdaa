-- What a hall over a gate tells.
use Rattle.std.specs.Prelude.{◌≡◌, ◌++◌, List, false, Some, length, take}
use Rattle.std.proofs.Common.{sym, subst}
use Rattle.alarm_rules.specs.Setups.{meaning}
use Rattle.centre_rules.specs.Summary.{Summary}
use Rattle.centre_rules.specs.Marks.{force}
use Rattle.centre_rules.specs.History.{marks}
use Rattle.centre_rules.specs.Answers.{IsLegal}
use Rattle.centre_core.specs.Halls.{HallSeen, Fixed}
use Rattle.line_gate.specs.Entries.{Entry, made_by}
use Rattle.line_gate.specs.Terms.{Terms, IsHistory}
use Rattle.line_gate.specs.Passes.{PassSeen, IsPass, PassShows}

-- it stands for what its pass has seen, over each base
pub record AtSeen (t : Terms) (p : PassSeen) (b : Summary) (h : List Entry) : Type 0 where
  pub base : List Entry
  pub from : t.stood b base
  pub seen : h ≡ p.since ++ base
  pub pass : IsPass t p

-- the entries of such a history past the base that bear the pass's number
abbrev pub own_of : PassSeen → List Entry → List Entry
own_of p h = made_by p.number (take (length p.since) h)

-- what no call at a gate changes; of what the disk holds its callers are told nothing
abbrev pub gate_fixed : Terms → Fixed
gate_fixed t = record { at_open = t.at_open; bytes = t.limits.bytes; records = t.limits.records; tells = false }

-- the hall of a pass
abbrev pub gate_seen : Terms → PassSeen → HallSeen
gate_seen t p = record {
  ready = Unit {0};
  text = t.text;
  caller = p.number;
  fixed = gate_fixed t;
  count = p.count;
  told = p.told;
  stands = λ b h. AtSeen t p b h;
  readable = λ b h. Unit {0};
  leaves = λ t k b h. Unit {0};
  own = λ h. own_of p h;
  shows = λ stop event clock. PassShows t p stop event clock;
  up = Unit {0};
  torn = λ b h event clock. Unit {0};
}

at_history : (t : Terms) (p : PassSeen) (b : Summary) (h : List Entry) → AtSeen t p b h → IsHistory t b h
at_history t p b h w = subst (IsHistory t b) (sym w.seen) (w.pass.of_gate.over b w.base w.from)

pub at_legal : (t : Terms) (p : PassSeen) (b : Summary) (h : List Entry) → AtSeen t p b h → IsLegal b h
at_legal t p b h w = (at_history t p b h w).legal

pub at_in_force : (t : Terms) (p : PassSeen) (b : Summary) (h : List Entry) → AtSeen t p b h
    → force b (marks b h) ≡ Some (meaning t.text)
at_in_force t p b h w = (at_history t p b h w).in_force
