-- What a line did that was fed bytes over a store.
use Rattle.std.proofs.Common.{◌≡◌, ◌<◌, ◌≤◌, ◌-◌, ◌+◌, ◌++◌, ℕ, suc, List, [], ◌∷◌, Some, Ok, length, map, replicate, refl, ap, sym, subst, ◌∙◌, arith}
use Rattle.std.specs.Io.KnownBytes.{append_known}
use Rattle.std.proofs.lemmas.List.{append_assoc, length-append}
use Rattle.alarm_rules.specs.Setups.{meaning}
use Rattle.arc_io.specs.Disks.{DiskSeen}
use Rattle.arc_io.specs.Lists.{readings_of as given_of, noise_of as noise_given}
use Rattle.arc_io.specs.Seen.{PortSeen}
use Rattle.centre_core.specs.Setting.{text_of as text_in}
use Rattle.centre_rules.specs.History.{Entry}
use Rattle.centre_rules.specs.Summary.{Summary}
use Rattle.centre_store.specs.Stores.{HasFailed, Stored, StoreStands}
use Rattle.dc09_frame.specs.Frames.{bodies}
use Rattle.line_session.proofs.Ported.{all_in_limit}
use Rattle.line_session.specs.Lines.{ServesBytes}
use Rattle.line_session.specs.Turns.{Turn, line_turns, AreTurns}
use Rattle.script_lines.specs.Lines.{Asked}
use Rattle.session_rules.specs.Inputs.{in_limit, input_limit}
use Rattle.session_rules.specs.Sessions.{changed}
use Rattle.session_rules.specs.Turns.{readings_of, noise_of, text_of}
use Rattle.arc_script.proofs.Readings.{still, silent}
use Rattle.centre_store.specs.StoreHalls.{store_seen}
use Rattle.arc_script.specs.Fed.{clock_of, line_fed}
use Rattle.arc_script.specs.Names.{line_name}
use Rattle.arc_script.specs.Standing.{IsReadable, LeavesOn}
use Rattle.arc_script.specs.Steps.{placed, FeedsLine}

-- what a page tells of its clock and its noise before a line is fed, and after
pub record PageTells (clock : ℕ) (p p' : PortSeen) : Type 0 where
  pub first : p.readings ≡ Some (clock ∷ [])
  pub none : p.noise ≡ Some []
  pub list : List ℕ
  pub one : length list ≡ 1
  pub calls : ℕ
  pub readings : Some (given_of list calls) ≡ p'.readings
  pub tens : ℕ
  pub noise : Some (noise_given [] tens) ≡ p'.noise

-- all frames have their turns, and the disk has not failed
pub record FedBy {D : Type 0} (seen : D → DiskSeen) (s s' : Stored D)
    (base : Summary) (setup : List ℕ) (clock line : ℕ) (before : List Asked) (bytes : List ℕ) (h : List Entry) (p p' : PortSeen) (calls : ℕ) : Type 0 where
  pub turns : List Turn
  pub history : List Entry
  pub fed : FeedsLine (placed base setup before) line bytes h history turns []
  pub stands : StoreStands seen base s' history
  pub readable : IsReadable base history
  pub left : LeavesOn seen base s s' h history
  pub up : HasFailed seen s' → ⊥
  pub written : p'.written ≡ append_known p.written (text_of line_turns turns)
  pub count : calls ≡ length turns + 1

pub readings_count : (turns : List Turn) → length (readings_of line_turns turns) ≡ length turns
readings_count [] = refl
readings_count (t ∷ ts) = ap suc (readings_count ts)

pub feeds : {D : Type 0} (seen : D → DiskSeen) (s s' : Stored D)
    (base : Summary) (setup : List ℕ) (clock line : ℕ) (before : List Asked) (bytes : List ℕ) (h : List Entry) (p p' : PortSeen) → text_in s.state ≡ setup
    → clock_of before ≡ Some clock → length (line_fed line before ++ bytes) < input_limit → IsReadable base h → (HasFailed seen s → ⊥)
    → (page : PageTells clock p p')
    → ServesBytes (line_name line) (Ok tt) (line_fed line before) (in_limit (line_fed line before) bytes) base h (changed (store_seen seen s) (store_seen seen s') p p')
    → FedBy seen s s' base setup clock line before bytes h p p' page.calls
feeds seen s s' base setup clock line before bytes h p p' same set short readable up page serves =
    let stream = line_fed line before in
    let session = serves.session in
    let turns = session.turns in
    let fits : length bytes ≤ input_limit - length stream = (let long = length-append stream bytes in omega (arith, long, short)) in
    let all : in_limit stream bytes ≡ bytes = all_in_limit stream bytes fits in
    let told_of = session.adds.told in
    let added = session.ended.added in
    let readings : Some (given_of page.list page.calls) ≡ append_known (Some (clock ∷ [])) (readings_of line_turns turns) =
    page.readings ∙ ap (λ (q : PortSeen). q.readings) told_of ∙ ap (λ k. append_known k session.added.readings) page.first
    ∙ ap (λ a. append_known (Some (clock ∷ [])) a.readings) added in
    let noise : Some (noise_given [] page.tens) ≡ append_known (Some []) (noise_of line_turns turns) =
    page.noise ∙ ap (λ (q : PortSeen). q.noise) told_of ∙ ap (λ k. append_known k session.added.noise) page.none
    ∙ ap (λ a. append_known (Some []) a.noise) added in
    let stands = still page.list page.calls clock (readings_of line_turns turns) page.one readings in
    record {
      turns = turns;
      history = session.history;
      fed = record {
        clock = clock;
        set = set;
        ended = ap (λ l. bodies (stream ++ l)) (sym all) ∙ serves.ended ∙ ap (λ l. bodies stream ++ l) session.taken
            ∙ ap (λ l. bodies stream ++ (map (λ (t : Turn). t.body) turns ++ l)) session.ended.none_left
            ∙ sym (append_assoc (bodies stream) (map (λ (t : Turn). t.body) turns) []);
        are = subst (λ (text : List ℕ). AreTurns (line_name line) base (meaning text) 0 h session.history turns) same session.each;
        legal = session.legal;
        readings = stands.same ∙ ap (λ n. replicate n clock) (readings_count turns);
        noise = silent page.tens (noise_of line_turns turns) noise;
        own = session.own;
      };
      stands = session.holds.stands;
      readable = (readable.0, session.disk.reads readable.1);
      left = session.disk.leaves readable.1;
      up = session.up tt up;
      written = ap (λ (q : PortSeen). q.written) told_of ∙ ap (λ a. append_known p.written a.text) added;
      count = stands.count ∙ ap (λ n. n + 1) (readings_count turns);
    }
