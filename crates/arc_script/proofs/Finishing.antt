-- The end of what is read of a script: what stands behind its last line feed, if anything, was played too.
use Rattle.std.proofs.Common.{◌≡◌, ◌-◌, ℕ, List, length, inl, inr, refl, sym, ap, subst}
use Rattle.std.specs.Str.Lines.{lines}
use Rattle.arc_io.specs.Disks.{DiskSeen}
use Rattle.arc_io.specs.Seen.{PortSeen}
use Rattle.arc_text.specs.Lines.{ended_lines}
use Rattle.centre_rules.specs.Summary.{Summary}
use Rattle.centre_store.specs.Stores.{Stored}
use Rattle.arc_script.specs.Begun.{Begun}
use Rattle.arc_script.specs.Between.{SoFar}
use Rattle.arc_script.specs.Halting.{Halts, Whole, Finishes, closing}
use Rattle.arc_script.specs.declared.script.Script.{Script}
use Rattle.arc_script.specs.declared.script_end.ScriptEnd.{ScriptEnd}
use Rattle.arc_script.specs.declared.script_end.ScriptEnd.TheVariants.{Done}
use Rattle.arc_script.specs.declared.script_end.Tally.{Tally}
use Rattle.arc_script.proofs.Ended.{whole}

-- the tally of a script whose store was closed
pub closed_tally : (old new : Script) (sum : Summary) → new ≡ record old {
  tally = record old.tally {
    recorded = sum.recorded;
    opened = sum.opened - old.opened_before;
    total = length sum.incidents;
  };
} → new.tally ≡ closing old.tally old.opened_before sum
closed_tally old new sum is = ap (λ (x : Script). x.tally) is

module _ {D : Type 0} (seen : D → DiskSeen) (b : Begun D) (stream : List ℕ) (all : List (List ℕ)) (is : lines stream ≡ all) where
  -- all lines were carried out
  pub finish_whole : (script : Script) (s : Stored D) (p : PortSeen) (disk : D) (tally : Tally) → SoFar seen b all script s p → disk ≡ s.journal.disk
      → tally ≡ closing script.tally script.opened_before s.state.sum → Finishes seen b (ended_lines stream) (lines stream) Done p disk tally
  finish_whole script s p disk tally so disk_is tally_as =
      inl (refl, subst (λ (l : List (List ℕ)). Whole seen b l p disk tally) (sym is) (whole seen b all script s p so disk tally disk_is tally_as))

  -- the last line ended the script
  pub finish_halts : (end : ScriptEnd) (p : PortSeen) (disk : D) (tally : Tally) → Halts seen b (ended_lines stream) all end p disk tally
      → Finishes seen b (ended_lines stream) (lines stream) end p disk tally
  finish_halts end p disk tally halts = inr (subst (λ (l : List (List ℕ)). Halts seen b (ended_lines stream) l end p disk tally) (sym is) halts)
