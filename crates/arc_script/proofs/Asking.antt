-- Which lines of a script are skipped, and what the others ask for.
use Rattle.std.proofs.Common.{◌≡◌, ◌≤◌, ◌&&◌, ℕ, List, [], Option, Some, Bool, true, false, if◌then◌else◌, nat_le, length, refl, sym, ap, subst, ◌∙◌, arith}
use Rattle.std.specs.List.{list_any}
use Rattle.alarm_rules.specs.Setups.{meaning}
use Rattle.arc_io.specs.Disks.{DiskSeen}
use Rattle.arc_io.specs.Seen.{PortSeen}
use Rattle.arc_text.specs.LineCutting.{cut_of, line_of}
use Rattle.arc_text.specs.Lines.{is_feed}
use Rattle.arc_text.specs.declared.line_cut.LineCut.{LineCut}
use Rattle.arc_text.specs.declared.line_cut.LineCut.TheVariants.{Whole, TooLong}
use Rattle.centre_store.specs.Stores.{Stored}
use Rattle.script_lines.specs.Lines.{Asked, Time, Feed, Message, Command, Reopen, Asks, spelling, is_skipped}
use Rattle.arc_script.specs.Begun.{Begun}
use Rattle.arc_script.specs.Between.{IsClock, MayComeNext, SoFar, size_of}
use Rattle.arc_script.specs.Carrying.{IsNext}
use Rattle.arc_script.specs.Playing.{moment_at}
use Rattle.arc_script.specs.Steps.{asked_after}
use Rattle.arc_script.specs.Texts.{IsPlayable, is_passed, line_limit}
use Rattle.arc_script.specs.declared.script.Script.{Script}
use Rattle.arc_script.proofs.Ended.{may_follow}

spelled_played : (a : Asked) → is_skipped (spelling a) ≡ false
spelled_played (Time moment) = refl
spelled_played (Feed line digits) = refl
spelled_played (Message line body) = refl
spelled_played (Command desk text) = refl
spelled_played Reopen = refl

-- a line that asks for something is not skipped
pub asks_played : (line : List ℕ) (a : Asked) → Asks line a → is_passed line ≡ false
asks_played line a asks = ap (λ l. is_skipped l && nat_le (length line) line_limit) asks.spelled ∙ ap (λ t. t && nat_le (length line) line_limit) (spelled_played a)

whole_step : (t : Bool) → Whole ≡ (if t then Whole else TooLong) → t ≡ true
whole_step true is = refl
whole_step false is = absurd (cc)

-- a line that is whole is short, and the cutter has it
pub whole_short : (cut : LineCut) (line : List ℕ) → cut ≡ cut_of line_limit line → cut ≡ Whole → nat_le (length line) line_limit ≡ true
whole_short cut line is whole = whole_step (nat_le (length line) line_limit) (sym whole ∙ is)

pub whole_passed : (cut : LineCut) (kept line : List ℕ) → cut ≡ cut_of line_limit line → kept ≡ line_of cut line → cut ≡ Whole → is_skipped kept ≡ true
    → is_passed line ≡ true
whole_passed cut kept line is has whole skips =
    let same : kept ≡ line = has ∙ ap (λ (c : LineCut). line_of c line) whole in
    let short = whole_short cut line is whole in
    ap (λ t. t && nat_le (length line) line_limit) (ap is_skipped (sym same) ∙ skips) ∙ short

long_step : (line : List ℕ) (t : Bool) → is_skipped line ≡ t → nat_le (length line) line_limit ≡ false → is_passed line ≡ false
long_step line true skips long = ap (λ b. b && nat_le (length line) line_limit) skips ∙ long
long_step line false skips long = ap (λ b. b && nat_le (length line) line_limit) skips

long_cut : (t : Bool) → TooLong ≡ (if t then Whole else TooLong) → t ≡ false
long_cut true is = absurd (cc)
long_cut false is = refl

pub not_passed : (cut : LineCut) (kept line : List ℕ) → cut ≡ cut_of line_limit line → kept ≡ line_of cut line → (cut ≡ Whole → is_skipped kept ≡ false)
    → is_passed line ≡ false
not_passed Whole kept line is has other =
    ap (λ t. t && nat_le (length line) line_limit) (ap is_skipped (sym has) ∙ other refl)
not_passed TooLong kept line is has other = long_step line (is_skipped line) refl (long_cut (nat_le (length line) line_limit) is)

-- what a line asks for behind others
pub playable : (clock : Option ℕ) (before : List Asked) (line : List ℕ) (a : Asked) (moment : ℕ) → IsClock clock before → Asks line a
    → length (spelling a) ≤ line_limit → moment_at clock a ≡ Some moment → IsPlayable before line a
playable clock before line a moment is asks short set = record {
  short = subst (λ (l : List ℕ). length l ≤ line_limit) (sym asks.spelled) short;
  asks = asks;
  follows = may_follow clock before a moment is.is set;
}

-- a line that asks for something, as the next one
pub next_line : {D : Type 0} (seen : D → DiskSeen) (b : Begun D) (lines : List (List ℕ)) (script : Script) (s : Stored D) (p : PortSeen) (line : List ℕ)
    (a : Asked) (moment : ℕ) (so : SoFar seen b lines script s p) → Asks line a → MayComeNext lines line → moment_at script.clock a ≡ Some moment
    → IsNext (meaning b.setup) moment (size_of lines) (asked_after [] so.steps) a script.lines.items script.desks.items
next_line seen b lines script s p line a moment so asks may set =
    let same : length line ≡ length (spelling a) = ap length asks.spelled in
    let within = may.within in
    record {
      set = ap (λ (k : Option ℕ). moment_at k a) (sym so.between.clock.is) ∙ set;
      taken = so.between.taken;
      within = omega (arith, same, within);
      unbroken = subst (λ (l : List ℕ). list_any is_feed l ≡ false) asks.spelled may.unbroken;
    }
