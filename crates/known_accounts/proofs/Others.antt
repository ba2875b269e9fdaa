-- A mark that names one account leaves what is known of the others.
use Rattle.std.proofs.Common.{◌≡◌, ◌∙◌, ℕ, List, Bool, true, false, cond, Some, refl, ap}
use Rattle.std.specs.Prelude.{◌&&◌, ◌||◌, Option}
use Rattle.std.specs.Str.{bytes_eq}
use Rattle.arc_data.specs.declared.incident.Opened.{Opened}
use Rattle.arc_data.specs.declared.signal.Kind.{Kind}
use Rattle.arc_data.specs.declared.signal.Kind.TheVariants.{Opening, Closing}
use Rattle.arc_data.specs.Classes.{same_class}
use Rattle.arc_data.specs.declared.event.Message.{Message}
use Rattle.arc_data.specs.declared.signal.Class.TheVariants.{CommFail, LateClose}
use Rattle.known_accounts.specs.Rows.{RowsValue, row_in, Marked}
use Rattle.centre_rules.specs.Marks.{Hears, Sends, Carries, Carried, opening_by, is_raised}
use Rattle.known_accounts.specs.Supervised.{KeepsOthers, moves_by, moves_deadlines}

pub heard_others : (account : List ℕ) (at : ℕ) (v w : RowsValue) → Marked (Hears account at) v w → KeepsOthers account v w
heard_others account at v w marked = record {
  heard = λ a other. marked.heard a ∙ ap (λ b. cond b (Some at) (row_in v a).heard) other;
  failed = λ a other. marked.failed a ∙ ap (λ b. cond b false (row_in v a).failed) other;
  opening = λ a other. marked.opening a;
}

pub sent_others : (m : Message) (at : ℕ) (v w : RowsValue) → Marked (Sends m at) v w → KeepsOthers m.account v w
sent_others m at v w marked = record {
  heard = λ a other. marked.heard a ∙ ap (λ b. cond b (Some at) (row_in v a).heard) other;
  failed = λ a other. marked.failed a ∙ ap (λ b. cond b false (row_in v a).failed) other;
  opening = λ a other. marked.opening a;
}

none_raised : (p q r : Bool) → ((p && q && false) || r) ≡ r
none_raised true true r = refl
none_raised true false r = refl
none_raised false q r = refl

pub carried_others : (x : Carried) (v w : RowsValue) → Marked (Carries x) v w → KeepsOthers x.account v w
carried_others x v w marked = record {
  heard = λ a other. marked.heard a;
  failed = λ a other.
      marked.failed a ∙ ap (λ b. (x.by_tick && same_class x.signal.class CommFail && b) || (row_in v a).failed) other
      ∙ none_raised x.by_tick (same_class x.signal.class CommFail) (row_in v a).failed;
  opening = λ a other.
      marked.opening a
      ∙ ap (λ b. cond b (opening_by x.signal.kind x.at (is_raised a LateClose x) (row_in v a).opening) (row_in v a).opening) other;
}

-- A signal that moves no deadline leaves what is known of its account, too.

unraised : (kind : Kind) (by_tick q r before : Bool) → moves_by kind by_tick ≡ false → ((by_tick && q && r) || before) ≡ before
unraised kind false q r before still = refl
unraised Opening true q r before still = absurd (cc)
unraised Closing true q r before still = absurd (cc)
unraised kind true q r before still = absurd (cc)

unopened : (kind : Kind) (by_tick q r b : Bool) (at : ℕ) (before : Option Opened) → moves_by kind by_tick ≡ false
    → cond b (opening_by kind at (by_tick && q && r) before) before ≡ before
unopened Opening by_tick q r b at before still = absurd (cc)
unopened Closing by_tick q r b at before still = absurd (cc)
unopened kind true q r b at before still = absurd (cc)
unopened kind false q r true at before still = refl
unopened kind false q r false at before still = refl

module _ (x : Carried) (v w : RowsValue) (marked : Marked (Carries x) v w) (still : moves_deadlines x ≡ false) where
  pub failed_alike : (a : List ℕ) → (row_in w a).failed ≡ (row_in v a).failed
  failed_alike a =
      marked.failed a
      ∙ unraised x.signal.kind x.by_tick (same_class x.signal.class CommFail) (bytes_eq x.account a) (row_in v a).failed still

  pub opening_alike : (a : List ℕ) → (row_in w a).opening ≡ (row_in v a).opening
  opening_alike a =
      marked.opening a
      ∙ unopened x.signal.kind x.by_tick (same_class x.signal.class LateClose) (bytes_eq x.account a) (bytes_eq x.account a) x.at
      (row_in v a).opening still
