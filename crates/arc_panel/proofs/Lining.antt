-- One line more of a panel's input: it was played, or it ended the playing.
use Rattle.std.proofs.Common.{◌≡◌, ◌<◌, ◌≤◌, ◌+◌, ℕ, List, [], ◌∷◌, ◌++◌, length, take, sym, ap, subst, ◌∙◌, arith}
use Rattle.std.specs.Io.KnownBytes.{append_known}
use Rattle.arc_io.proofs.KnownMore.{known_both}
use Rattle.arc_io.specs.Causes.{Rose}
use Rattle.arc_io.specs.Seen.{PortSeen}
use Rattle.panel_core.specs.Standing.{StandsFor}
use Rattle.panel_rules.specs.Panels.{Setting, Happening}
use Rattle.arc_panel.specs.Lines.{IsPlayable, moment_at}
use Rattle.arc_panel.specs.Playing.{Halts, SoFar}
use Rattle.arc_panel.specs.Texts.{line_of, text_of}
use Rattle.arc_panel.specs.declared.play.PanelEnd.TheVariants.{BadLine, Memory, WriteFault}
use Rattle.arc_panel.specs.declared.play.Player.{Player}
use Rattle.session_rules.proofs.Ports.{rose_since}
use Rattle.arc_panel.proofs.SaidLines.{said_last}

pub length_last : (xs : List (List ℕ)) (line : List ℕ) → length (xs ++ line ∷ []) ≡ length xs + 1
length_last [] line = omega arith
length_last (x ∷ xs) line = let rest = length_last xs line in omega (arith, rest)

module _ (s : Setting) (p : PortSeen) (lines : List (List ℕ)) (player : Player) (q : PortSeen) (so : SoFar s p lines player q) (line : List ℕ) where
  -- it was played
  pub goes_on : (x : Happening) (after : Player) (q' : PortSeen) (text : List ℕ) → IsPlayable so.history line x → StandsFor s (x ∷ so.history) after.panel
      → after.panel.stepped ≡ moment_at x player.panel.stepped → after.number ≡ player.number + 1 → text ≡ line_of s so.history x
      → q'.written ≡ append_known q.written text → q.write_faults ≤ q'.write_faults → SoFar s p (lines ++ line ∷ []) after q'
  goes_on x after q' text says stands at number text_is written later = record {
    history = x ∷ so.history;
    says_all = said_last [] lines line so.history x so.says_all says;
    stands = stands;
    at = at ∙ ap (moment_at x) so.at;
    counted = number ∙ ap (λ n. n + 1) so.counted ∙ sym (length_last lines line);
    output = written ∙ ap (append_known q.written) text_is ∙ ap (λ k. append_known k (line_of s so.history x)) so.output ∙ known_both p.written (text_of s so.history) (line_of s so.history x);
    writes = omega (arith, so.writes, later);
  }

  -- its output was cut off
  pub cut_off : (x : Happening) (q' : PortSeen) (text : List ℕ) (n : ℕ) → IsPlayable so.history line x → text ≡ line_of s so.history x → n < length text
      → q'.written ≡ append_known q.written (take n text) → Rose q.write_faults q'.write_faults → Halts s p lines line WriteFault q'
  cut_off x q' text n says text_is short written rose = record {
    history = so.history;
    says_all = so.says_all;
    halted = (
      rose_since p.write_faults q.write_faults q'.write_faults so.writes rose,
      (
        x,
        says,
        (
          n,
          subst (λ (l : List ℕ). n < length l) text_is short,
          written ∙ ap (λ l. append_known q.written (take n l)) text_is ∙ ap (λ k. append_known k (take n (line_of s so.history x))) so.output ∙ known_both p.written (text_of s so.history) (take n (line_of s so.history x)),
        ),
      ),
    );
  }

  -- it says nothing here
  pub bad : (number : ℕ) → number ≡ player.number + 1 → ((x : Happening) → IsPlayable so.history line x → ⊥) → Halts s p lines line (BadLine number) q
  bad number is wrong = record {
    history = so.history;
    says_all = so.says_all;
    halted = (is ∙ ap (λ n. n + 1) so.counted, wrong, so.output);
  }

  -- memory was wanted for it
  pub wanting : (x : Happening) → IsPlayable so.history line x → Halts s p lines line Memory q
  wanting x says = record { history = so.history; says_all = so.says_all; halted = ((x, says), so.output) }
