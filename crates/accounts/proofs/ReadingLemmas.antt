-- One line after another.
use Rattle.std.proofs.Common.{◌≡◌, ◌+◌, ℕ, List, [], ◌∷◌, ◌++◌, Some, None, inl, inr, map, refl, sym, ap, ◌∙◌, append_assoc, append-nil}
use Rattle.std.specs.Prelude.{◌⊎◌}
use Rattle.std.specs.List.{enumerate_from}
use Rattle.std.specs.Option.{option_or}
use Rattle.std.specs.Str.Lines.{lines}
use Rattle.arc_data.specs.declared.setup_fault.SetupFault.{SetupFault}
use Rattle.arc_data.specs.declared.setup_fault.SetupFault.TheVariants.{Memory}
use Rattle.alarm_rules.specs.SetupLines.{says}
use Rattle.alarm_rules.specs.Setups.{Line, said_lines, fault_at, first_fault}
use Rattle.accounts.specs.declared.table.Table.{Table}
use Rattle.accounts.specs.Standing.{Stands}

-- what the lines of a text say, from a number on
abbrev said_from : ℕ → List ℕ → List Line
said_from number rest = enumerate_from number (map says (lines rest))

-- The lines of a text that are read, with those that are left, and what they declare.
pub record HasRead (text rest : List ℕ) (number : ℕ) (table : Table) : Type 0 where
  pub earlier : List Line
  pub whole : said_lines text ≡ earlier ++ said_from (number + 1) rest
  pub faults : first_fault [] (said_lines text) ≡ first_fault earlier (said_from (number + 1) rest)
  pub stands : Stands earlier table

pub nothing-read : (text : List ℕ) → HasRead text text 0 (record { accounts = []; plans = []; operators = []; lapse = None })
nothing-read text = record {
  earlier = [];
  whole = refl;
  faults = refl;
  stands = record {
    accounts = refl;
    plans = refl;
    operators = refl;
    lapse = refl;
    silent = λ number none. record { windows = refl; keyholders = refl; plans = refl };
  };
}

module _ (text rest : List ℕ) (number : ℕ) (table : Table) (read : HasRead text rest number table) where
  -- at the end
  pub all-faults : lines rest ≡ [] → first_fault [] (said_lines text) ≡ None
  unfolding first_fault
  all-faults none = read.faults ∙ ap (λ ls. first_fault read.earlier (enumerate_from (number + 1) (map says ls))) none

  pub all-stands : lines rest ≡ [] → Stands (said_lines text) table
  all-stands none =
      let same : said_lines text ≡ read.earlier =
      read.whole ∙ ap (λ ls. read.earlier ++ enumerate_from (number + 1) (map says ls)) none ∙ append-nil read.earlier in
      rw same read.stands

  module _ (line after : List ℕ) (cut : lines rest ≡ line ∷ lines after) where
    abbrev this : Line
    this = (number + 1, says line)

    faults-cut : first_fault [] (said_lines text) ≡ option_or (fault_at read.earlier this) (first_fault (read.earlier ++ this ∷ []) (said_from (number + 1 + 1) after))
    unfolding first_fault
    faults-cut = read.faults ∙ ap (λ ls. first_fault read.earlier (enumerate_from (number + 1) (map says ls))) cut

    -- a faulty line
    pub first-fault : (fault : SetupFault) → (fault ≡ Memory) ⊎ ((ls : List Line) → Stands ls table → fault_at ls this ≡ Some fault)
        → (fault ≡ Memory) ⊎ (first_fault [] (said_lines text) ≡ Some fault)
    first-fault fault (inl memory) = inl memory
    first-fault fault (inr faulty) =
        inr (faults-cut ∙ ap (λ f. option_or f (first_fault (read.earlier ++ this ∷ []) (said_from (number + 1 + 1) after))) (faulty read.earlier read.stands))

    -- a line without a fault
    pub one-read : (new : Table) → ((ls : List Line) → Stands ls table → (fault_at ls this ≡ None) × Stands (ls ++ this ∷ []) new) → HasRead text after (number + 1) new
    one-read new taken =
        let took = taken read.earlier read.stands in
        record {
          earlier = read.earlier ++ this ∷ [];
          whole =
              read.whole ∙ ap (λ ls. read.earlier ++ enumerate_from (number + 1) (map says ls)) cut
              ∙ sym (append_assoc read.earlier (this ∷ []) (said_from (number + 1 + 1) after));
          faults = faults-cut ∙ ap (λ f. option_or f (first_fault (read.earlier ++ this ∷ []) (said_from (number + 1 + 1) after))) took.0;
          stands = took.1;
        }
