-- What is counted over a script.
use Rattle.std.specs.Prelude.{◌≡◌, ◌+◌, ◌-◌, ◌^◌, min, ℕ, List, [], ◌∷◌, Bool, true, false, filter, length}
use Rattle.std.specs.List.{flat_map}
use Rattle.arc_data.specs.declared.reply.Reply.{Reply}
use Rattle.arc_data.specs.declared.reply.Reply.TheVariants.{Repeat}
use Rattle.arc_data.specs.declared.reply.Reply.TheVariants.{Closed}
use Rattle.centre_rules.specs.Cases.{opened, incidents}
use Rattle.centre_rules.specs.History.{Entry, marks, recorded}
use Rattle.centre_rules.specs.Summary.{Summary}
use Rattle.arc_script.specs.Steps.{Step, base_after}
use Rattle.arc_script.specs.declared.script_end.Tally.{Tally}

abbrev pub is_repeat : Reply → Bool
is_repeat (Repeat first) = true
is_repeat other = false

abbrev pub is_closed : Reply → Bool
is_closed (Closed number) = true
is_closed other = false

-- how many entries have such a reply
abbrev pub count_of : (Reply → Bool) → List Entry → ℕ
count_of test entries = length (filter (λ e. test e.reply) entries)

-- the entries that steps added, the oldest first
abbrev pub entries_of : List Step → List Entry
entries_of steps = flat_map (λ s. s.entries) steps

-- how many whole frames they fed
abbrev pub sent_by : List Step → ℕ
sent_by [] = 0
sent_by (s ∷ steps) = s.sent + sent_by steps

-- a count stands still at the last value of u64
abbrev pub told : ℕ → ℕ
told count = min count (2 ^ 64 - 1)

-- the sum of a count that was so far
abbrev pub GrowsBy : ℕ → ℕ → ℕ → Type 0
GrowsBy more t t' = (n : ℕ) → t ≡ told n → t' ≡ told (n + more)

-- The tally of steps from a past over a summary on, to a history over the summary behind them: the frames that were fed, the replies Repeat
-- and the replies Closed of the steps, and the incidents that were opened; and of the history at the end its recorded entries, those of its
-- summary counted, and its open incidents.
pub record IsTally (base : Summary) (past : List Entry) (steps : List Step) (x : List Entry) (t : Tally) : Type 0 where
  pub sent : t.sent ≡ told (sent_by steps)
  pub repeats : t.repeats ≡ told (count_of is_repeat (entries_of steps))
  pub closed : t.closed ≡ told (count_of is_closed (entries_of steps))
  pub opened : t.opened ≡ opened (base_after base steps) (marks (base_after base steps) x) - opened base (marks base past)
  pub recorded : t.recorded ≡ (base_after base steps).recorded + length (recorded x)
  pub total : t.total ≡ length (incidents (base_after base steps) (marks (base_after base steps) x))

-- of a script whose journal was not opened
abbrev pub no_tally : Tally
no_tally = record { sent = 0; repeats = 0; recorded = 0; opened = 0; closed = 0; total = 0 }
