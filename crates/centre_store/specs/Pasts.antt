-- The history over a summary for which a list of bodies stands, and where a list stands for none.
use Rattle.std.specs.Prelude.{◌≡◌, ◌≤◌, ◌+◌, ◌^◌, ℕ, List, [], ◌∷◌, ◌++◌, true, length, Option}
use Rattle.std.specs.List.{AllByRecursion}
use Rattle.centre_rules.specs.Summary.{Summary}
use Rattle.centre_rules.specs.History.{Entry, is_recorded}
use Rattle.centre_rules.specs.Answers.{IsLegal}
use Rattle.centre_rules.specs.State.{State, StandsFor}
use Rattle.disk_journal.specs.Records.{front as bytes_before}
use Rattle.disk_journal.specs.Standing.{all_of}
use Rattle.event_codec.specs.Spelling.{HasSpelling}
use Rattle.centre_store.specs.Bodies.{bodies_in, AreNamedIn}

-- an entry that a journal has: made under the number 0, recorded, and with a spelling
pub record IsKept (e : Entry) : Type 0 where
  pub caller : e.caller ≡ 0
  pub recorded : is_recorded e.reply ≡ true
  pub spelled : HasSpelling e.event e.at

abbrev pub AreKept : List Entry → Type 0
AreKept h = AllByRecursion IsKept h

-- The bodies are those in a version of this history over a summary: a legal one, of at most 2^48 entries with those of the summary, that
-- has no quiet one. So each body is a spelling, each reply is the answer after the entries before it, and no moment is less than the one
-- before.
pub record IsPast (version : ℕ) (base : Summary) (bodies : List (List ℕ)) (h : List Entry) : Type 0 where
  pub legal : IsLegal base h
  pub kept : AreKept h
  pub named : AreNamedIn version h
  pub few : base.recorded + length h ≤ 2 ^ 48
  pub is : bodies ≡ bodies_in version h

-- no entry goes on from this past with this body
abbrev pub HasNoNext : ℕ → Summary → List (List ℕ) → List Entry → List ℕ → Type 0
HasNoNext version base front past body = (e : Entry) → IsPast version base (front ++ body ∷ []) (e ∷ past) → ⊥

-- Of the bodies behind what stands first, the first ones have a past, and no entry goes on from it with the next one. Its gate stands at
-- this place.
pub record IsBadAt (version : ℕ) (base : Summary) (first : Option (List ℕ)) (bodies : List (List ℕ)) (place : ℕ) : Type 0 where
  pub front : List (List ℕ)
  pub body : List ℕ
  pub behind : List (List ℕ)
  pub past : List Entry
  pub split : bodies ≡ front ++ body ∷ behind
  pub before : IsPast version base front past
  pub at : place ≡ length (bytes_before version (all_of first front))
  pub broken : HasNoNext version base front past body

-- the centre is that of these bodies over the summary
pub record IsReplayed (version : ℕ) (base : Summary) (bodies : List (List ℕ)) (s : State) : Type 0 where
  pub past : List Entry
  pub is_past : IsPast version base bodies past
  pub stands : StandsFor base s past
