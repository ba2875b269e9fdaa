-- What a mailbox tells of its datagrams, and what its calls do to that.
use Rattle.std.specs.Prelude.{◌≡◌, ℕ, List, [], ◌∷◌, ◌++◌, map, take, false, Option, Some, None, Result}
use Rattle.std.specs.Prelude.{MatchOption, MatchResult, option_map}
use Rattle.arc_io.specs.Causes.{HasCause}
use Rattle.arc_io.specs.Seen.{PortSeen}

-- A mailbox is no stream: it tells no bytes that are left or were written, and no end.
pub record IsNoStream (p : PortSeen) : Type 0 where
  pub left : p.left ≡ None
  pub ended : p.ended ≡ false
  pub written : p.written ≡ None

-- no datagram is left, where the mailbox tells them
abbrev pub HasNoMail : Option (List (List ℕ)) → Type 0
HasNoMail None = Unit {0}
HasNoMail (Some left) = left ≡ []

-- the bytes that are given of a datagram: all, or the first 8,192 of more
abbrev pub given_of : List ℕ → List ℕ
given_of datagram = take 8192 datagram

-- the first datagrams left are given, of each these bytes
abbrev pub TakesMail : List (List ℕ) → Option (List (List ℕ)) → Option (List (List ℕ)) → Type 0
TakesMail given None after = after ≡ None
TakesMail given (Some left) after =
    (first : List (List ℕ)) × (rest : List (List ℕ)) × (left ≡ first ++ rest) × (given ≡ map given_of first) × (after ≡ Some rest)

-- a datagram is the next one left, none comes only where none is left, and then and at `Err` all stays
abbrev pub GivesMail : {E : Type 0} → Option (List (List ℕ)) → Option (List (List ℕ)) → Result (Option ℕ) E → List ℕ → Type 0
GivesMail before after r buf =
    MatchResult r (λ next. MatchOption next ((after ≡ before) × HasNoMail before) (λ n. TakesMail (take n buf ∷ []) before after))
    (λ _. after ≡ before)

-- these datagrams more were sent in reply
abbrev pub append_replies : Option (List (List ℕ)) → List (List ℕ) → Option (List (List ℕ))
append_replies told replies = option_map (λ sent. sent ++ replies) told

-- a call that receives a datagram, which leaves alone all but what is about receiving
pub record Receives {E : Type 0} (p p' : PortSeen) (result : Result (Option ℕ) E) (buf : List ℕ) : Type 0 where
  pub mail : GivesMail p.datagrams p'.datagrams result buf
  pub cause : HasCause p.read_faults p'.read_faults result
  pub rest : p' ≡ record p { datagrams = p'.datagrams; read_faults = p'.read_faults }

-- a call that sends a reply, as one datagram or not at all, and leaves alone all but what is about sending
pub record Sends {T E : Type 0} (p p' : PortSeen) (result : Result T E) (bytes : List ℕ) : Type 0 where
  pub sent : MatchResult result (λ _. p'.replies ≡ append_replies p.replies (bytes ∷ [])) (λ _. p'.replies ≡ p.replies)
  pub cause : HasCause p.write_faults p'.write_faults result
  pub rest : p' ≡ record p { replies = p'.replies; write_faults = p'.write_faults }
