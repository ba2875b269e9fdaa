-- Sessions are complete: they answer all that was read, or read no further than one piece ahead.
use Rattle.std.proofs.Common.{◌≡◌, ◌≤◌, ◌∷◌, ◌++◌, ℕ, List, take, length, refl, sym, ◌∙◌, ap, append_assoc, append-nil}
use Rattle.arc_io.specs.Added.{Added}
use Rattle.arc_io.specs.Seen.{PortSeen}
use Rattle.centre_core.specs.Halls.{HallSeen}
use Rattle.centre_rules.specs.Summary.{Summary}
use Rattle.centre_rules.specs.History.{Entry}
use Rattle.session_rules.specs.Reading.{IsNotAhead}
use Rattle.session_rules.specs.Turns.{Kind, Rules, pieces_of, text_of}
use Rattle.session_rules.specs.Sessions.{changed, Ending, answered, cut_off, stopped, IsComplete, IsEnd, IsSession}
use Rattle.session_rules.proofs.Appended.{pieces-append, text-append}
use Rattle.session_rules.proofs.Joined.{all_pieces}

module _ {T : Type 0} (kind : Kind T) (cut : List ℕ → List (List ℕ)) where
  -- a session that answered all
  pub all_complete : (read : List ℕ) {rules : Rules T} {b : Summary} {xs : List (List ℕ)} {h : List Entry} {hall hall' : HallSeen} {p p' : PortSeen} (s : IsSession kind rules answered b xs h (changed hall hall' p p'))
      → IsComplete kind cut answered read xs s.turns s.behind s.added.text
  all_complete read {rules} {b} {xs} {h} {hall} {hall'} {p} {p'} s = (all_pieces kind s, ap (λ (o : Added). o.text) s.ended.added)

  module _ (stream piece : List ℕ) (ts : List T) (short : length piece ≤ 4096) (whole : cut stream ≡ pieces_of kind ts) where
    not_ahead : (us : List T) → IsNotAhead cut (stream ++ piece) (pieces_of kind (ts ++ us))
    not_ahead us = record {
      early = stream;
      last = piece;
      more = pieces_of kind us;
      parts = refl;
      short = short;
      before = pieces-append kind ts us ∙ ap (λ (l : List (List ℕ)). l ++ pieces_of kind us) (sym whole);
    }

    text_more : (us : List T) (text : List ℕ) → text ≡ text_of kind us → text_of kind ts ++ text ≡ text_of kind (ts ++ us)
    text_more us text is = ap (λ (l : List ℕ). text_of kind ts ++ l) is ∙ sym (text-append kind ts us)

    -- all of a stream was answered, and then a session served what a short piece ends
    pub completes : (rules : Rules T) (end : Ending) (x : List Entry) (pieces : List (List ℕ)) (us behind : List T) (a : Added) (rest : List (List ℕ)) → IsEnd kind rules end x us behind a rest
        → pieces ≡ pieces_of kind (ts ++ us) ++ rest → IsComplete kind cut end (stream ++ piece) pieces (ts ++ us) behind (text_of kind ts ++ a.text)
    completes rules answered x pieces us behind a rest e taken = (
      taken ∙ ap (λ (l : List (List ℕ)). pieces_of kind (ts ++ us) ++ l) e.none_left ∙ append-nil (pieces_of kind (ts ++ us)),
      text_more us a.text (ap (λ (o : Added). o.text) e.added),
    )
    completes rules cut_off x pieces us behind a rest e taken =
        let part = take e.count (kind.adds e.last).text in (
          ts ++ e.front,
          e.last,
          part,
          ap (λ (l : List T). ts ++ l) e.split ∙ sym (append_assoc ts e.front (e.last ∷ behind)),
          ap (λ (o : Added). text_of kind ts ++ o.text) e.added ∙ sym (append_assoc (text_of kind ts) (text_of kind e.front) part)
              ∙ ap (λ (l : List ℕ). l ++ part) (sym (text-append kind ts e.front)),
          not_ahead e.front,
        )
    completes rules (stopped stop) x pieces us behind a rest e taken = (
      ts ++ e.front,
      ap (λ (l : List T). ts ++ l) e.split ∙ sym (append_assoc ts e.front behind),
      text_more e.front a.text (ap (λ (o : Added). o.text) e.added),
      not_ahead e.front,
    )
