-- What turns add, and ends, behind turns that were answered.
use Rattle.std.proofs.Common.{◌≡◌, ◌∷◌, ◌++◌, ℕ, List, [], take, sym, ◌∙◌, ap, append_assoc}
use Rattle.std.specs.Prelude.{reverse}
use Rattle.std.specs.Option.{option_to_list}
use Rattle.std.proofs.lemmas.List.{reverse-append, map-append}
use Rattle.std.proofs.lemmas.Grind.{flat_map-append}
use Rattle.arc_io.specs.Added.{Added, both}
use Rattle.centre_rules.specs.History.{Entry}
use Rattle.session_rules.specs.Turns.{Kind, Rules, pieces_of, entries_of, text_of, readings_of, noise_of, added_by}
use Rattle.session_rules.specs.Sessions.{Ending, answered, cut_off, stopped, AnswersAll, IsCutOff, IsStopped, IsEnd}

module _ {T : Type 0} (kind : Kind T) where
  pub pieces-append : (ts us : List T) → pieces_of kind (ts ++ us) ≡ pieces_of kind ts ++ pieces_of kind us
  pieces-append ts us = map-append kind.asked ts us

  pub text-append : (ts us : List T) → text_of kind (ts ++ us) ≡ text_of kind ts ++ text_of kind us
  text-append ts us = flat_map-append (λ (t : T). (kind.adds t).text) ts us

  pub readings-append : (ts us : List T) → readings_of kind (ts ++ us) ≡ readings_of kind ts ++ readings_of kind us
  readings-append ts us = flat_map-append (λ (t : T). (kind.adds t).readings) ts us

  pub noise-append : (ts us : List T) → noise_of kind (ts ++ us) ≡ noise_of kind ts ++ noise_of kind us
  noise-append ts us = flat_map-append (λ (t : T). (kind.adds t).noise) ts us

  added-append : (ts us : List T) → both (added_by kind ts) (added_by kind us) ≡ added_by kind (ts ++ us)
  added-append ts us = λ i. record { text = sym (text-append ts us) i; readings = sym (readings-append ts us) i; noise = sym (noise-append ts us) i }

  all_more : (ts us behind : List T) (a : Added) (rest : List (List ℕ)) → AnswersAll kind us behind a rest → AnswersAll kind (ts ++ us) behind (both (added_by kind ts) a) rest
  all_more ts us behind a rest e = record { added = ap (both (added_by kind ts)) e.added ∙ added-append ts us; none_behind = e.none_behind; none_left = e.none_left }

  cut_more : (ts us behind : List T) (a : Added) → IsCutOff kind us behind a → IsCutOff kind (ts ++ us) behind (both (added_by kind ts) a)
  cut_more ts us behind a e =
      let sent = take e.count (kind.adds e.last).text in
      record {
        front = ts ++ e.front;
        last = e.last;
        count = e.count;
        split = ap (λ (l : List T). ts ++ l) e.split ∙ sym (append_assoc ts e.front (e.last ∷ behind));
        short = e.short;
        added =
            ap (both (added_by kind ts)) e.added
            ∙ (λ i. record {
              text = (sym (append_assoc (text_of kind ts) (text_of kind e.front) sent) ∙ ap (λ (l : List ℕ). l ++ sent) (sym (text-append ts e.front))) i;
              readings = sym (readings-append ts us) i;
              noise = (sym (noise-append ts (e.front ++ e.last ∷ [])) ∙ ap (noise_of kind) (sym (append_assoc ts e.front (e.last ∷ [])))) i;
            });
      }

  stopped_more : (IsCause : List ℕ → ℕ → Type 0) (ts us behind : List T) (a : Added) (rest : List (List ℕ)) → IsStopped kind IsCause us behind a rest
      → IsStopped kind IsCause (ts ++ us) behind (both (added_by kind ts) a) rest
  stopped_more IsCause ts us behind a rest e = record {
    front = ts ++ e.front;
    piece = e.piece;
    more = e.more;
    reading = e.reading;
    split = ap (λ (l : List T). ts ++ l) e.split ∙ sym (append_assoc ts e.front behind);
    next = e.next;
    added =
        ap (both (added_by kind ts)) e.added
        ∙ (λ i. record {
          text = sym (text-append ts e.front) i;
          readings = (sym (append_assoc (readings_of kind ts) (readings_of kind us) (e.reading ∷ [])) ∙ ap (λ (l : List ℕ). l ++ e.reading ∷ []) (sym (readings-append ts us))) i;
          noise = sym (noise-append ts e.front) i;
        });
    cause = e.cause;
  }

  -- an end of later turns, as that of all
  pub ends_more : (rules : Rules T) (end : Ending) (x : List Entry) (ts us behind : List T) (a : Added) (rest : List (List ℕ)) → IsEnd kind rules end x us behind a rest
      → IsEnd kind rules end x (ts ++ us) behind (both (added_by kind ts) a) rest
  ends_more rules answered x ts us behind a rest e = all_more ts us behind a rest e
  ends_more rules cut_off x ts us behind a rest e = cut_more ts us behind a e
  ends_more rules (stopped stop) x ts us behind a rest e = stopped_more (rules.is_cause x stop) ts us behind a rest e

  pub own_more : (ts us : List T) (own : List Entry) → reverse (entries_of kind us) ++ (reverse (entries_of kind ts) ++ own) ≡ reverse (entries_of kind (ts ++ us)) ++ own
  own_more ts us own =
      sym (append_assoc (reverse (entries_of kind us)) (reverse (entries_of kind ts)) own)
      ∙ ap (λ (l : List Entry). l ++ own) (sym (reverse-append (entries_of kind ts) (entries_of kind us)) ∙ ap reverse (sym (flat_map-append (λ (t : T). option_to_list (kind.entry t)) ts us)))
