-- Sessions over a mailbox, one datagram behind the other.
use Rattle.std.proofs.Common.{◌≡◌, ◌≤◌, ◌∷◌, ◌++◌, ℕ, List, [], map, length, Option, Some, None, Ok, Err, refl, sym, ◌∙◌, ap, subst, append_assoc, append-nil}
use Rattle.std.specs.Prelude.{reverse}
use Rattle.std.specs.Io.KnownBytes.{append_known}
use Rattle.std.proofs.lemmas.Grind.{flat_map-append}
use Rattle.std.proofs.lemmas.List.{map-append}
use Rattle.std.proofs.lemmas.List.Elements.{filter-append}
use Rattle.alarm_rules.specs.Setups.{meaning}
use Rattle.arc_doors.specs.Mails.{TakesMail, append_replies, given_of, IsNoStream}
use Rattle.arc_io.specs.Added.{Added}
use Rattle.arc_io.specs.Causes.{Rose}
use Rattle.arc_io.specs.Seen.{PortSeen}
use Rattle.arc_io.proofs.KnownMore.{known_none, known_both}
use Rattle.centre_core.proofs.OnDisk.{disk_stays, disk_then}
use Rattle.centre_core.specs.Halls.{HallSeen, IsKept}
use Rattle.centre_rules.specs.Summary.{Summary}
use Rattle.centre_rules.specs.History.{Entry}
use Rattle.centre_rules.specs.Answers.{IsLegal}
use Rattle.dc09_frame.specs.Frames.{bodies}
use Rattle.session_rules.specs.Turns.{Rules, pieces_of, entries_of, readings_of, noise_of, text_of}
use Rattle.session_rules.specs.Sessions.{changed, Ending, answered, AnswersAll, IsEnd, IsUnstopped}
use Rattle.session_rules.proofs.Appended.{readings-append, noise-append, own_more}
use Rattle.session_rules.proofs.Joined.{ends_under}
use Rattle.line_session.specs.Sessions.{IsLine, line_rules}
use Rattle.line_session.specs.Turns.{Turn, line_turns, AreTurns}
use Rattle.line_session.proofs.Followed.{line_follows}
use Rattle.udp_line.specs.Datagrams.{AnswersDatagram, EndsDatagram, FeedsDatagram, has_bytes, sent_for, udp_name}
use Rattle.udp_line.specs.Mails.{Datagram, HasEnded, MailAdded, ServesMail, IsMailEnd, AnswersEach, IsUnsent, LacksLast, replies_to, turns_of, IsUnhalted}
use Rattle.udp_line.specs.declared.mail_end.MailEnd.{MailEnd}
use Rattle.udp_line.specs.declared.mail_end.MailEnd.TheVariants.{Quota, Ended, ReadFault, WriteFault, Stopped}

-- What a session over a mailbox has done between two datagrams.
pub record SoFar (n : ℕ) (hall hall' : HallSeen) (p p' : PortSeen) : Type 0 where
  pub given : List (List ℕ)
  pub taken : TakesMail given p.datagrams p'.datagrams
  pub count : length given ≡ n
  pub reads : p.read_faults ≤ p'.read_faults
  pub writes : p.write_faults ≤ p'.write_faults
  pub session : (b : Summary) (h : List Entry) → hall.stands b h → ServesMail Quota given b h hall hall' p p'

pub replies_none : (told : Option (List (List ℕ))) → append_replies told [] ≡ told
replies_none None = refl
replies_none (Some sent) = ap Some (append-nil sent)

pub replies_both : (told : Option (List (List ℕ))) (xs ys : List (List ℕ)) → append_replies (append_replies told xs) ys ≡ append_replies told (xs ++ ys)
replies_both None xs ys = refl
replies_both (Some sent) xs ys = ap Some (append_assoc sent xs ys)

pub takes_none : (told : Option (List (List ℕ))) → TakesMail [] told told
takes_none None = refl
takes_none (Some left) = ([], left, refl, refl, refl)

-- some datagrams, and then one more
pub takes_more : (given : List (List ℕ)) (bytes : List ℕ) (before mid after : Option (List (List ℕ))) → TakesMail given before mid → TakesMail (bytes ∷ []) mid after → TakesMail (given ++ bytes ∷ []) before after
takes_more given bytes None mid after first next = subst (λ (o : Option (List (List ℕ))). TakesMail (bytes ∷ []) o after) first next
takes_more given bytes (Some left) mid after first next =
    let n = subst (λ (o : Option (List (List ℕ))). TakesMail (bytes ∷ []) o after) first.4 next in (
      first.0 ++ n.0,
      n.1,
      first.2 ∙ ap (λ (l : List (List ℕ)). first.0 ++ l) n.2 ∙ sym (append_assoc first.0 n.0 n.1),
      ap (λ (l : List (List ℕ)). l ++ bytes ∷ []) first.3 ∙ ap (λ (l : List (List ℕ)). map given_of first.0 ++ l) n.3 ∙ sym (map-append given_of first.0 n.0),
      n.4,
    )

-- all turns of some datagrams, and of one more
turns_more : (ds : List Datagram) (d : Datagram) → turns_of (ds ++ d ∷ []) ≡ turns_of ds ++ d.turns
turns_more ds d = flat_map-append (λ (o : Datagram). o.turns) ds (d ∷ []) ∙ ap (λ (l : List Turn). turns_of ds ++ l) (append-nil d.turns)

-- the replies to some datagrams, and to one more
sent_more : (ds : List Datagram) (d : Datagram) → replies_to (ds ++ d ∷ []) ≡ replies_to ds ++ sent_for (text_of line_turns d.turns ∷ [])
sent_more ds d =
    let text_for : Datagram → List ℕ = λ o. text_of line_turns o.turns in
    ap sent_for (map-append text_for ds (d ∷ [])) ∙ filter-append has_bytes (map text_for ds) (text_for d ∷ [])

readings_more : (ds : List Datagram) (d : Datagram) → readings_of line_turns (turns_of (ds ++ d ∷ [])) ≡ readings_of line_turns (turns_of ds) ++ readings_of line_turns d.turns
readings_more ds d = ap (readings_of line_turns) (turns_more ds d) ∙ readings-append line_turns (turns_of ds) d.turns

noise_more : (ds : List Datagram) (d : Datagram) → noise_of line_turns (turns_of (ds ++ d ∷ [])) ≡ noise_of line_turns (turns_of ds) ++ noise_of line_turns d.turns
noise_more ds d = ap (noise_of line_turns) (turns_more ds d) ∙ noise-append line_turns (turns_of ds) d.turns

-- member by member
told_by : (p r : PortSeen) (a : MailAdded) → r.left ≡ p.left → r.ended ≡ p.ended → r.written ≡ p.written → r.readings ≡ append_known p.readings a.readings → r.noise ≡ append_known p.noise a.noise
    → r.replies ≡ append_replies p.replies a.replies → r ≡ record p {
      read_faults = r.read_faults;
      write_faults = r.write_faults;
      readings = append_known p.readings a.readings;
      noise = append_known p.noise a.noise;
      datagrams = r.datagrams;
      replies = append_replies p.replies a.replies;
    }
told_by p r a left ended written readings noise replies = λ i. record {
  left = left i;
  ended = ended i;
  read_faults = r.read_faults;
  written = written i;
  write_faults = r.write_faults;
  readings = readings i;
  noise = noise i;
  datagrams = r.datagrams;
  replies = replies i;
}

-- no datagram
pub serves_none : (b : Summary) (h : List Entry) (hall : HallSeen) (p : PortSeen) → hall.stands b h → IsLegal b h → ServesMail Quota [] b h hall hall p p
serves_none b h hall p s legal = record {
  datagrams = [];
  history = h;
  added = record { replies = []; readings = []; noise = [] };
  bytes = refl;
  each = ([], refl);
  holds = s;
  legal = legal;
  own = refl;
  disk = disk_stays;
  up = λ _ u. u;
  told = told_by p p (record { replies = []; readings = []; noise = [] }) refl refl refl (sym (known_none p.readings)) (sym (known_none p.noise)) (sym (replies_none p.replies));
  ended = record { whole = refl; replies = refl; readings = refl; noise = refl };
}

-- of one more datagram that was answered to its end, the whole pieces are those of its turns
whole_more : (ds : List Datagram) (d : Datagram) → map (λ (o : Datagram). bodies o.bytes) ds ≡ map (λ (o : Datagram). pieces_of line_turns o.turns) ds → bodies d.bytes ≡ pieces_of line_turns d.turns
    → map (λ (o : Datagram). bodies o.bytes) (ds ++ d ∷ []) ≡ map (λ (o : Datagram). pieces_of line_turns o.turns) (ds ++ d ∷ [])
whole_more ds d whole one =
    map-append (λ (o : Datagram). bodies o.bytes) ds (d ∷ []) ∙ ap (λ (l : List (List (List ℕ))). l ++ bodies d.bytes ∷ []) whole
    ∙ ap (λ (l : List (List ℕ)). map (λ (o : Datagram). pieces_of line_turns o.turns) ds ++ l ∷ []) one
    ∙ sym (map-append (λ (o : Datagram). pieces_of line_turns o.turns) ds (d ∷ []))

-- a line that answered all
all_of : (rules : Rules Turn) (e : Ending) (x : List Entry) (turns others : List Turn) (line : Added) (left : List (List ℕ)) → e ≡ answered → IsEnd line_turns rules e x turns others line left
    → AnswersAll line_turns turns others line left
all_of rules e x turns others line left is ended = subst (λ (o : Ending). IsEnd line_turns rules o x turns others line left) is ended

-- one that answered all was not stopped
unstopped : (e : Ending) → e ≡ answered → IsUnstopped e
unstopped e is = subst IsUnstopped (sym is) tt

module _ (b : Summary) (h : List Entry) {given : List (List ℕ)} {hall mid : HallSeen} {p q : PortSeen} where
  -- the same datagrams, and then a call of `receive`
  pub serves_read : (end : MailEnd) {r : PortSeen} → ((x : List Entry) (ds : List Datagram) (a : MailAdded) → AnswersEach ds a → IsMailEnd end b hall mid x ds a) → r ≡ record q { datagrams = r.datagrams; read_faults = r.read_faults }
      → ServesMail Quota given b h hall mid p q → ServesMail end given b h hall mid p r
  serves_read end {r} ends rest s = record {
    datagrams = s.datagrams;
    history = s.history;
    added = s.added;
    bytes = s.bytes;
    each = s.each;
    holds = s.holds;
    legal = s.legal;
    own = s.own;
    disk = s.disk;
    up = λ _. s.up tt;
    told = told_by p r s.added
        (ap (λ (x : PortSeen). x.left) rest ∙ ap (λ (x : PortSeen). x.left) s.told)
        (ap (λ (x : PortSeen). x.ended) rest ∙ ap (λ (x : PortSeen). x.ended) s.told)
        (ap (λ (x : PortSeen). x.written) rest ∙ ap (λ (x : PortSeen). x.written) s.told)
        (ap (λ (x : PortSeen). x.readings) rest ∙ ap (λ (x : PortSeen). x.readings) s.told)
        (ap (λ (x : PortSeen). x.noise) rest ∙ ap (λ (x : PortSeen). x.noise) s.told)
        (ap (λ (x : PortSeen). x.replies) rest ∙ ap (λ (x : PortSeen). x.replies) s.told);
    ended = ends s.history s.datagrams s.added s.ended;
  }

  module _ (bytes : List ℕ) {hall' : HallSeen} {q' r : PortSeen} (kept : IsKept hall mid) (none : IsNoStream p) (none' : IsNoStream r) (rest : q' ≡ record q { datagrams = q'.datagrams; read_faults = q'.read_faults }) where
    -- one more datagram, of which this was sent, by an end of all
    behind : (end : MailEnd) (e : Ending) {fed : PortSeen} (sent : List (List ℕ)) (s : ServesMail Quota given b h hall mid p q) (one : IsLine udp_name e b (bodies bytes) s.history (changed mid hall' q' fed))
        → r ≡ record fed { replies = r.replies; write_faults = r.write_faults } → r.replies ≡ append_replies fed.replies sent
        → (IsUnhalted end → IsUnstopped e)
        → IsMailEnd end b hall hall' one.history (s.datagrams ++ record { bytes = bytes; turns = one.turns } ∷ []) (record {
          replies = s.added.replies ++ sent;
          readings = s.added.readings ++ one.added.readings;
          noise = s.added.noise ++ one.added.noise;
        }) → ServesMail end (given ++ bytes ∷ []) b h hall hall' p r
    behind end e {fed} sent s one only replies going ended =
        let d : Datagram = record { bytes = bytes; turns = one.turns } in
        let same = turns_more s.datagrams d in
        record {
          datagrams = s.datagrams ++ d ∷ [];
          history = one.history;
          added = record { replies = s.added.replies ++ sent; readings = s.added.readings ++ one.added.readings; noise = s.added.noise ++ one.added.noise };
          bytes = ap (λ (l : List (List ℕ)). l ++ bytes ∷ []) s.bytes ∙ sym (map-append (λ (o : Datagram). o.bytes) s.datagrams (d ∷ []));
          each = subst (AreTurns udp_name b (meaning hall.text) hall.caller h one.history) (sym same)
              ((line_follows udp_name b kept (s.up tt) hall' h).turns s.history one.history (turns_of s.datagrams) one.turns s.each one.each);
          holds = one.holds;
          legal = one.legal;
          own =
              one.own ∙ ap (λ (l : List Entry). reverse (entries_of line_turns one.turns) ++ l) s.own ∙ own_more line_turns (turns_of s.datagrams) one.turns (hall.own h)
              ∙ ap (λ (ts : List Turn). reverse (entries_of line_turns ts) ++ hall.own h) (sym same);
          disk = disk_then s.disk one.disk;
          up = λ unhalted u. one.up (going unhalted) (s.up tt u);
          told = told_by p r (record { replies = s.added.replies ++ sent; readings = s.added.readings ++ one.added.readings; noise = s.added.noise ++ one.added.noise })
              (none'.left ∙ sym none.left) (none'.ended ∙ sym none.ended) (none'.written ∙ sym none.written)
              (ap (λ (x : PortSeen). x.readings) only ∙ ap (λ (x : PortSeen). x.readings) one.adds.told
              ∙ ap (λ (x : PortSeen). append_known x.readings one.added.readings) (rest ∙ ap (λ (x : PortSeen). record x { datagrams = q'.datagrams; read_faults = q'.read_faults }) s.told)
              ∙ known_both p.readings s.added.readings one.added.readings)
              (ap (λ (x : PortSeen). x.noise) only ∙ ap (λ (x : PortSeen). x.noise) one.adds.told
              ∙ ap (λ (x : PortSeen). append_known x.noise one.added.noise) (rest ∙ ap (λ (x : PortSeen). record x { datagrams = q'.datagrams; read_faults = q'.read_faults }) s.told)
              ∙ known_both p.noise s.added.noise one.added.noise)
              (replies
              ∙ ap (λ (o : Option (List (List ℕ))). append_replies o sent) (ap (λ (x : PortSeen). x.replies) one.adds.told ∙ ap (λ (x : PortSeen). x.replies) rest ∙ ap (λ (x : PortSeen). x.replies) s.told)
              ∙ replies_both p.replies s.added.replies sent);
          ended = ended;
        }

    -- one more datagram, whose reply was sent or not owed
    pub serves_on : (s : ServesMail Quota given b h hall mid p q) → AnswersDatagram (Ok tt) bytes b s.history mid hall' q' r → ServesMail Quota (given ++ bytes ∷ []) b h hall hall' p r
    serves_on s one =
        let line = one.session in
        let all = all_of (line_rules udp_name b mid hall') one.end line.history line.turns line.behind line.added line.left one.sends.0 line.ended in
        let ds = s.datagrams in
        let d : Datagram = record { bytes = bytes; turns = line.turns } in
        behind Quota one.end (sent_for (line.added.text ∷ [])) s line one.only one.sends.1 (λ _. unstopped one.end one.sends.0) (record {
          whole = whole_more ds d s.ended.whole (line.taken ∙ ap (λ (l : List (List ℕ)). pieces_of line_turns line.turns ++ l) all.none_left ∙ append-nil (pieces_of line_turns line.turns));
          replies =
              ap (λ (l : List (List ℕ)). l ++ sent_for (line.added.text ∷ [])) s.ended.replies ∙ ap (λ (o : Added). replies_to ds ++ sent_for (o.text ∷ [])) all.added
              ∙ sym (sent_more ds d);
          readings =
              ap (λ (l : List ℕ). l ++ line.added.readings) s.ended.readings ∙ ap (λ (o : Added). readings_of line_turns (turns_of ds) ++ o.readings) all.added
              ∙ sym (readings_more ds d);
          noise = ap (λ (l : List ℕ). l ++ line.added.noise) s.ended.noise ∙ ap (λ (o : Added). noise_of line_turns (turns_of ds) ++ o.noise) all.added ∙ sym (noise_more ds d);
        })

    -- one more datagram, of which no reply was sent
    serves_unsent : (end : MailEnd) (s : ServesMail Quota given b h hall mid p q) (one : AnswersDatagram (Err end) bytes b s.history mid hall' q' r) → r.replies ≡ one.fed.replies → (IsUnhalted end → IsUnstopped one.end)
        → IsUnsent end one.end one.session.added.text
        → ((ds : List Datagram) (a : MailAdded) → LacksLast end b hall hall' one.session.history ds a → IsMailEnd end b hall hall' one.session.history ds a) → ServesMail end (given ++ bytes ∷ []) b h hall hall' p r
    serves_unsent end s one replies going unsent ends =
        let line = one.session in
        let d : Datagram = record { bytes = bytes; turns = line.turns } in
        behind end one.end [] s line one.only (replies ∙ sym (replies_none one.fed.replies)) going
        (ends (s.datagrams ++ d ∷ []) (record { replies = s.added.replies ++ []; readings = s.added.readings ++ line.added.readings; noise = s.added.noise ++ line.added.noise }) (record {
          front = s.datagrams;
          before = s.added;
          sent = s.ended;
          last = d;
          split = refl;
          end = one.end;
          behind = line.behind;
          line = line.added;
          left = line.left;
          taken = line.taken;
          ended = ends_under line_turns (line_rules udp_name b mid hall') (line_rules udp_name b hall hall') one.end line.history line.turns line.behind line.added line.left
              ((line_follows udp_name b kept (s.up tt) hall' h).cause line.history) line.ended;
          halt = unsent;
          none_behind = line.unanswered;
          added = λ i. record { replies = append-nil s.added.replies i; readings = s.added.readings ++ line.added.readings; noise = s.added.noise ++ line.added.noise };
        }))

    -- one more datagram, which was not answered
    pub serves_last : (end : MailEnd) (s : ServesMail Quota given b h hall mid p q) → AnswersDatagram (Err end) bytes b s.history mid hall' q' r → ServesMail end (given ++ bytes ∷ []) b h hall hall' p r
    serves_last Quota s one = absurd one.sends
    serves_last Ended s one = absurd one.sends
    serves_last ReadFault s one = absurd one.sends
    serves_last WriteFault s one = serves_unsent WriteFault s one one.sends.2 (λ _. unstopped one.end one.sends.0) (one.sends.0, one.sends.1) (λ _ _ l. l)
    serves_last (Stopped stop) s one = serves_unsent (Stopped stop) s one one.sends.1 (λ unhalted. absurd unhalted) one.sends.0 (λ _ _ l. l)

-- why a session ended at its last datagram
pub last_ended : (end : MailEnd) (count n : ℕ) (p p' : PortSeen) → EndsDatagram (Err end) → n ≤ count → (end ≡ WriteFault → Rose p.write_faults p'.write_faults) → HasEnded end count n p p'
last_ended Quota count n p p' last few rose = absurd last
last_ended Ended count n p p' last few rose = absurd last
last_ended ReadFault count n p p' last few rose = absurd last
last_ended WriteFault count n p p' last few rose = (few, rose refl)
last_ended (Stopped stop) count n p p' last few rose = few

-- the same, said of equal values
pub feeds_same : {end : Ending} {bytes : List ℕ} {b : Summary} {h : List Entry} {hall hall' : HallSeen} (text text' : List ℕ) (q q' r r' : PortSeen) → text ≡ text' → q ≡ q' → r ≡ r'
    → FeedsDatagram end bytes text b h hall hall' q r → FeedsDatagram end bytes text' b h hall hall' q' r'
feeds_same {end} {bytes} {b} {h} {hall} {hall'} text text' q q' r r' same from to fed =
    subst (λ (t : List ℕ). FeedsDatagram end bytes t b h hall hall' q' r') same
    (subst (λ (x : PortSeen). FeedsDatagram end bytes text b h hall hall' x r') from (subst (λ (x : PortSeen). FeedsDatagram end bytes text b h hall hall' q x) to fed))
