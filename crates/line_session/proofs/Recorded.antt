-- The turns of pieces whose events were submitted together.
use Rattle.std.proofs.Common.{◌≡◌, ◌∷◌, ◌++◌, ℕ, List, [], map, length, suc, Option, Some, None, refl, sym, ◌∙◌, ap, subst}
use Rattle.std.specs.Prelude.{IfSome}
use Rattle.std.specs.List.{AllByRecursion}
use Rattle.std.specs.Option.{option_to_list}
use Rattle.alarm_rules.specs.Setups.{Setup}
use Rattle.arc_data.specs.declared.event.Event.{Event}
use Rattle.arc_data.specs.declared.event.Event.TheVariants.{Message as Sent, Beat as Heartbeat}
use Rattle.centre_core.specs.Batches.{entry_by, with_all, entries_by}
use Rattle.centre_core.specs.declared.batch.Submission.{Submission}
use Rattle.centre_rules.specs.Marks.{force}
use Rattle.centre_rules.specs.Summary.{Summary}
use Rattle.centre_rules.specs.History.{Entry, Extends, marks}
use Rattle.centre_rules.proofs.Standing.{force_marked}
use Rattle.dc09_message.specs.declared.outcome.Verdict.{Verdict}
use Rattle.dc09_message.specs.declared.outcome.Verdict.TheVariants.{Silence, Nak, Duh, Beat, Numbered}
use Rattle.dc09_message.specs.Verdicts.{IsKnown}
use Rattle.session_rules.specs.Turns.{pieces_of, entries_of, text_of, readings_of, noise_of}
use Rattle.line_session.specs.Dues.{Asked, bodies_in, readings_in}
use Rattle.line_session.specs.Replies.{IsKnownEvent}
use Rattle.line_session.specs.Turns.{Turn, line_turns, event_of, IsAnswered, AreTurns}
use Rattle.line_session.proofs.Known.{answers_known}
use Rattle.line_session.proofs.Apart.{calls_on}
use Rattle.line_session.proofs.Replied.{Replied, IsReplied, IsReplyFor, verdict_on, asked_in, replies_in, noise_in}

-- the event of a verdict is known
known_event : (name : List ℕ) (setup : Setup) (v : Verdict) → IsKnown setup v → IfSome (event_of name v) (IsKnownEvent setup)
known_event name setup Silence known = tt
known_event name setup Nak known = tt
known_event name setup (Duh header why) known = tt
known_event name setup (Beat header account) known = known
known_event name setup (Numbered header m) known = known

module _ (name : List ℕ) (b : Summary) (setup : Setup) (caller : ℕ) where
  -- the entry of an event at a reading behind a history, and the history with it
  abbrev pub entry_at : List Entry → ℕ → Option Event → Option Entry
  entry_at h reading None = None
  entry_at h reading (Some event) = Some (entry_by caller b h (record { event = event; clock = reading }))

  abbrev pub with_entry : List Entry → ℕ → Option Event → List Entry
  with_entry h reading None = h
  with_entry h reading (Some event) = entry_by caller b h (record { event = event; clock = reading }) ∷ h

  abbrev pub event_in : Asked → Option Event
  event_in a = event_of name (verdict_on setup a)

  abbrev pub turn_of : List Entry → Replied → Turn
  turn_of h r = record {
    body = r.asked.body;
    reading = r.asked.reading;
    noise = r.noise;
    entry = entry_at h r.asked.reading (event_in r.asked);
    reply = r.reply;
  }

  -- the turns of pieces whose events stand together behind a history, and that history with their entries
  abbrev pub turns_in : List Entry → List Replied → List Turn
  turns_in h [] = []
  turns_in h (r ∷ rs) = turn_of h r ∷ turns_in (with_entry h r.asked.reading (event_in r.asked)) rs

  abbrev pub ends_with : List Entry → List Replied → List Entry
  ends_with h [] = h
  ends_with h (r ∷ rs) = ends_with (with_entry h r.asked.reading (event_in r.asked)) rs

  pub turns-append : (h : List Entry) (rs us : List Replied) → turns_in h (rs ++ us) ≡ turns_in h rs ++ turns_in (ends_with h rs) us
  turns-append h [] us = refl
  turns-append h (r ∷ rs) us = ap (λ (l : List Turn). turn_of h r ∷ l) (turns-append (with_entry h r.asked.reading (event_in r.asked)) rs us)

  one_with : (h : List Entry) (reading : ℕ) (event : Option Event) (later : List Submission)
      → with_all caller b h (map (λ e. record { event = e; clock = reading }) (option_to_list event) ++ later) ≡ with_all caller b (with_entry h reading event) later
  one_with h reading None later = refl
  one_with h reading (Some event) later = refl

  pub ends_is : (h : List Entry) (rs : List Replied) → with_all caller b h (calls_on name setup (asked_in rs)) ≡ ends_with h rs
  ends_is h [] = refl
  ends_is h (r ∷ rs) = one_with h r.asked.reading (event_in r.asked) (calls_on name setup (asked_in rs)) ∙ ends_is (with_entry h r.asked.reading (event_in r.asked)) rs

  one_entry : (h : List Entry) (reading : ℕ) (event : Option Event) (later : List Submission)
      → entries_by caller b h (map (λ e. record { event = e; clock = reading }) (option_to_list event) ++ later)
      ≡ option_to_list (entry_at h reading event) ++ entries_by caller b (with_entry h reading event) later
  one_entry h reading None later = refl
  one_entry h reading (Some event) later = refl

  pub entries_is : (h : List Entry) (rs : List Replied) → entries_by caller b h (calls_on name setup (asked_in rs)) ≡ entries_of line_turns (turns_in h rs)
  entries_is h [] = refl
  entries_is h (r ∷ rs) =
      one_entry h r.asked.reading (event_in r.asked) (calls_on name setup (asked_in rs))
      ∙ ap (λ (l : List Entry). option_to_list (entry_at h r.asked.reading (event_in r.asked)) ++ l) (entries_is (with_entry h r.asked.reading (event_in r.asked)) rs)

  pub pieces_is : (h : List Entry) (rs : List Replied) → bodies_in (asked_in rs) ≡ pieces_of line_turns (turns_in h rs)
  pieces_is h [] = refl
  pieces_is h (r ∷ rs) = ap (λ (l : List (List ℕ)). r.asked.body ∷ l) (pieces_is (with_entry h r.asked.reading (event_in r.asked)) rs)

  pub readings_is : (h : List Entry) (rs : List Replied) → readings_in (asked_in rs) ≡ readings_of line_turns (turns_in h rs)
  readings_is h [] = refl
  readings_is h (r ∷ rs) = ap (λ (l : List ℕ). r.asked.reading ∷ l) (readings_is (with_entry h r.asked.reading (event_in r.asked)) rs)

  pub text_is : (h : List Entry) (rs : List Replied) → replies_in rs ≡ text_of line_turns (turns_in h rs)
  text_is h [] = refl
  text_is h (r ∷ rs) = ap (λ (l : List ℕ). r.reply ++ l) (text_is (with_entry h r.asked.reading (event_in r.asked)) rs)

  pub noise_is : (h : List Entry) (rs : List Replied) → noise_in rs ≡ noise_of line_turns (turns_in h rs)
  noise_is h [] = refl
  noise_is h (r ∷ rs) = ap (λ (l : List ℕ). r.noise ++ l) (noise_is (with_entry h r.asked.reading (event_in r.asked)) rs)

  -- the setup in force stays

  not_adopt : (h : List Entry) (reading : ℕ) (event : Option Event) → IfSome event (IsKnownEvent setup) → force b (marks b (with_entry h reading event)) ≡ force b (marks b h)
  not_adopt h reading None known = refl
  not_adopt h reading (Some (Sent m via)) known = force_marked b (entry_by caller b h (record { event = Sent m via; clock = reading })) (marks b h) refl
  not_adopt h reading (Some (Heartbeat account)) known = force_marked b (entry_by caller b h (record { event = Heartbeat account; clock = reading })) (marks b h) refl
  not_adopt h reading (Some other) known = absurd known

  pub force_ends : (h : List Entry) (rs : List Replied) → AllByRecursion (IsReplied setup) rs → force b (marks b (ends_with h rs)) ≡ force b (marks b h)
  force_ends h [] each = refl
  force_ends h (r ∷ rs) each =
      force_ends (with_entry h r.asked.reading (event_in r.asked)) rs each.1
      ∙ not_adopt h r.asked.reading (event_in r.asked) (known_event name setup (verdict_on setup r.asked) each.0.sound.known)

  -- the turns stand behind one another

  one_turn : (g h : List Entry) (r : Replied) (v : Verdict) (t : Turn) → Extends g h → force b (marks b h) ≡ Some setup → IsKnown setup v → IsReplyFor setup v r.asked.reading r.noise r.reply
      → t ≡ record { body = r.asked.body; reading = r.asked.reading; noise = r.noise; entry = entry_at h r.asked.reading (event_of name v); reply = r.reply }
      → IsAnswered name b setup caller g (with_entry h r.asked.reading (event_of name v)) t v
  one_turn g h r Silence t e forced known fits is =
      subst (λ (u : Turn). IsAnswered name b setup caller g h u Silence) (sym is) (record { extends = e; entry = refl; noise = fits.0; reply = fits.1 })
  one_turn g h r Nak t e forced known fits is =
      subst (λ (u : Turn). IsAnswered name b setup caller g h u Nak) (sym is) (record { extends = e; entry = refl; noise = fits.0; reply = fits.1 })
  one_turn g h r (Duh header why) t e forced known fits is =
      subst (λ (u : Turn). IsAnswered name b setup caller g h u (Duh header why)) (sym is) (record { extends = e; entry = refl; noise = fits.0; reply = fits.1 })
  one_turn g h r (Beat header account) t e forced known fits is =
      let entry : Entry = entry_by caller b h (record { event = Heartbeat account; clock = r.asked.reading }) in
      subst (λ (u : Turn). IsAnswered name b setup caller g (entry ∷ h) u (Beat header account)) (sym is)
      (record {
        before = h;
        entry = entry;
        extends = e;
        is = refl;
        taken = refl;
        by = refl;
        of = refl;
        at = refl;
        known = answers_known b (marks b h) setup (Heartbeat account) entry.at forced known;
        reply = fits;
      })
  one_turn g h r (Numbered header m) t e forced known fits is =
      let entry : Entry = entry_by caller b h (record { event = Sent m name; clock = r.asked.reading }) in
      subst (λ (u : Turn). IsAnswered name b setup caller g (entry ∷ h) u (Numbered header m)) (sym is)
      (record {
        before = h;
        entry = entry;
        extends = e;
        is = refl;
        taken = refl;
        by = refl;
        of = refl;
        at = refl;
        known = answers_known b (marks b h) setup (Sent m name) entry.at forced known;
        reply = fits;
      })

  pub are_turns : (g h : List Entry) (rs : List Replied) → Extends g h → force b (marks b h) ≡ Some setup → AllByRecursion (IsReplied setup) rs → AreTurns name b setup caller g (ends_with h rs) (turns_in h rs)
  are_turns g h [] e forced each = e
  are_turns g h (r ∷ rs) e forced each =
      let next : List Entry = with_entry h r.asked.reading (event_in r.asked) in (
        next,
        one_turn g h r (verdict_on setup r.asked) (turn_of h r) e forced each.0.sound.known each.0.reply refl,
        are_turns next next rs ([], refl) (not_adopt h r.asked.reading (event_in r.asked) (known_event name setup (verdict_on setup r.asked) each.0.sound.known) ∙ forced) each.1,
      )

  -- as many entries as events
  entries_long : (h : List Entry) (calls : List Submission) → length (entries_by caller b h calls) ≡ length calls
  entries_long h [] = refl
  entries_long h (call ∷ later) = ap suc (entries_long (entry_by caller b h call ∷ h) later)

  pub entries_count : (h : List Entry) (rs : List Replied) → length (entries_of line_turns (turns_in h rs)) ≡ length (calls_on name setup (asked_in rs))
  entries_count h rs = sym (ap length (entries_is h rs)) ∙ entries_long h (calls_on name setup (asked_in rs))
