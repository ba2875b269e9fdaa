-- What is gathered of a batch, by its events one after another.
use Rattle.std.proofs.Common.{◌≡◌, ◌≤◌, ◌<◌, ◌+◌, ◌^◌, ℕ, List, [], ◌∷◌, ◌++◌, Bool, true, false, length, take, drop, refl, sym, ap, subst, ◌∙◌, arith, append_assoc, length-append}
use Rattle.std.specs.Prelude.{if◌then◌else◌, not}
use Rattle.std.proofs.lemmas.List.{append-nil, take-append-drop, take-take, drop-take}
use Rattle.std.proofs.lemmas.List.Elements.{All-append}
use Rattle.std.proofs.lemmas.List.Sums.{sum_by_push}
use Rattle.arc_data.specs.declared.reply.Reply.{Reply}
use Rattle.centre_core.proofs.Applied.{stands_same, text_stays}
use Rattle.centre_core.specs.Runs.{IsSubmitted}
use Rattle.centre_core.specs.declared.ready.Done.{Done}
use Rattle.centre_rules.specs.Answers.{answer}
use Rattle.centre_rules.specs.History.{Entry, is_recorded, moment_after}
use Rattle.centre_rules.specs.State.{State, StandsFor, Plan, Grows, entry_of}
use Rattle.centre_rules.specs.Summary.{Summary}
use Rattle.disk_journal.specs.Journal.{room_of}
use Rattle.disk_journal.specs.Records.{MayHave, MayAllHave, need_of_all}
use Rattle.disk_journal.specs.declared.journal.Journal.{Journal}
use Rattle.event_codec.specs.Spelling.{HasSpelling, spelling}
use Rattle.centre_store.specs.Bodies.{body_in}
use Rattle.centre_store.specs.Calls.{Submission}
use Rattle.centre_store.specs.Gathered.{HasHistory, AreTakenUp, AreOverAt, HasRoomForAll}
use Rattle.centre_store.specs.Groups.{MayBeSubmitted, entry_by, with_all, done_of, dones_of, bodies_by, AreSpelledBy}
use Rattle.centre_store.specs.Stores.{IsSameJournal}
use Rattle.centre_store.proofs.Entered.{entry_is}

-- Of some events, and then others.

with_more : (caller : ℕ) (b : Summary) (h : List Entry) (xs ys : List Submission)
    → with_all caller b h (xs ++ ys) ≡ with_all caller b (with_all caller b h xs) ys
with_more caller b h [] ys = refl
with_more caller b h (call ∷ xs) ys = with_more caller b (entry_by caller b h call ∷ h) xs ys

dones_more : (caller : ℕ) (b : Summary) (h : List Entry) (xs ys : List Submission)
    → dones_of caller b h (xs ++ ys) ≡ dones_of caller b h xs ++ dones_of caller b (with_all caller b h xs) ys
dones_more caller b h [] ys = refl
dones_more caller b h (call ∷ xs) ys =
    let e = entry_by caller b h call in ap (λ (l : List Done). done_of e ∷ l) (dones_more caller b (e ∷ h) xs ys)

if_more : {X : Type 0} (t : Bool) (x : X) (one other : List X) → (if t then x ∷ (one ++ other) else (one ++ other)) ≡ (if t then x ∷ one else one) ++ other
if_more true x one other = refl
if_more false x one other = refl

bodies_more : (caller : ℕ) (b : Summary) (h : List Entry) (xs ys : List Submission)
    → bodies_by caller b h (xs ++ ys) ≡ bodies_by caller b h xs ++ bodies_by caller b (with_all caller b h xs) ys
bodies_more caller b h [] ys = refl
bodies_more caller b h (call ∷ xs) ys =
    let e = entry_by caller b h call in
    ap (λ (l : List (List ℕ)). if is_recorded e.reply then body_in 2 e ∷ l else l) (bodies_more caller b (e ∷ h) xs ys)
    ∙ if_more (is_recorded e.reply) (body_in 2 e) (bodies_by caller b (e ∷ h) xs) (bodies_by caller b (with_all caller b (e ∷ h) xs) ys)

spelled_more : (caller : ℕ) (b : Summary) (h : List Entry) (xs ys : List Submission) → AreSpelledBy caller b h xs
    → AreSpelledBy caller b (with_all caller b h xs) ys → AreSpelledBy caller b h (xs ++ ys)
spelled_more caller b h [] ys one other = other
spelled_more caller b h (call ∷ xs) ys one other = (one.0, spelled_more caller b (entry_by caller b h call ∷ h) xs ys one.1 other)

module _ (caller : ℕ) where
  pub taken_then : (xs ys : List Submission) (s t u : State) (bodies further all : List (List ℕ)) (dones told every : List Done)
      → AreTakenUp caller xs s t bodies further dones told → AreTakenUp caller ys t u further all told every
      → AreTakenUp caller (xs ++ ys) s u bodies all dones every
  taken_then xs ys s t u bodies further all dones told every one two = record {
    stands = λ b h w. subst (StandsFor b u) (sym (with_more caller b h xs ys)) (two.stands b (with_all caller b h xs) (one.stands b h w));
    told_is = λ b h w.
        let mid = with_all caller b h xs in
        two.told_is b mid (one.stands b h w)
        ∙ ap (λ (l : List Done). l ++ dones_of caller b mid ys) (one.told_is b h w)
        ∙ append_assoc dones (dones_of caller b h xs) (dones_of caller b mid ys)
        ∙ ap (λ (l : List Done). dones ++ l) (sym (dones_more caller b h xs ys));
    bodies_are = λ b h w.
        let mid = with_all caller b h xs in
        two.bodies_are b mid (one.stands b h w)
        ∙ ap (λ (l : List (List ℕ)). l ++ bodies_by caller b mid ys) (one.bodies_are b h w)
        ∙ append_assoc bodies (bodies_by caller b h xs) (bodies_by caller b mid ys)
        ∙ ap (λ (l : List (List ℕ)). bodies ++ l) (sym (bodies_more caller b h xs ys));
    spelled = λ b h w. spelled_more caller b h xs ys (one.spelled b h w) (two.spelled b (with_all caller b h xs) (one.stands b h w));
    count = omega (arith, one.count, two.count, length-append xs ys);
    few = omega (arith, one.few, two.few, length-append xs ys);
    entries = omega (arith, one.entries, two.entries, length-append xs ys);
    bound = λ le. two.bound (one.bound le);
    text = two.text ∙ one.text;
  }

  -- none
  pub taken_none : (s : State) (bodies : List (List ℕ)) (dones : List Done) → AreTakenUp caller [] s s bodies bodies dones dones
  taken_none s bodies dones = record {
    stands = λ b h w. w;
    told_is = λ b h w. sym (append-nil dones);
    bodies_are = λ b h w. sym (append-nil bodies);
    spelled = λ b h w. tt;
    count = omega arith;
    few = omega arith;
    entries = omega arith;
    bound = λ le. le;
    text = refl;
  }

  -- those that were taken up are, where nothing changes any more but room
  pub taken_still : (calls : List Submission) (s t u : State) (bodies further all : List (List ℕ)) (dones told every : List Done)
      → AreTakenUp caller calls s t bodies further dones told → u.entries ≡ t.entries → u.sum ≡ t.sum → all ≡ further → every ≡ told
      → AreTakenUp caller calls s u bodies all dones every
  taken_still calls s t u bodies further all dones told every are entries sum same as_told = record {
    stands = λ b h w. stands_same b t u (with_all caller b h calls) entries sum (are.stands b h w);
    told_is = λ b h w. as_told ∙ are.told_is b h w;
    bodies_are = λ b h w. same ∙ are.bodies_are b h w;
    spelled = are.spelled;
    count = ap length as_told ∙ are.count;
    few = omega (arith, are.few, ap length same);
    entries = entries ∙ are.entries;
    bound = λ le. omega (arith, entries, are.bound le);
    text = ap (λ (x : Summary). x.text) sum ∙ are.text;
  }

  -- what is told of them stands behind what was told before
  pub taken_behind : (calls : List Submission) (s t : State) (bodies further : List (List ℕ)) (dones one told : List Done)
      → AreTakenUp caller calls s t bodies further [] one → told ≡ dones ++ one → AreTakenUp caller calls s t bodies further dones told
  taken_behind calls s t bodies further dones one told are behind = record {
    stands = are.stands;
    told_is = λ b h w. behind ∙ ap (λ (l : List Done). dones ++ l) (are.told_is b h w);
    bodies_are = are.bodies_are;
    spelled = are.spelled;
    count = omega (arith, ap length behind, are.count, length-append dones one);
    few = are.few;
    entries = are.entries;
    bound = are.bound;
    text = are.text;
  }

  pub history_then : (calls : List Submission) (s t : State) (bodies further : List (List ℕ)) (dones told : List Done)
      → AreTakenUp caller calls s t bodies further dones told → HasHistory s → HasHistory t
  history_then calls s t bodies further dones told are has = record {
    base = has.base;
    history = with_all caller has.base has.history calls;
    stands = are.stands has.base has.history has.stands;
  }

-- the first ones, and the one behind them
pub take_next : {X : Type 0} (i : ℕ) (l : List X) → take (i + 1) l ≡ take i l ++ take 1 (drop i l)
take_next i l =
    sym (take-append-drop i (take (i + 1) l))
    ∙ ap (λ x. x ++ drop i (take (i + 1) l)) (take-take i (i + 1) l (omega arith))
    ∙ ap (λ x. take i l ++ x) (drop-take i 1 l)

-- One event: what was worked out for it is made.

-- the bodies behind those before it, by whether it is recorded
one_body : (t : Bool) (body : List ℕ) (bodies further : List (List ℕ)) → (not t ≡ true → further ≡ bodies) → (t ≡ true → further ≡ bodies ++ body ∷ [])
    → further ≡ bodies ++ (if t then body ∷ [] else [])
one_body true body bodies further quiet laid = laid refl
one_body false body bodies further quiet laid = quiet refl ∙ sym (append-nil bodies)

one_few : (t : Bool) (body : List ℕ) (bodies further : List (List ℕ)) → further ≡ bodies ++ (if t then body ∷ [] else []) → length further ≤ length bodies + 1
one_few true body bodies further is = omega (arith, ap length is, length-append bodies (body ∷ []))
one_few false body bodies further is = let none : List (List ℕ) = [] in omega (arith, ap length is, length-append bodies none)

module _ (caller : ℕ) (call : Submission) (s r t : State) (p : Plan) (at : ℕ) (reply : Reply) (bodies further : List (List ℕ))
    (may : MayBeSubmitted call) (event_is : p.event ≡ call.event) (at_is : at ≡ p.at) (reply_is : reply ≡ p.reply)
    (moment : (b : Summary) (h : List Entry) → StandsFor b r h → p.at ≡ moment_after b h call.clock)
    (answers : (b : Summary) (h : List Entry) → StandsFor b r h → p.reply ≡ answer b h call.event p.at) where
  -- its entry is that of one thread
  pub entry_same : (b : Summary) (h : List Entry) → StandsFor b r h → entry_of caller p ≡ entry_by caller b h call
  entry_same b h w =
      entry_is p caller call.event (moment_after b h call.clock) (answer b h call.event (moment_after b h call.clock)) event_is (sym (moment b h w))
      (sym (answers b h w ∙ ap (answer b h call.event) (moment b h w)))

  pub taken_one : ((b : Summary) (h : List Entry) → StandsFor b s h → StandsFor b r h) → r.entries ≡ s.entries → r.sum ≡ s.sum → s.entries < 2 ^ 48
      → ((b : Summary) (h : List Entry) → StandsFor b r h → StandsFor b t (entry_of caller p ∷ h)) → Grows r t (entry_of 0 p)
      → (is_recorded p.reply ≡ true → HasSpelling p.event p.at) → (not (is_recorded p.reply) ≡ true → further ≡ bodies)
      → (is_recorded p.reply ≡ true → further ≡ bodies ++ spelling p.event p.at ∷ [])
      → AreTakenUp caller (call ∷ []) s t bodies further [] ((record { caller = caller; at = at; reply = reply }) ∷ [])
  taken_one stays entries sum few made grows spelled quiet laid =
      let body : further ≡ bodies ++ (if is_recorded p.reply then spelling p.event p.at ∷ [] else []) =
      one_body (is_recorded p.reply) (spelling p.event p.at) bodies further quiet laid in
      record {
        stands = λ b h w. subst (λ (e : Entry). StandsFor b t (e ∷ h)) (entry_same b h (stays b h w)) (made b h (stays b h w));
        told_is = λ b h w.
            ap (λ (e : Entry). done_of e ∷ [])
            ((λ i. record { caller = caller; event = p.event; at = at_is i; reply = reply_is i }) ∙ entry_same b h (stays b h w));
        bodies_are = λ b h w.
            subst (λ (e : Entry). further ≡ bodies ++ (if is_recorded e.reply then body_in 2 e ∷ [] else [])) (entry_same b h (stays b h w)) body;
        spelled = λ b h w. (subst (λ (e : Entry). is_recorded e.reply ≡ true → HasSpelling e.event e.at) (entry_same b h (stays b h w)) spelled, tt);
        count = omega arith;
        few = one_few (is_recorded p.reply) (spelling p.event p.at) bodies further body;
        entries = omega (arith, grows.entries, entries);
        bound = λ le. omega (arith, grows.entries, entries, few);
        text = text_stays r t (entry_of 0 p) (subst IsSubmitted (sym event_is) may.submitted) grows ∙ ap (λ (x : Summary). x.text) sum;
      }

-- The room of the journal for the bodies.

module _ {D : Type 0} (j k : Journal D) (same : IsSameJournal j k) where
  pub over_back : (need count : ℕ) → AreOverAt k need count → AreOverAt j need count
  over_back need count over = subst (λ (x : Journal D). AreOverAt x need count) same over

  pub over_on : (need count : ℕ) → AreOverAt j need count → AreOverAt k need count
  over_on need count over = subst (λ (x : Journal D). AreOverAt x need count) (sym same) over

  pub room_still : (bodies : List (List ℕ)) → room_of j ≤ room_of k → HasRoomForAll j bodies → HasRoomForAll k bodies
  room_still bodies more has = record {
    sizes = has.sizes;
    joined = omega (arith, has.joined, more);
    fit = λ some over. has.fit some (over_back (need_of_all bodies) (length bodies) over);
  }

pub need_pushed : (bodies : List (List ℕ)) (body : List ℕ) → need_of_all (bodies ++ body ∷ []) ≡ need_of_all bodies + (5 + length body)
need_pushed bodies body = sum_by_push (λ (b : List ℕ). 5 + length b) bodies body

pub sizes_pushed : (bodies : List (List ℕ)) (body : List ℕ) → MayAllHave bodies → MayHave (length body) → MayAllHave (bodies ++ body ∷ [])
sizes_pushed bodies body sizes fits =
    All-append (λ (b : List ℕ). MayHave (length b)) bodies (body ∷ []) sizes (λ k d at. let first : k ≡ 0 = omega arith in rw first fits)

-- with one body more
pub room_pushed : {D : Type 0} (j k : Journal D) (bodies all : List (List ℕ)) (body : List ℕ) (need : ℕ) → IsSameJournal j k → HasRoomForAll j bodies
    → MayHave (length body) → all ≡ bodies ++ body ∷ [] → need ≡ need_of_all bodies + (5 + length body) → need ≤ room_of k
    → (AreOverAt j need (length bodies + 1) → ⊥) → HasRoomForAll k all
room_pushed j k bodies all body need same has fits pushed need_is room below =
    let whole : need_of_all all ≡ need = ap need_of_all pushed ∙ need_pushed bodies body ∙ sym need_is in
    let count : length all ≡ length bodies + 1 = omega (arith, ap length pushed, length-append bodies (body ∷ [])) in
    record {
      sizes = subst (λ (l : List (List ℕ)). MayAllHave l) (sym pushed) (sizes_pushed bodies body has.sizes fits);
      joined = omega (arith, whole, room);
      fit = λ some over.
          below (subst (AreOverAt j need) count (subst (λ (n : ℕ). AreOverAt j n (length all)) whole (over_back j k same (need_of_all all) (length all) over)));
    }
