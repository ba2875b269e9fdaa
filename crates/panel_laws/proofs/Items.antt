-- What the ideal list of a panel's schedule has: an item of each sending lies within 240 seconds of its first copy, and the numbers fall.
use Rattle.std.proofs.Common.{◌≡◌, ◌≤◌, ◌<◌, ◌+◌, ◌-◌, ℕ, zero, suc, List, [], ◌∷◌, ◌++◌, length, drop, max, Bool, true, false, cond, refl, ap, ◌∙◌, inl, inr, arith}
use Rattle.std.specs.Prelude.{Some, None}
use Rattle.std.specs.List.{AllByRecursion}
use Rattle.std.proofs.lemmas.Bool.{cond_both, eq-eqb}
use Rattle.centre_rules.specs.Summary.{nothing}
use Rattle.centre_rules.specs.History.{is_recorded, last, moment_after}
use Rattle.centre_laws.specs.Schedules.{Item, entries, is_same, is_of_sending, stands, acknowledge, acknowledge_item}
use Rattle.centre_laws.specs.Spacing.{message_in, is_account, messages_of}
use Rattle.centre_laws.proofs.Lists.{all_map, all_at}
use Rattle.panel_rules.specs.Panels.{Setting}
use Rattle.panel_laws.specs.Worlds.{IsAmong, message_of}
use Rattle.panel_laws.proofs.Finds.{any_among}
use Rattle.panel_laws.proofs.Sent.{Sent, all_weaker}

-- the item is of this event of the panel
pub record IsOfEvent (s : Setting) (i : Item) (x : Sent) : Type 0 where
  pub number : i.number ≡ Some x.event
  pub message : message_in i.entry.event ≡ Some (message_of s x.event x.report)
  pub low : x.first ≤ i.entry.at
  pub high : i.entry.at ≤ x.first + 240

-- the item is of no sending and no message, or of an event that was sent
pub data IsOf (s : Setting) (xs : List Sent) (i : Item) : Type 0 where
  Another : i.number ≡ None → message_in i.entry.event ≡ None → IsOf s xs i
  Its : (x : Sent) → IsAmong x xs → IsOfEvent s i x → IsOf s xs i

-- it is so, and is not after this moment
pub record IsItem (s : Setting) (xs : List Sent) (now : ℕ) (i : Item) : Type 0 where
  pub upto : i.entry.at ≤ now
  pub of : IsOf s xs i

abbrev pub AreItems : Setting → List Sent → ℕ → List Item → Type 0
AreItems s xs now w = AllByRecursion (IsItem s xs now) w

-- where both have numbers, that of i is the greater
abbrev pub IsAbove : Item → Item → Type 0
IsAbove i j = (n k : ℕ) → i.number ≡ Some n → j.number ≡ Some k → k < n

abbrev pub AreFalling : List Item → Type 0
AreFalling [] = Unit {0}
AreFalling (i ∷ w) = AllByRecursion (IsAbove i) w × AreFalling w

-- What stays.

of_more : (s : Setting) (xs ys : List Sent) (i : Item) → ((x : Sent) → IsAmong x xs → IsAmong x ys) → IsOf s xs i → IsOf s ys i
of_more s xs ys i more (Another none other) = Another none other
of_more s xs ys i more (Its x there own) = Its x (more x there) own

-- later, when more was sent
pub items_later : (s : Setting) (xs ys : List Sent) (now then : ℕ) (w : List Item) → now ≤ then
    → ((x : Sent) → IsAmong x xs → IsAmong x ys) → AreItems s xs now w → AreItems s ys then w
items_later s xs ys now then w le more all =
    all_weaker (IsItem s xs now) (IsItem s ys then)
    (λ i own. record { upto = omega (arith, own.upto, le); of = of_more s xs ys i more own.of }) w all

acknowledged_of : (s : Setting) (xs : List Sent) (n : ℕ) (i : Item) → IsOf s xs i → IsOf s xs (acknowledge_item n i)
acknowledged_of s xs n i (Another none other) = Another none other
acknowledged_of s xs n i (Its x there own) =
    Its x there (record { number = own.number; message = own.message; low = own.low; high = own.high })

-- once one is acknowledged
pub items_acknowledged : (s : Setting) (xs : List Sent) (now n : ℕ) (w : List Item) → AreItems s xs now w → AreItems s xs now (acknowledge n w)
items_acknowledged s xs now n w all =
    all_map (IsItem s xs now) (acknowledge_item n)
    (λ i own. record { upto = own.upto; of = acknowledged_of s xs n i own.of }) w all

above_acknowledged : (n : ℕ) (i : Item) (w : List Item) → AllByRecursion (IsAbove i) w
    → AllByRecursion (IsAbove (acknowledge_item n i)) (acknowledge n w)
above_acknowledged n i [] all = tt
above_acknowledged n i (j ∷ w) all = (all.0, above_acknowledged n i w all.1)

pub falling_acknowledged : (n : ℕ) (w : List Item) → AreFalling w → AreFalling (acknowledge n w)
falling_acknowledged n [] all = tt
falling_acknowledged n (i ∷ w) all = (above_acknowledged n i w all.0, falling_acknowledged n w all.1)

-- after a crash
pub falling_dropped : (d : ℕ) (w : List Item) → AreFalling w → AreFalling (drop d w)
falling_dropped zero w all = all
falling_dropped (suc d) [] all = tt
falling_dropped (suc d) (i ∷ w) all = falling_dropped d w all.1

-- Moments.

-- the last recorded entry is not after this moment
pub last_below : (s : Setting) (xs : List Sent) (now : ℕ) (w : List Item) → AreItems s xs now w → last nothing (entries w) ≤ now
last_below s xs now [] all = omega arith
last_below s xs now (i ∷ w) all =
    cond_both (is_recorded i.entry.reply) i.entry.at (last nothing (entries w)) (λ (t : ℕ). t ≤ now) (λ _. all.0.upto)
    (λ _. last_below s xs now w all.1)

max_is : (clock before : ℕ) → before ≤ clock → max clock before ≡ clock
max_is clock before le = omega (arith, le)

-- so the moment of what comes next is its reading
pub moment_is : (s : Setting) (xs : List Sent) (now clock : ℕ) (w : List Item) → now ≤ clock → AreItems s xs now w
    → moment_after nothing (entries w) clock ≡ clock
moment_is s xs now clock w le all = let below = last_below s xs now w all in max_is clock (last nothing (entries w)) (omega (arith, below, le))

-- Where an item stands.

-- what holds of all holds of those in front
pub all_front : {A : Type 0} (P : A → Type 0) → (front back : List A) → AllByRecursion P (front ++ back) → AllByRecursion P front
all_front P [] back all = tt
all_front P (a ∷ front) back all = (all.0, all_front P front back all.1)

-- those in front of an item are above it, and fall
pub above_at : (later before : List Item) (i : Item) → AreFalling (later ++ i ∷ before) → AllByRecursion (λ j. IsAbove j i) later
above_at [] before i all = tt
above_at (j ∷ later) before i all = (all_at (IsAbove j) before i later all.0, above_at later before i all.1)

pub falling_front : (front back : List Item) → AreFalling (front ++ back) → AreFalling front
falling_front [] back all = tt
falling_front (i ∷ front) back all = (all_front (IsAbove i) front back all.0, falling_front front back all.1)

-- an item of the sending makes its number stand
pub stands_among : (n : ℕ) (i : Item) (w : List Item) → IsAmong i w → i.number ≡ Some n → stands n w ≡ true
stands_among n i w there is = any_among (is_of_sending n) i w there (ap (is_same n) is ∙ eq-eqb n n refl)

pub among_at : {A : Type 0} → (before : List A) (a : A) (later : List A) → IsAmong a (later ++ a ∷ before)
among_at before a [] = inl refl
among_at before a (b ∷ later) = inr (among_at before a later)

-- How many there are.

-- the number of the item, if it has one, is above low and at most top
abbrev pub IsBetween : ℕ → ℕ → Item → Type 0
IsBetween low top i = (n : ℕ) → i.number ≡ Some n → (low < n) × (n ≤ top)

-- one more at most
one_more : (b : Bool) (i : Item) (w : List Item) (low top : ℕ) → suc (length w) + low ≤ top → length (cond b (i ∷ w) w) + low ≤ top
one_more true i w low top le = omega (arith, le)
one_more false i w low top le = omega (arith, le)

less : (n : ℕ) → 1 ≤ n → (m : ℕ) → m < n → m ≤ n - 1
less n some m below = omega (arith, below)

-- the step of few_between
few_step : (s : Setting) (xs : List Sent) (account : List ℕ) (low top : ℕ) (i : Item) (w : List Item) → IsOf s xs i
    → AllByRecursion (IsAbove i) w → IsBetween low top i → AllByRecursion (IsBetween low top) w
    → ((top : ℕ) → low ≤ top → AllByRecursion (IsBetween low top) w → length (messages_of account w) + low ≤ top) → low ≤ top
    → length (messages_of account (i ∷ w)) + low ≤ top
few_step s xs account low top i w (Another none other) above here all more le =
    let is : is_account account (message_in i.entry.event) ≡ false = ap (is_account account) other in
    rw is (more top le all)
few_step s xs account low top i w (Its x there own) above here all more le =
    let b = here x.event own.number in
    let behind = more (x.event - 1) (omega (arith, b.0))
    (all_both (λ j. (n k : ℕ) → i.number ≡ Some n → j.number ≡ Some k → k < n) (IsBetween low top) (IsBetween low (x.event - 1))
    (λ j up own_range n is. ((own_range n is).0, less x.event (omega (arith, b.0)) n (up x.event n own.number is))) w above all) in
    one_more (is_account account (message_in i.entry.event)) i (messages_of account w) low top (omega (arith, behind, b.0, b.1))
  where
    all_both : (P Q R : Item → Type 0) → ((j : Item) → P j → Q j → R j) → (w : List Item) → AllByRecursion P w → AllByRecursion Q w
        → AllByRecursion R w
    all_both P Q R f [] p q = tt
    all_both P Q R f (j ∷ w) p q = (f j p.0 q.0, all_both P Q R f w p.1 q.1)

-- the Messages of an account between two numbers are not more than the numbers
pub few_between : (s : Setting) (xs : List Sent) (now : ℕ) (account : List ℕ) (low : ℕ) (w : List Item) → AreItems s xs now w
    → AreFalling w → (top : ℕ) → low ≤ top → AllByRecursion (IsBetween low top) w → length (messages_of account w) + low ≤ top
few_between s xs now account low [] items falls top le all = omega (arith, le)
few_between s xs now account low (i ∷ w) items falls top le all =
    few_step s xs account low top i w items.0.of falls.0 all.0 all.1
    (λ t le all. few_between s xs now account low w items.1 falls.1 t le all) le
