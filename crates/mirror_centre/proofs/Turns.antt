-- Answers that are not there whole, those that are, and turns.
use Rattle.std.proofs.Common.{◌≡◌, ◌≤◌, ◌<◌, ◌+◌, ◌-◌, ◌++◌, ◌⊎◌, ℕ, Bool, List, [], ◌∷◌, length, take, drop, get_or, Option, inl, inr, refl, sym, subst, ap, ◌∙◌, arith}
use Rattle.std.proofs.Common.{append_assoc, length-append, length-take, length-drop}
use Rattle.std.specs.Prelude.{◌&&◌, if◌then◌else◌, nat_le, Result, Ok, Err, IfOk, IfErr}
use Rattle.std.proofs.lemmas.Bool.{cases_lt, le-leb, lt-leb}
use Rattle.std.proofs.lemmas.List.{take_at, drop_at, take-append-drop, get_or-drop, get_or-take, get_or_past, take_all}
use Rattle.std.specs.Int.{from_be_bytes, to_be_bytes, w32, w64}
use Rattle.std.specs.Io.KnownBytes.{prepend_known, append_known}
use Rattle.arc_io.proofs.KnownMore.{known_none, known_both, known_taken, prepend_none}
use Rattle.arc_io.specs.Disks.{DiskSeen}
use Rattle.arc_io.specs.Seen.{PortSeen}
use Rattle.centre_core.specs.declared.hall.Stop.{Stop}
use Rattle.centre_core.specs.declared.hall.Stop.TheVariants.{Memory}
use Rattle.centre_rules.specs.History.{Entry}
use Rattle.centre_rules.specs.Summary.{Summary}
use Rattle.centre_store.specs.Stores.{Stored}
use Rattle.event_codec.proofs.Readers.{wide32, wide64}
use Rattle.session_rules.proofs.Ports.{ports_more, ports_none, rose_since}
use Rattle.session_rules.specs.Inputs.{input_limit}
use Rattle.mirror_centre.specs.Feeds.{Wrote, answers_text, asks_text}
use Rattle.mirror_centre.specs.Feeding.{GoesOn}
use Rattle.mirror_centre.specs.Following.{IsUnread, MayHave, ReadsAnswer, ReadsMore, ReadsNone, SoFar, TakesNone, TakesTurn, end_by}
use Rattle.mirror_centre.specs.Follows.{BeginsNone, EndsAsking, HasFollowed, IsAnswerFront, IsCounted, IsUntaken, TurnsStrange, have, size_by}
use Rattle.mirror_centre.specs.Intakes.{AreBytes, ReadsShort}
use Rattle.mirror_centre.specs.Messages.{Answer, Record, End, Summed, IsAnswer, answer_text, ask_text}
use Rattle.mirror_centre.specs.declared.follow_end.FollowEnd.{FollowEnd}
use Rattle.mirror_centre.specs.declared.follow_end.FollowEnd.TheVariants.{Done, Behind, Strange, ReadFault, WriteFault, Spent, Stopped}
use Rattle.mirror_centre.specs.declared.intake.Short.{Short}
use Rattle.mirror_centre.specs.declared.intake.Short.TheVariants as Intake
use Rattle.mirror_centre.proofs.Asks.{none_of, goes_then}

one_is : (bytes : List ℕ) (x : ℕ) → length bytes ≡ 1 → get_or bytes 0 0 ≡ x → bytes ≡ x ∷ []
one_is [] x size first = absurd (omega (arith, size))
one_is (y ∷ []) x size first = ap (λ (z : ℕ). z ∷ []) first
one_is (y ∷ z ∷ zs) x size first = absurd (omega (arith, size))

-- What an answer may have.

front_none : (bytes : List ℕ) → bytes ≡ [] → IsAnswerFront bytes
front_none bytes none = subst IsAnswerFront (sym none) (omega arith)

pub may_begin : MayHave [] 1
may_begin = record { front_is = λ bytes few. front_none bytes (none_of bytes few); most = omega arith }

pub may_count : MayHave (66 ∷ []) 8
may_count = record { front_is = λ bytes few. omega (arith, few); most = omega arith }

-- of an answer with a record
abbrev size_behind : Bool → List ℕ → ℕ
size_behind whole rest = if whole then size_by (from_be_bytes w32 (take 4 (drop 8 rest))) else 13

pub may_head : MayHave (82 ∷ []) 12
may_head = record {
  front_is = λ bytes few.
      subst (λ (whole : Bool). length (82 ∷ bytes) < size_behind whole bytes) (sym (lt-leb 12 (length bytes) few)) (omega (arith, few));
  most = omega arith;
}

-- the four bytes of the length, behind the eight of the number
four_of : (eight four more : List ℕ) → length eight ≡ 8 → length four ≡ 4 → take 4 (drop 8 ((eight ++ four) ++ more)) ≡ four
four_of eight four more is_eight is_four =
    ap (λ (l : List ℕ). take 4 (drop 8 l)) (append_assoc eight four more)
    ∙ ap (take 4) (drop_at eight (four ++ more) 8 is_eight)
    ∙ take_at four more 4 is_four

-- with a body of a length that one has
size_of_body : (n : ℕ) → 1 ≤ n → n ≤ 4_194_400 → size_by n ≡ 13 + n
size_of_body n some few =
    ap (λ (b : Bool). if b && nat_le n 4_194_400 then 13 + n else 13) (le-leb 1 n some)
    ∙ ap (λ (b : Bool). if b then 13 + n else 13) (le-leb n 4_194_400 few)

pub may_body : (eight four : List ℕ) → length eight ≡ 8 → length four ≡ 4 → from_be_bytes w32 four ≤ 4_194_400
    → MayHave (82 ∷ (eight ++ four)) (from_be_bytes w32 four)
may_body eight four is_eight is_four few = record {
  front_is = λ bytes less.
      let rest : List ℕ = (eight ++ four) ++ bytes in
      let size : length rest ≡ 12 + length bytes = omega (arith, length-append (eight ++ four) bytes, length-append eight four, is_eight, is_four) in
      let told : from_be_bytes w32 (take 4 (drop 8 rest)) ≡ from_be_bytes w32 four = ap (from_be_bytes w32) (four_of eight four bytes is_eight is_four) in
      subst (λ (whole : Bool). length (82 ∷ rest) < size_behind whole rest) (sym (le-leb 12 (length rest) (omega (arith, size))))
      (omega (arith, size, less, ap size_by told, size_of_body (from_be_bytes w32 four) (omega (arith, less)) few));
  most = omega (arith, length-append eight four, is_eight, is_four, few);
}

-- Why an answer is not there whole.

pub unread_by : (why : Short) (after bytes count : ℕ) (front : List ℕ) (p p' : PortSeen) (at : ℕ) → at ≡ bytes + length front → MayHave front count
    → ReadsShort why at count p p' → ReadsNone (end_by why after) after bytes front p p'
unread_by Intake.Ended after bytes count front p p' at eq may short = record {
  more = short.bytes;
  left = short.left;
  most = omega (arith, eq, short.most, length-append front short.bytes);
  why = inr (may.front_is short.bytes short.fewer, short.cause);
  told = refl;
}
unread_by Intake.Failed after bytes count front p p' at eq may short = record {
  more = short.bytes;
  left = short.left;
  most = omega (arith, eq, short.most, length-append front short.bytes);
  why = (may.front_is short.bytes short.fewer, short.cause);
  told = tt;
}
unread_by Intake.Spent after bytes count front p p' at eq may short = record {
  more = short.bytes;
  left = short.left;
  most = omega (arith, eq, short.most, length-append front short.bytes);
  why = may.front_is short.bytes short.fewer;
  told = omega (arith, eq, short.cause, length-append front short.bytes);
}
unread_by Intake.Memory after bytes count front p p' at eq may short = record {
  more = short.bytes;
  left = short.left;
  most = omega (arith, eq, short.most, length-append front short.bytes);
  why = (refl, omega (arith, short.fewer, may.most, length-append front short.bytes));
  told = tt;
}

-- memory was wanted to put what was read behind the front
pub unread_joined : (after bytes count : ℕ) (front more : List ℕ) (p p' : PortSeen) → MayHave front count → length more ≡ count
    → p.left ≡ prepend_known more p'.left → bytes + length front + count ≤ input_limit → ReadsNone (Stopped Memory) after bytes front p p'
unread_joined after bytes count front more p p' may size left most = record {
  more = more;
  left = left;
  most = omega (arith, most, size, length-append front more);
  why = (refl, omega (arith, size, may.most, length-append front more));
  told = tt;
}

unread_since : (end : FollowEnd) (rest : List ℕ) (p mid p' : PortSeen) → p.read_faults ≤ mid.read_faults → IsUnread end rest mid p' → IsUnread end rest p p'
unread_since (Strange after) rest p mid p' later why = why
unread_since ReadFault rest p mid p' later why = (why.0, rose_since p.read_faults mid.read_faults p'.read_faults later why.1)
unread_since Spent rest p mid p' later why = why
unread_since (Stopped stop) rest p mid p' later why = why
unread_since Done rest p mid p' later why = why
unread_since (Behind known count) rest p mid p' later why = why
unread_since WriteFault rest p mid p' later why = why

-- behind a front that was read first
pub unread_behind : (end : FollowEnd) (after bytes : ℕ) (first front : List ℕ) (p mid p' : PortSeen) → p.left ≡ prepend_known first mid.left
    → p.read_faults ≤ mid.read_faults → ReadsNone end after bytes (front ++ first) mid p' → ReadsNone end after bytes front p p'
unread_behind end after bytes first front p mid p' left later none =
    let same : front ++ (first ++ none.more) ≡ (front ++ first) ++ none.more = sym (append_assoc front first none.more) in
    record {
      more = first ++ none.more;
      left = left ∙ ap (prepend_known first) none.left ∙ known_taken p'.left first none.more;
      most = subst (λ (l : List ℕ). bytes + length l ≤ input_limit) (sym same) none.most;
      why = subst (λ (l : List ℕ). IsUnread end l p p') (sym same) (unread_since end ((front ++ first) ++ none.more) p mid p' later none.why);
      told = subst (λ (l : List ℕ). IsCounted end after (bytes + length l)) (sym same) none.told;
    }

-- No answer begins so.

letter_of : (letter : ℕ) (more : List ℕ) (a : Answer) → answer_text a ≡ letter ∷ more → (letter ≡ 82) ⊎ ((letter ≡ 69) ⊎ (letter ≡ 66))
letter_of letter more (Record number body) is = inl cc
letter_of letter more End is = inr (inl cc)
letter_of letter more (Summed count) is = inr (inr cc)

begins_none : (letter : ℕ) → (letter ≡ 69 → ⊥) → (letter ≡ 66 → ⊥) → (letter ≡ 82 → ⊥) → BeginsNone (letter ∷ [])
begins_none letter no_end no_count no_record a more fits is =
    elim (letter_of letter more a is) as (λ any. ⊥) [
      | inl record_is ↦ no_record record_is
      | inr other ↦ elim other as (λ any. ⊥) [
        | inl end_is ↦ no_end end_is
        | inr count_is ↦ no_count count_is
      ]
    ]

-- the four bytes behind the letter and the number
abbrev size_in : List ℕ → ℕ
size_in text = from_be_bytes w32 (take 4 (drop 8 (drop 1 text)))

size_of_record : (number : ℕ) (body : List ℕ) → length body ≤ 4_194_400 → size_in (answer_text (Record number body)) ≡ length body
size_of_record number body few =
    ap (λ (l : List ℕ). from_be_bytes w32 (take 4 l)) (drop_at (to_be_bytes w64 number) (to_be_bytes w32 (length body) ++ body) 8 refl)
    ∙ ap (from_be_bytes w32) (take_at (to_be_bytes w32 (length body)) body 4 refl)
    ∙ wide32.again (length body) (omega (arith, few))

-- a letter that no answer has
pub strange_letter : (bytes : List ℕ) → length bytes ≡ 1 → (get_or bytes 0 0 ≡ 69 → ⊥) → (get_or bytes 0 0 ≡ 66 → ⊥) → (get_or bytes 0 0 ≡ 82 → ⊥)
    → TurnsStrange bytes
strange_letter [] size no_end no_count no_record = absurd (omega (arith, size))
strange_letter (x ∷ []) size no_end no_count no_record = ([], x, refl, omega arith, begins_none x no_end no_count no_record)
strange_letter (x ∷ y ∷ ys) size no_end no_count no_record = absurd (omega (arith, size))

-- a length that no body has
begins_none_so : (eight four : List ℕ) → length eight ≡ 8 → length four ≡ 4
    → (from_be_bytes w32 four ≡ 0) ⊎ (4_194_400 < from_be_bytes w32 four) → BeginsNone (82 ∷ (eight ++ four))
begins_none_so eight four is_eight is_four wrong (Record number body) more fits is =
    let same : length body ≡ from_be_bytes w32 four =
    sym (size_of_record number body fits.2) ∙ ap size_in is ∙ ap (from_be_bytes w32) (four_of eight four more is_eight is_four) in
    elim wrong as (λ any. ⊥) [
      | inl none ↦ absurd (omega (arith, same, none, fits.1))
      | inr many ↦ absurd (omega (arith, same, many, fits.2))
    ]
begins_none_so eight four is_eight is_four wrong End more fits is =
    let no : 69 ≡ 82 = ap (λ (l : List ℕ). get_or l 0 0) is in absurd (omega (arith, no))
begins_none_so eight four is_eight is_four wrong (Summed count) more fits is =
    let no : 66 ≡ 82 = ap (λ (l : List ℕ). get_or l 0 0) is in absurd (omega (arith, no))

-- the bytes before the last one of the length
head_told : (eight three : List ℕ) → length eight ≡ 8 → length three ≡ 3 → IsAnswerFront (82 ∷ (eight ++ three))
head_told eight three is_eight is_three =
    let rest : List ℕ = eight ++ three in
    let size : length rest ≡ 11 = omega (arith, length-append eight three, is_eight, is_three) in
    subst (λ (whole : Bool). length (82 ∷ rest) < size_behind whole rest) (sym (lt-leb 12 (length rest) (omega (arith, size)))) (omega (arith, size))

pub no_such_body : (eight four : List ℕ) → length eight ≡ 8 → length four ≡ 4
    → (from_be_bytes w32 four ≡ 0) ⊎ (4_194_400 < from_be_bytes w32 four) → TurnsStrange (82 ∷ (eight ++ four))
no_such_body eight four is_eight is_four wrong =
    let three : List ℕ = take 3 four in
    let last : List ℕ = drop 3 four in
    let is_three : length three ≡ 3 = omega (arith, length-take 3 four, is_four) in
    let is_last : last ≡ get_or last 0 0 ∷ [] = one_is last (get_or last 0 0) (omega (arith, length-drop 3 four, is_four)) refl in
    let parts : four ≡ three ++ (get_or last 0 0 ∷ []) = sym (take-append-drop 3 four) ∙ ap (λ (l : List ℕ). three ++ l) is_last in (
      82 ∷ (eight ++ three),
      get_or last 0 0,
      ap (λ (l : List ℕ). 82 ∷ (eight ++ l)) parts ∙ ap (λ (l : List ℕ). 82 ∷ l) (sym (append_assoc eight three (get_or last 0 0 ∷ []))),
      head_told eight three is_eight is_three,
      begins_none_so eight four is_eight is_four wrong,
    )

-- Answers that are whole.

pub whole_end : (message : List ℕ) → message ≡ 69 ∷ [] → IsAnswer message End
whole_end message is = record { fits = tt; text = is }

pub whole_count : (message more : List ℕ) → message ≡ (66 ∷ []) ++ more → length more ≡ 8 → AreBytes more
    → IsAnswer message (Summed (from_be_bytes w64 more))
whole_count message more is size fits = record {
  fits = wide64.below more fits;
  text = is ∙ ap (λ (l : List ℕ). 66 ∷ l) (sym (wide64.back more size fits));
}

pub whole_record : (message eight four body : List ℕ) → message ≡ (82 ∷ (eight ++ four)) ++ body → length eight ≡ 8 → AreBytes eight
    → length four ≡ 4 → AreBytes four → length body ≡ from_be_bytes w32 four → 1 ≤ length body → length body ≤ 4_194_400
    → IsAnswer message (Record (from_be_bytes w64 eight) body)
whole_record message eight four body is is_eight eight_fits is_four four_fits size some few = record {
  fits = (wide64.below eight eight_fits, some, few);
  text = is
      ∙ ap (λ (l : List ℕ). 82 ∷ l) (append_assoc eight four body)
      ∙ ap (λ (l : List ℕ). 82 ∷ (l ++ (four ++ body))) (sym (wide64.back eight is_eight eight_fits))
      ∙ ap (λ (l : List ℕ). 82 ∷ (to_be_bytes w64 (from_be_bytes w64 eight) ++ (l ++ body)))
      (sym (wide32.back four is_four four_fits) ∙ ap (to_be_bytes w32) (sym size));
}

-- What was read behind a letter.

pub ok_more : {A F : Type 0} (P Q : A → Type 0) (r : Result A F) → ((x : A) → P x → Q x) → IfOk r P → IfOk r Q
ok_more P Q (Ok x) more is = more x is
ok_more P Q (Err e) more is = tt

pub err_more : {A F : Type 0} (P Q : F → Type 0) (r : Result A F) → ((x : F) → P x → Q x) → IfErr r P → IfErr r Q
err_more P Q (Ok x) more is = tt
err_more P Q (Err e) more is = more e is

bytes_drop : (n : ℕ) (bytes : List ℕ) → AreBytes bytes → AreBytes (drop n bytes)
bytes_drop n bytes fits i = rw get_or-drop (fits (n + i))

bytes_take : (n : ℕ) (bytes : List ℕ) → AreBytes bytes → AreBytes (take n bytes)
bytes_take n bytes fits i =
    elim (cases_lt i n) [
      | inl lt ↦ rw (get_or-take n bytes i 0 lt) (fits i)
      | inr le ↦ rw (get_or_past (take n bytes) i 0 (omega (arith, length-take n bytes))) (omega arith)
    ]

-- an answer that is the letter alone
pub end_read : (bytes : ℕ) (letter : List ℕ) (p q : PortSeen) → ReadsMore bytes [] letter 1 p q → get_or letter 0 0 ≡ 69 → ReadsAnswer bytes letter p q
end_read bytes letter p q read is = record {
  answer = End;
  is = whole_end letter (one_is letter 69 (omega (arith, ap (λ (l : List ℕ). length l) read.is, read.size)) is);
  left = read.left ∙ ap (λ (l : List ℕ). prepend_known l q.left) (sym read.is);
  most = read.most;
  not_ended = read.not_ended;
}

-- the letter of no answer
pub other_read : (after bytes : ℕ) (letter : List ℕ) (p q : PortSeen) → ReadsMore bytes [] letter 1 p q → (get_or letter 0 0 ≡ 69 → ⊥)
    → (get_or letter 0 0 ≡ 66 → ⊥) → (get_or letter 0 0 ≡ 82 → ⊥) → ReadsNone (Strange after) after bytes [] p q
other_read after bytes letter p q read no_end no_count no_record = record {
  more = letter;
  left = read.left ∙ ap (λ (l : List ℕ). prepend_known l q.left) (sym read.is);
  most = read.most;
  why = inl (strange_letter letter (omega (arith, ap (λ (l : List ℕ). length l) read.is, read.size)) no_end no_count no_record);
  told = refl;
}

-- a letter, and then no answer behind it
pub none_behind : (end : FollowEnd) (after bytes : ℕ) (letter : List ℕ) (p q r : PortSeen) → ReadsMore bytes [] letter 1 p q → p.read_faults ≤ q.read_faults
    → ReadsNone end after bytes letter q r → ReadsNone end after bytes [] p r
none_behind end after bytes letter p q r read later none =
    unread_behind end after bytes letter [] p q r (read.left ∙ ap (λ (l : List ℕ). prepend_known l q.left) (sym read.is)) later none

module _ (bytes : ℕ) (letter : List ℕ) (p : PortSeen) where
  -- how many are summed up
  pub count_read : (q : PortSeen) → letter ≡ 66 ∷ [] → (message : List ℕ) → ReadsMore bytes letter message 8 p q → (o : PortSeen)
      → o.left ≡ prepend_known letter p.left → ReadsAnswer bytes message o q
  count_read q is message read o left = record {
    answer = Summed (from_be_bytes w64 read.more);
    is = whole_count message read.more (read.is ∙ ap (λ (l : List ℕ). l ++ read.more) is) read.size read.fits;
    left = left ∙ ap (prepend_known letter) read.left ∙ known_taken q.left letter read.more ∙ ap (λ (l : List ℕ). prepend_known l q.left) (sym read.is);
    most = read.most;
    not_ended = read.not_ended;
  }

-- what stands from the tenth byte on
pub length_from : (n : ℕ) (now front : List ℕ) → now ≡ front → n ≡ from_be_bytes w32 (take (length now - 9) (drop 9 now)) → n ≡ from_be_bytes w32 (drop 9 front)
length_from n now front same is =
    is ∙ ap (from_be_bytes w32) (take_all (length now - 9) (drop 9 now) (omega (arith, length-drop 9 now)))
    ∙ ap (λ (l : List ℕ). from_be_bytes w32 (drop 9 l)) same

-- A record's letter, number and length were read.
module _ (bytes after : ℕ) (letter front : List ℕ) (p q : PortSeen) (is_letter : letter ≡ 82 ∷ []) (head : ReadsMore bytes letter front 12 p q) where
  abbrev eight : List ℕ
  eight = take 8 head.more

  abbrev four : List ℕ
  four = drop 8 head.more

  is_eight : length eight ≡ 8
  is_eight = omega (arith, length-take 8 head.more, head.size)

  is_four : length four ≡ 4
  is_four = omega (arith, length-drop 8 head.more, head.size)

  front_parts : letter ++ head.more ≡ 82 ∷ (eight ++ four)
  front_parts = ap (λ (l : List ℕ). l ++ head.more) is_letter ∙ ap (λ (l : List ℕ). 82 ∷ l) (sym (take-append-drop 8 head.more))

  front_is : front ≡ 82 ∷ (eight ++ four)
  front_is = head.is ∙ front_parts

  length_is : (n : ℕ) → n ≡ from_be_bytes w32 (drop 9 front) → n ≡ from_be_bytes w32 four
  length_is n is = is ∙ ap (λ (l : List ℕ). from_be_bytes w32 (drop 9 l)) front_is ∙ ap (from_be_bytes w32) (drop_at eight four 8 is_eight)

  wrong_same : (n m : ℕ) → n ≡ m → (n ≡ 0) ⊎ (4_194_400 < n) → (m ≡ 0) ⊎ (4_194_400 < m)
  wrong_same n m same wrong = subst (λ (k : ℕ). (k ≡ 0) ⊎ (4_194_400 < k)) same wrong

  pub length_strange : (n : ℕ) → n ≡ from_be_bytes w32 (drop 9 front) → (n ≡ 0) ⊎ (4_194_400 < n) → ReadsNone (Strange after) after bytes letter p q
  length_strange n is wrong = record {
    more = head.more;
    left = head.left;
    most = subst (λ (l : List ℕ). bytes + length l ≤ input_limit) head.is head.most;
    why = inl (subst TurnsStrange (sym front_parts) (no_such_body eight four is_eight is_four (wrong_same n (from_be_bytes w32 four) (length_is n is) wrong)));
    told = refl;
  }

  pub body_may : (n : ℕ) → n ≡ from_be_bytes w32 (drop 9 front) → n ≤ 4_194_400 → MayHave front n
  body_may n is few =
      let same : n ≡ from_be_bytes w32 four = length_is n is in
      subst (λ (k : ℕ). MayHave front k) (sym same)
      (subst (λ (l : List ℕ). MayHave l (from_be_bytes w32 four)) (sym front_is) (may_body eight four is_eight is_four (omega (arith, same, few))))

  pub record_read : (n : ℕ) (message : List ℕ) (r : PortSeen) → n ≡ from_be_bytes w32 (drop 9 front) → 1 ≤ n → n ≤ 4_194_400
      → ReadsMore bytes front message n q r → (o : PortSeen) → o.left ≡ prepend_known letter p.left → ReadsAnswer bytes message o r
  record_read n message r is some few read o left = record {
    answer = Record (from_be_bytes w64 eight) read.more;
    is = whole_record message eight four read.more (read.is ∙ ap (λ (l : List ℕ). l ++ read.more) front_is) is_eight (bytes_take 8 head.more head.fits)
        is_four (bytes_drop 8 head.more head.fits) (read.size ∙ length_is n is) (omega (arith, read.size, some)) (omega (arith, read.size, few));
    left = left ∙ ap (prepend_known letter) head.left ∙ known_taken q.left letter head.more ∙ ap (λ (l : List ℕ). prepend_known l q.left) (sym head.is)
        ∙ ap (prepend_known front) read.left ∙ known_taken r.left front read.more ∙ ap (λ (l : List ℕ). prepend_known l r.left) (sym read.is);
    most = read.most;
    not_ended = read.not_ended;
  }

  pub none_behind_head : (end : FollowEnd) (r : PortSeen) → p.read_faults ≤ q.read_faults → ReadsNone end after bytes front q r → ReadsNone end after bytes letter p r
  none_behind_head end r later none =
      unread_behind end after bytes head.more letter p q r head.left later (subst (λ (l : List ℕ). ReadsNone end after bytes l q r) head.is none)

-- One turn behind another.

pub so_none : (b : Summary) (h : List Entry) (p : PortSeen) → SoFar b h h 0 0 p p
so_none b h p = record {
  turns = [];
  count_is = refl;
  bytes_are = refl;
  left = prepend_none p.left;
  each = refl;
  output = sym (known_none p.written);
  goes = record { reads = omega arith; writes = omega arith; others = ports_none p };
}

module _ {D : Type 0} (seen : D → DiskSeen) where
  pub so_more : (b : Summary) (h mid : List Entry) (s : Stored D) (count bytes size : ℕ) (p q r : PortSeen) → SoFar b h mid count bytes p q
      → (t : TakesTurn seen b mid s size q r) → SoFar b h t.history (count + 1) (bytes + size) p r
  so_more b h mid s count bytes size p q r so t = record {
    turns = t.turn ∷ so.turns;
    count_is = omega (arith, so.count_is);
    bytes_are = omega (arith, length-append (answers_text so.turns) t.turn.answer, so.bytes_are, t.size_is);
    left = so.left ∙ ap (prepend_known (answers_text so.turns)) t.left ∙ known_taken r.left (answers_text so.turns) t.turn.answer;
    each = (mid, so.each, t.is);
    output = t.output ∙ ap (λ (w : Option (List ℕ)). append_known w (ask_text t.turn.number)) so.output ∙ known_both p.written (asks_text so.turns) (ask_text t.turn.number);
    goes = goes_then p q r so.goes t.goes;
  }

-- what is said since an earlier moment

untaken_since : (shows : List ℕ → Stop → Type 0) (end : FollowEnd) (b : Summary) (h : List Entry) (rest : List ℕ) (p q r : PortSeen) → GoesOn p q
    → IsUntaken shows end b h rest q r → IsUntaken shows end b h rest p r
untaken_since shows Done b h rest p q r goes why = why
untaken_since shows (Behind known count) b h rest p q r goes why = why
untaken_since shows (Strange after) b h rest p q r goes why = why
untaken_since shows ReadFault b h rest p q r goes why = (why.0, rose_since p.read_faults q.read_faults r.read_faults goes.reads why.1)
untaken_since shows WriteFault b h rest p q r goes why = (why.0, rose_since p.write_faults q.write_faults r.write_faults goes.writes why.1)
untaken_since shows Spent b h rest p q r goes why = why
untaken_since shows (Stopped stop) b h rest p q r goes why = why

wrote_behind : (before more : List ℕ) (p q r : PortSeen) → Wrote p q before → Wrote q r more → Wrote p r (before ++ more)
wrote_behind before more p q r one two = two ∙ ap (λ (w : Option (List ℕ)). append_known w more) one ∙ known_both p.written before more

asking_behind : (end : FollowEnd) (before : List ℕ) (n : ℕ) (p q r : PortSeen) → Wrote p q before → EndsAsking end [] n q r → EndsAsking end before n p r
asking_behind WriteFault before n p q r wrote e = (e.0, e.1, wrote_behind before (take e.0 (ask_text n)) p q r wrote e.2)
asking_behind Done before n p q r wrote e = wrote_behind before (ask_text n) p q r wrote e
asking_behind (Behind known count) before n p q r wrote e = wrote_behind before (ask_text n) p q r wrote e
asking_behind (Strange after) before n p q r wrote e = wrote_behind before (ask_text n) p q r wrote e
asking_behind ReadFault before n p q r wrote e = wrote_behind before (ask_text n) p q r wrote e
asking_behind Spent before n p q r wrote e = wrote_behind before (ask_text n) p q r wrote e
asking_behind (Stopped stop) before n p q r wrote e = wrote_behind before (ask_text n) p q r wrote e

counted_same : (end : FollowEnd) (count count' bytes bytes' : ℕ) → count' ≡ count → bytes' ≡ bytes → IsCounted end count bytes → IsCounted end count' bytes'
counted_same end count count' bytes bytes' counts sizes told =
    subst (λ (n : ℕ). IsCounted end n bytes') (sym counts) (subst (λ (n : ℕ). IsCounted end count n) (sym sizes) told)

pub followed_by : (shows : List ℕ → Stop → Type 0) (end : FollowEnd) (b : Summary) (h h' : List Entry) (count bytes : ℕ) (p q r : PortSeen)
    → SoFar b h h' count bytes p q → TakesNone shows end b h' count bytes q r → HasFollowed shows end b h h' p r
followed_by shows end b h h' count bytes p q r so none = record {
  turns = so.turns;
  rest = none.rest;
  left = so.left ∙ ap (prepend_known (answers_text so.turns)) none.left ∙ known_taken r.left (answers_text so.turns) none.rest;
  most = omega (arith, none.most, so.bytes_are);
  each = so.each;
  why = untaken_since shows end b h' none.rest p q r so.goes none.why;
  told = counted_same end count (length so.turns) (bytes + length none.rest) (length (answers_text so.turns) + length none.rest) so.count_is
      (ap (λ (n : ℕ). n + length none.rest) so.bytes_are) none.told;
  output = asking_behind end (asks_text so.turns) (have b h') p q r so.output none.output;
  others = ports_more so.goes.others none.goes.others;
}
