-- What a line of the desk says, by its words.
use Rattle.std.specs.Prelude.{ℕ, ◌+◌, ◌==◌, List, [], ◌∷◌, if◌then◌else◌, Option, Some, None, nat_le, length, take, drop, codes}
use Rattle.std.specs.List.{position}
use Rattle.std.specs.Option.{option_map, unwrap_or}
use Rattle.std.specs.Str.{bytes_eq}
use Rattle.alarm_rules.specs.SetupLines.{words_of, after, is_nil, provided}
use Rattle.alarm_rules.specs.SetupWords.{word_that, class_named}
use Rattle.arc_data.specs.Digits.{is_name, is_account}
use Rattle.arc_data.specs.declared.listing.Row.{Row}
use Rattle.arc_data.specs.declared.listing.View.{View}
use Rattle.desk_wire.specs.Commands.{one_number}
use Rattle.desk_wire.specs.Names.{number_spelled, step_named}
use Rattle.desk_said.specs.Words.{count_spelled, step_or_none, holder_or, line_or_dash, yes_or_no}
use Rattle.desk_said.specs.declared.said.Said.{Said}
use Rattle.desk_said.specs.declared.said.Said.TheVariants.{Welcome, Denied, What, Bye, Claimed, NoneWaiting, BusyWith, HeldBy, NotOpen}
use Rattle.desk_said.specs.declared.said.Said.TheVariants.{NotYours, Expected, Missing, Recorded, Released, Closed}
use Rattle.desk_said.specs.declared.said.Said.TheVariants.{Listed, Shown, Unknown, Strange}
use Rattle.desk_said.specs.declared.shown.Subject.{Subject}
use Rattle.desk_said.specs.declared.shown.Opened.{Opened}

-- Parts of lines.

-- the first word is this one, and what follows it says the rest
abbrev pub behind : List ℕ → (List (List ℕ) → Option Said) → List (List ℕ) → Option Said
behind label rest [] = None
behind label rest (word ∷ words) = if bytes_eq word label then rest words else None

abbrev pub alone : Said → List (List ℕ) → Option Said
alone said words = provided (is_nil words) said

abbrev pub one_word : List (List ℕ) → Option (List ℕ)
one_word (word ∷ []) = Some word
one_word other = None

abbrev pub numbered : (ℕ → Said) → List (List ℕ) → Option Said
numbered made words = option_map made (one_number words)

-- a text of at most 32 bytes
abbrev pub short : List ℕ → Option (List ℕ)
short word = word_that (λ w. nat_le (length w) 32) word

-- the first word is this one; the one behind it, and the words that follow
abbrev pub labelled : List ℕ → List (List ℕ) → Option (List ℕ × List (List ℕ))
labelled label [] = None
labelled label (word ∷ []) = None
labelled label (word ∷ value ∷ rest) = if bytes_eq word label then Some (value, rest) else None

-- Lines, by the words behind the first one.

-- a name of an operator, and nothing behind it
abbrev pub name_last : List (List ℕ) → Option (List ℕ)
name_last words = after (one_word words) (word_that is_name)

-- `ok NAME`
abbrev pub welcome_line : List (List ℕ) → Option Said
welcome_line words = option_map Welcome (name_last words)

-- `busy with NUMBER`, `held by NAME`, `none waiting`, `not open NUMBER` and `not yours NUMBER`
abbrev pub busy_line : List (List ℕ) → Option Said
busy_line words = behind (codes "with") (numbered BusyWith) words

abbrev pub held_line : List (List ℕ) → Option Said
held_line words = behind (codes "by") (λ rest. option_map HeldBy (name_last rest)) words

abbrev pub none_line : List (List ℕ) → Option Said
none_line words = behind (codes "waiting") (alone NoneWaiting) words

abbrev pub not_line : List (List ℕ) → Option Said
not_line [] = None
not_line (word ∷ words) =
    if bytes_eq word (codes "open") then numbered NotOpen words
    else if bytes_eq word (codes "yours") then numbered NotYours words
    else None

-- `expected STEP` or `expected none`, `missing STEP`, `recorded NUMBER left COUNT`
abbrev pub expected_line : List (List ℕ) → Option Said
expected_line words = after (one_word words) (λ word. option_map Expected (step_or_none word))

abbrev pub missing_line : List (List ℕ) → Option Said
missing_line words = after (one_word words) (λ word. option_map Missing (step_named word))

abbrev pub recorded_line : List (List ℕ) → Option Said
recorded_line (digits ∷ label ∷ count ∷ []) =
    after (number_spelled digits) (λ number.
    after (count_spelled count) (λ left.
    provided (bytes_eq label (codes "left")) (Recorded number left)))
recorded_line other = None

-- `NUMBER CLASS ACCOUNT`, and the words that follow
abbrev pub subject_of : List ℕ → List ℕ → List ℕ → Option Subject
subject_of digits name account =
    after (number_spelled digits) (λ number.
    after (class_named name) (λ class.
    option_map (λ a. record { number = number; class = class; account = a }) (word_that is_account account)))

abbrev pub subject_first : List (List ℕ) → Option (Subject × List (List ℕ))
subject_first (digits ∷ name ∷ account ∷ rest) = option_map (λ subject. (subject, rest)) (subject_of digits name account)
subject_first other = None

-- `claimed NUMBER CLASS ACCOUNT`
abbrev pub claimed_line : List (List ℕ) → Option Said
claimed_line (digits ∷ class ∷ account ∷ []) = option_map (λ s. Claimed s.number s.class s.account) (subject_of digits class account)
claimed_line other = None

-- `NUMBER CLASS ACCOUNT code CODE opened MOMENT`, and the words that follow
abbrev pub opened_first : List (List ℕ) → Option (Opened × List (List ℕ))
opened_first words =
    after (subject_first words) (λ subject.
    after (labelled (codes "code") subject.1) (λ code.
    after (labelled (codes "opened") code.1) (λ at.
    after (short code.0) (λ text.
    option_map (λ moment. (record { subject = subject.0; code = text; at = moment }, at.1)) (count_spelled at.0)))))

abbrev pub view_of : Opened → List ℕ → List ℕ → List ℕ → List ℕ → List ℕ → Option Said
view_of o signals restored holder next via =
    after (count_spelled signals) (λ count.
    after (yes_or_no restored) (λ ended.
    after (holder_or (codes "none") holder) (λ name.
    after (step_or_none next) (λ step.
    option_map (λ line. Shown (record {
      number = o.subject.number;
      class = o.subject.class;
      account = o.subject.account;
      code = o.code;
      at = o.at;
      signals = count;
      restored = ended;
      holder = name;
      expected = step;
      via = line;
    })) (line_or_dash via)))))

-- `signals COUNT restored yes holder NAME next STEP via LINE`
abbrev pub since_line : Opened → List (List ℕ) → Option Said
since_line o words =
    after (labelled (codes "signals") words) (λ signals.
    after (labelled (codes "restored") signals.1) (λ restored.
    after (labelled (codes "holder") restored.1) (λ holder.
    after (labelled (codes "next") holder.1) (λ next.
    after (labelled (codes "via") next.1) (λ via.
    if is_nil via.1 then view_of o signals.0 restored.0 holder.0 next.0 via.0 else None)))))

abbrev pub shown_line : List (List ℕ) → Option Said
shown_line words = after (opened_first words) (λ opened. since_line opened.0 opened.1)

-- what stands before the first slash, and what behind it
abbrev pub part_first : List ℕ → Option (List ℕ × List ℕ)
part_first text = option_map (λ place. (take place text, drop (place + 1) text)) (position (λ b. b == 47) text)

-- one incident of a list, as `NUMBER/CLASS/ACCOUNT/HOLDER`
abbrev pub row_spelled : List ℕ → Option Row
row_spelled word =
    after (part_first word) (λ number.
    after (part_first number.1) (λ class.
    after (part_first class.1) (λ account.
    after (subject_of number.0 class.0 account.0) (λ s.
    option_map (λ name. record { number = s.number; class = s.class; account = s.account; holder = name })
    (holder_or (codes "-") account.1)))))

-- what every word reads as, where each can be read
abbrev pub each_row : List (List ℕ) → Option (List Row)
each_row [] = Some []
each_row (word ∷ words) = after (row_spelled word) (λ row. option_map (λ rows. row ∷ rows) (each_row words))

-- at most 16 incidents
abbrev pub rows_spelled : List (List ℕ) → Option (List Row)
rows_spelled words = if nat_le (length words) 16 then each_row words else None

-- `list COUNT` and the incidents
abbrev pub listed_line : List (List ℕ) → Option Said
listed_line [] = None
listed_line (digits ∷ words) = after (count_spelled digits) (λ total. option_map (λ rows. Listed total rows) (rows_spelled words))

-- answers of one form, by their first word: those without a number, those with nothing but one, and the others
abbrev pub said_plainly : List ℕ → List (List ℕ) → Option Said
said_plainly word words =
    if bytes_eq word (codes "ok") then welcome_line words
    else if bytes_eq word (codes "none") then none_line words
    else if bytes_eq word (codes "denied") then alone Denied words
    else if bytes_eq word (codes "what") then alone What words
    else if bytes_eq word (codes "bye") then alone Bye words
    else if bytes_eq word (codes "unknown") then alone Unknown words
    else None

abbrev pub said_shortly : List ℕ → List (List ℕ) → Option Said
said_shortly word words =
    if bytes_eq word (codes "released") then numbered Released words
    else if bytes_eq word (codes "closed") then numbered Closed words
    else if bytes_eq word (codes "not") then not_line words
    else if bytes_eq word (codes "busy") then busy_line words
    else if bytes_eq word (codes "held") then held_line words
    else said_plainly word words

abbrev pub said_by : List ℕ → List (List ℕ) → Option Said
said_by word words =
    if bytes_eq word (codes "list") then listed_line words
    else if bytes_eq word (codes "incident") then shown_line words
    else if bytes_eq word (codes "claimed") then claimed_line words
    else if bytes_eq word (codes "recorded") then recorded_line words
    else if bytes_eq word (codes "expected") then expected_line words
    else if bytes_eq word (codes "missing") then missing_line words
    else said_shortly word words

abbrev pub said_by_words : List (List ℕ) → Option Said
said_by_words [] = None
said_by_words (word ∷ words) = said_by word words

-- What a line, without its end, says. One space stands between two words. A line of no form is strange.
unfoldable pub said_of : List ℕ → Said
said_of line = unwrap_or (said_by_words (words_of line)) Strange
