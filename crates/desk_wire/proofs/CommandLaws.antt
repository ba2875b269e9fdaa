-- Commands as they are spelled and as they are read.
use Rattle.std.proofs.Common.{◌≡◌, ℕ, List, [], ◌∷◌, ◌++◌, Bool, true, false, cond, eqb, leb, Option, Some, None, refl, sym, ◌∙◌, ap, subst, append_assoc, arith}
use Rattle.std.specs.Prelude.{decimal, codes}
use Rattle.std.specs.List.{list_any, list_all, join_with_byte}
use Rattle.std.specs.Option.{option_map}
use Rattle.std.specs.Str.{bytes_eq}
use Rattle.std.proofs.lemmas.Bool.{and_parts, or_parts, or_from, eqb-true, leb-true}
use Rattle.std.proofs.lemmas.List.Splits.{join_with_byte-slice_split}
use Rattle.std.proofs.lemmas.Slice.Eq.{bytes_eq-Decides}
use Rattle.alarm_rules.specs.SetupLines.{words_of, after, provided}
use Rattle.alarm_rules.specs.SetupWords.{is_pin}
use Rattle.arc_data.specs.Digits.{is_name, is_name_byte, is_digit}
use Rattle.arc_data.specs.Steps.{fits, is_step}
use Rattle.arc_data.specs.declared.event.CloseCode.{CloseCode}
use Rattle.arc_data.specs.declared.event.CloseCode.TheVariants.{Real, False, Test}
use Rattle.arc_data.specs.declared.step.Outcome.{Outcome}
use Rattle.arc_data.specs.declared.step.Outcome.TheVariants.{Reached, NoAnswer, Done}
use Rattle.arc_data.specs.declared.step.Step.{Step}
use Rattle.arc_data.specs.declared.step.Step.TheVariants.{Premises, Holder, Police, Fire, Ambulance, Guard, Note}
use Rattle.desk_wire.specs.Commands.{login_line, alone, one_number, act_line, close_line, command_of_words, command_of}
use Rattle.desk_wire.specs.Names.{step_name, outcome_name, code_name, step_named, outcome_named, code_named, number_spelled}
use Rattle.desk_wire.specs.Laws.{spelling, IsTyped, IsCommand, IsRead}
use Rattle.desk_wire.specs.declared.command.Command.{Command}
use Rattle.desk_wire.specs.declared.command.Command.TheVariants.{Login, Quit, Next, Claim, Act, Release, Close, Show, List as Rows}
use Rattle.desk_wire.proofs.NumberLaws.{number_is, number_found, step_is, outcome_is, code_is, step_found, outcome_found, code_found, is_space, IsWord, decimal_word}

-- What is read.

then_is : {A B : Type 0} (part : Option A) (rest : A → Option B) (b : B) → after part rest ≡ Some b → (a : A) × (part ≡ Some a) × (rest a ≡ Some b)
then_is None rest b is = absurd cc
then_is (Some a) rest b is = (a, refl, is)

provided_is : {A : Type 0} (test : Bool) (a b : A) → provided test a ≡ Some b → (test ≡ true) × (a ≡ b)
provided_is true a b is = (refl, cc)
provided_is false a b is = absurd cc

mapped_is : {A B : Type 0} (f : A → B) (part : Option A) (b : B) → option_map f part ≡ Some b → (a : A) × (part ≡ Some a) × (f a ≡ b)
mapped_is f None b is = absurd cc
mapped_is f (Some a) b is = (a, refl, cc)

-- a line of these words reads as the command
abbrev AreRead : List (List ℕ) → Command → Type 0
AreRead words c = IsRead (join_with_byte 32 words) c

login_step : (name pin : List ℕ) (s t : Bool) (c : Command) → is_name name ≡ s → is_pin pin ≡ t
    → after (cond s (Some name) None) (λ n. option_map (Login n) (cond t (Some pin) None)) ≡ Some c → AreRead (codes "login" ∷ name ∷ pin ∷ []) c
login_step name pin true true c named digits is =
    let it : Login name pin ≡ c = cc in
    subst (AreRead (codes "login" ∷ name ∷ pin ∷ [])) it (record {
      spelled = ap (λ l. codes "login " ++ l) (sym (append_assoc name (32 ∷ []) pin)) ∙ sym (append_assoc (codes "login ") (name ++ 32 ∷ []) pin) ∙ ap (λ l. l ++ pin) (sym (append_assoc (codes "login ") name (32 ∷ [])));
      ranges = record { named = named; digits = digits };
    })
login_step name pin true false c named digits is = absurd cc
login_step name pin false t c named digits is = absurd cc

login_is : (words : List (List ℕ)) (c : Command) → login_line words ≡ Some c → AreRead (codes "login" ∷ words) c
login_is [] c is = absurd cc
login_is (name ∷ []) c is = absurd cc
login_is (name ∷ pin ∷ []) c is = login_step name pin (is_name name) (is_pin pin) c refl refl is
login_is (name ∷ pin ∷ word ∷ words) c is = absurd cc

alone_is : (first : List ℕ) (words : List (List ℕ)) (whole c : Command) → first ≡ spelling whole → IsCommand whole → alone whole words ≡ Some c → AreRead (first ∷ words) c
alone_is first [] whole c spelled ranges is = subst (AreRead (first ∷ [])) (provided_is true whole c is).1 (record { spelled = spelled; ranges = ranges })
alone_is first (word ∷ words) whole c spelled ranges is = absurd cc

number_line : (first : List ℕ) (words : List (List ℕ)) (made : ℕ → Command) (c : Command) → ((n : ℕ) → first ++ 32 ∷ decimal n ≡ spelling (made n)) → ((n : ℕ) → IsTyped n → IsCommand (made n))
    → option_map made (one_number words) ≡ Some c → AreRead (first ∷ words) c
number_line first [] made c spelled ranges is = absurd cc
number_line first (word ∷ []) made c spelled ranges is =
    let m = mapped_is made (number_spelled word) c is in
    let n = number_is word m.0 m.1 in
    subst (AreRead (first ∷ word ∷ [])) m.2 (record { spelled = ap (λ l. first ++ 32 ∷ l) n.spelled ∙ spelled m.0; ranges = ranges m.0 n.typed })
number_line first (word ∷ next ∷ words) made c spelled ranges is = absurd cc

-- three words and four, with their spaces
two_spaced : (first a b : List ℕ) → first ++ 32 ∷ (a ++ 32 ∷ b) ≡ first ++ (32 ∷ []) ++ a ++ (32 ∷ []) ++ b
two_spaced first a b =
    ap (λ l. first ++ l) (ap (λ l. 32 ∷ l) (sym (append_assoc a (32 ∷ []) b)))
    ∙ sym (append_assoc first (32 ∷ []) ((a ++ 32 ∷ []) ++ b))
    ∙ sym (append_assoc (first ++ 32 ∷ []) (a ++ 32 ∷ []) b)
    ∙ ap (λ l. l ++ b) (sym (append_assoc (first ++ 32 ∷ []) a (32 ∷ [])))

three_spaced : (first a b d : List ℕ) → first ++ 32 ∷ (a ++ 32 ∷ (b ++ 32 ∷ d)) ≡ first ++ (32 ∷ []) ++ a ++ (32 ∷ []) ++ b ++ (32 ∷ []) ++ d
three_spaced first a b d = two_spaced first a (b ++ 32 ∷ d) ∙ sym (append_assoc (first ++ (32 ∷ []) ++ a ++ (32 ∷ [])) b (32 ∷ d)) ∙ sym (append_assoc (first ++ (32 ∷ []) ++ a ++ (32 ∷ []) ++ b) (32 ∷ []) d)

act_is : (words : List (List ℕ)) (c : Command) → act_line words ≡ Some c → AreRead (codes "act" ∷ words) c
act_is [] c is = absurd cc
act_is (a ∷ []) c is = absurd cc
act_is (a ∷ b ∷ []) c is = absurd cc
act_is (a ∷ b ∷ d ∷ []) c is =
    let number = then_is (number_spelled a) _ c is in
    let step = then_is (step_named b) _ c number.2 in
    let outcome = then_is (outcome_named d) _ c step.2 in
    let made = provided_is (fits step.0 outcome.0) (Act number.0 step.0 outcome.0) c outcome.2 in
    let n = number_is a number.0 number.1 in
    let s = step_is b step.0 step.1 in
    let o = outcome_is d outcome.0 outcome.1 in
    subst (AreRead (codes "act" ∷ a ∷ b ∷ d ∷ [])) made.1 (record {
      spelled =
          three_spaced (codes "act") a b d ∙ ap (λ l. codes "act " ++ l ++ (32 ∷ []) ++ b ++ (32 ∷ []) ++ d) n.spelled
          ∙ ap (λ l. codes "act " ++ decimal number.0 ++ (32 ∷ []) ++ l ++ (32 ∷ []) ++ d) s.0
          ∙ ap (λ l. codes "act " ++ decimal number.0 ++ (32 ∷ []) ++ step_name step.0 ++ (32 ∷ []) ++ l) o;
      ranges = record { numbered = n.typed; known = s.1; fitting = made.0 };
    })
act_is (a ∷ b ∷ d ∷ e ∷ words) c is = absurd cc

close_is : (words : List (List ℕ)) (c : Command) → close_line words ≡ Some c → AreRead (codes "close" ∷ words) c
close_is [] c is = absurd cc
close_is (a ∷ []) c is = absurd cc
close_is (a ∷ b ∷ []) c is =
    let number = then_is (number_spelled a) _ c is in
    let code = mapped_is (Close number.0) (code_named b) c number.2 in
    let n = number_is a number.0 number.1 in
    subst (AreRead (codes "close" ∷ a ∷ b ∷ [])) code.2 (record {
      spelled =
          two_spaced (codes "close") a b ∙ ap (λ l. codes "close " ++ l ++ (32 ∷ []) ++ b) n.spelled
          ∙ ap (λ l. codes "close " ++ decimal number.0 ++ (32 ∷ []) ++ l) (code_is b code.0 code.1);
      ranges = n.typed;
    })
close_is (a ∷ b ∷ d ∷ words) c is = absurd cc

-- the form that the first word tells
form : (name word : List ℕ) (words : List (List ℕ)) (t : Bool) (this other : Option Command) (c : Command) → bytes_eq word name ≡ t → (this ≡ Some c → AreRead (name ∷ words) c)
    → (other ≡ Some c → AreRead (word ∷ words) c) → cond t this other ≡ Some c → AreRead (word ∷ words) c
form name word words true this other c same here there is = subst (λ (w : List ℕ). AreRead (w ∷ words) c) (sym ((bytes_eq-Decides word name).0 same)) (here is)
form name word words false this other c same here there is = there is

no_form : (words : List (List ℕ)) (c : Command) → None ≡ Some c → AreRead words c
no_form words c is = absurd cc

words_are_read : (words : List (List ℕ)) (c : Command) → command_of_words words ≡ Some c → AreRead words c
words_are_read [] c is = absurd cc
words_are_read (word ∷ words) c is =
    form (codes "login") word words _ _ _ c refl (login_is words c)
    (form (codes "quit") word words _ _ _ c refl (alone_is (codes "quit") words Quit c refl tt)
    (form (codes "next") word words _ _ _ c refl (alone_is (codes "next") words Next c refl tt)
    (form (codes "claim") word words _ _ _ c refl (number_line (codes "claim") words Claim c (λ n. refl) (λ n t. t))
    (form (codes "act") word words _ _ _ c refl (act_is words c)
    (form (codes "release") word words _ _ _ c refl (number_line (codes "release") words Release c (λ n. refl) (λ n t. t))
    (form (codes "close") word words _ _ _ c refl (close_is words c)
    (form (codes "show") word words _ _ _ c refl (number_line (codes "show") words Show c (λ n. refl) (λ n t. t))
    (form (codes "list") word words _ _ _ c refl (alone_is (codes "list") words Rows c refl tt)
    (no_form (word ∷ words) c))))))))) is

pub read_is_spelled : (line : List ℕ) (c : Command) → command_of line ≡ Some c → IsRead line c
unfolding command_of
read_is_spelled line c is = subst (λ (l : List ℕ). IsRead l c) (join_with_byte-slice_split 32 line) (words_are_read (words_of line) c is)

-- What is spelled.

split_word : (word : List ℕ) → IsWord word → words_of word ≡ word ∷ []
split_word [] none = refl
split_word (b ∷ word) none =
    let h = or_parts (is_space b) (list_any is_space word) none in
    rw (h.0, split_word word h.1) refl

split_more : (word rest : List ℕ) → IsWord word → words_of (word ++ 32 ∷ rest) ≡ word ∷ words_of rest
split_more [] rest none = refl
split_more (b ∷ word) rest none =
    let h = or_parts (is_space b) (list_any is_space word) none in
    rw (h.0, split_more word rest h.1) refl

-- bytes of a kind that has no space
word_step : (test : ℕ → Bool) (b : ℕ) (t : Bool) → test 32 ≡ false → test b ≡ true → eqb b 32 ≡ t → t ≡ false
word_step test b true clear ok is = absurd (let same = ap test (eqb-true b 32 is) in cc)
word_step test b false clear ok is = refl

word_of_kind : (test : ℕ → Bool) (word : List ℕ) → test 32 ≡ false → list_all test word ≡ true → IsWord word
word_of_kind test [] clear all = refl
word_of_kind test (b ∷ word) clear all =
    let h = and_parts (test b) (list_all test word) all in
    or_from _ _ (word_step test b (eqb b 32) clear h.0 refl) (word_of_kind test word clear h.1)

name_word : (name : List ℕ) → is_name name ≡ true → IsWord name
name_word name is = word_of_kind is_name_byte name refl (and_parts _ (list_all is_name_byte name) is).1

pin_word : (pin : List ℕ) → is_pin pin ≡ true → IsWord pin
pin_word pin is = word_of_kind is_digit pin refl (and_parts _ (list_all is_digit pin) is).1

step_word : (step : Step) → is_step step ≡ true → IsWord (step_name step)
step_word Premises known = refl
step_word (Holder n) known = decimal_word n (omega (arith, leb-true n 4 (and_parts (leb 1 n) (leb n 4) known).1))
step_word Police known = refl
step_word Fire known = refl
step_word Ambulance known = refl
step_word Guard known = refl
step_word Note known = refl

outcome_word : (outcome : Outcome) → IsWord (outcome_name outcome)
outcome_word Reached = refl
outcome_word NoAnswer = refl
outcome_word Done = refl

code_word : (code : CloseCode) → IsWord (code_name code)
code_word Real = refl
code_word False = refl
code_word Test = refl

-- a command of one number
number_read : (n : ℕ) (made : ℕ → Command) → IsTyped n → option_map made (one_number (words_of (decimal n))) ≡ Some (made n)
number_read n made typed =
    ap (λ ws. option_map made (one_number ws)) (split_word (decimal n) (decimal_word n typed.fits)) ∙ ap (option_map made) (number_found (decimal n) n refl typed.some typed.fits)

act_made : (d s o : List ℕ) (n : ℕ) (step : Step) (outcome : Outcome) → number_spelled d ≡ Some n → step_named s ≡ Some step → outcome_named o ≡ Some outcome → fits step outcome ≡ true
    → act_line (d ∷ s ∷ o ∷ []) ≡ Some (Act n step outcome)
act_made d s o n step outcome number named came fit = rw (number, named, came, fit) refl

close_made : (d w : List ℕ) (n : ℕ) (code : CloseCode) → number_spelled d ≡ Some n → code_named w ≡ Some code → close_line (d ∷ w ∷ []) ≡ Some (Close n code)
close_made d w n code number named = rw (number, named) refl

login_made : (name pin : List ℕ) → is_name name ≡ true → is_pin pin ≡ true → login_line (name ∷ pin ∷ []) ≡ Some (Login name pin)
login_made name pin named digits = rw (named, digits) refl

-- two words and three, with their spaces
two_words : (a b : List ℕ) → IsWord a → IsWord b → words_of (a ++ (32 ∷ []) ++ b) ≡ a ∷ b ∷ []
two_words a b first second = ap words_of (append_assoc a (32 ∷ []) b) ∙ split_more a b first ∙ ap (λ ws. a ∷ ws) (split_word b second)

three_words : (a b d : List ℕ) → IsWord a → IsWord b → IsWord d → words_of (a ++ (32 ∷ []) ++ b ++ (32 ∷ []) ++ d) ≡ a ∷ b ∷ d ∷ []
three_words a b d first second third =
    ap words_of (append_assoc (a ++ (32 ∷ []) ++ b) (32 ∷ []) d ∙ append_assoc (a ++ 32 ∷ []) b (32 ∷ d) ∙ append_assoc a (32 ∷ []) (b ++ 32 ∷ d))
    ∙ split_more a (b ++ 32 ∷ d) first ∙ ap (λ ws. a ∷ ws) (split_more b d second ∙ ap (λ ws. b ∷ ws) (split_word d third))

pub spelled_is_read : (c : Command) → IsCommand c → command_of (spelling c) ≡ Some c
unfolding command_of
spelled_is_read (Login name pin) r =
    ap (λ ws. command_of_words (codes "login" ∷ ws)) (two_words name pin (name_word name r.named) (pin_word pin r.digits)) ∙ login_made name pin r.named r.digits
spelled_is_read Quit r = refl
spelled_is_read Next r = refl
spelled_is_read (Claim n) r = number_read n Claim r
spelled_is_read (Act n step outcome) r =
    ap (λ ws. command_of_words (codes "act" ∷ ws)) (three_words (decimal n) (step_name step) (outcome_name outcome) (decimal_word n r.numbered.fits) (step_word step r.known) (outcome_word outcome))
    ∙ act_made (decimal n) (step_name step) (outcome_name outcome) n step outcome (number_found (decimal n) n refl r.numbered.some r.numbered.fits) (step_found step r.known) (outcome_found outcome) r.fitting
spelled_is_read (Release n) r = number_read n Release r
spelled_is_read (Close n code) r =
    ap (λ ws. command_of_words (codes "close" ∷ ws)) (two_words (decimal n) (code_name code) (decimal_word n r.fits) (code_word code))
    ∙ close_made (decimal n) (code_name code) n code (number_found (decimal n) n refl r.some r.fits) (code_found code)
spelled_is_read (Show n) r = number_read n Show r
spelled_is_read Rows r = refl
