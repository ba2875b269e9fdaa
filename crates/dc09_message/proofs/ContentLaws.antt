-- The content that is read is written so, and what is written so is read.
use Rattle.std.proofs.Common.{◌≡◌, ◌+◌, ℕ, suc, List, [], ◌∷◌, ◌++◌, length, take, Bool, true, false, cond, eqb, Option, Some, None, refl, sym, ◌∙◌, ap, arith, append_assoc, inl, inr}
use Rattle.std.specs.Prelude.{◌⊎◌, not, ◌==◌}
use Rattle.std.specs.List.{list_all, prefix_len}
use Rattle.std.specs.Str.{bytes_eq}
use Rattle.std.proofs.lemmas.Bool.{and_parts, and_from, eqb-true}
use Rattle.std.proofs.lemmas.Bool.Decides.{nat_tests}
use Rattle.std.proofs.lemmas.List.Folds.{list_all-append}
use Rattle.std.proofs.lemmas.Slice.Eq.{bytes_eq-Decides}
use Rattle.arc_data.specs.Digits.{capitals, is_hex}
use Rattle.arc_data.specs.declared.event.Token.{Token}
use Rattle.arc_data.specs.declared.event.Token.TheVariants.{SiaDcs, AdmCid}
use Rattle.alarm_rules.specs.ContactId.{is_contact_id, contact_id_signal}
use Rattle.alarm_rules.specs.SetupLines.{is_nil}
use Rattle.alarm_rules.specs.SiaCodes.{sia_signals}
use Rattle.alarm_rules.specs.Signals.{data_of, signals, has_signals}
use Rattle.dc09_frame.specs.Headers.{◌>>=◌, after_byte, run_at}
use Rattle.dc09_frame.specs.declared.header.Header.{Header}
use Rattle.dc09_frame.proofs.HeaderLaws.{bind_some, some_if, some_is, after_byte_takes, run_takes, run_again}
use Rattle.dc09_message.specs.Blocks.{is_free, are_free, blocks_bytes, Blocks, IsBlocks, is_end, blocks_at}
use Rattle.dc09_message.specs.Contents.{is_tail, fits_tail, begins_account, after_account, after_bar, data_behind, kept, kept_if, content_of, content_in, IsAccountEcho, IsFront, IsReport, IsHeartbeat, IsContent}
use Rattle.dc09_message.specs.declared.kind.MessageKind.{MessageKind}
use Rattle.dc09_message.specs.declared.kind.MessageKind.TheVariants.{Heartbeat, Report}
use Rattle.dc09_message.proofs.BlockLaws.{blocks_take, blocks_again}
use Rattle.dc09_message.proofs.KeptLemmas.{kept_closed, kept_alone}

pub if_some : {A : Type 0} (t : Bool) (o : Option A) (x : A) → cond t o None ≡ Some x → (t ≡ true) × (o ≡ Some x)
if_some true o x e = (refl, e)
if_some false o x e = absurd cc

-- An account before a bar.

abbrev from_rest : Header → List ℕ → List ℕ → Option (List ℕ)
from_rest h digits rest = cond (bytes_eq (capitals digits) (capitals h.account)) (Some rest) None

abbrev from_digits : Header → List ℕ × List ℕ → Option (List ℕ)
from_digits h digits = after_byte 124 digits.1 >>= from_rest h digits.0

abbrev from_hash : Header → List ℕ → Option (List ℕ)
from_hash h xs = run_at is_hex 3 16 xs >>= from_digits h

pub account_takes : (h : Header) (bytes rest : List ℕ) → after_account h bytes ≡ Some rest → (echo : List ℕ) × IsAccountEcho h echo × (bytes ≡ echo ++ rest)
unfolding after_account
account_takes h bytes rest e =
    let a = bind_some (after_byte 35 bytes) (from_hash h) rest e in
    let d = bind_some (run_at is_hex 3 16 a.0) (from_digits h) rest a.2 in
    let b = bind_some (after_byte 124 d.0.1) (from_rest h d.0.0) rest d.2 in
    let s = some_if (bytes_eq (capitals d.0.0) (capitals h.account)) b.0 rest b.2 in
    let t = run_takes is_hex 3 16 a.0 d.0 d.1 in
    let echo : List ℕ = 35 ∷ d.0.0 ++ 124 ∷ [] in
    let whole : bytes ≡ echo ++ rest =
    after_byte_takes 35 bytes a.0 a.1
    ∙ ap (λ (l : List ℕ). 35 ∷ l) (t.0 ∙ ap (λ (l : List ℕ). d.0.0 ++ l) (after_byte_takes 124 d.0.1 b.0 b.1 ∙ ap (λ (l : List ℕ). 124 ∷ l) s.1))
    ∙ sym (append_assoc (35 ∷ d.0.0) (124 ∷ []) rest) in
    (echo, record { digits = d.0.0; is_account = t.1; same = (bytes_eq-Decides (capitals d.0.0) (capitals h.account)).0 s.0; spelled = refl }, whole)

pub account_again : (h : Header) (echo rest : List ℕ) → IsAccountEcho h echo → after_account h (echo ++ rest) ≡ Some rest
unfolding after_account
account_again h echo rest w =
    let same : bytes_eq (capitals w.digits) (capitals h.account) ≡ true = (bytes_eq-Decides (capitals w.digits) (capitals h.account)).1 w.same in
    ap (λ (l : List ℕ). after_account h (l ++ rest)) w.spelled
    ∙ ap (after_account h) (append_assoc (35 ∷ w.digits) (124 ∷ []) rest)
    ∙ ap (λ (o : Option (List ℕ × List ℕ)). o >>= from_digits h) (run_again is_hex 3 16 w.digits 124 rest w.is_account refl)
    ∙ ap (λ (t : Bool). cond t (Some rest) None) same

pub account_begins : (h : Header) (echo rest : List ℕ) → IsAccountEcho h echo → begins_account (echo ++ rest) ≡ true
account_begins h echo rest w = ap (λ (l : List ℕ). begins_account (l ++ rest)) w.spelled

-- What is read before the data.

pub bar_takes : (h : Header) (first rest : List ℕ) → after_bar h first ≡ Some rest → (front : List ℕ) × IsFront h.sealed h front × (first ≡ front ++ rest)
bar_takes h first rest e = step h.sealed e
  where
    plain : (b : Bool) → cond b (after_account h first) (after_byte 124 first) ≡ Some rest → (front : List ℕ) × IsFront false h front × (first ≡ front ++ rest)
    plain true e = let k = account_takes h first rest e in (k.0, inr k.1, k.2)
    plain false e = (124 ∷ [], inl refl, after_byte_takes 124 first rest e)

    step : (t : Bool) → cond t (Some first) (cond (begins_account first) (after_account h first) (after_byte 124 first)) ≡ Some rest → (front : List ℕ) × IsFront t h front × (first ≡ front ++ rest)
    step true e = ([], refl, some_is first rest e)
    step false e = plain (begins_account first) e

pub data_takes : (h : Header) (rest contents : List ℕ) → data_behind h rest ≡ Some contents → (echo : List ℕ) × ((echo ≡ []) ⊎ IsAccountEcho h echo) × (rest ≡ echo ++ contents)
data_takes h rest contents e = step (begins_account rest) e
  where
    step : (b : Bool) → cond b (after_account h rest) (Some rest) ≡ Some contents → (echo : List ℕ) × ((echo ≡ []) ⊎ IsAccountEcho h echo) × (rest ≡ echo ++ contents)
    step true e = let k = account_takes h rest contents e in (k.0, inr k.1, k.2)
    step false e = ([], inl refl, some_is rest contents e)

-- Without brackets.

free_back : (xs ys : List ℕ) → are_free (xs ++ ys) ≡ true → are_free ys ≡ true
free_back xs ys e = (and_parts (are_free xs) (are_free ys) (sym (list_all-append is_free xs ys) ∙ e)).1

free_both : (xs ys : List ℕ) → are_free xs ≡ true → are_free ys ≡ true → are_free (xs ++ ys) ≡ true
free_both xs ys p q = list_all-append is_free xs ys ∙ and_from (are_free xs) (are_free ys) p q

hex_free : (b : ℕ) → is_hex b ≡ true → is_free b ≡ true
hex_free b h = grind (arith, nat_tests)

hex_all_free : (bs : List ℕ) → list_all is_hex bs ≡ true → are_free bs ≡ true
hex_all_free [] all = refl
hex_all_free (b ∷ bs) all =
    let h = and_parts (is_hex b) (list_all is_hex bs) all in
    and_from (is_free b) (are_free bs) (hex_free b h.0) (hex_all_free bs h.1)

echo_free : (h : Header) (echo : List ℕ) → IsAccountEcho h echo → are_free echo ≡ true
echo_free h echo w =
    let run = and_parts _ (list_all is_hex w.digits) w.is_account in
    ap are_free w.spelled ∙ free_both (35 ∷ w.digits) (124 ∷ []) (hex_all_free w.digits run.1) refl

maybe_free : (h : Header) (echo : List ℕ) → (echo ≡ []) ⊎ IsAccountEcho h echo → are_free echo ≡ true
maybe_free h echo (inl e) = ap are_free e
maybe_free h echo (inr w) = echo_free h echo w

front_free : (t : Bool) (h : Header) (front : List ℕ) → IsFront t h front → are_free front ≡ true
front_free true h front e = ap are_free e
front_free false h front (inl e) = ap are_free e
front_free false h front (inr w) = echo_free h front w

-- Data begins with no `#`.

no_contact_id : (rest : List ℕ) → is_contact_id (35 ∷ rest) ≡ false
no_contact_id (c1 ∷ c2 ∷ c3 ∷ s1 ∷ g1 ∷ g2 ∷ s2 ∷ z1 ∷ z2 ∷ z3 ∷ []) = refl
no_contact_id other = refl

hash_data : (rest : List ℕ) → data_of (35 ∷ rest) ≡ 35 ∷ data_of rest
hash_data rest =
    let n : ℕ = prefix_len (λ x. not (x == 93)) rest in
    let e : 1 + n ≡ suc n = omega arith in
    ap (λ k. take k (35 ∷ rest)) e

no_signals : (token : Token) (rest : List ℕ) → signals token (35 ∷ rest) ≡ None
unfolding contact_id_signal sia_signals
no_signals AdmCid rest = rw (hash_data rest, no_contact_id (data_of rest)) refl
no_signals SiaDcs rest = rw (hash_data rest) refl

no_hash : (token : Token) (contents : List ℕ) → has_signals token contents ≡ true → begins_account contents ≡ false
no_hash token [] has = refl
no_hash token (b ∷ rest) has = step (eqb b 35) refl
  where
    step : (t : Bool) → eqb b 35 ≡ t → t ≡ false
    step true is = absurd (cc (ap (λ (x : ℕ). signals token (x ∷ rest)) (eqb-true b 35 is) ∙ no_signals token rest))
    step false is = refl

-- What was written before the data is read.

pub bar_again : (h : Header) (front rest : List ℕ) → IsFront h.sealed h front → after_bar h (front ++ rest) ≡ Some rest
bar_again h front rest is = step h.sealed is
  where
    begun : (b : Bool) → b ≡ true → IsAccountEcho h front → cond b (after_account h (front ++ rest)) (after_byte 124 (front ++ rest)) ≡ Some rest
    begun true e w = account_again h front rest w
    begun false e w = absurd cc

    step : (t : Bool) → IsFront t h front → cond t (Some (front ++ rest)) (cond (begins_account (front ++ rest)) (after_account h (front ++ rest)) (after_byte 124 (front ++ rest))) ≡ Some rest
    step true e = ap (λ (l : List ℕ). Some (l ++ rest)) e
    step false (inl e) = ap (λ (l : List ℕ). cond (begins_account (l ++ rest)) (after_account h (l ++ rest)) (after_byte 124 (l ++ rest))) e
    step false (inr w) = begun (begins_account (front ++ rest)) (account_begins h front rest w) w

pub data_again : (h : Header) (echo contents : List ℕ) → (echo ≡ []) ⊎ IsAccountEcho h echo → begins_account contents ≡ false → data_behind h (echo ++ contents) ≡ Some contents
data_again h echo contents (inl e) plain =
    ap (λ (l : List ℕ). data_behind h (l ++ contents)) e ∙ ap (λ (b : Bool). cond b (after_account h contents) (Some contents)) plain
data_again h echo contents (inr w) plain =
    ap (λ (b : Bool). cond b (after_account h (echo ++ contents)) (Some (echo ++ contents))) (account_begins h echo contents w) ∙ account_again h echo contents w

-- a tail begins no further block
pub tail_ends : (h : Header) (tail : List ℕ) → fits_tail h tail ≡ true → is_end tail ≡ true
tail_ends h [] e = refl
tail_ends h (b ∷ rest) e = step h.sealed e
  where
    step : (t : Bool) → cond t (is_nil (b ∷ rest)) (is_tail (b ∷ rest)) ≡ true → is_end (b ∷ rest) ≡ true
    step true e = absurd cc
    step false e = ap (λ (x : ℕ). not (x == 91)) (eqb-true b 95 (and_parts (b == 95) (length rest == 19) e).0)

-- What is read is written so.

abbrev from_data : Token → List (List ℕ) → Header → List ℕ → Option (List ℕ)
from_data token further h rest = data_behind h rest >>= (λ contents. kept_if token contents further)

report_written : (token : Token) (h : Header) (blocks : Blocks) (tail bytes content : List ℕ) → IsBlocks blocks tail bytes → fits_tail h tail ≡ true → content_of (Report token) h blocks ≡ Some content → IsReport token h bytes content
unfolding content_of
report_written token h blocks tail bytes content w fits e =
    let r = bind_some (after_bar h blocks.first) (from_data token blocks.further h) content e in
    let d = bind_some (data_behind h r.0) (λ contents. kept_if token contents blocks.further) content r.2 in
    let k = some_if (has_signals token d.0) (kept d.0 blocks.further) content d.2 in
    let f = bar_takes h blocks.first r.0 r.1 in
    let a = data_takes h r.0 d.0 d.1 in
    let first : blocks.first ≡ f.0 ++ (a.0 ++ d.0) = f.2 ∙ ap (λ (l : List ℕ). f.0 ++ l) a.2 in
    let free : are_free d.0 ≡ true = free_back a.0 d.0 (free_back f.0 (a.0 ++ d.0) (sym (ap are_free first) ∙ w.first_free)) in
    record {
      front = f.0;
      echo = a.0;
      contents = d.0;
      further = blocks.further;
      tail = tail;
      front_is = f.1;
      echo_is = a.1;
      contents_free = free;
      further_free = w.further_free;
      tail_fits = fits;
      contents_signal = k.0;
      spelled = w.spelled ∙ ap (λ (l : List ℕ). l ++ 93 ∷ blocks_bytes blocks.further ++ tail) (first ∙ sym (append_assoc f.0 a.0 d.0));
      keeps = ap (λ (l : List ℕ). l ++ 93 ∷ []) (sym k.1) ∙ kept_closed d.0 blocks.further;
    }

kind_written : (kind : MessageKind) (h : Header) (blocks : Blocks) (tail bytes content : List ℕ) → IsBlocks blocks tail bytes → fits_tail h tail ≡ true → content_of kind h blocks ≡ Some content → IsContent kind h bytes content
unfolding content_of
kind_written Heartbeat h blocks tail bytes content w fits e =
    (record { first = blocks.first; further = blocks.further; tail = tail; first_free = w.first_free; further_free = w.further_free; tail_fits = fits; spelled = w.spelled }, sym (some_is [] content e))
kind_written (Report token) h blocks tail bytes content w fits e = report_written token h blocks tail bytes content w fits e

abbrev pub from_blocks : MessageKind → Header → Blocks × List ℕ → Option (List ℕ)
from_blocks kind h found = cond (fits_tail h found.1) (content_of kind h found.0) None

pub content_written : (kind : MessageKind) (h : Header) (bytes content : List ℕ) → content_in kind h bytes ≡ Some content → IsContent kind h bytes content
unfolding content_in
content_written kind h bytes content e =
    let b = bind_some (blocks_at bytes) (from_blocks kind h) content e in
    let s = if_some (fits_tail h b.0.1) (content_of kind h b.0.0) content b.2 in
    kind_written kind h b.0.0 b.0.1 bytes content (blocks_take bytes b.0.0 b.0.1 b.1) s.0 s.1

-- What is written so is read.

report_again : (token : Token) (h : Header) (bytes content : List ℕ) → IsReport token h bytes content → content_in (Report token) h bytes ≡ Some content
unfolding content_in content_of
report_again token h bytes content w =
    let behind : List ℕ = w.echo ++ w.contents in
    let first : List ℕ = w.front ++ behind in
    let blocks : Blocks = record { first = first; further = w.further } in
    let free : are_free first ≡ true = free_both w.front behind (front_free h.sealed h w.front w.front_is) (free_both w.echo w.contents (maybe_free h w.echo w.echo_is) w.contents_free) in
    let whole : bytes ≡ first ++ 93 ∷ blocks_bytes w.further ++ w.tail = w.spelled ∙ ap (λ (l : List ℕ). l ++ 93 ∷ blocks_bytes w.further ++ w.tail) (append_assoc w.front w.echo w.contents) in
    let is : IsBlocks blocks w.tail bytes = record { first_free = free; further_free = w.further_free; spelled = whole } in
    ap (λ (o : Option (Blocks × List ℕ)). o >>= from_blocks (Report token) h) (blocks_again bytes blocks w.tail is (tail_ends h w.tail w.tail_fits))
    ∙ ap (λ (t : Bool). cond t (content_of (Report token) h blocks) None) w.tail_fits
    ∙ ap (λ (o : Option (List ℕ)). o >>= from_data token w.further h) (bar_again h w.front behind w.front_is)
    ∙ ap (λ (o : Option (List ℕ)). o >>= (λ contents. kept_if token contents w.further)) (data_again h w.echo w.contents w.echo_is (no_hash token w.contents w.contents_signal))
    ∙ ap (λ (t : Bool). cond t (Some (kept w.contents w.further)) None) w.contents_signal
    ∙ ap (λ (l : List ℕ). Some l) (kept_alone content w.contents w.further w.keeps)

heartbeat_again : (h : Header) (bytes : List ℕ) → IsHeartbeat h bytes → content_in Heartbeat h bytes ≡ Some []
unfolding content_in content_of
heartbeat_again h bytes w =
    let blocks : Blocks = record { first = w.first; further = w.further } in
    let is : IsBlocks blocks w.tail bytes = record { first_free = w.first_free; further_free = w.further_free; spelled = w.spelled } in
    ap (λ (o : Option (Blocks × List ℕ)). o >>= from_blocks Heartbeat h) (blocks_again bytes blocks w.tail is (tail_ends h w.tail w.tail_fits))
    ∙ ap (λ (t : Bool). cond t (content_of Heartbeat h blocks) None) w.tail_fits

pub content_again : (kind : MessageKind) (h : Header) (bytes content : List ℕ) → IsContent kind h bytes content → content_in kind h bytes ≡ Some content
content_again Heartbeat h bytes content w = heartbeat_again h bytes w.0 ∙ ap (λ (l : List ℕ). Some l) (sym w.1)
content_again (Report token) h bytes content w = report_again token h bytes content w
