use Rattle.std.proofs.Common.{◌≡◌, ◌++◌, ◌∷◌, [], ℕ, List, ◌∙◌, sym, ap, drop, length, append_assoc}
use Rattle.std.specs.Prelude.{codes}
use Rattle.dc09_frame.specs.declared.header.Echo.{Echo}
use Rattle.dc09_frame.specs.declared.header.Header.{Header}
use Rattle.dc09_frame.specs.Frames.{frame_of}
use Rattle.dc09_frame.specs.Headers.{word_of, fields, echo_body}
use Rattle.dc09_frame.proofs.FrameLaws.{behind_nine, echo_is_body, echo_parts}
use Rattle.dc09_frame.proofs.echo.write_echo.Goals as goal

-- what stands behind the nine bytes is the reply's body
stands : (word : Echo) (h : Header) (head quoted a b c : List ℕ) → length head ≡ 9 → quoted ≡ 34 ∷ word_of word ++ 34 ∷ [] → a ≡ head ++ quoted → b ≡ a ++ fields h → c ≡ b ++ codes "[]" → drop 9 c ≡ echo_body word h
stands word h head quoted a b c nine is ea eb ec =
    let body : List ℕ = quoted ++ fields h ++ codes "[]" in
    let whole : c ≡ head ++ body = rw (ec, eb, ea) (append_assoc (head ++ quoted) (fields h) (codes "[]") ∙ append_assoc head quoted (fields h ++ codes "[]") ∙ ap (λ l. head ++ l) (sym (append_assoc quoted (fields h) (codes "[]")))) in
    ap (drop 9) whole ∙ behind_nine head body nine ∙ rw is (echo_parts word h)

pub end_frame-requires : goal.end_frame-requires
end_frame-requires c =
    let is = stands c.args.word c.args.header.now c.begin_frame.new.self c.quoted_word_of.result.now c.append.new.self c.append_fields.new.out c.append-2.new.self c.begin_frame.ensures c.quoted_word_of.ensures c.append.ensures c.append_fields.ensures c.append-2.ensures in
    rw is (echo_is_body c.args.word c.args.header.now c.requires)

pub returns-clause-frame : goal.returns-clause-frame
returns-clause-frame c =
    let is = stands c.args.word c.args.header.now c.begin_frame.new.self c.quoted_word_of.result.now c.append.new.self c.append_fields.new.out c.append-2.new.self c.begin_frame.ensures c.quoted_word_of.ensures c.append.ensures c.append_fields.ensures c.append-2.ensures in
    c.end_frame.ensures ∙ ap frame_of is

pub returns-clause-body : goal.returns-clause-body
returns-clause-body c = echo_is_body c.args.word c.args.header.now c.requires
