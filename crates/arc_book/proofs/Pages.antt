-- What is written of a book, and what stands on the page.
use Rattle.std.proofs.Common.{◌≡◌, ◌+◌, ℕ, List, [], ◌++◌, length, take, Option, sym, ap, ◌∙◌, arith, append_assoc, length-append}
use Rattle.std.proofs.Math.Seq.{take-append-add}
use Rattle.std.specs.Io.KnownBytes.{append_known}
use Rattle.arc_io.proofs.KnownMore.{known_both, known_none}
use Rattle.book_lines.specs.declared.options.Options.{Options}
use Rattle.arc_book.specs.Compiled.{IsFrontWritten, IsWrittenBut, IsTurned}
use Rattle.arc_book.specs.Portions.{area_book}
use Rattle.arc_book.proofs.Portions.{begun, book_begun}

-- nothing is written, and nothing is to be
pub unwritten : (version : ℕ) (o : Options) (known : Option (List ℕ)) → IsWrittenBut known known [] (area_book o (begun version))
unwritten version o known = ([], sym (known_none known), sym (book_begun version o))

-- a line more on the page, and then the page is turned
pub turned_on : (before now after : Option (List ℕ)) (page line page' text : List ℕ) → IsWrittenBut before now page text → IsTurned now after (page ++ line) page'
    → IsWrittenBut before after page' (text ++ line)
turned_on before now after page line page' text w t = (
  w.0 ++ t.0,
  t.1 ∙ ap (λ (k : Option (List ℕ)). append_known k t.0) w.1 ∙ known_both before w.0 t.0,
  append_assoc w.0 t.0 page' ∙ ap (λ (l : List ℕ). w.0 ++ l) t.2 ∙ sym (append_assoc w.0 page line) ∙ ap (λ (l : List ℕ). l ++ line) w.2,
)

-- a line more on the page, of which only a front could be written
pub failed_on : (before now after : Option (List ℕ)) (page line text : List ℕ) → IsWrittenBut before now page text → IsFrontWritten now after (page ++ line)
    → IsFrontWritten before after (text ++ line)
failed_on before now after page line text w f =
    let whole : w.0 ++ (page ++ line) ≡ text ++ line = sym (append_assoc w.0 page line) ∙ ap (λ (l : List ℕ). l ++ line) w.2 in (
      length w.0 + f.0,
      omega (arith, f.1, ap length whole, length-append w.0 (page ++ line)),
      f.2 ∙ ap (λ (k : Option (List ℕ)). append_known k (take f.0 (page ++ line))) w.1 ∙ known_both before w.0 (take f.0 (page ++ line))
          ∙ ap (append_known before) (sym (take-append-add w.0 (page ++ line) f.0) ∙ ap (take (length w.0 + f.0)) whole),
    )

-- the page is put with a last line
pub put_out : (before now after : Option (List ℕ)) (page line text : List ℕ) → IsWrittenBut before now page text → after ≡ append_known now (page ++ line)
    → after ≡ append_known before (text ++ line)
put_out before now after page line text w put =
    put ∙ ap (λ (k : Option (List ℕ)). append_known k (page ++ line)) w.1 ∙ known_both before w.0 (page ++ line)
    ∙ ap (append_known before) (sym (append_assoc w.0 page line) ∙ ap (λ (l : List ℕ). l ++ line) w.2)
