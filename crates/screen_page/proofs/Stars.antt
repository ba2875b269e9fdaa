-- A page has no digits of a PIN.
use Rattle.std.proofs.Common.{◌≡◌, ℕ, List, [], ◌∷◌, Option, Some, None, refl, sym, ap, ◌∙◌, codes}
use Rattle.std.proofs.lemmas.List.{length-replicate}
use Rattle.std.specs.Option.{option_map}
use Rattle.std.specs.Prelude.{◌==◌, ◌-◌, take, length, replicate, if◌then◌else◌}
use Rattle.desk_wire.specs.declared.command.Command.{Command}
use Rattle.desk_screen.specs.Orders.{masked, typed_of}
use Rattle.desk_screen.specs.declared.keyboard.Keyboard.{Keyboard}
use Rattle.desk_screen.specs.declared.own.Own.{Own}
use Rattle.desk_screen.specs.declared.screen.Screen.{Screen}
use Rattle.desk_screen.specs.declared.session.Session.{Session}
use Rattle.screen_page.specs.Pages.{body_row, keys_row, page_row}
use Rattle.screen_page.specs.Prompts.{awaited, awaited_or, outcome, prompt, status, typed_row}
use Rattle.screen_page.specs.Stars.{starred, starred_keyboard, without_pin}
use Rattle.screen_page.specs.Texts.{login_row, with_text, with_texts}
use Rattle.screen_page.specs.declared.layout.Shown.{Shown}
use Rattle.screen_page.specs.declared.layout.Shown.TheVariants.{Work, Help, History}
use Rattle.screen_page.specs.declared.past.Past.{Past}
use Rattle.screen_page.specs.declared.tone.Tone.{Tone}
use Rattle.screen_page.specs.declared.tone.Tone.TheVariants.{Plainly, Heading}

awaited_same : (command wish : Option Command) → awaited command wish ≡ awaited command (option_map masked wish)
awaited_same (Some command) wish = refl
awaited_same None None = refl
awaited_same None (Some wish) = refl

login_same : (name : Option (List ℕ)) (typed : List ℕ) → login_row name typed ≡ login_row name (starred None name typed)
login_same None typed = refl
login_same (Some who) typed =
    ap (λ (n : ℕ). with_texts [] (codes "log in, name: " ∷ who ∷ codes "  PIN: " ∷ take n (replicate 32 42) ∷ [])) (sym (length-replicate (length typed) 42))

typed_same : (user : Option (List ℕ)) (keyboard : Keyboard) (own : Option Own)
    → typed_row user keyboard own ≡ typed_row user (starred_keyboard user keyboard) own
typed_same None keyboard own = ap (λ (text : List ℕ). (Heading, text)) (login_same keyboard.name keyboard.typed)
typed_same (Some user) keyboard own = refl

or_same : (text : Option (List ℕ)) (session : Session) (wish : Option Command) (keyboard : Keyboard) (own : Option Own)
    → awaited_or text session keyboard own ≡ awaited_or text (record session { wish = wish }) (starred_keyboard session.user keyboard) own
or_same (Some text) session wish keyboard own = refl
or_same None session wish keyboard own = typed_same session.user keyboard own

prompt_same : (session : Session) (keyboard : Keyboard) (own : Option Own)
    → prompt session keyboard own ≡ prompt (record session { wish = option_map masked session.wish }) (starred_keyboard session.user keyboard) own
prompt_same session keyboard own =
    ap (λ (row : Tone × List ℕ). if session.connected then row else (Plainly, with_text [] (codes "the screen goes on trying to connect; Ctrl-C leaves")))
    (ap (λ (text : Option (List ℕ)). awaited_or text session keyboard own) (awaited_same (typed_of session.way) session.wish)
    ∙ or_same _ session (option_map masked session.wish) keyboard own)

body_same : (shown : Shown) (screen : Screen) (sites : Option (List ℕ)) (past : Past) (moment place : ℕ)
    → body_row shown screen sites past moment place ≡ body_row shown (without_pin screen) sites past moment place
body_same Work screen sites past moment place = refl
body_same Help screen sites past moment place = refl
body_same History screen sites past moment place = refl

-- the page is that of the screen with stars
pub page_same : (screen : Screen) (sites : Option (List ℕ)) (past : Past) (shown : Shown) (rows moment index : ℕ)
    → page_row screen sites past shown rows moment index ≡ page_row (without_pin screen) sites past shown rows moment index
page_same screen sites past shown rows moment index =
    ap (λ (row : Tone × List ℕ). if index == 0 then status screen.session screen.watch.total else if index == 1 then row
    else if index == 2 then outcome screen.session.undone screen.answered screen.series else if index == rows - 1 then keys_row
    else body_row shown screen sites past moment (index - 3))
    (prompt_same screen.session screen.keyboard screen.own)
    ∙ ap (λ (body : Tone × List ℕ). if index == 0 then status screen.session screen.watch.total
    else if index == 1 then prompt (without_pin screen).session (without_pin screen).keyboard screen.own
    else if index == 2 then outcome screen.session.undone screen.answered screen.series else if index == rows - 1 then keys_row else body)
    (body_same shown screen sites past moment (index - 3))
