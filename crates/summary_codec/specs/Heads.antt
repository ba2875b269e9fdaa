-- What stands before the rows of a summary, and before the signals of an incident.
use Rattle.std.specs.Prelude.{◌≡◌, ℕ, List, Some}
use Rattle.std.specs.Int.{w32, w64}
use Rattle.std.specs.Option.{option_map}
use Rattle.event_codec.specs.Reading.{number_at, long_at, coded_at, account_at}
use Rattle.summary_codec.specs.Reading.{tag_at, option_at, class_of, code_text_at, line_text_at}
use Rattle.summary_codec.specs.declared.head.Head.{Head}
use Rattle.summary_codec.specs.declared.reading.OpenedBy.{OpenedBy}

-- the bytes begin with these parts, one behind another
pub record IsHead (bytes : List ℕ) (h : Head) : Type 0 where
  pub behind_tag : List ℕ
  pub behind_generation : List ℕ
  pub behind_last : List ℕ
  pub behind_recorded : List ℕ
  pub behind_opened : List ℕ
  pub behind_start : List ℕ
  pub tag : tag_at bytes ≡ Some (11, behind_tag)
  pub generation : number_at w64 behind_tag ≡ Some (h.generation, behind_generation)
  pub last : number_at w64 behind_generation ≡ Some (h.last, behind_last)
  pub recorded : number_at w64 behind_last ≡ Some (h.recorded, behind_recorded)
  pub opened : number_at w64 behind_recorded ≡ Some (h.opened, behind_opened)
  pub start : option_at (number_at w64) behind_opened ≡ Some (h.start, behind_start)
  pub text : option_at (long_at w32 4194304) behind_start ≡ Some (option_map (λ t. t.now) h.text, h.rest.now)

-- the bytes begin with what an incident was opened by
pub record IsOpenedBy (version : ℕ) (bytes : List ℕ) (o : OpenedBy) : Type 0 where
  pub behind_number : List ℕ
  pub behind_account : List ℕ
  pub behind_class : List ℕ
  pub behind_code : List ℕ
  pub behind_via : List ℕ
  pub number : number_at w64 bytes ≡ Some (o.number, behind_number)
  pub account : account_at behind_number ≡ Some (o.account, behind_account)
  pub class : coded_at class_of behind_account ≡ Some (o.class, behind_class)
  pub code : code_text_at behind_class ≡ Some (o.code, behind_code)
  pub via : line_text_at version o.code behind_code ≡ Some (o.via, behind_via)
  pub at : number_at w64 behind_via ≡ Some (o.at, o.rest.now)
