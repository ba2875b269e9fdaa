-- The class of every code, by computation.
use Rattle.std.proofs.Common.{◌≡◌, ℕ, ◌<◌, refl}
use Rattle.std.specs.Prelude.{if◌then◌else◌, ◌==◌, ◌||◌}
use Rattle.arc_data.specs.Digits.{is_between}
use Rattle.arc_data.specs.declared.signal.Class.{Class}
use Rattle.arc_data.specs.declared.signal.Class.TheVariants.{Fire, Medical, Panic, Gas, Burglary, Tamper, Environment, CommFail, Trouble, LateClose, Unlisted, Test, OpenClose, Bypass, Cancel, Program}
use Rattle.alarm_rules.specs.ContactId.{contact_id_class, contact_id_table}
use Rattle.alarm_rules.proofs.Agreement.{values_below, agree_below}
use Rattle.contact_id.specs.Digits.{digits_of}

-- the class by ranges, as the code has it
abbrev pub by_number : ℕ → Class
by_number n =
    if is_between 100 102 n then Medical
    else if is_between 110 118 n then Fire
    else if is_between 120 123 n then Panic
    else if is_between 130 136 n || is_between 138 140 n then Burglary
    else if (n == 137) || (n == 144) || (n == 145) || (n == 383) then Tamper
    else if (n == 151) || (n == 162) then Gas
    else if (n == 150) || (n == 154) || (n == 158) || (n == 159) then Environment
    else if (n == 350) || (n == 354) then CommFail
    else if (n == 301) || (n == 302) || (n == 305) || (n == 344) || (n == 373) || (n == 380) || (n == 381) || (n == 384) then Trouble
    else if is_between 400 403 n || is_between 407 409 n || (n == 441) then OpenClose
    else if n == 454 then LateClose
    else if n == 406 then Cancel
    else if n == 570 then Bypass
    else if (n == 601) || (n == 602) || (n == 607) then Test
    else if (n == 627) || (n == 628) then Program
    else Unlisted

abbrev by_table : ℕ → Class
by_table n = contact_id_class (digits_of n)

agreed : values_below by_table 1000 ≡ values_below by_number 1000
unfolding contact_id_class contact_id_table
agreed = refl

pub by_number_is : (n : ℕ) → n < 1000 → contact_id_class (digits_of n) ≡ by_number n
by_number_is n lt = agree_below by_table by_number 1000 n agreed lt
