-- The text of a drill: the script of number n, and the setup that it runs under.
use Rattle.std.specs.Prelude.{ℕ, ◌+◌, ◌-◌, ◌/◌, ◌%◌, ◌++◌, List, [], ◌∷◌, if◌then◌else◌, nat_eq, codes, decimal}
use Rattle.std.specs.List.{flat_map, range_with_len}

-- the lowest digit of a number
abbrev pub digit : ℕ → ℕ
digit n = 48 + n % 10

-- a number below 10,000 as four digits
abbrev pub four_digits : ℕ → List ℕ
four_digits n = digit (n / 1000) ∷ digit (n / 100) ∷ digit (n / 10) ∷ digit n ∷ []

-- the ten accounts are 1000 to 1009, and messages take turns among them
abbrev pub account_of : ℕ → List ℕ
account_of i = decimal (1000 + i % 10)

-- a burglary, a fire, and the burglary's end, in turn
abbrev pub data_of : ℕ → List ℕ
data_of i =
    if nat_eq (i % 3) 0 then codes "1131 01 001"
    else if nat_eq (i % 3) 1 then codes "1110 01 002"
    else codes "3131 01 001"

abbrev pub clock_line : ℕ → List ℕ
clock_line moment = codes "T " ++ decimal moment ++ codes "\n"

-- the message of number i, on line 1: each account counts its messages from 0001 to 9999, and then from 0001 again
abbrev pub message_line : ℕ → List ℕ
message_line i =
    codes "M 1 \"ADM-CID\"" ++ four_digits ((i - 1) / 10 % 9999 + 1) ++ codes "L0#" ++ account_of i
    ++ codes "[#" ++ account_of i ++ codes "|" ++ data_of i ++ codes "]\n"

-- each message has a second of its own, and each seventh is sent once more
abbrev pub message_lines : ℕ → List ℕ
message_lines i =
    clock_line (1_000_000_000 + i) ++ message_line i ++ (if nat_eq (i % 7) 0 then message_line i else [])

-- the incident of number k is claimed, gets a note, and is closed
abbrev pub closing_lines : ℕ → List ℕ
closing_lines k =
    codes "D 1 claim " ++ decimal k ++ codes "\nD 1 act " ++ decimal k ++ codes " note done\nD 1 close " ++ decimal k ++ codes " real\n"

-- the operator logs in and closes the twenty incidents
abbrev pub desk_lines : List ℕ
desk_lines = codes "D 1 login drill 1234\n" ++ flat_map closing_lines (range_with_len 1 20)

-- The script: the clock is set, the messages 1 to n come, and then the operator's commands.
abbrev pub drill_text : ℕ → List ℕ
drill_text n = clock_line 1_000_000_000 ++ flat_map message_lines (range_with_len 1 n) ++ desk_lines

-- The setup: the ten accounts and the operator.
abbrev pub drill_setup : List ℕ
drill_setup =
    flat_map (λ account. codes "account " ++ decimal account ++ codes "\n") (range_with_len 1000 10) ++ codes "operator drill 1234\n"
