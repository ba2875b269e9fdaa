-- How much a setup may have.
use Rattle.std.specs.Prelude.{ℕ}

-- a setup's bytes
abbrev pub largest_setup : ℕ
largest_setup = 4_194_304

-- a line's bytes
abbrev pub longest_line : ℕ
longest_line = 1024

abbrev pub most_accounts : ℕ
most_accounts = 2000

-- the windows of one account's opening hours
abbrev pub most_windows : ℕ
most_windows = 28

-- the keyholders of one account
abbrev pub most_keyholders : ℕ
most_keyholders = 4

abbrev pub most_operators : ℕ
most_operators = 64
