-- What is known of the port that keeps what a line of a script writes.
use Rattle.std.specs.Prelude.{◌-◌, ◌^◌, ℕ, min}
use Rattle.arc_io.specs.Memory.{clock_calls, port_seen}
use Rattle.arc_io.specs.Seen.{PortSeen}
use Rattle.arc_script.specs.declared.page.Page.{Page}

-- what a page tells
abbrev pub page_seen : Page → PortSeen
page_seen page = port_seen page.port

-- how many readings were taken behind the first; the count stands still at the last value of u64
abbrev pub taken_of : Page → ℕ
taken_of page = min (clock_calls page.port.clock - 1) (2 ^ 64 - 1)
