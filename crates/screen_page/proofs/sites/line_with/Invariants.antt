use Rattle.std.proofs.Common.{◌≡◌, length}
use Rattle.screen_page.specs.Sites.{line_with, lines_of}
use Rattle.screen_page.proofs.sites.line_with.Given as goal

-- the line is sought among those that are left
abbrev pub invariant-loop-line : goal.invariant-loop-line
invariant-loop-line l = line_with l.fn.front l.lines ≡ line_with l.fn.front (lines_of l.fn.text)

abbrev pub decreases-loop-line : goal.decreases-loop-line
decreases-loop-line l = length l.lines
