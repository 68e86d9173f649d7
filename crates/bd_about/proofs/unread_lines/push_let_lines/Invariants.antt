use Rattle.std.proofs.Common.{◌≡◌, ◌++◌, drop}
use Rattle.bd_about.specs.UnreadLines.{let_line, lines_at}
use Rattle.bd_about.proofs.unread_lines.push_let_lines.Given as goal

abbrev pub invariant-loop-place : goal.invariant-loop-place
invariant-loop-place l = l.out.items ++ lines_at (let_line l.kind) l.names (drop l.place-index l.places) ≡ l.fn.out.items ++ lines_at (let_line l.kind) l.names l.places
