-- A write that a signal interrupted appended nothing.
use Rattle.std.specs.Io.KnownBytes.{Keeps}
use Rattle.bd_host.proofs.stream.write_some.Given as goal

abbrev pub invariant-loop : goal.invariant-loop
invariant-loop g l = Keeps (g.W.Write.contents l.initial.writer) (g.W.Write.contents l.writer)
