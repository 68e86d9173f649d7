use Rattle.std.proofs.Common.{◌≡◌, ℕ, List, ◌+◌, ◌-◌, ◌++◌, ◌∙◌, take, drop, length, length-drop, sym, ap, subst, arith}
use Rattle.std.proofs.KnownBytes.{Appends-trans}
use Rattle.std.proofs.lemmas.List.{take_rest}
use Rattle.std.proofs.Math.Seq.{take-add}
use Rattle.std.specs.Io.KnownBytes.{Appends}
use Rattle.bd_host.proofs.stream.write_whole.Goals as goal

-- one more write took the first `count` of the bytes that were left
take_more : (done count : ℕ) (bytes : List ℕ) → take (done + count) bytes ≡ take done bytes ++ take count (take (length bytes - done) (drop done bytes))
take_more done count bytes = take-add done count bytes ∙ ap (λ l. take done bytes ++ take count l) (sym (take_rest bytes done))

-- src/stream.rt:46:5
pub loop-done-preserved : goal.loop-done-preserved
loop-done-preserved g c = record {
  within = grind (arith, c.in-Ok.ensures.fits, length-drop c.loop-done.done c.args.bytes.now);
  written = subst (Appends _ _) (sym (take_more c.loop-done.done c.in-Ok.count c.args.bytes.now))
      (Appends-trans _ _ _ _ _ c.loop-done.invariant.written c.in-Ok.ensures.bytes);
}
