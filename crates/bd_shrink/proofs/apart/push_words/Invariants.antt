use Rattle.std.proofs.Common.{◌≡◌, ◌++◌, drop}
use Rattle.bd_shrink.specs.Apart.{words_at}
use Rattle.bd_shrink.proofs.apart.push_words.Given as goal

abbrev pub invariant-loop-address : goal.invariant-loop-address
invariant-loop-address l =
    l.values.items ++ words_at l.memory (drop l.address-index l.difference.addresses) ≡ l.fn.values.items ++ words_at l.memory l.difference.addresses
