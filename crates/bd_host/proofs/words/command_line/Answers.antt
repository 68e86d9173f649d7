use Rattle.std.proofs.Common.{◌≡◌, ◌∙◌, List, length, map, refl, sym, ap}
use Rattle.std.proofs.lemmas.Iterator.{items_from_collect}
use Rattle.std.proofs.lemmas.Iterator.Adapters.{YieldsList-from_vec}
use Rattle.std.specs.Prelude.{Ok, Some, None, IfSome, String, string_bytes}
use Rattle.std.specs.declared.alloc.AllocError.{AllocError}
use Rattle.std.specs.declared.alloc.Global.{Global}
use Rattle.std.specs.declared.vec.IntoIter.{IntoIter}
use Rattle.std.specs.Vec.Iter.{into_iter_items, into_iter_len}
use Rattle.bd_host.specs.Words.{Gives, Told}
use Rattle.bd_host.proofs.words.command_line.Goals as goal

-- what is collected of the words that are given is what is told
collected : (told : Told) (args : IntoIter (String Global) Global) (words : List (String Global)) → Gives told args → (into_iter_len args ≡ length (into_iter_items args) → words ≡ into_iter_items args)
    → IfSome told (λ t. t ≡ Some (map string_bytes words))
collected None args words gives same = tt
collected (Some t) args words gives same = gives.1 ∙ ap (λ ws. Some (map string_bytes ws)) (sym (same gives.0))

pub returns-in-Ok-collect-clause-words : goal.returns-in-Ok-collect-clause-words
returns-in-Ok-collect-clause-words g c =
    collected (g.R.Arguments.told c.args.system.now) c.in-Ok.words c.in-Ok-collect.words.items c.in-Ok.ensures.words
    (λ len. items_from_collect {E = AllocError} (Ok c.in-Ok-collect.words) c.in-Ok-collect.ensures.ran (YieldsList-from_vec (into_iter_items c.in-Ok.words) refl len))
