use Rattle.std.proofs.Common.{◌≡◌, ◌∙◌, Bool, List, ap, cond, true, sym}
use Rattle.std.specs.Prelude.{◌&&◌, ◌||◌}
use Rattle.std.specs.List.{list_any}
use Rattle.bd_function.specs.Tables.{is_symbol}
use Rattle.bd_about.specs.declared.compared.SymbolPair.{SymbolPair}
use Rattle.bd_about.specs.inner.Paired.{has_pair, is_pair}
use Rattle.bd_about.proofs.Pairing.{or_by, pair_eq, pair_eq-is}
use Rattle.bd_about.proofs.compared.Compared.insert.Goals as goal

pub returns : goal.returns
returns c = λ s t.
    let new : SymbolPair = record { one = c.args.one; other = c.args.other } in
    let pair : SymbolPair = record { one = s; other = t } in
    let same : pair_eq pair ≡ is_pair s t = λ i q. pair_eq-is pair q i in
    let any : (pairs : List SymbolPair) → list_any (pair_eq pair) pairs ≡ has_pair pairs s t = λ pairs. ap (λ (p : SymbolPair → Bool). list_any p pairs) same in
    sym (any c.insert.new.self.keys) ∙ c.in_ok-insert.ensures.updates.0 pair
    ∙ (λ i. cond (pair_eq-is new pair i) true (any c.self.inside.pairs.keys i))
    ∙ or_by (is_pair c.args.one c.args.other pair) (has_pair c.self.inside.pairs.keys s t)
    ∙ ap (λ pairs. (is_symbol c.args.one s && is_symbol c.args.other t) || has_pair pairs s t) c.self.view_is
