use Rattle.std.proofs.Common.{◌≡◌, ◌∙◌, Bool, ap}
use Rattle.std.specs.List.{list_any}
use Rattle.bd_about.specs.declared.compared.SymbolPair.{SymbolPair}
use Rattle.bd_about.specs.inner.Paired.{has_pair, is_pair}
use Rattle.bd_about.proofs.Pairing.{pair_eq, pair_eq-is}
use Rattle.bd_about.proofs.compared.Compared.has.Goals as goal

pub returns : goal.returns
returns c =
    let pair : SymbolPair = record { one = c.args.one; other = c.args.other } in
    let same : pair_eq pair ≡ is_pair c.args.one c.args.other = λ i q. pair_eq-is pair q i in
    c.contains.ensures ∙ ap (λ (p : SymbolPair → Bool). list_any p c.self.inside.pairs.keys) same ∙ ap (λ pairs. has_pair pairs c.args.one c.args.other) c.self.view_is
