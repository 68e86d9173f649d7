use Rattle.std.proofs.Common.{rules, refl}
use Rattle.std.proofs.lemmas.List.Sorted.{IsNonDecreasingBy-from_sort_by_key}
use Rattle.bd_cnf.specs.Literal.{Literal}
use Rattle.bd_cnf.proofs.Made.{same_sorted, made_literals, made_within, made_value, made_none, made_none_value}
use Rattle.bd_cnf.proofs.clause.Clause.from_vec.Goals as goal

pub merged-requires : goal.merged-requires
merged-requires c = IsNonDecreasingBy-from_sort_by_key (λ (l : Literal). l.var) c.sort_unstable_by_key.new.self.items c.sort_unstable_by_key.ensures.sorted (λ a r q k. search rules)

pub returns-clause-literals : goal.returns-clause-literals
returns-clause-literals c =
    let same = same_sorted _ _ _ _ refl c.sort_unstable_by_key.ensures.permutation refl in
    made_literals _ _ same c.merged.result c.merged.ensures.literals

pub returns-clause-none : goal.returns-clause-none
returns-clause-none c =
    let same = same_sorted _ _ _ _ refl c.sort_unstable_by_key.ensures.permutation refl in
    made_none _ _ same c.merged.result c.merged.ensures.rising c.merged.ensures.literals c.merged.ensures.none

pub returns-clause-some_value : goal.returns-clause-some_value
returns-clause-some_value c =
    let same = same_sorted _ _ _ _ refl c.sort_unstable_by_key.ensures.permutation refl in
    made_value _ _ same c.merged.result c.merged.ensures.literals

pub returns-clause-none_value : goal.returns-clause-none_value
returns-clause-none_value c =
    let same = same_sorted _ _ _ _ refl c.sort_unstable_by_key.ensures.permutation refl in
    made_none_value _ _ same c.merged.result c.merged.ensures.none

pub returns-clause-within : goal.returns-clause-within
returns-clause-within c =
    let same = same_sorted _ _ _ _ refl c.sort_unstable_by_key.ensures.permutation refl in
    made_within _ _ same c.merged.result c.merged.ensures.literals
