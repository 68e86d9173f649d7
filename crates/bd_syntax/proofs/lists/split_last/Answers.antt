use Rattle.std.proofs.Common.{◌≡◌, List, Option, Some, None, length, Bor, ap, ◌∙◌}
use Rattle.std.proofs.lemmas.List.{nil_from_length}
use Rattle.std.specs.Prelude.{MatchOption, IfSome, IfNone}
use Rattle.std.specs.List.{IsLastAndRest}
use Rattle.bd_text.specs.Nodes.{no_nodes}
use Rattle.bd_text.specs.View.{node_of, nodes_of_all}
use Rattle.bd_text.specs.declared.tree.Tree.{Tree}
use Rattle.bd_syntax.specs.Reading.{before_last, last_node}
use Rattle.bd_syntax.proofs.Views.{last_node-push, before_last-push}
use Rattle.bd_syntax.proofs.lists.split_last.Goals as goal

abbrev IsSplit : List Tree → Option (Bor Tree × Bor (List Tree)) → Type 0
IsSplit parts r = MatchOption r (length parts ≡ 0) (λ p. IsLastAndRest parts p.0.now p.1.now)

is_last : (parts : List Tree) (r : Option (Bor Tree × Bor (List Tree))) → IsSplit parts r → IfSome r (λ p. last_node (nodes_of_all parts) ≡ Some (node_of p.0.now))
is_last parts None h = tt
is_last parts (Some p) h = ap (λ ts. last_node (nodes_of_all ts)) h.0 ∙ last_node-push p.1.now p.0.now

are_before : (parts : List Tree) (r : Option (Bor Tree × Bor (List Tree))) → IsSplit parts r → IfSome r (λ p. before_last (nodes_of_all parts) ≡ nodes_of_all p.1.now)
are_before parts None h = tt
are_before parts (Some p) h = ap (λ ts. before_last (nodes_of_all ts)) h.0 ∙ before_last-push p.1.now p.0.now

is_empty : (parts : List Tree) (r : Option (Bor Tree × Bor (List Tree))) → IsSplit parts r → IfNone r (nodes_of_all parts ≡ no_nodes)
is_empty parts None h = ap nodes_of_all (nil_from_length parts h)
is_empty parts (Some p) h = tt

pub returns-clause-last : goal.returns-clause-last
returns-clause-last c = is_last c.args.parts.now c.split_last.result c.split_last.ensures.cases

pub returns-clause-before : goal.returns-clause-before
returns-clause-before c = are_before c.args.parts.now c.split_last.result c.split_last.ensures.cases

pub returns-clause-none : goal.returns-clause-none
returns-clause-none c = is_empty c.args.parts.now c.split_last.result c.split_last.ensures.cases
