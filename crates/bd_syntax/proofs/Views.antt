-- Forms level by level, as contracts see them.
use Rattle.std.proofs.Common.{◌≡◌, ℕ, List, [], ◌∷◌, ◌++◌, length, Some, refl, ◌∙◌, ap, arith, rules}
use Rattle.bd_text.specs.Nodes.{node_count, Node, node, no_nodes, add_node, Nodes}
use Rattle.bd_text.specs.View.{node_of, nodes_of_all}
use Rattle.bd_text.specs.declared.tree.Tree.{Tree}
use Rattle.bd_text.proofs.Views.{node_count-nodes_of_all, nodes_of_all-push}
use Rattle.bd_syntax.specs.Forms.{application, expression_count, expression_of, expressions_of, expressions_of_all}
use Rattle.bd_syntax.specs.Reading.{before_last, last_node}
use Rattle.bd_syntax.specs.declared.form.Spot.{Spot}
use Rattle.bd_syntax.specs.declared.form.Form.{Form}
use Rattle.bd_syntax.specs.declared.form.Form.TheVariants.{List as ListOf}
use Rattle.bd_syntax.specs.declared.form.Form.{the_lemmas}
use Rattle.bd_syntax.specs.declared.form.Forms.{Forms}

pub expression_of-List : (offset : ℕ) (head : Spot) (parts : Forms) → expression_of (ListOf offset head parts) ≡ application offset head (expressions_of parts)
expression_of-List offset head parts = search (rules, the_lemmas)

pub expressions_of-items : (es : Forms) → expressions_of es ≡ expressions_of_all es.items.items
expressions_of-items es = search (rules, the_lemmas)

pub expression_count-expressions_of_all : (es : List Form) → expression_count (expressions_of_all es) ≡ length es
expression_count-expressions_of_all [] = refl
expression_count-expressions_of_all (e ∷ es) = omega (arith, expression_count-expressions_of_all es)

-- so many trees are seen as so many nodes
pub node_counts : (ts : List Tree) → node_count (nodes_of_all ts) ≡ length ts
node_counts ts = node_count-nodes_of_all ts

last_node-add : (ts : Nodes) (t : Node) → last_node (add_node ts t) ≡ Some t
last_node-add no_nodes t = refl
last_node-add (node u no_nodes) t = refl
last_node-add (node u (node v vs)) t = last_node-add (node v vs) t

before_last-add : (ts : Nodes) (t : Node) → before_last (add_node ts t) ≡ ts
before_last-add no_nodes t = refl
before_last-add (node u no_nodes) t = refl
before_last-add (node u (node v vs)) t = ap (node u) (before_last-add (node v vs) t)

-- the last of some trees, and those before it
pub last_node-push : (ts : List Tree) (t : Tree) → last_node (nodes_of_all (ts ++ t ∷ [])) ≡ Some (node_of t)
last_node-push ts t = ap last_node (nodes_of_all-push ts t) ∙ last_node-add (nodes_of_all ts) (node_of t)

pub before_last-push : (ts : List Tree) (t : Tree) → before_last (nodes_of_all (ts ++ t ∷ [])) ≡ nodes_of_all ts
before_last-push ts t = ap before_last (nodes_of_all-push ts t) ∙ before_last-add (nodes_of_all ts) (node_of t)
