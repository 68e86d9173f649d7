-- Denotations stay when a graph grows.
use Rattle.std.proofs.Common.{◌≡◌, ℕ, ◌<◌, List, [], ◌∷◌, ◌++◌, length, slice_get, take, drop, Some, ◌+◌, map, refl, ap, sym, ◌∙◌, false}
use Rattle.std.specs.List.{All}
use Rattle.std.proofs.lemmas.List.Elements.{All-head, All-tail}
use Rattle.bd_list.proofs.Grown.{get-grown_front}
use Rattle.bd_model.specs.declared.design.Sort.TheVariants as sort
use Rattle.bd_terms.specs.declared.node.Node.{Node}
use Rattle.bd_terms.specs.declared.node.Node.TheVariants.{True, Not, And, Or, Ite, Eq, App, Pred, Read, Write, Init}
use Rattle.bd_terms.specs.Graph.{HasSort, FitsSorts, IsGraph}
use Rattle.bd_terms.proofs.Places.{around, grown-get}
use Rattle.bd_terms.specs.Denotation.{World, Truth, word_of, node_value, values, denoted}

-- what a node denotes stays when the graph grows
pub denoted-front : (w : World) (xs ys : List Node) (id : ℕ) → id < length xs → denoted w (xs ++ ys) id ≡ denoted w xs id
denoted-front w xs ys id h = get-grown_front (node_value w) xs ys id (Truth false) h

words-front : (w : World) (xs ys : List Node) (args : List ℕ) → All (λ a. HasSort xs a sort.Word) args → map (λ a. word_of (denoted w (xs ++ ys) a)) args ≡ map (λ a. word_of (denoted w xs a)) args
words-front w xs ys [] h = refl
words-front w xs ys (a ∷ args) h =
    cc (denoted-front w xs ys a (All-head (λ a. HasSort xs a sort.Word) a args h).inside, words-front w xs ys args (All-tail (λ a. HasSort xs a sort.Word) a args h))

-- so what a node over a graph denotes stays too
pub node_value-front : (w : World) (xs ys : List Node) (node : Node) → FitsSorts xs node → node_value w (values w (xs ++ ys)) node ≡ node_value w (values w xs) node
node_value-front w xs ys True h = refl
node_value-front w xs ys (Not a) h = rw (denoted-front w xs ys a h.inside) refl
node_value-front w xs ys (And a b) h = rw (denoted-front w xs ys a h.0.inside, denoted-front w xs ys b h.1.inside) refl
node_value-front w xs ys (Or a b) h = rw (denoted-front w xs ys a h.0.inside, denoted-front w xs ys b h.1.inside) refl
node_value-front w xs ys (Ite c a b) h = rw (denoted-front w xs ys c h.0.inside, denoted-front w xs ys a h.1.inside, denoted-front w xs ys b h.2.inside) refl
node_value-front w xs ys (Eq a b) h = rw (denoted-front w xs ys a h.0.inside, denoted-front w xs ys b h.1.inside) refl
node_value-front w xs ys (App s args) h = rw (words-front w xs ys args h) refl
node_value-front w xs ys (Pred s args) h = rw (words-front w xs ys args h) refl
node_value-front w xs ys (Read m a) h = rw (denoted-front w xs ys m h.0.inside, denoted-front w xs ys a h.1.inside) refl
node_value-front w xs ys (Write m a d) h = rw (denoted-front w xs ys m h.0.inside, denoted-front w xs ys a h.1.inside, denoted-front w xs ys d h.2.inside) refl
node_value-front w xs ys (Init e) h = refl

-- what a node denotes is what it says of the nodes that it stands over
pub denoted-get : (w : World) (nodes : List Node) → IsGraph nodes → (i : ℕ) (node : Node) → slice_get nodes i ≡ Some node → denoted w nodes i ≡ node_value w (values w nodes) node
denoted-get w nodes g i node h =
    grown-get (node_value w) nodes i node (Truth false) h
    ∙ sym (ap (λ l. node_value w (values w l) node) (around nodes i node h) ∙ node_value-front w (take i nodes) (node ∷ drop (i + 1) nodes) node (g.fits i node h))
