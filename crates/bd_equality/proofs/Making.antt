-- What a node is made from stays when the graph grows.
use Rattle.std.proofs.Common.{ℕ, ◌<◌, List, Option, length, ap, sym, ◌∙◌, ◌++◌, [], append_assoc}
use Rattle.std.proofs.lemmas.List.{append-nil}
use Rattle.std.specs.List.{AllByRecursion}
use Rattle.bd_terms.specs.declared.node.Node.{Node}
use Rattle.bd_prop.specs.declared.node.PropNode.{PropNode}
use Rattle.bd_prop.specs.Graph.{Extends}
use Rattle.bd_function.specs.declared.flat.FlatSym.{FlatSym}
use Rattle.bd_equality.specs.Made.{Comes, MadeBy, Step, Subject, Ways, OfTrue, OfNot, OfAnd, OfOr, OfIte, OfPred, OfEq, Turned, Itself, OneVariable, Marked, HasEdge, Chosen, Compared, Different, NoPair, APair}

-- graphs that grow
pub Extends-self : (p : List PropNode) → Extends p p
Extends-self p = ([], sym (append-nil p))

pub Extends-trans : (a b c : List PropNode) → Extends a b → Extends b c → Extends a c
Extends-trans a b c p q = (p.0 ++ q.0, q.1 ∙ ap (λ l. l ++ q.0) p.1 ∙ append_assoc a p.0 q.0)

-- a constructor has just made the node
pub comes : (p p' : List PropNode) (parts : List ℕ) (step : Step) (id : ℕ) → AllByRecursion (λ x. x < length p) parts → step p p' id → Comes p' parts step id
comes p p' parts step id inside made = record { old = p; new = p'; inside = inside; made = made; front = Extends-self p' }

pub Comes-Extends : (p p' : List PropNode) (parts : List ℕ) (step : Step) (id : ℕ) → Extends p p' → Comes p parts step id → Comes p' parts step id
Comes-Extends p p' parts step id e c = record { old = c.old; new = c.new; inside = c.inside; made = c.made; front = Extends-trans c.new p p' c.front e }

module _ (nodes : List Node) (syms : List FlatSym) (marked : Option (List ℕ)) (ways : Ways) (p p' : List PropNode) (e : Extends p p') where
  pub MadeBy-Extends : (s : Subject) (id : ℕ) → MadeBy nodes syms marked ways p s id → MadeBy nodes syms marked ways p' s id
  MadeBy-Extends _ _ (OfTrue i id there c) = OfTrue i id there (Comes-Extends p p' _ _ id e c)
  MadeBy-Extends _ _ (OfNot i a x id there m c) = OfNot i a x id there (MadeBy-Extends _ _ m) (Comes-Extends p p' _ _ id e c)
  MadeBy-Extends _ _ (OfAnd i a b x y id there m n c) = OfAnd i a b x y id there (MadeBy-Extends _ _ m) (MadeBy-Extends _ _ n) (Comes-Extends p p' _ _ id e c)
  MadeBy-Extends _ _ (OfOr i a b x y id there m n c) = OfOr i a b x y id there (MadeBy-Extends _ _ m) (MadeBy-Extends _ _ n) (Comes-Extends p p' _ _ id e c)
  MadeBy-Extends _ _ (OfIte i c a b w x y id there l m n k) =
      OfIte i c a b w x y id there (MadeBy-Extends _ _ l) (MadeBy-Extends _ _ m) (MadeBy-Extends _ _ n) (Comes-Extends p p' _ _ id e k)
  MadeBy-Extends _ _ (OfPred i s args id there c) = OfPred i s args id there (Comes-Extends p p' _ _ id e c)
  MadeBy-Extends _ _ (OfEq i a b id there m) = OfEq i a b id there (MadeBy-Extends _ _ m)
  MadeBy-Extends _ _ (Turned a b id m) = Turned a b id (MadeBy-Extends _ _ m)
  MadeBy-Extends _ _ (Itself a b id same c) = Itself a b id same (Comes-Extends p p' _ _ id e c)
  MadeBy-Extends _ _ (OneVariable a b x id l r c) = OneVariable a b x id l r (Comes-Extends p p' _ _ id e c)
  MadeBy-Extends _ _ (Marked a b x y truth id l r other m c k) = Marked a b x y truth id l r other m (Comes-Extends p p' _ _ truth e c) (Comes-Extends p p' _ _ id e k)
  MadeBy-Extends _ _ (HasEdge a b x y id l r other m c) = HasEdge a b x y id l r other m (Comes-Extends p p' _ _ id e c)
  MadeBy-Extends _ _ (Chosen a b c w x y id apart way is l m n k) =
      Chosen a b c w x y id apart way is (MadeBy-Extends _ _ l) (MadeBy-Extends _ _ m) (MadeBy-Extends _ _ n) (Comes-Extends p p' _ _ id e k)
  MadeBy-Extends _ _ (Compared a b left right id apart way rows m) = Compared a b left right id apart way rows (MadeBy-Extends _ _ m)
  MadeBy-Extends _ _ (Different a b truth id apart way other c k) = Different a b truth id apart way other (Comes-Extends p p' _ _ truth e c) (Comes-Extends p p' _ _ id e k)
  MadeBy-Extends _ _ (NoPair id c) = NoPair id (Comes-Extends p p' _ _ id e c)
  MadeBy-Extends _ _ (APair a b left right x y id m n c) = APair a b left right x y id (MadeBy-Extends _ _ m) (MadeBy-Extends _ _ n) (Comes-Extends p p' _ _ id e c)
