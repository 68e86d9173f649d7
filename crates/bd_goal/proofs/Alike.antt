-- What a root denotes rests on no more than the values, as they are used, of the symbols that it reaches.
use Rattle.std.proofs.Common.{◌≡◌, ℕ, zero, suc, ◌<◌, false, List, [], ◌∷◌, length, slice_get, slice_index_or, map, Some, Contains, refl, ap, sym, ◌∙◌, arith}
use Rattle.std.proofs.lemmas.Option.{slice_get-get_or}
use Rattle.std.proofs.lemmas.List.{length-map}
use Rattle.std.proofs.Math.Path.{fun_ext}
use Rattle.bd_model.specs.Table.{at}
use Rattle.bd_model.specs.Value.{scalar_truth, scalar_word}
use Rattle.bd_model.specs.declared.design.Sort.{Sort}
use Rattle.bd_model.specs.declared.design.Sort.TheVariants as sort
use Rattle.bd_model.specs.declared.table.Scalar.{Scalar}
use Rattle.bd_model.specs.declared.table.Scalar.TheVariants as scalar
use Rattle.bd_terms.specs.declared.node.Sym.TheVariants as symbol
use Rattle.bd_terms.specs.declared.node.Node.{Node}
use Rattle.bd_terms.specs.declared.node.Node.TheVariants.{True, Not, And, Or, Ite, Eq, App, Pred, Read, Write, Init}
use Rattle.bd_terms.specs.Graph.{IsGraph, Use, children, node_uses}
use Rattle.bd_terms.specs.Denotation.{World, Denoted, Truth, Word, Contents, word_of, at_place, node_value, values, denoted, applied, holds}
use Rattle.bd_terms.specs.Reaches.{Reaches, Root, Child, ReachesUse}
use Rattle.bd_terms.proofs.Denotations.{denoted-get}
use Rattle.bd_terms.proofs.Reaching.{children-below}
use Rattle.bd_list.proofs.Membership.{first, second, third}
use Rattle.bd_terms.proofs.Resting.{words-alike}

-- a scalar as one of a sort
abbrev pub as_sort : Sort → Scalar → Scalar
as_sort sort.Bool x = scalar.Bool (scalar_truth x)
as_sort sort.Word x = scalar.Word (scalar_word x)
as_sort sort.Memory x = scalar.Bool false

-- in both worlds the symbol gives one value to so many arguments as it is used with
abbrev pub GivesSame : World → World → Use → Type 0
GivesSame v w u = (args : List ℕ) → length args ≡ u.arity → as_sort u.sort (at (v u.symbol) args) ≡ as_sort u.sort (at (w u.symbol) args)

node_value-alike : (v w : World) (xs ys : List Denoted) (node : Node) → ((c : ℕ) → Contains (children node) c → at_place xs c ≡ at_place ys c)
    → ((u : Use) → Contains (node_uses node) u → GivesSame v w u) → node_value v xs node ≡ node_value w ys node
node_value-alike v w xs ys True h k = refl
node_value-alike v w xs ys (Not a) h k = rw (h a (first a [])) refl
node_value-alike v w xs ys (And a b) h k = rw (h a (first a (b ∷ [])), h b (second a b [])) refl
node_value-alike v w xs ys (Or a b) h k = rw (h a (first a (b ∷ [])), h b (second a b [])) refl
node_value-alike v w xs ys (Ite c a b) h k = rw (h c (first c (a ∷ b ∷ [])), h a (second c a (b ∷ [])), h b (third c a b [])) refl
node_value-alike v w xs ys (Eq a b) h k = rw (h a (first a (b ∷ [])), h b (second a b [])) refl
node_value-alike v w xs ys (App s args) h k =
    let given : List ℕ = map (λ a. word_of (at_place ys a)) args in
    let same = k _ (first _ []) given (length-map args (λ a. word_of (at_place ys a))) in
    ap (λ l. Word (applied v s l)) (words-alike xs ys args h) ∙ ap (λ x. Word (scalar_word x)) same
node_value-alike v w xs ys (Pred s args) h k =
    let given : List ℕ = map (λ a. word_of (at_place ys a)) args in
    let same = k _ (first _ []) given (length-map args (λ a. word_of (at_place ys a))) in
    ap (λ l. Truth (holds v s l)) (words-alike xs ys args h) ∙ ap (λ x. Truth (scalar_truth x)) same
node_value-alike v w xs ys (Read m a) h k = rw (h m (first m (a ∷ [])), h a (second m a [])) refl
node_value-alike v w xs ys (Write m a d) h k = rw (h m (first m (a ∷ d ∷ [])), h a (second m a (d ∷ [])), h d (third m a d [])) refl
node_value-alike v w xs ys (Init e) h k =
    ap (λ m. Contents m) (fun_ext (λ a. ap (λ x. scalar_word x) (k (record { symbol = symbol.Entry e; arity = 1; sort = sort.Word }) (first _ []) (a ∷ []) refl)))

denoted-same_below : (v w : World) (nodes : List Node) → IsGraph nodes → (root : ℕ) → ((u : Use) → ReachesUse nodes root u → GivesSame v w u)
    → (n i : ℕ) → i < n → i < length nodes → Reaches nodes root i → denoted v nodes i ≡ denoted w nodes i
denoted-same_below v w nodes g root agree zero i lt inside r = absurd (omega arith)
denoted-same_below v w nodes g root agree (suc n) i lt inside r =
    let node = slice_index_or nodes i True in
    let there : slice_get nodes i ≡ Some node = slice_get-get_or nodes i True inside in
    denoted-get v nodes g i node there
    ∙ node_value-alike v w (values v nodes) (values w nodes) node
    (λ c p. let below = children-below nodes g i node there c p in
    denoted-same_below v w nodes g root agree n c (omega (arith, below)) (omega (arith, below)) (Child i node c r there p))
    (λ u p. agree u (record { id = i; node = node; reached = r; there = there; applies = p }))
    ∙ sym (denoted-get w nodes g i node there)

-- worlds in which each symbol that the root reaches gives the same values give the root one denotation
pub denoted-same : (v w : World) (nodes : List Node) → IsGraph nodes → (root : ℕ) → root < length nodes → ((u : Use) → ReachesUse nodes root u → GivesSame v w u) → denoted v nodes root ≡ denoted w nodes root
denoted-same v w nodes g root inside agree = denoted-same_below v w nodes g root agree (suc root) root (omega arith) inside Root
