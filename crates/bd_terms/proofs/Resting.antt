-- What a root denotes rests on no symbol but those that it reaches.
use Rattle.std.proofs.Common.{◌≡◌, ℕ, zero, suc, ◌<◌, List, [], ◌∷◌, length, slice_get, slice_index_or, map, Some, Contains, refl, ap, sym, ◌∙◌, arith}
use Rattle.std.proofs.lemmas.Option.{slice_get-get_or}
use Rattle.std.proofs.lemmas.List.Elements.{Contains-append_right}
use Rattle.bd_model.specs.Table.{at}
use Rattle.bd_model.specs.Value.{scalar_truth, scalar_word}
use Rattle.bd_terms.specs.declared.node.Node.{Node}
use Rattle.bd_terms.specs.declared.node.Node.TheVariants.{True, Not, And, Or, Ite, Eq, App, Pred, Read, Write, Init}
use Rattle.bd_terms.specs.Graph.{IsGraph, Use, children, node_uses}
use Rattle.bd_terms.specs.Denotation.{World, Denoted, Truth, Word, Contents, word_of, at_place, node_value, values, denoted, applied, holds}
use Rattle.bd_terms.specs.Reaches.{Reaches, Root, Child, AgreeBelow}
use Rattle.bd_terms.proofs.Denotations.{denoted-get}
use Rattle.bd_terms.proofs.Reaching.{children-below}
use Rattle.bd_list.proofs.Membership.{first, second, third}

pub words-alike : (xs ys : List Denoted) (args : List ℕ) → ((c : ℕ) → Contains args c → at_place xs c ≡ at_place ys c) → map (λ a. word_of (at_place xs a)) args ≡ map (λ a. word_of (at_place ys a)) args
words-alike xs ys [] h = refl
words-alike xs ys (a ∷ args) h =
    let head = h a (first a args) in
    let tail = words-alike xs ys args (λ c p. h c (Contains-append_right (a ∷ []) args c p)) in
    cc (head, tail)

-- a node denotes one thing where what it stands over does and its symbol has the same values
node_value-alike : (v w : World) (xs ys : List Denoted) (node : Node) → ((c : ℕ) → Contains (children node) c → at_place xs c ≡ at_place ys c)
    → ((u : Use) → Contains (node_uses node) u → (args : List ℕ) → at (v u.symbol) args ≡ at (w u.symbol) args)
    → node_value v xs node ≡ node_value w ys node
node_value-alike v w xs ys True h k = refl
node_value-alike v w xs ys (Not a) h k = rw (h a (first a [])) refl
node_value-alike v w xs ys (And a b) h k = rw (h a (first a (b ∷ [])), h b (second a b [])) refl
node_value-alike v w xs ys (Or a b) h k = rw (h a (first a (b ∷ [])), h b (second a b [])) refl
node_value-alike v w xs ys (Ite c a b) h k = rw (h c (first c (a ∷ b ∷ [])), h a (second c a (b ∷ [])), h b (third c a b [])) refl
node_value-alike v w xs ys (Eq a b) h k = rw (h a (first a (b ∷ [])), h b (second a b [])) refl
node_value-alike v w xs ys (App s args) h k =
    let same = words-alike xs ys args h in
    ap (λ l. Word (applied v s l)) same ∙ ap (λ x. Word (scalar_word x)) (k _ (first _ []) (map (λ a. word_of (at_place ys a)) args))
node_value-alike v w xs ys (Pred s args) h k =
    let same = words-alike xs ys args h in
    ap (λ l. Truth (holds v s l)) same ∙ ap (λ x. Truth (scalar_truth x)) (k _ (first _ []) (map (λ a. word_of (at_place ys a)) args))
node_value-alike v w xs ys (Read m a) h k = rw (h m (first m (a ∷ [])), h a (second m a [])) refl
node_value-alike v w xs ys (Write m a d) h k = rw (h m (first m (a ∷ d ∷ [])), h a (second m a (d ∷ [])), h d (third m a d [])) refl
node_value-alike v w xs ys (Init e) h k = λ i. Contains_of (λ a. scalar_word (k _ (first _ []) (a ∷ []) i))
  where
    Contains_of : (ℕ → ℕ) → Denoted
    Contains_of m = Contents m

denoted-alike_below : (v w : World) (nodes : List Node) → IsGraph nodes → (root : ℕ) → AgreeBelow nodes root v w → (n i : ℕ) → i < n → i < length nodes → Reaches nodes root i → denoted v nodes i ≡ denoted w nodes i
denoted-alike_below v w nodes g root agree zero i lt inside r = absurd (omega arith)
denoted-alike_below v w nodes g root agree (suc n) i lt inside r =
    let node = slice_index_or nodes i True in
    let there : slice_get nodes i ≡ Some node = slice_get-get_or nodes i True inside in
    denoted-get v nodes g i node there
    ∙ node_value-alike v w (values v nodes) (values w nodes) node
    (λ c p. let below = children-below nodes g i node there c p in
    denoted-alike_below v w nodes g root agree n c (omega (arith, below)) (omega (arith, below)) (Child i node c r there p))
    (λ u p. agree.alike u (record { id = i; node = node; reached = r; there = there; applies = p }))
    ∙ sym (denoted-get w nodes g i node there)

-- worlds that agree on the symbols that the root reaches give the root one denotation
pub denoted-alike : (v w : World) (nodes : List Node) → IsGraph nodes → (root : ℕ) → root < length nodes → AgreeBelow nodes root v w → denoted v nodes root ≡ denoted w nodes root
denoted-alike v w nodes g root inside agree = denoted-alike_below v w nodes g root agree (suc root) root (omega arith) inside Root
