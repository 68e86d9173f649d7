-- Each clause but the root's has literals of one reached node and its children alone.
use Rattle.std.proofs.Common.{◌≡◌, ◌⊎◌, ℕ, ◌<◌, true, List, [], ◌∷◌, ◌++◌, length, get_or, All, Contains, refl, ap, sym, ◌∙◌, subst, inl, inr}
use Rattle.std.specs.List.{flat_map}
use Rattle.std.proofs.lemmas.Bool.{false≢true, or_cases}
use Rattle.std.proofs.lemmas.List.Elements.{All-append, All-cons, All-head, All-nil, All-tail, Contains-get_or}
use Rattle.std.proofs.lemmas.Option.{get_or_from_slice_get}
use Rattle.bd_prop.specs.declared.node.PropNode.{PropNode}
use Rattle.bd_prop.specs.declared.node.PropNode.TheVariants.{True}
use Rattle.bd_prop.specs.Node.{children}
use Rattle.bd_prop.specs.Form.{node_at}
use Rattle.bd_cnf.specs.Literal.{Literal, has_literal, negate}
use Rattle.bd_cnf.specs.Clause.{SameLiterals}
use Rattle.bd_cnf.proofs.Literals.{has_at, literal_eq-true}
use Rattle.bd_tseitin.specs.declared.row.AtomVar.{AtomVar}
use Rattle.bd_tseitin.specs.Definition.{AreClauses, definition}
use Rattle.bd_tseitin.specs.Form.{AreLocal, IsLocal, IsOf, IsTseitin, definition_at}
use Rattle.bd_tseitin.proofs.Flat.{All-flat}
use Rattle.bd_tseitin.proofs.Within.{definition_all}

all_has : (P : Literal → Type 0) (ls : List Literal) (l : Literal) → All P ls → has_literal ls l ≡ true → P l
all_has P [] l low h = absurd (false≢true h)
all_has P (m ∷ ms) l low h =
    elim (or_cases _ _ h) [
      | inl e ↦ subst P (sym (literal_eq-true l m e)) (All-head P m ms low)
      | inr e ↦ all_has P ms l (All-tail P m ms low) e
    ]

all_same : (P : Literal → Type 0) (c d : List Literal) → SameLiterals c d → All P d → All P c
all_same P c d same low k e h = all_has P d (get_or c k e) low (sym (same (get_or c k e)) ∙ has_at k c e (get_or c k e) h refl)

-- what clauses of the same literals share holds of the clauses
clauses_all : (Q : List Literal → Type 0) → ((c d : List Literal) → SameLiterals c d → Q d → Q c) → (ds cs : List (List Literal)) → All Q ds → AreClauses ds cs → All Q cs
clauses_all Q share [] cs all is = subst (All Q) (sym is) (All-nil Q)
clauses_all Q share (d ∷ ds) cs all (inl (always, left)) = clauses_all Q share ds cs (All-tail Q d ds all) left
clauses_all Q share (d ∷ ds) cs all (inr (c, rest, is, same, left)) =
    subst (All Q) (sym is) (All-cons Q c rest (share c d same (All-head Q d ds all)) (clauses_all Q share ds rest (All-tail Q d ds all) left))

pub are_local : (nodes : List PropNode) (root vars : ℕ) (clauses : List (List Literal)) (rows : List AtomVar) (form : IsTseitin nodes root vars clauses rows) → AreLocal nodes root form.literal_of clauses
are_local nodes root vars clauses rows form =
    clauses_all Q share (flat_map (definition_at nodes form.literal_of) form.gates ++ (form.literal_of root ∷ []) ∷ []) clauses
    (All-append Q (flat_map (definition_at nodes form.literal_of) form.gates) ((form.literal_of root ∷ []) ∷ []) (All-flat (definition_at nodes form.literal_of) Q form.gates each)
    (All-cons Q (form.literal_of root ∷ []) [] (inl (λ l. refl)) (All-nil Q))) form.defined
  where
    Q : List Literal → Type 0
    Q c = SameLiterals c (form.literal_of root ∷ []) ⊎ IsLocal nodes root form.literal_of c

    share : (c d : List Literal) → SameLiterals c d → Q d → Q c
    share c d same (inl unit) = inl (λ l. same l ∙ unit l)
    share c d same (inr is) = inr (record {
      id = is.id;
      node = is.node;
      reached = is.reached;
      stands = is.stands;
      literals = all_same (IsOf form.literal_of is.id is.node) c d same is.literals;
    })

    each : (k d : ℕ) → k < length form.gates → All Q (definition_at nodes form.literal_of (get_or form.gates k d))
    each k d h j e low =
        let g : ℕ = get_or form.gates k d in
        let gate = (form.are_gates g).0 (Contains-get_or form.gates k d h) in
        let n : PropNode = gate.0 in
        let all = definition_all (IsOf form.literal_of g n) (λ l of. of) form.literal_of (form.literal_of g) n (inl refl) (λ i f short. inr (get_or (children n) i f, Contains-get_or (children n) i f short, refl)) in
        let here : node_at nodes g ≡ n = get_or_from_slice_get nodes g n True gate.1 in
        let mine : All (All (IsOf form.literal_of g n)) (definition_at nodes form.literal_of g) = subst (λ m. All (All (IsOf form.literal_of g n)) (definition form.literal_of (form.literal_of g) m)) (sym here) all in
        inr (record { id = g; node = n; reached = gate.3; stands = gate.1; literals = mine j e low })
