use Rattle.std.proofs.Common.{◌≡◌, ◌∙◌, ◌<◌, ◌+◌, ◌++◌, ◌∷◌, [], ℕ, IsSome, None, ap, arith, drop, length, subst}
use Rattle.std.specs.Prelude.{slice_index_or}
use Rattle.std.proofs.lemmas.List.{drop_all, drop_more}
use Rattle.std.proofs.lemmas.Result.{IfOk-weaker}
use Rattle.bd_prop.specs.declared.choices.Choice.TheVariants.{Test, Leaf}
use Rattle.bd_cnf.specs.Literal.{Literal, negate}
use Rattle.bd_tseitin.specs.inner.Step.{known, Pushes, PushesBranch}
use Rattle.bd_tseitin.proofs.Joined.{known_is}
use Rattle.bd_tseitin.proofs.Trees.{named_at, puts_choice, puts_leaf, puts_missing, puts_negation}
use Rattle.bd_tseitin.proofs.definition.+branch.Goals as goal

pub returns-then-from-items-clause-branch : goal.returns-then-from-items-clause-branch
returns-then-from-items-clause-branch t c =
    let path = c.args.path.now in
    let old = c.args.clauses.now.items in
    let new = c.push.new.clauses.items in
    let missing : c.deref.result.now ≡ path ++ negate c.args.gate ∷ [] = c.deref.ensures.value ∙ c.in_ok-missing.ensures ∙ ap (λ (l : Literal). path ++ l ∷ []) c.negated.ensures in
    puts_missing (known c.args.literals.now) path c.args.gate (drop c.args.from c.args.items.now) old new (drop_all c.args.from c.args.items.now (omega arith))
    (subst (λ ds. Pushes old (ds ∷ []) new) missing c.in_ok-push.ensures)

pub literal-control-requires : goal.literal-control-requires
literal-control-requires t c =
    let inside : c.args.from < length c.args.items.now = omega arith in
    named_at (λ id. IsSome (slice_index_or c.args.literals.now id None)) c.args.items.now c.args.from _ (Test c.in-Test.a) inside c.in-Test.is c.requires.known 0 0 (omega arith)

pub literal-leaf-requires : goal.literal-leaf-requires
literal-leaf-requires t c =
    let inside : c.args.from < length c.args.items.now = omega arith in
    named_at (λ id. IsSome (slice_index_or c.args.literals.now id None)) c.args.items.now c.args.from _ (Leaf c.in-Leaf.a) inside c.in-Leaf.is c.requires.known 0 0 (omega arith)

pub returns-in_ok-no-in-Test-clause-branch : goal.returns-in_ok-no-in-Test-clause-branch
returns-in_ok-no-in-Test-clause-branch t c =
    let items = c.args.items.now in
    let from = c.args.from in
    let inside : from < length items = omega arith in
    let ls = c.args.literals.now in
    let path = c.args.path.now in
    let control : Literal = c.literal-control.result in
    let next : ℕ = c.in_ok-next-in-Test.next in
    let old = c.args.clauses.now.items in
    let mid = c.branch-alloc.new.clauses.items in
    let new = c.branch-alloc-in-Test.new.clauses.items in
    let left : c.deref-in-Test.result.now ≡ path ++ negate control ∷ [] = c.deref-in-Test.ensures.value ∙ c.in_ok-yes-in-Test.ensures ∙ ap (λ (l : Literal). path ++ l ∷ []) c.negated-in-Test.ensures in
    let right : c.deref-in-Test-2.result.now ≡ path ++ control ∷ [] = c.deref-in-Test-2.ensures.value ∙ c.in_ok-no-in-Test.ensures in
    IfOk-weaker c.branch-alloc-in-Test.result
    (λ end. PushesBranch (known ls) c.deref-in-Test-2.result.now c.args.gate (drop next items) (drop end items) mid new)
    (λ end. PushesBranch (known ls) path c.args.gate (drop from items) (drop end items) old new)
    (λ end made. puts_choice (known ls) path c.args.gate (drop from items) (drop (from + 1) items) (drop next items) (drop end items) c.in-Test.a control c.deref-in-Test.result.now c.deref-in-Test-2.result.now old mid new
    (drop_more items from _ inside ∙ ap (λ x. x ∷ drop (from + 1) items) c.in-Test.is) (known_is ls c.in-Test.a control c.literal-control.ensures) left right c.in_ok-next-in-Test.ensures.branch made)
    c.branch-alloc-in-Test.ensures.branch

pub returns-in-Not-clause-branch : goal.returns-in-Not-clause-branch
returns-in-Not-clause-branch t c =
    let items = c.args.items.now in
    let from = c.args.from in
    let inside : from < length items = omega arith in
    let ls = c.args.literals.now in
    let path = c.args.path.now in
    let below : Literal = c.negated-below.result in
    let old = c.args.clauses.now.items in
    let new = c.branch-alloc-in-Not.new.clauses.items in
    IfOk-weaker c.branch-alloc-in-Not.result
    (λ end. PushesBranch (known ls) path below (drop (from + 1) items) (drop end items) old new)
    (λ end. PushesBranch (known ls) path c.args.gate (drop from items) (drop end items) old new)
    (λ end made. puts_negation (known ls) path c.args.gate (drop from items) (drop (from + 1) items) (drop end items) below old new
    (drop_more items from _ inside ∙ ap (λ x. x ∷ drop (from + 1) items) c.in-Not.is) c.negated-below.ensures made)
    c.branch-alloc-in-Not.ensures.branch

pub returns-in_ok-define_leaf-in-Leaf-clause-branch : goal.returns-in_ok-define_leaf-in-Leaf-clause-branch
returns-in_ok-define_leaf-in-Leaf-clause-branch t c =
    let items = c.args.items.now in
    let from = c.args.from in
    let inside : from < length items = omega arith in
    let ls = c.args.literals.now in
    let path = c.args.path.now in
    puts_leaf (known ls) path c.args.gate (drop from items) (drop (from + 1) items) c.in-Leaf.a c.literal-leaf.result c.args.clauses.now.items c.define_leaf.new.clauses.items
    (drop_more items from _ inside ∙ ap (λ x. x ∷ drop (from + 1) items) c.in-Leaf.is) (known_is ls c.in-Leaf.a c.literal-leaf.result c.literal-leaf.ensures) c.in_ok-define_leaf-in-Leaf.ensures
