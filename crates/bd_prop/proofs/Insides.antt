-- The two passes that find which choices are inside trees, step by step.
use Rattle.std.proofs.Common.{◌≡◌, ℕ, ◌<◌, ◌+◌, List, [], ◌∷◌, ◌++◌, length, get_or, take, fold, replicate, set, refl, ap, sym, ◌∙◌, suc, arith}
use Rattle.std.proofs.lemmas.List.{length-set, length-replicate, length-take-le, take_more}
use Rattle.bd_list.proofs.Grown.{grown-push, length-grown}
use Rattle.bd_prop.specs.declared.inside.Uses.{Uses}
use Rattle.bd_prop.specs.declared.inside.Uses.TheVariants.{Nowhere, OneBranch, Elsewhere}
use Rattle.bd_prop.specs.declared.node.PropNode.{PropNode}
use Rattle.bd_prop.specs.declared.node.PropNode.TheVariants.{True, Atom as OfAtom, Not, And, Or, Ite, Tree}
use Rattle.bd_prop.specs.Form.{node_at}
use Rattle.bd_prop.specs.Node.{named}
use Rattle.bd_prop.specs.Inside.{add_use, add_uses, height, heights, use_at, use_children, uses_down, uses_of}

-- adding uses keeps how many nodes there are
length-add_use : (more : Uses) (uses : List Uses) (id : ℕ) → length (add_use more uses id) ≡ length uses
length-add_use more uses id = length-set uses id _

length-add_each : (more : Uses) (uses : List Uses) (ids : List ℕ) → length (fold (add_use more) uses ids) ≡ length uses
length-add_each more uses [] = refl
length-add_each more uses (id ∷ ids) = length-add_each more (add_use more uses id) ids ∙ length-add_use more uses id

length-add_uses : (own : Uses) (uses : List Uses) (n : PropNode) → length (add_uses own uses n) ≡ length uses
length-add_uses own uses True = refl
length-add_uses own uses (OfAtom a) = refl
length-add_uses own uses (Not a) = length-add_use own uses a
length-add_uses own uses (And a b) = length-add_each Elsewhere uses (a ∷ b ∷ [])
length-add_uses own uses (Or a b) = length-add_each Elsewhere uses (a ∷ b ∷ [])
length-add_uses own uses (Ite a b c) = length-add_use OneBranch _ c ∙ length-add_use OneBranch _ b ∙ length-add_use Elsewhere uses a
length-add_uses own uses (Tree items) = length-add_each Elsewhere uses (named items)

pub length-use_children : (own : Uses) (uses : List Uses) (n : PropNode) → length (use_children own uses n) ≡ length uses
length-use_children Nowhere uses n = refl
length-use_children OneBranch uses n = length-add_uses OneBranch uses n
length-use_children Elsewhere uses n = length-add_uses Elsewhere uses n

-- at the start the root alone is used
pub uses-start : (nodes : List PropNode) (root : ℕ) (uses : List Uses) → uses ≡ replicate (length nodes) Nowhere → uses_down nodes (length nodes) (set uses root Elsewhere) ≡ uses_of nodes root
unfolding uses_of
uses-start nodes root uses is = ap (λ us. uses_down nodes (length nodes) (set us root Elsewhere)) is

pub uses-step : (nodes : List PropNode) (k id : ℕ) (uses : List Uses) (own : Uses) (n : PropNode) → id ≡ suc k → own ≡ use_at uses k → n ≡ node_at nodes k
    → uses_down nodes id uses ≡ uses_down nodes k (use_children own uses n)
uses-step nodes k id uses own n next used is = ap (λ m. uses_down nodes m uses) next ∙ (λ i. uses_down nodes k (use_children (sym used i) uses (sym is i)))

-- a height more
pub heights-none : (uses : List Uses) → heights [] uses ≡ []
unfolding heights
heights-none uses = refl

pub heights-more : (nodes : List PropNode) (uses : List Uses) (k : ℕ) (own : Uses) (n : PropNode) (done : List ℕ) → k < length nodes → get_or nodes k n ≡ n → own ≡ use_at uses k → done ≡ heights (take k nodes) uses
    → heights (take (k + 1) nodes) uses ≡ done ++ height own done n ∷ []
unfolding heights
heights-more nodes uses k own n done inside here used is =
    let f : List ℕ → PropNode → ℕ = λ d m. height (use_at uses (length d)) d m in
    let size : length (take k nodes) ≡ k = length-take-le k nodes (omega arith) in
    let count : length done ≡ k = ap length is ∙ length-grown f [] (take k nodes) ∙ omega (arith, size) in
    ap (λ ns. heights ns uses) (take_more nodes k n inside ∙ ap (λ m. take k nodes ++ m ∷ []) here)
    ∙ grown-push f [] (take k nodes) n
    ∙ (λ i. sym is i ++ f (sym is i) n ∷ [])
    ∙ (λ i. done ++ height (use_at uses (count i)) done n ∷ [])
    ∙ (λ i. done ++ height (sym used i) done n ∷ [])

pub length-heights : (nodes : List PropNode) (uses : List Uses) → length (heights nodes uses) ≡ length nodes
unfolding heights
length-heights nodes uses = length-grown (λ d m. height (use_at uses (length d)) d m) [] nodes ∙ omega arith
