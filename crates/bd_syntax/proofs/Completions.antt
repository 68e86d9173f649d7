-- Completions that are read: where their abstracts begin, and that they are well formed and within their limits.
use Rattle.std.proofs.Common.{◌≡◌, ℕ, zero, suc, ◌+◌, ◌<◌, ◌≤◌, Bool, true, false, cond, List, [], ◌∷◌, length, take, drop, get_or, Ok, Err, refl, ap, arith}
use Rattle.std.specs.Prelude.{IfOk, codes}
use Rattle.std.specs.List.{AllByRecursion}
use Rattle.std.proofs.lemmas.Result.{IfOk-weaker}
use Rattle.bd_text.specs.Nodes.{Node, atom, list, Nodes, no_nodes, node, node_count}
use Rattle.bd_text.specs.Written.{nesting, nesting_inside}
use Rattle.bd_text.specs.View.{node_of, nodes_of_all}
use Rattle.bd_text.specs.declared.tree.Tree.{Tree}
use Rattle.bd_text.specs.declared.code.Code.TheVariants.{Malformed}
use Rattle.bd_syntax.specs.Completion.{AbstractView, CompView, is_abstract, before_abstracts, from_abstracts, begins_abstract, abstracted_form, misplaced_form, abstract_form, completion_form, IsAbstract, IsCompAst, IsLimitedCompAst}
use Rattle.bd_syntax.specs.Forms.{ItemView}
use Rattle.bd_syntax.specs.Reading.{◌>>=◌, Fault, refused, name_form, first_form, others, each_form, expression_form, head_form, item_form, file_form}
use Rattle.bd_syntax.specs.Words.{head_of}
use Rattle.bd_syntax.specs.WellFormed.{IsNamed, IsShort, AreShort, AreWithinLimits, IsLimited}
use Rattle.bd_syntax.specs.declared.head.Head.{Head}
use Rattle.bd_syntax.specs.declared.head.Place.TheVariants as places
use Rattle.bd_syntax.proofs.Results.{holds_then, anything}
use Rattle.bd_syntax.proofs.WellFormed.{Keeps, AreWithin, AreWithin-others, AreWithin-inside, AllRead, AreItems, IsInside, IsLimited-kept, name_holds, expression_holds, each_holds, items_hold, file_holds, length-AllRead, All-AllRead}
use Rattle.bd_model.specs.Limits.{longest_text}

-- ---- where the abstracts begin

abbrev pub IsOther : Tree → Type 0
IsOther t = is_abstract (node_of t) ≡ false

module _ (d : Tree) where
  pub before-first : (ts : List Tree) (i : ℕ) → i < length ts → AllByRecursion IsOther (take i ts) → is_abstract (node_of (get_or ts i d)) ≡ true → before_abstracts (nodes_of_all ts) ≡ nodes_of_all (take i ts)
  before-first [] i lt h is = absurd (omega arith)
  before-first (t ∷ ts) zero lt h is = rw is refl
  before-first (t ∷ ts) (suc i) lt h is = rw h.0 (ap (node (node_of t)) (before-first ts i (omega arith) h.1 is))

  pub from-first : (ts : List Tree) (i : ℕ) → i < length ts → AllByRecursion IsOther (take i ts) → is_abstract (node_of (get_or ts i d)) ≡ true → from_abstracts (nodes_of_all ts) ≡ nodes_of_all (drop i ts)
  from-first [] i lt h is = absurd (omega arith)
  from-first (t ∷ ts) zero lt h is = rw is refl
  from-first (t ∷ ts) (suc i) lt h is = rw h.0 (from-first ts i (omega arith) h.1 is)

pub before-none : (ts : List Tree) (i : ℕ) → length ts ≤ i → AllByRecursion IsOther (take i ts) → before_abstracts (nodes_of_all ts) ≡ nodes_of_all ts
before-none [] i le h = refl
before-none (t ∷ ts) zero le h = absurd (omega arith)
before-none (t ∷ ts) (suc i) le h = rw h.0 (ap (node (node_of t)) (before-none ts i (omega arith) h.1))

pub from-none : (ts : List Tree) (i : ℕ) → length ts ≤ i → AllByRecursion IsOther (take i ts) → from_abstracts (nodes_of_all ts) ≡ no_nodes
from-none [] i le h = refl
from-none (t ∷ ts) zero le h = absurd (omega arith)
from-none (t ∷ ts) (suc i) le h = rw h.0 (from-none ts i (omega arith) h.1)

-- an abstract has three parts
pub abstracted-malformed : (offset : ℕ) (ts : List Tree) → (length ts ≡ 2 → ⊥) → abstracted_form offset (nodes_of_all ts) ≡ refused offset Malformed
unfolding abstracted_form
abstracted-malformed offset [] h = refl
abstracted-malformed offset (t ∷ []) h = refl
abstracted-malformed offset (t ∷ u ∷ []) h = absurd (h refl)
abstracted-malformed offset (t ∷ u ∷ v ∷ ts) h = refl

-- ---- well formed, within the limits

-- an abstract that was read from a tree
abbrev IsReadFrom : Node → AbstractView → Type 0
IsReadFrom t part = IsAbstract part × (nesting t ≤ 200 → IsShort longest_text t → IsLimited part.value)

abstracted_holds : (offset : ℕ) (ts : Nodes) → IfOk (abstracted_form offset ts) (λ part. IsAbstract part × (AreWithin ts → IsLimited part.value))
unfolding abstracted_form
abstracted_holds offset no_nodes = tt
abstracted_holds offset (node t no_nodes) = tt
abstracted_holds offset (node t (node u (node v vs))) = tt
abstracted_holds offset (node t (node u no_nodes)) =
    let Q : AbstractView → Type 0 = λ part. IsAbstract part × (AreWithin (node t (node u no_nodes)) → IsLimited part.value) in
    holds_then IsNamed Q (name_form t) (λ name. expression_form u >>= λ value. Ok (record { offset = offset; name = name; value = value })) (name_holds t)
    (λ name named. holds_then (Keeps u) Q (expression_form u) (λ value. Ok (record { offset = offset; name = name; value = value })) (expression_holds u)
    (λ value keeps. ((named, keeps.formed), λ within. IsLimited-kept u value keeps (omega (arith, within.nesting)) within.short.1.0)))

misplaced_holds : (offset : ℕ) (text : List ℕ) (parts : ℕ) (P : AbstractView → Type 0) → IfOk (misplaced_form offset text parts) P
unfolding misplaced_form
misplaced_holds offset text parts P =
    holds_then (λ _. Unit {0}) P (head_form places.Pipeline offset parts (head_of text)) (λ head. _) (anything (head_form places.Pipeline offset parts (head_of text))) (λ head _. tt)

abstract_holds : (t : Node) → IfOk (abstract_form t) (IsReadFrom t)
unfolding abstract_form
abstract_holds (atom offset text) = tt
abstract_holds (list offset parts) =
    let Q = IsReadFrom (list offset parts) in
    holds_then (λ _. Unit {0}) Q (first_form offset parts) (λ first. cond (begins_abstract first.text) (abstracted_form offset (others parts)) (misplaced_form offset first.text (node_count (others parts)))) (anything (first_form offset parts))
    (λ first _. either (begins_abstract first.text) first.text)
  where
    either : (b : Bool) (text : List ℕ) → IfOk (cond b (abstracted_form offset (others parts)) (misplaced_form offset text (node_count (others parts)))) (IsReadFrom (list offset parts))
    either true text = IfOk-weaker (abstracted_form offset (others parts)) _ (IsReadFrom (list offset parts))
        (λ part read. (read.0, λ deep short. read.1 (AreWithin-others parts (AreWithin-inside offset parts deep short)))) (abstracted_holds offset (others parts))
    either false text = misplaced_holds offset text (node_count (others parts)) (IsReadFrom (list offset parts))

limited_parts : (ts : Nodes) (parts : List AbstractView) → nesting_inside ts ≤ 200 → AreShort longest_text ts → AllRead IsReadFrom ts parts → AllByRecursion (λ (part : AbstractView). IsLimited part.value) parts
limited_parts no_nodes [] deep short h = tt
limited_parts no_nodes (x ∷ xs) deep short h = absurd h
limited_parts (node t ts) [] deep short h = absurd h
limited_parts (node t ts) (x ∷ xs) deep short h = (h.0.1 (omega (arith, deep)) short.0, limited_parts ts xs (omega (arith, deep)) short.1 h.1)

count-before : (ts : Nodes) → node_count (before_abstracts ts) ≤ node_count ts
count-before no_nodes = omega arith
count-before (node t ts) = by_first (is_abstract t) (count-before ts) where
  by_first : (b : Bool) → node_count (before_abstracts ts) ≤ node_count ts → node_count (cond b no_nodes (node t (before_abstracts ts))) ≤ 1 + node_count ts
  by_first true rest = omega arith
  by_first false rest = omega (arith, rest)

AreWithin-before : (ts : Nodes) → AreWithin ts → AreWithin (before_abstracts ts)
AreWithin-before no_nodes h = h
AreWithin-before (node t ts) h = by_first (is_abstract t) (AreWithin-before ts (AreWithin-others (node t ts) h)) where
  by_first : (b : Bool) → AreWithin (before_abstracts ts) → AreWithin (cond b no_nodes (node t (before_abstracts ts)))
  by_first true rest = record { nesting = omega arith; count = omega arith; short = tt }
  by_first false rest = record {
    nesting = omega (arith, h.nesting, rest.nesting);
    count = omega (arith, h.count, count-before ts);
    short = (h.short.0, rest.short);
  }

AreWithin-from : (ts : Nodes) → AreWithin ts → AreWithin (from_abstracts ts)
AreWithin-from no_nodes h = h
AreWithin-from (node t ts) h = by_first (is_abstract t) (AreWithin-from ts (AreWithin-others (node t ts) h)) where
  by_first : (b : Bool) → AreWithin (from_abstracts ts) → AreWithin (cond b (node t ts) (from_abstracts ts))
  by_first true rest = h
  by_first false rest = rest

pub completion_holds : (trees : Nodes) → IfOk (completion_form trees) (λ ast. IsCompAst ast × (AreWithinLimits trees → IsLimitedCompAst ast))
unfolding completion_form
completion_holds trees =
    let Q : CompView → Type 0 = λ ast. IsCompAst ast × (AreWithinLimits trees → IsLimitedCompAst ast) in
    holds_then (IsInside trees) Q (file_form (codes "completion") trees) (λ file. each_form (item_form places.Invariant) (before_abstracts file.1) >>= λ lets. each_form abstract_form (from_abstracts file.1) >>= λ parts. Ok (record { offset = file.0; lets = lets; parts = parts })) (file_holds (codes "completion") trees)
    (λ file inside. holds_then (AreItems places.Invariant (before_abstracts file.1)) Q (each_form (item_form places.Invariant) (before_abstracts file.1)) (λ lets. each_form abstract_form (from_abstracts file.1) >>= λ parts. Ok (record { offset = file.0; lets = lets; parts = parts })) (items_hold places.Invariant (before_abstracts file.1))
    (λ lets all. holds_then (AllRead IsReadFrom (from_abstracts file.1)) Q (each_form abstract_form (from_abstracts file.1)) (λ parts. Ok (record { offset = file.0; lets = lets; parts = parts })) (each_holds IsReadFrom abstract_form abstract_holds (from_abstracts file.1))
    (λ parts read. (
      record { lets = all.0; parts = All-AllRead IsReadFrom IsAbstract (λ t part is. is.0) (from_abstracts file.1) parts read },
      λ limits.
          let within = AreWithin-from file.1 (inside limits) in
          record {
            lets = all.1 (AreWithin-before file.1 (inside limits));
            count = omega (arith, within.count, length-AllRead IsReadFrom (from_abstracts file.1) parts read);
            each = limited_parts (from_abstracts file.1) parts within.nesting within.short read;
          },
    ))))
