-- What is read is well formed, and within the limits of its trees.
use Rattle.std.proofs.Common.{◌≡◌, ℕ, ◌≤◌, Bool, true, false, cond, List, [], ◌∷◌, length, Option, Some, None, Result, Ok, Err, refl, arith}
use Rattle.std.specs.Prelude.{IfOk, IsTrue, ◌||◌, ◌&&◌, nat_le, codes}
use Rattle.std.specs.List.{AllByRecursion}
use Rattle.std.proofs.lemmas.Bool.{leb-true}
use Rattle.std.proofs.lemmas.Result.{IfOk-weaker}
use Rattle.bd_text.specs.Nodes.{Node, atom, list, Nodes, no_nodes, node, node_count}
use Rattle.bd_text.specs.Written.{nesting, nesting_inside}
use Rattle.bd_syntax.specs.Name.{is_name}
use Rattle.bd_syntax.specs.Words.{same_text, is_truth, head_of, head_takes, is_item_of, operator_of, operator_takes}
use Rattle.bd_syntax.specs.Forms.{Expression, leaf, application, Expressions, expression, expression_count, ItemView, latch_item, memory_item, input_item, function_item, predicate_item, let_item, next_item, flush_item, steps_item, exact_item, distinct_item, AstView, InvView}
use Rattle.bd_syntax.specs.Reading.{Fault, ◌>>=◌, spot, name_form, is_number, number_of, number_form, scalar_form, sort_form, first_form, others, each_form, operator_form, leaf_form, expression_form, argument_forms, expression_forms, latch_form, memory_form, input_form, function_form, predicate_form, let_form, next_form, flush_form, steps_form, exact_form, distinct_form, parts_form, head_form, item_form, headed_form, end_form, file_form, kind_text, kind_place, machine_form, before_last, last_node, value_form, invariant_form}
use Rattle.bd_syntax.specs.WellFormed.{IsHead, IsExpression, AreExpressions, IsNamed, IsScalar, IsItem, IsAst, IsInvAst, IsShort, AreShort, AreWithinLimits, expression_nesting, nesting_of_all, HasFewParts, HaveFewParts, IsLimited, IsLimitedItem, AreLimited, IsLimitedInvAst}
use Rattle.bd_syntax.specs.declared.form.Spot.{Spot}
use Rattle.bd_syntax.specs.declared.head.Head.{Head}
use Rattle.bd_syntax.specs.declared.head.Head.TheVariants as heads
use Rattle.bd_syntax.specs.declared.head.Place.{Place}
use Rattle.bd_syntax.specs.declared.head.Place.TheVariants as places
use Rattle.bd_syntax.specs.declared.operator.Operator.{Operator}
use Rattle.bd_model.specs.declared.design.Sort.TheVariants as sorts
use Rattle.bd_syntax.specs.declared.ast.Kind.{Kind}
use Rattle.bd_text.specs.declared.code.Code.TheVariants.{WrongHead, Malformed, NotName, NotNumber, NotOfThisFile}
use Rattle.bd_syntax.proofs.Names.{is_name-true}
use Rattle.bd_syntax.proofs.Results.{holds_then, holds_if, holds_if_both, anything, split_and}
use Rattle.bd_model.specs.Limits.{longest_text}

-- ---- atoms

pub name_holds : (t : Node) → IfOk (name_form t) IsNamed
unfolding name_form
name_holds (atom offset text) = holds_if IsNamed (is_name text) (spot offset text) (record { offset = offset; code = NotName }) (λ h. is_name-true text h)
name_holds (list offset parts) = tt

number_holds : (most : ℕ) (t : Node) → IfOk (number_form most t) (λ n. n ≤ most)
unfolding number_form
number_holds most (atom offset text) =
    holds_if (λ n. n ≤ most) (is_number text && nat_le (number_of text) most) (number_of text) (record { offset = offset; code = NotNumber })
    (λ h. let p = split_and (is_number text) (nat_le (number_of text) most) h in leb-true _ _ p.1)
number_holds most (list offset parts) = tt

two_sorts : (a b : Bool) (fault : Fault) → IfOk (cond a (Ok sorts.Word) (cond b (Ok sorts.Bool) (Err fault))) IsScalar
two_sorts true b fault = λ e. cc
two_sorts false true fault = λ e. cc
two_sorts false false fault = tt

scalar_holds : (t : Node) → IfOk (scalar_form t) IsScalar
unfolding scalar_form
scalar_holds (atom offset text) = two_sorts (same_text text (codes "word")) (same_text text (codes "bool")) (record { offset = offset; code = Malformed })
scalar_holds (list offset parts) = tt

-- ---- expressions

-- an expression that was read from a tree
pub record Keeps (t : Node) (e : Expression) : Type 0 where
  pub formed : IsExpression e
  pub nesting : expression_nesting e ≤ nesting t
  pub few : (most : ℕ) → IsShort most t → HasFewParts most e

pub record KeepAll (ts : Nodes) (es : Expressions) : Type 0 where
  pub formed : AreExpressions es
  pub count : expression_count es ≡ node_count ts
  pub nesting : nesting_of_all es ≤ nesting_inside ts
  pub few : (most : ℕ) → AreShort most ts → HaveFewParts most es

leaf_holds : (offset : ℕ) (text : List ℕ) → IfOk (leaf_form offset text) (Keeps (atom offset text))
unfolding leaf_form
leaf_holds offset text =
    holds_if (Keeps (atom offset text)) (is_name text || is_truth text) (leaf (spot offset text)) (record { offset = offset; code = NotName })
    (λ h. record { formed = h; nesting = omega arith; few = λ most short. tt })

operator_holds : (offset n : ℕ) (head : Spot) (operator : Option Operator) → operator_of head.text ≡ operator
    → IfOk (operator_form offset head n operator) (λ h. IsHead h.text n (operator_of h.text))
operator_holds offset n head (Some operator) is =
    holds_if (λ h. IsHead h.text n (operator_of h.text)) (operator_takes operator n) head (record { offset = offset; code = Malformed }) (λ h. rw is h)
operator_holds offset n head None is =
    holds_if (λ h. IsHead h.text n (operator_of h.text)) (is_name head.text) head (record { offset = head.offset; code = NotName }) (λ h. rw is (is_name-true head.text h))

nesting_inside-others : (ts : Nodes) → nesting_inside (others ts) ≤ nesting_inside ts
nesting_inside-others no_nodes = omega arith
nesting_inside-others (node t ts) = omega arith

node_count-others : (ts : Nodes) → node_count (others ts) ≤ node_count ts
node_count-others no_nodes = omega arith
node_count-others (node t ts) = omega arith

AreShort-others : (most : ℕ) (ts : Nodes) → AreShort most ts → AreShort most (others ts)
AreShort-others most no_nodes h = tt
AreShort-others most (node t ts) h = h.1

application_kept : (offset : ℕ) (parts : Nodes) (head : Spot) (es : Expressions) → IsHead head.text (node_count (others parts)) (operator_of head.text) → KeepAll (others parts) es
    → Keeps (list offset parts) (application offset head es)
application_kept offset parts head es is_head keeps = record {
  formed = (rw keeps.count is_head, keeps.formed);
  nesting = omega (arith, keeps.nesting, nesting_inside-others parts);
  few = λ most short. (omega (arith, keeps.count, node_count-others parts, short.0), keeps.few most (AreShort-others most parts short.1));
}

mutual
  pub expression_holds : (t : Node) → IfOk (expression_form t) (Keeps t)
  expression_holds (atom offset text) = leaf_holds offset text
  expression_holds (list offset parts) =
      let Q = Keeps (list offset parts) in
      holds_then (λ _. Unit {0}) Q (first_form offset parts) (λ first. operator_form offset first (node_count (others parts)) (operator_of first.text) >>= λ head. argument_forms parts >>= λ es. Ok (application offset head es)) (anything (first_form offset parts))
      (λ first _. holds_then (λ head. IsHead head.text (node_count (others parts)) (operator_of head.text)) Q (operator_form offset first (node_count (others parts)) (operator_of first.text)) (λ head. argument_forms parts >>= λ es. Ok (application offset head es))
      (operator_holds offset (node_count (others parts)) first (operator_of first.text) refl)
      (λ head is_head. holds_then (KeepAll (others parts)) Q (argument_forms parts) (λ es. Ok (application offset head es)) (arguments_hold parts)
      (λ es keeps. application_kept offset parts head es is_head keeps)))

  arguments_hold : (ts : Nodes) → IfOk (argument_forms ts) (KeepAll (others ts))
  arguments_hold no_nodes = record { formed = tt; count = refl; nesting = omega arith; few = λ most short. tt }
  arguments_hold (node t ts) = expressions_hold ts

  expressions_hold : (ts : Nodes) → IfOk (expression_forms ts) (KeepAll ts)
  expressions_hold no_nodes = record { formed = tt; count = refl; nesting = omega arith; few = λ most short. tt }
  expressions_hold (node t ts) =
      holds_then (Keeps t) (KeepAll (node t ts)) (expression_form t) (λ e. expression_forms ts >>= λ es. Ok (expression e es)) (expression_holds t)
      (λ e one. holds_then (KeepAll ts) (KeepAll (node t ts)) (expression_forms ts) (λ es. Ok (expression e es)) (expressions_hold ts)
      (λ es all. record {
        formed = (one.formed, all.formed);
        count = omega (arith, all.count);
        nesting = omega (arith, one.nesting, all.nesting);
        few = λ most short. (one.few most short.0, all.few most short.1);
      }))

-- ---- items

-- trees within the limits
pub record AreWithin (ts : Nodes) : Type 0 where
  pub nesting : nesting_inside ts ≤ 200
  pub count : node_count ts ≤ longest_text
  pub short : AreShort longest_text ts

pub AreWithin-others : (ts : Nodes) → AreWithin ts → AreWithin (others ts)
AreWithin-others ts h = record {
  nesting = omega (arith, h.nesting, nesting_inside-others ts);
  count = omega (arith, h.count, node_count-others ts);
  short = AreShort-others longest_text ts h.short;
}

pub AreWithin-inside : (offset : ℕ) (ts : Nodes) → nesting (list offset ts) ≤ 200 → IsShort longest_text (list offset ts) → AreWithin ts
AreWithin-inside offset ts deep short = record { nesting = omega (arith, deep); count = short.0; short = short.1 }

pub IsLimited-kept : (t : Node) (e : Expression) → Keeps t e → nesting t ≤ 200 → IsShort longest_text t → IsLimited e
IsLimited-kept t e keeps deep short = record { nesting = omega (arith, keeps.nesting, deep); parts = keeps.few longest_text short }

sort_holds : (t : Node) → IfOk (sort_form t) (λ _. Unit {0})
sort_holds t = anything (sort_form t)

-- reading the trees one after the other
abbrev pub AllRead : {A : Type 0} → (Node → A → Type 0) → Nodes → List A → Type 0
AllRead P no_nodes [] = Unit {0}
AllRead P (node t ts) (x ∷ xs) = P t x × AllRead P ts xs
AllRead P _ _ = ⊥

pub each_holds : {A : Type 0} (P : Node → A → Type 0) (form : Node → Result A Fault) → ((t : Node) → IfOk (form t) (P t)) → (ts : Nodes) → IfOk (each_form form ts) (AllRead P ts)
each_holds P form h no_nodes = tt
each_holds P form h (node t ts) =
    holds_then (P t) (AllRead P (node t ts)) (form t) (λ x. each_form form ts >>= λ xs. Ok (x ∷ xs)) (h t)
    (λ x one. holds_then (AllRead P ts) (AllRead P (node t ts)) (each_form form ts) (λ xs. Ok (x ∷ xs)) (each_holds P form h ts) (λ xs all. (one, all)))

pub length-AllRead : {A : Type 0} (P : Node → A → Type 0) (ts : Nodes) (xs : List A) → AllRead P ts xs → length xs ≡ node_count ts
length-AllRead P no_nodes [] h = refl
length-AllRead P no_nodes (x ∷ xs) h = absurd h
length-AllRead P (node t ts) [] h = absurd h
length-AllRead P (node t ts) (x ∷ xs) h = omega (arith, length-AllRead P ts xs h.1)

pub All-AllRead : {A : Type 0} (P : Node → A → Type 0) (Q : A → Type 0) → ((t : Node) (x : A) → P t x → Q x) → (ts : Nodes) (xs : List A) → AllRead P ts xs → AllByRecursion Q xs
All-AllRead P Q f no_nodes [] h = tt
All-AllRead P Q f no_nodes (x ∷ xs) h = absurd h
All-AllRead P Q f (node t ts) [] h = absurd h
All-AllRead P Q f (node t ts) (x ∷ xs) h = (f t x h.0, All-AllRead P Q f ts xs h.1)

-- what holds of an item that was read from the parts after its head
abbrev IsRead : Place → Nodes → ItemView → Type 0
IsRead place ts item = IsItem place item × (AreWithin ts → IsLimitedItem item)

latch_holds : (place : Place) (offset : ℕ) (t u : Node) (ts : Nodes) → IsTrue (is_item_of place heads.Latch) → IfOk (latch_form offset t u) (IsRead place ts)
unfolding latch_form
latch_holds place offset t u ts fits =
    holds_then IsNamed (IsRead place ts) (name_form t) (λ name. scalar_form u >>= λ sort. Ok (latch_item offset name sort)) (name_holds t)
    (λ name named. holds_then IsScalar (IsRead place ts) (scalar_form u) (λ sort. Ok (latch_item offset name sort)) (scalar_holds u)
    (λ sort scalar. (record { fits = fits; parts = (named, scalar) }, λ within. tt)))

memory_holds : (place : Place) (offset : ℕ) (t : Node) (ts : Nodes) → IsTrue (is_item_of place heads.Memory) → IfOk (memory_form offset t) (IsRead place ts)
unfolding memory_form
memory_holds place offset t ts fits =
    holds_then IsNamed (IsRead place ts) (name_form t) (λ name. Ok (memory_item offset name)) (name_holds t) (λ name named. (record { fits = fits; parts = named }, λ within. tt))

input_holds : (place : Place) (offset : ℕ) (t u v : Node) → IsTrue (is_item_of place heads.Input) → IfOk (input_form offset t u v) (IsRead place (node t (node u (node v no_nodes))))
unfolding input_form
input_holds place offset t u v fits =
    let Q = IsRead place (node t (node u (node v no_nodes))) in
    holds_then IsNamed Q (name_form t) (λ name. scalar_form u >>= λ sort. expression_form v >>= λ idle. Ok (input_item offset name sort idle)) (name_holds t)
    (λ name named. holds_then IsScalar Q (scalar_form u) (λ sort. expression_form v >>= λ idle. Ok (input_item offset name sort idle)) (scalar_holds u)
    (λ sort scalar. holds_then (Keeps v) Q (expression_form v) (λ idle. Ok (input_item offset name sort idle)) (expression_holds v)
    (λ idle keeps. (record { fits = fits; parts = (named, scalar, keeps.formed) }, λ within. IsLimited-kept v idle keeps (omega (arith, within.nesting)) within.short.1.1.0))))

function_holds : (place : Place) (offset : ℕ) (t u : Node) (ts : Nodes) → IsTrue (is_item_of place heads.Function) → IfOk (function_form offset t u) (IsRead place ts)
unfolding function_form
function_holds place offset t u ts fits =
    holds_then IsNamed (IsRead place ts) (name_form t) (λ name. number_form 8 u >>= λ arity. Ok (function_item offset name arity)) (name_holds t)
    (λ name named. holds_then (λ n. n ≤ 8) (IsRead place ts) (number_form 8 u) (λ arity. Ok (function_item offset name arity)) (number_holds 8 u)
    (λ arity small. (record { fits = fits; parts = (named, small) }, λ within. tt)))

predicate_holds : (place : Place) (offset : ℕ) (t u : Node) (ts : Nodes) → IsTrue (is_item_of place heads.Predicate) → IfOk (predicate_form offset t u) (IsRead place ts)
unfolding predicate_form
predicate_holds place offset t u ts fits =
    holds_then IsNamed (IsRead place ts) (name_form t) (λ name. number_form 8 u >>= λ arity. Ok (predicate_item offset name arity)) (name_holds t)
    (λ name named. holds_then (λ n. n ≤ 8) (IsRead place ts) (number_form 8 u) (λ arity. Ok (predicate_item offset name arity)) (number_holds 8 u)
    (λ arity small. (record { fits = fits; parts = (named, small) }, λ within. tt)))

let_holds : (place : Place) (offset : ℕ) (t u v : Node) → IsTrue (is_item_of place heads.Let) → IfOk (let_form offset t u v) (IsRead place (node t (node u (node v no_nodes))))
unfolding let_form
let_holds place offset t u v fits =
    let Q = IsRead place (node t (node u (node v no_nodes))) in
    holds_then IsNamed Q (name_form t) (λ name. sort_form u >>= λ sort. expression_form v >>= λ value. Ok (let_item offset name sort value)) (name_holds t)
    (λ name named. holds_then (λ _. Unit {0}) Q (sort_form u) (λ sort. expression_form v >>= λ value. Ok (let_item offset name sort value)) (sort_holds u)
    (λ sort _. holds_then (Keeps v) Q (expression_form v) (λ value. Ok (let_item offset name sort value)) (expression_holds v)
    (λ value keeps. (record { fits = fits; parts = (named, keeps.formed) }, λ within. IsLimited-kept v value keeps (omega (arith, within.nesting)) within.short.1.1.0))))

next_holds : (place : Place) (offset : ℕ) (t u : Node) → IsTrue (is_item_of place heads.Next) → IfOk (next_form offset t u) (IsRead place (node t (node u no_nodes)))
unfolding next_form
next_holds place offset t u fits =
    let Q = IsRead place (node t (node u no_nodes)) in
    holds_then IsNamed Q (name_form t) (λ name. expression_form u >>= λ value. Ok (next_item offset name value)) (name_holds t)
    (λ name named. holds_then (Keeps u) Q (expression_form u) (λ value. Ok (next_item offset name value)) (expression_holds u)
    (λ value keeps. (record { fits = fits; parts = (named, keeps.formed) }, λ within. IsLimited-kept u value keeps (omega (arith, within.nesting)) within.short.1.0)))

flush_holds : (place : Place) (offset : ℕ) (t : Node) (ts : Nodes) → IsTrue (is_item_of place heads.Flush) → IfOk (flush_form offset t) (IsRead place ts)
unfolding flush_form
flush_holds place offset t ts fits =
    holds_then (λ n. n ≤ 64) (IsRead place ts) (number_form 64 t) (λ count. Ok (flush_item offset count)) (number_holds 64 t) (λ count small. (record { fits = fits; parts = small }, λ within. tt))

steps_holds : (place : Place) (offset : ℕ) (t : Node) (ts : Nodes) → IsTrue (is_item_of place heads.Steps) → IfOk (steps_form offset t) (IsRead place ts)
unfolding steps_form
steps_holds place offset t ts fits =
    holds_then (λ n. n ≤ 8) (IsRead place ts) (number_form 8 t) (λ count. Ok (steps_item offset count)) (number_holds 8 t) (λ count small. (record { fits = fits; parts = small }, λ within. tt))

exact_holds : (place : Place) (offset : ℕ) (t u : Node) → IsTrue (is_item_of place heads.Exact) → IfOk (exact_form offset t u) (IsRead place (node t (node u no_nodes)))
unfolding exact_form
exact_holds place offset t u fits =
    let Q = IsRead place (node t (node u no_nodes)) in
    holds_then (λ n. n ≤ 8) Q (number_form 8 t) (λ count. expression_form u >>= λ when. Ok (exact_item offset count when)) (number_holds 8 t)
    (λ count small. holds_then (Keeps u) Q (expression_form u) (λ when. Ok (exact_item offset count when)) (expression_holds u)
    (λ when keeps. (record { fits = fits; parts = (small, keeps.formed) }, λ within. IsLimited-kept u when keeps (omega (arith, within.nesting)) within.short.1.0)))

distinct_holds : (place : Place) (offset : ℕ) (ts : Nodes) → IsTrue (is_item_of place heads.Distinct) → 2 ≤ node_count ts → IfOk (distinct_form offset ts) (IsRead place ts)
unfolding distinct_form
distinct_holds place offset ts fits two =
    holds_then (AllRead (λ _. IsNamed) ts) (IsRead place ts) (each_form name_form ts) (λ names. Ok (distinct_item offset names)) (each_holds (λ _. IsNamed) name_form name_holds ts)
    (λ names all.
    let count = length-AllRead (λ _. IsNamed) ts names all in
    (record { fits = fits; parts = (omega arith, All-AllRead (λ _. IsNamed) IsNamed (λ _ _ named. named) ts names all) }, λ within. omega (arith, within.count)))

parts_hold : (place : Place) (offset : ℕ) (head : Head) (ts : Nodes) → IsTrue (is_item_of place head) → IsTrue (head_takes head (node_count ts)) → IfOk (parts_form offset head ts) (IsRead place ts)
parts_hold place offset heads.Latch (node t (node u no_nodes)) fits takes = latch_holds place offset t u (node t (node u no_nodes)) fits
parts_hold place offset heads.Memory (node t no_nodes) fits takes = memory_holds place offset t (node t no_nodes) fits
parts_hold place offset heads.Input (node t (node u (node v no_nodes))) fits takes = input_holds place offset t u v fits
parts_hold place offset heads.Function (node t (node u no_nodes)) fits takes = function_holds place offset t u (node t (node u no_nodes)) fits
parts_hold place offset heads.Predicate (node t (node u no_nodes)) fits takes = predicate_holds place offset t u (node t (node u no_nodes)) fits
parts_hold place offset heads.Let (node t (node u (node v no_nodes))) fits takes = let_holds place offset t u v fits
parts_hold place offset heads.Next (node t (node u no_nodes)) fits takes = next_holds place offset t u fits
parts_hold place offset heads.Flush (node t no_nodes) fits takes = flush_holds place offset t (node t no_nodes) fits
parts_hold place offset heads.Steps (node t no_nodes) fits takes = steps_holds place offset t (node t no_nodes) fits
parts_hold place offset heads.Exact (node t (node u no_nodes)) fits takes = exact_holds place offset t u fits
parts_hold place offset heads.Distinct ts fits takes = distinct_holds place offset ts fits (leb-true _ _ takes)
parts_hold place offset _ _ fits takes = tt

head_holds : (place : Place) (offset n : ℕ) (head : Option Head) → IfOk (head_form place offset n head) (λ h. IsTrue (head_takes h n) × IsTrue (is_item_of place h))
head_holds place offset n None = tt
head_holds place offset n (Some head) =
    holds_if_both (λ h. IsTrue (head_takes h n) × IsTrue (is_item_of place h)) (head_takes head n) (is_item_of place head) head (record { offset = offset; code = NotOfThisFile }) (record { offset = offset; code = Malformed }) (λ takes fits. (takes, fits))

-- an item that was read from a tree
abbrev IsReadFrom : Place → Node → ItemView → Type 0
IsReadFrom place t item = IsItem place item × (nesting t ≤ 200 → IsShort longest_text t → IsLimitedItem item)

item_holds : (place : Place) (t : Node) → IfOk (item_form place t) (IsReadFrom place t)
unfolding item_form
item_holds place (atom offset text) = tt
item_holds place (list offset parts) =
    let Q = IsReadFrom place (list offset parts) in
    let P : Head → Type 0 = λ head. IsTrue (head_takes head (node_count (others parts))) × IsTrue (is_item_of place head) in
    holds_then (λ _. Unit {0}) Q (first_form offset parts) (λ first. head_form place offset (node_count (others parts)) (head_of first.text) >>= λ head. parts_form offset head (others parts)) (anything (first_form offset parts))
    (λ first _. holds_then P Q (head_form place offset (node_count (others parts)) (head_of first.text)) (λ head. parts_form offset head (others parts)) (head_holds place offset (node_count (others parts)) (head_of first.text))
    (λ head takes. IfOk-weaker (parts_form offset head (others parts)) (IsRead place (others parts)) Q
    (λ item read. (read.0, λ deep short. read.1 (AreWithin-others parts (AreWithin-inside offset parts deep short))))
    (parts_hold place offset head (others parts) takes.1 takes.0)))

limited_items : (place : Place) (ts : Nodes) (items : List ItemView) → nesting_inside ts ≤ 200 → AreShort longest_text ts → AllRead (IsReadFrom place) ts items → AllByRecursion IsLimitedItem items
limited_items place no_nodes [] deep short h = tt
limited_items place no_nodes (x ∷ xs) deep short h = absurd h
limited_items place (node t ts) [] deep short h = absurd h
limited_items place (node t ts) (x ∷ xs) deep short h = (h.0.1 (omega (arith, deep)) short.0, limited_items place ts xs (omega (arith, deep)) short.1 h.1)

-- items that were read from the parts of a file
abbrev pub AreItems : Place → Nodes → List ItemView → Type 0
AreItems place ts items = AllByRecursion (IsItem place) items × (AreWithin ts → AreLimited items)

pub items_hold : (place : Place) (ts : Nodes) → IfOk (each_form (item_form place) ts) (AreItems place ts)
items_hold place ts = IfOk-weaker (each_form (item_form place) ts) (AllRead (IsReadFrom place) ts) (AreItems place ts)
    (λ items all. (
      All-AllRead (IsReadFrom place) (IsItem place) (λ t item read. read.0) ts items all,
      λ within. record {
        count = omega (arith, within.count, length-AllRead (IsReadFrom place) ts items all);
        each = limited_items place ts items within.nesting within.short all;
      },
    ))
    (each_holds (IsReadFrom place) (item_form place) (item_holds place) ts)

-- ---- files

abbrev pub IsInside : Nodes → ℕ × Nodes → Type 0
IsInside trees file = AreWithinLimits trees → AreWithin file.1

headed_holds : (head : List ℕ) (t : Node) (ts : Nodes) → IfOk (headed_form head t) (IsInside (node t ts))
headed_holds head (atom offset text) ts = tt
headed_holds head (list offset no_nodes) ts = tt
headed_holds head (list offset (node (list at inside) parts)) ts = tt
headed_holds head (list offset (node (atom at text) parts)) ts =
    holds_if (IsInside (node (list offset (node (atom at text) parts)) ts)) (same_text text head) (offset, parts) (record { offset = offset; code = WrongHead })
    (λ _ limits. AreWithin-others (node (atom at text) parts) (AreWithin-inside offset (node (atom at text) parts) (omega (arith, limits.0)) limits.1.0))

pub file_holds : (head : List ℕ) (trees : Nodes) → IfOk (file_form head trees) (IsInside trees)
file_holds head no_nodes = tt
file_holds head (node t ts) =
    holds_then (IsInside (node t ts)) (IsInside (node t ts)) (headed_form head t) (λ inside. end_form ts >>= λ end. Ok inside) (headed_holds head t ts)
    (λ inside h. holds_then (λ _. Unit {0}) (IsInside (node t ts)) (end_form ts) (λ end. Ok inside) (anything (end_form ts)) (λ end _. h))

pub machine_holds : (kind : Kind) (trees : Nodes) → IfOk (machine_form kind trees) (λ ast. IsAst ast × (AreWithinLimits trees → AreLimited ast.items))
unfolding machine_form
machine_holds kind trees =
    let Q : AstView → Type 0 = λ ast. IsAst ast × (AreWithinLimits trees → AreLimited ast.items) in
    holds_then (IsInside trees) Q (file_form (kind_text kind) trees) (λ file. each_form (item_form (kind_place kind)) file.1 >>= λ items. Ok (record { kind = kind; offset = file.0; items = items })) (file_holds (kind_text kind) trees)
    (λ file inside. holds_then (AreItems (kind_place kind) file.1) Q (each_form (item_form (kind_place kind)) file.1) (λ items. Ok (record { kind = kind; offset = file.0; items = items })) (items_hold (kind_place kind) file.1)
    (λ items all. (all.0, λ limits. all.1 (inside limits))))

AreWithin-before_last : (ts : Nodes) → AreWithin ts → AreWithin (before_last ts)
AreWithin-before_last no_nodes h = h
AreWithin-before_last (node t no_nodes) h = record { nesting = omega arith; count = omega arith; short = tt }
AreWithin-before_last (node t (node u us)) h =
    let rest = AreWithin-before_last (node u us) (AreWithin-others (node t (node u us)) h) in
    let fewer = node_count-before_last (node u us) in
    record { nesting = omega (arith, h.nesting, rest.nesting); count = omega (arith, h.count); short = (h.short.0, rest.short) }
  where
    node_count-before_last : (vs : Nodes) → node_count (before_last vs) ≤ node_count vs
    node_count-before_last no_nodes = omega arith
    node_count-before_last (node v no_nodes) = omega arith
    node_count-before_last (node v (node w ws)) = omega (arith, node_count-before_last (node w ws))

abbrev IsValue : Nodes → Expression → Type 0
IsValue ts e = IsExpression e × (AreWithin ts → IsLimited e)

value_holds : (offset : ℕ) (ts : Nodes) → IfOk (value_form offset (last_node ts)) (IsValue ts)
value_holds offset no_nodes = tt
value_holds offset (node t no_nodes) =
    IfOk-weaker (expression_form t) (Keeps t) (IsValue (node t no_nodes)) (λ e keeps. (keeps.formed, λ within. IsLimited-kept t e keeps (omega (arith, within.nesting)) within.short.0)) (expression_holds t)
value_holds offset (node t (node u us)) =
    IfOk-weaker (value_form offset (last_node (node u us))) (IsValue (node u us)) (IsValue (node t (node u us))) (λ e value. (value.0, λ within. value.1 (AreWithin-others (node t (node u us)) within))) (value_holds offset (node u us))

pub invariant_holds : (head : List ℕ) (trees : Nodes) → IfOk (invariant_form head trees) (λ ast. IsInvAst ast × (AreWithinLimits trees → IsLimitedInvAst ast))
unfolding invariant_form
invariant_holds head trees =
    let Q : InvView → Type 0 = λ ast. IsInvAst ast × (AreWithinLimits trees → IsLimitedInvAst ast) in
    holds_then (IsInside trees) Q (file_form head trees) (λ file. each_form (item_form places.Invariant) (before_last file.1) >>= λ items. value_form file.0 (last_node file.1) >>= λ value. Ok (record { offset = file.0; items = items; value = value })) (file_holds head trees)
    (λ file inside. holds_then (AreItems places.Invariant (before_last file.1)) Q (each_form (item_form places.Invariant) (before_last file.1)) (λ items. value_form file.0 (last_node file.1) >>= λ value. Ok (record { offset = file.0; items = items; value = value })) (items_hold places.Invariant (before_last file.1))
    (λ items all. holds_then (IsValue file.1) Q (value_form file.0 (last_node file.1)) (λ value. Ok (record { offset = file.0; items = items; value = value })) (value_holds file.0 file.1)
    (λ value is. (record { items = all.0; value = is.0 }, λ limits. record { items = all.1 (AreWithin-before_last file.1 (inside limits)); value = is.1 (inside limits) }))))
