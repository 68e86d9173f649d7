-- What lists begin with in the files, and how many parts follow each. The language is this project's own.
use Rattle.std.specs.Prelude.{ℕ, Bool, true, false, ◌==◌, ◌||◌, List, [], ◌∷◌, Option, codes, nat_eq, nat_le, find}
use lib.Pointwise.{pointwise}
use Rattle.bd_syntax.specs.declared.head.Head.{Head}
use Rattle.bd_syntax.specs.declared.head.Head.TheVariants.{Latch, Memory, Input, Function, Predicate, Let, Next, Flush, Steps, Exact, Distinct}
use Rattle.bd_syntax.specs.declared.head.Place.{Place}
use Rattle.bd_syntax.specs.declared.head.Place.TheVariants.{Pipeline, Specification, Invariant}
use Rattle.bd_syntax.specs.declared.operator.Operator.{Operator}
use Rattle.bd_syntax.specs.declared.operator.Operator.TheVariants.{Not, And, Or, Implies, Iff, Equal, Ite, Read, Write}

-- whether two texts are the same
abbrev pub same_text : List ℕ → List ℕ → Bool
same_text text other = pointwise nat_eq text other

abbrev pub head_text : Head → List ℕ
head_text Latch = codes "latch"
head_text Memory = codes "memory"
head_text Input = codes "input"
head_text Function = codes "function"
head_text Predicate = codes "predicate"
head_text Let = codes "let"
head_text Next = codes "next"
head_text Flush = codes "flush"
head_text Steps = codes "steps"
head_text Exact = codes "exact"
head_text Distinct = codes "distinct"

abbrev pub heads : List Head
heads =
    Latch ∷ Memory ∷ Input ∷ Function ∷ Predicate ∷ Let ∷ Next ∷ Flush ∷ Steps ∷ Exact
    ∷ Distinct ∷ []

-- the head that a text is
unfoldable pub head_of : List ℕ → Option Head
head_of text = find (λ head. same_text text (head_text head)) heads

-- how many parts follow it: (latch NAME SORT), (memory NAME), (input NAME SORT EXPR),
-- (function NAME N), (predicate NAME N), (let NAME SORT EXPR), (next NAME EXPR), (flush N), (steps N),
-- (exact N EXPR), (distinct NAME NAME ..)
abbrev pub head_takes : Head → ℕ → Bool
head_takes Latch parts = parts == 2
head_takes Memory parts = parts == 1
head_takes Input parts = parts == 3
head_takes Function parts = parts == 2
head_takes Predicate parts = parts == 2
head_takes Let parts = parts == 3
head_takes Next parts = parts == 2
head_takes Flush parts = parts == 1
head_takes Steps parts = parts == 1
head_takes Exact parts = parts == 2
head_takes Distinct parts = nat_le 2 parts

-- every item in a pipeline, none of its own in a specification, and only lets in an invariant
abbrev pub is_item_of : Place → Head → Bool
is_item_of Pipeline head = true
is_item_of Specification Input = false
is_item_of Specification Flush = false
is_item_of Specification Steps = false
is_item_of Specification Exact = false
is_item_of Specification head = true
is_item_of Invariant Let = true
is_item_of Invariant head = false

abbrev pub operator_text : Operator → List ℕ
operator_text Not = codes "not"
operator_text And = codes "and"
operator_text Or = codes "or"
operator_text Implies = codes "implies"
operator_text Iff = codes "iff"
operator_text Equal = codes "="
operator_text Ite = codes "ite"
operator_text Read = codes "read"
operator_text Write = codes "write"

abbrev pub operators : List Operator
operators = Not ∷ And ∷ Or ∷ Implies ∷ Iff ∷ Equal ∷ Ite ∷ Read ∷ Write ∷ []

-- the operator that a text is
unfoldable pub operator_of : List ℕ → Option Operator
operator_of text = find (λ operator. same_text text (operator_text operator)) operators

-- how many parts it takes: (not P), (and P P ..), (or P P ..), (implies P Q), (iff P Q), (= A B),
-- (ite P X Y), (read M A), (write M A D)
abbrev pub operator_takes : Operator → ℕ → Bool
operator_takes Not parts = parts == 1
operator_takes And parts = nat_le 2 parts
operator_takes Or parts = nat_le 2 parts
operator_takes Implies parts = parts == 2
operator_takes Iff parts = parts == 2
operator_takes Equal parts = parts == 2
operator_takes Ite parts = parts == 3
operator_takes Read parts = parts == 2
operator_takes Write parts = parts == 3

-- true and false
abbrev pub is_truth : List ℕ → Bool
is_truth text = same_text text (codes "true") || same_text text (codes "false")
