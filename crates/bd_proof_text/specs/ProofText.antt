-- What a textual proof is over a formula: the lines read, up to the first that adds the empty clause, or the first fault
-- with its place (textual LRAT: Cruz-Filipe, Heule, Hunt, Kaufmann and Schneider-Kamp, 2017). Lines are taken in order.
-- Of each line all bytes come first, then its tokens from left to right, and then whether it is accepted on what stands.
-- The codes of faults are this project's own.
use Rattle.std.specs.Prelude.{◌≡◌, ℕ, ◌+◌, ◌==◌, Bool, true, false, not, List, [], ◌∷◌, ◌++◌, count_by, drop, Option, None, Some, Result, Ok, Err, nat_lt, if◌then◌else◌}
use Rattle.std.specs.List.{position}
use Rattle.bd_cnf.specs.Literal.{Literal, literal, negate, has_literal}
use Rattle.bd_cnf.specs.Problem.{Problem}
use Rattle.bd_lrat.specs.declared.line.Hint.{Hint}
use Rattle.bd_lrat.specs.declared.line.Hint.TheVariants as hint
use Rattle.bd_lrat.specs.declared.line.Line.{Line}
use Rattle.bd_lrat.specs.declared.line.Line.TheVariants.{Add, Delete}
use Rattle.bd_lrat.specs.declared.refused.Refused.{Refused}
use Rattle.bd_lrat.specs.Database.{Database, database_of, line_answer, after}
use Rattle.bd_lrat.specs.Log.{adds_empty}
use Rattle.bd_proof_text.specs.declared.fault.Fault.{Fault}
use Rattle.bd_proof_text.specs.declared.fault.ReadFault.{ReadFault}
use Rattle.bd_proof_text.specs.declared.fault.ReadFault.TheVariants as read
use Rattle.bd_proof_text.specs.declared.fault.Why.{Why}
use Rattle.bd_proof_text.specs.declared.fault.Why.TheVariants as why
use Rattle.bd_proof_text.specs.declared.token.Place.{Place}
use Rattle.bd_proof_text.specs.declared.token.Token.{Token}
use Rattle.bd_proof_text.specs.declared.token.Word.{Word}
use Rattle.bd_proof_text.specs.declared.token.Word.TheVariants as word
use Rattle.bd_proof_text.specs.Tokens.{is_feed, is_passed, is_proof_byte, lines, place, tokens_from}

abbrev pub fault : Place → Why → Fault
fault at cause = record { place = at; why = cause }

-- reading ends here
abbrev pub refused : {A : Type 0} → Place → Why → Result A Fault
refused at cause = Err (fault at cause)

-- the first fault counts
infixl 10 ◌>>=◌
abbrev pub ◌>>=◌ : {A B : Type 0} → Result A Fault → (A → Result B Fault) → Result B Fault
(Ok x) >>= f = f x
(Err e) >>= f = Err e

-- ---- clauses

-- a literal in a clause by rising variable, where one of that variable counts once
abbrev pub put_literal : Literal → List Literal → List Literal
put_literal l [] = l ∷ []
put_literal l (m ∷ ms) = if nat_lt l.var m.var then l ∷ m ∷ ms else (if l.var == m.var then m ∷ ms else m ∷ put_literal l ms)

-- the clause of literals without complements: by rising variable, repeats dropped
abbrev pub clause_of : List Literal → List Literal
clause_of [] = []
clause_of (l ∷ ls) = put_literal l (clause_of ls)

-- ---- the parts of a line whose first token stands at `first`

-- a token that is no number where one must stand (E21), at it
abbrev pub no_number : {A : Type 0} → Place → Result (Option A) Fault
no_number at = refused at why.Number

-- a literal; 0 ends them
abbrev pub literal_word : Place → Word → Result (Option Literal) Fault
literal_word at word.Zero = Ok None
literal_word at (word.Positive x) = Ok (Some (literal x true))
literal_word at (word.Negative x) = Ok (Some (literal x false))
literal_word at word.Delete = no_number at
literal_word at word.Other = no_number at

-- a hint, where a negative one asks for a resolution on asymmetric tautologies; 0 ends them
abbrev pub hint_word : Place → Word → Result (Option Hint) Fault
hint_word at word.Zero = Ok None
hint_word at (word.Positive id) = Ok (Some (hint.Unit id))
hint_word at (word.Negative id) = Ok (Some (hint.Rat id))
hint_word at word.Delete = no_number at
hint_word at word.Other = no_number at

-- the id of a clause that is deleted, which is never negative (E21); 0 ends them
abbrev pub id_word : Place → Word → Result (Option ℕ) Fault
id_word at word.Zero = Ok None
id_word at (word.Positive id) = Ok (Some id)
id_word at (word.Negative id) = no_number at
id_word at word.Delete = no_number at
id_word at word.Other = no_number at

abbrev pub on_item : {A B : Type 0} → Option A → B → (A → B) → B
on_item None ends more = ends
on_item (Some item) ends more = more item

-- What stands up to a 0, after what stood before, and the tokens after the 0. An item that may not stand after those
-- before is malformed there (E22), and where no 0 comes the line is malformed at its first token (E22).
abbrev pub items_from : {A : Type 0} → (Place → Word → Result (Option A) Fault) → (List A → A → Bool) → Place → List A → List Token → Result (List A × List Token) Fault
items_from item_word clashes first before [] = refused first why.Form
items_from item_word clashes first before (t ∷ ts) =
    item_word t.place t.word >>= (λ found. on_item found (Ok (before, ts)) (λ item.
    if clashes before item then refused t.place why.Form else items_from item_word clashes first (before ++ item ∷ []) ts))

-- a literal may not stand after its negation
abbrev pub literals_from : Place → List Literal → List Token → Result (List Literal × List Token) Fault
literals_from = items_from literal_word (λ before l. has_literal before (negate l))

abbrev pub hints_from : Place → List Hint → List Token → Result (List Hint × List Token) Fault
hints_from = items_from hint_word (λ _ _. false)

abbrev pub ids_from : Place → List ℕ → List Token → Result (List ℕ × List Token) Fault
ids_from = items_from id_word (λ _ _. false)

-- the clause of the literals up to a 0
abbrev pub clause_from : Place → List Token → Result (List Literal × List Token) Fault
clause_from first ts = literals_from first [] ts >>= (λ read. Ok (clause_of read.0, read.1))

-- no token comes after the 0 that ends a line (E22), at it
abbrev pub ended : Line → List Token → Result Line Fault
ended line [] = Ok line
ended line (t ∷ ts) = refused t.place why.Form

-- an addition: literals, 0, hints, 0
abbrev pub addition : Place → ℕ → List Token → Result Line Fault
addition first id ts =
    clause_from first ts >>= (λ clause. hints_from first [] clause.1 >>= (λ hints. ended (Add id clause.0 hints.0) hints.1))

-- a deletion: ids, 0
abbrev pub deletion : Place → ℕ → List Token → Result Line Fault
deletion first id ts = ids_from first [] ts >>= (λ ids. ended (Delete id ids.0) ids.1)

abbrev pub is_delete : Word → Bool
is_delete word.Delete = true
is_delete _ = false

-- whether `d` comes first
abbrev pub begins_deletion : List Token → Bool
begins_deletion [] = false
begins_deletion (t ∷ ts) = is_delete t.word

-- what follows the id: `d` as the second token makes a deletion
abbrev pub body : Place → ℕ → List Token → Result Line Fault
body first id ts = if begins_deletion ts then deletion first id (drop 1 ts) else addition first id ts

-- a line begins with its id, a positive number (E21)
abbrev pub id_body : Place → Word → List Token → Result Line Fault
id_body first (word.Positive id) ts = body first id ts
id_body first _ ts = refused first why.Number

abbrev pub from_id : Token → List Token → Result Line Fault
from_id t ts = id_body t.place t.word ts

-- ---- a line

-- what a line of the text comes to on what stands
pub data Step : Type 0 where
  Passed : Step
  Accepted : Line → Step
  Faulty : Fault → Step

-- a line that isn't accepted is a fault at its first token (E23)
abbrev pub answered : Place → Line → Result (Unit {0}) Refused → Step
answered first line (Ok done) = Accepted line
answered first line (Err refusal) = Faulty (fault first (why.NotAccepted refusal))

abbrev pub judged : Database → Place → Result Line Fault → Step
judged db first (Ok line) = answered first line (line_answer db line)
judged db first (Err e) = Faulty e

-- a line's tokens
abbrev pub tokens_step : Database → List Token → Step
tokens_step db [] = Passed
tokens_step db (t ∷ ts) = judged db t.place (from_id t ts)

-- a byte that may not stand in a line (E20), at it, comes before its tokens
abbrev pub bytes_step : Database → ℕ → List ℕ → Option ℕ → Step
bytes_step db number text (Some at) = Faulty (fault (place number (at + 1)) why.Byte)
bytes_step db number text None = tokens_step db (tokens_from number 1 text)

-- the line of that number
abbrev pub step : Database → ℕ → List ℕ → Step
step db number text = if is_passed text then Passed else bytes_step db number text (position (λ b. not (is_proof_byte b)) text)

-- ---- a text

abbrev pub on_step : {A : Type 0} → Step → A → (Line → A) → (Fault → A) → A
on_step Passed passed accepted faulty = passed
on_step (Accepted line) passed accepted faulty = accepted line
on_step (Faulty e) passed accepted faulty = faulty e

-- the lines from that number on, after those read before; where the text ends first, the last line's number has the
-- fault (E24), at column 1
abbrev pub proof_from : ℕ → Database → List Line → ℕ → List (List ℕ) → Result (List Line) Fault
proof_from last db before number [] = refused (place last 1) why.NoEmpty
proof_from last db before number (text ∷ texts) =
    on_step (step db number text)
    (proof_from last db before (number + 1) texts)
    (λ line. if adds_empty line then Ok (before ++ line ∷ []) else proof_from last (after db line) (before ++ line ∷ []) (number + 1) texts)
    (λ e. Err e)

-- the number of line feeds, and 1
abbrev pub line_count : List ℕ → ℕ
line_count bytes = count_by is_feed bytes + 1

-- the lines of a proof over the formula, up to the one that ends it, or the first fault
abbrev pub proof_text : Problem → List ℕ → Result (List Line) Fault
proof_text p bytes = proof_from (line_count bytes) (database_of p) [] 1 (lines bytes)

-- what a function returned, as its view shows it, is what reading gives, unless memory ran out
abbrev pub Fails : {B : Type 0} → ReadFault → Result B Fault → Type 0
Fails (read.Bad e) reading = reading ≡ Err e
Fails read.Memory reading = Unit {0}

abbrev pub Gives : {A B : Type 0} → (A → B) → Result A ReadFault → Result B Fault → Type 0
Gives view (Ok x) reading = reading ≡ Ok (view x)
Gives view (Err e) reading = Fails e reading
