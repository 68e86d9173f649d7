-- The literals of a trail, entry by entry.
use Rattle.std.proofs.Common.{◌≡◌, ℕ, ◌+◌, ◌<◌, Bool, true, false, not, cond, List, [], ◌∷◌, ◌++◌, Option, None, Some, is_some, length, get_or, take, drop, refl, sym, ap, ◌∙◌, subst, append-nil}
use Rattle.std.specs.Option.{option_to_list, option_map}
use Rattle.std.specs.Ordering.{nat_cmp, eq_by_cmp}
use Rattle.std.specs.Cmp.{nat_cmp_total}
use Rattle.std.specs.FinMap.{FinMap, get, insert, get-insert}
use Rattle.std.specs.Prelude.{unwrap_or}
use Rattle.std.proofs.lemmas.Bool.{false≢true, true≢false, ne_eqb, eq-eqb}
use Rattle.std.proofs.lemmas.List.{take_more, take-append-drop}
use Rattle.bd_cnf.specs.Literal.{Literal, has_variable, literal_value}
use Rattle.bd_cnf.specs.Assignment.{value_of}
use Rattle.bd_cnf.specs.Standing.{IsBelow}
use Rattle.bd_cnf.proofs.Closed.{has_variable_of}
use Rattle.std.proofs.lemmas.List.Elements.{filter_map-append}
use Rattle.bd_lrat.specs.declared.line.Hint.{Hint}
use Rattle.bd_lrat.specs.declared.line.Hint.TheVariants as hint
use Rattle.bd_lrat.specs.Log.{HaveDifferentVariables}
use Rattle.bd_lrat.proofs.Keys.{tied}
use Rattle.bd_watch.specs.Levels.{Assigned, literals, decided, decisions, reasons}
use Rattle.bd_watch.specs.Trails.{MakesTrue}
use Rattle.bd_watch.proofs.Different.{different_front, different_take}
use Rattle.bd_watch.proofs.Parts.{has_either, has_single, all_part}
use Rattle.bd_watch.proofs.Placed.{literals-append, decisions-append, decisions_part}

-- one entry more
pub entries_more : (xs : List Assigned) (i : ℕ) (a : Assigned) → i < length xs → a ≡ get_or xs i a → take (i + 1) xs ≡ take i xs ++ a ∷ []
entries_more xs i a h is = take_more xs i a h ∙ ap (λ (e : Assigned). take i xs ++ e ∷ []) (sym is)

pub literals_more : (xs : List Assigned) (i : ℕ) (a : Assigned) → i < length xs → a ≡ get_or xs i a → literals (take (i + 1) xs) ≡ literals (take i xs) ++ a.literal ∷ []
literals_more xs i a h is = ap literals (entries_more xs i a h is) ∙ literals-append (take i xs) (a ∷ [])

decisions_one : (l : Literal) (r : Option ℕ) → decisions (record { literal = l; reason = r } ∷ []) ≡ option_to_list (decided l r)
decisions_one l None = refl
decisions_one l (Some id) = refl

pub decisions_more : (xs : List Assigned) (i : ℕ) (a : Assigned) → i < length xs → a ≡ get_or xs i a → decisions (take (i + 1) xs) ≡ decisions (take i xs) ++ option_to_list (decided a.literal a.reason)
decisions_more xs i a h is = ap decisions (entries_more xs i a h is) ∙ decisions-append (take i xs) (a ∷ []) ∙ ap (λ ds. decisions (take i xs) ++ ds) (decisions_one a.literal a.reason)

pub decided_none : (l : Literal) (r : Option ℕ) → is_some r ≡ false → option_to_list (decided l r) ≡ l ∷ []
decided_none l None h = refl
decided_none l (Some id) h = absurd (true≢false h)

pub decided_some : (l : Literal) (r : Option ℕ) → is_some r ≡ true → option_to_list (decided l r) ≡ []
decided_some l None h = absurd (false≢true h)
decided_some l (Some id) h = refl

-- decisions found so far, with an entry more
pub decisions_pushed : (xs : List Assigned) (i : ℕ) (a : Assigned) (found after : List Literal) (l : Literal) (r : Option ℕ) → i < length xs → a ≡ get_or xs i a → l ≡ a.literal → r ≡ a.reason → is_some r ≡ false → found ≡ decisions (take i xs) → after ≡ found ++ l ∷ [] → after ≡ decisions (take (i + 1) xs)
decisions_pushed xs i a found after l r h is same_literal same_reason none so e =
    e ∙ ap (λ ds. ds ++ l ∷ []) so ∙ ap (λ (k : Literal). decisions (take i xs) ++ k ∷ []) same_literal ∙ ap (λ ds. decisions (take i xs) ++ ds) (sym (decided_none a.literal a.reason (sym (ap is_some same_reason) ∙ none))) ∙ sym (decisions_more xs i a h is)

pub decisions_passed : (xs : List Assigned) (i : ℕ) (a : Assigned) (found : List Literal) (r : Option ℕ) → i < length xs → a ≡ get_or xs i a → r ≡ a.reason → is_some r ≡ true → found ≡ decisions (take i xs) → found ≡ decisions (take (i + 1) xs)
decisions_passed xs i a found r h is same_reason some so =
    so ∙ sym (append-nil (decisions (take i xs))) ∙ ap (λ ds. decisions (take i xs) ++ ds) (sym (decided_some a.literal a.reason (sym (ap is_some same_reason) ∙ some))) ∙ sym (decisions_more xs i a h is)

-- a value that is set, and the others
set_value : (a : FinMap nat_cmp Bool) (var : ℕ) (value : Bool) (q : ℕ) → value_of (insert a var value) q ≡ unwrap_or (cond (eq_by_cmp nat_cmp q var) (Some value) (get a q)) false
set_value a var value q = ap (λ o. unwrap_or o false) (get-insert nat_cmp_total a var value q)

pub value_set : (a : FinMap nat_cmp Bool) (var : ℕ) (value : Bool) → value_of (insert a var value) var ≡ value
value_set a var value = set_value a var value var ∙ ap (λ b. unwrap_or (cond b (Some value) (get a var)) false) (tied var var ∙ eq-eqb var var refl)

pub value_kept : (a : FinMap nat_cmp Bool) (var : ℕ) (value : Bool) (q : ℕ) → (q ≡ var → ⊥) → value_of (insert a var value) q ≡ value_of a q
value_kept a var value q apart = set_value a var value q ∙ ap (λ b. unwrap_or (cond b (Some value) (get a q)) false) (tied q var ∙ ne_eqb q var apart)

true_sign : (p : Bool) → cond p p (not p) ≡ true
true_sign true = refl
true_sign false = refl

-- a literal whose variable is new is made true beside the others
pub makes_true_more : (a new : FinMap nat_cmp Bool) (ls : List Literal) (l : Literal) (var : ℕ) (value : Bool) → MakesTrue (value_of a) ls → has_variable ls l.var ≡ false → new ≡ insert a var value → var ≡ l.var → value ≡ l.positive → MakesTrue (value_of new) (ls ++ l ∷ [])
makes_true_more a new ls l var value holds free is same_var same_value =
    subst (λ m. MakesTrue (value_of m) (ls ++ l ∷ [])) (sym (is ∙ ap (λ n. insert a n value) same_var ∙ ap (insert a l.var) same_value)) makes
  where
    makes : MakesTrue (value_of (insert a l.var l.positive)) (ls ++ l ∷ [])
    makes m h = has_either ls (l ∷ []) m h
        (λ old. ap (λ b. cond m.positive b (not b)) (value_kept a l.var l.positive m.var (λ e. false≢true (sym free ∙ subst (λ v. has_variable ls v ≡ true) e (has_variable_of ls m old)))) ∙ holds m old)
        (λ new. subst (λ (k : Literal). literal_value (value_of (insert a l.var l.positive)) k ≡ true) (sym (has_single m l new)) (ap (λ b. cond l.positive b (not b)) (value_set a l.var l.positive) ∙ true_sign l.positive))

-- a trail's entry has a variable that no earlier one has
pub entry_free : (xs : List Assigned) (i : ℕ) (a : Assigned) → i < length xs → a ≡ get_or xs i a → HaveDifferentVariables (literals xs) → has_variable (literals (take i xs)) a.literal.var ≡ false
entry_free xs i a h is so =
    let whole : literals xs ≡ literals (take (i + 1) xs) ++ literals (drop (i + 1) xs) = ap literals (sym (take-append-drop (i + 1) xs)) ∙ literals-append (take (i + 1) xs) (drop (i + 1) xs) in
    let front : HaveDifferentVariables (literals (take (i + 1) xs)) = different_take _ (literals (drop (i + 1) xs)) (subst HaveDifferentVariables whole so) in
    (different_front (literals (take i xs)) a.literal (subst HaveDifferentVariables (literals_more xs i a h is) front)).1

pub makes_true_next : (a new : FinMap nat_cmp Bool) (xs : List Assigned) (i : ℕ) (e : Assigned) (var : ℕ) (value : Bool) → i < length xs → e ≡ get_or xs i e → HaveDifferentVariables (literals xs) → MakesTrue (value_of a) (literals (take i xs)) → new ≡ insert a var value → var ≡ e.literal.var → value ≡ e.literal.positive → MakesTrue (value_of new) (literals (take (i + 1) xs))
makes_true_next a new xs i e var value h is so holds set same_var same_value =
    subst (MakesTrue (value_of new)) (sym (literals_more xs i e h is)) (makes_true_more a new (literals (take i xs)) e.literal var value holds (entry_free xs i e h is so) set same_var same_value)

reasons_one : (r : Option ℕ) (l : Literal) → reasons (record { literal = l; reason = r } ∷ []) ≡ option_to_list (option_map hint.Unit r)
reasons_one None l = refl
reasons_one (Some id) l = refl

reasons_more : (xs : List Assigned) (i : ℕ) (a : Assigned) → i < length xs → a ≡ get_or xs i a → reasons (take (i + 1) xs) ≡ reasons (take i xs) ++ option_to_list (option_map hint.Unit a.reason)
reasons_more xs i a h is =
    ap reasons (entries_more xs i a h is) ∙ filter_map-append (λ (e : Assigned). option_map hint.Unit e.reason) (take i xs) (a ∷ []) ∙ ap (λ hs. reasons (take i xs) ++ hs) (reasons_one a.reason a.literal)

-- reasons found so far, with an entry more
pub reasons_pushed : (xs : List Assigned) (i : ℕ) (a : Assigned) (found after : List Hint) (r : Option ℕ) (id : ℕ) → i < length xs → a ≡ get_or xs i a → r ≡ a.reason → r ≡ Some id → found ≡ reasons (take i xs) → after ≡ found ++ hint.Unit id ∷ [] → after ≡ reasons (take (i + 1) xs)
reasons_pushed xs i a found after r id h is same some so e =
    e ∙ ap (λ hs. hs ++ hint.Unit id ∷ []) so ∙ sym (reasons_more xs i a h is ∙ ap (λ o. reasons (take i xs) ++ option_to_list (option_map hint.Unit o)) (sym same ∙ some))

pub reasons_passed : (xs : List Assigned) (i : ℕ) (a : Assigned) (found : List Hint) (r : Option ℕ) → i < length xs → a ≡ get_or xs i a → r ≡ a.reason → r ≡ None → found ≡ reasons (take i xs) → found ≡ reasons (take (i + 1) xs)
reasons_passed xs i a found r h is same none so =
    so ∙ sym (reasons_more xs i a h is ∙ ap (λ o. reasons (take i xs) ++ option_to_list (option_map hint.Unit o)) (sym same ∙ none) ∙ append-nil (reasons (take i xs)))

-- the decisions of a trail with room for its literals
pub decisions_below : (limit : ℕ) (entries : List Assigned) → IsBelow limit (literals entries) → IsBelow limit (decisions entries)
decisions_below limit entries within = all_part (λ l. l.var < limit) (decisions entries) (literals entries) (decisions_part entries) within
