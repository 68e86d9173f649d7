-- What holds of files of which a pass has no fault.
use Rattle.std.proofs.Common.{◌≡◌, ℕ, Bool, true, false, cond, List, [], ◌∷◌, ◌++◌, map, Option, Some, None, Result, Ok, Err, refl, ap, subst}
use Rattle.std.specs.List.{filter_map, cons_option, AllByRecursion}
use Rattle.bd_text.specs.declared.code.Code.TheVariants.{DeclaredTwice, MissingOrTwice, NotInPipeline, FunctionDiffers}
use Rattle.bd_model.specs.declared.design.Sort.TheVariants as sorts
use Rattle.bd_model.specs.declared.design.Entry as entry
use Rattle.bd_syntax.specs.Words.{same_text}
use Rattle.bd_syntax.specs.Forms.{ItemView, latch_item, memory_item, input_item, function_item, predicate_item, let_item, next_item, flush_item, steps_item, exact_item, distinct_item, AstView}
use Rattle.bd_syntax.specs.Completion.{CompView}
use Rattle.bd_syntax.specs.Reading.{Fault}
use Rattle.bd_syntax.specs.declared.form.Spot.{Spot}
use Rattle.bd_typer.specs.declared.fault.Text.{Text}
use Rattle.bd_typer.specs.Faults.{in_file, fault, faults_at, is_before, first_of, least, refused_by, without_faults}
use Rattle.bd_typer.specs.Completions.{abstract_names, tree_offsets, abstract_faults, completion_faults}
use Rattle.bd_typer.specs.Declarations.{declared_name, entry_name, next_name, offsets, name_faults, next_faults, count_faults, declaration_faults, taken_names}
use Rattle.bd_typer.specs.Across.{agrees, is_entry, offset_unless, missing_entry, differing_symbol, across_faults}
use Rattle.bd_typer.specs.NameMap.{NameMap, no_names}
use Rattle.bd_typer.specs.Repeats.{NameSet, no_texts, with_text, with_names, repeated, fresh}
use Rattle.bd_typer.proofs.Lists.{same_text-true}
use Rattle.bd_typer.proofs.DeclaredNames.{Agrees, declared_entry}

pub in_file_ok : {A : Type 0} (file : Text) (r : Result A Fault) (x : A) → in_file file r ≡ Ok x → r ≡ Ok x
in_file_ok file (Ok y) x h = let e : y ≡ x = cc h in ap Ok e
in_file_ok file (Err e) x h = absurd (cc h)

-- a set of faults that refuses nothing has none
pub none_of : (faults : List Fault) (x : Unit {0}) → without_faults faults ≡ Ok x → faults ≡ []
none_of [] x h = refl
none_of (a ∷ faults) x h = absurd (refuses (least faults) h) where
  by_test : (p : Bool) (b : Fault) → refused_by (cond p (Some a) (Some b)) ≡ Ok x → ⊥
  by_test true b h = absurd (cc h)
  by_test false b h = absurd (cc h)

  refuses : (o : Option Fault) → refused_by (first_of (Some a) o) ≡ Ok x → ⊥
  refuses None h = absurd (cc h)
  refuses (Some b) h = by_test (is_before a b) b h

pub both_empty : {X : Type 0} (xs ys : List X) → xs ++ ys ≡ [] → (xs ≡ []) × (ys ≡ [])
both_empty [] ys h = (refl, h)
both_empty (x ∷ xs) ys h = absurd (cc h)

pub map_empty : {X Y : Type 0} (f : X → Y) (xs : List X) → map f xs ≡ [] → xs ≡ []
map_empty f [] h = refl
map_empty f (x ∷ xs) h = absurd (cc h)

pub none_kept : {X : Type 0} (o : Option X) (rest : List X) → cons_option o rest ≡ [] → (o ≡ None) × (rest ≡ [])
none_kept None rest h = (refl, h)
none_kept (Some x) rest h = absurd (cc h)

-- ---- declarations

-- each name is declared once, and each latch and memory has a next
pub record IsDeclared (items : List ItemView) : Type 0 where
  pub once : repeated no_texts (filter_map declared_name items) ≡ []
  pub nexts : fresh (with_names no_texts (filter_map next_name items)) (filter_map entry_name items) ≡ []

pub is_declared : (ast : AstView) → declaration_faults ast ≡ [] → IsDeclared ast.items
is_declared ast h =
    let p = both_empty (name_faults no_texts ast.items) _ h in
    let q = both_empty (next_faults ast.items) (count_faults ast.kind ast.offset ast.items) p.1 in
    let again = faults_at MissingOrTwice (offsets (repeated no_texts (filter_map next_name ast.items))) in
    let r = both_empty again _ q.0 in
    record {
      once = map_empty (λ (n : Spot). n.offset) (repeated no_texts (filter_map declared_name ast.items)) (map_empty (fault DeclaredTwice) _ p.0);
      nexts = map_empty (λ (n : Spot). n.offset) (fresh (with_names no_texts (filter_map next_name ast.items)) (filter_map entry_name ast.items)) (map_empty (fault MissingOrTwice) _ r.1);
    }

-- names of which none is new stand in the set
none_fresh : (given before : NameSet) (names : List Spot) → ((q : List ℕ) → before q ≡ true → given q ≡ true) → fresh before names ≡ [] → AllByRecursion (λ (n : Spot). given n.text ≡ true) names
none_fresh given before [] within h = tt
none_fresh given before (name ∷ names) within h =
    let first = stands (before name.text) refl h in
    let there = within name.text first.0 in
    (there, none_fresh given (with_text before name.text) names (more there) first.1) where
      more : given name.text ≡ true → (q : List ℕ) → with_text before name.text q ≡ true → given q ≡ true
      more there q = by_word (same_text name.text q) refl where
        by_word : (b : Bool) → same_text name.text q ≡ b → cond b true (before q) ≡ true → given q ≡ true
        by_word true e g = subst (λ t. given t ≡ true) (same_text-true name.text q e) there
        by_word false e g = within q g

      stands : (b : Bool) → before name.text ≡ b → cond b (fresh (with_text before name.text) names) (name ∷ fresh (with_text before name.text) names) ≡ [] → (before name.text ≡ true) × (fresh (with_text before name.text) names ≡ [])
      stands false e g = absurd (cc g)
      stands true e g = (e, g)

-- what holds of the names of latches and memories holds of these
entries_named : (P : List ℕ → Type 0) (items : List ItemView) → AllByRecursion (λ (n : Spot). P n.text) (filter_map entry_name items) → AllByRecursion (λ (e : entry.Entry). P e.name) (filter_map declared_entry items)
entries_named P [] h = tt
entries_named P (latch_item offset name sort ∷ items) h = (h.0, entries_named P items h.1)
entries_named P (memory_item offset name ∷ items) h = (h.0, entries_named P items h.1)
entries_named P (input_item offset name sort idle ∷ items) h = entries_named P items h
entries_named P (function_item offset name arity ∷ items) h = entries_named P items h
entries_named P (predicate_item offset name arity ∷ items) h = entries_named P items h
entries_named P (let_item offset name sort value ∷ items) h = entries_named P items h
entries_named P (next_item offset name value ∷ items) h = entries_named P items h
entries_named P (flush_item offset count ∷ items) h = entries_named P items h
entries_named P (steps_item offset count ∷ items) h = entries_named P items h
entries_named P (exact_item offset count when ∷ items) h = entries_named P items h
entries_named P (distinct_item offset names ∷ items) h = entries_named P items h

-- each latch and memory has a next
pub entries_given : (items : List ItemView) → IsDeclared items → AllByRecursion (λ (e : entry.Entry). with_names no_texts (filter_map next_name items) e.name ≡ true) (filter_map declared_entry items)
entries_given items h =
    let given : NameSet = with_names no_texts (filter_map next_name items) in
    entries_named (λ q. given q ≡ true) items (none_fresh given given (filter_map entry_name items) (λ q g. g) h.nexts)

-- each latch and memory of the specification has an abstract
pub entries_abstracted : (pipe spec : AstView) (comp : CompView) → completion_faults pipe spec comp ≡ [] → AllByRecursion (λ (e : entry.Entry). with_names no_texts (abstract_names comp) e.name ≡ true) (filter_map declared_entry spec.items)
entries_abstracted pipe spec comp h =
    let given : NameSet = with_names no_texts (abstract_names comp) in
    let without : List Spot = fresh given (filter_map entry_name spec.items) in
    let p = both_empty (name_faults (taken_names pipe spec) comp.lets) (abstract_faults spec comp) h in
    let q = both_empty (faults_at MissingOrTwice (offsets (repeated no_texts (abstract_names comp)))) (faults_at MissingOrTwice (tree_offsets comp without)) p.1 in
    let none = map_empty (λ (n : Spot). comp.offset) without (map_empty (fault MissingOrTwice) (tree_offsets comp without) q.1) in
    entries_named (λ t. given t ≡ true) spec.items (none_fresh given given (filter_map entry_name spec.items) (λ t g. g) none)

-- ---- across files

unless_none : (b : Bool) (name : Spot) → offset_unless b name ≡ None → b ≡ true
unless_none true name h = refl
unless_none false name h = absurd (cc h)

pub agree_alone : (items : List ItemView) → AllByRecursion (Agrees no_names) items
agree_alone [] = tt
agree_alone (latch_item offset name sort ∷ items) = (tt, agree_alone items)
agree_alone (memory_item offset name ∷ items) = (tt, agree_alone items)
agree_alone (input_item offset name sort idle ∷ items) = (tt, agree_alone items)
agree_alone (function_item offset name arity ∷ items) = (refl, agree_alone items)
agree_alone (predicate_item offset name arity ∷ items) = (refl, agree_alone items)
agree_alone (let_item offset name sort value ∷ items) = (tt, agree_alone items)
agree_alone (next_item offset name value ∷ items) = (tt, agree_alone items)
agree_alone (flush_item offset count ∷ items) = (tt, agree_alone items)
agree_alone (steps_item offset count ∷ items) = (tt, agree_alone items)
agree_alone (exact_item offset count when ∷ items) = (tt, agree_alone items)
agree_alone (distinct_item offset names ∷ items) = (tt, agree_alone items)

item_agrees : (pipe : NameMap) (item : ItemView) → differing_symbol pipe item ≡ None → Agrees pipe item
item_agrees pipe (latch_item offset name sort) h = tt
item_agrees pipe (memory_item offset name) h = tt
item_agrees pipe (input_item offset name sort idle) h = tt
item_agrees pipe (function_item offset name arity) h = unless_none (agrees arity false (pipe name.text)) name h
item_agrees pipe (predicate_item offset name arity) h = unless_none (agrees arity true (pipe name.text)) name h
item_agrees pipe (let_item offset name sort value) h = tt
item_agrees pipe (next_item offset name value) h = tt
item_agrees pipe (flush_item offset count) h = tt
item_agrees pipe (steps_item offset count) h = tt
item_agrees pipe (exact_item offset count when) h = tt
item_agrees pipe (distinct_item offset names) h = tt

agree_all : (pipe : NameMap) (items : List ItemView) → filter_map (differing_symbol pipe) items ≡ [] → AllByRecursion (Agrees pipe) items
agree_all pipe [] h = tt
agree_all pipe (item ∷ items) h =
    let p = none_kept (differing_symbol pipe item) (filter_map (differing_symbol pipe) items) h in
    (item_agrees pipe item p.0, agree_all pipe items p.1)

-- the pipeline has this entry
abbrev pub IsShared : NameMap → entry.Entry → Type 0
IsShared pipe e = is_entry e.sort (pipe e.name) ≡ true

entries_shared : (pipe : NameMap) (items : List ItemView) → filter_map (missing_entry pipe) items ≡ [] → AllByRecursion (IsShared pipe) (filter_map declared_entry items)
entries_shared pipe [] h = tt
entries_shared pipe (latch_item offset name sort ∷ items) h =
    let p = none_kept (missing_entry pipe (latch_item offset name sort)) (filter_map (missing_entry pipe) items) h in
    (unless_none (is_entry sort (pipe name.text)) name p.0, entries_shared pipe items p.1)
entries_shared pipe (memory_item offset name ∷ items) h =
    let p = none_kept (missing_entry pipe (memory_item offset name)) (filter_map (missing_entry pipe) items) h in
    (unless_none (is_entry sorts.Memory (pipe name.text)) name p.0, entries_shared pipe items p.1)
entries_shared pipe (input_item offset name sort idle ∷ items) h = entries_shared pipe items h
entries_shared pipe (function_item offset name arity ∷ items) h = entries_shared pipe items h
entries_shared pipe (predicate_item offset name arity ∷ items) h = entries_shared pipe items h
entries_shared pipe (let_item offset name sort value ∷ items) h = entries_shared pipe items h
entries_shared pipe (next_item offset name value ∷ items) h = entries_shared pipe items h
entries_shared pipe (flush_item offset count ∷ items) h = entries_shared pipe items h
entries_shared pipe (steps_item offset count ∷ items) h = entries_shared pipe items h
entries_shared pipe (exact_item offset count when ∷ items) h = entries_shared pipe items h
entries_shared pipe (distinct_item offset names ∷ items) h = entries_shared pipe items h

-- the specification's entries are the pipeline's, and its functions and predicates are alike
pub record IsAcross (pipe : NameMap) (items : List ItemView) : Type 0 where
  pub agree : AllByRecursion (Agrees pipe) items
  pub shared : AllByRecursion (IsShared pipe) (filter_map declared_entry items)

pub is_across : (pipe : NameMap) (items : List ItemView) → across_faults pipe items ≡ [] → IsAcross pipe items
is_across pipe items h =
    let p = both_empty (faults_at NotInPipeline (filter_map (missing_entry pipe) items)) (faults_at FunctionDiffers (filter_map (differing_symbol pipe) items)) h in
    record {
      agree = agree_all pipe items (map_empty (fault FunctionDiffers) _ p.1);
      shared = entries_shared pipe items (map_empty (fault NotInPipeline) _ p.0);
    }
