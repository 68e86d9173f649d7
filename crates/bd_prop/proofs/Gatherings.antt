-- What stays true while choices are gathered, and what the gathered graph denotes.
use Rattle.std.proofs.Common.{◌≡◌, ℕ, ◌<◌, ◌≤◌, ◌+◌, Bool, true, false, not, ◌&&◌, ◌||◌, cond, List, [], ◌∷◌, ◌++◌, length, get_or, take, drop, All, ◌⊎◌, Option, None, Some, refl, ap, sym, ◌∙◌, subst, inl, inr, zero, suc, arith, length-append}
use Rattle.std.proofs.lemmas.Bool.{cases_eq, cases_lt}
use Rattle.std.proofs.lemmas.List.{append-nil, append_assoc, get_or_append_left, get_or_past, get_or_push, length_push, take_more, drop_more}
use Rattle.std.proofs.lemmas.List.Elements.{All-append, All-cons, All-nil, All-weaker}
use Rattle.std.proofs.lemmas.Option.{same_Some, slice_get-get_or, slice_get_within, get_or_from_slice_get}
use Rattle.bd_prop.specs.declared.atom.Atom.{Atom}
use Rattle.bd_prop.specs.declared.choices.Choice.{Choice}
use Rattle.bd_prop.specs.declared.choices.Choice.TheVariants as choice
use Rattle.bd_prop.specs.declared.gathering.Part.{Part}
use Rattle.bd_prop.specs.declared.gathering.Part.TheVariants.{Inside, Node}
use Rattle.bd_prop.specs.declared.node.PropNode.{PropNode}
use Rattle.bd_prop.specs.declared.node.PropNode.TheVariants.{True, Atom as OfAtom, Not, And, Or, Ite, Tree}
use Rattle.bd_prop.specs.Gathered.{AreRenamed, HasEntry, IsEntry, IsGathered, IsPart, IsPlaced, IsPlacedBy, branches, choice_node, choice_part, entry_at, leaf_of, negation_part}
use Rattle.bd_prop.specs.Graph.{Extends, IsBelow, IsGraph, StandsAt}
use Rattle.bd_prop.specs.Inside.{is_inside}
use Rattle.bd_prop.specs.Node.{children, chosen, first_value, later_values, named, negated_first, node_truth, tree_values}
use Rattle.bd_prop.specs.Truth.{truth_at}
use Rattle.bd_prop.specs.inner.Gathering.{AreLow, IsPartBelow}
use Rattle.bd_prop.proofs.Truths.{node_truth_same, truth-node}

-- longer graphs
pub Extends-self : (p : List PropNode) → Extends p p
Extends-self p = ([], sym (append-nil p))

pub Extends-trans : (a b c : List PropNode) → Extends a b → Extends b c → Extends a c
Extends-trans a b c (more, first) (rest, second) = (more ++ rest, second ∙ ap (λ xs. xs ++ rest) first ∙ append_assoc a more rest)

pub Stands-Extends : (p q : List PropNode) (id : ℕ) (n : PropNode) → Extends p q → StandsAt p id n → StandsAt q id n
Stands-Extends p q id n (more, is) at =
    let low : id < length p = slice_get_within p id n at in
    let long : id < length (p ++ more) = omega (arith, length-append p more) in
    let here : get_or (p ++ more) id n ≡ n = get_or_append_left p more n id low ∙ get_or_from_slice_get p id n n at in
    subst (λ ns. StandsAt ns id n) (sym is) (slice_get-get_or (p ++ more) id n long ∙ ap Some here)

pub long-Extends : (p q : List PropNode) → Extends p q → length p ≤ length q
long-Extends p q (more, is) = let size : length q ≡ length (p ++ more) = ap length is in omega (arith, length-append p more)

pub low-Extends : (p q : List PropNode) (ids : List ℕ) → Extends p q → All (λ c. c < length p) ids → All (λ c. c < length q) ids
low-Extends p q ids e h = let long = long-Extends p q e in All-weaker (λ c. c < length p) (λ c. c < length q) (λ c low. omega arith) ids h

pub AreLow-Extends : (p q : List PropNode) (entries : List (List Choice)) → Extends p q → AreLow (length p) entries → AreLow (length q) entries
AreLow-Extends p q entries e low = record { each = λ id. low-Extends p q (named (entry_at entries id)) e (low.each id) }

placed_by-Extends : (p q : List PropNode) (items : List Choice) (leaf : Option ℕ) (id : ℕ) → Extends p q → IsPlacedBy p items leaf id → IsPlacedBy q items leaf id
placed_by-Extends p q items (Some a) id e h = h
placed_by-Extends p q items None id e h = Stands-Extends p q id (Tree items) e h

pub IsPlaced-Extends : (p q : List PropNode) (items : List Choice) (id : ℕ) → Extends p q → IsPlaced p items id → IsPlaced q items id
IsPlaced-Extends p q items id e h = placed_by-Extends p q items (leaf_of items) id e h

pub AreRenamed-Extends : (p q : List PropNode) (entries : List (List Choice)) (items renamed : List Choice) → Extends p q → AreRenamed p entries items renamed → AreRenamed q entries items renamed
AreRenamed-Extends p q entries [] renamed e h = h
AreRenamed-Extends p q entries (choice.Test a ∷ items) renamed e (x, rest, is, placed, more) = (x, rest, is, IsPlaced-Extends p q (entry_at entries a) x e placed, AreRenamed-Extends p q entries items rest e more)
AreRenamed-Extends p q entries (choice.Not ∷ items) renamed e (rest, is, more) = (rest, is, AreRenamed-Extends p q entries items rest e more)
AreRenamed-Extends p q entries (choice.Leaf a ∷ items) renamed e (x, rest, is, placed, more) = (x, rest, is, IsPlaced-Extends p q (entry_at entries a) x e placed, AreRenamed-Extends p q entries items rest e more)

pub IsPart-Extends : (p q : List PropNode) (entries : List (List Choice)) (inside : Bool) (n : PropNode) (part : Part) → Extends p q → IsPart p entries inside n part → IsPart q entries inside n part
IsPart-Extends p q entries inside True part e h = h
IsPart-Extends p q entries inside (OfAtom a) part e h = h
IsPart-Extends p q entries inside (Not a) part e h = h
IsPart-Extends p q entries inside (And a b) part e (x, y, left, right, is) = (x, y, IsPlaced-Extends p q (entry_at entries a) x e left, IsPlaced-Extends p q (entry_at entries b) y e right, is)
IsPart-Extends p q entries inside (Or a b) part e (x, y, left, right, is) = (x, y, IsPlaced-Extends p q (entry_at entries a) x e left, IsPlaced-Extends p q (entry_at entries b) y e right, is)
IsPart-Extends p q entries inside (Ite a b c) part e (x, placed, is) = (x, IsPlaced-Extends p q (entry_at entries a) x e placed, is)
IsPart-Extends p q entries inside (Tree items) part e (renamed, are, is) = (renamed, AreRenamed-Extends p q entries items renamed e are, is)

pub IsEntry-Extends : (p q : List PropNode) (part : Part) (entry : List Choice) → Extends p q → IsEntry p part entry → IsEntry q part entry
IsEntry-Extends p q (Inside items) entry e h = h
IsEntry-Extends p q (Node n) entry e (id, is, at) = (id, is, Stands-Extends p q id n e at)

-- renaming, item by item
AreRenamed-append : (p : List PropNode) (entries : List (List Choice)) (xs ys rs ss : List Choice) → AreRenamed p entries xs rs → AreRenamed p entries ys ss → AreRenamed p entries (xs ++ ys) (rs ++ ss)
AreRenamed-append p entries [] ys rs ss h k = subst (λ l. AreRenamed p entries ys (l ++ ss)) (sym h) k
AreRenamed-append p entries (choice.Test a ∷ xs) ys rs ss (x, rest, is, placed, more) k = (x, rest ++ ss, ap (λ l. l ++ ss) is, placed, AreRenamed-append p entries xs ys rest ss more k)
AreRenamed-append p entries (choice.Not ∷ xs) ys rs ss (rest, is, more) k = (rest ++ ss, ap (λ l. l ++ ss) is, AreRenamed-append p entries xs ys rest ss more k)
AreRenamed-append p entries (choice.Leaf a ∷ xs) ys rs ss (x, rest, is, placed, more) k = (x, rest ++ ss, ap (λ l. l ++ ss) is, placed, AreRenamed-append p entries xs ys rest ss more k)

pub named-append : (xs ys : List Choice) → named (xs ++ ys) ≡ named xs ++ named ys
named-append [] ys = refl
named-append (choice.Test a ∷ xs) ys = ap (λ l. a ∷ l) (named-append xs ys)
named-append (choice.Not ∷ xs) ys = named-append xs ys
named-append (choice.Leaf a ∷ xs) ys = ap (λ l. a ∷ l) (named-append xs ys)

pub low-append : (n : ℕ) (xs ys : List Choice) → All (λ c. c < n) (named xs) → All (λ c. c < n) (named ys) → All (λ c. c < n) (named (xs ++ ys))
low-append n xs ys h k = subst (All (λ c. c < n)) (sym (named-append xs ys)) (All-append (λ c. c < n) (named xs) (named ys) h k)

pub leaf_below : (n : ℕ) (items : List Choice) (id : ℕ) → leaf_of items ≡ Some id → All (λ c. c < n) (named items) → id < n
leaf_below n [] id is low = absurd cc
leaf_below n (choice.Test a ∷ items) id is low = absurd cc
leaf_below n (choice.Not ∷ items) id is low = absurd cc
leaf_below n (choice.Leaf a ∷ []) id is low = let first : a < n = low 0 a (omega arith) in subst (λ k. k < n) (same_Some a id is) first
leaf_below n (choice.Leaf a ∷ item ∷ items) id is low = absurd cc

negation_below : (n : ℕ) (items : List Choice) (leaf : Option ℕ) → leaf_of items ≡ leaf → All (λ c. c < n) (named items) → IsPartBelow n (negation_part items leaf)
negation_below n items (Some a) is low = All-cons (λ c. c < n) a [] (leaf_below n items a is low) (All-nil (λ c. c < n))
negation_below n items None is low = low

pub negation_part-below : (n : ℕ) (items : List Choice) → All (λ c. c < n) (named items) → IsPartBelow n (negation_part items (leaf_of items))
negation_part-below n items low = negation_below n items (leaf_of items) refl low

branches_below : (n control : ℕ) (first second : List Choice) → control < n → All (λ c. c < n) (named first) → All (λ c. c < n) (named second) → All (λ c. c < n) (named (branches control first second))
branches_below n control first second here low more = All-cons (λ c. c < n) control (named (first ++ second)) here (low-append n first second low more)

node_below : (n control : ℕ) (first second : List Choice) (a b : Option ℕ) → leaf_of first ≡ a → leaf_of second ≡ b → control < n → All (λ c. c < n) (named first) → All (λ c. c < n) (named second)
    → IsBelow n (choice_node control first second a b)
node_below n control first second (Some a) (Some b) is also here low more =
    All-cons (λ c. c < n) control (a ∷ b ∷ []) here (All-cons (λ c. c < n) a (b ∷ []) (leaf_below n first a is low) (All-cons (λ c. c < n) b [] (leaf_below n second b also more) (All-nil (λ c. c < n))))
node_below n control first second (Some a) None is also here low more = branches_below n control first second here low more
node_below n control first second None b is also here low more = branches_below n control first second here low more

pub choice_part-below : (n : ℕ) (inside : Bool) (control : ℕ) (first second : List Choice) → control < n → All (λ c. c < n) (named first) → All (λ c. c < n) (named second) → IsPartBelow n (choice_part inside control first second)
choice_part-below n true control first second here low more = branches_below n control first second here low more
choice_part-below n false control first second here low more = node_below n control first second (leaf_of first) (leaf_of second) refl refl here low more

-- a choice with an inner branch is a tree
pub choice_node-tree : (control : ℕ) (first second : List Choice) (a b : Option ℕ) → (a ≡ None) ⊎ (b ≡ None) → choice_node control first second a b ≡ Tree (branches control first second)
choice_node-tree control first second (Some a) (Some b) (inl h) = absurd cc
choice_node-tree control first second (Some a) (Some b) (inr h) = absurd cc
choice_node-tree control first second (Some a) None h = refl
choice_node-tree control first second None b h = refl

pub record IsRenaming (old new : List PropNode) (entries : List (List Choice)) (items : List Choice) (k : ℕ) (renamed : List Choice) : Type 0 where
  pub grows : Extends old new
  pub are : AreRenamed new entries (take k items) renamed
  pub low : All (λ c. c < length new) (named renamed)

pub renaming-start : (old : List PropNode) (entries : List (List Choice)) (items renamed : List Choice) → renamed ≡ [] → IsRenaming old old entries items 0 renamed
renaming-start old entries items renamed is = record { grows = Extends-self old; are = is; low = subst (λ l. All (λ c. c < length old) (named l)) (sym is) (All-nil (λ c. c < length old)) }

pub renaming-more : (old mid new : List PropNode) (entries : List (List Choice)) (items : List Choice) (k : ℕ) (item d made : Choice) (renamed more : List Choice) → k < length items → get_or items k d ≡ item
    → IsRenaming old mid entries items k renamed → Extends mid new → AreRenamed new entries (item ∷ []) (made ∷ []) → All (λ c. c < length new) (named (made ∷ [])) → more ≡ renamed ++ made ∷ []
    → IsRenaming old new entries items (k + 1) more
renaming-more old mid new entries items k item d made renamed more inside here is grows one low all =
    let next : take (k + 1) items ≡ take k items ++ item ∷ [] = take_more items k d inside ∙ ap (λ x. take k items ++ x ∷ []) here in
    record {
      grows = Extends-trans old mid new is.grows grows;
      are = subst (λ xs. AreRenamed new entries xs more) (sym next) (subst (AreRenamed new entries (take k items ++ item ∷ [])) (sym all)
          (AreRenamed-append new entries (take k items) (item ∷ []) renamed (made ∷ []) (AreRenamed-Extends mid new entries (take k items) renamed grows is.are) one));
      low = subst (λ l. All (λ c. c < length new) (named l)) (sym all) (low-append (length new) renamed (made ∷ []) (low-Extends mid new (named renamed) grows is.low) low);
    }

-- one of the named children, item by item
pub named_item : (n : ℕ) (items : List Choice) (k : ℕ) (d : Choice) → k < length items → All (λ c. c < n) (named items) → All (λ c. c < n) (named (get_or items k d ∷ []))
named_item n [] k d h low = absurd (omega arith)
named_item n (choice.Test a ∷ items) zero d h low = let first : a < n = low 0 a (omega arith) in All-cons (λ c. c < n) a [] first (All-nil (λ c. c < n))
named_item n (choice.Not ∷ items) zero d h low = All-nil (λ c. c < n)
named_item n (choice.Leaf a ∷ items) zero d h low = let first : a < n = low 0 a (omega arith) in All-cons (λ c. c < n) a [] first (All-nil (λ c. c < n))
named_item n (choice.Test a ∷ items) (suc k) d h low = named_item n items k d (omega arith) (λ j e short. low (suc j) e (omega arith))
named_item n (choice.Not ∷ items) (suc k) d h low = named_item n items k d (omega arith) low
named_item n (choice.Leaf a ∷ items) (suc k) d h low = named_item n items k d (omega arith) (λ j e short. low (suc j) e (omega arith))

-- what is no Some is None
pub no_leaf : (o : Option ℕ) → ((a : ℕ) → o ≡ Some a → ⊥) → o ≡ None
no_leaf None none = refl
no_leaf (Some a) none = absurd (none a refl)

-- the nodes below k have what stands for them
pub record IsGathering (old : List PropNode) (inside : ℕ → Bool) (k : ℕ) (new : List PropNode) (entries : List (List Choice)) : Type 0 where
  pub size : length entries ≡ k
  pub low : AreLow (length new) entries
  pub each : (id : ℕ) (n : PropNode) → id < k → StandsAt old id n → HasEntry new entries (inside id) n (entry_at entries id)

pub gathering-start : (old : List PropNode) (inside : ℕ → Bool) (new : List PropNode) (entries : List (List Choice)) → entries ≡ [] → IsGathering old inside 0 new entries
gathering-start old inside new entries is = record {
  size = ap length is;
  low = record { each = λ id. subst (λ es. All (λ c. c < length new) (named (entry_at es id))) (sym is) (All-nil (λ c. c < length new)) };
  each = λ id n low at. absurd (omega arith);
}

-- an entry more changes none of those before it
entry_before : (entries : List (List Choice)) (entry : List Choice) (id : ℕ) → id < length entries → entry_at (entries ++ entry ∷ []) id ≡ entry_at entries id
entry_before entries entry id low = get_or_append_left entries (entry ∷ []) [] id low

module _ (p : List PropNode) (entries : List (List Choice)) (entry : List Choice) where
  placed_later : (a x : ℕ) → a < length entries → IsPlaced p (entry_at entries a) x → IsPlaced p (entry_at (entries ++ entry ∷ []) a) x
  placed_later a x low h = subst (λ items. IsPlaced p items x) (sym (entry_before entries entry a low)) h

  renamed_later : (items renamed : List Choice) → All (λ c. c < length entries) (named items) → AreRenamed p entries items renamed → AreRenamed p (entries ++ entry ∷ []) items renamed
  renamed_later [] renamed low h = h
  renamed_later (choice.Test a ∷ items) renamed low (x, rest, is, placed, more) =
      (x, rest, is, placed_later a x (low 0 a (omega arith)) placed, renamed_later items rest (λ j e short. low (suc j) e (omega arith)) more)
  renamed_later (choice.Not ∷ items) renamed low (rest, is, more) = (rest, is, renamed_later items rest low more)
  renamed_later (choice.Leaf a ∷ items) renamed low (x, rest, is, placed, more) =
      (x, rest, is, placed_later a x (low 0 a (omega arith)) placed, renamed_later items rest (λ j e short. low (suc j) e (omega arith)) more)

  part_later : (inside : Bool) (n : PropNode) (part : Part) → All (λ c. c < length entries) (children n) → IsPart p entries inside n part → IsPart p (entries ++ entry ∷ []) inside n part
  part_later inside True part low h = h
  part_later inside (OfAtom a) part low h = h
  part_later inside (Not a) part low h = subst (λ items. part ≡ negation_part items (leaf_of items)) (sym (entry_before entries entry a (low 0 a (omega arith)))) h
  part_later inside (And a b) part low (x, y, left, right, is) = (x, y, placed_later a x (low 0 a (omega arith)) left, placed_later b y (low 1 a (omega arith)) right, is)
  part_later inside (Or a b) part low (x, y, left, right, is) = (x, y, placed_later a x (low 0 a (omega arith)) left, placed_later b y (low 1 a (omega arith)) right, is)
  part_later inside (Ite a b c) part low (x, placed, is) = (
    x,
    placed_later a x (low 0 a (omega arith)) placed,
    is ∙ (λ i. choice_part inside x (sym (entry_before entries entry b (low 1 a (omega arith))) i) (sym (entry_before entries entry c (low 2 a (omega arith))) i)),
  )
  part_later inside (Tree items) part low (renamed, are, is) = (renamed, renamed_later items renamed low are, is)

-- a node more
pub gathering-more : (old : List PropNode) (inside : ℕ → Bool) (k : ℕ) (p q r : List PropNode) (entries all : List (List Choice)) (entry : List Choice) (n : PropNode) (part : Part)
    → IsGraph old → StandsAt old k n → IsGathering old inside k p entries → Extends p q → Extends q r
    → IsPart q entries (inside k) n part → IsEntry r part entry → All (λ c. c < length r) (named entry) → all ≡ entries ++ entry ∷ [] → IsGathering old inside (k + 1) r all
gathering-more old inside k p q r entries all entry n part graph at is grows more made stands low more_is = record {
  size = ap length more_is ∙ length_push entries entry ∙ omega (arith, is.size);
  low = record { each = λ id. subst (λ es. All (λ c. c < length r) (named (entry_at es id))) (sym more_is) (low_at id) };
  each = λ id m below stood. subst (λ es. HasEntry r es (inside id) m (entry_at es id)) (sym more_is) (each_at id m below stood);
}
  where
    longer : Extends p r
    longer = Extends-trans p q r grows more

    low_at : (id : ℕ) → All (λ c. c < length r) (named (entry_at (entries ++ entry ∷ []) id))
    low_at id =
        elim (cases_lt id (length entries)) [
          | inl before ↦ subst (λ l. All (λ c. c < length r) (named l)) (sym (entry_before entries entry id before)) (low-Extends p r (named (entry_at entries id)) longer (is.low.each id))
          | inr after ↦ elim (cases_eq id (length entries)) [
            | inl same ↦ subst (λ l. All (λ c. c < length r) (named l)) (sym (get_or_push entries entry [] id (sym same))) low
            | inr past ↦
                subst (λ l. All (λ c. c < length r) (named l)) (sym (get_or_past (entries ++ entry ∷ []) id [] (omega (arith, length_push entries entry)))) (All-nil (λ c. c < length r))
          ]
        ]

    each_at : (id : ℕ) (m : PropNode) → id < k + 1 → StandsAt old id m → HasEntry r (entries ++ entry ∷ []) (inside id) m (entry_at (entries ++ entry ∷ []) id)
    each_at id m below stood =
        let size : length entries ≡ k = is.size in
        let kids : All (λ c. c < length entries) (children m) = λ j e h. let less : get_or (children m) j e < id = graph id m stood j e h in omega arith in
        elim (cases_eq id k) [
          | inl same ↦
              let node_is : n ≡ m = sym (get_or_from_slice_get old k n n at) ∙ get_or_from_slice_get old k m n (subst (λ x. StandsAt old x m) same stood) in
              let part_is : IsPart r entries (inside id) m part = subst (λ b. IsPart r entries b m part) (ap inside (sym same)) (subst (λ x. IsPart r entries (inside k) x part) node_is (IsPart-Extends q r entries (inside k) n part more made)) in
              (part, part_later r entries entry (inside id) m part kids part_is, subst (IsEntry r part) (sym (get_or_push entries entry [] id (size ∙ sym same))) stands)
          | inr other ↦
              let before : id < k = omega (arith, other) in
              let (old_part, is_part, is_entry) = is.each id m before stood in (
                old_part,
                part_later r entries entry (inside id) m old_part kids (IsPart-Extends p r entries (inside id) m old_part longer is_part),
                subst (IsEntry r old_part) (sym (entry_before entries entry id (omega arith))) (IsEntry-Extends p r old_part (entry_at entries id) longer is_entry),
              )
        ]

HasEntry-Extends : (p q : List PropNode) (entries : List (List Choice)) (inside : Bool) (n : PropNode) (entry : List Choice) → Extends p q → HasEntry p entries inside n entry → HasEntry q entries inside n entry
HasEntry-Extends p q entries inside n entry e (part, is_part, is_entry) = (part, IsPart-Extends p q entries inside n part e is_part, IsEntry-Extends p q part entry e is_entry)

-- all nodes have what stands for them
pub gathered-end : (old : List PropNode) (root : ℕ) (p q : List PropNode) (entries : List (List Choice)) (new_root k : ℕ) → k ≡ length old → IsGathering old (is_inside old root) k p entries → Extends p q
    → IsPlaced q (entry_at entries root) new_root → IsGathered old root q new_root
gathered-end old root p q entries new_root k end is grows placed = record {
  entries = entries;
  size = is.size ∙ end;
  each = λ id n at. let low : id < length old = slice_get_within old id n at in HasEntry-Extends p q entries (is_inside old root id) n (entry_at entries id) grows (is.each id n (omega arith) at);
  root_is = placed;
}
