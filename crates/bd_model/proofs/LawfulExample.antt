-- Lawful designs exist: one with a memory, lets, inputs of both sorts, a predicate, a flush cycle, an invariant with
-- a let, exact items and a group of constants that differ.
use Rattle.std.proofs.Common.{◌≡◌, ◌≢◌, Bool, true, false, List, [], ◌∷◌, refl, arith}
use Rattle.std.specs.Prelude.{nat_eq, codes, not, ◌&&◌}
use Rattle.std.specs.Bool.{Decides}
use Rattle.std.specs.List.{AllPairs, list_all}
use Rattle.std.specs.Cmp.{unsigned_Decides}
use Rattle.std.proofs.lemmas.Slice.Eq.{slice_eq-Decides}
use Rattle.std.proofs.lemmas.Bool.Decides.{Decides-not}
use Rattle.std.proofs.lemmas.List.Elements.{All-from_recursion}
use Rattle.std.proofs.lemmas.List.Kept.{AllPairs-cons}
use lib.Pointwise.{pointwise}
use Rattle.bd_model.specs.ExprView.{ExprView, Entry, Input, Local, Not, And, Or, Ite, Read, Write, Apply, no_exprs, expr}
use Rattle.bd_model.specs.DesignView.{DesignView, MachineView}
use Rattle.bd_model.specs.Lawful.{IsLawful, all_names}
use Rattle.bd_model.specs.declared.design.Sort.TheVariants as sort
use Rattle.bd_model.proofs.SameDecided.{Decides-each}

-- the entries, inputs, symbols and lets by name
abbrev rf : ExprView
rf = Entry 0

abbrev pc : ExprView
pc = Entry 1

abbrev valid : ExprView
valid = Entry 2

abbrev stall : ExprView
stall = Input 0

abbrev data_in : ExprView
data_in = Input 1

abbrev next_of : ExprView → ExprView
next_of e = Apply 0 (expr e no_exprs)

abbrev is_jump : ExprView → ExprView
is_jump e = Apply 1 (expr e no_exprs)

abbrev start : ExprView
start = Apply 2 no_exprs

-- what was fetched is written a cycle later, unless the pipeline stalls
abbrev pipe : MachineView
pipe = record {
  entries = record { name = codes "rf"; sort = sort.Memory } ∷ record { name = codes "pc"; sort = sort.Word } ∷ record { name = codes "valid"; sort = sort.Bool } ∷ [];
  ports = record { name = codes "stall"; sort = sort.Bool; idle = Not valid } ∷ record { name = codes "data"; sort = sort.Word; idle = start } ∷ [];
  locals = record { sort = sort.Memory; value = Ite valid (Write rf pc data_in) rf } ∷ record { sort = sort.Word; value = Read (Local 0) pc } ∷ [];
  nexts = Local 0 ∷ Ite stall pc (next_of (Local 1)) ∷ Not stall ∷ [];
}

abbrev spec : MachineView
spec = record {
  entries = record { name = codes "rf"; sort = sort.Memory } ∷ record { name = codes "pc"; sort = sort.Word } ∷ [];
  ports = [];
  locals = record { sort = sort.Word; value = next_of pc } ∷ [];
  nexts = Write rf pc start ∷ Local 0 ∷ [];
}

abbrev design : DesignView
design = record {
  pipe = pipe;
  spec = spec;
  symbols =
      record { name = codes "next"; arity = 1; predicate = false } ∷ record { name = codes "jump"; arity = 1; predicate = true }
      ∷ record { name = codes "start"; arity = 0; predicate = false } ∷ record { name = codes "end"; arity = 0; predicate = false } ∷ [];
  visible = 0 ∷ 1 ∷ [];
  flush = 1;
  steps = 2;
  inv_locals = record { sort = sort.Bool; value = And (expr valid (expr (is_jump pc) no_exprs)) } ∷ [];
  inv = Or (expr (Local 0) (expr (Not valid) no_exprs));
  exact = record { count = 0; when = stall } ∷ record { count = 1; when = Not stall } ∷ [];
  distinct = (2 ∷ 3 ∷ []) ∷ [];
}

-- no item is equal to a later one
abbrev are_different : {X : Type 0} → (X → X → Bool) → List X → Bool
are_different eq [] = true
are_different eq (x ∷ xs) = list_all (λ y. not (eq x y)) xs && are_different eq xs

AllPairs-different : {X : Type 0} (eq : X → X → Bool) → ((a b : X) → Decides (eq a b) (a ≡ b)) → (xs : List X) → are_different eq xs ≡ true → AllPairs ◌≢◌ xs
AllPairs-different eq decides [] h = λ i j d below within. absurd (omega (arith, within))
AllPairs-different eq decides (x ∷ xs) h =
    let parts : (list_all (λ y. not (eq x y)) xs ≡ true) × (are_different eq xs ≡ true) = grind arith in
    let others = (Decides-each (λ y. x ≢ y) (λ y. not (eq x y)) (λ y. Decides-not _ (decides x y)) xs).0 parts.0 in
    AllPairs-cons ◌≢◌ x xs (All-from_recursion (λ y. x ≢ y) xs others) (AllPairs-different eq decides xs parts.1)

different_names : AllPairs ◌≢◌ (all_names design)
different_names =
    AllPairs-different (pointwise nat_eq) (λ a b. slice_eq-Decides unsigned_Decides a b _ refl) (all_names design) refl

pub lawful : IsLawful design
lawful = record {
  pipe = record {
    locals = ((refl, (refl, refl, refl, refl), refl), ((refl, refl, refl), tt));
    nexts = (refl, ((refl, refl, ((_, refl, refl, refl), (refl, tt))), ((refl, refl), tt)));
    local_limits = ((omega arith, omega arith), ((omega arith, omega arith), tt));
    next_limits = ((omega arith, omega arith), ((omega arith, omega arith), ((omega arith, omega arith), tt)));
    short = (omega arith, omega arith, omega arith);
  };
  spec = record {
    locals = (((_, refl, refl, refl), (refl, tt)), tt);
    nexts = ((refl, refl, refl, ((_, refl, refl, refl), tt)), (refl, tt));
    local_limits = ((omega arith, omega arith), tt);
    next_limits = ((omega arith, omega arith), ((omega arith, omega arith), tt));
    short = (omega arith, omega arith, omega arith);
  };
  ports = (
    record { sort = λ q. absurd (cc q); idle = (refl, refl); no_input = refl; limits = (omega arith, omega arith) },
    (record { sort = λ q. absurd (cc q); idle = ((_, refl, refl, refl), tt); no_input = refl; limits = (omega arith, omega arith) }, tt),
  );
  no_spec_inputs = refl;
  inv_locals = ((refl, omega arith, (refl, (((_, refl, refl, refl), (refl, tt)), tt))), tt);
  inv = (refl, omega arith, (refl, ((refl, refl), tt)));
  inv_local_limits = ((omega arith, omega arith), tt);
  inv_limits = (omega arith, omega arith);
  exact = (
    record { count = omega arith; when = refl; limits = (omega arith, omega arith) },
    (record { count = omega arith; when = (refl, refl); limits = (omega arith, omega arith) }, tt),
  );
  distinct = (
    record {
      two = omega arith;
      different = AllPairs-different nat_eq unsigned_Decides (2 ∷ 3 ∷ []) refl;
      constants = ((_, refl, refl, refl), ((_, refl, refl, refl), tt));
      short = omega arith;
    },
    tt,
  );
  names = (record { spelled = refl; short = omega arith; no_keyword = refl }, (record { spelled = refl; short = omega arith; no_keyword = refl }, (record { spelled = refl; short = omega arith; no_keyword = refl }, (record { spelled = refl; short = omega arith; no_keyword = refl }, (record { spelled = refl; short = omega arith; no_keyword = refl }, (record { spelled = refl; short = omega arith; no_keyword = refl }, (record { spelled = refl; short = omega arith; no_keyword = refl }, (record { spelled = refl; short = omega arith; no_keyword = refl }, (record { spelled = refl; short = omega arith; no_keyword = refl }, tt)))))))));
  different_names = different_names;
  visible = (refl, (refl, tt));
  visible_once = AllPairs-different nat_eq unsigned_Decides (0 ∷ 1 ∷ []) refl;
  arities = (omega arith, (omega arith, (omega arith, (omega arith, tt))));
  flush = omega arith;
  steps = omega arith;
  short = (omega arith, omega arith, omega arith, omega arith);
}
