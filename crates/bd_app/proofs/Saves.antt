-- What stands of files after saves.
use Rattle.std.proofs.Common.{◌≡◌, ◌≤◌, ◌∙◌, ℕ, List, sym, subst, ap, inl, inr, arith}
use Rattle.std.specs.Prelude.{◌⊎◌, Option, Some, None, Result, Err, OnOk, IfErr, IsErrAnd, IsErrOf}
use Rattle.bd_cnf.specs.Problem.{dimacs}
use Rattle.bd_files.specs.Devices.{Blame, Held, Holds, KeepsOthers, Rose}
use Rattle.bd_files.specs.declared.devices.FileCall.TheVariants as call
use Rattle.bd_lrat.specs.Text.{lrat as lrat_text}
use Rattle.bd_verify.specs.declared.verdict.Work.{Work}
use Rattle.bd_app.specs.Files.{AreSaved, AreSavedUpTo, KeepsAllBut, save_if}
use Rattle.bd_app.specs.Meaning.{Called, CalledFirst, FilesSeen}
use Rattle.bd_app.specs.Words.{Name}
use Rattle.bd_app.specs.declared.fault.Fault.{Fault}
use Rattle.bd_app.specs.declared.fault.Fault.TheVariants.{Save, Memory}
use Rattle.bd_app.specs.inner.Saved.{IsSaveFault, Saves}
use Rattle.bd_app.proofs.Calls.{called_ok, called_then, first_after, first_before, formula_up_to, proof_up_to}
use Rattle.bd_app.proofs.Results.{OnOk-weaker, passed, rose_after, same_error}

-- where nothing changes
pub keeps_same : (before after : Option Held) (IsNamed : Name → Type 0) → after ≡ before → KeepsAllBut before after IsNamed
keeps_same None after IsNamed is = is
keeps_same (Some held) None IsNamed is = absurd (cc is)
keeps_same (Some held) (Some after) IsNamed is = λ other not_named. let same : after ≡ held = cc is in ap (λ h. h other) same

-- what is held under another name stands
pub holds_still : (before after : Option Held) (IsNamed : Name → Type 0) (name bytes : List ℕ) → ¬ IsNamed name → KeepsAllBut before after IsNamed → Holds before name bytes → Holds after name bytes
holds_still None after IsNamed name bytes other keeps holds = let none : after ≡ None = keeps in subst (λ a. Holds a name bytes) (sym none) tt
holds_still (Some held) None IsNamed name bytes other keeps holds = tt
holds_still (Some held) (Some after) IsNamed name bytes other keeps holds = keeps name other ∙ holds

-- all but what is named stands
keeps_others : (before after : Option Held) (name : Option Name) (n : Name) → name ≡ Some n → KeepsAllBut before after (λ x. name ≡ Some x) → KeepsOthers before after n
keeps_others None after name n is keeps = keeps
keeps_others (Some held) None name n is keeps = absurd keeps
keeps_others (Some held) (Some after) name n is keeps = λ other differs. keeps other (λ same. differs (cc (same, is)))

-- one name is blamed
blamed_once : (blame : Option Blame) (n m : Name) → blame ≡ Some (call.Save, n) → blame ≡ Some (call.Save, m) → n ≡ m
blamed_once blame n m one two =
    let same : (call.Save, n) ≡ (call.Save, m) = cc (sym one ∙ two) in
    ap (λ (p : Blame). p.1) same

-- the save of the proof failed
pub up_to_proof : (before between after : Option Held) (blame : Option Blame) (cnf lrat : Option Name) (work : Work) (n : Name)
    → ((name : Name) → cnf ≡ Some name → Holds between name (dimacs work.cnf)) → KeepsAllBut between after (λ name. lrat ≡ Some name) → lrat ≡ Some n → blame ≡ Some (call.Save, n)
    → AreSavedUpTo before after blame cnf lrat work
up_to_proof before between after blame cnf lrat work n formula keeps is blamed = record {
  at_formula = λ name given differs blames. absurd (differs (is ∙ ap Some (blamed_once blame n name blamed blames)));
  at_proof = λ name other proof given differs blames.
      holds_still between after (λ x. lrat ≡ Some x) other (dimacs work.cnf) (λ same. differs (cc (same, proof))) keeps (formula other given);
}

-- the save of the formula failed: all but its file stands
up_to_formula : (before after : Option Held) (blame : Option Blame) (cnf lrat : Option Name) (work : Work) → ((n : Name) × (cnf ≡ Some n) × (blame ≡ Some (call.Save, n)))
    → KeepsAllBut before after (λ x. cnf ≡ Some x) → AreSavedUpTo before after blame cnf lrat work
up_to_formula before after blame cnf lrat work (n, is, blamed) keeps = record {
  at_formula = λ name given differs blames. keeps_others before after cnf name given keeps;
  at_proof = λ name other proof given differs blames. absurd (differs (cc (is, given, blamed_once blame n name blamed blames)));
}

-- both are saved
pub are_saved : (between after : Option Held) (cnf lrat : Option Name) (work : Work) → ((name : Name) → cnf ≡ Some name → Holds between name (dimacs work.cnf))
    → KeepsAllBut between after (λ name. lrat ≡ Some name) → ((name : Name) → lrat ≡ Some name → Holds after name (lrat_text work.log)) → AreSaved after cnf lrat work
are_saved between after cnf lrat work formula keeps proof = record {
  formula = λ name given differs. holds_still between after (λ x. lrat ≡ Some x) name (dimacs work.cnf) differs keeps (formula name given);
  proof = proof;
}

-- ---- a save after another

pub keeps_more : (before after : Option Held) (P Q : Name → Type 0) → ((n : Name) → P n → Q n) → KeepsAllBut before after P → KeepsAllBut before after Q
keeps_more None after P Q f keeps = keeps
keeps_more (Some held) None P Q f keeps = absurd keeps
keeps_more (Some held) (Some after) P Q f keeps = λ other not_named. keeps other (λ p. not_named (f other p))

pub keeps_both : (a b c : Option Held) (P Q : Name → Type 0) → KeepsAllBut a b P → KeepsAllBut b c Q → KeepsAllBut a c (λ n. P n ⊎ Q n)
keeps_both None None c P Q one two = two
keeps_both None (Some b) c P Q one two = absurd (cc one)
keeps_both (Some a) None c P Q one two = absurd one
keeps_both (Some a) (Some b) None P Q one two = absurd two
keeps_both (Some a) (Some b) (Some c) P Q one two = λ other not_named. two other (λ q. not_named (inr q)) ∙ one other (λ p. not_named (inl p))

-- one error isn't two
two_errors : {T : Type 0} (e one other : Fault) → ¬ (one ≡ other) → IsErrOf {T = T} (Err e) one → IsErrOf {T = T} (Err e) other → ⊥
two_errors e one other differs is also = let first : e ≡ one = cc is in let second : e ≡ other = cc also in differs (sym first ∙ second)

-- the save of the formula failed
pub formula_fails : {T S : Type 0} (cnf lrat : Option Name) (work : Work) (a b : FilesSeen) (e : Fault) (r : Result S Fault) → IsErrAnd r (λ y. y ≡ e) → IsSaveFault e
    → (IsErrOf {T = T} (Err e) Save → Rose a.faults b.faults)
    → (IsErrOf {T = T} (Err e) Save → (n : Name) × (cnf ≡ Some n) × (b.blame ≡ Some (call.Save, n)))
    → (¬ IsErrOf {T = T} (Err e) Save → b.blame ≡ a.blame) → KeepsAllBut a.held b.held (λ n. cnf ≡ Some n) → a.faults ≤ b.faults
    → (¬ IsErrOf {T = T} (Err e) Memory → Called a b (save_if cnf (dimacs work.cnf))) → (IsErrOf {T = T} (Err e) Memory → CalledFirst a b (save_if cnf (dimacs work.cnf))) → Saves cnf lrat work a b r
formula_fails {T} {S} cnf lrat work a b e r is fault rose blamed quiet keeps rises called first = passed (λ z. Saves cnf lrat work a b z) r e is (record {
  fault = fault;
  saved = tt;
  up_to = λ same. up_to_formula a.held b.held b.blame cnf lrat work (blamed (same_error e _ same)) keeps;
  others = keeps_more a.held b.held _ _ (λ n named. inl named) keeps;
  rose = λ same. rose (same_error e _ same);
  blamed = λ same. let by = blamed (same_error e _ same) in (by.0, inl by.1, by.2);
  else_keeps_blame = λ other. quiet (λ same. other (same_error e _ same));
  never_falls = rises;
  called = tt;
  called_up_to = λ same. formula_up_to a b cnf lrat work (blamed (same_error e _ same)) (called (λ memory. two_errors e Save Memory (λ both. cc both) (same_error e _ same) memory));
  called_first = λ same. first_before a b (save_if cnf (dimacs work.cnf)) (save_if lrat (lrat_text work.log)) (first (same_error e _ same));
})

-- it stands, and the proof was saved or not
pub proof_follows : {T : Type 0} (cnf lrat : Option Name) (work : Work) (a b c : FilesSeen) (r : Result T Fault) → ((name : Name) → cnf ≡ Some name → Holds b.held name (dimacs work.cnf))
    → KeepsAllBut a.held b.held (λ n. cnf ≡ Some n) → b.blame ≡ a.blame → a.faults ≤ b.faults → IfErr r IsSaveFault → OnOk r ((n : Name) → lrat ≡ Some n → Holds c.held n (lrat_text work.log))
    → KeepsAllBut b.held c.held (λ n. lrat ≡ Some n) → (IsErrOf r Save → Rose b.faults c.faults)
    → (IsErrOf r Save → (n : Name) × (lrat ≡ Some n) × (c.blame ≡ Some (call.Save, n))) → (¬ IsErrOf r Save → c.blame ≡ b.blame) → b.faults ≤ c.faults
    → Called a b (save_if cnf (dimacs work.cnf)) → (¬ IsErrOf r Memory → Called b c (save_if lrat (lrat_text work.log))) → (IsErrOf r Memory → CalledFirst b c (save_if lrat (lrat_text work.log))) → Saves cnf lrat work a c r
proof_follows cnf lrat work a b c r formula kept unblamed rises fault saved keeps rose blamed quiet rises' called next first = record {
  fault = fault;
  saved = OnOk-weaker _ _ r (λ proof. are_saved b.held c.held cnf lrat work formula keeps proof) saved;
  up_to = λ is. let by = blamed is in up_to_proof a.held b.held c.held c.blame cnf lrat work by.0 formula keeps by.1 by.2;
  others = keeps_both a.held b.held c.held (λ n. cnf ≡ Some n) (λ n. lrat ≡ Some n) kept keeps;
  rose = λ is. rose_after a.faults b.faults c.faults rises rises' (rose is);
  blamed = λ is. let by = blamed is in (by.0, inr by.1, by.2);
  else_keeps_blame = λ other. quiet other ∙ unblamed;
  never_falls = omega (arith, rises, rises');
  called = OnOk-weaker _ _ r (λ more. called_then a b c (save_if cnf (dimacs work.cnf)) (save_if lrat (lrat_text work.log)) called more) (called_ok _ r next);
  called_up_to = λ is. proof_up_to a b c cnf lrat work called (blamed is) (next (λ memory. cc (is, memory)));
  called_first = λ is. first_after a b c (save_if cnf (dimacs work.cnf)) (save_if lrat (lrat_text work.log)) called (first is);
}
