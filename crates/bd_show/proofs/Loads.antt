-- What loading one file after another says of all of them.
use Rattle.std.proofs.Common.{◌≡◌, ◌≤◌, ◌∙◌, ℕ, List, [], ◌∷◌, ◌++◌, refl, ap, append-nil, append_assoc, sym, subst, arith}
use Rattle.std.proofs.lemmas.List.{map-append}
use Rattle.std.specs.Prelude.{Option, Some, None, Result, Ok, Err, IfSome, IsErrAnd}
use Rattle.bd_files.specs.Devices.{Held, loading}
use Rattle.bd_files.specs.declared.devices.FileCall.TheVariants as call
use Rattle.bd_files.proofs.Called.{makes_none}
use Rattle.bd_typer.specs.declared.fault.Text.{Text}
use Rattle.bd_typer.specs.declared.fault.Text.TheVariants as text
use Rattle.bd_app.specs.Files.{AreShort, File, HoldsShort, IsLong, loads, most_bytes, one_if}
use Rattle.bd_app.specs.Loading.{IsOneFault, IsOneLoad, IsOneLoadIf, Leaves}
use Rattle.bd_app.specs.Meaning.{Called, CalledFirst, FilesSeen, LoadedUpTo}
use Rattle.bd_app.specs.Sources.{HoldsShortIf}
use Rattle.bd_app.specs.Words.{Name}
use Rattle.bd_app.specs.declared.loading.LoadFault.{LoadFault}
use Rattle.bd_app.specs.declared.loading.LoadFault.TheVariants.{Failed, TooLong, Memory}
use Rattle.bd_app.proofs.Calls.{called_then, short_both, up_to_first}
use Rattle.bd_app.proofs.Loads.{short_if}
use Rattle.bd_app.proofs.Results.{IfSome-all, IfSome-both, IfSome-weaker, passed, rose_after}
use Rattle.bd_show.specs.Files.{HoldTexts, Names, Texts, files_of, name_in, or_none}
use Rattle.bd_show.specs.Meaning.{AreLoaded, AreLoadedUpTo}
use Rattle.bd_show.specs.inner.Loaded.{IsFault, IsLoad}

-- ---- files that gave their bytes

-- these files were loaded one after another, and each gave its bytes
pub record Gave (files : List File) (a b : FilesSeen) : Type 0 where
  pub short : IfSome a.held (λ h. AreShort h files)
  pub blame : b.blame ≡ a.blame
  pub held : b.held ≡ a.held
  pub never_falls : a.faults ≤ b.faults
  pub called : Called a b (loads files)

pub gave_none : (a : FilesSeen) → Gave [] a a
gave_none a = record { short = IfSome-all _ a.held (λ h. tt); blame = refl; held = refl; never_falls = omega arith; called = makes_none a.calls }

pub gave_one : {T : Type 0} {a b : FilesSeen} {x : T} (file : File) (bytes : List ℕ) → IsOneLoad file a b (Ok x) → IfSome a.held (λ h. HoldsShort h file bytes) → Gave (file ∷ []) a b
gave_one {T} {a} {b} {x} file bytes one short = record {
  short = IfSome-weaker _ _ a.held (λ h s. ((bytes, s), tt)) short;
  blame = one.leaves.blame;
  held = one.leaves.held;
  never_falls = one.leaves.never_falls;
  called = one.called;
}

pub gave_if : {T : Type 0} {a b : FilesSeen} {x : T} (t : Text) (name : Option Name) (bytes : Option (List ℕ)) → IsOneLoadIf t name a b (Ok x) → IfSome a.held (λ h. HoldsShortIf h t name bytes) → Gave (one_if t name) a b
gave_if {T} {a} {b} {x} t name bytes one short = record {
  short = IfSome-weaker _ _ a.held (λ h s. short_if h t name bytes s) short;
  blame = one.leaves.blame;
  held = one.leaves.held;
  never_falls = one.leaves.never_falls;
  called = one.called;
}

loads-append : (some more : List File) → loads (some ++ more) ≡ loads some ++ loads more
loads-append some more = map-append (λ (file : File). loading file.1 (most_bytes file.0)) some more

pub gave_then : {some more : List File} {a b c : FilesSeen} → Gave some a b → Gave more b c → Gave (some ++ more) a c
gave_then {some} {more} {a} {b} {c} first next = record {
  short = IfSome-both (λ h. AreShort h some) (λ h. AreShort h more) (λ h. AreShort h (some ++ more)) a.held (λ h s m. short_both h some more s m) first.short
      (subst (λ o. IfSome o (λ h. AreShort h more)) first.held next.short);
  blame = next.blame ∙ first.blame;
  held = next.held ∙ first.held;
  never_falls = omega (arith, first.never_falls, next.never_falls);
  called = subst (λ cs. Called a c cs) (sym (loads-append some more)) (called_then a b c (loads some) (loads more) first.called next.called);
}

-- what holds of what is held after loads holds before them
pub back : (P : Held → Type 0) {files : List File} {a b : FilesSeen} → Gave files a b → IfSome b.held P → IfSome a.held P
back P gave h = subst (λ o. IfSome o P) gave.held h

-- ---- the order of the files

-- the files of a design, those of a case and of a proof, and all that stand before a completion function
abbrev pub machines : Names → List File
machines names = (text.Pipe, names.pipe) ∷ (text.Spec, names.spec) ∷ []

abbrev pub texts_on : Names → List File
texts_on names = one_if text.Case names.case ++ one_if text.Proof names.proof

abbrev pub before_comp : Names → List File
before_comp names = (machines names ++ texts_on names) ++ one_if text.Inv names.inv

-- what stands after a case, and after a specification
abbrev pub after_case : Names → List File
after_case names = one_if text.Proof names.proof ++ (one_if text.Inv names.inv ++ one_if text.Comp names.comp)

abbrev pub after_spec : Names → List File
after_spec names = one_if text.Case names.case ++ after_case names

pub inv_order : (names : Names) → files_of names ≡ (machines names ++ texts_on names) ++ (one_if text.Inv names.inv ++ one_if text.Comp names.comp)
inv_order names =
    ap (λ files. machines names ++ files) (sym (append_assoc (one_if text.Case names.case) (one_if text.Proof names.proof) (one_if text.Inv names.inv ++ one_if text.Comp names.comp)))

pub all_order : (names : Names) → files_of names ≡ before_comp names ++ one_if text.Comp names.comp
all_order names = inv_order names ∙ sym (append_assoc (machines names ++ texts_on names) (one_if text.Inv names.inv) (one_if text.Comp names.comp))

pub comp_order : (names : Names) → files_of names ≡ before_comp names ++ (one_if text.Comp names.comp ++ [])
comp_order names = all_order names ∙ ap (λ files. before_comp names ++ files) (sym (append-nil (one_if text.Comp names.comp)))

-- ---- a file that gave none

module _ (names : Names) (done rest : List File) (t : Text) (n : Name) (a b c : FilesSeen) where
  up_to : files_of names ≡ done ++ (t, n) ∷ rest → n ≡ name_in names t → Gave done a b → Called b c (loads ((t, n) ∷ [])) → AreLoadedUpTo names a c t
  up_to order named gave called = subst (λ (m : Name). LoadedUpTo a c (files_of names) (t, m)) named (record {
    first = done;
    rest = rest;
    order = order;
    short = gave.short;
    called = subst (λ cs. Called a c cs) (sym (loads-append done ((t, n) ∷ []))) (called_then a b c (loads done) (loads ((t, n) ∷ [])) gave.called called);
  })

  fault_after : (e : LoadFault) → files_of names ≡ done ++ (t, n) ∷ rest → n ≡ name_in names t → Gave done a b → b.faults ≤ c.faults → Called b c (loads ((t, n) ∷ [])) → IsOneFault (t, n) b c e
      → IsFault names a c e
  fault_after (Failed f) order named gave rises called (same, rose, blamed) =
      subst (λ g. IsFault names a c (Failed g)) (sym same)
      (rose_after a.faults b.faults c.faults gave.never_falls rises rose, subst (λ (m : Name). c.blame ≡ Some (call.Load, m)) named blamed, up_to order named gave called)
  fault_after (TooLong f) order named gave rises called (same, long, blame) =
      subst (λ g. IsFault names a c (TooLong g)) (sym same) (
        IfSome-both (λ h. AreShort h done) (λ h. IsLong h (t, n)) _ a.held (λ h s l. record { before = done; name = n; after = rest; order = order; short = s; long = l }) gave.short
            (subst (λ o. IfSome o (λ h. IsLong h (t, n))) gave.held long),
        blame ∙ gave.blame,
        up_to order named gave called,
      )
  fault_after Memory order named gave rises called blame = (blame ∙ gave.blame, up_to_first (up_to order named gave called))

-- the load of a file that gave no bytes, after others
pub one_fails : {T S : Type 0} {a b c : FilesSeen} {e : LoadFault} (names : Names) (done rest : List File) (t : Text) (n : Name) (r : Result S LoadFault) → files_of names ≡ done ++ (t, n) ∷ rest
    → n ≡ name_in names t → Gave done a b → IsErrAnd r (λ y. y ≡ e) → IsOneLoad {T = T} (t, n) b c (Err e) → IsLoad names a c r
one_fails {T} {S} {a} {b} {c} {e} names done rest t n r order named gave is one = passed (λ z. IsLoad names a c z) r e is (record {
  fault = fault_after names done rest t n a b c e order named gave one.leaves.never_falls one.called one.fault;
  leaves = record { blame = tt; held = one.leaves.held ∙ gave.held; never_falls = omega (arith, gave.never_falls, one.leaves.never_falls) };
  called = tt;
})

-- the same of a file that is named
pub named_fails : {T S : Type 0} {a b c : FilesSeen} {e : LoadFault} (names : Names) (done rest : List File) (t : Text) (name : Option Name) (r : Result S LoadFault)
    → files_of names ≡ done ++ (one_if t name ++ rest) → or_none name ≡ name_in names t → Gave done a b → IsErrAnd r (λ y. y ≡ e) → IsOneLoadIf {T = T} t name b c (Err e) → IsLoad names a c r
named_fails {T} {S} {a} {b} {c} {e} names done rest t name r order named gave is one =
    let n = one.fault.0 in
    let given : name ≡ Some n = one.fault.1 in
    passed (λ z. IsLoad names a c z) r e is (record {
      fault = fault_after names done rest t n a b c e (order ∙ ap (λ o. done ++ (one_if t o ++ rest)) given) (sym (ap or_none given) ∙ named) gave one.leaves.never_falls
          (subst (λ o. Called b c (loads (one_if t o))) given one.called) one.fault.2;
      leaves = record { blame = tt; held = one.leaves.held ∙ gave.held; never_falls = omega (arith, gave.never_falls, one.leaves.never_falls) };
      called = tt;
    })

-- ---- all of them

pub all_loaded : {T : Type 0} {done : List File} {a b : FilesSeen} (names : Names) (x : T) → files_of names ≡ done → Gave done a b → IsLoad names a b (Ok x)
all_loaded {T} {done} {a} {b} names x order gave = record {
  fault = tt;
  leaves = record { blame = gave.blame; held = gave.held; never_falls = gave.never_falls };
  called = subst (λ files. Called a b (loads files)) (sym order) gave.called;
}

pub all_held : (held : Option Held) (names : Names) (t : Texts) → IfSome held (λ h. HoldsShort h (text.Pipe, names.pipe) t.pipe) → IfSome held (λ h. HoldsShort h (text.Spec, names.spec) t.spec)
    → IfSome held (λ h. HoldsShortIf h text.Case names.case t.case) → IfSome held (λ h. HoldsShortIf h text.Proof names.proof t.proof) → IfSome held (λ h. HoldsShortIf h text.Inv names.inv t.inv)
    → IfSome held (λ h. HoldsShortIf h text.Comp names.comp t.comp) → IfSome held (λ h. HoldTexts h names t)
all_held None names t p s c q i k = tt
all_held (Some h) names t p s c q i k = record { pipe = p; spec = s; case = c; proof = q; inv = i; comp = k }

-- where a file gave no bytes, the loads are some of all
pub fault_first : (names : Names) (a b : FilesSeen) (e : LoadFault) → IsFault names a b e → CalledFirst a b (loads (files_of names))
fault_first names a b (Failed f) (rose, blamed, up) = up_to_first up
fault_first names a b (TooLong f) (long, blame, up) = up_to_first up
fault_first names a b Memory (blame, first) = first
