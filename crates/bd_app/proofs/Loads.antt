-- What a fault at one of several loads says of all the files.
use Rattle.std.proofs.Common.{◌≡◌, zero, suc, ◌+◌, ◌<◌, ◌≤◌, ◌∙◌, ℕ, List, [], ◌∷◌, ◌++◌, length, take, refl, ap, append_assoc, sym, subst, arith, length-take, take_all}
use Rattle.std.specs.Option.{option_map}
use Rattle.std.specs.Prelude.{Option, Some, None, Result, Ok, Err, IfSome, IfErr, IsErrAnd}
use Rattle.bd_files.specs.Devices.{Blame, Held, IsLoaded}
use Rattle.bd_text.specs.declared.code.Code.{Code}
use Rattle.bd_typer.specs.Denotes.{premise_file}
use Rattle.bd_typer.specs.declared.premise.Premise.{Premise}
use Rattle.bd_typer.specs.declared.premise.Premise.TheVariants as premises
use Rattle.bd_typer.specs.declared.fault.Text.{Text}
use Rattle.bd_typer.specs.declared.fault.Text.TheVariants as text
use Rattle.bd_app.specs.Files.{AreShort, BlamesOneOf, DesignNames, File, HoldsShort, IsLong, IsShort, TextNames, design_files, loads, most_bytes, one_if, text_files}
use Rattle.bd_app.specs.Meaning.{Called, FilesSeen, IsTooLong}
use Rattle.bd_app.specs.Loading.{IsOneFault, IsOneLoad, IsOneLoadIf, Leaves}
use Rattle.bd_app.specs.Sources.{HoldSources, HoldsShortIf, Sources, TextSources}
use Rattle.bd_app.specs.Words.{Name}
use Rattle.bd_app.specs.declared.fault.Fault.{Fault}
use Rattle.bd_app.specs.declared.fault.Fault.TheVariants.{Refused, Load, Memory}
use Rattle.bd_app.specs.declared.loading.LoadFault.{LoadFault}
use Rattle.bd_app.specs.declared.loading.LoadFault.TheVariants as loading
use Rattle.bd_app.specs.inner.Faults.{ended_by_fault, load_fault}
use Rattle.bd_app.specs.inner.Loaded.{IsLoadFault, Loads}
use Rattle.bd_app.proofs.Calls.{called_then, called_whole, fails_before, fails_next, one_load}
use Rattle.bd_app.proofs.Results.{IfSome-both, IfSome-weaker, OnOk-weaker, no_error, passed, rose_after, same_error}
use Rattle.bd_model.specs.Limits.{longest_text}

-- ---- what was loaded of a file

held_bytes : (most : ℕ) (o : Option (List ℕ)) (bytes : List ℕ) → option_map (take (most + 1)) o ≡ Some bytes → (full : List ℕ) × (o ≡ Some full) × (bytes ≡ take (most + 1) full)
held_bytes most None bytes h = absurd (cc h)
held_bytes most (Some full) bytes h = (full, refl, cc h)

few_held : (most : ℕ) (full bytes : List ℕ) → bytes ≡ take (most + 1) full → length bytes ≤ most → bytes ≡ full
few_held most full bytes read few =
    let short : length full ≤ most + 1 = omega (arith, length-take (most + 1) full, ap length read) in
    read ∙ take_all (most + 1) full short

many_held : (most : ℕ) (full bytes : List ℕ) → bytes ≡ take (most + 1) full → most < length bytes → most < length full
many_held most full bytes read many = omega (arith, length-take (most + 1) full, ap length read)

-- few bytes are all that is held
pub loaded_short : (held : Option Held) (file : File) (bytes : List ℕ) → IsLoaded held file.1 (most_bytes file.0) bytes → length bytes ≤ most_bytes file.0 → IfSome held (λ h. HoldsShort h file bytes)
loaded_short None file bytes loaded few = tt
loaded_short (Some held) file bytes loaded few =
    let full = held_bytes (most_bytes file.0) (held file.1) bytes loaded in
    (full.1 ∙ ap Some (sym (few_held (most_bytes file.0) full.0 bytes full.2 few)), few)

-- too many bytes are held
pub long_held : (held : Option Held) (file : File) (bytes : List ℕ) → IsLoaded held file.1 (most_bytes file.0) bytes → most_bytes file.0 < length bytes → IfSome held (λ h. IsLong h file)
long_held None file bytes loaded many = tt
long_held (Some held) file bytes loaded many =
    let full = held_bytes (most_bytes file.0) (held file.1) bytes loaded in
    (full.0, full.1, many_held (most_bytes file.0) full.0 bytes full.2 many)

pub short_file : (held : Option Held) (file : File) (bytes : List ℕ) → IfSome held (λ h. HoldsShort h file bytes) → IfSome held (λ h. IsShort h file)
short_file held file bytes loaded = IfSome-weaker _ _ held (λ h short. (bytes, short)) loaded

-- ---- one load

loads_by : {T : Type 0} (t : Text) (n : Name) (a b : FilesSeen) (e : LoadFault) → b.held ≡ a.held → a.faults ≤ b.faults → Called a b (loads ((t, n) ∷ [])) → IsOneFault (t, n) a b e
    → Loads {T = T} ((t, n) ∷ []) a b (Err (load_fault e))
loads_by t n a b (loading.Failed f) same rises called (is, rose, blamed) = record {
  fault = tt;
  rose = λ is. rose;
  blamed = λ is. (n, (0, omega arith, refl), blamed);
  else_keeps_blame = λ other. absurd (other refl);
  held = same;
  never_falls = rises;
  called = tt;
  called_up_to = ((t, n), blamed, one_load a b (t, n) called);
}
loads_by {T} t n a b (loading.TooLong f) same rises called (is, long, blame) = subst (λ g. Loads {T = T} ((t, n) ∷ []) a b (Err (load_fault (loading.TooLong g)))) (sym is) (record {
  fault = IfSome-weaker _ _ a.held (λ h l. record {
    first = record { before = []; name = n; after = []; order = refl; short = tt; long = l };
    at_limit = refl;
    too_long = refl;
  }) long;
  rose = λ is. absurd (cc is);
  blamed = λ is. absurd (cc is);
  else_keeps_blame = λ other. blame;
  held = same;
  never_falls = rises;
  called = tt;
  called_up_to = (n, long, one_load a b (t, n) called);
})
loads_by t n a b loading.Memory same rises called blame = record {
  fault = tt;
  rose = λ is. absurd (cc is);
  blamed = λ is. absurd (cc is);
  else_keeps_blame = λ other. blame;
  held = same;
  never_falls = rises;
  called = tt;
  called_up_to = called_whole a b (loads ((t, n) ∷ [])) called;
}

-- the load of one file gave no bytes
pub one_fails : {T : Type 0} {t : Text} {n : Name} {a b : FilesSeen} {e : LoadFault} → IsOneLoad {T = T} (t, n) a b (Err e) → Loads {T = T} ((t, n) ∷ []) a b (Err (load_fault e))
one_fails {T} {t} {n} {a} {b} {e} l = loads_by t n a b e l.leaves.held l.leaves.never_falls l.called l.fault

-- nor did that of one that is named
pub named_fails : {T : Type 0} {t : Text} {name : Option Name} {a b : FilesSeen} {e : LoadFault} → IsOneLoadIf {T = T} t name a b (Err e) → Loads {T = T} (one_if t name) a b (Err (load_fault e))
named_fails {T} {t} {name} {a} {b} {e} l =
    let is = l.fault.1 in
    subst (λ o. Loads {T = T} (one_if t o) a b (Err (load_fault e))) (sym is)
    (loads_by t l.fault.0 a b e l.leaves.held l.leaves.never_falls (subst (λ o. Called a b (loads (one_if t o))) is l.called) l.fault.2)

-- files that gave their bytes
gave : {T : Type 0} {files : List File} {a b : FilesSeen} {x : T} → Leaves a b (Ok x) → Called a b (loads files) → Loads files a b (Ok x)
gave {T} {files} {a} {b} {x} l called = record {
  fault = tt;
  rose = λ is. absurd (no_error x _ is);
  blamed = λ is. absurd (no_error x _ is);
  else_keeps_blame = λ other. l.blame;
  held = l.held;
  never_falls = l.never_falls;
  called = called;
  called_up_to = tt;
}

pub one_loads : {T : Type 0} {t : Text} {n : Name} {a b : FilesSeen} {x : T} → IsOneLoad (t, n) a b (Ok x) → Loads ((t, n) ∷ []) a b (Ok x)
one_loads l = gave l.leaves l.called

pub named_loads : {T : Type 0} {t : Text} {name : Option Name} {a b : FilesSeen} {x : T} → IsOneLoadIf t name a b (Ok x) → Loads (one_if t name) a b (Ok x)
named_loads l = gave l.leaves l.called

-- ---- one file after another

-- after a file that isn't too long
long_after : (held : Held) (file : File) (files : List File) (t : Text) (offset : ℕ) (code : Code) → IsShort held file → IsTooLong held files t offset code → IsTooLong held (file ∷ files) t offset code
long_after held file files t offset code short long = record {
  first = record {
    before = file ∷ long.first.before;
    name = long.first.name;
    after = long.first.after;
    order = ap (λ fs. file ∷ fs) long.first.order;
    short = (short, long.first.short);
    long = long.first.long;
  };
  at_limit = long.at_limit;
  too_long = long.too_long;
}

-- before further files
long_before : (held : Held) (files more : List File) (t : Text) (offset : ℕ) (code : Code) → IsTooLong held files t offset code → IsTooLong held (files ++ more) t offset code
long_before held files more t offset code long = record {
  first = record {
    before = long.first.before;
    name = long.first.name;
    after = long.first.after ++ more;
    order = ap (λ fs. fs ++ more) long.first.order ∙ append_assoc long.first.before ((t, long.first.name) ∷ long.first.after) more;
    short = long.first.short;
    long = long.first.long;
  };
  at_limit = long.at_limit;
  too_long = long.too_long;
}

fault_after : (held : Option Held) (file : File) (files : List File) (e : Fault) → IfSome held (λ h. IsShort h file) → IsLoadFault held files e → IsLoadFault held (file ∷ files) e
fault_after held file files (Refused t offset code) short fault =
    IfSome-both _ _ _ held (λ h p q. long_after h file files t offset code p q) short fault
fault_after held file files Load short fault = tt
fault_after held file files Memory short fault = tt
fault_after held file files _ short fault = absurd fault

fault_before : (held : Option Held) (files more : List File) (e : Fault) → IsLoadFault held files e → IsLoadFault held (files ++ more) e
fault_before held files more (Refused t offset code) fault = IfSome-weaker _ _ held (λ h long. long_before h files more t offset code long) fault
fault_before held files more Load fault = tt
fault_before held files more Memory fault = tt
fault_before held files more _ fault = absurd fault

blames_after : (blame : Option Blame) (file : File) (files : List File) → BlamesOneOf blame files → BlamesOneOf blame (file ∷ files)
blames_after blame file files (name, (i, lt, at), is) = (name, (suc i, omega (arith, lt), at), is)

blames_before : (blame : Option Blame) (file : File) (files : List File) → BlamesOneOf blame (file ∷ []) → BlamesOneOf blame (file ∷ files)
blames_before blame file files (name, (zero, lt, at), is) = (name, (0, omega arith, at), is)
blames_before blame file files (name, (suc i, lt, at), is) = absurd (omega (arith, lt))

fault_next : {T : Type 0} (held : Option Held) (file : File) (files : List File) (r : Result T Fault) → IfSome held (λ h. IsShort h file) → IfErr r (IsLoadFault held files) → IfErr r (IsLoadFault held (file ∷ files))
fault_next held file files (Ok x) short fault = tt
fault_next held file files (Err e) short fault = fault_after held file files e short fault

-- the first load failed
pub first_fails : {T S : Type 0} {file : File} {more : List File} {a b : FilesSeen} {e : Fault} (r : Result S Fault) → IsErrAnd r (λ y. y ≡ e) → Loads {T = T} (file ∷ []) a b (Err e)
    → Loads (file ∷ more) a b r
first_fails {T} {S} {file} {more} {a} {b} {e} r is l = passed (λ z. Loads (file ∷ more) a b z) r e is (record {
  fault = fault_before a.held (file ∷ []) more e l.fault;
  rose = λ same. l.rose (same_error _ _ same);
  blamed = λ same. blames_before b.blame file more (l.blamed (same_error _ _ same));
  else_keeps_blame = λ other. l.else_keeps_blame (λ same. other (same_error _ _ same));
  held = l.held;
  never_falls = l.never_falls;
  called = tt;
  called_up_to = fails_before a b (file ∷ []) more (ended_by_fault e) l.called_up_to;
})

-- the last load failed
pub last_fails : {T S : Type 0} {files : List File} {a b : FilesSeen} {e : Fault} (r : Result S Fault) → IsErrAnd r (λ y. y ≡ e) → Loads {T = T} files a b (Err e) → Loads files a b r
last_fails {T} {S} {files} {a} {b} {e} r is l = passed (λ z. Loads files a b z) r e is (record {
  fault = l.fault;
  rose = λ same. l.rose (same_error _ _ same);
  blamed = λ same. l.blamed (same_error _ _ same);
  else_keeps_blame = λ other. l.else_keeps_blame (λ same. other (same_error _ _ same));
  held = l.held;
  never_falls = l.never_falls;
  called = tt;
  called_up_to = l.called_up_to;
})

-- the last load gave its bytes
pub last_loads : {T S : Type 0} {files : List File} {a b : FilesSeen} {x : T} (y : S) → Loads files a b (Ok x) → Loads files a b (Ok y)
last_loads {T} {S} {files} {a} {b} {x} y l = record {
  fault = tt;
  rose = λ is. absurd (no_error y _ is);
  blamed = λ is. absurd (no_error y _ is);
  else_keeps_blame = λ other. l.else_keeps_blame (no_error x _);
  held = l.held;
  never_falls = l.never_falls;
  called = l.called;
  called_up_to = tt;
}

-- the first load gave its bytes, and then the others were loaded
pub loads_next : {T S : Type 0} {file : File} {more : List File} {a b c : FilesSeen} {x : T} {r : Result S Fault} → IfSome a.held (λ h. IsShort h file) → Loads (file ∷ []) a b (Ok x) → Loads more b c r
    → Loads (file ∷ more) a c r
loads_next {T} {S} {file} {more} {a} {b} {c} {x} {r} short one others = record {
  fault = fault_next a.held file more r short (subst (λ h. IfErr r (IsLoadFault h more)) one.held others.fault);
  rose = λ is. rose_after a.faults b.faults c.faults one.never_falls others.never_falls (others.rose is);
  blamed = λ is. blames_after c.blame file more (others.blamed is);
  else_keeps_blame = λ other. others.else_keeps_blame other ∙ one.else_keeps_blame (no_error x _);
  held = others.held ∙ one.held;
  never_falls = omega (arith, one.never_falls, others.never_falls);
  called = OnOk-weaker _ _ r (λ more_called. called_then a b c (loads (file ∷ [])) (loads more) one.called more_called) others.called;
  called_up_to = fails_next a b c file more r short one.held one.called others.called_up_to;
}

-- ---- all of them

pub all_held : (held : Option Held) (names : DesignNames) (s : Sources) → s.premise ≡ names.premise → IfSome held (λ h. HoldsShort h (text.Pipe, names.pipe) s.pipe) → IfSome held (λ h. HoldsShort h (text.Spec, names.spec) s.spec)
    → IfSome held (λ h. HoldsShortIf h (premise_file names.premise) names.third s.third) → IfSome held (λ h. HoldSources h names s)
all_held None names s same a b c = tt
all_held (Some h) names s same a b c = record { pipe_held = a; spec_held = b; same_premise = same; third_held = c }

-- a third file is no proof
pub few_third : (premise : Premise) (bytes : Option (List ℕ)) → IfSome bytes (λ b. length b ≤ most_bytes (premise_file premise)) → IfSome bytes (λ b. length b ≤ longest_text)
few_third premises.Invariant bytes few = few
few_third premises.Start bytes few = few

pub short_if : (h : Held) (t : Text) (name : Option (List ℕ)) (bytes : Option (List ℕ)) → HoldsShortIf h t name bytes → AreShort h (one_if t name)
short_if h t None None held = tt
short_if h t None (Some bytes) held = absurd held
short_if h t (Some name) None held = absurd held
short_if h t (Some name) (Some bytes) held = ((bytes, held), tt)

-- files whose bytes are few are short
pub sources_short : (h : Held) (names : DesignNames) (s : Sources) → HoldSources h names s → AreShort h (design_files names)
sources_short h names s held = ((s.pipe, held.pipe_held), ((s.spec, held.spec_held), short_if h (premise_file names.premise) names.third s.third held.third_held))

pub text_short : (h : Held) (t : Text) (names : TextNames) (s : Sources) (bytes : List ℕ) → TextSources names h s → HoldsShort h (t, names.text) bytes → AreShort h (text_files t names)
text_short h t names s bytes held short =
    ((s.pipe, held.pipe_held), ((s.spec, held.spec_held), ((bytes, short), short_if h (premise_file names.design.premise) names.design.third s.third held.third_held)))
