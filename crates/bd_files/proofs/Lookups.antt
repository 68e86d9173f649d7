-- What is under a name after a file was put.
use Rattle.std.proofs.Common.{◌≡◌, ◌≢◌, ℕ, zero, suc, List, [], ◌∷◌, ◌++◌, map, set, length, get_or, Option, Some, None, Bool, true, false, ◌<◌, ◌≤◌, Result, Ok, Err, OnOk, IsErrOf, ap, ◌∙◌, subst, arith, refl}
use Rattle.std.specs.Str.{bytes_eq}
use Rattle.std.specs.List.{find, position, position_or_len}
use Rattle.std.specs.Option.{option_map}
use Rattle.std.specs.String.{string_bytes}
use Rattle.std.specs.declared.alloc.Global.{Global}
use Rattle.std.specs.declared.string.String.{String}
use Rattle.std.specs.declared.vec.Vec.{Vec}
use Rattle.std.proofs.lemmas.Bool.Decides.{nat_tests}
use Rattle.std.proofs.lemmas.List.{take_all}
use Rattle.std.proofs.lemmas.Slice.Eq.{bytes_eq-Decides}
use Rattle.bd_files.specs.declared.devices.FileCall.TheVariants.{Save}
use Rattle.bd_files.specs.declared.devices.SaveError.{SaveError}
use Rattle.bd_files.specs.declared.devices.SaveError.TheVariants.{Failed, Memory}
use Rattle.bd_files.specs.Shelf.{File, ShelfState, bytes_of, put_file, files_of, saved, failed, numbered, telling}

pub bytes_of-put_file : (files : List File) (name bytes : List ℕ) → bytes_of (put_file files name bytes) name ≡ Some bytes
bytes_of-put_file [] name bytes = grind (arith, bytes_eq-Decides name name)
bytes_of-put_file (file ∷ files) name bytes =
    grind (arith, bytes_eq-Decides file.0 name, bytes_of-put_file files name bytes)

pub bytes_of-put_file_other : (files : List File) (name bytes other : List ℕ) → other ≢ name → bytes_of (put_file files name bytes) other ≡ bytes_of files other
bytes_of-put_file_other [] name bytes other differs = grind (arith, bytes_eq-Decides name other)
bytes_of-put_file_other (file ∷ files) name bytes other differs =
    grind (arith, bytes_eq-Decides file.0 name, bytes_eq-Decides file.0 other, bytes_of-put_file_other files name bytes other differs)

-- a look-up among the files of a vector is a search in the vector
pub bytes_of-files_of : (held : List (String Global × Vec ℕ Global)) (name : List ℕ) → bytes_of (files_of held) name ≡ option_map (λ file. file.1.items) (find (λ file. bytes_eq (string_bytes file.0) name) held)
bytes_of-files_of [] name = refl
bytes_of-files_of (file ∷ held) name = grind (arith, bytes_of-files_of held name)

-- the place of the first file with a name, or how many files there are
abbrev pub place_in : List (String Global × Vec ℕ Global) → List ℕ → ℕ
place_in held name = position_or_len (λ file. bytes_eq (string_bytes file.0) name) held

-- a write at the first place of a name is a put of a file
pub files_of-set : (held : List (String Global × Vec ℕ Global)) (name : List ℕ) (i : ℕ) (file : String Global × Vec ℕ Global) (bytes : Vec ℕ Global) → i ≡ place_in held name → i < length held → file ≡ get_or held i file → files_of (set held i (file.0, bytes)) ≡ put_file (files_of held) name bytes.items
files_of-set [] name i file bytes at within is = absurd (omega arith)
files_of-set (first ∷ held) name zero file bytes at within is = grind arith
files_of-set (first ∷ held) name (suc i) file bytes at within is = grind (arith, files_of-set held name i file bytes)

-- a push of a file whose name no other has is a put
pub files_of_push : (held : List (String Global × Vec ℕ Global)) (name : String Global) (bytes : Vec ℕ Global) → length held ≤ place_in held (string_bytes name) → files_of (held ++ (name, bytes) ∷ []) ≡ put_file (files_of held) (string_bytes name) bytes.items
files_of_push [] name bytes at = refl
files_of_push (first ∷ held) name bytes at = grind (arith, files_of_push held name bytes)

-- so it is where a search for the name finds no place
pub files_of_push_absent : (held searched : List (String Global × Vec ℕ Global)) (name : String Global) (text : List ℕ) (bytes : Vec ℕ Global) → searched ≡ held → text ≡ string_bytes name → None ≡ position (λ file. bytes_eq (string_bytes file.0) text) searched → files_of (held ++ (name, bytes) ∷ []) ≡ put_file (files_of held) (string_bytes name) bytes.items
files_of_push_absent held searched name text bytes same is absent =
    let later : length searched ≤ place_in searched text = grind (arith, nat_tests) in
    files_of_push held name bytes (subst (λ (xs : List (String Global × Vec ℕ Global)). length xs ≤ place_in xs (string_bytes name)) same (subst (λ (t : List ℕ). length searched ≤ place_in searched t) is later))

-- a save leaves what is under every other name, whatever it answers
pub keeps_others : {T : Type 0} (result : Result T SaveError) (old new : ShelfState) (name bytes other : List ℕ) → OnOk result (new ≡ telling new.calls (saved old name bytes)) → (IsErrOf result Failed → new ≡ telling new.calls (failed old Save name)) → (IsErrOf result Memory → new ≡ telling new.calls (numbered old)) → other ≢ name → bytes_of new.held other ≡ bytes_of old.held other
keeps_others (Ok v) old new name bytes other ok fails memory differs =
    ap (λ (shelf : ShelfState). bytes_of shelf.held other) ok ∙ bytes_of-put_file_other old.held name bytes other differs
keeps_others (Err Failed) old new name bytes other ok fails memory differs =
    ap (λ (shelf : ShelfState). bytes_of shelf.held other) (fails refl)
keeps_others (Err Memory) old new name bytes other ok fails memory differs =
    ap (λ (shelf : ShelfState). bytes_of shelf.held other) (memory refl)

pub ruleset lookups = (bytes_of-put_file, bytes_of-put_file_other, bytes_of-files_of, take_all, files_of-set, files_of_push)
