-- Parts one after another, and files as parts.
use Rattle.std.proofs.Common.{◌≡◌, ◌≢◌, ℕ, zero, suc, ◌+◌, ◌*◌, ◌<◌, ◌≤◌, List, [], ◌∷◌, ◌++◌, length, map, take, get_or, refl, ap, ap₂, ◌∙◌, sym, subst, arith, append-nil, append_assoc, length-append, String, Vec, Result, Ok, Err, IsErrOf, string_bytes, Global}
use Rattle.std.specs.List.{AllByRecursion, IsSplitAt, concat, sum}
use Rattle.std.proofs.lemmas.List.{get_or-map, length-map, take-append-drop, take_more}
use Rattle.std.proofs.lemmas.List.Sums.{sum_by-cons, sum_by_more_le}
use Rattle.bd_files.specs.Shelf.{File, files_of}
use Rattle.bd_web.specs.Handed.{file_parts, names_in}

pub concat-append : (xs ys : List (List ℕ)) → concat (xs ++ ys) ≡ concat xs ++ concat ys
concat-append [] ys = refl
concat-append (x ∷ xs) ys =
    ap (λ zs. x ++ zs) (concat-append xs ys) ∙ sym (append_assoc x (concat xs) (concat ys))

map_push : {X Y : Type 0} (f : X → Y) (xs : List X) (x : X) → map f (xs ++ x ∷ []) ≡ map f xs ++ f x ∷ []
map_push f [] x = refl
map_push f (y ∷ xs) x = ap (λ ys. f y ∷ ys) (map_push f xs x)

-- the bytes of parts and of one more
pub concat_push : (parts : List (List ℕ)) (part : List ℕ) → concat (parts ++ part ∷ []) ≡ concat parts ++ part
concat_push [] part = append-nil part
concat_push (x ∷ parts) part =
    ap (λ bytes. x ++ bytes) (concat_push parts part) ∙ sym (append_assoc x (concat parts) part)

-- the length of parts together
pub length-concat : (parts : List (List ℕ)) → length (concat parts) ≡ sum (map length parts)
length-concat [] = refl
length-concat (part ∷ parts) =
    length-append part (concat parts)
    ∙ ap (λ n. length part + n) (length-concat parts)
    ∙ sym (sum_by-cons (λ x. x) (length part) (map length parts))

-- a part is longer than what is left of the bytes
pub too_short : (bytes lengths : List ℕ) (parts : List (List ℕ)) (rest : List ℕ) (i : ℕ) → bytes ≡ concat parts ++ rest → map length parts ≡ take i lengths → i < length lengths → length rest < get_or lengths i 0 → sum lengths ≢ length bytes
too_short bytes lengths parts rest i whole each within longer same =
    let a : length bytes ≡ length (concat parts) + length rest = ap length whole ∙ length-append (concat parts) rest in
    let b : length (concat parts) ≡ sum (take i lengths) = length-concat parts ∙ ap sum each in
    let c : sum (take i lengths) + get_or lengths i 0 ≤ sum lengths = sum_by_more_le (λ x. x) lengths i 0 within in
    omega (arith, a, b, c)

-- something is left of the bytes
pub left_over : (bytes lengths : List ℕ) (parts : List (List ℕ)) (rest : List ℕ) → bytes ≡ concat parts ++ rest → map length parts ≡ lengths → 0 < length rest → sum lengths ≢ length bytes
left_over bytes lengths parts rest whole each more same =
    let a : length bytes ≡ length (concat parts) + length rest = ap length whole ∙ length-append (concat parts) rest in
    let b : length (concat parts) ≡ sum lengths = length-concat parts ∙ ap sum each in
    omega (arith, a, b)

map_both : {X Y : Type 0} (f : X → Y) (xs ys : List X) → map f (xs ++ ys) ≡ map f xs ++ map f ys
map_both f [] ys = refl
map_both f (x ∷ xs) ys = ap (λ zs. f x ∷ zs) (map_both f xs ys)

-- the error of a result, and of a result of another type
abbrev err_or : {T E : Type 0} → E → Result T E → E
err_or d (Ok x) = d
err_or d (Err e) = e

pub same_error : {T U E : Type 0} (a b : E) → IsErrOf {T = T} {E = E} (Err a) b → IsErrOf {T = U} {E = E} (Err a) b
same_error a b is = ap Err (ap (err_or a) is)

-- what is split is both pieces
pub split_is : {X : Type 0} (xs front back : List X) (mid : ℕ) → IsSplitAt xs mid front back → xs ≡ front ++ back
split_is xs front back mid is =
    sym (take-append-drop mid xs) ∙ ap₂ (λ a b. a ++ b) (sym is.1) (sym is.2)

pub map_split : {X Y : Type 0} (f : X → Y) (xs front back : List X) → xs ≡ front ++ back → map f xs ≡ map f front ++ map f back
map_split f xs front back is = ap (map f) is ∙ map_both f front back

-- one part more, which was cut off the rest
pub cut_whole : {X : Type 0} (f : X → List ℕ) (bytes : List ℕ) (parts : List X) (part : X) (rest after : List ℕ) → bytes ≡ concat (map f parts) ++ rest → rest ≡ f part ++ after → bytes ≡ concat (map f (parts ++ part ∷ [])) ++ after
cut_whole f bytes parts part rest after whole cut =
    whole
    ∙ ap (λ r. concat (map f parts) ++ r) cut
    ∙ sym (append_assoc (concat (map f parts)) (f part) after)
    ∙ ap (λ c. c ++ after) (sym (concat_push (map f parts) (f part)) ∙ ap concat (sym (map_push f parts part)))

pub cut_each : {X : Type 0} (f : X → List ℕ) (lengths : List ℕ) (parts : List X) (part : X) (i : ℕ) → map length (map f parts) ≡ take i lengths → length (f part) ≡ get_or lengths i 0 → i < length lengths → map length (map f (parts ++ part ∷ [])) ≡ take (i + 1) lengths
cut_each f lengths parts part i each size within =
    ap (map length) (map_push f parts part)
    ∙ map_push length (map f parts) (f part)
    ∙ ap (λ ns. ns ++ length (f part) ∷ []) each
    ∙ ap (λ n. take i lengths ++ n ∷ []) size
    ∙ sym (take_more lengths i 0 within)

-- what holds of all holds of each
pub all_at : {X : Type 0} (f : X → List ℕ) (P : List ℕ → Type 0) (xs : List X) (i : ℕ) (d : X) → i < length xs → AllByRecursion P (map f xs) → P (f (get_or xs i d))
all_at f P [] i d lt all = absurd (omega arith)
all_at f P (x ∷ xs) zero d lt all = all.0
all_at f P (x ∷ xs) (suc i) d lt all = all_at f P xs i d (omega arith) all.1

-- and what holds of all names, of each
pub name_at : {X : Type 0} (f : X → List ℕ) (P : List ℕ → Type 0) (xs : List X) (i : ℕ) (d : X) → 2 * i < length xs → AllByRecursion P (names_in (map f xs)) → P (f (get_or xs (2 * i) d))
name_at f P [] i d lt all = absurd (omega arith)
name_at f P (x ∷ []) zero d lt all = all.0
name_at f P (x ∷ []) (suc i) d lt all = absurd (omega arith)
name_at f P (x ∷ y ∷ xs) zero d lt all = all.0
name_at f P (x ∷ y ∷ xs) (suc i) d lt all =
    let e : suc (suc (2 * i)) ≡ 2 * suc i = omega arith in
    subst (λ n. P (f (get_or (x ∷ y ∷ xs) n d))) e (name_at f P xs i d (omega arith) all.1)

-- one file more
pub file_parts_push : (files : List File) (file : File) → file_parts (files ++ file ∷ []) ≡ file_parts files ++ file.0 ∷ file.1 ∷ []
file_parts_push [] file = refl
file_parts_push (first ∷ files) file = ap (λ parts. first.0 ∷ first.1 ∷ parts) (file_parts_push files file)

-- two values more
pub take_two : {X : Type 0} (xs : List X) (i : ℕ) (d e : X) → 2 * i + 1 < length xs → take (2 * (i + 1)) xs ≡ take (2 * i) xs ++ get_or xs (2 * i) d ∷ get_or xs (2 * i + 1) e ∷ []
take_two xs i d e lt =
    let n : 2 * (i + 1) ≡ 2 * i + 1 + 1 = omega arith in
    ap (λ k. take k xs) n
    ∙ take_more xs (2 * i + 1) e lt
    ∙ ap (λ ys. ys ++ get_or xs (2 * i + 1) e ∷ []) (take_more xs (2 * i) d (omega arith))
    ∙ append_assoc (take (2 * i) xs) (get_or xs (2 * i) d ∷ []) (get_or xs (2 * i + 1) e ∷ [])

-- a file more of two parts more
file_parts_more : (held : List (String Global × Vec ℕ Global)) (file : String Global × Vec ℕ Global) → file_parts (files_of (held ++ file ∷ [])) ≡ file_parts (files_of held) ++ string_bytes file.0 ∷ file.1.items ∷ []
file_parts_more [] file = refl
file_parts_more (first ∷ held) file =
    ap (λ parts. string_bytes first.0 ∷ first.1.items ∷ parts) (file_parts_more held file)

pub files_more : {X : Type 0} (f : X → List ℕ) (held : List (String Global × Vec ℕ Global)) (file : String Global × Vec ℕ Global) (parts : List X) (i : ℕ) (d e : X) → 2 * i + 1 < length parts → file_parts (files_of held) ≡ take (2 * i) (map f parts) → string_bytes file.0 ≡ f (get_or parts (2 * i) d) → file.1.items ≡ f (get_or parts (2 * i + 1) e) → file_parts (files_of (held ++ file ∷ [])) ≡ take (2 * (i + 1)) (map f parts)
files_more f held file parts i d e lt so_far name bytes =
    let within : 2 * i + 1 < length (map f parts) = omega (arith, lt, length-map parts f) in
    file_parts_more held file
    ∙ ap (λ ps. ps ++ string_bytes file.0 ∷ file.1.items ∷ []) so_far
    ∙ ap₂ (λ a b. take (2 * i) (map f parts) ++ a ∷ b ∷ []) (name ∙ sym (get_or-map f parts (2 * i) d (f d) (omega (arith, lt)))) (bytes ∙ sym (get_or-map f parts (2 * i + 1) e (f e) lt))
    ∙ sym (take_two (map f parts) i (f d) (f e) within)

-- the parts of the first files and of one more
pub first_parts_more : (held : List (String Global × Vec ℕ Global)) (i : ℕ) (d : String Global × Vec ℕ Global) → i < length held → file_parts (files_of (take (i + 1) held)) ≡ file_parts (files_of (take i held)) ++ string_bytes (get_or held i d).0 ∷ (get_or held i d).1.items ∷ []
first_parts_more held i d lt =
    ap (λ files. file_parts (files_of files)) (take_more held i d lt) ∙ file_parts_more (take i held) (get_or held i d)

two_more : (parts : List (List ℕ)) (a b : List ℕ) → map length parts ++ length a ∷ length b ∷ [] ≡ map length (parts ++ a ∷ b ∷ [])
two_more [] a b = refl
two_more (part ∷ parts) a b = ap (λ ns. length part ∷ ns) (two_more parts a b)

-- the bytes of two parts that are added
pub two_bytes : (before : List ℕ) (parts : List (List ℕ)) (a b : List ℕ) → ((before ++ concat parts) ++ a) ++ b ≡ before ++ concat (parts ++ a ∷ b ∷ [])
two_bytes before parts a b =
    append_assoc (before ++ concat parts) a b
    ∙ append_assoc before (concat parts) (a ++ b)
    ∙ ap (λ bytes. before ++ (concat parts ++ bytes)) (ap (λ bytes. a ++ bytes) (sym (append-nil b)))
    ∙ ap (λ bytes. before ++ bytes) (sym (concat-append parts (a ∷ b ∷ [])))

pub two_lengths : (before : List ℕ) (parts : List (List ℕ)) (a b : List ℕ) → ((before ++ map length parts) ++ length a ∷ []) ++ length b ∷ [] ≡ before ++ map length (parts ++ a ∷ b ∷ [])
two_lengths before parts a b =
    append_assoc (before ++ map length parts) (length a ∷ []) (length b ∷ [])
    ∙ append_assoc before (map length parts) (length a ∷ length b ∷ [])
    ∙ ap (λ ns. before ++ ns) (two_more parts a b)

-- a file is added to those before it
pub bytes_added : (before first second : List ℕ) (files : List (String Global × Vec ℕ Global)) (i : ℕ) (item : String Global × Vec ℕ Global) (name bytes : List ℕ) → i < length files → item ≡ get_or files i item → name ≡ string_bytes item.0 → bytes ≡ item.1.items → first ≡ (before ++ concat (file_parts (files_of (take i files)))) ++ name → second ≡ first ++ bytes → second ≡ before ++ concat (file_parts (files_of (take (i + 1) files)))
bytes_added before first second files i item name bytes lt is name_is bytes_are one two =
    let parts = file_parts (files_of (take i files)) in
    two
    ∙ ap (λ b. b ++ bytes) one
    ∙ two_bytes before parts name bytes
    ∙ ap (λ ps. before ++ concat ps) (ap₂ (λ a b. parts ++ a ∷ b ∷ []) (name_is ∙ ap (λ (file : String Global × Vec ℕ Global). string_bytes file.0) is) (bytes_are ∙ ap (λ (file : String Global × Vec ℕ Global). file.1.items) is) ∙ sym (first_parts_more files i item lt))

pub lengths_added : (before first second : List ℕ) (files : List (String Global × Vec ℕ Global)) (i : ℕ) (item : String Global × Vec ℕ Global) (name bytes : List ℕ) → i < length files → item ≡ get_or files i item → name ≡ string_bytes item.0 → bytes ≡ item.1.items → first ≡ (before ++ map length (file_parts (files_of (take i files)))) ++ length name ∷ [] → second ≡ first ++ length bytes ∷ [] → second ≡ before ++ map length (file_parts (files_of (take (i + 1) files)))
lengths_added before first second files i item name bytes lt is name_is bytes_are one two =
    let parts = file_parts (files_of (take i files)) in
    two
    ∙ ap (λ b. b ++ length bytes ∷ []) one
    ∙ two_lengths before parts name bytes
    ∙ ap (λ ps. before ++ map length ps) (ap₂ (λ a b. parts ++ a ∷ b ∷ []) (name_is ∙ ap (λ (file : String Global × Vec ℕ Global). string_bytes file.0) is) (bytes_are ∙ ap (λ (file : String Global × Vec ℕ Global). file.1.items) is) ∙ sym (first_parts_more files i item lt))

-- files are an even number of parts
pub length-file_parts : (files : List File) → length (file_parts files) ≡ 2 * length files
length-file_parts [] = refl
length-file_parts (file ∷ files) = grind (arith, length-file_parts files)

pub ruleset parts = (concat-append, concat_push, length-concat, file_parts_push)
