-- What a page hands in and what comes back: bytes, and the lengths of the parts that they are.
-- Source: this project's own interface to the page that calls it.
use Rattle.std.specs.Prelude.{◌≡◌, ℕ, List, [], ◌∷◌, ◌++◌, length, map}
use Rattle.std.specs.List.{concat, AllByRecursion}
use Rattle.std.specs.Str.{IsUtf8}
use Rattle.bd_files.specs.Shelf.{File}

-- the bytes are these parts one after another, and the lengths are theirs
pub record AreParts (bytes lengths : List ℕ) (parts : List (List ℕ)) : Type 0 where
  pub whole : bytes ≡ concat parts
  pub each : lengths ≡ map length parts

-- files as parts: the name of each, and then its bytes
abbrev pub file_parts : List File → List (List ℕ)
file_parts [] = []
file_parts (file ∷ files) = file.0 ∷ file.1 ∷ file_parts files

-- so many words are handed in, and then files
pub record AreHanded (bytes lengths : List ℕ) (count : ℕ)
    (words : List (List ℕ)) (files : List File) : Type 0 where
  pub parts : AreParts bytes lengths (words ++ file_parts files)
  pub counted : length words ≡ count

-- where names and bytes take turns, the names
abbrev pub names_in : List (List ℕ) → List (List ℕ)
names_in [] = []
names_in (name ∷ []) = name ∷ []
names_in (name ∷ bytes ∷ parts) = name ∷ names_in parts

-- the bytes are parts, of which so many are words and the others files, and a word or a name isn't text
pub record HasNoText (bytes lengths : List ℕ) (count : ℕ) : Type 0 where
  pub words : List (List ℕ)
  pub rest : List (List ℕ)
  pub parts : AreParts bytes lengths (words ++ rest)
  pub counted : length words ≡ count
  pub no_text : ¬ (AllByRecursion IsUtf8 words × AllByRecursion IsUtf8 (names_in rest))

-- what comes back: what was put on the output and on the error output, and the files
abbrev pub back_parts : (out err : List ℕ) → List File → List (List ℕ)
back_parts out err files = out ∷ err ∷ file_parts files
