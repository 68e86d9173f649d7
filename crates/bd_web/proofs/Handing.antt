-- What parts are handed in.
use Rattle.std.proofs.Common.{◌≡◌, ◌≢◌, ℕ, ◌+◌, ◌*◌, ◌%◌, List, ◌++◌, length, ap, ◌∙◌, sym, subst, arith, length-append}
use Rattle.std.specs.List.{AllByRecursion, sum}
use Rattle.std.specs.Str.{IsUtf8}
use Rattle.std.proofs.lemmas.List.{length-map}
use Rattle.bd_files.specs.Shelf.{File}
use Rattle.bd_web.specs.Handed.{AreHanded, AreParts, HasNoText, file_parts, names_in}
use Rattle.bd_web.proofs.Parts.{length-concat, length-file_parts}

-- parts are words and what files are
pub handed_of : (bytes lengths : List ℕ) (count : ℕ) (parts words rest : List (List ℕ)) (files : List File) → AreParts bytes lengths parts → parts ≡ words ++ rest → length words ≡ count → file_parts files ≡ rest → AreHanded bytes lengths count words files
handed_of bytes lengths count parts words rest files cut split counted is = record {
  parts = subst (λ ps. AreParts bytes lengths ps) (split ∙ ap (λ r. words ++ r) (sym is)) cut;
  counted = counted;
}

-- how many parts there are
count_of : (bytes lengths : List ℕ) (parts : List (List ℕ)) → AreParts bytes lengths parts → length lengths ≡ length parts
count_of bytes lengths parts cut = ap length cut.each ∙ length-map parts length

count_handed : (bytes lengths : List ℕ) (count : ℕ) (words : List (List ℕ)) (files : List File) → AreHanded bytes lengths count words files → length lengths ≡ count + 2 * length files
count_handed bytes lengths count words files handed =
    let a : length lengths ≡ length (words ++ file_parts files) = count_of bytes lengths (words ++ file_parts files) handed.parts in
    let b : length (words ++ file_parts files) ≡ length words + length (file_parts files) = length-append words (file_parts files) in
    omega (arith, a, b, handed.counted, length-file_parts files)

-- none are handed in where the lengths aren't those of the bytes
pub none_of_lengths : (bytes lengths : List ℕ) (count : ℕ) (words : List (List ℕ)) (files : List File) → sum lengths ≢ length bytes → ¬ AreHanded bytes lengths count words files
none_of_lengths bytes lengths count words files other handed =
    other (ap sum handed.parts.each ∙ sym (length-concat (words ++ file_parts files)) ∙ sym (ap length handed.parts.whole))

-- nor where an odd number of parts is left
pub none_of_odd : (bytes lengths : List ℕ) (count left : ℕ) (parts words : List (List ℕ)) (files : List File) → AreParts bytes lengths parts → length parts ≡ count + left → left % 2 ≡ 1 → ¬ AreHanded bytes lengths count words files
none_of_odd bytes lengths count left parts words files cut all odd handed =
    omega (arith, all, odd, count_of bytes lengths parts cut, count_handed bytes lengths count words files handed)

-- a word or a name isn't text
pub no_text_of : (bytes lengths : List ℕ) (count : ℕ) (parts words rest : List (List ℕ)) → AreParts bytes lengths parts → parts ≡ words ++ rest → length words ≡ count → ¬ (AllByRecursion IsUtf8 words × AllByRecursion IsUtf8 (names_in rest)) → HasNoText bytes lengths count
no_text_of bytes lengths count parts words rest cut split counted no_text = record {
  words = words;
  rest = rest;
  parts = subst (λ ps. AreParts bytes lengths ps) split cut;
  counted = counted;
  no_text = no_text;
}
