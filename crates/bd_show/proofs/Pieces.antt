-- Texts that are put together piece by piece.
use Rattle.std.proofs.Common.{◌≡◌, ◌++◌, ◌∙◌, ℕ, List, ap, append_assoc}

two : (x y z a b : List ℕ) → y ≡ x ++ a → z ≡ y ++ b → z ≡ x ++ (a ++ b)
two x y z a b first second = second ∙ ap (λ l. l ++ b) first ∙ append_assoc x a b

three : (w x y z a b c : List ℕ) → x ≡ w ++ a → y ≡ x ++ b → z ≡ y ++ c → z ≡ w ++ (a ++ (b ++ c))
three w x y z a b c first second third = two w x z a (b ++ c) first (two x y z b c second third)

pub seven : (p q r s t u v z a b c d e f g : List ℕ) → q ≡ p ++ a → r ≡ q ++ b → s ≡ r ++ c → t ≡ s ++ d → u ≡ t ++ e → v ≡ u ++ f → z ≡ v ++ g → z ≡ p ++ (a ++ (b ++ (c ++ (d ++ (e ++ (f ++ g))))))
seven p q r s t u v z a b c d e f g ea eb ec ed ee ef eg =
    three p q r z a b (c ++ (d ++ (e ++ (f ++ g)))) ea eb (three r s t z c d (e ++ (f ++ g)) ec ed (three t u v z e f g ee ef eg))
