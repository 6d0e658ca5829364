-- The three words of an answer that stand for a vector, and those of a vector. The comparison holds exactly where they are equal, since each word is
-- compared with its own.
use mathlib.Core.Path.{◌≡◌}
use mathlib.Core.Logic.{◌↔◌}
use mathlib.Core.Bool.{true, ◌&&◌}
use mathlib.Core.List.{List, [], ◌∷◌}
use Prim.Native.Nat.{ℕ, ◌+◌}
use lib.Dec.{T, eqb, eqb→eq}
use lib.Ieee.Bits.{is_true}
use lib.Ieee.Fits.{and_i, and_l, and_r, eq→eqb}
use Rattle.exact.specs.Numbers.{word_of}
use Rattle.exact.proofs.Basics.{passed}
use Rattle.words.specs.Words.{value_at}
use Rattle.vectors.specs.declared.Vector.{Vector}
use Rattle.compared.specs.Compared.{same_words}

-- three words, each against its own
three : (a b c u v w : ℕ) → T (eqb a u && eqb b v && eqb c w) ↔ ((a ≡ u) × (b ≡ v) × (c ≡ w))
three a b c u v w = (there, λ e. and_i (eqb a u && eqb b v) (eqb c w) (and_i (eqb a u) (eqb b v) (eq→eqb e.0) (eq→eqb e.1)) (eq→eqb e.2))
  where
    there : T (eqb a u && eqb b v && eqb c w) → (a ≡ u) × (b ≡ v) × (c ≡ w)
    there t =
        let l = and_l (eqb a u && eqb b v) (eqb c w) t in
        (eqb→eq a u (and_l (eqb a u) (eqb b v) l), eqb→eq b v (and_r (eqb a u) (eqb b v) l), eqb→eq c w (and_r (eqb a u && eqb b v) (eqb c w) t))

-- the three words of an answer from index `at` on, and those of a vector
abbrev pub words_at : (answer : List ℕ) → (at : ℕ) → List ℕ
words_at answer at = value_at 8 answer at ∷ value_at 8 answer (at + 8) ∷ value_at 8 answer (at + 16) ∷ []

abbrev pub vector_words : Vector → List ℕ
vector_words a = word_of a.x ∷ word_of a.y ∷ word_of a.z ∷ []

vector_words_lem : (answer : List ℕ) (at : ℕ) (a : Vector)
    → T (same_words answer at a) ↔ ((value_at 8 answer at ≡ word_of a.x) × (value_at 8 answer (at + 8) ≡ word_of a.y) × (value_at 8 answer (at + 16) ≡ word_of a.z))
vector_words_lem answer at a = three (value_at 8 answer at) (value_at 8 answer (at + 8)) (value_at 8 answer (at + 16)) (word_of a.x) (word_of a.y) (word_of a.z)

pub same_words_lem : (answer : List ℕ) (at : ℕ) (a : Vector) → (same_words answer at a ≡ true) ↔ (words_at answer at ≡ vector_words a)
same_words_lem answer at a = (there, back)
  where
    there : same_words answer at a ≡ true → words_at answer at ≡ vector_words a
    there h = let w = (vector_words_lem answer at a).0 (passed h) in cc

    back : words_at answer at ≡ vector_words a → same_words answer at a ≡ true
    back e = is_true (same_words answer at a) ((vector_words_lem answer at a).1 ((cc), (cc), (cc)))
