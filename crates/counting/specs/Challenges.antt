-- All lists of challenges, and how many of them fold a block into a codeword of level 0. Definitions only. Assumes nothing.
use mathlib.Core.List.{List, [], ◌∷◌, ◌++◌, map, flat_map, filter}
use Rattle.std.specs.Prelude.{ℕ, zero, suc, length, get_or}
use Rattle.algebra.specs.Field.{Field}
use Rattle.algebra.specs.Lists.{row}
use Rattle.algebra.specs.Words.{PrimeField}
use Rattle.foldable.specs.Code.{Code, Codeword, fold}

module _ {A : Type 0} where
  -- all lists of d elements of xs: of none, the empty list; of d + 1, each list of d with each element of xs behind it
  unfoldable pub lists : List A → ℕ → List (List A)
  lists xs zero = [] ∷ []
  lists xs (suc d) = flat_map (λ x. map (λ r. r ++ (x ∷ [])) (lists xs d)) xs

  -- how many pass a test
  abbrev pub count : {P : A → Type 0} → ((a : A) → Dec (P a)) → List A → ℕ
  count test xs = length (filter test xs)

-- all lists of d words below p: the challenges r_0, .., r_{d-1} that a call may be lent
abbrev pub challenge_words : ℕ → ℕ → List (List ℕ)
challenge_words p d = lists (row p (λ j. j)) d

-- the elements of a field whose words are below p: el 0, .., el (p - 1)
unfoldable pub all_elements : (𝓕 : PrimeField) → List 𝓕.field.ring.R
all_elements 𝓕 = row 𝓕.modulus 𝓕.words.el

-- the p^d lists of d challenges r_0, .., r_{d-1}
abbrev pub challenges : (𝓕 : PrimeField) → ℕ → List (List 𝓕.field.ring.R)
challenges 𝓕 d = lists (all_elements 𝓕) d

module _ (F : Field) (C : Code F) where
  open F use {ring as K}
  open K use {R, 𝟘}

  -- a block of level i folded to level 0: by r_{i-1}, .., r_0
  unfoldable pub folds : ℕ → List R → List R → List R
  folds zero r w = w
  folds (suc i) r w = folds i r (fold F C i (get_or r i 𝟘) w)

  -- how many of the lists rs of challenges fold the block w of level d into a codeword of level 0
  unfoldable pub lucky : ((v : List R) → Dec (Codeword F C 0 v)) → ℕ → List R → List (List R) → ℕ
  lucky base? d w rs = count (λ r. base? (folds d r w)) rs
