-- THE FIRST PLACE where a test fails, and the search for it. Definitions only. Assumes nothing.
use Rattle.std.specs.Prelude.{◌≡◌, Bool, true, false, not, cond, List, ℕ, zero, suc, ◌<◌, min, ltb, eqb, length, get_or}

-- every place below n passes
abbrev pub AllPass : (ℕ → Bool) → ℕ → Type 0
AllPass passes n = (j : ℕ) → j < n → passes j ≡ true

-- k is the first of n places to fail: every place before it passes, and k does not
pub record First (passes : ℕ → Bool) (n k : ℕ) : Type 0 where
  pub within : k < n
  pub before : AllPass passes k
  pub failing : passes k ≡ false

-- the search from the front, n where nothing fails
unfoldable pub first_place : (ℕ → Bool) → ℕ → ℕ
first_place passes zero = 0
first_place passes (suc n) = cond (passes 0) (suc (first_place (λ k. passes (suc k)) n)) 0

-- in a list, and in the places that both of two lists have
abbrev pub place_of : (ℕ → Bool) → List ℕ → ℕ
place_of f xs = first_place (λ k. f (get_or xs k 0)) (length xs)

abbrev pub place_of₂ : (ℕ → ℕ → Bool) → List ℕ → List ℕ → ℕ
place_of₂ f xs ys = first_place (λ k. f (get_or xs k 0) (get_or ys k 0)) (min (length xs) (length ys))

-- the first word that is not below the bound
abbrev pub high_place : ℕ → List ℕ → ℕ
high_place bound ws = place_of (λ x. ltb x bound) ws

abbrev pub zero_place : List ℕ → ℕ
zero_place ws = place_of (λ x. not (eqb x 0)) ws

-- the first place where two lists have the same word
abbrev pub equal_place : List ℕ → List ℕ → ℕ
equal_place ws vs = place_of₂ (λ x y. not (eqb x y)) ws vs
