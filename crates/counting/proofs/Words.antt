-- The lists of challenges of a field are the lists of words below its modulus, each word for its element. Assumes nothing.
use Rattle.std.specs.Prelude.{◌≡◌}
use Rattle.std.proofs.Math.Path.{refl, sym, ap, ap₂}
use Rattle.std.proofs.Common.{◌∙◌}
use mathlib.Core.List.{List, [], ◌∷◌, ◌++◌, map, flat_map, map-map, map-append, map_congr_left}
use Prim.Native.Nat.{ℕ, zero, suc}
use Rattle.algebra.specs.Lists.{row, map_row}
use Rattle.algebra.specs.Words.{PrimeField}
use Rattle.algebra.specs.WordLists.{elements}
use Rattle.counting.specs.Challenges.{lists, challenge_words, all_elements, challenges}

module _ {A B : Type 0} (f : A → B) where
  -- each list with each element behind it
  behind_map : (rs : List (List A)) (xs : List A)
      → flat_map (λ y. map (λ r. r ++ (y ∷ [])) (map (map f) rs)) (map f xs) ≡ map (map f) (flat_map (λ x. map (λ r. r ++ (x ∷ [])) rs) xs)
  unfolding flat_map
  behind_map rs [] = refl
  behind_map rs (x ∷ xs) =
      ap₂ ◌++◌
      (map-map (λ r. r ++ (f x ∷ [])) (map f) rs ∙ map_congr_left {l = rs} (λ r m. sym (map-append f r (x ∷ []))) ∙ sym (map-map (map f) (λ r. r ++ (x ∷ [])) rs))
      (behind_map rs xs)
      ∙ sym (map-append (map f) (map (λ r. r ++ (x ∷ [])) rs) _)

  lists_map : (xs : List A) (d : ℕ) → lists (map f xs) d ≡ map (map f) (lists xs d)
  unfolding lists
  lists_map xs zero = refl
  lists_map xs (suc d) = ap (λ rs. flat_map (λ y. map (λ r. r ++ (y ∷ [])) rs) (map f xs)) (lists_map xs d) ∙ behind_map (lists xs d) xs

module _ (𝓕 : PrimeField) where
  open 𝓕 use {modulus, words}
  open words use {el}

  pub challenges_words : (d : ℕ) → challenges 𝓕 d ≡ map (elements 𝓕) (challenge_words modulus d)
  unfolding all_elements elements
  challenges_words d = ap (λ xs. lists xs d) (sym (map_row el modulus (λ j. j))) ∙ lists_map el (row modulus (λ j. j)) d
