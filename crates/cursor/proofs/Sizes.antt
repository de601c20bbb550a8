-- How many bytes words take, counted word by word. Assumes nothing.
use mathlib.Core.Path.{◌≡◌, ap, ◌∙◌}
use mathlib.Core.List.{List, [], ◌∷◌, ◌++◌, flat_map}
use Prim.Native.Nat.{ℕ, ◌+◌, ◌*◌, ◌<◌, ◌≤◌}
use native.Mathlib.Numerals.{add-one}
use native.Mathlib.Omega.{arith}
use lib.ListN.{length, get_or, drop, length-append, drop_of_length-le}
use lib.Seq.{drop-cons}
use Rattle.numeral.specs.Numeral.{longest, bytes}
use Rattle.cursor.specs.Numerals.{all_bytes}
use Rattle.cursor.specs.Spelt.{few_all}

module _ (xs : List ℕ) (i : ℕ) where
  pub bytes_next : i < length xs → all_bytes (drop i xs) ≡ bytes (get_or xs i 0) ++ all_bytes (drop (i + 1) xs)
  unfolding flat_map
  bytes_next h = let next : drop i xs ≡ get_or xs i 0 ∷ drop (i + 1) xs = rw add-one (drop-cons xs i 0 h) in ap all_bytes next

  pub length_next : i < length xs → length (all_bytes (drop i xs)) ≡ length (bytes (get_or xs i 0)) + length (all_bytes (drop (i + 1) xs))
  length_next h = ap length (bytes_next h) ∙ length-append (bytes (get_or xs i 0)) (all_bytes (drop (i + 1) xs))

  pub bytes_end : length xs ≤ i → all_bytes (drop i xs) ≡ []
  unfolding flat_map
  bytes_end h = ap all_bytes (drop_of_length-le xs h)

-- the bytes of the first i words are counted
pub record Sizing (xs : List ℕ) (total i : ℕ) : Type 0 where
  pub few : i ≤ length xs
  pub sum : total + length (all_bytes (drop i xs)) ≡ length (all_bytes xs)

pub sizing_none : (xs : List ℕ) → Sizing xs 0 0
sizing_none xs = record { few = omega arith; sum = omega arith }

module _ {xs : List ℕ} {total i : ℕ} (𝓢 : Sizing xs total i) where
  pub sizing_most : total ≤ longest * length xs
  sizing_most = let sum = 𝓢.sum in omega (arith, few_all xs)

  pub sizing_turn : {s : ℕ} → i < length xs → s ≡ length (bytes (get_or xs i 0)) → Sizing xs (total + s) (i + 1)
  sizing_turn within e = let sum = 𝓢.sum in record { few = omega arith; sum = omega (arith, length_next xs i within, e) }

  pub sizing_end : length xs ≤ i → total ≡ length (all_bytes xs)
  sizing_end h = let sum = 𝓢.sum in omega (arith, ap length (bytes_end xs i h))
