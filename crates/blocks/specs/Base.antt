-- A message cut into base messages, and their blocks. Definitions only. Assumes nothing.
use mathlib.Core.List.{List, flat_map}
use Rattle.std.specs.Prelude.{ℕ, ◌*◌, length, take, drop}
use Rattle.algebra.specs.Field.{Field}
use Rattle.algebra.specs.Lists.{row}
use Rattle.algebra.specs.Matrix.{times}
use Rattle.foldable.specs.Code.{Code}

-- the b base messages of k words that stand in m one behind the other: message j is at the places from k j on
unfoldable pub base_messages : {A : Type 0} → ℕ → ℕ → List A → List (List A)
base_messages k b m = row b (λ j. take k (drop (k * j) m))

module _ (F : Field) (C : Code F) where
  open F use {ring as K}
  open C use {n₀, G₀}

  -- each base message times the base matrix, one behind the other
  unfoldable pub base_blocks : ℕ → List K.R → List K.R
  base_blocks b m = flat_map (λ v. times K n₀ v G₀) (base_messages (length G₀) b m)
