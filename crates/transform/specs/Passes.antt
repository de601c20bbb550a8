-- The transform between a table and its coefficients in place: one pass a variable, in which right halves change by left ones. Assumes nothing.
use Rattle.std.specs.Prelude.{◌≡◌}
use Rattle.std.proofs.Math.Path.{refl, sym, ap, ap₂}
use Rattle.std.proofs.Common.{◌∙◌, arith, take-append-drop}
use mathlib.Core.List.{List, [], ◌++◌}
use Prim.Native.Nat.{ℕ, zero, suc, ◌^◌}
use Rattle.std.proofs.Math.Nat.{pow-suc}
use Rattle.std.proofs.Math.ListN.{length, take, drop, length-take, length-drop}
use Rattle.algebra.specs.Words.{PrimeField}
use Rattle.algebra.specs.Lists.{zip}
use Rattle.multilinear.specs.Table.{table, coefficients, table_back, coefficients_table}
use Rattle.transform.specs.declared.Way.{Way}
use Rattle.transform.specs.declared.Way.TheVariants.{ToCoefficients, ToTable}

module _ {A : Type 0} where
  -- the right half, by the left half of h elements
  unfoldable pub crossed : (A → A → A) → ℕ → List A → List A
  crossed f h t = take h t ++ zip f (take h t) (drop h t)

  -- g of each of c blocks of n elements
  unfoldable pub blocks : (List A → List A) → ℕ → ℕ → List A → List A
  blocks g n zero t = []
  blocks g n (suc c) t = g (take n t) ++ blocks g n c (drop n t)

  -- all d variables, the top one last
  unfoldable pub passes : (A → A → A) → ℕ → List A → List A
  passes f zero t = t
  passes f (suc d) t =
      let l = passes f d (take (2 ^ d) t) in
      let r = passes f d (drop (2 ^ d) t) in
      l ++ zip f l r

module _ (𝓕 : PrimeField) where
  infixl 65 ◌⊞◌
  infixl 65 ◌⊟◌
  open 𝓕 use {field as F}
  open F use {ring as K}
  open K use {R as Element, ◌+◌ as ◌⊞◌, ◌-◌ as ◌⊟◌}

  -- an element y of a right half, by the element x of the left one
  abbrev pub across : Way → Element → Element → Element
  across ToCoefficients x y = y ⊟ x
  across ToTable x y = x ⊞ y

  -- by passes a table becomes its coefficients, and a message its table
  pub passes_coefficients : (d : ℕ) (t : List Element) → passes (across ToCoefficients) d t ≡ coefficients K d t
  unfolding passes coefficients
  passes_coefficients zero t = refl
  passes_coefficients (suc d) t =
      ap₂ (λ (l r : List Element). l ++ zip (across ToCoefficients) l r) (passes_coefficients d (take (2 ^ d) t)) (passes_coefficients d (drop (2 ^ d) t))

  pub passes_table : (d : ℕ) (m : List Element) → length m ≡ 2 ^ d → passes (across ToTable) d m ≡ table K d m
  unfolding passes coefficients
  passes_table zero m e = sym (coefficients_table K 0 m e)
  passes_table (suc d) m e =
      let l = take (2 ^ d) m in
      let r = drop (2 ^ d) m in
      let p : length l ≡ 2 ^ d = simp length-take (omega (arith, pow-suc 2 d)) in
      let q : length r ≡ 2 ^ d = simp length-drop (omega (arith, pow-suc 2 d)) in
      ap₂ (λ (a b : List Element). a ++ zip ◌⊞◌ a b) (passes_table d l p) (passes_table d r q)
      ∙ sym (table_back K d l r p q)
      ∙ ap (table K (suc d)) (take-append-drop (2 ^ d) m)
