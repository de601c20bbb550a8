-- Bytes written one number after another. Assumes nothing.
use mathlib.Core.Path.{◌≡◌, refl, sym, ap, ◌∙◌}
use mathlib.Core.List.{List}
use Prim.Native.Nat.{ℕ, ◌+◌, ◌<◌, ◌≤◌}
use native.Mathlib.Omega.{arith}
use lib.ListN.{length, get_or, drop}
use Rattle.algebra.specs.Lists.{put}
use Rattle.algebra.specs.Puts.{put_none, length_put, put_behind}
use Rattle.numeral.specs.Numeral.{bytes}
use Rattle.cursor.specs.Numerals.{all_bytes}
use Rattle.cursor.proofs.Sizes.{bytes_next, length_next, bytes_end}

-- the first i words are written
pub record Writing (xs old : List ℕ) (at : ℕ) (out : List ℕ) (here i : ℕ) : Type 0 where
  pub few : i ≤ length xs
  pub long : length out ≡ length old
  pub ends : here + length (all_bytes (drop i xs)) ≡ at + length (all_bytes xs)
  pub list : put here (all_bytes (drop i xs)) out ≡ put at (all_bytes xs) old

pub writing_none : (xs old : List ℕ) (at : ℕ) → Writing xs old at old at 0
writing_none xs old at = record { few = omega arith; long = refl; ends = refl; list = refl }

module _ {xs old : List ℕ} {at : ℕ} {out : List ℕ} {here i : ℕ} (𝓦 : Writing xs old at out here i) where
  module _ (within : i < length xs) where
    pub writing_room : at + length (all_bytes xs) ≤ length old → here + length (bytes (get_or xs i 0)) ≤ length out
    writing_room fits = let l = length_next xs i within in let long = 𝓦.long in let ends = 𝓦.ends in omega arith

    pub writing_turn : at + length (all_bytes xs) ≤ length old → {next : ℕ} {new : List ℕ} → (next ≡ here + length (bytes (get_or xs i 0))) × (new ≡ put here (bytes (get_or xs i 0)) out)
        → Writing xs old at new next (i + 1)
    writing_turn fits {next} {new} e =
        let l = length_next xs i within in
        let ends = 𝓦.ends in
        let rest = all_bytes (drop (i + 1) xs) in
        record {
          few = omega arith;
          long = ap length e.1 ∙ length_put here (bytes (get_or xs i 0)) out (writing_room fits) ∙ 𝓦.long;
          ends = omega (arith, e.0);
          list =
              ap (put next rest) e.1
              ∙ put_behind here next (bytes (get_or xs i 0)) rest out e.0 (writing_room fits)
              ∙ ap (λ l. put here l out) (sym (bytes_next xs i within))
              ∙ 𝓦.list;
        }

  pub writing_end : length xs ≤ i → (here ≡ at + length (all_bytes xs)) × (out ≡ put at (all_bytes xs) old)
  writing_end h =
      let none = bytes_end xs i h in
      let ends = 𝓦.ends in
      (omega (arith, ap length none), put_none here out ∙ ap (λ l. put here l out) (sym none) ∙ 𝓦.list)
