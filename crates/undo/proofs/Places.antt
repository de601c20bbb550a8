-- Lists by their places. Assumes nothing.
use mathlib.Core.Path.{◌≡◌, sym, ap, ◌∙◌}
use mathlib.Core.List.{List}
use Prim.Native.Nat.{ℕ, ◌+◌, ◌-◌, ◌≤◌}
use native.Mathlib.Omega.{arith}
use lib.ListN.{get_or, drop}
use lib.Seq.{get_or-drop}
use Rattle.algebra.specs.Words.{PrimeField}
use Rattle.algebra.specs.Lists.{row, length_row, get_or_row}
use Rattle.algebra.specs.WordLists.{Low}
use Rattle.residue.specs.ResidueLaws.{is_low}

-- lists that are the same from n on
pub get_or_behind : (n k : ℕ) (v w : List ℕ) → n ≤ k → drop n v ≡ drop n w → get_or v k 0 ≡ get_or w k 0
get_or_behind n k v w h e =
    let q : k ≡ n + (k - n) = omega arith in
    let there : (u : List ℕ) → get_or u k 0 ≡ get_or (drop n u) (k - n) 0 = λ u. ap (λ j. get_or u j 0) q ∙ sym (get_or-drop n u (k - n) 0) in
    there v ∙ ap (λ u. get_or u (k - n) 0) e ∙ sym (there w)

module _ (𝓕 : PrimeField) where
  open 𝓕 use {modulus as P, field as F, words as W}
  open F use {ring as K}
  open K use {R as Element}
  open W use {val as word}

  pub low_row : (n : ℕ) (f : ℕ → Element) → Low P (row n (λ j. word (f j)))
  low_row n f = record { low = λ k h. let e = length_row n (λ j. word (f j)) in is_low 𝓕 (f k) (get_or_row n (λ j. word (f j)) k 0 (omega arith)) }
