-- The final check, by the polynomial of v and eq. Assumes nothing.
use mathlib.Core.Path.{◌≡◌, sym, ap, ap₂, ◌∙◌}
use mathlib.Core.Bool.{Bool, true, false, not}
use mathlib.Core.List.{List, [], ◌∷◌, ◌++◌}
use mathlib.Core.Option.{none, some}
use Prim.Native.Nat.{ℕ, ◌-◌, ◌^◌, ◌≤◌}
use native.Mathlib.Omega.{arith}
use lib.Dec.{eqb}
use lib.ListN.{length, take, drop, length-take, length-drop, take-append-drop}
use lib.Seq.{take_all}
use Rattle.algebra.specs.Flags.{passes, fails}
use Rattle.algebra.specs.Words.{PrimeField}
use Rattle.algebra.specs.WordLists.{Low as LowWords, low_take, low_drop, elements, length_elements, elements_append}
use Rattle.multilinear.specs.Polynomial.{poly}
use Rattle.multilinear.specs.Corners.{eq}
use Rattle.multilinear.specs.Rounds.{final_sum}
use Rattle.basefold.specs.Checks.{final_check, first_failure}
use Rattle.basefold.specs.CheckLaws.{first_holds, first_fails, first_none}
use Rattle.residue.specs.Elements.{elem}
use Rattle.residue.specs.ResidueLaws.{stands}
use Rattle.residue.specs.declared.Residue.{Residue}
use Rattle.polynomial.specs.Lent.{EvaluateInput}
use Rattle.verdict.specs.Equality.{its_word, same_words}
use Rattle.blocks.specs.Low.{final_sum_low}
use Rattle.base_checks.specs.Steps.{low_count, last_at, LastLent}

module _ (𝓕 : PrimeField) where
  infixl 70 ◌⊠◌
  open 𝓕 use {modulus as P, field as F, words as W}
  open F use {ring as K}
  open K use {R as Element, ◌*◌ as ◌⊠◌}
  open W use {el, val as word}

  module _ (claim : Residue) (v z r : List ℕ) (𝓛 : LastLent 𝓕 claim v z r) where
    abbrev low : ℕ
    low = low_count z r

    -- the low variables of the point and the others, as they are lent
    abbrev lower : List ℕ
    lower = take (low - 0) z

    abbrev upper : List ℕ
    upper = take (length z - low) (drop low z)

    lower_is : lower ≡ take low z
    lower_is = let e : low - 0 ≡ low = omega arith in ap (λ n. take n z) e

    length_lower : length lower ≡ low
    length_lower = length-take (low - 0) z ∙ omega arith

    upper_is : upper ≡ drop low z
    upper_is = take_all (length z - low) (drop low z) (omega (arith, length-drop low z))

    -- v is lent as a polynomial of any part of the point that has as many variables
    pub value_lent : (from to : ℕ) → to ≤ length z → to - from ≡ low → EvaluateInput 𝓕 v (take (to - from) (drop from z))
    value_lent from to within e =
        let long : length (take (to - from) (drop from z)) ≡ low = length-take (to - from) (drop from z) ∙ omega (arith, length-drop from z) in
        record { size = 𝓛.size ∙ ap (λ n. 2 ^ n) (sym long); message = 𝓛.value; point = low_take (to - from) (low_drop from 𝓛.point) }

    pub eq_lent : (LowWords P upper) × (LowWords P r) × (length r ≡ length upper)
    eq_lent =
        (low_take (length z - low) (low_drop low 𝓛.point), 𝓛.challenges, sym (ap length upper_is ∙ length-drop low z ∙ omega (arith, 𝓛.fewer)))

    -- f is the polynomial's value, e is eq, p their product, and b says whether p is the claim
    module _ (f e p : Residue) (b : Bool) (ef : f.0 ≡ word (poly K (elements 𝓕 v) (elements 𝓕 lower))) (ee : e.0 ≡ word (eq K (elements 𝓕 upper) (elements 𝓕 r)))
        (ep : p.0 ≡ word (elem 𝓕 f ⊠ elem 𝓕 e)) (eb : b ≡ eqb p.0 claim.0) where
      product_is : elem 𝓕 f ⊠ elem 𝓕 e ≡ final_sum K low (elements 𝓕 v) (elements 𝓕 z) (elements 𝓕 r)
      product_is =
          ap₂ (λ x y. x ⊠ y) (stands 𝓕 _ ef) (stands 𝓕 _ ee ∙ ap (λ l. eq K (elements 𝓕 l) (elements 𝓕 r)) upper_is)
          ∙ sym (final_sum_low K low (elements 𝓕 v) (elements 𝓕 lower) (elements 𝓕 (drop low z)) (elements 𝓕 r) (length_elements 𝓕 lower ∙ length_lower))
          ∙ ap (λ l. final_sum K low (elements 𝓕 v) l (elements 𝓕 r)) (sym (elements_append 𝓕 lower (drop low z)) ∙ ap (elements 𝓕) (ap (λ l. l ++ drop low z) lower_is ∙ take-append-drop low z))

      test_is : b ≡ (last_at 𝓕 claim v z r).1
      test_is = eb ∙ same_words 𝓕 _ _ (ep ∙ ap word product_is) (its_word 𝓕 claim.0 𝓛.claimed)

      pub final_fails : not b ≡ true → some final_check ≡ first_failure (last_at 𝓕 claim v z r ∷ [])
      final_fails h = sym (first_fails final_check _ _ (fails test_is h))

      pub final_holds : not b ≡ false → none ≡ first_failure (last_at 𝓕 claim v z r ∷ [])
      final_holds h = sym (first_holds final_check _ _ (passes test_is h) ∙ first_none)
