-- The final check is that of v as it is read; what the sums leave; what the claims are lent. Assumes nothing.
use mathlib.Core.Path.{◌≡◌, sym, ap, ◌∙◌, subst}
use mathlib.Core.List.{List, [], ◌∷◌}
use Prim.Native.Nat.{ℕ, ◌+◌, ◌^◌, ◌≤◌, ◌<◌}
use native.Mathlib.Omega.{arith}
use lib.ListN.{length, take, drop, length-take, length-drop}
use lib.Pow.{pow_pos}
use Rattle.algebra.specs.Words.{PrimeField}
use Rattle.algebra.specs.WordLists.{low_take, low_drop, elements, length_elements}
use Rattle.multilinear.specs.Rounds.{final_sum}
use Rattle.basefold.specs.Layout.{final_at, carried}
use Rattle.basefold.specs.Checks.{final_check, first_failure, sums_from, sums, same}
use Rattle.residue.specs.Elements.{elem}
use Rattle.residue.specs.declared.Residue.{Residue}
use Rattle.layout.specs.BlockLaws.{carried_words}
use Rattle.claims.specs.Steps.{SumsResult, LowClaim, after_sums}
use Rattle.std.specs.Prelude.{Result, Ok}
use Rattle.verdict.specs.declared.Failure.{Failure}
use Rattle.base_checks.specs.Steps.{low_count, last_at, LastLent}
use Rattle.base_checks.specs.Laws.{last_is}
use Rattle.base_verify.specs.Steps.{ClaimsInput, ChecksInput}

module _ (𝓕 : PrimeField) where
  open 𝓕 use {field as F}
  open F use {ring as K}

  module _ {d low k : ℕ} {y : Residue} {z r o : List ℕ} (𝓒 : ClaimsInput 𝓕 d low k y z r o) where
    low_is : low_count z r ≡ low
    low_is = omega (arith, 𝓒.point, 𝓒.sums.challenges)

    -- v as it is read
    module _ {v : List ℕ} (ev : v ≡ take k (drop (final_at d) o)) where
      value_length : length v ≡ k
      value_length = ap length ev ∙ length-take k (drop (final_at d) o) ∙ omega (arith, 𝓒.value, length-drop (final_at d) o)

      pub last_lent : LastLent 𝓕 y v z r
      last_lent =
          record {
            claimed = 𝓒.sums.claim;
            fewer = omega (arith, 𝓒.point, 𝓒.sums.challenges);
            size = value_length ∙ 𝓒.words ∙ ap (λ m. 2 ^ m) (sym low_is);
            value = rw ev (low_take k (low_drop (final_at d) 𝓒.sums.opening));
            point = 𝓒.below;
            challenges = 𝓒.sums.low;
          }

      carried_is : carried F low (elements 𝓕 o) (length (elements 𝓕 r)) ≡ elements 𝓕 v
      carried_is = carried_words 𝓕 low d r o 𝓒.sums.challenges ∙ ap (elements 𝓕) (ap (λ m. take m (drop (final_at d) o)) (sym 𝓒.words) ∙ sym ev)

      pub last_check : last_at 𝓕 y v z r ∷ [] ≡ sums_from F low (elements 𝓕 o) (elements 𝓕 z) (elements 𝓕 r) 0 (elem 𝓕 y)
      last_check =
          ap (λ m. (final_check, same F (final_sum K m (elements 𝓕 v) (elements 𝓕 z) (elements 𝓕 r)) (elem 𝓕 y)) ∷ []) low_is
          ∙ sym (last_is F low (elements 𝓕 o) (elements 𝓕 z) (elements 𝓕 r) (elements 𝓕 v) (elem 𝓕 y) carried_is)

    -- the first failure of the sums and the final check, by what the loop of the sums answers
    pub result_is : (s : Result Residue Failure) → SumsResult 𝓕 d y r o s → after_sums 𝓕 low (elements 𝓕 o) (elements 𝓕 z) (elements 𝓕 r) s ≡ first_failure (sums F low (elements 𝓕 o) (elements 𝓕 z) (elements 𝓕 r) (elem 𝓕 y))
    result_is s 𝓢 =
        sym (ap (λ n. first_failure (sums_from F low (elements 𝓕 o) (elements 𝓕 z) (elements 𝓕 r) n (elem 𝓕 y))) (length_elements 𝓕 r ∙ 𝓒.sums.challenges) ∙ 𝓢.first low (elements 𝓕 z))

    -- the final check is lent what the sums are, with the claim that they leave
    pub last_input : (s : Result Residue Failure) (w : Residue) → s ≡ Ok w → LowClaim 𝓕 s → ClaimsInput 𝓕 d low k w z r o
    last_input s w e l =
        let 𝓘 = 𝓒.sums in
        record {
          sums = record { claim = subst (LowClaim 𝓕) e l; challenges = 𝓘.challenges; low = 𝓘.low; long = 𝓘.long; opening = 𝓘.opening };
          words = 𝓒.words;
          value = 𝓒.value;
          point = 𝓒.point;
          below = 𝓒.below;
        }

  pub claims_input : {d low k n : ℕ} {g t t' w z : List ℕ} {y : Residue} {r us o : List ℕ} → ChecksInput 𝓕 d low k n g t t' w z y r us o → ClaimsInput 𝓕 d low k y z r o
  claims_input {d} {low} {k} {n} {o = o} 𝓒 =
      let 𝓑 = 𝓒.blocks in
      let value : final_at d + k ≤ length o = omega (arith, 𝓑.opened, 𝓑.sizes.words) in
      let some : 0 < k = omega (arith, 𝓑.sizes.words, pow_pos low) in
      record {
        sums = record { claim = 𝓒.claim; challenges = 𝓑.challenges; low = 𝓑.below; long = omega arith; opening = 𝓑.opening };
        words = 𝓑.sizes.words;
        value = value;
        point = 𝓒.point;
        below = 𝓒.below;
      }
