-- What is left of the message after a challenge, and h from what is left, with any number of low variables. Assumes nothing.
use Rattle.std.specs.Prelude.{◌≡◌, List, [], ℕ, suc, ◌+◌ as ◌+ℕ◌, ◌^◌, ◌<◌, length, take, drop, get_or}
use Rattle.std.proofs.Common.{sym, ap, ap₂, ◌∙◌, arith, length-take, get_or-take, take-take, take_at}
use Rattle.algebra.specs.Ring.{Ring}
use Rattle.algebra.specs.Words.{PrimeField}
use Rattle.algebra.specs.WordLists.{to_words}
use Rattle.multilinear.specs.Polynomial.{poly}
use Rattle.multilinear.specs.Corners.{eq}
use Rattle.multilinear.specs.Rounds.{h}
use Rattle.multilinear.specs.Folding.{folded, length_folded, h_folded}
use Rattle.residue.specs.declared.Residue.{Residue}
use Rattle.steps.specs.Steps.{LeftAbove, left_of}
use Rattle.steps.specs.StepLaws.{length_left_of}
use Rattle.steps.specs.SentLaws.{h_halves}
use Rattle.base_steps.specs.RowSteps.{TakeResult}

-- what is left stands in the front of the work buffer
pub front_is : (𝓕 : PrimeField) (low i : ℕ) (w : Residue) (z r s : List ℕ) → LeftAbove 𝓕 (low +ℕ i) s → (v : Residue) (s' : List ℕ) → TakeResult 𝓕 low i w z r s v s'
    → take (2 ^ (low +ℕ i)) s' ≡ to_words 𝓕 (left_of 𝓕 (low +ℕ i) (get_or r i 0) s)
front_is 𝓕 low i w z r s 𝓐 v s' 𝓣 =
    ap (take (2 ^ (low +ℕ i))) 𝓣.left ∙ take_at _ (drop (2 ^ (low +ℕ i)) s) (2 ^ (low +ℕ i)) (length_left_of 𝓕 (low +ℕ i) (get_or r i 0) s 𝓐)

module _ (K : Ring) where
  infixl 65 ◌+◌
  infixl 65 ◌-◌
  infixl 70 ◌*◌
  open K use {R, ◌+◌, ◌*◌, ◌-◌, 𝟘, 𝟙, mul_assoc}

  -- h_(i+1), which sums over the low variables too, is eq of the variables above times h of what is left, in all its variables
  pub h_left : (low : ℕ) (m z r : List R) (i : ℕ) (X : R) → low +ℕ i < length z
      → eq K (drop (suc (low +ℕ i)) z) (drop (suc i) r) * h K 0 (folded K low m z r (suc i)) (take (suc (low +ℕ i)) z) [] (suc (low +ℕ i)) X
      ≡ h K low m z r (suc i) X
  h_left low m z r i X l =
      let n = low +ℕ i in
      let M = folded K low m z r (suc i) in
      let y = take (suc n) z in
      let E = eq K (drop (suc n) z) (drop (suc i) r) in
      let up : low +ℕ suc i ≡ suc n = omega arith in
      ap (λ (t : R). E * t)
      (h_halves K M y n X (length-take (suc n) z ∙ omega arith) (length_folded K low m z r (suc i) ∙ ap (λ e. 2 ^ e) up)
      ∙ ap₂ (λ (a : R) (s : List R). (a * X + (𝟙 - a) * (𝟙 - X)) * (poly K (take (2 ^ n) M) s + X * poly K (drop (2 ^ n) M) s)) (get_or-take (suc n) z n 𝟘 (omega arith)) (take-take n (suc n) z (omega arith)))
      ∙ sym (mul_assoc E _ _)
      ∙ sym (h_folded K low m z r i X l)
