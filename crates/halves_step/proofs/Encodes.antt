-- Base blocks, lifted, are the codeword. Assumes nothing.
use mathlib.Core.Path.{◌≡◌, sym, ap, ◌∙◌}
use mathlib.Core.List.{List}
use Prim.Native.Nat.{ℕ, ◌*◌, ◌^◌}
use native.Mathlib.Nat.{mul_comm}
use lib.ListN.{length}
use Rattle.algebra.specs.Words.{PrimeField}
use Rattle.algebra.specs.WordLists.{low_words, elements, to_words, elements_words, length_elements}
use Rattle.foldable.specs.Code.{encode}
use Rattle.foldable.specs.Lift.{lift, lift_spread}
use Rattle.job.specs.Limits.{block_size}
use Rattle.parameters.specs.Lent.{lent}
use Rattle.code.specs.Encoding.{EncodeInput}
use Rattle.code.specs.Steps.{LiftInput}
use Rattle.code.specs.SpreadLaws.{length_spreaded, spreaded}

module _ (𝓕 : PrimeField) where
  open 𝓕 use {field as F}

  module _ (d : ℕ) (g t t' m out : List ℕ) (𝓔 : EncodeInput 𝓕 d g t t' m (length out)) where
    blocks : block_size (length g) d ≡ length m * length g
    blocks = mul_comm (length g) (2 ^ d) ∙ ap (λ k. k * length g) (sym 𝓔.message)

    pub lifting : (w : List ℕ) → w ≡ spreaded 𝓕 m g → LiftInput 𝓕 d g t t' w
    lifting w e =
        record { coding = 𝓔.coding; size = ap length e ∙ length_spreaded 𝓕 m g ∙ sym blocks; block = rw e (low_words 𝓕 _) }

    pub encoded : (w r : List ℕ) → w ≡ spreaded 𝓕 m g → r ≡ to_words 𝓕 (lift F (lent 𝓕 g t t') d (elements 𝓕 w)) → r ≡ to_words 𝓕 (encode F (lent 𝓕 g t t') d (elements 𝓕 m))
    encoded w r e q =
        q ∙ ap (λ v. to_words 𝓕 (lift F (lent 𝓕 g t t') d v)) (ap (elements 𝓕) e ∙ elements_words 𝓕 _)
        ∙ ap (to_words 𝓕) (lift_spread F (elements 𝓕 g) _ _ d 𝓔.coding.legal (elements 𝓕 m) (length_elements 𝓕 m ∙ 𝓔.message))
