-- With one word in a base block: v is one word, and the base check is v * g[j]. And the words of a block are those of its elements. Assumes nothing.
use Rattle.std.specs.Prelude.{◌≡◌, refl, Bool, true, false, cond, List, [], ◌∷◌, ℕ, ◌*◌, ◌^◌, ◌<◌, ltb, length, take, drop, get_or}
use Rattle.std.proofs.Common.{ap, ◌∙◌, drop-cons}
use Rattle.algebra.specs.Field.{Field}
use Rattle.algebra.specs.Vector.{get_or_multiple}
use Rattle.algebra.specs.Words.{PrimeField}
use Rattle.algebra.specs.WordLists.{elements, elements_take, elements_drop}
use Rattle.foldable.specs.Code.{one_row, encode}
use Rattle.foldable.specs.Unique.{encode_word}
use Rattle.basefold.specs.Layout.{final_at, block_at, block_of, carried}

module _ (F : Field) where
  infixl 70 ◌·◌
  open F use {ring as K}
  open K use {R, 𝟘, ◌*◌ as ◌·◌}

  -- what an opening carries is the one word v
  pub carried_plain : (o : List R) (d : ℕ) → final_at d < length o → carried F 0 o d ≡ get_or o (final_at d) 𝟘 ∷ []
  carried_plain o d h = ap (take 1) (drop-cons o (final_at d) 𝟘 h)

  -- word j of the codeword of v is v * g[j]
  pub base_plain : (g : List R) (T T' : ℕ → List R) (v : R) (j : ℕ) → get_or (encode F (one_row F g T T') 0 (v ∷ [])) j 𝟘 ≡ v · get_or g j 𝟘
  base_plain g T T' v j = ap (λ b. get_or b j 𝟘) (encode_word F (length g) g T T' refl v) ∙ get_or_multiple K v g j

-- a block of words, as elements
pub elements_block : (𝓕 : PrimeField) (n low d : ℕ) (w o : List ℕ) (i : ℕ) → elements 𝓕 (block_of n low d w o i) ≡ block_of n low d (elements 𝓕 w) (elements 𝓕 o) i
unfolding block_of
elements_block 𝓕 n low d w o i = go (ltb i d)
  where
    go : (t : Bool) → elements 𝓕 (cond t (take (n * 2 ^ i) (drop (block_at n low d i) o)) w) ≡ cond t (take (n * 2 ^ i) (drop (block_at n low d i) (elements 𝓕 o))) (elements 𝓕 w)
    go true = elements_take 𝓕 (n * 2 ^ i) (drop (block_at n low d i) o) ∙ ap (take (n * 2 ^ i)) (elements_drop 𝓕 (block_at n low d i) o)
    go false = refl
