-- The loop over a block in loose words: both halves become their sums with multiples of the right one. Assumes nothing.
use mathlib.Core.Path.{◌≡◌, sym, ap, ap₂, ◌∙◌}
use mathlib.Core.List.{List, map-append}
use Prim.Native.Nat.{ℕ, ◌+◌, ◌<◌, ◌≤◌}
use native.Mathlib.Omega.{arith}
use lib.ListN.{length, take, drop, get_or, set, length-drop, length-map}
use lib.Seq.{length-take-le}
use Rattle.algebra.specs.Vector.{vectors, length_butterfly, get_or_butterfly, get_or_multiple}
use Rattle.algebra.specs.Paired.{Paired, paired_none, paired_length, paired_left, paired_right, paired_turn, paired_end}
use Rattle.algebra.specs.UnitLaws.{done, undone_word_lem}
use Rattle.algebra.specs.Words.{PrimeField}
use Rattle.algebra.specs.WordLaws.{same_word}
use Rattle.algebra.specs.WordLists.{Low, low_set, elements, elements_set, length_elements, get_or_elements}
use Rattle.foldable.specs.Sweep.{across}
use Rattle.passes.specs.Steps.{Scaled, SweepInput}

module _ (𝓕 : PrimeField) where
  infixl 65 ◌⊞◌
  infixl 70 ◌⊠◌
  infixl 66 ◌⊕◌
  infixl 70 ◌⊙◌
  infixr 71 ◌⊛◌
  open 𝓕 use {modulus as P, field as F, words as W}
  open F use {ring as K}
  open K use {R as Element, 𝟘, 𝟙, ◌+◌ as ◌⊞◌, ◌*◌ as ◌⊠◌}
  open W use {el, val as word}
  open vectors K use {◌⊕◌, ◌⊙◌, ◌⊛◌}

  -- a loose sum with a product comes out divided by k, and a loose word is made ready as a factor
  abbrev pub Sum : ℕ → ℕ → ℕ → ℕ → ℕ → Type 0
  Sum k l t r a = (a < P + P) × (word (el a ⊠ el k) ≡ word (el l ⊞ el t ⊠ el r))

  abbrev pub Ready : ℕ → ℕ → ℕ → Type 0
  Ready m w r = (r < m) × (word (el r) ≡ word (el w))

  module _ (k : ℕ) (u : Element) (unit : el k ⊠ u ≡ 𝟙) (t t' o : List ℕ) where
    abbrev l : List Element
    l = take (length (elements 𝓕 t)) (elements 𝓕 o)

    abbrev r : List Element
    r = drop (length (elements 𝓕 t)) (elements 𝓕 o)

    -- a half as it will be
    abbrev new : List ℕ → List Element
    new s = u ⊛ (l ⊕ elements 𝓕 s ⊙ r)

    -- before turn i
    pub record CrossedTo (i : ℕ) (out : List ℕ) : Type 0 where
      pub loose : Low (P + P) out
      pub pairs : Paired i (new t) (new t') l r (elements 𝓕 out)

    module _ (𝓒 : SweepInput 𝓕 1 t t' o) where
      lt : length (elements 𝓕 t) ≡ length t
      lt = length_elements 𝓕 t

      lt' : length (elements 𝓕 t') ≡ length t
      lt' = length_elements 𝓕 t' ∙ 𝓒.second

      ll : length l ≡ length t
      ll = length-take-le (length (elements 𝓕 t)) (elements 𝓕 o) (omega (arith, 𝓒.size, lt, length_elements 𝓕 o)) ∙ lt

      lr : length r ≡ length t
      lr = length-drop (length (elements 𝓕 t)) (elements 𝓕 o) ∙ omega (arith, 𝓒.size, lt, length_elements 𝓕 o)

      length_new : (s : List ℕ) → length (elements 𝓕 s) ≡ length t → length (new s) ≡ length t
      length_new s e = length-map (l ⊕ elements 𝓕 s ⊙ r) (K.◌*◌ u) ∙ length_butterfly K _ l (elements 𝓕 s) r ll e lr

      pub cross_none : CrossedTo 0 o
      cross_none = record { loose = 𝓒.block; pairs = paired_none _ _ (elements 𝓕 o) (length (elements 𝓕 t)) }

      module _ (i : ℕ) (out : List ℕ) (p : CrossedTo i out) where
        pub cross_length : length out ≡ length o
        cross_length = sym (length_elements 𝓕 out) ∙ paired_length (length t) ll lr p.pairs ∙ omega (arith, 𝓒.size)

        -- what is asked of the words of a sum
        pub right_loose : i < length t → get_or out (length t + i) 0 < P + P
        right_loose h = p.loose.low (length t + i) (omega (arith, cross_length, 𝓒.size))

        pub sum_asks : i < length t → (get_or out i 0 < P + P) × (get_or t i 0 < P) × (get_or t' i 0 < P)
        sum_asks h = (p.loose.low i (omega (arith, cross_length, 𝓒.size)), 𝓒.low.low i h, 𝓒.low'.low i (omega (arith, 𝓒.second)))

        left_is : i < length t → el (get_or out i 0) ≡ get_or l i 𝟘
        left_is h = sym (get_or_elements 𝓕 out i) ∙ paired_left (length t) ll lr 𝟘 h p.pairs

        right_is : el (get_or out (length t + i) 0) ≡ get_or r i 𝟘
        right_is = sym (get_or_elements 𝓕 out (length t + i)) ∙ paired_right (length t) ll lr 𝟘 p.pairs

        sum_is : (v : List ℕ) → length (elements 𝓕 v) ≡ length t → {m : ℕ} (s a : ℕ) → i < length t → Ready m (get_or out (length t + i) 0) s
            → Sum k (get_or out i 0) (get_or v i 0) s a → el a ≡ get_or (new v) i 𝟘
        sum_is v lv s a h e q =
            undone_word_lem K (el k) u unit (same_word 𝓕 q.1)
            ∙ ap (λ x. u ⊠ x)
            (ap₂ ◌⊞◌ (left_is h) (ap₂ ◌⊠◌ (sym (get_or_elements 𝓕 v i)) (same_word 𝓕 e.1 ∙ right_is))
            ∙ sym (get_or_butterfly K (length t) l (elements 𝓕 v) r ll lv lr i h))
            ∙ sym (get_or_multiple K u (l ⊕ elements 𝓕 v ⊙ r) i)

        pub cross_turn : {m : ℕ} (s a b : ℕ) → i < length t → Ready m (get_or out (length t + i) 0) s
            → Sum k (get_or out i 0) (get_or t i 0) s a → Sum k (get_or out i 0) (get_or t' i 0) s b → CrossedTo (i + 1) (set (set out i a) (length t + i) b)
        cross_turn s a b h e x y =
            record {
              loose = low_set _ (length t + i) b y.0 (low_set out i a x.0 p.loose);
              pairs =
                  rw (elements_set 𝓕 (set out i a) (length t + i) b, elements_set 𝓕 out i a)
                  (paired_turn (length t) ll lr 𝟘 h (length_new t lt) (length_new t' lt') p.pairs (sum_is t lt s a h e x) (sum_is t' lt' s b h e y));
            }

        pub cross_end : length t ≤ i → Scaled 𝓕 (el k) (across F (elements 𝓕 t) (elements 𝓕 t') (elements 𝓕 o)) out
        unfolding across
        cross_end h =
            record {
              loose = p.loose;
              stands =
                  done K (el k) u unit
                  (paired_end (length t) ll lr h (length_new t lt) (length_new t' lt') p.pairs
                  ∙ sym (map-append (K.◌*◌ u) (l ⊕ elements 𝓕 t ⊙ r) (l ⊕ elements 𝓕 t' ⊙ r)));
            }
