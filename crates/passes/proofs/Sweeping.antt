-- The loop over the blocks of a level. Assumes nothing.
use mathlib.Core.Path.{◌≡◌, sym, ap, ap₂, ◌∙◌, subst}
use mathlib.Core.List.{List}
use Prim.Native.Nat.{ℕ, ◌+◌, ◌*◌, ◌-◌, ◌<◌, ◌≤◌}
use native.Mathlib.Nat.{suc-mul, zero-mul, mul-le-mul_right}
use native.Mathlib.Numerals.{add-one}
use native.Mathlib.Omega.{arith}
use lib.ListN.{length, take, drop, length-drop, length-map}
use lib.Seq.{ext_get_or, get_or-drop, length-take-le}
use borrow.Rule.Slice.PartMut.{put_mid}
use Rattle.algebra.specs.Filling.{Filled, filled_none, filled_length, filled_old, filled_end}
use Rattle.algebra.specs.Lists.{map_take, map_drop}
use Rattle.algebra.specs.Parts.{filled_part}
use Rattle.algebra.specs.UnitLaws.{done, undone}
use Rattle.algebra.specs.Vector.{vectors}
use Rattle.algebra.specs.Words.{PrimeField}
use Rattle.algebra.specs.WordLists.{Low, low_take, low_drop, low_put, elements, elements_put, length_elements, elements_take, elements_drop}
use Rattle.foldable.specs.Sweep.{across, length_across, sweep, length_each, each_at}
use Rattle.residue.specs.declared.Field.{Field as Choice}
use Rattle.residue.specs.Elements.{F, el}
use Rattle.residue.specs.Chosen.{chosen}
use Rattle.residue.specs.Scale.{scale}
use Rattle.passes.specs.Steps.{Scaled, SweepInput}

filled_rest : {A : Type 0} (d : A) {i : ℕ} {new old out : List A} → Filled i new old out → drop i out ≡ drop i old
filled_rest d {i} {new} {old} {out} p =
    ext_get_or d (drop i out) (drop i old) (length-drop i out ∙ ap (λ n. n - i) (filled_length p) ∙ sym (length-drop i old))
    (λ k h. get_or-drop i out k d ∙ filled_old p (i + k) d (omega arith) ∙ sym (get_or-drop i old k d))

module _ (𝓕 : PrimeField) where
  infixl 70 ◌⊠◌
  infixr 71 ◌⊛◌
  open 𝓕 use {modulus as P, field as F'}
  open F' use {ring as K}
  open K use {R as Element, 𝟘, 𝟙, ◌*◌ as ◌⊠◌}
  open vectors K use {◌⊛◌}

  module _ (s u : Element) (unit : s ⊠ u ≡ 𝟙) (count : ℕ) (t t' o : List ℕ) where
    -- twice the words of a diagonal
    abbrev k : ℕ
    k = length t + length t

    abbrev all : List Element
    all = sweep F' (elements 𝓕 t) (elements 𝓕 t') count (elements 𝓕 o)

    abbrev new : List Element
    new = u ⊛ all

    -- before block i, which begins at b
    pub record SweptTo (i b : ℕ) (out : List ℕ) : Type 0 where
      pub most : i ≤ count
      pub at : b ≡ i * k
      pub loose : Low (P + P) out
      pub filled : Filled b new (elements 𝓕 o) (elements 𝓕 out)

    module _ (𝓢 : SweepInput 𝓕 count t t' o) where
      pub swept_none : SweptTo 0 0 o
      swept_none = record { most = omega arith; at = sym (zero-mul k); loose = 𝓢.block; filled = filled_none _ _ }

      twice : length (elements 𝓕 t) + length (elements 𝓕 t) ≡ k
      twice = ap₂ ◌+◌ (length_elements 𝓕 t) (length_elements 𝓕 t)

      second : length (elements 𝓕 t') ≡ length (elements 𝓕 t)
      second = length_elements 𝓕 t' ∙ 𝓢.second ∙ sym (length_elements 𝓕 t)

      sized : length (elements 𝓕 o) ≡ count * (length (elements 𝓕 t) + length (elements 𝓕 t))
      sized = length_elements 𝓕 o ∙ 𝓢.size ∙ ap (λ n. count * n) (sym twice)

      length_new : length new ≡ length (elements 𝓕 o)
      length_new = length-map all (K.◌*◌ u) ∙ length_each (across F' (elements 𝓕 t) (elements 𝓕 t')) _ (λ u e. length_across F' (elements 𝓕 t) (elements 𝓕 t') u second e) count (elements 𝓕 o) sized

      module _ (i b : ℕ) (out : List ℕ) (x : SweptTo i b out) where
        pub swept_length : length out ≡ length o
        swept_length = sym (length_elements 𝓕 out) ∙ filled_length x.filled ∙ length_elements 𝓕 o

        pub swept_end : count ≤ i → Scaled 𝓕 s all out
        swept_end h =
            let same : i ≡ count = omega (arith, x.most) in
            let whole : b ≡ length (elements 𝓕 o) = x.at ∙ ap (λ n. n * k) same ∙ sym 𝓢.size ∙ sym (length_elements 𝓕 o) in
            record { loose = x.loose; stands = done K s u unit (filled_end (omega arith) length_new x.filled) }

        module _ (h : i < count) where
          pub swept_room : b + length t + length t ≤ length o
          swept_room = omega (arith, x.at, 𝓢.size, mul-le-mul_right k h, suc-mul i k)

          abbrev end : ℕ
          end = b + length t + length t

          wide : end - b ≡ k
          wide = omega arith

          abbrev part : List ℕ
          part = take (end - b) (drop b out)

          -- what a turn hands over
          pub swept_asks : SweepInput 𝓕 1 t t' part
          swept_asks =
              record {
                second = 𝓢.second;
                size = length-take-le (end - b) (drop b out) (omega (arith, length-drop b out, swept_length, swept_room)) ∙ omega arith;
                low = 𝓢.low;
                low' = 𝓢.low';
                block = low_take (end - b) (low_drop b x.loose);
              }

          part_is : elements 𝓕 part ≡ take (end - b) (drop b (elements 𝓕 o))
          part_is =
              elements_take 𝓕 (end - b) (drop b out)
              ∙ ap (take (end - b)) (elements_drop 𝓕 b out ∙ filled_rest 𝟘 x.filled)

          -- block i of the new ones
          block_is : across F' (elements 𝓕 t) (elements 𝓕 t') (elements 𝓕 part) ≡ take (end - b) (drop b all)
          block_is =
              let n = length (elements 𝓕 t) + length (elements 𝓕 t) in
              let w : end - b ≡ n = wide ∙ sym twice in
              let p : b ≡ i * n = x.at ∙ ap (λ m. i * m) (sym twice) in
              ap (across F' (elements 𝓕 t) (elements 𝓕 t')) (part_is ∙ ap₂ (λ m j. take m (drop j (elements 𝓕 o))) w p)
              ∙ sym (each_at (across F' (elements 𝓕 t) (elements 𝓕 t')) n (λ u e. length_across F' (elements 𝓕 t) (elements 𝓕 t') u second e) count i (elements 𝓕 o) sized h)
              ∙ sym (ap₂ (λ m j. take m (drop j all)) w p)

          pub swept_turn : (r : List ℕ) → Scaled 𝓕 s (across F' (elements 𝓕 t) (elements 𝓕 t') (elements 𝓕 part)) r → SweptTo (i + 1) end (put_mid b (end - b) out r)
          swept_turn r q =
              record {
                most = omega arith;
                at = omega (arith, x.at, ap (λ n. n * k) (add-one i) ∙ suc-mul i k);
                loose = low_put b (end - b) out r x.loose q.loose;
                filled =
                    rw (elements_put 𝓕 b (end - b) out r)
                    (filled_part end 𝟘 (elements 𝓕 r) x.filled (omega arith) (omega (arith, swept_room, length_elements 𝓕 o)) length_new (undone K s u unit (q.stands ∙ block_is) ∙ map_take (K.◌*◌ u) (end - b) (drop b all) ∙ ap (take (end - b)) (map_drop (K.◌*◌ u) b all)));
              }

-- what a sweep leaves
abbrev pub Swept : ℕ → List ℕ → List ℕ → List ℕ → Choice → List ℕ → Type 0
Swept count t t' o f r = Scaled (chosen f) (el (chosen f) (scale f)) (sweep (F (chosen f)) (elements (chosen f) t) (elements (chosen f) t') count (elements (chosen f) o)) r

-- a field that is known is that field
module _ (count : ℕ) (t t' o : List ℕ) {f : Choice} (g : Choice) (e : f ≡ g) where
  pub known_asks : SweepInput (chosen f) count t t' o → SweepInput (chosen g) count t t' o
  known_asks p = subst (λ x. SweepInput (chosen x) count t t' o) e p

  pub known_end : {r : List ℕ} → Swept count t t' o g r → Swept count t t' o f r
  known_end {r} p = subst (λ x. Swept count t t' o x r) (sym e) p
