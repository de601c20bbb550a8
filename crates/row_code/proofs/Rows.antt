-- Base blocks in loose words, of a row that is multiplied by what the passes divide by. Assumes nothing.
use mathlib.Core.Path.{◌≡◌, sym, ap, ap₂, ◌∙◌, subst}
use mathlib.Core.List.{List, [], ◌∷◌, ◌++◌, append_assoc}
use Prim.Native.Nat.{ℕ, zero, suc, ◌+◌, ◌*◌, ◌-◌, ◌^◌, ◌<◌, ◌≤◌}
use native.Mathlib.Nat.{mul_comm}
use native.Mathlib.Numerals.{add-one}
use native.Mathlib.Omega.{arith}
use lib.ListN.{length, take, drop, get_or, set, length-append, length-drop, length-map}
use lib.Seq.{take_at, take_all, length-take-le}
use borrow.Rule.Slice.PartMut.{put_mid}
use Rattle.algebra.specs.Filling.{Filled, filled_none, filled_length, filled_turn, filled_end}
use Rattle.algebra.specs.Lists.{map_take, map_drop}
use Rattle.algebra.specs.Parts.{filled_part}
use Rattle.algebra.specs.Sums.{prod}
use Rattle.algebra.specs.UnitLaws.{done, undone, undone_word_lem, cancel, cancel_power, power_next}
use Rattle.algebra.specs.Vector.{vectors, get_or_multiple}
use Rattle.algebra.specs.Words.{PrimeField}
use Rattle.algebra.specs.WordLaws.{same_word}
use Rattle.algebra.specs.WordLists.{Low, low_none, low_tail, low_cons, low_append, low_words, elements, elements_set, elements_put, to_words, elements_words, length_elements, length_words_lem, get_or_elements}
use Rattle.foldable.specs.Lift.{lift, spread, length_spread}
use Rattle.foldable.specs.Sweep.{spread_multiple, lift_multiple}
use Rattle.parameters.specs.Lent.{lent}
use Rattle.residue.specs.declared.Field.{Field as Choice}
use Rattle.residue.specs.Elements.{F, K, el, word, product}
use Rattle.residue.specs.Chosen.{chosen}
use Rattle.residue.specs.ResidueLaws.{stands}
use Rattle.residue.specs.Scale.{scale, scale_power}
use Rattle.residue.specs.ScaleLaws.{next_power}
use Rattle.code.specs.Encoding.{EncodeInput}
use Rattle.passes.specs.Steps.{Scaled, LooseInput}
use Rattle.code.specs.Steps.{times, SpreadInput}
use Rattle.code.specs.SpreadLaws.{chunk}

-- the first words, after a write
low_front : {m : ℕ} (ws : List ℕ) (i a : ℕ) → a < m → Low m (take i ws) → Low m (take (suc i) (set ws i a))
low_front {m} [] i a h l = low_none m
low_front {m} (w ∷ ws) zero a h l = low_cons h (low_none m)
low_front (w ∷ ws) (suc i) a h l = low_cons (l.low 0 (omega arith)) (low_front ws i a h (low_tail l))

low_part : {m : ℕ} (b e : ℕ) (ws r : List ℕ) → b ≤ e → b ≤ length ws → length r ≡ e - b → Low m (take b ws) → Low m r → Low m (take e (put_mid b (e - b) ws r))
low_part {m} b e ws r h k n l q =
    let front = take b ws in
    let rest = drop (e - b) (drop b ws) in
    let sized : length (front ++ r) ≡ e = length-append front r ∙ omega (arith, length-take-le b ws k) in
    let is : take e (put_mid b (e - b) ws r) ≡ front ++ r = ap (take e) (sym (append_assoc front r rest)) ∙ take_at (front ++ r) rest e sized in
    subst (Low m) (sym is) (low_append {v = front} l q)

module _ (𝓕 : PrimeField) where
  infixl 70 ◌⊠◌
  infixr 71 ◌⊛◌
  open 𝓕 use {modulus as Q, field as F', words as W}
  open F' use {ring as K'}
  open K' use {R as Element, 𝟘, 𝟙, ◌*◌ as ◌⊠◌}
  open W use {el as elt}
  open vectors K' use {◌⊛◌}

  module _ (s u : Element) (unit : s ⊠ u ≡ 𝟙) where
    -- loops that write loose words for v: before place b
    pub record ScaledTo (v : List Element) (o : List ℕ) (b : ℕ) (out : List ℕ) : Type 0 where
      pub loose : Low (Q + Q) (take b out)
      pub filled : Filled b (u ⊛ v) (elements 𝓕 o) (elements 𝓕 out)

    module _ (v : List Element) (o : List ℕ) where
      pub scaled_none : ScaledTo v o 0 o
      scaled_none = record { loose = low_none (Q + Q); filled = filled_none _ _ }

      module _ (lv : length v ≡ length o) where
        length_new : length (u ⊛ v) ≡ length (elements 𝓕 o)
        length_new = length-map v (K'.◌*◌ u) ∙ lv ∙ sym (length_elements 𝓕 o)

        module _ {b : ℕ} {out : List ℕ} (p : ScaledTo v o b out) where
          pub scaled_length : length out ≡ length o
          scaled_length = sym (length_elements 𝓕 out) ∙ filled_length p.filled ∙ length_elements 𝓕 o

          pub scaled_end : length o ≤ b → Scaled 𝓕 s v out
          scaled_end h =
              record {
                loose = subst (Low (Q + Q)) (take_all b out (omega (arith, scaled_length))) p.loose;
                stands = done K' s u unit (filled_end (omega (arith, length_elements 𝓕 o)) length_new p.filled);
              }

          pub scaled_word : {w : ℕ} → b < length o → w < Q + Q → elt w ⊠ s ≡ get_or v b 𝟘 → ScaledTo v o (b + 1) (set out b w)
          scaled_word {w} h l e =
              record {
                loose = subst (λ n. Low (Q + Q) (take n (set out b w))) (sym (add-one b)) (low_front out b w l p.loose);
                filled =
                    rw (elements_set 𝓕 out b w)
                    (filled_turn 𝟘 (omega (arith, length_elements 𝓕 o)) length_new p.filled (undone_word_lem K' s u unit e ∙ sym (get_or_multiple K' u v b)));
              }

          pub scaled_part : (e : ℕ) (r : List ℕ) → b ≤ e → e ≤ length o → length r ≡ e - b → Scaled 𝓕 s (take (e - b) (drop b v)) r → ScaledTo v o e (put_mid b (e - b) out r)
          scaled_part e r h k n q =
              record {
                loose = low_part b e out r h (omega (arith, scaled_length)) n p.loose q.loose;
                filled =
                    rw (elements_put 𝓕 b (e - b) out r)
                    (filled_part e 𝟘 (elements 𝓕 r) p.filled h (omega (arith, length_elements 𝓕 o)) length_new (undone K' s u unit q.stands ∙ map_take (K'.◌*◌ u) (e - b) (drop b v) ∙ ap (take (e - b)) (map_drop (K'.◌*◌ u) b v)));
              }

    -- the row times the power, spread, lifted and divided by it
    pub row_lifted : (d : ℕ) (g t t' m row o w : List ℕ) → row ≡ to_words 𝓕 (prod K' (d + 1) (λ i. s) ⊛ elements 𝓕 g)
        → Scaled 𝓕 s (spread F' (elements 𝓕 row) (elements 𝓕 m)) o
        → Scaled 𝓕 (prod K' d (λ i. s)) (lift F' (lent 𝓕 g t t') d (elements 𝓕 o)) w
        → elements 𝓕 w ≡ lift F' (lent 𝓕 g t t') d (spread F' (elements 𝓕 g) (elements 𝓕 m))
    row_lifted d g t t' m row o w e p q =
        let a = prod K' d (λ i. s) in
        let v = spread F' (elements 𝓕 g) (elements 𝓕 m) in
        let base : elements 𝓕 o ≡ a ⊛ v =
        cancel K' s u unit
        (p.stands ∙ ap (λ r. spread F' r (elements 𝓕 m)) (ap (elements 𝓕) e ∙ elements_words 𝓕 _)
        ∙ spread_multiple F' (prod K' (d + 1) (λ i. s)) (elements 𝓕 g) (elements 𝓕 m) ∙ power_next K' s d v) in
        cancel_power K' s u unit d (q.stands ∙ ap (lift F' (lent 𝓕 g t t') d) base ∙ lift_multiple F' (lent 𝓕 g t t') d a v)

  -- what the steps are lent
  module _ (d : ℕ) (g t t' m out : List ℕ) (𝓔 : EncodeInput 𝓕 d g t t' m (length out)) where
    pub row_spreading : (a : Element) (row : List ℕ) → row ≡ to_words 𝓕 (a ⊛ elements 𝓕 g) → SpreadInput 𝓕 m row out
    row_spreading a row e =
        let n : length row ≡ length g = ap length e ∙ length_words_lem 𝓕 _ ∙ length-map (elements 𝓕 g) (K'.◌*◌ a) ∙ length_elements 𝓕 g in
        record { message = 𝓔.words; row = rw e (low_words 𝓕 _); size = 𝓔.size ∙ mul_comm (length g) (2 ^ d) ∙ ap₂ ◌*◌ (sym 𝓔.message) (sym n) }

    pub row_lifting : (o : List ℕ) → length o ≡ length out → Low (Q + Q) o → LooseInput 𝓕 d g t t' o
    row_lifting o n l = record { coding = 𝓔.coding; size = n ∙ 𝓔.size; block = l }

-- a word of a base block
module _ (f : Choice) (a : ℕ) (row : List ℕ) where
  abbrev pub multiple : List (K (chosen f)).R
  multiple = times (chosen f) (el (chosen f) a) (elements (chosen f) row)

  pub length_multiple : length multiple ≡ length row
  length_multiple = length-map (elements (chosen f) row) _ ∙ length_elements (chosen f) row

  pub multiple_at : (i w : ℕ) → product (chosen f) w (scale f) ≡ product (chosen f) (get_or row i 0) a
      → (K (chosen f)).◌*◌ (el (chosen f) w) (el (chosen f) (scale f)) ≡ get_or multiple i (K (chosen f)).𝟘
  multiple_at i w e =
      let 𝓕 = chosen f in
      same_word 𝓕 e ∙ (K 𝓕).mul_comm (el 𝓕 (get_or row i 0)) (el 𝓕 a)
      ∙ sym (get_or_multiple (K 𝓕) (el 𝓕 a) (elements 𝓕 row) i ∙ ap ((K 𝓕).◌*◌ (el 𝓕 a)) (get_or_elements 𝓕 row i))

-- the base blocks
module _ (𝓕 : PrimeField) (m row : List ℕ) where
  abbrev pub blocks : List (K 𝓕).R
  blocks = spread (F 𝓕) (elements 𝓕 row) (elements 𝓕 m)

  pub length_blocks : length blocks ≡ length m * length row
  length_blocks = length_spread (F 𝓕) (elements 𝓕 row) (elements 𝓕 m) ∙ ap₂ ◌*◌ (length_elements 𝓕 m) (length_elements 𝓕 row)

  pub block_at : (i b e : ℕ) → i < length m → b ≡ i * length row → e ≡ b + length row → times 𝓕 (el 𝓕 (get_or m i 0)) (elements 𝓕 row) ≡ take (e - b) (drop b blocks)
  block_at i b e h p q =
      let n : e - b ≡ length row = omega arith in
      sym
      (ap₂ (λ k j. take k (drop j blocks)) (n ∙ sym (length_elements 𝓕 row)) (p ∙ ap (λ k. i * k) (sym (length_elements 𝓕 row)))
      ∙ chunk 𝓕 (elements 𝓕 row) (elements 𝓕 m) i (omega (arith, length_elements 𝓕 m)) ∙ ap (λ x. times 𝓕 x (elements 𝓕 row)) (get_or_elements 𝓕 m i))

-- the factor
pub factor_is : (f : Choice) (d : ℕ) {a b r : ℕ} → a ≡ word (chosen f) (scale_power f d) → b ≡ word (chosen f) (scale_power f 1) → r ≡ product (chosen f) a b
    → r ≡ word (chosen f) (scale_power f (d + 1))
factor_is f d p q s =
    let 𝓕 = chosen f in
    s ∙ ap (word 𝓕) (ap₂ (K 𝓕).◌*◌ (stands 𝓕 _ p) (stands 𝓕 _ q) ∙ next_power f d ∙ ap (scale_power f) (sym (add-one d)))

-- the row times the factor
pub scaled_is : (f : Choice) (d : ℕ) (g : List ℕ) {a : ℕ} → a ≡ word (chosen f) (scale_power f (d + 1))
    → to_words (chosen f) (times (chosen f) (el (chosen f) a) (elements (chosen f) g)) ≡ to_words (chosen f) (times (chosen f) (scale_power f (d + 1)) (elements (chosen f) g))
scaled_is f d g e = ap (λ x. to_words (chosen f) (times (chosen f) x (elements (chosen f) g))) (stands (chosen f) _ e)

-- in front of an array
pub row_length : (n : ℕ) (r z : List ℕ) → length r ≡ n → n ≤ 16 → length z ≡ 16 → length (r ++ drop n z) ≡ 16
row_length n r z e h l = length-append r (drop n z) ∙ omega (arith, length-drop n z)

-- a field that is known is that field
abbrev pub Spread : List ℕ → List ℕ → Choice → List ℕ → Type 0
Spread m row f r = Scaled (chosen f) (el (chosen f) (scale f)) (blocks (chosen f) m row) r

module _ (m row o : List ℕ) {f : Choice} (k : Choice) (e : f ≡ k) where
  pub known_asks : SpreadInput (chosen f) m row o → SpreadInput (chosen k) m row o
  known_asks p = subst (λ x. SpreadInput (chosen x) m row o) e p

  pub known_end : {r : List ℕ} → Spread m row k r → Spread m row f r
  known_end {r} p = subst (λ x. Spread m row x r) (sym e) p
