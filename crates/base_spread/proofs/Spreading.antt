-- The base blocks of a message, one by one. Assumes nothing.
use mathlib.Core.Path.{◌≡◌, sym, ap, ap₂, ◌∙◌}
use mathlib.Core.List.{List, [], ◌++◌, flat_map}
use mathlib.Core.Logic.{⊎_elim}
use Prim.Native.Nat.{ℕ, zero, suc, ◌+◌, ◌*◌, ◌-◌, ◌/◌, ◌<◌, ◌≤◌}
use native.Mathlib.Nat.{mul_comm, mul-zero, mul-suc, one-mul, mul-le-mul_left}
use native.Mathlib.Omega.{arith}
use lib.ListN.{length, take, drop, length-take, length-drop, length-map}
use lib.Seq.{take_at, drop_at, drop-drop}
use Rattle.algebra.specs.Lists.{row, length_row, map_take, map_drop, length_flat_map}
use Rattle.algebra.specs.Vector.{vectors, multiple_one}
use Rattle.algebra.specs.Matrix.{times, length_times}
use Rattle.algebra.specs.Order.{lt_or_ge}
use Rattle.algebra.specs.Words.{PrimeField}
use Rattle.algebra.specs.WordLists.{low_take, low_drop, elements, to_words, length_elements, length_words_lem, elements_take, elements_drop}
use Rattle.foldable.specs.Lift.{spread}
use Rattle.parameters.specs.Lent.{diagonal}
use Rattle.blocks.specs.Base.{base_messages, base_blocks}
use Rattle.blocks.specs.Lifted.{spread_blocks}
use Rattle.cofactor.specs.Rows.{rows}
use Rattle.job.specs.SizeLaws.{size_least}
use Rattle.cofactor.specs.RowLaws.{rows_count, rows_wide}
use Rattle.base_block.specs.Blocks.{BlockLent, block_of}
use Rattle.base_spread.specs.LentRows.{lent_rows}
use Rattle.base_spread.specs.LentRowLaws.{lent_one}
use Rattle.base_spread.specs.Steps.{SpreadLent, blocks_of, block_by, blocks_by}

-- list j of several lists of n elements, one behind the other
chunk : {A B : Type 0} (f : A → List B) (n : ℕ) → ((x : A) → length (f x) ≡ n) → (q : ℕ) (h : ℕ → A) (j : ℕ) → j < q → take n (drop (n * j) (flat_map f (row q h))) ≡ f (h j)
unfolding row flat_map
chunk f n e zero h j l = absurd (omega arith)
chunk f n e (suc q) h zero l = ap (λ k. take n (drop k (f (h 0) ++ flat_map f (row q (λ i. h (suc i)))))) (mul-zero n) ∙ take_at (f (h 0)) _ n (e (h 0))
chunk f n e (suc q) h (suc j) l =
    let rest = flat_map f (row q (λ i. h (suc i))) in
    let m : n * suc j ≡ n + n * j = omega (arith, mul-suc n j) in
    ap (λ k. take n (drop k (f (h 0) ++ rest))) m
    ∙ ap (take n) (sym (drop-drop (n * j) n (f (h 0) ++ rest)) ∙ ap (drop (n * j)) (drop_at (f (h 0)) rest n (e (h 0))))
    ∙ chunk f n e q (λ i. h (suc i)) j (omega arith)

-- at the places i of the message and b of the blocks begins one of q turns, or all are done
pub record Reached (k n q i b : ℕ) : Type 0 where
  pub turn : ℕ
  pub most : turn ≤ q
  pub in_message : i ≡ k * turn
  pub in_blocks : b ≡ n * turn

pub reached_none : (k n q i b : ℕ) → i ≡ 0 → b ≡ 0 → Reached k n q i b
reached_none k n q i b e f = record { turn = 0; most = omega arith; in_message = e ∙ sym (mul-zero k); in_blocks = f ∙ sym (mul-zero n) }

module _ (𝓕 : PrimeField) (k n : ℕ) (g m old : List ℕ) (𝓢 : SpreadLent 𝓕 k n g m old) where
  infixr 71 ◌⊛◌
  open 𝓕 use {field as F, words as W}
  open F use {ring as K}
  open K use {R as Element, 𝟙}
  open W use {val as word}
  open vectors K use {◌⊛◌}

  abbrev q : ℕ
  q = length m / k

  abbrev G : List (List Element)
  G = rows 𝓕 k n g

  abbrev f : List Element → List Element
  f v = times K n v G

  pub some : 0 < k
  some = size_least 𝓢.lent.size

  long : k * n ≤ length g
  long = omega (arith, 𝓢.lent.long)

  f_length : (v : List Element) → length (f v) ≡ n
  f_length v = length_times K n v G (rows_wide 𝓕 k n g 𝓢.lent.few long)

  count : length G ≡ k
  count = rows_count 𝓕 k n g 𝓢.lent.few long

  pub length_blocks_by : (a : Element) → length (blocks_by 𝓕 a k n g m) ≡ n * q
  unfolding blocks_by base_blocks base_messages
  length_blocks_by a = length_words_lem 𝓕 _ ∙ length-map (flat_map f _) (K.◌*◌ a) ∙ length_flat_map f n f_length _ ∙ ap (λ c. c * n) (length_row q _) ∙ mul_comm q n

  -- the blocks as they are
  blocks_one : blocks_by 𝓕 𝟙 k n g m ≡ blocks_of 𝓕 k n g m
  unfolding blocks_by blocks_of
  blocks_one = ap (to_words 𝓕) (multiple_one K _)

  pub length_blocks : length (blocks_of 𝓕 k n g m) ≡ n * q
  length_blocks = ap length (sym blocks_one) ∙ length_blocks_by 𝟙

  module _ {i b : ℕ} (𝓡 : Reached k n q i b) where
    abbrev j : ℕ
    j = 𝓡.turn

    -- the end
    pub reached_end : length m ≤ i → n * q ≤ b
    reached_end h =
        ⊎_elim
        (λ l. absurd (omega (arith, mul-le-mul_left {m = suc j} {n = q} k l, mul-suc k j, 𝓡.in_message, 𝓢.whole, some)))
        (λ l. omega (arith, mul-le-mul_left {m = q} {n = j} n l, 𝓡.in_blocks))
        (lt_or_ge j q)

    module _ (h : i < length m) where
      less : j < q
      less = ⊎_elim (λ l. l) (λ l. absurd (omega (arith, mul-le-mul_left {m = q} {n = j} k l, 𝓡.in_message, 𝓢.whole))) (lt_or_ge j q)

      pub in_message : i + k ≤ length m
      in_message = omega (arith, mul-le-mul_left {m = suc j} {n = q} k less, mul-suc k j, 𝓡.in_message, 𝓢.whole)

      pub in_blocks : b + n ≤ n * q
      in_blocks = omega (arith, mul-le-mul_left {m = suc j} {n = q} n less, mul-suc n j, 𝓡.in_blocks)

      pub reached_next : Reached k n q (i + k) (b + n)
      reached_next =
          record {
            turn = suc j;
            most = less;
            in_message = omega (arith, mul-suc k j, 𝓡.in_message);
            in_blocks = omega (arith, mul-suc n j, 𝓡.in_blocks);
          }

      abbrev part : List ℕ
      part = take (i + k - i) (drop i m)

      part_is : part ≡ take k (drop i m)
      part_is = let e : i + k - i ≡ k = omega arith in ap (λ c. take c (drop i m)) e

      part_length : length part ≡ k
      part_length = ap length part_is ∙ length-take k (drop i m) ∙ omega (arith, length-drop i m, in_message)

      pub block_lent : (out : List ℕ) → length out ≡ n * q → BlockLent 𝓕 n g part (take (b + n - b) (drop b out))
      block_lent out e =
          record {
            lent = rw part_length 𝓢.lent;
            low = low_take (i + k - i) (low_drop i 𝓢.low);
            size = length-take (b + n - b) (drop b out) ∙ omega (arith, length-drop b out, in_blocks);
          }

      pub block_part_by : (a : Element) {r : List ℕ} → r ≡ block_by 𝓕 a n g part → r ≡ take (b + n - b) (drop b (blocks_by 𝓕 a k n g m))
      unfolding block_by blocks_by base_blocks base_messages to_words
      block_part_by a {r} s =
          let e : b + n - b ≡ n = omega arith in
          let message : elements 𝓕 part ≡ take (length G) (drop (length G * j) (elements 𝓕 m)) =
          ap (elements 𝓕) part_is ∙ elements_take 𝓕 k (drop i m) ∙ ap (take k) (elements_drop 𝓕 i m)
          ∙ ap₂ (λ c d. take c (drop d (elements 𝓕 m))) (sym count) (𝓡.in_message ∙ ap (λ c. c * j) (sym count)) in
          let all = flat_map f (row q (λ t. take (length G) (drop (length G * t) (elements 𝓕 m)))) in
          s
          ∙ ap₂ (λ v c. to_words 𝓕 (a ⊛ times K n v (rows 𝓕 c n g))) message part_length
          ∙ sym (ap (λ v. to_words 𝓕 (a ⊛ v)) (chunk f n f_length q _ j less))
          ∙ ap (to_words 𝓕) (map_take (K.◌*◌ a) n (drop (n * j) all) ∙ ap (take n) (map_drop (K.◌*◌ a) (n * j) all))
          ∙ map_take word n (drop (n * j) (a ⊛ all))
          ∙ ap (take n) (map_drop word (n * j) (a ⊛ all))
          ∙ ap₂ (λ c d. take c (drop d (to_words 𝓕 (a ⊛ all)))) (sym e) (sym 𝓡.in_blocks)

      pub block_part : {r : List ℕ} → r ≡ block_of 𝓕 n g part → r ≡ take (b + n - b) (drop b (blocks_of 𝓕 k n g m))
      unfolding block_of block_by
      block_part s = block_part_by 𝟙 (s ∙ ap (to_words 𝓕) (sym (multiple_one K _))) ∙ ap (λ w. take (b + n - b) (drop b w)) blocks_one

  -- one word a base message: each word times the row
  module _ (e : k ≡ 1) where
    row_is : length g ≡ n
    row_is = 𝓢.lent.long ∙ ap (λ c. c * n) e ∙ one-mul n

    words_are : length m ≡ q
    words_are = 𝓢.whole ∙ ap (λ c. c * q) e ∙ one-mul q

    pub one_blocks : to_words 𝓕 (spread F (elements 𝓕 g) (elements 𝓕 m)) ≡ blocks_of 𝓕 k n g m
    unfolding blocks_of
    one_blocks =
        let T : ℕ → List Element = λ i. elements 𝓕 (diagonal (length g) [] i) in
        ap (to_words 𝓕)
        (spread_blocks F (elements 𝓕 g) T T (elements 𝓕 m)
        ∙ ap₂ (λ C c. base_blocks F C c (elements 𝓕 m)) (sym (lent_one 𝓕 g [] [])) (length_elements 𝓕 m ∙ words_are)
        ∙ ap₂ (λ c r. base_blocks F (lent_rows 𝓕 c r g [] []) q (elements 𝓕 m)) (sym e) row_is)
